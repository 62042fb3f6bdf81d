-- What a performed request leaves where the keeper tells its tables.
use Rattle.std.proofs.Common.{◌≡◌, ℕ, Option, Some, None, refl, sym, ap, ◌∙◌, subst}
use Rattle.std.specs.Option.{option_map}
use Rattle.desk_tables.specs.declared.rows.Rows.{Rows}
use Rattle.review_rules.specs.State.{State}
use Rattle.review_rules.specs.Changes.{made, change_for, CanBeMade}
use Rattle.review_rules.specs.Rules.{Accepted, accepted, decision, reply_of, step}
use Rattle.review_rules.specs.Judging.{IsRequest, NamesProperty}
use Rattle.review_rules.specs.declared.changes.Change.{Change}
use Rattle.review_rules.specs.declared.requests.Request.{Request}
use Rattle.review_rules.specs.declared.requests.JudgeAnswer.{JudgeAnswer}
use Rattle.review_rules.specs.declared.requests.Decision.TheVariants.{Accepted as DecisionAccepted}
use Rattle.desk_tables.specs.Valid.{IsValid}
use Rattle.review_rules.proofs.ChangeLemmas.{makes_step, decision_accepts}
use Rattle.desk_keeper.specs.Keeping.{Agrees, BadWhereTold}
use Rattle.stored_rows.specs.Stored.{first_bad_row}

-- where the tables are told, they are made as the desk's
pub told_made : (told : Option Rows) (change : Change) (t u : Rows) → Agrees told t → u ≡ made change t → option_map (made change) told ≡ option_map (λ (w : Rows). u) told
told_made None change t u agrees is = refl
told_made (Some w) change t u agrees is = ap Some (ap (made change) agrees ∙ sym is)

pub told_agrees : (told now : Option Rows) (u : Rows) → now ≡ option_map (λ (w : Rows). u) told → Agrees now u
told_agrees None None u is = tt
told_agrees None (Some w) u is = absurd (cc)
told_agrees (Some v) None u is = absurd (cc)
told_agrees (Some v) (Some w) u is = cc

-- the change that is prepared can be made in the desk
pub can_take : (old now : State) (r : Request) (a : JudgeAnswer) (change : Change) → IsValid old.tables → IsRequest r → NamesProperty a → decision old r a ≡ DecisionAccepted → now ≡ old → change ≡ change_for old r a → CanBeMade change now.tables
can_take old now r a change v request names is same prepared = subst (λ (s : State). CanBeMade change s.tables) (sym same) (subst (λ (ch : Change). CanBeMade ch old.tables) (sym prepared) (makes_step old r a v request names is).can)

-- and makes the machine's tables
pub takes : (old now : State) (r : Request) (a : JudgeAnswer) (change : Change) (after : Rows) → IsValid old.tables → IsRequest r → NamesProperty a → decision old r a ≡ DecisionAccepted → now ≡ old → change ≡ change_for old r a → after ≡ made change now.tables → step old r a ≡ Accepted after (reply_of old.tables a r.command)
takes old now r a change after v request names is same prepared made' =
    let tables : after ≡ accepted old r a = made' ∙ ap (λ (s : State). made change s.tables) same ∙ ap (λ (ch : Change). made ch old.tables) prepared ∙ (makes_step old r a v request names is).made in
    decision_accepts old r a is ∙ ap (λ (t : Rows). Accepted t (reply_of old.tables a r.command)) (sym tables)

-- a bad row of the tables that were loaded is one of those that are told
pub bad_told : (told : Option Rows) (rows : Rows) (table row : ℕ) → Agrees told rows → first_bad_row rows ≡ Some (table, row) → BadWhereTold told table row
bad_told None rows table row agrees bad = tt
bad_told (Some told) rows table row agrees bad = ap first_bad_row agrees ∙ bad

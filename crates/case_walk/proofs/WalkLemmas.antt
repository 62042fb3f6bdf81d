-- The walk over the sets of one prefix.
use Rattle.std.proofs.Common.{ℕ, ◌≡◌, ◌<◌, ◌≤◌, ◌+◌, Option, Some, None, List as Seq, [], length, take, arith, refl, ap, sym, subst, ◌∙◌, length-take}
use Rattle.std.proofs.lemmas.Option.{slice_get_within}
use Rattle.std.proofs.lemmas.List.Sums.{count_by-le-length}
use Rattle.std.specs.List.{slice_get, count_by}
use Rattle.net_types.specs.NetValue.{NetValue}
use Rattle.net_types.specs.PrefixValue.{PrefixValue}
use Rattle.failure_sets.specs.SetOrder.{IsPermitted}
use Rattle.failure_sets.specs.SetList.{failure_sets, place_of, next_of}
use Rattle.failure_sets.proofs.LawLemmas.{places_are_positions, holds_the_permitted, next_is_behind}
use Rattle.property_book.specs.declared.property.Property.{Property}
use Rattle.property_book.specs.declared.verdict.Verdict.{Verdict}
use Rattle.case_walk.specs.declared.walk.Sweep.{Sweep}
use Rattle.case_walk.specs.Analysis.{Analysis, AreReusable}
use Rattle.case_walk.specs.Representatives.{is_own, solved_count}
use Rattle.case_walk.specs.Marks.{AllTurn}
use Rattle.case_walk.specs.Words.{IsStep}
use Rattle.case_walk.specs.Turns.{IsTurn, IsJudged, IsWalk}
use Rattle.case_walk.proofs.CountLemmas.{count_more, take_all, past}
use Rattle.case_walk.proofs.ReuseLemmas.{more_permitted}
use Rattle.case_walk.proofs.TurnLemmas.{turns_start, turns_more, turns_done}

-- what is known of the set that is to come
pub record IsComing (links most : ℕ) (sweep : Sweep) (set : Seq ℕ) : Type 0 where
  pub few : IsPermitted links most set
  pub permitted : IsPermitted links 3 set
  pub place : place_of links set ≡ length sweep.words
  pub within : length sweep.words < length (failure_sets links most)
  pub room : sweep.solved + 1 ≤ length (failure_sets links most)

pub is_coming : (net : NetValue) (analysis : Analysis) (links : ℕ) (prefix : PrefixValue) (most : ℕ) (book : Seq Property) (first now : Seq Verdict) (sweep : Sweep) (at : Option (Seq ℕ)) (set : Seq ℕ) → most ≤ 3 →
    IsWalk net analysis links prefix most book first sweep now at → at ≡ Some set → IsComing links most sweep set
is_coming net analysis links prefix most book first now sweep at set few walk is =
    let stands : slice_get (failure_sets links most) (length sweep.words) ≡ Some set = sym walk.next ∙ is in
    let p = (holds_the_permitted links most set).1 (length sweep.words, stands) in
    let w = slice_get_within (failure_sets links most) (length sweep.words) set stands in
    let s = walk.solved in
    let c = count_by-le-length (is_own (analysis.idle prefix)) (take (length sweep.words) (failure_sets links most)) in
    let l = length-take (length sweep.words) (failure_sets links most) in
    record {
      few = p;
      permitted = more_permitted links most set few p;
      place = (places_are_positions links most (length sweep.words) set few p).0 stands;
      within = w;
      room = omega arith;
    }

-- the walk before the first set
pub walk_starts : (net : NetValue) (analysis : Analysis) (links : ℕ) (prefix : PrefixValue) (most : ℕ) (book : Seq Property) (verdicts : Seq Verdict) (at : Option (Seq ℕ)) → length book ≡ length verdicts →
    slice_get (failure_sets links most) 0 ≡ at → IsWalk net analysis links prefix most book verdicts (record { words = []; solved = 0 }) verdicts at
walk_starts net analysis links prefix most book verdicts at long is = record {
  words = record { word = λ set word p e. absurd (let f : None ≡ Some word = e in cc) };
  solved = refl;
  turns = turns_start net analysis links prefix most book verdicts long;
  next = sym is;
}

-- the walk with one set more
pub walk_on : (net : NetValue) (analysis : Analysis) (links : ℕ) (prefix : PrefixValue) (most : ℕ) (book : Seq Property) (first olds news : Seq Verdict) (old new : Sweep) (at next : Option (Seq ℕ)) (set : Seq ℕ) → AreReusable links analysis → most ≤ 3 →
    IsWalk net analysis links prefix most book first old olds at → at ≡ Some set → IsStep net analysis links prefix book set old new olds news → next ≡ next_of links most set → IsWalk net analysis links prefix most book first new news next
walk_on net analysis links prefix most book first olds news old new at next set law few walk is made behind =
    let sets = failure_sets links most in
    let n = length old.words in
    let stands : slice_get (failure_sets links most) (length old.words) ≡ Some set = sym walk.next ∙ is in
    record {
      words = made.words;
      solved = made.solved ∙ (let e = walk.solved in let f = count_more (is_own (analysis.idle prefix)) sets n set stands in let g = ap (λ (k : ℕ). count_by (is_own (analysis.idle prefix)) (take k sets)) made.long in omega arith);
      turns = (let t = turns_more net analysis links prefix most n set book first olds news law few stands walk.turns made.verdicts in
          subst (λ (k : ℕ). AllTurn (IsTurn net analysis links prefix most k) book first news) (sym made.long) t);
      next = behind ∙ next_is_behind links most (length old.words) set few stands ∙ ap (slice_get (failure_sets links most)) (sym made.long);
    }

-- the walk behind the last set
pub record IsDone (net : NetValue) (analysis : Analysis) (links : ℕ) (prefix : PrefixValue) (most : ℕ) (book : Seq Property) (first now : Seq Verdict) (sweep : Sweep) : Type 0 where
  pub judged : AllTurn (IsJudged net analysis prefix most) book first now
  pub solved : sweep.solved ≡ solved_count (analysis.idle prefix) links most

pub walk_done : (net : NetValue) (analysis : Analysis) (links : ℕ) (prefix : PrefixValue) (most : ℕ) (book : Seq Property) (first now : Seq Verdict) (sweep : Sweep) (at : Option (Seq ℕ)) → links ≡ length net.links →
    IsWalk net analysis links prefix most book first sweep now at → at ≡ None → IsDone net analysis links prefix most book first now sweep
unfolding solved_count
walk_done net analysis links prefix most book first now sweep at same walk none =
    let sets = failure_sets links most in
    let all : length (failure_sets links most) ≤ length sweep.words = past (failure_sets links most) (length sweep.words) (sym walk.next ∙ none) in
    record {
      judged = turns_done net analysis links prefix most (length sweep.words) book first now same all walk.turns;
      solved = walk.solved ∙ ap (count_by (is_own (analysis.idle prefix))) (take_all (failure_sets links most) (length sweep.words) all);
    }

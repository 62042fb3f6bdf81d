use Rattle.std.proofs.Common.{◌≡◌, ap, sym, subst, ◌∙◌, rules}
use Rattle.desk_tables.specs.declared.rows.Rows.{Rows}
use Rattle.desk_tables.specs.Tables.{bytes_of}
use Rattle.desk_tables.proofs.PlaceLemmas.{append_nil}
use Rattle.review_rules.specs.State.{Held}
use Rattle.review_rules.specs.Changes.{made, CanBeMade}
use Rattle.review_rules.specs.declared.changes.Change.{Change}
use Rattle.review_rules.specs.declared.changes.ChangeKind.TheVariants.{Withdraw as WithdrawKind}
use Rattle.review_rules.proofs.TakeLemmas.{take_withdrawal_is, desk_taken, open_up_to}
use Rattle.review_rules.proofs.desk.Desk.take_withdrawal.Goals as goal

pub withdraw_review-requires-clause-there : goal.withdraw_review-requires-clause-there
withdraw_review-requires-clause-there c =
    let d = c.self.inside in
    let t : Rows = record { policies = d.policies.items; reviews = d.reviews.items; files = d.files.items; approvals = d.approvals.items; certificates = d.certificates.items; kept = d.kept.items } in
    let same : t ≡ c.args.self.now.state.tables = ap (λ (h : Held). h.state.tables) c.self.view_is in
    let change : Change = record { kind = WithdrawKind c.args.review; kept = c.args.kept } in
    let can : CanBeMade change t = subst (CanBeMade change) (sym same) c.requires.can in
    open_up_to t c.args.review c.self.invariant.0.valid can.rows

pub invariant_of-self : goal.invariant_of-self
invariant_of-self c =
    let d = c.self.inside in
    let t : Rows = record { policies = d.policies.items; reviews = d.reviews.items; files = d.files.items; approvals = d.approvals.items; certificates = d.certificates.items; kept = d.kept.items } in
    let same : t ≡ c.args.self.now.state.tables = ap (λ (h : Held). h.state.tables) c.self.view_is in
    let change : Change = record { kind = WithdrawKind c.args.review; kept = c.args.kept } in
    let can : CanBeMade change t = subst (CanBeMade change) (sym same) c.requires.can in
    let is = take_withdrawal_is t c.args.review c.args.kept c.withdraw_review.new.rows.items c.put.new.self.items c.self.invariant.0.valid can c.withdraw_review.ensures c.put.ensures in
    let sum : c.args.bytes ≡ bytes_of (made change t) = c.requires.sum ∙ ap (λ (u : Rows). bytes_of (made change u)) (sym same) in
    (desk_taken t change d.heads.items d.heads.items d.bytes c.args.bytes _ c.self.invariant.0 can sum is (sym (append_nil d.heads.items)), search rules, search rules, search rules, search rules, search rules, search rules, search rules)

use Rattle.std.proofs.Common.{◌≡◌, ap, sym, subst, ◌∙◌, rules}
use Rattle.desk_tables.specs.declared.rows.Rows.{Rows}
use Rattle.desk_tables.specs.Tables.{bytes_of}
use Rattle.desk_tables.proofs.PlaceLemmas.{append_nil}
use Rattle.review_rules.specs.State.{Held}
use Rattle.review_rules.specs.Changes.{made, CanBeMade}
use Rattle.review_rules.specs.declared.changes.Change.{Change}
use Rattle.review_rules.specs.declared.changes.ChangeKind.TheVariants.{Review}
use Rattle.review_rules.proofs.TakeLemmas.{take_review_is, desk_taken}
use Rattle.review_rules.proofs.desk.Desk.take_review.Goals as goal

pub invariant_of-self : goal.invariant_of-self
invariant_of-self c =
    let d = c.self.inside in
    let t : Rows = record { policies = d.policies.items; reviews = d.reviews.items; files = d.files.items; approvals = d.approvals.items; certificates = d.certificates.items; kept = d.kept.items } in
    let same : t ≡ c.args.self.now.state.tables = ap (λ (h : Held). h.state.tables) c.self.view_is in
    let change : Change = record { kind = Review c.args.row c.args.files; kept = c.args.kept } in
    let can : CanBeMade change t = subst (CanBeMade change) (sym same) c.requires.can in
    let is = take_review_is t c.args.row c.args.files c.args.kept c.add_review.new.rows.items c.add_files.new.rows.items c.put.new.self.items c.self.invariant.0.valid can c.add_review.ensures c.add_files.ensures c.put.ensures in
    let sum : c.args.bytes ≡ bytes_of (made change t) = c.requires.sum ∙ ap (λ (u : Rows). bytes_of (made change u)) (sym same) in
    (desk_taken t change d.heads.items d.heads.items d.bytes c.args.bytes _ c.self.invariant.0 can sum is (sym (append_nil d.heads.items)), search rules, search rules, search rules, search rules, search rules, search rules, search rules)

pub returns-clause-tables : goal.returns-clause-tables
returns-clause-tables c =
    let d = c.self.inside in
    let t : Rows = record { policies = d.policies.items; reviews = d.reviews.items; files = d.files.items; approvals = d.approvals.items; certificates = d.certificates.items; kept = d.kept.items } in
    let same : t ≡ c.args.self.now.state.tables = ap (λ (h : Held). h.state.tables) c.self.view_is in
    let change : Change = record { kind = Review c.args.row c.args.files; kept = c.args.kept } in
    let can : CanBeMade change t = subst (CanBeMade change) (sym same) c.requires.can in
    let is = take_review_is t c.args.row c.args.files c.args.kept c.add_review.new.rows.items c.add_files.new.rows.items c.put.new.self.items c.self.invariant.0.valid can c.add_review.ensures c.add_files.ensures c.put.ensures in
    is ∙ ap (made change) same

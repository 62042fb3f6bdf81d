use Rattle.std.proofs.Common.{◌≡◌, length, refl, subst, rules}
use Rattle.desk_tables.specs.declared.rows.Rows.{Rows}
use Rattle.desk_tables.specs.Tables.{head_of}
use Rattle.stored_rows.specs.Index.{Indexes}
use Rattle.review_rules.proofs.HeadsLemmas.{desk_restored}
use Rattle.review_rules.proofs.restoring.valid_desk.Goals as goal

pub invariant_of-result : goal.invariant_of-result
invariant_of-result c =
    let u : Rows = record { policies = c.into_vec-2.result.items; reviews = c.into_vec-3.result.items; files = c.into_vec-4.result.items; approvals = c.into_vec-5.result.items; certificates = c.into_vec-6.result.items; kept = c.in_ok-kept.kept.items } in
    let same : u ≡ c.args.rows = rw (c.into_vec-2.ensures, c.into_vec-3.ensures, c.into_vec-4.ensures, c.into_vec-5.ensures, c.into_vec-6.ensures, c.in_ok-kept.ensures) refl in
    let numbers = c.in_ok-heads.heads.items in
    let long : length numbers ≡ head_of c.args.rows = search rules in
    let index : Indexes numbers c.args.rows.reviews = subst (Indexes numbers) c.as_slice.ensures c.in_ok-heads.ensures.index in
    (desk_restored c.args.rows u numbers c.bytes_of-bytes.result c.requires long index c.bytes_of-bytes.ensures same, search rules, search rules, search rules, search rules, search rules, search rules, search rules)

use Rattle.desk_tables.proofs.TableLemmas.{find_split, any_find, numbered_total, numbered_tie}
use Rattle.std.proofs.Common.{◌∙◌, sym, ap, ◌==◌, ◌&&◌, is_some}
use Rattle.std.specs.Str.{bytes_eq}
use Rattle.desk_tables.specs.declared.rows.ApprovalRow.{ApprovalRow}
use Rattle.desk_tables.specs.Order.{numbered_cmp, passing}
use Rattle.desk_tables.specs.Tables.{approval_key}
use Rattle.desk_tables.proofs.lookups.is_approved_by.Goals as goal

pub returns : goal.returns
returns c =
    let same = λ (a : ApprovalRow). a.review == c.args.review && bytes_eq a.user c.args.user.now in
    c.is_approval.ensures ∙ ap (λ o. is_some (passing same o)) c.item.ensures ∙ ap is_some (sym (find_split numbered_cmp approval_key (c.args.review, c.args.user.now) same numbered_total (λ a. numbered_tie (approval_key a) (c.args.review, c.args.user.now)) c.args.rows.now c.approval_place.result c.requires c.approval_place.ensures.within c.approval_place.ensures.parts)) ∙ sym (any_find same c.args.rows.now)

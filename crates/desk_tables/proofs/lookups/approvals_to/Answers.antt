use Rattle.desk_tables.proofs.TableLemmas.{between}
use Rattle.std.proofs.Common.{arith}
use Rattle.desk_tables.specs.declared.rows.ApprovalRow.{ApprovalRow}
use Rattle.desk_tables.proofs.lookups.approvals_to.Goals as goal

pub returns : goal.returns
returns c = (between (λ (a : ApprovalRow). a.review) c.args.review c.args.rows.now _ _ c.first_approval-first.ensures.parts c.past_approval-past.ensures.parts c.first_approval-first.ensures.within c.past_approval-past.ensures.within).1

pub slice_bounds-result-start : goal.slice_bounds-result-start
slice_bounds-result-start c = (between (λ (a : ApprovalRow). a.review) c.args.review c.args.rows.now _ _ c.first_approval-first.ensures.parts c.past_approval-past.ensures.parts c.first_approval-first.ensures.within c.past_approval-past.ensures.within).0

pub slice_bounds-result-count : goal.slice_bounds-result-count
slice_bounds-result-count c = omega (arith, c.past_approval-past.ensures.within, (between (λ (a : ApprovalRow). a.review) c.args.review c.args.rows.now _ _ c.first_approval-first.ensures.parts c.past_approval-past.ensures.parts c.first_approval-first.ensures.within c.past_approval-past.ensures.within).0)

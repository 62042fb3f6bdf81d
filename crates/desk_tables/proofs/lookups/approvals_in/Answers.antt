use Rattle.desk_tables.proofs.TableLemmas.{count_between}
use Rattle.desk_tables.specs.declared.rows.ApprovalRow.{ApprovalRow}
use Rattle.desk_tables.proofs.lookups.approvals_in.Goals as goal

pub overflow_sub-result : goal.overflow_sub-result
overflow_sub-result c = (count_between (λ (a : ApprovalRow). a.review) c.args.review c.args.rows.now _ _ c.first_approval.ensures c.past_approval.ensures).0

pub returns : goal.returns
returns c = (count_between (λ (a : ApprovalRow). a.review) c.args.review c.args.rows.now _ _ c.first_approval.ensures c.past_approval.ensures).1

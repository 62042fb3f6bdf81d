use Rattle.std.proofs.Common.{ap, sym, ◌∙◌, option_copied}
use Rattle.serde_json.specs.Data.{string}
use Rattle.serde_json.specs.View.{items_of}
use Rattle.desk_tables.specs.Tables.{approvals_to}
use Rattle.desk_replies.proofs.NameLemmas.{one_pushed, none_more, all_done}
use Rattle.desk_replies.proofs.views.names.Goals.{in-Some+in_ok-try_from_str+in_ok-push, in_default}
use Rattle.desk_replies.proofs.views.names.Goals as goal

pub loop-at-preserved : goal.loop-at-preserved
loop-at-preserved c =
    let xs = approvals_to c.args.desk.now.state.tables c.args.id in
    elim c.match-approver.branch [
      | in-Some+in_ok-try_from_str+in_ok-push w ↦
          one_pushed c.loop-at.all.items c.match-approver.all.items w.in_ok-try_from_str.field-0 xs c.loop-at.at w.in-Some.name.now
          (ap (λ all. all.items) w.all-is ∙ w.in_ok-push.ensures.items)
          (w.in_ok-try_from_str.ensures ∙ ap string w.as_str.ensures)
          (sym (ap option_copied w.in-Some.is) ∙ c.approver.ensures)
          c.loop-at.invariant
      | in_default w ↦
          rw w.all-is (none_more _ xs c.loop-at.at (sym (ap option_copied w.in_default.is) ∙ c.approver.ensures) c.loop-at.invariant)
    ]

pub returns : goal.returns
returns c =
    ap items_of (all_done _ c.args.id c.loop-at.at c.args.desk.now.state.tables.approvals (rw c.approvals-at-end.ensures at c.loop-at-test.false) c.loop-at.invariant)

use Rattle.std.proofs.Common.{◌≡◌}
use Rattle.serde_json.specs.View.{members_view}
use Rattle.desk_requests.specs.Bodies.{files_in, behind}
use Rattle.desk_requests.proofs.bodies.files_in.Given as goal

abbrev pub invariant-loop-name : goal.invariant-loop-name
invariant-loop-name l = record {
  can : (goal.iterator-loop-name).can_next l.name-iterator;
  ends : (goal.iterator-loop-name).is_finite l.name-iterator;
  same : behind l.all (files_in (members_view l.name-iterator)) ≡ files_in (members_view l.map.entries);
}

use Rattle.std.proofs.Common.{◌≡◌, ◌++◌, map, drop}
use Rattle.serde_json.specs.View.{view}
use Rattle.desk_tables.specs.Tables.{approvals_to}
use Rattle.desk_replies.specs.Views.{name_value}
use Rattle.desk_replies.proofs.views.names.Given as goal

abbrev pub invariant-loop-at : goal.invariant-loop-at
invariant-loop-at l = map view l.all.items ++ map name_value (drop l.at (approvals_to l.desk.state.tables l.id)) ≡ map name_value (approvals_to l.desk.state.tables l.id)

use Rattle.std.proofs.Common.{◌≡◌, ◌≢◌, None, IsTrue}
use Rattle.desk_runs.proofs.answers.answer_all.Given as goal

abbrev pub invariant-loop-step : goal.invariant-loop-step
invariant-loop-step g l = (IsTrue l.door.door.is_open) × (l.keeper.name ≢ None) × (l.keeper.rows ≡ l.store.state.tables)

use Rattle.std.proofs.Common.{◌≡◌, ◌≤◌, Some}
use Rattle.doors.specs.Door.{Told}
use Rattle.desk_keeper.specs.Keeping.{Agrees}
use Rattle.serving.specs.Turns.{Comes, HaveTurns}
use Rattle.serving.proofs.serving.serve_all.Given as goal

abbrev pub invariant-loop : goal.invariant-loop
invariant-loop g l = record {
  opened : g.D.Door.is_open l.door ≡ g.D.Door.is_open l.fn.door;
  shown : g.K.Keeper.opened l.keeper ≡ g.K.Keeper.opened l.fn.keeper;
  agrees : Agrees (g.K.Keeper.tables l.keeper) l.store.state.tables;
  judge : g.J.Judge.meaning l.judge ≡ g.J.Judge.meaning l.fn.judge;
  comes : Comes (g.J.Judge.meaning l.fn.judge) l.fn.store.state l.store.state;
  kept : g.D.Door.faults l.fn.door ≤ g.D.Door.faults l.door;
  turns : (t : Told) → g.D.Door.told l.fn.door ≡ Some t → HaveTurns (g.J.Judge.meaning l.fn.judge) (record { state = l.fn.store.state; keeper = g.K.Keeper.faults l.fn.keeper; door = g.D.Door.faults l.fn.door }) t l.counter (record { state = l.store.state; keeper = g.K.Keeper.faults l.keeper; door = g.D.Door.faults l.door }) (g.D.Door.told l.door);
}

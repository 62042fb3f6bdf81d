use Rattle.std.proofs.Common.{◌≡◌, ◌++◌, map}
use Rattle.std.specs.Vec.Iter.{into_iter_items}
use Rattle.doors.specs.Memory.{waiting}
use Rattle.doors.proofs.mem_door.waiting_all.Given as goal

abbrev pub invariant-loop-input : goal.invariant-loop-input
invariant-loop-input l = l.all.items ++ map (waiting l.room) (into_iter_items l.input-iterator) ≡ map (waiting l.room) l.fn.inputs

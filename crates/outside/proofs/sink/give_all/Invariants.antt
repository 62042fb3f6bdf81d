use Rattle.std.proofs.Common.{length, ◌-◌, ◌≡◌, ◌≤◌, ℕ, List, Some, ◌++◌, take}
use Rattle.outside.proofs.sink.give_all.Given as goal

abbrev pub invariant-loop-done : goal.invariant-loop-done
invariant-loop-done g l = record {
  within : l.done ≤ length l.bytes;
  still : g.O.Sink.faults l.out ≡ g.O.Sink.faults l.initial.out;
  told : (b : List ℕ) → g.O.Sink.given l.initial.out ≡ Some b → g.O.Sink.given l.out ≡ Some (b ++ take l.done l.bytes);
}

abbrev pub decreases-loop-done : goal.decreases-loop-done
decreases-loop-done g l = length l.bytes - l.done

use Rattle.std.proofs.Common.{◌≡◌, ◌≤◌, ◌*◌, ◌-◌}
use Rattle.possible_fixpoint.specs.Working.{Gathers}
use Rattle.possible_fixpoint.proofs.gathering.visit_all.Given as goal

abbrev pub invariant-loop-link : goal.invariant-loop-link
invariant-loop-link g l = (l.seat ≡ l.fn.seat) × (l.link ≤ 64) × Gathers (g.A.Analysis.flow l.analysis) l.fn.seat.start l.router 0 (2 * l.link) l.fn.notes l.notes l.grew

abbrev pub decreases-loop-link : goal.decreases-loop-link
decreases-loop-link g l = 64 - l.link

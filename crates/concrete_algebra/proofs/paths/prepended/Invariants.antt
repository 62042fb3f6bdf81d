use Rattle.std.proofs.Common.{◌≡◌, replicate}
use Rattle.concrete_algebra.proofs.paths.prepended.Given as goal

abbrev pub invariant-loop : goal.invariant-loop
invariant-loop l = l.longer.items ≡ replicate l.counter l.router

use Rattle.std.proofs.Common.{IsTrue, true, false, arith}
use Rattle.std.proofs.lemmas.Bool.Decides.{nat_tests}
use Rattle.refine_rounds.proofs.ResultLemmas.{amount_falls, reached_first, reached_last, reached_next}
use Rattle.refine_rounds.proofs.rounds.settle.Goals as goal

no_false : IsTrue false → ⊥
no_false f = grind (arith, nat_tests)

pub loop-alive-init : goal.loop-alive-init
loop-alive-init g c = reached_first c.args.asked.now.net.now c.args.asked.now.prefix c.args.asked.now.failed.now c.args.asked.now.distances.now c.all_alive-alive.result c.in_ok-found.found c.all_alive-alive.ensures c.in_ok-found.ensures

pub loop-alive-preserved : goal.loop-alive-preserved
loop-alive-preserved g c = reached_next c.args.asked.now.net.now c.args.asked.now.prefix c.args.asked.now.failed.now c.args.asked.now.distances.now c.loop-alive.alive c.loop-alive.found c.in_ok-found-2.found c.loop-alive.invariant c.in_ok-found-2.ensures

pub loop-alive-smaller : goal.loop-alive-smaller
loop-alive-smaller g c = amount_falls c.args.asked.now.net.now c.args.asked.now.prefix c.args.asked.now.failed.now c.args.asked.now.distances.now c.loop-alive.alive c.loop-alive.found c.loop-alive.invariant (λ e. (let f : IsTrue false = c.loop-alive-test.ensures.1 e in no_false f))

pub returns-clause-alive : goal.returns-clause-alive
returns-clause-alive g c = reached_last c.args.asked.now.net.now c.args.asked.now.prefix c.args.asked.now.failed.now c.args.asked.now.distances.now c.loop-alive.alive c.loop-alive.found c.loop-alive.invariant (c.loop-alive-test.ensures.0 (let t : IsTrue true = grind (arith, nat_tests) in t))

use Rattle.std.proofs.Common.{suc, ◌-◌, arith}
use Rattle.failure_sets.proofs.CountLemmas.{choose-mono}
use Rattle.failure_sets.proofs.StepLemmas.{place_one, place_two}
use Rattle.failure_sets.proofs.numbers.place_of_pair.Goals as goal

pub overflow_sub-result : goal.overflow_sub-result
overflow_sub-result c =
    let m = choose-mono (c.args.many - c.args.a) (c.args.many - c.args.least) 2 (omega arith) in
    omega arith

pub returns-clause-place : goal.returns-clause-place
returns-clause-place c =
    let p = place_two c.args.many c.args.least c.args.a c.args.b in
    let q = place_one c.args.many (suc c.args.a) c.args.b (omega arith) c.requires.below in
    omega arith

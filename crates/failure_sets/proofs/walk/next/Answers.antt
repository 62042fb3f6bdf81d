use Rattle.std.proofs.Common.{Some, None, ◌≤◌, ◌<◌, length, sym, ◌∙◌}
use Rattle.failure_sets.proofs.LawLemmas.{least_from}
use Rattle.failure_sets.proofs.StepLemmas.{next_stays, next_grows, next_ends}
use Rattle.failure_sets.proofs.walk.next.Goals as goal

pub returns-in-Some-clause-behind : goal.returns-in-Some-clause-behind
returns-in-Some-clause-behind c = sym (next_stays c.args.links c.args.most c.args.set c.in-Some.next c.requires.most c.requires.set (sym c.in-Some.ensures))

pub returns-in-Some-clause-least : goal.returns-in-Some-clause-least
returns-in-Some-clause-least c = least_from c.args.links c.args.most c.args.set (Some c.in-Some.next) c.requires.most c.requires.set (returns-in-Some-clause-behind c)

pub returns-in-None-clause-behind : goal.returns-in-None-clause-behind
returns-in-None-clause-behind c =
    let low : length c.args.set < c.args.most = rw c.as_slice-size.ensures.set at (rw c.from.ensures at c.if-size-from.true) in
    (rw c.as_slice-size.ensures.set at c.first_of.ensures)
    ∙ sym (next_grows c.args.links c.args.most c.args.set c.requires.most c.requires.set (sym c.in-None.ensures) low)

pub returns-in-None-clause-least : goal.returns-in-None-clause-least
returns-in-None-clause-least c = least_from c.args.links c.args.most c.args.set c.first_of.result c.requires.most c.requires.set (returns-in-None-clause-behind c)

pub returns-in-None-2-clause-behind : goal.returns-in-None-2-clause-behind
returns-in-None-2-clause-behind c =
    let full : c.args.most ≤ length c.args.set = rw c.as_slice-size.ensures.set at (rw c.from.ensures at c.if-size-from.false) in
    sym (next_ends c.args.links c.args.most c.args.set c.requires.most c.requires.set (sym c.in-None-2.ensures) full)

pub returns-in-None-2-clause-least : goal.returns-in-None-2-clause-least
returns-in-None-2-clause-least c = least_from c.args.links c.args.most c.args.set None c.requires.most c.requires.set (returns-in-None-2-clause-behind c)

use Rattle.std.proofs.Common.{◌+◌}
use Rattle.failure_sets.proofs.NumberLemmas.{place_at_none, place_at_one, place_at_two, place_at_three, position_at}
use Rattle.failure_sets.proofs.numbers.place.Goals as goal

pub returns-in-len1-clause-place : goal.returns-in-len1-clause-place
returns-in-len1-clause-place c =
    place_at_one c.args.links c.args.set c.as_slice.result.now c.from.result c.as_slice.ensures.set c.requires.set c.in-len1.len_at_least c.in-len1.len_below c.from.ensures

pub returns-in-len1-clause-position : goal.returns-in-len1-clause-position
returns-in-len1-clause-position c = position_at c.args.links (1 + c.from.result) c.args.set c.requires.set (returns-in-len1-clause-place c)

pub returns-in-len2-clause-place : goal.returns-in-len2-clause-place
returns-in-len2-clause-place c =
    place_at_two c.args.links c.args.set c.as_slice.result.now c.from-many.result c.from-in-len2.result c.from-in-len2-2.result c.place_of_pair.result
    c.as_slice.ensures.set c.requires.set c.in-len2.len_at_least c.in-len2.len_below c.from-many.ensures c.from-in-len2.ensures c.from-in-len2-2.ensures c.place_of_pair.ensures.place

pub returns-in-len2-clause-position : goal.returns-in-len2-clause-position
returns-in-len2-clause-position c = position_at c.args.links (1 + c.from-many.result + c.place_of_pair.result) c.args.set c.requires.set (returns-in-len2-clause-place c)

pub returns-in-len3-up-clause-place : goal.returns-in-len3-up-clause-place
returns-in-len3-up-clause-place c =
    place_at_three c.args.links c.args.set c.as_slice.result.now c.from-many.result c.from-in-len3-up.result c.from-in-len3-up-2.result c.from-in-len3-up-3.result c.place_of_triple.result c.pairs.result
    c.as_slice.ensures.set c.requires.set c.in-len3-up.len_at_least c.from-many.ensures c.from-in-len3-up.ensures c.from-in-len3-up-2.ensures c.from-in-len3-up-3.ensures
    c.pairs.ensures.number c.place_of_triple.ensures.place

pub returns-in-len3-up-clause-position : goal.returns-in-len3-up-clause-position
returns-in-len3-up-clause-position c = position_at c.args.links (1 + c.from-many.result + c.pairs.result + c.place_of_triple.result) c.args.set c.requires.set (returns-in-len3-up-clause-place c)

pub returns-in-empty-clause-place : goal.returns-in-empty-clause-place
returns-in-empty-clause-place c = place_at_none c.args.links c.args.set c.as_slice.result.now c.as_slice.ensures.set c.requires.set c.in-empty.len_below

pub returns-in-empty-clause-position : goal.returns-in-empty-clause-position
returns-in-empty-clause-position c = position_at c.args.links 0 c.args.set c.requires.set (returns-in-empty-clause-place c)

use Rattle.std.proofs.Common.{◌<◌, length, arith}
use Rattle.failure_sets.specs.SetList.{place_of}
use Rattle.failure_sets.proofs.LawLemmas.{fewer_come_earlier}
use Rattle.net_types.specs.FailSets.{without}
use Rattle.case_walk.proofs.SetLemmas.{inside_below}
use Rattle.case_walk.proofs.words.is_idle_before.Goals as goal

pub word_at-requires-clause-set : goal.word_at-requires-clause-set
word_at-requires-clause-set c = rw c.without.ensures (fewer_come_earlier c.args.links 3 c.args.set c.args.link (omega arith) c.requires.set c.requires.link).0

pub word_at-requires-clause-within : goal.word_at-requires-clause-within
word_at-requires-clause-within c = rw c.without.ensures (
    let less = (fewer_come_earlier c.args.links 3 c.args.set c.args.link (omega arith) c.requires.set c.requires.link).1 in
    let long = c.requires.within in
    let both : place_of c.args.links (without c.args.set c.args.link) < length c.args.words.now = omega arith in
    both)

pub has-requires : goal.has-requires
has-requires c = let l = inside_below c.args.links c.args.link c.args.set c.requires.set.below c.requires.link in let k = c.requires.links in omega arith

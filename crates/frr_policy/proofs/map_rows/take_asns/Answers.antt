use Rattle.frr_policy.specs.Values.{positive_of}
use Rattle.frr_policy.proofs.GrammarLemmas.{leading_step, leading_end}
use Rattle.frr_policy.proofs.map_rows.take_asns.Goals as goal

pub loop-asn-preserved : goal.loop-asn-preserved
loop-asn-preserved c =
    leading_step positive_of c.loop-asn.asns.items c.push.new.self.items c.loop-asn.words c.take_asn.new.words c.args.words.now c.in-Some.asn c.in-Some.ensures c.in_ok-push.ensures.items c.loop-asn.invariant

pub returns : goal.returns
returns c =
    leading_end positive_of c.loop-asn.asns.items c.from_vec.result c.loop-asn.words c.take_asn.new.words c.args.words.now c.in_default.ensures.0 c.in_default.ensures.1 c.from_vec.ensures c.loop-asn.invariant

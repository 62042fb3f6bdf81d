use Rattle.topology.proofs.TwinLemmas.{named-host, no-host, named-asn, no-asn, none-asn, named-address, no-address, names-whole}
use Rattle.topology.specs.Network.{whole_refusals}
use Rattle.topology.proofs.MeaningLemmas.{IsNetworkOf-answer, SessionsHaveAsns-answer}
use Rattle.topology.proofs.WholeLemmas.{NamesWhole-answer}
use Rattle.topology.proofs.networks.build.Goals as goal

pub returns-in-Some-clause-least_pair : goal.returns-in-Some-clause-least_pair
returns-in-Some-clause-least_pair c = named-host c.args.configs.now c.host_pair.result c.in-Some.i c.in-Some.j c.host_pair.ensures c.in-Some.is

pub returns-in-Some-asn_pair-clause-least_pair : goal.returns-in-Some-asn_pair-clause-least_pair
returns-in-Some-asn_pair-clause-least_pair c =
    (no-host c.args.configs.now c.host_pair.result c.host_pair.ensures c.in_default.not-Some, named-asn c.args.configs.now c.asn_pair.result c.in-Some-asn_pair.i c.in-Some-asn_pair.j c.asn_pair.ensures c.in-Some-asn_pair.is)

pub returns-in-Some-2-clause-least_pair : goal.returns-in-Some-2-clause-least_pair
returns-in-Some-2-clause-least_pair c =
    (no-host c.args.configs.now c.host_pair.result c.host_pair.ensures c.in_default.not-Some, no-asn c.args.configs.now c.asn_pair.result c.asn_pair.ensures c.in_default-asn_pair.not-Some, named-address c.args.configs.now _ c.in-Some-2.i c.in-Some-2.j c.in_ok-i.ensures c.in-Some-2.is)

pub whole-requires-clause-asns : goal.whole-requires-clause-asns
whole-requires-clause-asns c = none-asn c.args.configs.now c.asn_pair.result c.asn_pair.ensures c.in_default-asn_pair.not-Some

pub returns-clause-least_pair : goal.returns-clause-least_pair
returns-clause-least_pair c =
    names-whole c.args.configs.now c.whole.result
    (record {
      hosts = no-host c.args.configs.now c.host_pair.result c.host_pair.ensures c.in_default.not-Some;
      asns = no-asn c.args.configs.now c.asn_pair.result c.asn_pair.ensures c.in_default-asn_pair.not-Some;
      addresses = no-address c.args.configs.now _ c.in_ok-i.ensures c.in_default-2.not-Some;
    })
    c.whole.ensures

pub returns-clause-network : goal.returns-clause-network
returns-clause-network c = IsNetworkOf-answer c.args.configs.now c.requires (whole_refusals c.args.configs.now) c.whole.result c.whole.ensures

pub returns-clause-sessions : goal.returns-clause-sessions
returns-clause-sessions c = SessionsHaveAsns-answer c.args.configs.now (whole_refusals c.args.configs.now) c.whole.result c.whole.ensures

pub returns-clause-whole : goal.returns-clause-whole
returns-clause-whole c = NamesWhole-answer c.args.configs.now c.whole.result c.whole.ensures

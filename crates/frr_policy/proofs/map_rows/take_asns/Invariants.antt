use Rattle.std.proofs.Common.{◌≡◌, length}
use Rattle.frr_policy.specs.Values.{positive_of}
use Rattle.frr_policy.specs.Grammar.{leading}
use Rattle.frr_policy.proofs.GrammarLemmas.{values_before}
use Rattle.frr_policy.proofs.map_rows.take_asns.Given as goal

abbrev pub invariant-loop-asn : goal.invariant-loop-asn
invariant-loop-asn l = values_before l.asns.items (leading positive_of l.words) ≡ leading positive_of l.initial.words

abbrev pub decreases-loop-asn : goal.decreases-loop-asn
decreases-loop-asn l = length l.words

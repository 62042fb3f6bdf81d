use Rattle.frr_policy.proofs.NameLemmas.{ascii_utf8}
use Rattle.frr_policy.proofs.values.Name.to_text.Goals as goal

pub unreachable-requires : goal.unreachable-requires
unreachable-requires c = c.in-Err.ensures.cases.0 (ascii_utf8 c.self.inside.bytes.now c.self.invariant)

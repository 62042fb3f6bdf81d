use Rattle.net_types.proofs.SetLemmas.{part_test}
use Rattle.net_types.proofs.bits.Bits64.is_part.Goals as goal

pub returns-clause-part : goal.returns-clause-part
returns-clause-part c = rw (← c.self.view_is, ← c.other.view_is) (part_test c.self.inside.0 c.other.inside.0)

use Rattle.ospf_paths.proofs.hops.is_next_hop.Goals as goal

pub returns-in-None : goal.returns-in-None
returns-in-None c = (λ t. cc, λ (u, v, hop). absurd (c.in-None.ensures u v hop.tight.cost hop.tight.crosses))

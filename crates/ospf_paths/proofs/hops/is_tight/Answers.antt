use Rattle.ospf_paths.proofs.hops.is_tight.Goals as goal

pub returns-in-None : goal.returns-in-None
returns-in-None c = (λ t. cc, λ (u, v, tight). absurd (c.in-None.ensures u v tight.cost tight.crosses))

-- Networks in which nobody originates a route: there nobody holds one in a stable labelling.
use Rattle.std.specs.Prelude.{ℕ, ◌≡◌, ◌<◌, false, List, Option, Some, None, All, replicate, slice_get}
use Rattle.net_types.specs.declared.network.Owned.{Owned}
use Rattle.net_types.specs.declared.network.Policy.TheVariants.{Closed}
use Rattle.net_types.specs.declared.network.Router.{Router}
use Rattle.net_types.specs.declared.routes.Route.{Route}
use Rattle.net_types.specs.NetValue.{NetValue}
use Rattle.net_types.specs.PrefixValue.{PrefixValue}
use Rattle.concrete_algebra.specs.Laws.{IsRouting}
use Rattle.concrete_algebra.specs.LocalRoutes.{local_of}
use Rattle.concrete_algebra.specs.Problem.{Problem}
use Rattle.concrete_algebra.specs.Stability.{IsStable, label_at}

-- no router originates a route
abbrev pub IsSilent : Problem → Type 0
IsSilent problem = (u : ℕ) → u < problem.routers → problem.local u ≡ None

-- then no router holds one in a stable labelling
abbrev pub NoOriginNoLabels : Type 0
NoOriginNoLabels =
    (problem : Problem) (labels : List (Option Route)) → IsRouting problem → IsSilent problem → IsStable problem labels →
    (u : ℕ) → u < problem.routers → label_at labels u ≡ None

-- and the labelling without labels is stable
abbrev pub NoOriginIsStable : Type 0
NoOriginIsStable = (problem : Problem) → IsRouting problem → IsSilent problem → IsStable problem (replicate problem.routers None)

-- the router has no `network` line, and redistributes nothing into BGP
pub record BringsNothing (router : Router) : Type 0 where
  pub networks : All (λ (entry : Owned). entry.network ≡ false) router.owned
  pub connected : router.connected ≡ Closed
  pub ospf : router.ospf ≡ Closed

-- such a router originates nothing
abbrev pub NothingOriginated : Type 0
NothingOriginated =
    (net : NetValue) (prefix : PrefixValue) (u : ℕ) (distance : Option ℕ) (router : Router) →
    slice_get net.routers u ≡ Some router → BringsNothing router → local_of net prefix u distance ≡ None

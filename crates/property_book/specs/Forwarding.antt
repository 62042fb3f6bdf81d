-- Where traffic for a prefix goes at a labelling, and what a property means there. An owner delivers; a
-- learned label goes to its sender; else traffic goes to each next hop of OSPF; else it is stuck.
use Rattle.std.specs.Prelude.{ℕ, ◌≡◌, ◌<◌, ◌*◌, true, false, List, [], ◌∷◌, length, Option, Some, None, Contains}
use Rattle.net_types.specs.declared.routes.Route.{Route}
use Rattle.net_types.specs.declared.routes.Source.{Source}
use Rattle.net_types.specs.declared.routes.Source.TheVariants.{Local, Learned}
use Rattle.net_types.specs.NetValue.{NetValue}
use Rattle.net_types.specs.PrefixValue.{PrefixValue}
use Rattle.net_types.specs.Arcs.{sender_of}
use Rattle.net_types.specs.Owners.{owns}
use Rattle.net_types.specs.Distance.{HasHop, distance_at}
use Rattle.concrete_algebra.specs.Stability.{is_learned, label_at}

-- traffic at router u, whose label comes from this source, goes on to router v
abbrev pub GoesBySource : NetValue → PrefixValue → List ℕ → List (Option ℕ) → ℕ → ℕ → Source → Type 0
GoesBySource net prefix failed distances u v Local = HasHop net prefix failed distances u v
GoesBySource net prefix failed distances u v (Learned arc) = sender_of net arc ≡ Some v

abbrev pub GoesByLabel : NetValue → PrefixValue → List ℕ → List (Option ℕ) → ℕ → ℕ → Option Route → Type 0
GoesByLabel net prefix failed distances u v None = HasHop net prefix failed distances u v
GoesByLabel net prefix failed distances u v (Some route) = GoesBySource net prefix failed distances u v route.source

-- router u, which is no owner, sends traffic on to router v
pub record Forwards (net : NetValue) (prefix : PrefixValue) (failed : List ℕ) (distances : List (Option ℕ))
    (labels : List (Option Route)) (u v : ℕ) : Type 0 where
  pub no_owner : owns net u prefix ≡ false
  pub goes : GoesByLabel net prefix failed distances u v (label_at labels u)

-- the routers that follow u, one after another, are where its traffic may go
abbrev pub IsForwardWalk : NetValue → PrefixValue → List ℕ → List (Option ℕ) → List (Option Route) → ℕ → List ℕ → Type 0
IsForwardWalk net prefix failed distances labels u [] = Unit {0}
IsForwardWalk net prefix failed distances labels u (v ∷ more) =
    Forwards net prefix failed distances labels u v × IsForwardWalk net prefix failed distances labels v more

-- the last router of a walk
abbrev pub last_of : ℕ → List ℕ → ℕ
last_of u [] = u
last_of u (v ∷ more) = last_of v more

-- reach: each forwarding walk from u goes on until it is at an owner, and is there within 2 n steps for n routers
pub record Reaches (net : NetValue) (prefix : PrefixValue) (failed : List ℕ) (distances : List (Option ℕ))
    (labels : List (Option Route)) (u : ℕ) : Type 0 where
  pub not_stuck : (walk : List ℕ) → IsForwardWalk net prefix failed distances labels u walk →
      owns net (last_of u walk) prefix ≡ false → (v : ℕ) × Forwards net prefix failed distances labels (last_of u walk) v
  pub soon : (walk : List ℕ) → IsForwardWalk net prefix failed distances labels u walk →
      owns net (last_of u walk) prefix ≡ false → length walk < 2 * length net.routers

-- isolated: u is no owner, its label is not learned, and it has no distance
pub record IsIsolated (net : NetValue) (prefix : PrefixValue) (distances : List (Option ℕ)) (labels : List (Option Route)) (u : ℕ) : Type 0 where
  pub no_owner : owns net u prefix ≡ false
  pub not_learned : is_learned (label_at labels u) ≡ false
  pub no_distance : distance_at distances u ≡ None

-- waypoint: each forwarding walk from u that ends at an owner visits w; u itself counts
abbrev pub GoesThrough : NetValue → PrefixValue → List ℕ → List (Option ℕ) → List (Option Route) → ℕ → ℕ → Type 0
GoesThrough net prefix failed distances labels w u =
    (walk : List ℕ) → IsForwardWalk net prefix failed distances labels u walk → owns net (last_of u walk) prefix ≡ true →
    Contains (u ∷ walk) w

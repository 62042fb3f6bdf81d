-- What every network says of an arc that is crossed and of the cost of a stub.
use Rattle.std.proofs.Common.{ℕ, ◌≡◌, ◌<◌, ◌≤◌, Bool, true, false, List, [], ◌∷◌, length, Option, Some, None, IfSome, All, slice_get, unwrap_or, option_map, option_and_then, ap, sym, subst, ◌∙◌, refl}
use Rattle.std.proofs.lemmas.List.Elements.{All-get_or, All-head, All-tail}
use Rattle.std.proofs.lemmas.Option.{slice_get-map, slice_get_within, unwrap_or-slice_get, get_or_from_slice_get}
use Rattle.net_types.specs.declared.arcs.Arc.{Arc}
use Rattle.net_types.specs.declared.network.Link.{Link}
use Rattle.net_types.specs.declared.network.Owned.{Owned}
use Rattle.net_types.specs.declared.network.Router.{Router}
use Rattle.net_types.specs.Arcs.{from_end, to_end}
use Rattle.net_types.specs.Distance.{Crosses, distance_at}
use Rattle.net_types.specs.NetFacts.{IsNet, IsLink, IsEnd, IsOwned, IsRouter}
use Rattle.net_types.specs.NetValue.{NetValue}
use Rattle.net_types.specs.Owners.{is_owned, owns, stub_cost, stub_of}
use Rattle.net_types.specs.PrefixValue.{PrefixValue}
use Rattle.net_types.specs.Prefixes.{same_prefix}
use Rattle.ospf_paths.specs.OnTheWay.{stub_costs}

-- what is true of an arc that is crossed
pub record IsInside (net : NetValue) (arc : Arc) (u v cost : ℕ) : Type 0 where
  pub link : arc.link < length net.links
  pub from : u < length net.routers
  pub to : v < length net.routers
  pub least : 1 ≤ cost
  pub most : cost ≤ 65535

-- the element at a place has what all have
pub all_at : {X : Type 0} (P : X → Type 0) (xs : List X) (k : ℕ) (x : X) → All P xs → slice_get xs k ≡ Some x → P x
all_at P xs k x all is = subst P (get_or_from_slice_get xs k x x is) (All-get_or P xs k x (slice_get_within xs k x is) all)

ends : (routers : List Router) (link : Link) → IsLink routers link → (down : Bool) → IsEnd routers (from_end down link) × IsEnd routers (to_end down link)
ends routers link is false = (is.low, is.high)
ends routers link is true = (is.high, is.low)

pub crossed : (net : NetValue) → IsNet net → (failed : List ℕ) (arc : Arc) (u v cost : ℕ) → Crosses net failed arc u v cost → IsInside net arc u v cost
crossed net is failed arc u v cost c =
    let e = ends net.routers c.link (all_at (IsLink net.routers) net.links arc.link c.link is.links c.is) arc.down in
    record {
      link = slice_get_within net.links arc.link c.link c.is;
      from = subst (λ (w : ℕ). w < length net.routers) c.from e.0.router;
      to = subst (λ (w : ℕ). w < length net.routers) c.to e.1.router;
      least = subst (λ (w : ℕ). 1 ≤ w) c.costs e.0.least;
      most = subst (λ (w : ℕ). w ≤ 65535) c.costs e.0.most;
    }

-- an arc crosses one way
pub record AreSame (a b c x y z : ℕ) : Type 0 where
  pub from : a ≡ x
  pub to : b ≡ y
  pub cost : c ≡ z

pub crossed_once : (net : NetValue) (failed : List ℕ) (arc : Arc) (u v cost x y z : ℕ) → Crosses net failed arc u v cost → Crosses net failed arc x y z → AreSame u v cost x y z
crossed_once net failed arc u v cost x y z c d =
    let same : c.link ≡ d.link = (let e : Some c.link ≡ Some d.link = sym c.is ∙ d.is in cc) in
    record {
      from = sym c.from ∙ ap (λ (l : Link). (from_end arc.down l).router) same ∙ d.from;
      to = sym c.to ∙ ap (λ (l : Link). (to_end arc.down l).router) same ∙ d.to;
      cost = sym c.costs ∙ ap (λ (l : Link). (from_end arc.down l).cost) same ∙ d.costs;
    }

-- what is true of a stub's cost among what a router owns
record IsStubOf (prefix : PrefixValue) (owned : List Owned) (cost : ℕ) : Type 0 where
  small : cost ≤ 65535
  held : is_owned prefix owned ≡ true

stub_of_is : (prefix : PrefixValue) (owned : List Owned) (cost : ℕ) → All IsOwned owned → stub_of prefix owned ≡ Some cost → IsStubOf prefix owned cost
stub_of_is prefix [] cost all is = let e : None ≡ Some cost = is in cc
stub_of_is prefix (entry ∷ owned) cost all is = go (λ e. stub_of_is prefix owned cost (All-tail IsOwned entry owned all) e) (same_prefix entry.prefix prefix) refl where
  first : (o : Option ℕ) → IfSome o (λ c. c ≤ 65535) → o ≡ Some cost → cost ≤ 65535
  first None h e = cc
  first (Some c) h e = let same : c ≡ cost = cc in subst (λ (n : ℕ). n ≤ 65535) same h

  go : (stub_of prefix owned ≡ Some cost → IsStubOf prefix owned cost) → (b : Bool) → same_prefix entry.prefix prefix ≡ b → IsStubOf prefix (entry ∷ owned) cost
  go rest true t = record { small = first entry.ospf_cost (All-head IsOwned entry owned all).cost (rw t at is); held = rw t refl }
  go rest false t = let r = rest (rw t at is) in record { small = r.small; held = rw t r.held }

-- what is true of a router's stub cost
pub record IsStub (net : NetValue) (prefix : PrefixValue) (u cost : ℕ) : Type 0 where
  pub router : u < length net.routers
  pub small : cost ≤ 65535
  pub owner : owns net u prefix ≡ true

pub stubbed : (net : NetValue) → IsNet net → (prefix : PrefixValue) (u cost : ℕ) → stub_cost net prefix u ≡ Some cost → IsStub net prefix u cost
stubbed net valid prefix u cost is = go (slice_get net.routers u) refl where
  go : (o : Option Router) → slice_get net.routers u ≡ o → IsStub net prefix u cost
  go None e = let none : None ≡ Some cost = rw e at is in cc
  go (Some router) e =
      let s = stub_of_is prefix router.owned cost (all_at (IsRouter (length net.communities)) net.routers u router valid.routers e).owned (rw e at is) in
      record { router = slice_get_within net.routers u router e; small = s.small; owner = rw e s.held }

-- the entry of a router in the stub costs
pub stub_costs_at : (net : NetValue) (prefix : PrefixValue) (u : ℕ) → distance_at (stub_costs prefix net.routers) u ≡ stub_cost net prefix u
stub_costs_at net prefix u =
    sym (unwrap_or-slice_get (stub_costs prefix net.routers) u None)
    ∙ ap (λ (o : Option (Option ℕ)). unwrap_or o None) (slice_get-map (λ (router : Router). stub_of prefix router.owned) net.routers u)
    ∙ flat (slice_get net.routers u) where
      flat : (o : Option Router) → unwrap_or (option_map (λ (router : Router). stub_of prefix router.owned) o) None ≡ option_and_then (λ (router : Router). stub_of prefix router.owned) o
      flat None = refl
      flat (Some router) = refl

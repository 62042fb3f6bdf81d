-- Where no router originates a route, no router holds one.
use Rattle.std.proofs.Common.{ℕ, zero, suc, ◌≡◌, ◌<◌, inl, inr, Bool, true, false, All, find, List, [], ◌∷◌, length, replicate, Option, Some, None, arith, sym, subst, ◌∙◌, refl, if◌then◌else◌}
use Rattle.std.proofs.lemmas.List.Elements.{All-head, All-tail}
use Rattle.net_types.specs.declared.config.Origin.TheVariants.{Igp, Incomplete}
use Rattle.net_types.specs.declared.network.Owned.{Owned}
use Rattle.net_types.specs.declared.network.Policy.{Policy}
use Rattle.net_types.specs.declared.network.Policy.TheVariants.{Closed}
use Rattle.net_types.specs.declared.network.Router.{Router}
use Rattle.net_types.specs.declared.routes.Route.{Route}
use Rattle.net_types.specs.NetValue.{NetValue}
use Rattle.net_types.specs.PrefixValue.{PrefixValue}
use Rattle.net_types.specs.Prefixes.{same_prefix}
use Rattle.net_types.specs.Owners.{entry_of}
use Rattle.concrete_algebra.specs.Chains.{IsChain}
use Rattle.concrete_algebra.specs.Laws.{IsRouting}
use Rattle.concrete_algebra.specs.LocalRoutes.{local_of, originated, ospf_route, owner_route, route_by_entry}
use Rattle.concrete_algebra.specs.Maps.{map_gives}
use Rattle.concrete_algebra.specs.Origins.{BringsNothing, IsSilent, NoOriginIsStable, NoOriginNoLabels, NothingOriginated}
use Rattle.concrete_algebra.specs.Problem.{Problem}
use Rattle.concrete_algebra.specs.Stability.{IsCandidate, IsChoice, label_at}
use Rattle.concrete_algebra.proofs.ChainLemmas.{labels_have_chains}

no_chain : (problem : Problem) → IsRouting problem → IsSilent problem → (labels : List (Option Route)) (chain : List ℕ) (u : ℕ) (route : Route) → u < problem.routers → IsChain problem labels chain u route → ⊥
no_chain problem net silent labels [] u route low h = let e : None ≡ Some route = sym (silent u low) ∙ h.1 in cc
no_chain problem net silent labels (v ∷ chain) u route low (sent, l, h) =
    no_chain problem net silent labels chain v sent (let e = net.sender l.arc l.up in let f = l.from in omega arith) h

pub no_origin_no_labels : NoOriginNoLabels
no_origin_no_labels problem labels net silent stable u low = go (label_at labels u) refl where
  go : (label : Option Route) → label_at labels u ≡ label → label ≡ None
  go None e = refl
  go (Some route) e = let h = labels_have_chains problem labels net stable u route low e in absurd (no_chain problem net silent labels h.0 u route low h.1)

-- ---- the labelling without labels

abbrev blank : ℕ → List (Option Route)
blank k = replicate k None

length-replicate : (k : ℕ) → length (blank k) ≡ k
length-replicate zero = refl
length-replicate (suc k) = let e = length-replicate k in omega arith

no_label : (k u : ℕ) → label_at (replicate k None) u ≡ None
no_label zero u = refl
no_label (suc k) zero = refl
no_label (suc k) (suc u) = no_label k u

no_candidate : (problem : Problem) → IsRouting problem → IsSilent problem → (u : ℕ) → u < problem.routers → (route : Route) → IsCandidate problem (replicate problem.routers None) u route → ⊥
no_candidate problem net silent u low route (inl (arc, sent, a)) = let e : None ≡ Some sent = sym (no_label problem.routers (problem.sender arc)) ∙ a.held in cc
no_candidate problem net silent u low route (inr c) = let e : None ≡ Some route = sym (silent u low) ∙ c.local in cc

pub no_origin_is_stable : NoOriginIsStable
no_origin_is_stable problem net silent = record {
  long = length-replicate problem.routers;
  each = λ u low. subst (λ (o : Option Route). IsChoice problem (replicate problem.routers None) u o) (sym (no_label problem.routers u)) (no_candidate problem net silent u low);
}

-- ---- routers that bring nothing

either_has : {X : Type 0} (P : X → Type 0) (first x : X) (later : Option X) → P first → (later ≡ Some x → P x) → (holds : Bool) → (if holds then Some first else later) ≡ Some x → P x
either_has P first x later has more true e = let same : first ≡ x = cc in subst P same has
either_has P first x later has more false e = more e

-- what is found is of the list
found_has : {X : Type 0} (P : X → Type 0) (test : X → Bool) (xs : List X) (x : X) → All P xs → find test xs ≡ Some x → P x
found_has P test [] x all e = absurd (cc)
found_has P test (first ∷ later) x all e =
    either_has P first x (find test later) (All-head P first later all) (λ l. found_has P test later x (All-tail P first later all) l) (test first) e

closed_gives : (net : NetValue) (u : ℕ) (policy : Policy) (prefix : PrefixValue) (route : Route) → policy ≡ Closed → map_gives net u policy prefix route ≡ None
unfolding map_gives
closed_gives net u policy prefix route e = rw e refl

entry_brings : (net : NetValue) (prefix : PrefixValue) (u : ℕ) (router : Router) (entry : Owned) → entry.network ≡ false → router.connected ≡ Closed → owner_route net prefix u router entry ≡ None
entry_brings net prefix u router entry plain closed = go entry.network entry.stub plain where
  go : (network stub : Bool) → network ≡ false → (if network then Some (originated Igp 0) else (if stub then map_gives net u router.connected prefix (originated Incomplete 0) else None)) ≡ None
  go true stub e = absurd (cc)
  go false true e = closed_gives net u router.connected prefix (originated Incomplete 0) closed
  go false false e = refl

ospf_brings : (net : NetValue) (prefix : PrefixValue) (u : ℕ) (router : Router) (distance : Option ℕ) → router.ospf ≡ Closed → ospf_route net prefix u router distance ≡ None
ospf_brings net prefix u router None closed = refl
ospf_brings net prefix u router (Some distance) closed = closed_gives net u router.ospf prefix (originated Incomplete distance) closed

router_brings : (net : NetValue) (prefix : PrefixValue) (u : ℕ) (distance : Option ℕ) (router : Router) → BringsNothing router → (entry : Option Owned) → entry_of prefix router.owned ≡ entry → route_by_entry net prefix u router distance entry ≡ None
router_brings net prefix u distance router brings None e = ospf_brings net prefix u router distance brings.ospf
router_brings net prefix u distance router brings (Some entry) e =
    entry_brings net prefix u router entry (found_has (λ (o : Owned). o.network ≡ false) (λ (o : Owned). same_prefix o.prefix prefix) router.owned entry brings.networks e) brings.connected

pub nothing_originated : NothingOriginated
unfolding local_of
nothing_originated net prefix u distance router is brings = rw is (router_brings net prefix u distance router brings (entry_of prefix router.owned) refl)

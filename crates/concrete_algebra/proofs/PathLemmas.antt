-- How paths grow: through a policy, over an arc, and in a router's own route.
use Rattle.std.proofs.Common.{ℕ, ◌≡◌, ◌==◌, ◌≤◌, ◌+◌, ◌++◌, ◌||◌, inl, inr, Bool, true, false, List, [], ◌∷◌, length, replicate, Option, Some, None, All, slice_get, arith, ap, sym, subst, ◌∙◌, refl, add-one}
use Rattle.std.specs.Option.{option_map_or}
use Rattle.std.proofs.lemmas.List.Elements.{All-nil, All-head, All-tail}
use Rattle.std.proofs.lemmas.List.Folds.{list_any-append}
use Rattle.net_types.specs.declared.arcs.Arc.{Arc}
use Rattle.net_types.specs.declared.network.Link.{Link}
use Rattle.net_types.specs.declared.network.NetMap.{NetMap}
use Rattle.net_types.specs.declared.network.NetMapEntry.{NetMapEntry}
use Rattle.net_types.specs.declared.network.Policy.{Policy}
use Rattle.net_types.specs.declared.network.Policy.TheVariants.{Closed, Open, Map}
use Rattle.net_types.specs.declared.network.Router.{Router}
use Rattle.net_types.specs.declared.routes.Route.{Route}
use Rattle.net_types.specs.declared.routes.Source.TheVariants.{Learned}
use Rattle.net_types.specs.Arcs.{from_end, to_end}
use Rattle.net_types.specs.NetFacts.{IsNet, IsNetMap, IsNetMapEntry, IsRouter}
use Rattle.net_types.specs.NetValue.{NetValue}
use Rattle.net_types.specs.PrefixValue.{PrefixValue}
use Rattle.net_types.specs.Routes.{is_on, sent_med}
use Rattle.concrete_algebra.specs.Carrying.{as_received, end_sends, end_takes, is_kept_home, learned_over, sent_by}
use Rattle.concrete_algebra.specs.Maps.{entries_give, entry_gives, entry_matches, map_entries, map_gives, under_sets}
use Rattle.concrete_algebra.proofs.OptionLemmas.{at_place, of_and_then, of_either, of_map, of_none_if, of_some_if}

-- the route with router u in front of its path, at most 10 times, and with the same source
pub record IsPrepended (u : ℕ) (old new : Route) : Type 0 where
  pub times : ℕ
  pub few : times ≤ 10
  pub path : new.path ≡ replicate times u ++ old.path
  pub source : new.source ≡ old.source

-- ---- a policy

under_sets_prepends : (count : ℕ) (router : Router) (u : ℕ) (entry : NetMapEntry) (route : Route) → IsNetMapEntry count router entry → IsPrepended u route (under_sets router u entry.sets route)
unfolding under_sets
under_sets_prepends count router u entry route valid = record { times = entry.sets.prepend; few = valid.sets.prepend; path = refl; source = refl }

entry_prepends : (count : ℕ) (router : Router) (u : ℕ) (entry : NetMapEntry) (route given : Route) → IsNetMapEntry count router entry → entry_gives router u entry route ≡ Some given → IsPrepended u route given
entry_prepends count router u entry route given valid e =
    subst (λ (r : Route). IsPrepended u route r) (of_some_if entry.permit (under_sets router u entry.sets route) given e) (under_sets_prepends count router u entry route valid)

entries_prepend : (count : ℕ) (router : Router) (u : ℕ) (prefix : PrefixValue) (entries : List NetMapEntry) (route given : Route) → All (IsNetMapEntry count router) entries → entries_give router u prefix entries route ≡ Some given → IsPrepended u route given
unfolding entries_give
entries_prepend count router u prefix [] route given all e = absurd (cc)
entries_prepend count router u prefix (entry ∷ later) route given all e =
    elim (of_either (entry_matches router prefix entry route.communities) (entry_gives router u entry route) (entries_give router u prefix later route) given e) [
      | inl here ↦ entry_prepends count router u entry route given (All-head (IsNetMapEntry count router) entry later all) here
      | inr there ↦ entries_prepend count router u prefix later route given (All-tail (IsNetMapEntry count router) entry later all) there
    ]

entries_are : (count : ℕ) (router : Router) (position : ℕ) → IsRouter count router → All (IsNetMapEntry count router) (map_entries router position)
entries_are count router position valid = go (slice_get router.maps position) refl where
  go : (o : Option NetMap) → slice_get router.maps position ≡ o → All (IsNetMapEntry count router) (option_map_or (λ found. found.entries) o [])
  go None e = All-nil (IsNetMapEntry count router)
  go (Some found) e = (at_place (IsNetMap count router) router.maps position found valid.maps e).entries

pub map_prepends : (net : NetValue) → IsNet net → (u : ℕ) (policy : Policy) (prefix : PrefixValue) (route given : Route) → map_gives net u policy prefix route ≡ Some given → IsPrepended u route given
unfolding map_gives
map_prepends net valid u Closed prefix route given e = absurd (cc)
map_prepends net valid u Open prefix route given e = record { times = 0; few = omega arith; path = (let f : route ≡ given = cc in ap (λ (r : Route). r.path) (sym f)); source = (let f : route ≡ given = cc in ap (λ (r : Route). r.source) (sym f)) }
map_prepends net valid u (Map position) prefix route given e =
    let found = of_and_then (λ (router : Router). entries_give router u prefix (map_entries router position) route) (slice_get net.routers u) given e in
    entries_prepend (length net.communities) found.0 u prefix (map_entries found.0 position) route given
    (entries_are (length net.communities) found.0 position (at_place (IsRouter (length net.communities)) net.routers u found.0 valid.routers found.1)) found.2

-- ---- an arc

-- what is sent: the sender in front once, and at most 10 times more
pub record IsSent (sender : ℕ) (old new : Route) : Type 0 where
  pub times : ℕ
  pub few : times ≤ 10
  pub path : new.path ≡ sender ∷ (replicate times sender ++ old.path)

sent_path : (sender : ℕ) (old given new : Route) → IsPrepended sender old given → sent_by sender given ≡ new → IsSent sender old new
sent_path sender old given new p e = record { times = p.times; few = p.few; path = sym (ap (λ (r : Route). r.path) e) ∙ ap (λ (path : List ℕ). sender ∷ path) p.path }

pub end_sends_path : (net : NetValue) → IsNet net → (prefix : PrefixValue) (down : Bool) (link : Link) (route sent : Route) → end_sends net prefix down link route ≡ Some sent → IsSent (from_end down link).router route sent
end_sends_path net valid prefix down link route sent e =
    let given = of_none_if (is_kept_home net route.communities) _ sent e in
    let named = of_map (sent_by (from_end down link).router) (map_gives net (from_end down link).router (from_end down link).export prefix (record route { med = sent_med route.source route.med })) sent given.1 in
    let p = map_prepends net valid (from_end down link).router (from_end down link).export prefix (record route { med = sent_med route.source route.med }) named.0 named.1 in
    sent_path (from_end down link).router route named.0 sent (record { times = p.times; few = p.few; path = p.path; source = p.source }) named.2

-- what is taken in: the receiver in front at most 10 times, who was not on the path
pub record IsTaken (receiver : ℕ) (arc : Arc) (old new : Route) : Type 0 where
  pub times : ℕ
  pub few : times ≤ 10
  pub path : new.path ≡ replicate times receiver ++ old.path
  pub fresh : is_on receiver old.path ≡ false
  pub source : new.source ≡ Learned arc

taken_path : (receiver : ℕ) (arc : Arc) (old given new : Route) → IsPrepended receiver old given → is_on receiver old.path ≡ false → learned_over arc given ≡ new → IsTaken receiver arc old new
taken_path receiver arc old given new p fresh e = record {
  times = p.times;
  few = p.few;
  path = sym (ap (λ (r : Route). r.path) e) ∙ p.path;
  fresh = fresh;
  source = sym (ap (λ (r : Route). r.source) e);
}

pub end_takes_path : (net : NetValue) → IsNet net → (prefix : PrefixValue) (arc : Arc) (link : Link) (route taken : Route) → end_takes net prefix arc link route ≡ Some taken → IsTaken (to_end arc.down link).router arc route taken
end_takes_path net valid prefix arc link route taken e =
    let given = of_none_if (is_on (to_end arc.down link).router route.path) _ taken e in
    let named = of_map (learned_over arc) (map_gives net (to_end arc.down link).router (to_end arc.down link).import prefix (as_received route)) taken given.1 in
    let p = map_prepends net valid (to_end arc.down link).router (to_end arc.down link).import prefix (as_received route) named.0 named.1 in
    taken_path (to_end arc.down link).router arc route named.0 taken (record { times = p.times; few = p.few; path = p.path; source = p.source }) given.0 named.2

-- ---- a path behind others

or_left : (p q : Bool) → (p || q) ≡ false → q ≡ false
or_left false q e = e
or_left true q e = absurd (cc)

-- not on a longer path, so not on its rest
pub not_on_rest : (x y k : ℕ) (path : List ℕ) → is_on x (y ∷ (replicate k y ++ path)) ≡ false → is_on x path ≡ false
not_on_rest x y k path e =
    or_left (is_on x (replicate k y)) (is_on x path) (sym (list_any-append (λ hop. x == hop) (replicate k y) path) ∙ or_left (x == y) (is_on x (replicate k y ++ path)) e)

-- once, and k times more
pub once_more : (k x : ℕ) (path : List ℕ) → x ∷ (replicate k x ++ path) ≡ replicate (k + 1) x ++ path
once_more k x path = rw add-one refl

-- The problem of a network is a stable routing problem.
use Rattle.std.proofs.Common.{ℕ, ◌≡◌, ◌≢◌, ◌≤◌, ◌+◌, ◌++◌, ◌&&◌, Bool, true, false, not, List, replicate, Option, Some, None, slice_get, unwrap_or, arith, ap, sym, subst, ◌∙◌, refl, append-nil, if◌then◌else◌}
use Rattle.std.specs.Option.{option_map, option_map_or}
use Rattle.std.proofs.lemmas.Option.{slice_get_within}
use Rattle.net_types.specs.declared.arcs.Arc.{Arc}
use Rattle.net_types.specs.declared.network.Link.{Link}
use Rattle.net_types.specs.declared.network.Owned.{Owned}
use Rattle.net_types.specs.declared.network.Policy.{Policy}
use Rattle.net_types.specs.declared.network.Router.{Router}
use Rattle.net_types.specs.declared.config.Origin.{Origin}
use Rattle.net_types.specs.declared.config.Origin.TheVariants.{Igp, Incomplete}
use Rattle.net_types.specs.declared.routes.Route.{Route}
use Rattle.net_types.specs.declared.routes.Source.TheVariants.{Learned}
use Rattle.net_types.specs.Arcs.{from_end, is_session, is_up, link_of, receiver_of, sender_of, to_end}
use Rattle.net_types.specs.Distance.{distance_at}
use Rattle.net_types.specs.FailSets.{holds}
use Rattle.net_types.specs.NetFacts.{IsEnd, IsLink, IsNet}
use Rattle.net_types.specs.NetValue.{NetValue}
use Rattle.net_types.specs.PrefixValue.{PrefixValue}
use Rattle.net_types.specs.Routes.{is_on}
use Rattle.net_types.specs.Owners.{entry_of}
use Rattle.concrete_algebra.specs.Carrying.{carry_gives, end_sends, end_takes, export_gives, import_gives}
use Rattle.concrete_algebra.specs.Laws.{CarriedPath, LocalPath, NetworksRoute}
use Rattle.concrete_algebra.specs.LocalRoutes.{local_of, originated, ospf_route, owner_route, route_by_entry}
use Rattle.concrete_algebra.specs.Maps.{map_gives}
use Rattle.concrete_algebra.specs.Problem.{problem_of}
use Rattle.concrete_algebra.proofs.OptionLemmas.{at_place, of_and_then}
use Rattle.concrete_algebra.proofs.PathLemmas.{IsSent, IsTaken, end_sends_path, end_takes_path, map_prepends, not_on_rest, once_more}

-- ---- the ends of an arc that is up

both : (p q : Bool) → (p && q) ≡ true → p ≡ true
both true q e = refl
both false q e = absurd (cc)

session_link : (o : Option Link) → option_map_or (λ link. link.session) o false ≡ true → (link : Link) × (o ≡ Some link)
session_link None e = absurd (cc)
session_link (Some link) e = (link, refl)

pub up_link : (net : NetValue) (failed : List ℕ) (arc : Arc) → is_up net failed arc ≡ true → (link : Link) × (link_of net arc ≡ Some link)
up_link net failed arc e = session_link (link_of net arc) (both (is_session net arc) (not (holds failed arc.link)) e)

from_valid : (net : NetValue) (down : Bool) (link : Link) → IsLink net.routers link → IsEnd net.routers (from_end down link)
from_valid net false link valid = valid.low
from_valid net true link valid = valid.high

to_valid : (net : NetValue) (down : Bool) (link : Link) → IsLink net.routers link → IsEnd net.routers (to_end down link)
to_valid net false link valid = valid.high
to_valid net true link valid = valid.low

ends_apart : (net : NetValue) (down : Bool) (link : Link) → IsLink net.routers link → (to_end down link).router ≢ (from_end down link).router
ends_apart net false link valid = λ e. let o = valid.order in omega arith
ends_apart net true link valid = λ e. let o = valid.order in omega arith

sender_is : (net : NetValue) (arc : Arc) (link : Link) → link_of net arc ≡ Some link → unwrap_or (sender_of net arc) 0 ≡ (from_end arc.down link).router
sender_is net arc link e = ap (λ (o : Option Link). unwrap_or (option_map (λ (l : Link). (from_end arc.down l).router) o) 0) e

receiver_is : (net : NetValue) (arc : Arc) (link : Link) → link_of net arc ≡ Some link → unwrap_or (receiver_of net arc) 0 ≡ (to_end arc.down link).router
receiver_is net arc link e = ap (λ (o : Option Link). unwrap_or (option_map (λ (l : Link). (to_end arc.down l).router) o) 0) e

-- ---- what an arc carries

-- the whole way over an arc, over plain numbers
pub record IsCarried (receiver sender : ℕ) (arc : Arc) (sent route : Route) : Type 0 where
  pub mine : ℕ
  pub theirs : ℕ
  pub few_mine : mine ≤ 10
  pub few_theirs : theirs ≤ 10
  pub path : route.path ≡ replicate mine receiver ++ (replicate (theirs + 1) sender ++ sent.path)
  pub fresh : is_on receiver sent.path ≡ false
  pub source : route.source ≡ Learned arc

whole_way : (receiver sender : ℕ) (arc : Arc) (first middle last : Route) → IsSent sender first middle → IsTaken receiver arc middle last → IsCarried receiver sender arc first last
whole_way receiver sender arc first middle last s t = record {
  mine = t.times;
  theirs = s.times;
  few_mine = t.few;
  few_theirs = s.few;
  path = t.path ∙ ap (λ (path : List ℕ). replicate t.times receiver ++ path) (s.path ∙ once_more s.times sender first.path);
  fresh = not_on_rest receiver sender s.times first.path (subst (λ (path : List ℕ). is_on receiver path ≡ false) s.path t.fresh);
  source = t.source;
}

export_path : (net : NetValue) → IsNet net → (prefix : PrefixValue) (arc : Arc) (link : Link) (route sent : Route) → link_of net arc ≡ Some link → export_gives net prefix arc route ≡ Some sent → IsSent (from_end arc.down link).router route sent
unfolding export_gives
export_path net valid prefix arc link route sent is e =
    let found = of_and_then (λ (l : Link). end_sends net prefix arc.down l route) (link_of net arc) sent e in
    let same : found.0 ≡ link = cc (found.1, is) in
    subst (λ (l : Link). IsSent (from_end arc.down l).router route sent) same (end_sends_path net valid prefix arc.down found.0 route sent found.2)

import_path : (net : NetValue) → IsNet net → (prefix : PrefixValue) (arc : Arc) (link : Link) (route taken : Route) → link_of net arc ≡ Some link → import_gives net prefix arc route ≡ Some taken → IsTaken (to_end arc.down link).router arc route taken
unfolding import_gives
import_path net valid prefix arc link route taken is e =
    let found = of_and_then (λ (l : Link). end_takes net prefix arc l route) (link_of net arc) taken e in
    let same : found.0 ≡ link = cc (found.1, is) in
    subst (λ (l : Link). IsTaken (to_end arc.down l).router arc route taken) same (end_takes_path net valid prefix arc found.0 route taken found.2)

carry_path : (net : NetValue) → IsNet net → (prefix : PrefixValue) (arc : Arc) (link : Link) (sent route : Route) → link_of net arc ≡ Some link → carry_gives net prefix arc sent ≡ Some route → IsCarried (to_end arc.down link).router (from_end arc.down link).router arc sent route
carry_path net valid prefix arc link sent route is e =
    let middle = of_and_then (λ (r : Route). import_gives net prefix arc r) (export_gives net prefix arc sent) route e in
    whole_way (to_end arc.down link).router (from_end arc.down link).router arc sent middle.0 route
    (export_path net valid prefix arc link sent middle.0 is middle.1)
    (import_path net valid prefix arc link middle.0 route is middle.2)

carried : (net : NetValue) → IsNet net → (prefix : PrefixValue) (failed : List ℕ) (distances : List (Option ℕ)) (arc : Arc) (sent route : Route) → is_up net failed arc ≡ true → carry_gives net prefix arc sent ≡ Some route → CarriedPath (problem_of net prefix failed distances) arc sent route
carried net valid prefix failed distances arc sent route up e =
    let found = up_link net failed arc up in
    let link = found.0 in
    let c = carry_path net valid prefix arc found.0 sent route found.1 e in
    let s = sender_is net arc found.0 found.1 in
    let r = receiver_is net arc found.0 found.1 in
    record {
      mine = c.mine;
      theirs = c.theirs;
      few_mine = c.few_mine;
      few_theirs = c.few_theirs;
      path = rw (s, r) c.path;
      fresh = rw r c.fresh;
      apart = rw (s, r) (ends_apart net arc.down found.0 (at_place (IsLink net.routers) net.links arc.link found.0 valid.links found.1));
      source = c.source;
    }

-- ---- what a router originates

local_path : (net : NetValue) → IsNet net → (prefix : PrefixValue) (u : ℕ) (policy : Policy) (origin : Origin) (med : ℕ) (route : Route) → map_gives net u policy prefix (originated origin med) ≡ Some route → LocalPath u route
local_path net valid prefix u policy origin med route e =
    let p = map_prepends net valid u policy prefix (originated origin med) route e in
    record { mine = p.times; few = p.few; path = p.path ∙ append-nil (replicate p.times u); source = p.source }

plain_path : (u : ℕ) (route : Route) → originated Igp 0 ≡ route → LocalPath u route
plain_path u route e = record { mine = 0; few = omega arith; path = sym (ap (λ (r : Route). r.path) e); source = sym (ap (λ (r : Route). r.source) e) }

owner_path : (net : NetValue) → IsNet net → (prefix : PrefixValue) (u : ℕ) (router : Router) (entry : Owned) (route : Route) → owner_route net prefix u router entry ≡ Some route → LocalPath u route
owner_path net valid prefix u router entry route e = go entry.network entry.stub e where
  go : (network stub : Bool) → (if network then Some (originated Igp 0) else (if stub then map_gives net u router.connected prefix (originated Incomplete 0) else None)) ≡ Some route → LocalPath u route
  go true stub e = plain_path u route (cc)
  go false true e = local_path net valid prefix u router.connected Incomplete 0 route e
  go false false e = absurd (cc)

ospf_path : (net : NetValue) → IsNet net → (prefix : PrefixValue) (u : ℕ) (router : Router) (distance : Option ℕ) (route : Route) → ospf_route net prefix u router distance ≡ Some route → LocalPath u route
ospf_path net valid prefix u router None route e = absurd (cc)
ospf_path net valid prefix u router (Some distance) route e = local_path net valid prefix u router.ospf Incomplete distance route e

entry_path : (net : NetValue) → IsNet net → (prefix : PrefixValue) (u : ℕ) (router : Router) (distance : Option ℕ) (entry : Option Owned) (route : Route) → route_by_entry net prefix u router distance entry ≡ Some route → LocalPath u route
entry_path net valid prefix u router distance (Some entry) route e = owner_path net valid prefix u router entry route e
entry_path net valid prefix u router distance None route e = ospf_path net valid prefix u router distance route e

local_is : (net : NetValue) → IsNet net → (prefix : PrefixValue) (u : ℕ) (distance : Option ℕ) (route : Route) → local_of net prefix u distance ≡ Some route → LocalPath u route
unfolding local_of
local_is net valid prefix u distance route e =
    let found = of_and_then (λ (router : Router). route_by_entry net prefix u router distance (entry_of prefix router.owned)) (slice_get net.routers u) route e in
    entry_path net valid prefix u found.0 distance (entry_of prefix found.0.owned) route found.2

pub networks_route : NetworksRoute
networks_route net prefix failed distances valid = record {
  few = valid.few_routers;
  few_links = valid.few_links;
  link = λ arc up. let found = up_link net failed arc up in slice_get_within net.links arc.link found.0 found.1;
  sender = λ arc up. let found = up_link net failed arc up in
      rw (sender_is net arc found.0 found.1) (from_valid net arc.down found.0 (at_place (IsLink net.routers) net.links arc.link found.0 valid.links found.1)).router;
  receiver = λ arc up. let found = up_link net failed arc up in
      rw (receiver_is net arc found.0 found.1) (to_valid net arc.down found.0 (at_place (IsLink net.routers) net.links arc.link found.0 valid.links found.1)).router;
  carried = λ arc sent route up e. carried net valid prefix failed distances arc sent route up e;
  local = λ u route e. local_is net valid prefix u (distance_at distances u) route e;
}

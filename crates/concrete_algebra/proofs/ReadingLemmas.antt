-- The definitions say what their readings say.
use Rattle.std.proofs.Common.{ℕ, ◌≡◌, ◌&&◌, ◌||◌, inl, inr, Bool, true, false, not, List, [], ◌∷◌, Option, Some, None, slice_get, unwrap_or, ap, sym, ◌∙◌, refl, if◌then◌else◌}
use Rattle.std.specs.Int.{bit_not, w64}
use Rattle.std.specs.Option.{option_and_then, option_map_or}
use Rattle.std.proofs.lemmas.List.Elements.{All-head, All-tail}
use Rattle.net_types.specs.declared.arcs.Arc.{Arc}
use Rattle.net_types.specs.declared.config.Origin.TheVariants.{Incomplete}
use Rattle.net_types.specs.declared.config.PrefixEntry.{PrefixEntry}
use Rattle.net_types.specs.declared.network.Link.{Link}
use Rattle.net_types.specs.declared.network.NetCommunityEntry.{NetCommunityEntry}
use Rattle.net_types.specs.declared.network.NetMapEntry.{NetMapEntry}
use Rattle.net_types.specs.declared.network.NetSetCommunity.{NetSetCommunity}
use Rattle.net_types.specs.declared.network.NetSetCommunity.TheVariants.{Keep, Replace, Add, Clear}
use Rattle.net_types.specs.declared.network.Owned.{Owned}
use Rattle.net_types.specs.declared.network.Policy.{Policy}
use Rattle.net_types.specs.declared.network.Policy.TheVariants.{Open}
use Rattle.net_types.specs.declared.network.Router.{Router}
use Rattle.net_types.specs.declared.routes.Route.{Route}
use Rattle.net_types.specs.declared.routes.Source.TheVariants.{Local}
use Rattle.net_types.specs.Arcs.{from_end, to_end}
use Rattle.net_types.specs.NetValue.{NetValue}
use Rattle.net_types.specs.Owners.{entry_of, is_owned}
use Rattle.net_types.specs.PrefixValue.{PrefixValue}
use Rattle.net_types.specs.Prefixes.{same_prefix}
use Rattle.net_types.specs.Sets.{has, is_part}
use Rattle.net_types.proofs.SetLemmas.{has_common, has_union}
use Rattle.net_types.specs.Routes.{is_on, sent_med}
use Rattle.concrete_algebra.specs.Carrying.{as_received, carry_gives, end_takes, export_gives, import_gives, is_kept_home, learned_over, sent_by}
use Rattle.concrete_algebra.specs.LocalRoutes.{local_of, originated, route_by_entry}
use Rattle.concrete_algebra.specs.Maps.{community_entries, community_list_permits, deleted_by, entries_give, entry_gives, entry_matches, map_gives, under_sets, without_deleted, prefix_entry_matches, prefix_list_permits}
use Rattle.concrete_algebra.specs.Readings.{DeletesByMember, FirstCommunityPermits, FirstEntryGives, FirstPrefixPermits, ImportsSet, IsFirstToTakeIn, IsOpenArc, NoEntryGives, OpenArcsCarry, OpenOspfBrings, OthersLeaveTheirs, OthersMayTakeTheirs, OwnersBring, OwnersByOwning, OwnersKeepTheirs, SetCommunitiesAreHeld, SetsByMember, arriving, has_after, names_community, originating}
use Rattle.concrete_algebra.specs.Stability.{comes_over_arc, is_learned, label_at}
use Rattle.concrete_algebra.proofs.DeleteLemmas.{deletes_are_named, deletes_small, has_none, has_others}
use Rattle.concrete_algebra.proofs.OptionLemmas.{of_map, of_none_if, of_some_if}

-- ---- the first entry that matches decides

pub first_entry_gives : FirstEntryGives
unfolding entries_give
first_entry_gives router u prefix [] later entry route none is = rw is refl
first_entry_gives router u prefix (e ∷ before) later entry route none is =
    let head = All-head (λ (e : NetMapEntry). entry_matches router prefix e route.communities ≡ false) e before none in
    let tail = All-tail (λ (e : NetMapEntry). entry_matches router prefix e route.communities ≡ false) e before none in
    rw head (first_entry_gives router u prefix before later entry route tail is)

pub no_entry_gives : NoEntryGives
unfolding entries_give
no_entry_gives router u prefix [] route none = refl
no_entry_gives router u prefix (e ∷ before) route none =
    let head = All-head (λ (e : NetMapEntry). entry_matches router prefix e route.communities ≡ false) e before none in
    let tail = All-tail (λ (e : NetMapEntry). entry_matches router prefix e route.communities ≡ false) e before none in
    rw head (no_entry_gives router u prefix before route tail)

pub first_prefix_permits : FirstPrefixPermits
unfolding prefix_list_permits
first_prefix_permits prefix [] later entry none is = rw is refl
first_prefix_permits prefix (e ∷ before) later entry none is =
    let head = All-head (λ (e : PrefixEntry). prefix_entry_matches prefix e ≡ false) e before none in
    let tail = All-tail (λ (e : PrefixEntry). prefix_entry_matches prefix e ≡ false) e before none in
    rw head (first_prefix_permits prefix before later entry tail is)

pub first_community_permits : FirstCommunityPermits
unfolding community_list_permits
first_community_permits held [] later entry none is = rw is refl
first_community_permits held (e ∷ before) later entry none is =
    let head = All-head (λ (e : NetCommunityEntry). is_part e.values held ≡ false) e before none in
    let tail = All-tail (λ (e : NetCommunityEntry). is_part e.values held ≡ false) e before none in
    rw head (first_community_permits held before later entry tail is)

-- ---- sets of communities, asked of one community

pub sets_by_member : SetsByMember
sets_by_member Keep held community = refl
sets_by_member (Replace values) held community = refl
sets_by_member (Add values) held community = has_union held values community
sets_by_member Clear held community = has_none community

pub deletes_by_member : DeletesByMember
deletes_by_member count router position held community valid low =
    let entries = community_entries router position in
    has_common held (bit_not w64 (deleted_by entries)) community ∙
    ap (λ (b : Bool). has held community && b) (has_others (deleted_by entries) community (deletes_small count entries valid) low ∙ ap not (deletes_are_named count entries community valid low))

set_is_held : (set : NetSetCommunity) (held : Bool) (community : ℕ) → names_community set community ≡ true → has_after set held community ≡ true
set_is_held Keep held community e = absurd (cc)
set_is_held (Replace values) held community e = e
set_is_held (Add values) true community e = refl
set_is_held (Add values) false community e = e
set_is_held Clear held community e = absurd (cc)

pub set_communities_are_held : SetCommunitiesAreHeld
unfolding under_sets
set_communities_are_held router u entry route given community is named =
    let under = of_some_if entry.permit (under_sets router u entry.sets route) given is in
    let left = without_deleted router entry.sets.delete route.communities in
    ap (λ (r : Route). has r.communities community) (sym under) ∙
    (sets_by_member entry.sets.community left community ∙ set_is_held entry.sets.community (has left community) community named)

-- ---- an arc whose sides are open

open_gives : (net : NetValue) (u : ℕ) (policy : Policy) (prefix : PrefixValue) (route : Route) → policy ≡ Open → map_gives net u policy prefix route ≡ Some route
unfolding map_gives
open_gives net u policy prefix route e = rw e refl

open_sends : (net : NetValue) (prefix : PrefixValue) (arc : Arc) (link : Link) (route : Route) → IsOpenArc net arc link →
    export_gives net prefix arc route ≡ (if is_kept_home net route.communities then None else Some (sent_by (from_end arc.down link).router (record route { med = sent_med route.source route.med })))
unfolding export_gives
open_sends net prefix arc link route h =
    let e = open_gives net (from_end arc.down link).router (from_end arc.down link).export prefix (record route { med = sent_med route.source route.med }) h.out in
    rw h.is (rw e refl)

open_takes : (net : NetValue) (prefix : PrefixValue) (arc : Arc) (link : Link) (route : Route) → IsOpenArc net arc link →
    import_gives net prefix arc route ≡ (if is_on (to_end arc.down link).router route.path then None else Some (learned_over arc (as_received route)))
unfolding import_gives
open_takes net prefix arc link route h =
    let e = open_gives net (to_end arc.down link).router (to_end arc.down link).import prefix (as_received route) h.inward in
    rw h.is (rw e refl)

sent_then_taken : (net : NetValue) (prefix : PrefixValue) (arc : Arc) (link : Link) (route : Route) → IsOpenArc net arc link → is_kept_home net route.communities ≡ false →
    carry_gives net prefix arc route ≡
    (if is_on (to_end arc.down link).router ((from_end arc.down link).router ∷ route.path) then None else Some (arriving arc (from_end arc.down link).router route))
sent_then_taken net prefix arc link route h away =
    let e = open_sends net prefix arc link route h in
    let f : export_gives net prefix arc route ≡ Some (sent_by (from_end arc.down link).router (record route { med = sent_med route.source route.med })) = e ∙ rw away refl in
    rw f (open_takes net prefix arc link (sent_by (from_end arc.down link).router (record route { med = sent_med route.source route.med })) h)

pub open_arcs_carry : OpenArcsCarry
open_arcs_carry net prefix arc link route h = record {
  home = λ kept. let e = open_sends net prefix arc link route h in let f : export_gives net prefix arc route ≡ None = e ∙ rw kept refl in rw f refl;
  loop = λ on. go (is_kept_home net route.communities) refl on;
  arrives = λ away off. sent_then_taken net prefix arc link route h away ∙ rw off refl;
} where
  go : (kept : Bool) → is_kept_home net route.communities ≡ kept → is_on (to_end arc.down link).router ((from_end arc.down link).router ∷ route.path) ≡ true → carry_gives net prefix arc route ≡ None
  go true k on = let e = open_sends net prefix arc link route h in let f : export_gives net prefix arc route ≡ None = e ∙ rw k refl in rw f refl
  go false k on = sent_then_taken net prefix arc link route h k ∙ rw on refl

-- ---- weight and preference of what is carried

-- the receiver's map, by its first entry that matches
taken_by_entry : (net : NetValue) (prefix : PrefixValue) (arc : Arc) (entry : NetMapEntry) (sent : Route) → (first : IsFirstToTakeIn net prefix arc sent.communities entry) →
    map_gives net (to_end arc.down first.link).router (to_end arc.down first.link).import prefix (as_received sent) ≡
    entry_gives first.router (to_end arc.down first.link).router entry (as_received sent)
unfolding map_gives
taken_by_entry net prefix arc entry sent first =
    let decides = first_entry_gives first.router (to_end arc.down first.link).router prefix first.before first.later entry (as_received sent) first.none first.matches in
    rw first.import (rw first.receiver (rw first.entries decides))

set_on_import : (router : Router) (u : ℕ) (arc : Arc) (entry : NetMapEntry) (sent given carried : Route) → entry_gives router u entry (as_received sent) ≡ Some given → learned_over arc given ≡ carried →
    (carried.weight ≡ unwrap_or entry.sets.weight 0) × (carried.preference ≡ unwrap_or entry.sets.preference 100)
unfolding under_sets
set_on_import router u arc entry sent given carried is learned =
    let under = of_some_if entry.permit (under_sets router u entry.sets (as_received sent)) given is in (
      ap (λ (r : Route). r.weight) (sym learned) ∙ ap (λ (r : Route). r.weight) (sym under),
      ap (λ (r : Route). r.preference) (sym learned) ∙ ap (λ (r : Route). r.preference) (sym under),
    )

pub imports_set : ImportsSet
unfolding import_gives
imports_set net prefix arc entry route sent carried out first is =
    let taken : import_gives net prefix arc sent ≡ Some carried = sym (ap (λ (o : Option Route). option_and_then (λ (s : Route). import_gives net prefix arc s) o) out) ∙ is in
    let over : end_takes net prefix arc first.link sent ≡ Some carried = sym (ap (λ (o : Option Link). option_and_then (λ (l : Link). end_takes net prefix arc l sent) o) first.is) ∙ taken in
    let fresh = of_none_if (is_on (to_end arc.down first.link).router sent.path) _ carried over in
    let given = of_map (learned_over arc) (map_gives net (to_end arc.down first.link).router (to_end arc.down first.link).import prefix (as_received sent)) carried fresh.1 in
    set_on_import first.router (to_end arc.down first.link).router arc entry sent given.0 carried (sym (taken_by_entry net prefix arc entry sent first) ∙ given.1) given.2

-- ---- owners

found_owner : (prefix : PrefixValue) (owned : List Owned) → is_owned prefix owned ≡ true → (entry : Owned) × (entry_of prefix owned ≡ Some entry)
found_owner prefix [] e = absurd (cc)
found_owner prefix (first ∷ later) e = go (same_prefix first.prefix prefix) refl e (found_owner prefix later) where
  go : (same : Bool) → same_prefix first.prefix prefix ≡ same → (same || is_owned prefix later) ≡ true → (is_owned prefix later ≡ true → (entry : Owned) × (entry_of prefix later ≡ Some entry)) →
      (entry : Owned) × ((if same then Some first else entry_of prefix later) ≡ Some entry)
  go true s e more = (first, refl)
  go false s e more = more e

no_owner : (prefix : PrefixValue) (owned : List Owned) → is_owned prefix owned ≡ false → entry_of prefix owned ≡ None
no_owner prefix [] e = refl
no_owner prefix (first ∷ later) e = go (same_prefix first.prefix prefix) e (no_owner prefix later) where
  go : (same : Bool) → (same || is_owned prefix later) ≡ false → (is_owned prefix later ≡ false → entry_of prefix later ≡ None) → (if same then Some first else entry_of prefix later) ≡ None
  go true e more = absurd (cc)
  go false e more = more e

owner_at : (net : NetValue) (prefix : PrefixValue) (u : ℕ) (distance : Option ℕ) (router : Router) → is_owned prefix router.owned ≡ true →
    route_by_entry net prefix u router distance (entry_of prefix router.owned) ≡ route_by_entry net prefix u router None (entry_of prefix router.owned)
owner_at net prefix u distance router e = let f = found_owner prefix router.owned e in rw f.1 refl

other_at : (net : NetValue) (prefix : PrefixValue) (u : ℕ) (router : Router) → is_owned prefix router.owned ≡ false →
    route_by_entry net prefix u router None (entry_of prefix router.owned) ≡ None
other_at net prefix u router e = rw (no_owner prefix router.owned e) refl

pub owners_by_owning : OwnersByOwning
unfolding local_of
owners_by_owning net prefix u distance = ((λ e. owner (slice_get net.routers u) e), (λ e. other (slice_get net.routers u) e)) where
  owner : (o : Option Router) → option_map_or (λ (router : Router). is_owned prefix router.owned) o false ≡ true →
      option_and_then (λ (router : Router). route_by_entry net prefix u router distance (entry_of prefix router.owned)) o ≡
      option_and_then (λ (router : Router). route_by_entry net prefix u router None (entry_of prefix router.owned)) o
  owner None e = refl
  owner (Some router) e = owner_at net prefix u distance router e

  other : (o : Option Router) → option_map_or (λ (router : Router). is_owned prefix router.owned) o false ≡ false →
      option_and_then (λ (router : Router). route_by_entry net prefix u router None (entry_of prefix router.owned)) o ≡ None
  other None e = refl
  other (Some router) e = other_at net prefix u router e

-- ---- what routers originate

ospf_at : (net : NetValue) (prefix : PrefixValue) (u distance : ℕ) (router : Router) → is_owned prefix router.owned ≡ false → router.ospf ≡ Open →
    route_by_entry net prefix u router (Some distance) (entry_of prefix router.owned) ≡ Some (originating Incomplete distance)
ospf_at net prefix u distance router e free = rw (no_owner prefix router.owned e) (open_gives net u router.ospf prefix (originated Incomplete distance) free)

pub open_ospf_brings : OpenOspfBrings
unfolding local_of
open_ospf_brings net prefix u distance router is other free =
    let e : is_owned prefix router.owned ≡ false = sym (ap (λ (o : Option Router). option_map_or (λ (r : Router). is_owned prefix r.owned) o false) is) ∙ other in
    rw is (ospf_at net prefix u distance router e free)

owner_gives : (net : NetValue) (prefix : PrefixValue) (u : ℕ) (distance : Option ℕ) (router : Router) (entry : Owned) → slice_get net.routers u ≡ Some router → entry_of prefix router.owned ≡ Some entry →
    local_of net prefix u distance ≡ route_by_entry net prefix u router distance (Some entry)
unfolding local_of
owner_gives net prefix u distance router entry is owned = rw is (rw owned refl)

pub owners_bring : OwnersBring
owners_bring net prefix u distance router entry is owned =
    let given = owner_gives net prefix u distance router entry is owned in
    record {
      network = λ named. given ∙ rw named refl;
      connected = λ unnamed stub free. given ∙ rw unnamed (rw stub (open_gives net u router.connected prefix (originated Incomplete 0) free));
      nothing = λ unnamed none. given ∙ rw unnamed (rw none refl);
    }

-- ---- the local route as a candidate

pub owners_keep_theirs : OwnersKeepTheirs
owners_keep_theirs net prefix failed distances labels u route owner is = inr (record { local = is; may = inl owner })

none_learned : (label : Option Route) → ((held : Route) → label ≡ Some held → held.source ≡ Local) → is_learned label ≡ false
none_learned None all = refl
none_learned (Some held) all = ap comes_over_arc (all held refl)

pub others_may_take_theirs : OthersMayTakeTheirs
others_may_take_theirs net prefix failed distances labels u route none is = inr (record { local = is; may = inr (none_learned (label_at labels u) none.is) })

pub others_leave_theirs : OthersLeaveTheirs
others_leave_theirs net prefix failed distances labels u held route over other is learned (inl arrives) = arrives
others_leave_theirs net prefix failed distances labels u held route over other is learned (inr local) =
    let e : is_learned (label_at labels u) ≡ true = ap is_learned is ∙ ap comes_over_arc learned in
    elim local.may [
      | inl owner ↦ absurd (let f : true ≡ false = sym owner ∙ other in cc)
      | inr unlearned ↦ absurd (let f : true ≡ false = sym e ∙ unlearned in cc)
    ]

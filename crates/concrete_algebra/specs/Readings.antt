-- The rules once more, in other words. Each definition is proved to say the same as its reading here.
use Rattle.std.specs.Prelude.{ℕ, ◌≡◌, ◌<◌, ◌++◌, ◌&&◌, ◌||◌, Bool, true, false, not, List, [], ◌∷◌, Option, Some, None, All, slice_get, unwrap_or}
use Rattle.net_types.specs.declared.arcs.Arc.{Arc}
use Rattle.net_types.specs.declared.config.Origin.{Origin}
use Rattle.net_types.specs.declared.config.Origin.TheVariants.{Igp, Incomplete}
use Rattle.net_types.specs.declared.config.PrefixEntry.{PrefixEntry}
use Rattle.net_types.specs.declared.network.Link.{Link}
use Rattle.net_types.specs.declared.network.NetCommunityEntry.{NetCommunityEntry}
use Rattle.net_types.specs.declared.network.NetMapEntry.{NetMapEntry}
use Rattle.net_types.specs.declared.network.NetSetCommunity.{NetSetCommunity}
use Rattle.net_types.specs.declared.network.NetSetCommunity.TheVariants.{Keep, Replace, Add, Clear}
use Rattle.net_types.specs.declared.network.Owned.{Owned}
use Rattle.net_types.specs.declared.network.Policy.TheVariants.{Open, Map}
use Rattle.net_types.specs.declared.network.Router.{Router}
use Rattle.net_types.specs.declared.routes.Route.{Route}
use Rattle.net_types.specs.declared.routes.Source.TheVariants.{Local, Learned}
use Rattle.net_types.specs.Arcs.{from_end, link_of, to_end}
use Rattle.net_types.specs.Distance.{distance_at}
use Rattle.net_types.specs.NetFacts.{IsNetCommunityEntry}
use Rattle.net_types.specs.NetValue.{NetValue}
use Rattle.net_types.specs.Owners.{entry_of, owns}
use Rattle.net_types.specs.PrefixValue.{PrefixValue}
use Rattle.net_types.specs.Sets.{has, is_part}
use Rattle.net_types.specs.Routes.{is_on, sent_med}
use Rattle.concrete_algebra.specs.Carrying.{carry_gives, export_gives, is_kept_home}
use Rattle.concrete_algebra.specs.LocalRoutes.{local_of}
use Rattle.concrete_algebra.specs.Maps.{community_entries, community_list_permits, entries_give, entry_gives, entry_matches, is_deleted, map_entries, prefix_entry_matches, prefix_list_permits, with_set, without_deleted}
use Rattle.concrete_algebra.specs.Problem.{problem_of}
use Rattle.concrete_algebra.specs.Stability.{Arrives, IsCandidate, label_at}

-- ---- the first entry that matches decides

abbrev pub FirstEntryGives : Type 0
FirstEntryGives =
    (router : Router) (u : ℕ) (prefix : PrefixValue) (before later : List NetMapEntry) (entry : NetMapEntry) (route : Route) →
    All (λ (e : NetMapEntry). entry_matches router prefix e route.communities ≡ false) before →
    entry_matches router prefix entry route.communities ≡ true →
    entries_give router u prefix (before ++ entry ∷ later) route ≡ entry_gives router u entry route

abbrev pub NoEntryGives : Type 0
NoEntryGives =
    (router : Router) (u : ℕ) (prefix : PrefixValue) (entries : List NetMapEntry) (route : Route) →
    All (λ (e : NetMapEntry). entry_matches router prefix e route.communities ≡ false) entries →
    entries_give router u prefix entries route ≡ None

abbrev pub FirstPrefixPermits : Type 0
FirstPrefixPermits =
    (prefix : PrefixValue) (before later : List PrefixEntry) (entry : PrefixEntry) →
    All (λ (e : PrefixEntry). prefix_entry_matches prefix e ≡ false) before → prefix_entry_matches prefix entry ≡ true →
    prefix_list_permits prefix (before ++ entry ∷ later) ≡ entry.permit

abbrev pub FirstCommunityPermits : Type 0
FirstCommunityPermits =
    (held : ℕ) (before later : List NetCommunityEntry) (entry : NetCommunityEntry) →
    All (λ (e : NetCommunityEntry). is_part e.values held ≡ false) before → is_part entry.values held ≡ true →
    community_list_permits held (before ++ entry ∷ later) ≡ entry.permit

-- ---- sets of communities, asked of one community

-- after `set community`
abbrev pub has_after : NetSetCommunity → Bool → ℕ → Bool
has_after Keep held community = held
has_after (Replace values) held community = has values community
has_after (Add values) held community = held || has values community
has_after Clear held community = false

abbrev pub SetsByMember : Type 0
SetsByMember =
    (set : NetSetCommunity) (held community : ℕ) →
    has (with_set set held) community ≡ has_after set (has held community) community

abbrev pub DeletesByMember : Type 0
DeletesByMember =
    (count : ℕ) (router : Router) (position held community : ℕ) →
    All (IsNetCommunityEntry count) (community_entries router position) → community < 64 →
    has (without_deleted router (Some position) held) community ≡
    (has held community && not (is_deleted community (community_entries router position)))

-- a `set community` that adds or replaces names the community
abbrev pub names_community : NetSetCommunity → ℕ → Bool
names_community Keep community = false
names_community (Replace values) community = has values community
names_community (Add values) community = has values community
names_community Clear community = false

-- what an entry adds or puts in place of others is held afterwards, also where the entry's list deletes it
abbrev pub SetCommunitiesAreHeld : Type 0
SetCommunitiesAreHeld =
    (router : Router) (u : ℕ) (entry : NetMapEntry) (route given : Route) (community : ℕ) →
    entry_gives router u entry route ≡ Some given → names_community entry.sets.community community ≡ true →
    has given.communities community ≡ true

-- ---- an arc whose sides are open

-- the arc is of this link, and its two sides are open
pub record IsOpenArc (net : NetValue) (arc : Arc) (link : Link) : Type 0 where
  pub is : link_of net arc ≡ Some link
  pub out : (from_end arc.down link).export ≡ Open
  pub inward : (to_end arc.down link).import ≡ Open

-- the route as it arrives
abbrev pub arriving : Arc → ℕ → Route → Route
arriving arc sender route =
    record {
      weight = 0;
      preference = 100;
      path = sender ∷ route.path;
      origin = route.origin;
      med = sent_med route.source route.med;
      communities = route.communities;
      source = Learned arc;
    }

-- what an open arc carries: nothing that is kept home, and nothing whose path has the receiver
pub record OpenArcCarries (net : NetValue) (prefix : PrefixValue) (arc : Arc) (link : Link) (route : Route) : Type 0 where
  pub home : is_kept_home net route.communities ≡ true → carry_gives net prefix arc route ≡ None
  pub loop : is_on (to_end arc.down link).router ((from_end arc.down link).router ∷ route.path) ≡ true →
      carry_gives net prefix arc route ≡ None
  pub arrives : is_kept_home net route.communities ≡ false →
      is_on (to_end arc.down link).router ((from_end arc.down link).router ∷ route.path) ≡ false →
      carry_gives net prefix arc route ≡ Some (arriving arc (from_end arc.down link).router route)

abbrev pub OpenArcsCarry : Type 0
OpenArcsCarry =
    (net : NetValue) (prefix : PrefixValue) (arc : Arc) (link : Link) (route : Route) → IsOpenArc net arc link →
    OpenArcCarries net prefix arc link route

-- ---- weight and preference of what is carried

-- the entry is the first of its map that matches a route for the prefix with these communities, and the map is the
-- one through which the receiver of the arc takes routes in
pub record IsFirstToTakeIn (net : NetValue) (prefix : PrefixValue) (arc : Arc) (held : ℕ) (entry : NetMapEntry) : Type 0 where
  pub link : Link
  pub router : Router
  pub position : ℕ
  pub before : List NetMapEntry
  pub later : List NetMapEntry
  pub is : link_of net arc ≡ Some link
  pub receiver : slice_get net.routers (to_end arc.down link).router ≡ Some router
  pub import : (to_end arc.down link).import ≡ Map position
  pub entries : map_entries router position ≡ before ++ entry ∷ later
  pub none : All (λ (e : NetMapEntry). entry_matches router prefix e held ≡ false) before
  pub matches : entry_matches router prefix entry held ≡ true

-- what is carried has the weight and the preference that this entry sets, else 0 and 100, whatever the sender has
abbrev pub ImportsSet : Type 0
ImportsSet =
    (net : NetValue) (prefix : PrefixValue) (arc : Arc) (entry : NetMapEntry) (route sent carried : Route) →
    export_gives net prefix arc route ≡ Some sent → IsFirstToTakeIn net prefix arc sent.communities entry →
    carry_gives net prefix arc route ≡ Some carried →
    (carried.weight ≡ unwrap_or entry.sets.weight 0) × (carried.preference ≡ unwrap_or entry.sets.preference 100)

-- ---- owners and OSPF's routes

-- an owner's local route is not by its distance, and another router has none without a distance
abbrev pub OwnersByOwning : Type 0
OwnersByOwning =
    (net : NetValue) (prefix : PrefixValue) (u : ℕ) (distance : Option ℕ) →
    (owns net u prefix ≡ true → local_of net prefix u distance ≡ local_of net prefix u None) ×
    (owns net u prefix ≡ false → local_of net prefix u None ≡ None)

-- a route as a router originates it
abbrev pub originating : Origin → ℕ → Route
originating origin med =
    record { weight = 32768; preference = 100; path = []; origin = origin; med = med; communities = 0; source = Local }

-- a router that is no owner, and redistributes OSPF's routes as they are, originates exactly this route: its MED is
-- the distance
abbrev pub OpenOspfBrings : Type 0
OpenOspfBrings =
    (net : NetValue) (prefix : PrefixValue) (u distance : ℕ) (router : Router) → slice_get net.routers u ≡ Some router →
    owns net u prefix ≡ false → router.ospf ≡ Open →
    local_of net prefix u (Some distance) ≡ Some (originating Incomplete distance)

-- so does an owner: what a `network` line names, whatever is redistributed; and else the prefix of a stub, where
-- connected prefixes are redistributed as they are
pub record OwnerBrings (net : NetValue) (prefix : PrefixValue) (u : ℕ) (distance : Option ℕ) (router : Router) (entry : Owned)
    : Type 0 where
  pub network : entry.network ≡ true → local_of net prefix u distance ≡ Some (originating Igp 0)
  pub connected : entry.network ≡ false → entry.stub ≡ true → router.connected ≡ Open →
      local_of net prefix u distance ≡ Some (originating Incomplete 0)
  pub nothing : entry.network ≡ false → entry.stub ≡ false → local_of net prefix u distance ≡ None

abbrev pub OwnersBring : Type 0
OwnersBring =
    (net : NetValue) (prefix : PrefixValue) (u : ℕ) (distance : Option ℕ) (router : Router) (entry : Owned) →
    slice_get net.routers u ≡ Some router → entry_of prefix router.owned ≡ Some entry →
    OwnerBrings net prefix u distance router entry

-- ---- the local route as a candidate

-- of an owner, whatever it holds
abbrev pub OwnersKeepTheirs : Type 0
OwnersKeepTheirs =
    (net : NetValue) (prefix : PrefixValue) (failed : List ℕ) (distances : List (Option ℕ)) (labels : List (Option Route)) (u : ℕ) (route : Route) →
    owns net u prefix ≡ true → local_of net prefix u (distance_at distances u) ≡ Some route →
    IsCandidate (problem_of net prefix failed distances) labels u route

-- of another router, where it holds none, or holds one that is local
pub record HoldsNoneLearned (labels : List (Option Route)) (u : ℕ) : Type 0 where
  pub is : (held : Route) → label_at labels u ≡ Some held → held.source ≡ Local

abbrev pub OthersMayTakeTheirs : Type 0
OthersMayTakeTheirs =
    (net : NetValue) (prefix : PrefixValue) (failed : List ℕ) (distances : List (Option ℕ)) (labels : List (Option Route)) (u : ℕ) (route : Route) →
    HoldsNoneLearned labels u → local_of net prefix u (distance_at distances u) ≡ Some route →
    IsCandidate (problem_of net prefix failed distances) labels u route

-- and not where it holds a learned one: each candidate comes over an arc then
abbrev pub OthersLeaveTheirs : Type 0
OthersLeaveTheirs =
    (net : NetValue) (prefix : PrefixValue) (failed : List ℕ) (distances : List (Option ℕ)) (labels : List (Option Route)) (u : ℕ)
    (held route : Route) (over : Arc) → owns net u prefix ≡ false → label_at labels u ≡ Some held → held.source ≡ Learned over →
    IsCandidate (problem_of net prefix failed distances) labels u route →
    (arc : Arc) × (sent : Route) × Arrives (problem_of net prefix failed distances) labels u arc sent route

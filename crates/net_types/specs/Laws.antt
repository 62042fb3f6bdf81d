-- What is true of all addresses, prefixes, texts, routes, arcs, owners and sets. The definitions that the code is
-- proved against say each rule once; these say in other words what has to come out of them.
use Rattle.std.specs.Prelude.{ℕ, ◌≡◌, ◌≢◌, ◌<◌, ◌≤◌, ◌^◌, ◌-◌, ◌/◌, ◌↔◌, ◌⊎◌, ◌==◌, ◌&&◌, ◌||◌, ◌+◌, ◌*◌, true, false, not, List, length, slice_get, Some, bit_and, bit_or, codes}
use Rattle.std.specs.Fmt.{decimal}
use Rattle.std.specs.Int.{bit_not, w64}
use Rattle.net_types.specs.declared.arcs.Arc.{Arc}
use Rattle.net_types.specs.declared.config.Origin.{Origin}
use Rattle.net_types.specs.declared.config.Origin.TheVariants.{Igp, Egp, Incomplete}
use Rattle.net_types.specs.declared.routes.Source.TheVariants.{Local, Learned}
use Rattle.net_types.specs.declared.routes.Route.{Route}
use Rattle.net_types.specs.declared.network.Link.{Link}
use Rattle.net_types.specs.declared.network.Owned.{Owned}
use Rattle.net_types.specs.declared.network.Router.{Router}
use Rattle.net_types.specs.Addresses.{address_of}
use Rattle.net_types.specs.AddressTexts.{address_text, prefix_text}
use Rattle.net_types.specs.Communities.{community_of}
use Rattle.net_types.specs.Numerals.{number_in}
use Rattle.net_types.specs.Then.{◌then◌}
use Rattle.net_types.specs.Arcs.{up_of, down_of, sender_of, receiver_of}
use Rattle.net_types.specs.Better.{is_better}
use Rattle.net_types.specs.Distance.{Crosses}
use Rattle.net_types.specs.FailSets.{IsFailureSet, holds, without}
use Rattle.net_types.specs.NetFacts.{IsNet, no_export, no_advertise}
use Rattle.net_types.specs.NetValue.{NetValue}
use Rattle.net_types.specs.Owners.{owns, stub_cost}
use Rattle.net_types.specs.Sets.{has}
use Rattle.net_types.specs.PrefixValue.{PrefixValue, IsPrefix}
use Rattle.net_types.specs.Masks.{masked}
use Rattle.net_types.specs.Prefixes.{covers, overlaps, same_prefix, prefix_before, prefix_of}

-- the address lies in the prefix: the first bits of the two are the same
pub record IsIn (address : ℕ) (p : PrefixValue) : Type 0 where
  pub word : address < 2 ^ 32
  pub first : address / 2 ^ (32 - p.len) ≡ p.bits / 2 ^ (32 - p.len)

-- an address with the bits past a length cleared is a prefix, and the address lies in it
abbrev pub AddressesLieInTheirSubnets : Type 0
AddressesLieInTheirSubnets =
    (address len : ℕ) → address < 2 ^ 32 → len ≤ 32 → IsPrefix (masked address len) × IsIn address (masked address len)

-- a prefix covers the other exactly where each address of the other lies in it
abbrev pub CoversEachAddress : Type 0
CoversEachAddress =
    (p q : PrefixValue) → IsPrefix p → IsPrefix q →
    (covers p q ≡ true) ↔ ((address : ℕ) → IsIn address q → IsIn address p)

-- two prefixes overlap exactly where some address lies in both
abbrev pub OverlapsAtAnAddress : Type 0
OverlapsAtAnAddress =
    (p q : PrefixValue) → IsPrefix p → IsPrefix q →
    (overlaps p q ≡ true) ↔ ((address : ℕ) × IsIn address p × IsIn address q)

-- the test for one prefix
abbrev pub SamePrefixIsOne : Type 0
SamePrefixIsOne = (p q : PrefixValue) → (same_prefix p q ≡ true) ↔ (p ≡ q)

-- prefixes have one order: of two that differ exactly one comes first, and what is before a later one is before
abbrev pub PrefixesAreApart : Type 0
PrefixesAreApart = (p q : PrefixValue) → p ≢ q → (prefix_before p q ≡ true) ⊎ (prefix_before q p ≡ true)

abbrev pub OnePrefixIsFirst : Type 0
OnePrefixIsFirst = (p q : PrefixValue) → prefix_before p q ≡ true → prefix_before q p ≡ false

abbrev pub EarlierIsEarlier : Type 0
EarlierIsEarlier = (p q r : PrefixValue) → prefix_before p q ≡ true → prefix_before q r ≡ true → prefix_before p r ≡ true

-- a prefix comes before those that it covers
abbrev pub CoveringComesFirst : Type 0
CoveringComesFirst = (p q : PrefixValue) → covers p q ≡ true → p ≢ q → prefix_before p q ≡ true

-- the route was learned over some arc
abbrev pub IsLearned : Route → Type 0
IsLearned route = (arc : Arc) × (route.source ≡ Learned arc)

-- the route is originated by its router
abbrev pub IsLocal : Route → Type 0
IsLocal route = route.source ≡ Local

-- both are local, or both are learned
abbrev pub AreOfOneKind : Route → Route → Type 0
AreOfOneKind a b = (IsLocal a × IsLocal b) ⊎ (IsLearned a × IsLearned b)

-- the first origin is preferred
abbrev pub IsLowerOrigin : Origin → Origin → Type 0
IsLowerOrigin Igp Egp = Unit {0}
IsLowerOrigin Igp Incomplete = Unit {0}
IsLowerOrigin Egp Incomplete = Unit {0}
IsLowerOrigin _ _ = ⊥

-- both routes come from one router, maybe over two links, and the MED of a is less
abbrev pub HasLessMed : NetValue → Route → Route → Type 0
HasLessMed net a b =
    (over : Arc) × (other : Arc) × (sender : ℕ) × (a.source ≡ Learned over) × (b.source ≡ Learned other) ×
    (sender_of net over ≡ Some sender) × (sender_of net other ≡ Some sender) × (a.med < b.med)

-- a has more weight; or as much, and more preference; and so on; after MED nothing decides
abbrev pub IsAhead : NetValue → Route → Route → Type 0
IsAhead net a b =
    (b.weight < a.weight) ⊎ ((b.weight ≡ a.weight) ×
    ((b.preference < a.preference) ⊎ ((b.preference ≡ a.preference) ×
    ((IsLocal a × IsLearned b) ⊎ (AreOfOneKind a b ×
    ((length a.path < length b.path) ⊎ ((length a.path ≡ length b.path) ×
    (IsLowerOrigin a.origin b.origin ⊎ ((a.origin ≡ b.origin) × HasLessMed net a b)))))))))

-- a route is better exactly where it is ahead
abbrev pub BetterIsAhead : Type 0
BetterIsAhead = (net : NetValue) (a b : Route) → (is_better net a b ≡ true) ↔ IsAhead net a b

-- of two routes one is better at most, and so none is better than itself
abbrev pub OneIsBetter : Type 0
OneIsBetter = (net : NetValue) (a b : Route) → is_better net a b ≡ true → is_better net b a ≡ false

-- what is better than a better one is better
abbrev pub BetterGoesOn : Type 0
BetterGoesOn =
    (net : NetValue) (a b c : Route) → is_better net a b ≡ true → is_better net b c ≡ true → is_better net a c ≡ true

-- one arc of a link goes from the lower router number to the higher, and the other back
abbrev pub UpGoesToTheHigher : Type 0
UpGoesToTheHigher =
    (net : NetValue) (link u v : ℕ) → IsNet net → sender_of net (up_of link) ≡ Some u → receiver_of net (up_of link) ≡ Some v → u < v

abbrev pub DownGoesBack : Type 0
DownGoesBack =
    (net : NetValue) (link : ℕ) → (sender_of net (down_of link) ≡ receiver_of net (up_of link)) ×
    (receiver_of net (down_of link) ≡ sender_of net (up_of link))

-- an adjacency that is up is crossed both ways, each at the cost of the interface that it is left by
abbrev pub AdjacenciesAreCrossed : Type 0
AdjacenciesAreCrossed =
    (net : NetValue) (failed : List ℕ) (number : ℕ) (link : Link) → slice_get net.links number ≡ Some link →
    link.adjacency ≡ true → holds failed number ≡ false →
    Crosses net failed (up_of number) link.low.router link.high.router link.low.cost ×
    Crosses net failed (down_of number) link.high.router link.low.router link.high.cost

-- and nothing else is crossed, nor otherwise
abbrev pub OnlyAdjacenciesAreCrossed : Type 0
OnlyAdjacenciesAreCrossed =
    (net : NetValue) (failed : List ℕ) (number u v cost : ℕ) (link : Link) → slice_get net.links number ≡ Some link →
    (Crosses net failed (up_of number) u v cost → (link.adjacency ≡ true) × (holds failed number ≡ false) ×
    (u ≡ link.low.router) × (v ≡ link.high.router) × (cost ≡ link.low.cost)) ×
    (Crosses net failed (down_of number) u v cost → (link.adjacency ≡ true) × (holds failed number ≡ false) ×
    (u ≡ link.high.router) × (v ≡ link.low.router) × (cost ≡ link.high.cost))

-- a router owns the prefix of each of its entries, and has a stub of it at the entry's cost, none where the entry has none
abbrev pub EntriesAreOwned : Type 0
EntriesAreOwned =
    (net : NetValue) (u i : ℕ) (router : Router) (entry : Owned) → IsNet net → slice_get net.routers u ≡ Some router →
    slice_get router.owned i ≡ Some entry →
    (owns net u entry.prefix ≡ true) × (stub_cost net entry.prefix u ≡ entry.ospf_cost)

-- and it owns no other prefix
abbrev pub OwnersHaveEntries : Type 0
OwnersHaveEntries =
    (net : NetValue) (u : ℕ) (prefix : PrefixValue) → owns net u prefix ≡ true →
    (router : Router) × (i : ℕ) × (entry : Owned) × (slice_get net.routers u ≡ Some router) ×
    (slice_get router.owned i ≡ Some entry) × (entry.prefix ≡ prefix)

-- a router with a stub of a prefix owns it
abbrev pub StubsAreOwned : Type 0
StubsAreOwned = (net : NetValue) (u cost : ℕ) (prefix : PrefixValue) → stub_cost net prefix u ≡ Some cost → owns net u prefix ≡ true

-- a set of links without one of them holds the others, and is a failure set again
abbrev pub WithoutHoldsTheOthers : Type 0
WithoutHoldsTheOthers = (set : List ℕ) (link other : ℕ) → holds (without set link) other ≡ (holds set other && not (other == link))

abbrev pub WithoutIsFailureSet : Type 0
WithoutIsFailureSet = (set : List ℕ) (link : ℕ) → IsFailureSet set → IsFailureSet (without set link)

-- what is in the words that sets of numbers below 64 are joined to
pub record AreMembers (a b x : ℕ) : Type 0 where
  pub union : has (bit_or a b) x ≡ (has a x || has b x)
  pub common : has (bit_and a b) x ≡ (has a x && has b x)
  pub minus : has (bit_and a (bit_not w64 b)) x ≡ (has a x && not (has b x))

abbrev pub WordsAreSets : Type 0
WordsAreSets = (a b x : ℕ) → b < 2 ^ 64 → x < 64 → AreMembers a b x

-- and where one number is put in or taken out
pub record AreMembersAt (a number x : ℕ) : Type 0 where
  pub «with» : has (bit_or a (2 ^ number)) x ≡ (has a x || (x == number))
  pub without : has (bit_and a (bit_not w64 (2 ^ number))) x ≡ (has a x && not (x == number))

abbrev pub WordsChangeByOne : Type 0
WordsChangeByOne = (a number x : ℕ) → number < 64 → x < 64 → AreMembersAt a number x

-- no number is in the least word, all are in the greatest, and two words with the same numbers are one
abbrev pub WordsHaveEnds : Type 0
WordsHaveEnds = (x : ℕ) → x < 64 → (has 0 x ≡ false) × (has (2 ^ 64 - 1) x ≡ true)

abbrev pub SameMembersAreOneSet : Type 0
SameMembersAreOneSet = (a b : ℕ) → a < 2 ^ 64 → b < 2 ^ 64 → ((x : ℕ) → x < 64 → has a x ≡ has b x) → a ≡ b

-- a number is read from its decimal text, and from no other
abbrev pub NumbersReadBack : Type 0
NumbersReadBack = (low high n : ℕ) → high < 2 ^ 64 → low ≤ n → n ≤ high → number_in low high (decimal n) ≡ Some n

abbrev pub NumbersHaveOneText : Type 0
NumbersHaveOneText =
    (low high n : ℕ) (text : List ℕ) → high < 2 ^ 64 → number_in low high text ≡ Some n → (text ≡ decimal n) × (low ≤ n) × (n ≤ high)

-- an address is read from the text that is written of it, and from no other
abbrev pub AddressesReadBack : Type 0
AddressesReadBack = (address : ℕ) → address < 2 ^ 32 → address_of (address_text address) ≡ Some address

abbrev pub AddressesHaveOneText : Type 0
AddressesHaveOneText = (address : ℕ) (text : List ℕ) → address_of text ≡ Some address → text ≡ address_text address

-- and so a prefix
abbrev pub PrefixesReadBack : Type 0
PrefixesReadBack = (p : PrefixValue) → IsPrefix p → prefix_of (prefix_text p) ≡ Some p

abbrev pub PrefixesHaveOneText : Type 0
PrefixesHaveOneText = (p : PrefixValue) (text : List ℕ) → prefix_of text ≡ Some p → text ≡ prefix_text p

-- a community is read from its halves, and the two of RFC 1997 from their names
abbrev pub CommunitiesReadBack : Type 0
CommunitiesReadBack =
    (first second : ℕ) → first ≤ 65535 → second ≤ 65535 →
    community_of (decimal first then codes ":" then decimal second) ≡ Some (first * 65536 + second)

abbrev pub NamedCommunitiesAreRead : Type 0
NamedCommunitiesAreRead =
    (community_of (codes "no-export") ≡ community_of (codes "65535:65281")) ×
    (community_of (codes "no-advertise") ≡ community_of (codes "65535:65282")) ×
    (community_of (codes "no-export") ≡ Some no_export) × (community_of (codes "no-advertise") ≡ Some no_advertise)

-- The line table: which line may stand in which mode, and the row that it is taken by.
use Rattle.std.specs.Prelude.{ℕ, Bool, ◌==◌, ◌||◌, List, [], ◌∷◌, ◌++◌, codes, Option, Some, None, Result, Ok, Err, option_map, is_some, if◌then◌else◌}
use Rattle.std.specs.List.{list_any}
use Rattle.net_types.specs.Order.{same_text}
use Rattle.frr_policy.specs.Words.{words}
use Rattle.frr_reader.specs.declared.causes.Cause.{Cause}
use Rattle.frr_reader.specs.declared.causes.Cause.TheVariants.{Unsupported, OutOfPlace}
use Rattle.frr_reader.specs.declared.modes.Mode.{Mode}
use Rattle.frr_reader.specs.declared.modes.Mode.TheVariants.{Top, InInterface, InBgp, InOspf, InMap, InFamily}
use Rattle.frr_reader.specs.declared.rows.BgpRow.TheVariants.{NoPolicy, RemoteAs, NeighborMap, BgpNetwork, Connected, FromOspf, OfNeighbor}
use Rattle.frr_reader.specs.declared.rows.Row.{Row}
use Rattle.frr_reader.specs.declared.rows.Row.TheVariants.{HostName, OpenInterface, OpenBgp, OpenOspf, PrefixListLine, CommunityListLine, MapLine, Address, Area, Cost, Shutdown, OspfNetwork, OfBgp, OpenFamily, Exit, End, ExitFamily, NoEffect}

-- a row's place in the table: the modes that it stands in, its head, and what it is
pub record FormValue : Type 0 where
  pub modes : List Mode
  pub head : List ℕ
  pub row : Row

abbrev pub form : List Mode → List ℕ → Row → FormValue
form modes head row = record { modes = modes; head = head; row = row }

abbrev pub top : List Mode
top = Top ∷ []

abbrev pub interface : List Mode
interface = InInterface ∷ []

abbrev pub ospf : List Mode
ospf = InOspf ∷ []

abbrev pub bgp : List Mode
bgp = InBgp ∷ []

abbrev pub bgp_and_family : List Mode
bgp_and_family = InBgp ∷ InFamily ∷ []

abbrev pub family : List Mode
family = InFamily ∷ []

abbrev pub in_map : List Mode
in_map = InMap ∷ []

abbrev pub every : List Mode
every = Top ∷ InInterface ∷ InBgp ∷ InOspf ∷ InMap ∷ InFamily ∷ []

-- The rows, by where they stand; in a head `_` is any word. No order of the rows matters: of two rows that may
-- stand in one mode, none has a head that begins the other's.

-- outside each block
abbrev pub top_rows : List FormValue
top_rows =
    form top (codes "hostname") HostName ∷
    form top (codes "interface") OpenInterface ∷
    form top (codes "router bgp") OpenBgp ∷
    form top (codes "router ospf") OpenOspf ∷
    form top (codes "ip prefix-list") PrefixListLine ∷
    form top (codes "bgp community-list") CommunityListLine ∷
    form top (codes "ip community-list") CommunityListLine ∷
    form top (codes "route-map") MapLine ∷
    form top (codes "frr version") NoEffect ∷
    form top (codes "frr defaults traditional") NoEffect ∷
    form top (codes "log") NoEffect ∷
    form top (codes "service integrated-vtysh-config") NoEffect ∷
    form top (codes "line vty") NoEffect ∷
    form top (codes "ip forwarding") NoEffect ∷
    form top (codes "ipv6 forwarding") NoEffect ∷
    form top (codes "no ip forwarding") NoEffect ∷
    form top (codes "no ipv6 forwarding") NoEffect ∷
    form top (codes "Building configuration...") NoEffect ∷
    form top (codes "Current configuration:") NoEffect ∷
    []

-- in the block of an interface
abbrev pub interface_rows : List FormValue
interface_rows =
    form interface (codes "ip address") Address ∷
    form interface (codes "ip ospf area") Area ∷
    form interface (codes "ip ospf cost") Cost ∷
    form interface (codes "shutdown") Shutdown ∷
    form interface (codes "description") NoEffect ∷
    form interface (codes "ip ospf network") NoEffect ∷
    []

-- in `router ospf`
abbrev pub ospf_rows : List FormValue
ospf_rows =
    form ospf (codes "network") OspfNetwork ∷
    form ospf (codes "ospf router-id") NoEffect ∷
    []

-- in `router bgp` alone
abbrev pub bgp_rows : List FormValue
bgp_rows =
    form bgp (codes "no bgp ebgp-requires-policy") (OfBgp NoPolicy) ∷
    form bgp (codes "neighbor _ remote-as") (OfBgp RemoteAs) ∷
    form bgp (codes "address-family") OpenFamily ∷
    form bgp (codes "bgp router-id") NoEffect ∷
    form bgp (codes "bgp log-neighbor-changes") NoEffect ∷
    form bgp (codes "no bgp network import-check") NoEffect ∷
    []

-- in `router bgp` and in its address family
abbrev pub bgp_and_family_rows : List FormValue
bgp_and_family_rows =
    form bgp_and_family (codes "neighbor _ route-map") (OfBgp NeighborMap) ∷
    form bgp_and_family (codes "network") (OfBgp BgpNetwork) ∷
    form bgp_and_family (codes "redistribute connected") (OfBgp Connected) ∷
    form bgp_and_family (codes "redistribute ospf") (OfBgp FromOspf) ∷
    form bgp_and_family (codes "neighbor _ activate") (OfBgp OfNeighbor) ∷
    form bgp_and_family (codes "neighbor _ description") (OfBgp OfNeighbor) ∷
    form bgp_and_family (codes "neighbor _ timers") (OfBgp OfNeighbor) ∷
    form bgp_and_family (codes "neighbor _ send-community") (OfBgp OfNeighbor) ∷
    []

-- in the address family alone
abbrev pub family_rows : List FormValue
family_rows =
    form family (codes "exit-address-family") ExitFamily ∷
    []

-- in the block of a map's entry
abbrev pub map_rows : List FormValue
map_rows =
    form in_map (codes "match community") MapLine ∷
    form in_map (codes "match ip address prefix-list") MapLine ∷
    form in_map (codes "set local-preference") MapLine ∷
    form in_map (codes "set metric") MapLine ∷
    form in_map (codes "set weight") MapLine ∷
    form in_map (codes "set origin") MapLine ∷
    form in_map (codes "set community") MapLine ∷
    form in_map (codes "set comm-list") MapLine ∷
    form in_map (codes "set as-path prepend") MapLine ∷
    []

-- everywhere
abbrev pub leaving_rows : List FormValue
leaving_rows =
    form every (codes "exit") Exit ∷
    form every (codes "end") End ∷
    []

-- the line table
abbrev pub table : List FormValue
table =
    top_rows ++
    interface_rows ++
    ospf_rows ++
    bgp_rows ++
    bgp_and_family_rows ++
    family_rows ++
    map_rows ++
    leaving_rows

-- the mode and those round it, the innermost first
abbrev pub modes_from : Mode → List Mode
modes_from Top = Top ∷ []
modes_from InInterface = InInterface ∷ Top ∷ []
modes_from InBgp = InBgp ∷ Top ∷ []
modes_from InOspf = InOspf ∷ Top ∷ []
modes_from InMap = InMap ∷ Top ∷ []
modes_from InFamily = InFamily ∷ InBgp ∷ Top ∷ []

-- the mode round a mode; round the top there is none
abbrev pub outer : Mode → Mode
outer Top = Top
outer InInterface = Top
outer InBgp = Top
outer InOspf = Top
outer InMap = Top
outer InFamily = InBgp

-- modes by number, to tell them apart
abbrev pub rank : Mode → ℕ
rank Top = 0
rank InInterface = 1
rank InBgp = 2
rank InOspf = 3
rank InMap = 4
rank InFamily = 5

abbrev pub stands_in : FormValue → Mode → Bool
stands_in f mode = list_any (λ m. rank m == rank mode) f.modes

-- a word of a line is as the head wants it
abbrev pub fits_word : List ℕ → List ℕ → Bool
fits_word wanted word = same_text (codes "_") wanted || same_text wanted word

-- the words behind the head, where a line begins with it
abbrev pub behind : List (List ℕ) → List (List ℕ) → Option (List (List ℕ))
behind [] line = Some line
behind (wanted ∷ head) [] = None
behind (wanted ∷ head) (word ∷ line) = if fits_word wanted word then behind head line else None

-- a line as the table sees it: the mode in which it is taken, its row, and the words behind the head
pub record FoundValue : Type 0 where
  pub mode : Mode
  pub row : Row
  pub rest : List (List ℕ)

-- the line by one row, in this mode
unfoldable pub by_form : List (List ℕ) → Mode → FormValue → Option FoundValue
by_form line mode f =
    if stands_in f mode then option_map (λ rest. record { mode = mode; row = f.row; rest = rest }) (behind (words f.head) line) else None

abbrev pub or_else : {A : Type 0} → Option A → Option A → Option A
or_else (Some x) other = Some x
or_else None other = other

-- the first that f gives of the items, in order
abbrev pub first_given : {A B : Type 0} → (A → Option B) → List A → Option B
first_given f [] = None
first_given f (x ∷ xs) = or_else (f x) (first_given f xs)

-- the line in this mode
unfoldable pub found_in : List (List ℕ) → Mode → Option FoundValue
found_in line mode = first_given (by_form line mode) table

-- the line has the head of a row
abbrev pub has_head : List (List ℕ) → FormValue → Bool
has_head line f = is_some (behind (words f.head) line)

unfoldable pub is_known : List (List ℕ) → Bool
is_known line = list_any (has_head line) table

abbrev pub or_cause : List (List ℕ) → Option FoundValue → Result FoundValue Cause
or_cause line (Some found) = Ok found
or_cause line None = if is_known line then Err OutOfPlace else Err Unsupported

-- the line in the innermost of the modes from this one outwards that has a row with its head
unfoldable pub found_from : Mode → List (List ℕ) → Result FoundValue Cause
found_from mode line = or_cause line (first_given (found_in line) (modes_from mode))

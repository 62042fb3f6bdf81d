-- Arcs: one direction of a link, its two ends, and whether it is up; the arcs of a network, and networks without
-- sessions.
use Rattle.std.specs.Prelude.{ℕ, ◌≡◌, ◌&&◌, Bool, true, false, not, List, [], ◌∷◌, length, All, Option, Some, None, ◌-◌, option_map, slice_get}
use Rattle.std.specs.List.{range_with_len}
use Rattle.std.specs.Option.{option_map_or}
use Rattle.net_types.specs.declared.arcs.Arc.{Arc}
use Rattle.net_types.specs.declared.network.Link.{Link}
use Rattle.net_types.specs.declared.network.End.{End}
use Rattle.net_types.specs.FailSets.{holds}
use Rattle.net_types.specs.NetValue.{NetValue}

-- the two arcs of a link: from the router with the lower number to the one with the higher, and back
abbrev pub up_of : ℕ → Arc
up_of link = record { link = link; down = false }

abbrev pub down_of : ℕ → Arc
down_of link = record { link = link; down = true }

-- both arcs of each of these links
abbrev pub both_ways : List ℕ → List Arc
both_ways [] = []
both_ways (link ∷ links) = up_of link ∷ down_of link ∷ both_ways links

-- the arcs of a network, in the order of its links
abbrev pub arcs_of : NetValue → List Arc
arcs_of net = both_ways (range_with_len 0 (length net.links))

-- the arcs that are left of those of links: maybe one down, then both of each link from one number on, before the other
abbrev pub arcs_left : Option Arc → ℕ → ℕ → List Arc
arcs_left (Some arc) link end = arc ∷ both_ways (range_with_len link (end - link))
arcs_left None link end = both_ways (range_with_len link (end - link))

-- the end that a direction of the link begins at, and the one that it goes to
abbrev pub from_end : Bool → Link → End
from_end false link = link.low
from_end true link = link.high

abbrev pub to_end : Bool → Link → End
to_end false link = link.high
to_end true link = link.low

-- the link of an arc, where there is such a link
abbrev pub link_of : NetValue → Arc → Option Link
link_of net arc = slice_get net.links arc.link

-- the router that an arc begins at, and the one that it goes to: in BGP its sender and its receiver
abbrev pub sender_of : NetValue → Arc → Option ℕ
sender_of net arc = option_map (λ link. (from_end arc.down link).router) (link_of net arc)

abbrev pub receiver_of : NetValue → Arc → Option ℕ
receiver_of net arc = option_map (λ link. (to_end arc.down link).router) (link_of net arc)

-- the arc is of a session
abbrev pub is_session : NetValue → Arc → Bool
is_session net arc = option_map_or (λ link. link.session) (link_of net arc) false

-- no link of the network is a session of BGP
abbrev pub HasNoSession : NetValue → Type 0
HasNoSession net = All (λ (link : Link). link.session ≡ false) net.links

-- the arc is up in BGP: it is of a session, and its link has not failed
abbrev pub is_up : NetValue → List ℕ → Arc → Bool
is_up net failed arc = is_session net arc && not (holds failed arc.link)

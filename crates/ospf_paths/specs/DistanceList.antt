-- The distances of a network as a value: for each router the least sum of a walk with at most as many
-- arcs as there are routers.
use Rattle.std.specs.Prelude.{ℕ, zero, suc, ◌+◌, ◌==◌, ◌&&◌, min, Bool, true, false, not, if◌then◌else◌, List, [], ◌∷◌, length, map, Option, Some, None, option_map}
use Rattle.std.specs.List.{range_with_len}
use Rattle.net_types.specs.declared.network.Link.{Link}
use Rattle.net_types.specs.Arcs.{from_end, to_end}
use Rattle.net_types.specs.FailSets.{holds}
use Rattle.net_types.specs.NetValue.{NetValue}
use Rattle.net_types.specs.Owners.{stub_cost}
use Rattle.net_types.specs.PrefixValue.{PrefixValue}

-- the lesser of two sums, each where it is there
abbrev pub lesser : Option ℕ → Option ℕ → Option ℕ
lesser None b = b
lesser (Some a) None = Some a
lesser (Some a) (Some b) = Some (min a b)

-- whether a direction of the link with this number is of an adjacency that is up, from router u
abbrev pub leads_from : List ℕ → ℕ → ℕ → Link → Bool → Bool
leads_from failed u number link down = link.adjacency && not (holds failed number) && ((from_end down link).router == u)

-- the sum from u over that direction: the cost of the outgoing interface and what is left from the other end
abbrev pub sum_over : (ℕ → Option ℕ) → List ℕ → ℕ → ℕ → Link → Bool → Option ℕ
sum_over rest failed u number link down =
    if leads_from failed u number link down
    then option_map (λ far. (from_end down link).cost + far) (rest (to_end down link).router) else None

-- the least of these sums over links, of which the first has this number
unfoldable pub least_over : (ℕ → Option ℕ) → List ℕ → ℕ → ℕ → List Link → Option ℕ
least_over rest failed u number [] = None
least_over rest failed u number (link ∷ links) =
    lesser (lesser (sum_over rest failed u number link false) (sum_over rest failed u number link true)) (least_over rest failed u (number + 1) links)

-- the least sum of a walk from u with at most so many arcs
unfoldable pub nearest : NetValue → PrefixValue → List ℕ → ℕ → ℕ → Option ℕ
nearest net prefix failed zero u = stub_cost net prefix u
nearest net prefix failed (suc arcs) u = lesser (stub_cost net prefix u) (least_over (nearest net prefix failed arcs) failed u 0 net.links)

-- the distances of all routers
unfoldable pub distance_list : NetValue → PrefixValue → List ℕ → List (Option ℕ)
distance_list net prefix failed = map (nearest net prefix failed (length net.routers)) (range_with_len 0 (length net.routers))

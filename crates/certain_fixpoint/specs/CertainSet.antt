-- The certain routers of a round as a value. All of this is the project's own.
use Rattle.std.specs.Prelude.{ℕ, ◌≡◌, ◌<◌, ◌^◌, ◌==◌, ◌&&◌, ◌||◌, ◌↔◌, Bool, true, false, length}
use Rattle.std.specs.Option.{is_some, option_map_or}
use Rattle.std.specs.List.{list_any, range_with_len}
use Rattle.net_types.specs.declared.arcs.Arc.{Arc}
use Rattle.net_types.specs.Arcs.{is_up, receiver_of, sender_of, up_of, down_of}
use Rattle.net_types.specs.NetFacts.{IsNet}
use Rattle.net_types.specs.Sets.{has}
use Rattle.abstract_maps.specs.Transfer.{passes}
use Rattle.net_types.specs.Turns.{turns, set_of}
use Rattle.abstract_route.specs.Rows.{row_at}
use Rattle.certain_fixpoint.specs.Certain.{IsCertain, Round, local_at}

-- the arc is up, goes to router u, and passes the row of its sender, which is in the set
abbrev pub reaches : Round → ℕ → ℕ → Arc → Bool
reaches round set u arc =
    is_up round.net round.failed arc && (option_map_or (λ w. w == u) (receiver_of round.net arc) false &&
    option_map_or (λ v. has set v && passes round.net round.prefix arc (row_at round.rows v)) (sender_of round.net arc) false)

-- router u is in the set, has a local route, or is reached
abbrev pub joins : Round → ℕ → ℕ → Bool
joins round set u =
    has set u || (is_some (local_at round u) ||
    list_any (λ link. reaches round set u (up_of link) || reaches round set u (down_of link)) (range_with_len 0 (length round.net.links)))

-- the set with all that one step adds
unfoldable pub spread : Round → ℕ → ℕ
spread round set = set_of (joins round set) (length round.net.routers)

-- a value whose members are the certain routers, see `law_of_certain_set`: from no router on, so many steps
unfoldable pub certain_set : Round → ℕ
certain_set round = turns (spread round) (2 ^ 64) 0

-- its members are exactly the certain routers
abbrev pub CertainSetIs : Type 0
CertainSetIs =
    (round : Round) → IsNet round.net → (u : ℕ) → u < length round.net.routers → (has (certain_set round) u ≡ true) ↔ IsCertain round u

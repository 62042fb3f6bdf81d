-- The links that are idle in a case: no route may come over them, and they are on no least walk of OSPF. That arcs are
-- tight is after RFC 2328, section 16; all else is the project's own.
use Rattle.std.specs.Prelude.{ℕ, ◌≡◌, ◌<◌, ◌+◌, ◌==◌, ◌&&◌, Bool, false, not, List, length, Option, Some}
use Rattle.std.specs.Option.{option_map_or}
use Rattle.net_types.specs.declared.arcs.Arc.{Arc}
use Rattle.net_types.specs.declared.network.Link.{Link}
use Rattle.net_types.specs.Arcs.{down_of, from_end, link_of, sender_of, to_end, up_of}
use Rattle.net_types.specs.Distance.{distance_at}
use Rattle.net_types.specs.FailSets.{holds}
use Rattle.net_types.specs.NetValue.{NetValue}
use Rattle.net_types.specs.PrefixValue.{PrefixValue}
use Rattle.net_types.specs.Turns.{set_of}
use Rattle.ospf_paths.specs.DistanceList.{distance_list}
use Rattle.ospf_paths.specs.Laws.{IsTightArc}
use Rattle.abstract_route.specs.declared.rows.Row.{Row}
use Rattle.abstract_route.specs.Rows.{row_at}
use Rattle.abstract_maps.specs.Transfer.{opens}
use Rattle.possible_fixpoint.specs.Flow.{flow_of}
use Rattle.possible_fixpoint.specs.Held.{all_alive}
use Rattle.possible_fixpoint.specs.Possible.{possible}
use Rattle.certain_fixpoint.specs.Certain.{Round}

-- the rows of the first round of a case, in which all is alive
abbrev pub first_rows : NetValue → PrefixValue → List ℕ → List Row
first_rows net prefix failed = possible (flow_of net prefix failed (distance_list net prefix failed) all_alive)

-- the link has not failed, and neither of its two arcs is open for its sender's row of the first round, or tight, be it
-- that it begins at an owner or not
pub record IsIdle (net : NetValue) (prefix : PrefixValue) (failed : List ℕ) (link : ℕ) : Type 0 where
  pub inside : link < length net.links
  pub up : holds failed link ≡ false
  pub closed : (arc : Arc) (v : ℕ) → arc.link ≡ link → sender_of net arc ≡ Some v →
      opens net prefix arc (row_at (first_rows net prefix failed) v) ≡ false
  pub slack : (arc : Arc) → arc.link ≡ link → IsTightArc net failed (distance_list net prefix failed) arc → ⊥

-- ---- as a test

-- the one distance is the cost and the other distance together
abbrev pub is_sum : ℕ → Option ℕ → Option ℕ → Bool
is_sum cost (Some near) (Some far) = near == cost + far
is_sum cost _ _ = false

-- the arc over this link is of an adjacency that has not failed, and begins a least walk
abbrev pub tight_over : List ℕ → List (Option ℕ) → Arc → Link → Bool
tight_over failed distances arc link =
    link.adjacency && (not (holds failed arc.link) &&
    is_sum (from_end arc.down link).cost (distance_at distances (from_end arc.down link).router) (distance_at distances (to_end arc.down link).router))

-- the arc is tight
unfoldable pub tight_arc : NetValue → List ℕ → List (Option ℕ) → Arc → Bool
tight_arc net failed distances arc = option_map_or (tight_over failed distances arc) (link_of net arc) false

-- the arc is open for its sender's row
unfoldable pub open_arc : Round → Arc → Bool
open_arc round arc = option_map_or (λ v. opens round.net round.prefix arc (row_at round.rows v)) (sender_of round.net arc) false

-- the arc is neither
abbrev pub is_quiet : Round → Arc → Bool
is_quiet round arc = not (open_arc round arc) && not (tight_arc round.net round.failed round.distances arc)

-- the link has not failed, and both of its arcs are quiet
abbrev pub is_idle : Round → ℕ → Bool
is_idle round link = not (holds round.failed link) && (is_quiet round (up_of link) && is_quiet round (down_of link))

-- the set of these links, where the round is the first of a case
unfoldable pub idle_set : Round → ℕ
idle_set round = set_of (is_idle round) (length round.net.links)

-- The record that the fixpoint of possible routes reads: what the least solution, and each proof about it, reads of a
-- network, a prefix, a failure set, the OSPF distances, and of what is still alive. All of this is the project's own.
use Rattle.std.specs.Prelude.{ℕ, ◌≡◌, ◌<◌, ◌&&◌, Bool, true, false, List, length, Option, unwrap_or, if◌then◌else◌}
use Rattle.net_types.specs.declared.arcs.Arc.{Arc}
use Rattle.net_types.specs.Arcs.{is_up, receiver_of, sender_of}
use Rattle.net_types.specs.Distance.{distance_at}
use Rattle.net_types.specs.NetValue.{NetValue}
use Rattle.net_types.specs.PrefixValue.{PrefixValue}
use Rattle.net_types.specs.Sets.{has}
use Rattle.abstract_route.specs.declared.rows.Row.{Row}
use Rattle.abstract_route.specs.Rows.{IsBelow, IsRow, bottom}
use Rattle.abstract_maps.specs.LocalRow.{local_row}
use Rattle.abstract_maps.specs.Transfer.{gives}
use Rattle.possible_fixpoint.specs.declared.alive.Alive.{Alive}

-- the links whose arc in this direction lives
abbrev pub living_links : Bool → Alive → ℕ
living_links false alive = alive.up
living_links true alive = alive.down

-- the arc has not been dropped
abbrev pub is_alive : Alive → Arc → Bool
is_alive alive arc = has (living_links arc.down alive) arc.link

-- Routers and links are numbered from 0, and `routers` and `links` are their counts. The arcs that live are those that
-- are up and have not been dropped; `sender` and `receiver` are asked of them alone. `source` is the row of a router's
-- living local route, and `gives` what an arc adds to its receiver's row.
pub record Flow : Type 0 where
  pub routers : ℕ
  pub links : ℕ
  pub lives : Arc → Bool
  pub sender : Arc → ℕ
  pub receiver : Arc → ℕ
  pub source : ℕ → Row
  pub gives : Arc → Row → Row

-- the row of a router's local route while it lives, else the row of no route
abbrev pub living_row : NetValue → PrefixValue → List (Option ℕ) → Alive → ℕ → Row
living_row net prefix distances alive u =
    if has alive.locals u then local_row net prefix u (distance_at distances u) else bottom

-- the flow of a network, for one prefix, with these links failed, these distances, and this still alive
abbrev pub flow_of : NetValue → PrefixValue → List ℕ → List (Option ℕ) → Alive → Flow
flow_of net prefix failed distances alive = record {
  routers = length net.routers;
  links = length net.links;
  lives = λ arc. is_up net failed arc && is_alive alive arc;
  sender = λ arc. unwrap_or (sender_of net arc) 0;
  receiver = λ arc. unwrap_or (receiver_of net arc) 0;
  source = living_row net prefix distances alive;
  gives = gives net prefix;
}

-- what every proof about the least solution uses of a flow: the link and the ends of a living arc are those of the
-- network, sources are rows of 64-bit words, and arcs keep such rows and their order
pub record Lawful (flow : Flow) : Type 0 where
  pub link : (arc : Arc) → flow.lives arc ≡ true → arc.link < flow.links
  pub sender : (arc : Arc) → flow.lives arc ≡ true → flow.sender arc < flow.routers
  pub receiver : (arc : Arc) → flow.lives arc ≡ true → flow.receiver arc < flow.routers
  pub source : (u : ℕ) → u < flow.routers → IsRow (flow.source u)
  pub gives : (arc : Arc) (row : Row) → IsRow row → IsRow (flow.gives arc row)
  pub grows : (arc : Arc) (a b : Row) → IsRow a → IsRow b → IsBelow a b → IsBelow (flow.gives arc a) (flow.gives arc b)

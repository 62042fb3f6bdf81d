-- What private functions promise each other.
use Rattle.std.specs.Prelude.{ℕ, ◌≡◌, ◌<◌, ◌≤◌, ◌⊎◌, ◌&&◌, ◌^◌, Bool, true, false, length, Some, bit_or}
use Rattle.std.specs.Option.{is_some, option_map_or}
use Rattle.net_types.specs.declared.arcs.Arc.{Arc}
use Rattle.net_types.specs.declared.routes.Route.{Route}
use Rattle.net_types.specs.Arcs.{is_up, sender_of}
use Rattle.net_types.specs.Sets.{has}
use Rattle.net_types.specs.Turns.{set_of}
use Rattle.abstract_maps.specs.Transfer.{passes}
use Rattle.abstract_route.specs.Rows.{row_at}
use Rattle.certain_fixpoint.specs.Certain.{IsCertain, Leads, Round, local_at}

-- the arc is up and passes the row of its sender
abbrev pub brings : Round → Arc → Bool
brings round arc =
    is_up round.net round.failed arc &&
    option_map_or (λ v. passes round.net round.prefix arc (row_at round.rows v)) (sender_of round.net arc) false

-- the routers that originate a route
abbrev pub originating : Round → ℕ
originating round = set_of (λ u. is_some (local_at round u)) (length round.net.routers)

-- a set that has what an arc brings to its receiver from its members
abbrev pub IsMet : Round → ℕ → Arc → Type 0
IsMet round set arc =
    (v u : ℕ) → Leads round arc v u → has set v ≡ true → passes round.net round.prefix arc (row_at round.rows v) ≡ true → has set u ≡ true

-- what is added over the arc: its receiver, which is new, or nothing, where the arc brings nothing new
pub record AddsOne (round : Round) (arc : Arc) (before after : ℕ) : Type 0 where
  pub v : ℕ
  pub u : ℕ
  pub leads : Leads round arc v u
  pub member : has before v ≡ true
  pub passing : passes round.net round.prefix arc (row_at round.rows v) ≡ true
  pub absent : has before u ≡ false
  pub is : after ≡ bit_or before (2 ^ u)

pub record AddsNone (round : Round) (arc : Arc) (before after : ℕ) : Type 0 where
  pub met : IsMet round before arc
  pub is : after ≡ before

abbrev pub Added : Round → Arc → ℕ → ℕ → Type 0
Added round arc before after = AddsNone round arc before after ⊎ AddsOne round arc before after

-- certain routers, among them all that originate a route
pub record AreSure (round : Round) (set : ℕ) : Type 0 where
  pub inside : (u : ℕ) → has set u ≡ true → u < length round.net.routers
  pub certain : (u : ℕ) → has set u ≡ true → IsCertain round u
  pub local : (u : ℕ) (route : Route) → u < length round.net.routers → local_at round u ≡ Some route → has set u ≡ true

-- what the arcs of a link add: the set grows, stays sure, or has all that they bring
pub record Linked (round : Round) (link before after : ℕ) : Type 0 where
  pub sure : AreSure round before → AreSure round after
  pub grown : before ≤ after
  pub met : after ≡ before → (arc : Arc) → arc.link ≡ link → IsMet round after arc

-- after the arcs of the first links: the set has grown to sure routers, or has all that these arcs bring
pub record Passed (round : Round) (links before after : ℕ) : Type 0 where
  pub sure : AreSure round after
  pub grown : before ≤ after
  pub met : after ≡ before → (arc : Arc) → arc.link < links → IsMet round after arc

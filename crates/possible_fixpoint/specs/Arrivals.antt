-- The links that bring something to each router. No public clause cites these words.
use Rattle.std.specs.Prelude.{ℕ, ◌≡◌, ◌<◌, true, List, length, get_or}
use Rattle.net_types.specs.declared.arcs.Arc.{Arc}
use Rattle.net_types.specs.Sets.{has}
use Rattle.possible_fixpoint.specs.Flow.{Flow}
use Rattle.possible_fixpoint.specs.Marks.{number}

-- the set of a router, and no link for routers past the last
abbrev pub set_at : List ℕ → ℕ → ℕ
set_at sets u = get_or sets u 0

-- of the arcs before a place, the link of each that lives is in the set of its receiver
pub record AreArrivals (flow : Flow) (next : ℕ) (sets : List ℕ) : Type 0 where
  pub long : length sets ≡ 64
  pub all : (arc : Arc) → number arc < next → flow.lives arc ≡ true → has (set_at sets (flow.receiver arc)) arc.link ≡ true

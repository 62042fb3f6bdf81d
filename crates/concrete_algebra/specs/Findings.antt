-- What the candidates of a router say of its label: the way to the answer whether a labelling breaks there. No public
-- clause cites these words.
use Rattle.std.specs.Prelude.{ℕ, ◌≡◌, ◌<◌, ◌↔◌, ◌&&◌, ◌||◌, Bool, true, not, IsTrue, List, Option, Some, None, IsSomeAnd, option_and_then, if◌then◌else◌}
use Rattle.net_types.specs.declared.arcs.Arc.{Arc}
use Rattle.net_types.specs.declared.routes.Route.{Route}
use Rattle.net_types.specs.Arcs.{down_of, is_up, receiver_of, sender_of, up_of}
use Rattle.net_types.specs.Better.{is_better, same_router}
use Rattle.net_types.specs.Distance.{distance_at}
use Rattle.net_types.specs.NetValue.{NetValue}
use Rattle.net_types.specs.Owners.{owns}
use Rattle.net_types.specs.PrefixValue.{PrefixValue}
use Rattle.concrete_algebra.specs.declared.asked.Asked.{Asked}
use Rattle.concrete_algebra.specs.declared.findings.Findings.{Findings}
use Rattle.concrete_algebra.specs.Carrying.{carry_gives}
use Rattle.concrete_algebra.specs.LocalRoutes.{local_of}
use Rattle.concrete_algebra.specs.Problem.{Problem, problem_of}
use Rattle.concrete_algebra.specs.Stability.{IsCandidate, is_learned, label_at}

-- the problem that is asked about
abbrev pub problem_asked : Asked → Problem
problem_asked asked = problem_of asked.net.now asked.prefix asked.failed.now asked.distances.now

-- what the arc carries of its sender's label
abbrev pub carried_label : NetValue → PrefixValue → Arc → List (Option Route) → Option ℕ → Option Route
carried_label net prefix arc labels None = None
carried_label net prefix arc labels (Some sender) = option_and_then (λ sent. carry_gives net prefix arc sent) (label_at labels sender)

-- the arc is up, and goes to router u
abbrev pub is_into : NetValue → List ℕ → Arc → ℕ → Bool
is_into net failed arc u = is_up net failed arc && same_router (receiver_of net arc) (Some u)

-- the candidate of u that comes over the arc, where one does
unfoldable pub arrival : NetValue → PrefixValue → List ℕ → List (Option Route) → ℕ → Arc → Option Route
arrival net prefix failed labels u arc = if is_into net failed arc u then carried_label net prefix arc labels (sender_of net arc) else None

-- the candidate of u that is its local route, where that is one
unfoldable pub local_candidate : NetValue → PrefixValue → List (Option ℕ) → List (Option Route) → ℕ → Option Route
local_candidate net prefix distances labels u =
    if owns net u prefix || not (is_learned (label_at labels u)) then local_of net prefix u (distance_at distances u) else None

-- the candidate is taken in place of the label: there is none, or the candidate is better
abbrev pub IsPreferred : NetValue → Option Route → Route → Type 0
IsPreferred net None candidate = Unit {0}
IsPreferred net (Some label) candidate = is_better net candidate label ≡ true

-- what one candidate, where there is one, says of the label
pub record Says (net : NetValue) (label candidate : Option Route) (findings : Findings) : Type 0 where
  pub among : IsTrue findings.among ↔ IsSomeAnd candidate (λ route. label ≡ Some route)
  pub preferred : IsTrue findings.preferred ↔ IsSomeAnd candidate (λ route. IsPreferred net label route)

-- some arc of these first links has the property
pub record IsFound (property : Arc → Type 0) (links : ℕ) (found : Bool) : Type 0 where
  pub is : IsTrue found ↔ ((arc : Arc) × (arc.link < links) × property arc)

-- what the candidates over the first links say of u's label
pub record LinksSay (net : NetValue) (prefix : PrefixValue) (failed : List ℕ) (labels : List (Option Route)) (u links : ℕ)
    (findings : Findings) : Type 0 where
  pub among : IsFound (λ arc. IsSomeAnd (arrival net prefix failed labels u arc) (λ route. label_at labels u ≡ Some route))
      links findings.among
  pub preferred : IsFound (λ arc. IsSomeAnd (arrival net prefix failed labels u arc)
      (λ route. IsPreferred net (label_at labels u) route)) links findings.preferred

-- both findings
abbrev pub either_of : Findings → Findings → Findings
either_of a b = record { among = a.among || b.among; preferred = a.preferred || b.preferred }

-- what the two directions of a link say of u's label
pub record LinkSays (net : NetValue) (prefix : PrefixValue) (failed : List ℕ) (labels : List (Option Route)) (u link : ℕ)
    (findings : Findings) : Type 0 where
  pub up : Findings
  pub down : Findings
  pub up_says : Says net (label_at labels u) (arrival net prefix failed labels u (up_of link)) up
  pub down_says : Says net (label_at labels u) (arrival net prefix failed labels u (down_of link)) down
  pub both : findings ≡ either_of up down

-- what all candidates of u say of its label
pub record AllSay (net : NetValue) (problem : Problem) (labels : List (Option Route)) (u : ℕ) (findings : Findings) : Type 0 where
  pub among : IsTrue findings.among ↔ ((route : Route) × IsCandidate problem labels u route × (label_at labels u ≡ Some route))
  pub preferred : IsTrue findings.preferred ↔
      ((route : Route) × IsCandidate problem labels u route × IsPreferred net (label_at labels u) route)

-- whether a router may hold its label, after what all candidates say: none where there is none to take, else one of
-- them where none is better
abbrev pub stands : Option Route → Findings → Bool
stands None findings = not findings.preferred
stands (Some label) findings = findings.among && not findings.preferred

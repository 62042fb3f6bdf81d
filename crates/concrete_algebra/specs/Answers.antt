-- The answer whether a labelling is stable.
use Rattle.std.specs.Prelude.{List, Option}
use Rattle.net_types.specs.declared.routes.Route.{Route}
use Rattle.concrete_algebra.specs.declared.stability.StableAnswer.{StableAnswer}
use Rattle.concrete_algebra.specs.declared.stability.StableAnswer.TheVariants.{Stable, Breaks}
use Rattle.concrete_algebra.specs.Problem.{Problem}
use Rattle.concrete_algebra.specs.Stability.{BreaksFirst, IsStable}

-- it is stable, or this router is the least one where it breaks
abbrev pub IsAnswer : Problem → List (Option Route) → StableAnswer → Type 0
IsAnswer problem labels Stable = IsStable problem labels
IsAnswer problem labels (Breaks u) = BreaksFirst problem labels u

-- What the test of stability tells, at the distances of OSPF, of which there is one list.
use Rattle.std.proofs.Common.{ℕ, ◌≡◌, ◌↔◌, List, Option, Result, Ok, Err, IfOk, subst}
use Rattle.net_types.specs.declared.no_memory.NoMemory.{NoMemory}
use Rattle.net_types.specs.declared.routes.Route.{Route}
use Rattle.net_types.specs.Distance.{AreDistances}
use Rattle.net_types.specs.NetFacts.{IsNet}
use Rattle.net_types.specs.NetValue.{NetValue}
use Rattle.net_types.specs.PrefixValue.{PrefixValue}
use Rattle.ospf_paths.specs.DistanceList.{distance_list}
use Rattle.ospf_paths.proofs.ListLemmas.{distances_are_list}
use Rattle.concrete_algebra.specs.declared.stability.StableAnswer.{StableAnswer}
use Rattle.concrete_algebra.specs.declared.stability.StableAnswer.TheVariants.{Stable, Breaks}
use Rattle.concrete_algebra.specs.Answers.{IsAnswer}
use Rattle.concrete_algebra.specs.Problem.{Problem, problem_of}
use Rattle.concrete_algebra.specs.Stability.{BreaksFirst, IsStable}

answered : (problem : Problem) (labels : List (Option Route)) (answer : StableAnswer) → ((answer ≡ Stable) ↔ IsStable problem labels) → ((u : ℕ) → (answer ≡ Breaks u) ↔ BreaksFirst problem labels u) → IsAnswer problem labels answer
answered problem labels Stable stable breaks = stable.0 (λ i. Stable)
answered problem labels (Breaks u) stable breaks = (breaks u).0 (λ i. Breaks u)

all_answered : (problem : Problem) (labels : List (Option Route)) (result : Result StableAnswer NoMemory) → IfOk result (λ answer. (answer ≡ Stable) ↔ IsStable problem labels) → IfOk result (λ answer. (u : ℕ) → (answer ≡ Breaks u) ↔ BreaksFirst problem labels u) → IfOk result (λ answer. IsAnswer problem labels answer)
all_answered problem labels (Ok answer) stable breaks = answered problem labels answer stable breaks
all_answered problem labels (Err error) stable breaks = tt

pub at_distances : (net : NetValue) → IsNet net → (prefix : PrefixValue) (failed : List ℕ) (ds : List (Option ℕ)) (labels : List (Option Route)) (result : Result StableAnswer NoMemory) → AreDistances net prefix failed ds → IfOk result (λ answer. (answer ≡ Stable) ↔ IsStable (problem_of net prefix failed ds) labels) → IfOk result (λ answer. (u : ℕ) → (answer ≡ Breaks u) ↔ BreaksFirst (problem_of net prefix failed ds) labels u) → IfOk result (λ answer. IsAnswer (problem_of net prefix failed (distance_list net prefix failed)) labels answer)
at_distances net valid prefix failed ds labels result are stable breaks =
    subst (λ (d : List (Option ℕ)). IfOk result (λ answer. IsAnswer (problem_of net prefix failed d) labels answer)) (distances_are_list net valid prefix failed ds are)
    (all_answered (problem_of net prefix failed ds) labels result stable breaks)

-- What a certificate means: the property holds, whatever permitted set of links has failed, in every stable labelling.
use Rattle.std.specs.Prelude.{ℕ, ◌≡◌, List as Seq, length, Option, Some}
use Rattle.net_types.specs.Numbering.{router_number}
use Rattle.net_types.specs.declared.routes.Route.{Route}
use Rattle.net_types.specs.Distance.{AreDistances}
use Rattle.net_types.specs.NetValue.{NetValue}
use Rattle.net_types.specs.PrefixValue.{PrefixValue}
use Rattle.failure_sets.specs.SetOrder.{IsPermitted}
use Rattle.concrete_algebra.specs.Problem.{problem_of}
use Rattle.concrete_algebra.specs.Stability.{IsStable}
use Rattle.property_book.specs.declared.property.Property.{Property}
use Rattle.property_book.specs.declared.property.Kind.{Kind}
use Rattle.property_book.specs.declared.property.Kind.TheVariants.{Reach, Isolated, Waypoint}
use Rattle.property_book.specs.declared.verdict.Verdict.{Verdict}
use Rattle.property_book.specs.declared.verdict.Verdict.TheVariants.{Certified}
use Rattle.property_book.specs.Forwarding.{Reaches, IsIsolated, GoesThrough}

-- what a kind asks of router u at a labelling, with these links failed
abbrev pub HasKind : NetValue → PrefixValue → Seq ℕ → Seq (Option ℕ) → Seq (Option Route) → ℕ → Kind → Type 0
HasKind net prefix failed distances labels u Reach = Reaches net prefix failed distances labels u
HasKind net prefix failed distances labels u Isolated = IsIsolated net prefix distances labels u
HasKind net prefix failed distances labels u (Waypoint via) = (w : ℕ) → router_number net via ≡ Some w →
    GoesThrough net prefix failed distances labels w u

-- the property holds: at its router, whatever set of links that it permits has failed, for the distances then, of which
-- there is one list, in each stable labelling
abbrev pub Holds : NetValue → Property → Type 0
Holds net property =
    (u : ℕ) → router_number net property.router ≡ Some u →
    (failed : Seq ℕ) → IsPermitted (length net.links) property.failures failed →
    (distances : Seq (Option ℕ)) × AreDistances net property.prefix failed distances ×
    ((labels : Seq (Option Route)) → IsStable (problem_of net property.prefix failed distances) labels →
    HasKind net property.prefix failed distances labels u property.kind)

-- a property with a certificate holds
abbrev pub HoldsIfCertified : NetValue → Property → Verdict → Type 0
HoldsIfCertified net property verdict = verdict ≡ Certified → Holds net property

-- Which routes a row tells apart, and when it has room for a path. All of this is the project's own.
use Rattle.std.specs.Prelude.{ℕ, ◌≡◌, ◌≤◌, ◌⊎◌, true, List, length}
use Rattle.std.specs.List.{filter, range_with_len}
use Rattle.net_types.specs.Routes.{is_on}
use Rattle.net_types.specs.declared.routes.Route.{Route}
use Rattle.net_types.specs.Sets.{has}
use Rattle.abstract_route.specs.declared.rows.Row.{Row}

-- the routes differ at most in the order of their paths and in where they come from
pub record IsLike (a b : Route) : Type 0 where
  pub weight : a.weight ≡ b.weight
  pub preference : a.preference ≡ b.preference
  pub length : length a.path ≡ length b.path
  pub origin : a.origin ≡ b.origin
  pub med : a.med ≡ b.med
  pub communities : a.communities ≡ b.communities
  pub routers : (x : ℕ) → is_on x a.path ≡ is_on x b.path

-- the numbers in the set, ascending
abbrev pub members : ℕ → List ℕ
members set = filter (λ x. has set x) (range_with_len 0 64)

-- the routers that are on every path go into the greatest length, and where the least is not 0, some router may be on a path
pub record HasRoom (row : Row) : Type 0 where
  pub few : length (members row.must) ≤ row.length.high
  pub some : (row.length.low ≡ 0) ⊎ ((x : ℕ) × (has row.may x ≡ true))

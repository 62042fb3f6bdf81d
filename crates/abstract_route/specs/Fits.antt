-- Which routes a row speaks of. The attributes are those of RFC 4271, section 5, and RFC 1997.
use Rattle.std.specs.Prelude.{ℕ, ◌≡◌, ◌<◌, ◌≤◌, true, false, List, length, fold, bit_or, ◌^◌}
use Rattle.std.specs.Int.{bit_not, w64}
use Rattle.net_types.specs.declared.routes.Route.{Route}
use Rattle.net_types.specs.Better.{origin_rank}
use Rattle.net_types.specs.Routes.{is_on, sent_med}
use Rattle.net_types.specs.Sets.{has, IsPart}
use Rattle.abstract_route.specs.declared.rows.Row.{Row}
use Rattle.abstract_route.specs.declared.rows.Range.{Range}
use Rattle.abstract_route.specs.Rows.{IsBelow, single}

-- the number is in the range
abbrev pub Holds : Range → ℕ → Type 0
Holds r n = (r.low ≤ n) × (n ≤ r.high)

-- each number below 64 that is none of the communities may be lacked
abbrev pub LacksRest : ℕ → ℕ → Type 0
LacksRest communities lacks = (x : ℕ) → x < 64 → has communities x ≡ false → has lacks x ≡ true

-- each router on the path is of the set
abbrev pub StaysIn : List ℕ → ℕ → Type 0
StaysIn path may = (x : ℕ) → is_on x path ≡ true → has may x ≡ true

-- each router of the set is on the path
abbrev pub PassesAll : List ℕ → ℕ → Type 0
PassesAll path must = (x : ℕ) → has must x ≡ true → is_on x path ≡ true

-- the route is one of those that the row speaks of
pub record Fits (route : Route) (row : Row) : Type 0 where
  pub weight : Holds row.weight route.weight
  pub preference : Holds row.preference route.preference
  pub length : Holds row.length (length route.path)
  pub origin : Holds row.origin (origin_rank route.origin)
  pub med : Holds row.med route.med
  -- each community that it holds may be held
  pub held : IsPart route.communities row.has
  pub lacked : LacksRest route.communities row.lacks
  pub may : StaysIn route.path row.may
  pub must : PassesAll route.path row.must

-- the route is in the row: it fits with the MED that an export carries
abbrev pub IsIn : Route → Row → Type 0
IsIn route row = Fits (record route { med = sent_med route.source route.med }) row

-- the least row that the route fits
pub record IsExact (route : Route) (row : Row) : Type 0 where
  pub fits : Fits route row
  pub least : (other : Row) → Fits route other → IsBelow row other

-- the set of the routers on a path
abbrev pub routers_of : List ℕ → ℕ
routers_of path = fold (λ set x. bit_or set (2 ^ x)) 0 path

-- a value that is the least row that the route fits, see `law_of_exact_rows`
abbrev pub exact_row : Route → Row
exact_row route = record {
  weight = single route.weight;
  preference = single route.preference;
  length = single (length route.path);
  origin = single (origin_rank route.origin);
  med = single route.med;
  has = route.communities;
  lacks = bit_not w64 route.communities;
  may = routers_of route.path;
  must = routers_of route.path;
}

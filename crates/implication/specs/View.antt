-- What the result of a case tells of each router, as tests. Next hops are after RFC 2328, section 16; all else is the
-- project's own.
use Rattle.std.specs.Prelude.{ℕ, ◌≡◌, ◌<◌, ◌≤◌, ◌+◌, ◌==◌, ◌&&◌, ◌||◌, Bool, true, false, not, List, length, Option, Some, None}
use Rattle.std.specs.Option.{is_some, option_map_or}
use Rattle.std.specs.List.{list_any, range_with_len}
use Rattle.net_types.specs.declared.arcs.Arc.{Arc}
use Rattle.net_types.specs.declared.network.Link.{Link}
use Rattle.net_types.specs.Arcs.{down_of, from_end, is_up, link_of, receiver_of, sender_of, to_end, up_of}
use Rattle.net_types.specs.Better.{same_router}
use Rattle.net_types.specs.Distance.{distance_at}
use Rattle.net_types.specs.FailSets.{holds}
use Rattle.net_types.specs.NetValue.{NetValue}
use Rattle.net_types.specs.Owners.{owns}
use Rattle.net_types.specs.PrefixValue.{PrefixValue}
use Rattle.net_types.specs.Sets.{has}
use Rattle.abstract_route.specs.Rows.{inhabited, row_at}
use Rattle.concrete_algebra.specs.LocalRoutes.{local_of}
use Rattle.abstract_maps.specs.Transfer.{transfer}
use Rattle.possible_fixpoint.specs.Flow.{is_alive}
use Rattle.refine_rounds.specs.Results.{CaseValue}

-- some number below k passes the test, and all of them do
abbrev pub some_below : ℕ → (ℕ → Bool) → Bool
some_below k test = list_any test (range_with_len 0 k)

abbrev pub every_below : ℕ → (ℕ → Bool) → Bool
every_below k test = not (some_below k (λ x. not (test x)))

-- one of the two arcs of the link does, and some arc of the network
abbrev pub some_way : (Arc → Bool) → ℕ → Bool
some_way test link = test (up_of link) || test (down_of link)

abbrev pub some_arc : NetValue → (Arc → Bool) → Bool
some_arc net test = some_below (length net.links) (some_way test)

-- the arc goes from router u to router v
abbrev pub goes : NetValue → Arc → ℕ → ℕ → Bool
goes net arc u v = same_router (sender_of net arc) (Some u) && same_router (receiver_of net arc) (Some v)

-- the one distance is the cost and the other distance together
abbrev pub is_sum : ℕ → Option ℕ → Option ℕ → Bool
is_sum cost (Some near) (Some far) = near == cost + far
is_sum cost _ _ = false

-- the arc is of an adjacency that has not failed, begins at no owner, and begins a least walk
abbrev pub hops_over : NetValue → PrefixValue → List ℕ → List (Option ℕ) → Arc → Link → Bool
hops_over net prefix failed distances arc link =
    link.adjacency && (not (holds failed arc.link) && (not (owns net (from_end arc.down link).router prefix) &&
    is_sum (from_end arc.down link).cost (distance_at distances (from_end arc.down link).router) (distance_at distances (to_end arc.down link).router)))

-- the arc goes from a router to its next hop
unfoldable pub is_hop : NetValue → PrefixValue → List ℕ → List (Option ℕ) → Arc → Bool
is_hop net prefix failed distances arc = option_map_or (hops_over net prefix failed distances arc) (link_of net arc) false

-- the arc, which router v sends over, may bring a route: it is up and alive, and what it makes of v's row has a route
unfoldable pub may_bring : NetValue → PrefixValue → List ℕ → CaseValue → ℕ → Arc → Bool
may_bring net prefix failed known v arc =
    is_up net failed arc && (is_alive known.alive arc && inhabited (transfer net prefix arc (row_at known.rows v)))

-- it goes so from router u to router v, or so brings router u a route from router v
abbrev pub hop_over : NetValue → PrefixValue → List ℕ → List (Option ℕ) → ℕ → ℕ → Arc → Bool
hop_over net prefix failed distances u v arc = goes net arc u v && is_hop net prefix failed distances arc

abbrev pub back_over : NetValue → PrefixValue → List ℕ → CaseValue → ℕ → ℕ → Arc → Bool
back_over net prefix failed known u v arc = goes net arc v u && may_bring net prefix failed known v arc

-- What a result tells of routers, which are numbered from 0.
pub record View : Type 0 where
  -- how many routers there are
  pub count : ℕ
  -- the router owns the prefix
  pub owner : ℕ → Bool
  -- some router may bring it a route
  pub may_learn : ℕ → Bool
  -- it has a local route, which is alive
  pub may_local : ℕ → Bool
  -- it holds a route in every stable labelling
  pub certain : ℕ → Bool
  -- it has a distance in OSPF
  pub has_distance : ℕ → Bool
  -- `hop u v`: v is a next hop of u
  pub hop : ℕ → ℕ → Bool
  -- `back u v`: a step back goes from u to v, which may bring it a route
  pub back : ℕ → ℕ → Bool
  -- `must_have u w`: w is on the path of each route that u may hold
  pub must_have : ℕ → ℕ → Bool

-- that of a case
abbrev pub view_of : NetValue → PrefixValue → List ℕ → CaseValue → View
view_of net prefix failed known = record {
  count = length net.routers;
  owner = λ u. owns net u prefix;
  may_learn = λ u. some_below (length net.routers) (λ v. some_arc net (back_over net prefix failed known u v));
  may_local = λ u. is_some (local_of net prefix u (distance_at known.distances u)) && has known.alive.locals u;
  certain = λ u. has known.certain u;
  has_distance = λ u. is_some (distance_at known.distances u);
  hop = λ u v. some_arc net (hop_over net prefix failed known.distances u v);
  back = λ u v. some_arc net (back_over net prefix failed known u v);
  must_have = λ u w. has (row_at known.rows u).must w;
}

-- there are at most 64 routers, and hops and steps back go to routers
pub record IsInside (view : View) : Type 0 where
  pub few : view.count ≤ 64
  pub hops : (u v : ℕ) → view.hop u v ≡ true → v < view.count
  pub backs : (u v : ℕ) → view.back u v ≡ true → v < view.count

-- it surely holds a route, and that can only be a learned one
abbrev pub surely_learned : View → ℕ → Bool
surely_learned view u = view.certain u && not (view.may_local u) && not (view.owner u)

-- no owner may learn
abbrev pub owners_plain : View → Bool
owners_plain view = every_below view.count (λ u. not (view.owner u && view.may_learn u))

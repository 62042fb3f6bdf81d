-- Where an idle link fails too, the result tells the same of routers, and implies the same.
use Rattle.std.proofs.Common.{ℕ, ◌≡◌, ◌≢◌, ◌==◌, ◌&&◌, ◌⊎◌, inl, inr, ◌↔◌, Bool, true, false, not, length, List, Option, Some, arith, ap, sym, subst, ◌∙◌, refl}
use Rattle.std.specs.Option.{is_some}
use Rattle.std.proofs.lemmas.Bool.Decides.{nat_tests}
use Rattle.net_types.specs.declared.arcs.Arc.{Arc}
use Rattle.net_types.specs.Arcs.{is_session, is_up, sender_of}
use Rattle.net_types.specs.Distance.{IsHop, distance_at}
use Rattle.net_types.specs.FailSets.{holds, without}
use Rattle.net_types.specs.NetFacts.{IsNet}
use Rattle.net_types.specs.NetValue.{NetValue}
use Rattle.net_types.specs.Owners.{owns}
use Rattle.net_types.specs.PrefixValue.{PrefixValue}
use Rattle.net_types.specs.Sets.{has}
use Rattle.net_types.proofs.NetLemmas.{without_holds_the_others}
use Rattle.ospf_paths.specs.Laws.{IsTightArc}
use Rattle.abstract_route.specs.declared.rows.Row.{Row}
use Rattle.abstract_route.specs.Rows.{bottom, inhabited, row_at}
use Rattle.abstract_maps.specs.Transfer.{transfer}
use Rattle.concrete_algebra.specs.LocalRoutes.{local_of}
use Rattle.possible_fixpoint.specs.Flow.{is_alive}
use Rattle.refine_rounds.specs.Idle.{IsIdle}
use Rattle.refine_rounds.specs.Results.{result_of}
use Rattle.refine_rounds.specs.Reuse.{AreAlike}
use Rattle.refine_rounds.proofs.ReuseLemmas.{idle_links_bring_nothing, idle_links_may_fail}
use Rattle.property_book.specs.declared.property.Property.{Property}
use Rattle.implication.specs.View.{View, back_over, goes, hop_over, is_hop, may_bring, some_arc, some_below, view_of}
use Rattle.implication.specs.Implied.{IsImplied, IsKindImplied}
use Rattle.implication.specs.Laws.{IdleLinksKeepAnswers}
use Rattle.implication.proofs.ArcLemmas.{goes_from, hop_arc_from, hop_arc_to}
use Rattle.implication.proofs.TellLemmas.{distances_if}

-- ---- tests

same_bools : (a b : Bool) → (a ≡ true → b ≡ true) → (b ≡ true → a ≡ true) → a ≡ b
same_bools true true f g = refl
same_bools true false f g = let e = f refl in cc
same_bools false true f g = let e = g refl in cc
same_bools false false f g = refl

and_same : (p a b : Bool) → (p ≡ true → a ≡ b) → (p && a) ≡ (p && b)
and_same true a b f = f refl
and_same false a b f = refl

and_off : (p q : Bool) → q ≡ false → (p && q) ≡ false
and_off true q e = e
and_off false q e = refl

here_or_not : (a b : ℕ) → (a ≡ b) ⊎ (a ≢ b)
here_or_not a b = grind arith

not_same : (a b : ℕ) → a ≢ b → (a == b) ≡ false
not_same a b h = grind (arith, nat_tests)

nothing_left : (a b : Bool) → (a && not b) ≡ false → b ≡ false → a ≡ false
nothing_left true b e off = let f = ap not off in cc
nothing_left false b e off = refl

nothing_more : (a b : Bool) → a ≡ false → (a && not b) ≡ false
nothing_more a b e = rw e refl

none_inhabited : (row : Row) → row ≡ bottom → inhabited row ≡ false
none_inhabited row e = rw e refl

module _ (net : NetValue) (prefix : PrefixValue) (set : List ℕ) (link : ℕ) (valid : IsNet net) (held : holds set link ≡ true) (idle : IsIdle net prefix (without set link) link) where
  alike : AreAlike set (result_of net prefix set) (result_of net prefix (without set link))
  alike = idle_links_may_fail net prefix set link valid held idle

  -- a link that stands with the idle one has failed with it exactly where it has failed without
  stands : (other : ℕ) → other ≢ link → holds set other ≡ holds (without set link) other
  stands other differs = sym (without_holds_the_others set link other ∙ ap (λ (b : Bool). holds set other && not b) (not_same other link differs) ∙ all (holds set other)) where
    all : (b : Bool) → (b && not false) ≡ b
    all true = refl
    all false = refl

  -- ---- next hops

  no_hop_there : (arc : Arc) (u v : ℕ) → IsHop net prefix (without set link) (result_of net prefix (without set link)).distances arc u v → arc.link ≢ link
  no_hop_there arc u v hop same =
      let tight : IsTightArc net (without set link) (result_of net prefix (without set link)).distances arc = (u, v, hop.tight) in
      idle.slack arc same (subst (λ (ds : List (Option ℕ)). IsTightArc net (without set link) ds arc) (distances_if net prefix (without set link) (result_of net prefix (without set link)) refl) tight)

  hop_less : (arc : Arc) (ds : List (Option ℕ)) → is_hop net prefix set ds arc ≡ true → is_hop net prefix (without set link) ds arc ≡ true
  hop_less arc ds e =
      let hop = hop_arc_from net prefix set ds arc e in
      let c = hop.2.tight.crosses in
      let up : holds (without set link) arc.link ≡ false = without_holds_the_others set link arc.link ∙ nothing_more (holds set arc.link) (arc.link == link) c.up in
      hop_arc_to net prefix (without set link) ds arc hop.0 hop.1 (record {
        tight = record {
          cost = hop.2.tight.cost;
          crosses = record { link = c.link; is = c.is; adjacency = c.adjacency; up = up; from = c.from; to = c.to; costs = c.costs };
          distance = hop.2.tight.distance;
          far = hop.2.tight.far;
          near = hop.2.tight.near;
        };
        no_owner = hop.2.no_owner;
      })

  hop_more : (arc : Arc) → is_hop net prefix (without set link) (result_of net prefix (without set link)).distances arc ≡ true → is_hop net prefix set (result_of net prefix (without set link)).distances arc ≡ true
  hop_more arc e =
      let ds = (result_of net prefix (without set link)).distances in
      let hop = hop_arc_from net prefix (without set link) ds arc e in
      let c = hop.2.tight.crosses in
      let up : holds set arc.link ≡ false = stands arc.link (no_hop_there arc hop.0 hop.1 hop.2) ∙ c.up in
      hop_arc_to net prefix set ds arc hop.0 hop.1 (record {
        tight = record {
          cost = hop.2.tight.cost;
          crosses = record { link = c.link; is = c.is; adjacency = c.adjacency; up = up; from = c.from; to = c.to; costs = c.costs };
          distance = hop.2.tight.distance;
          far = hop.2.tight.far;
          near = hop.2.tight.near;
        };
        no_owner = hop.2.no_owner;
      })

  hop_same : (arc : Arc) → is_hop net prefix set (result_of net prefix set).distances arc ≡ is_hop net prefix (without set link) (result_of net prefix (without set link)).distances arc
  hop_same arc =
      ap (λ (ds : List (Option ℕ)). is_hop net prefix set ds arc) alike.distances ∙
      same_bools (is_hop net prefix set (result_of net prefix (without set link)).distances arc) (is_hop net prefix (without set link) (result_of net prefix (without set link)).distances arc)
      (hop_less arc (result_of net prefix (without set link)).distances) (hop_more arc)

  -- ---- steps back

  brings_same : (v : ℕ) (arc : Arc) → sender_of net arc ≡ Some v → may_bring net prefix set (result_of net prefix set) v arc ≡ may_bring net prefix (without set link) (result_of net prefix (without set link)) v arc
  unfolding may_bring
  brings_same v arc from =
      ap (λ (rows : List Row). is_up net set arc && (is_alive (result_of net prefix set).alive arc && inhabited (transfer net prefix arc (row_at rows v)))) alike.rows ∙
      ap (λ (a : Rattle.possible_fixpoint.specs.declared.alive.Alive.Alive). is_up net set arc && (is_alive a arc && inhabited (transfer net prefix arc (row_at (result_of net prefix (without set link)).rows v)))) alike.alive ∙
      go (here_or_not arc.link link) where
        rest : Bool
        rest = is_alive (result_of net prefix (without set link)).alive arc && inhabited (transfer net prefix arc (row_at (result_of net prefix (without set link)).rows v))

        go : (arc.link ≡ link) ⊎ (arc.link ≢ link) →
            (is_up net set arc && (is_alive (result_of net prefix (without set link)).alive arc && inhabited (transfer net prefix arc (row_at (result_of net prefix (without set link)).rows v)))) ≡
            (is_up net (without set link) arc && (is_alive (result_of net prefix (without set link)).alive arc && inhabited (transfer net prefix arc (row_at (result_of net prefix (without set link)).rows v))))
        go (inl same) =
            let none = none_inhabited (transfer net prefix arc (row_at (result_of net prefix (without set link)).rows v)) (idle_links_bring_nothing net prefix (without set link) link valid idle arc v same from) in
            let off = and_off (is_alive (result_of net prefix (without set link)).alive arc) (inhabited (transfer net prefix arc (row_at (result_of net prefix (without set link)).rows v))) none in
            and_off (is_up net set arc) rest off ∙ sym (and_off (is_up net (without set link) arc) rest off)
        go (inr differs) = ap (λ (b : Bool). (is_session net arc && not b) && rest) (stands arc.link differs)

  back_same : (u v : ℕ) (arc : Arc) → back_over net prefix set (result_of net prefix set) u v arc ≡ back_over net prefix (without set link) (result_of net prefix (without set link)) u v arc
  back_same u v arc =
      and_same (goes net arc v u) (may_bring net prefix set (result_of net prefix set) v arc) (may_bring net prefix (without set link) (result_of net prefix (without set link)) v arc)
      (λ e. brings_same v arc (goes_from net arc v u e).0)

  hop_over_same : (u v : ℕ) (arc : Arc) → hop_over net prefix set (result_of net prefix set).distances u v arc ≡ hop_over net prefix (without set link) (result_of net prefix (without set link)).distances u v arc
  hop_over_same u v arc = ap (λ (b : Bool). goes net arc u v && b) (hop_same arc)

  -- ---- what the results tell

  views_same : view_of net prefix set (result_of net prefix set) ≡ view_of net prefix (without set link) (result_of net prefix (without set link))
  views_same = λ i. record {
    count = length net.routers;
    owner = λ u. owns net u prefix;
    may_learn = λ u. some_below (length net.routers) (λ v. some_arc net (λ arc. back_same u v arc i));
    may_local = λ u. is_some (local_of net prefix u (distance_at (alike.distances i) u)) && has (alike.alive i).locals u;
    certain = λ u. has (alike.certain i) u;
    has_distance = λ u. is_some (distance_at (alike.distances i) u);
    hop = λ u v. some_arc net (λ arc. hop_over_same u v arc i);
    back = λ u v. some_arc net (λ arc. back_same u v arc i);
    must_have = λ u w. has (row_at (alike.rows i) u).must w;
  }

pub idle_links_keep_answers : IdleLinksKeepAnswers
idle_links_keep_answers net property set link valid held idle = (
  (λ implied start at. subst (λ (view : View). IsKindImplied net view start property.kind) (views_same net property.prefix set link valid held idle) (implied start at)),
  (λ implied start at. subst (λ (view : View). IsKindImplied net view start property.kind) (sym (views_same net property.prefix set link valid held idle)) (implied start at)),
)

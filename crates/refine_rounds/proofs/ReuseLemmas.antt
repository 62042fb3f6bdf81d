-- An idle link may fail too: each round stays the same, and so does the result of the case.
use Rattle.std.proofs.Common.{ℕ, zero, suc, ◌≡◌, ◌≢◌, ◌<◌, ◌+◌, ◌*◌, ◌^◌, ◌==◌, ◌&&◌, ◌||◌, ◌⊎◌, inl, inr, Bool, true, false, not, List, length, Option, Some, None, option_map, unwrap_or, arith, ap, sym, subst, ◌∙◌, refl}
use Rattle.std.specs.Option.{is_some, option_map_or}
use Rattle.std.specs.List.{list_any, range_with_len}
use Rattle.std.proofs.lemmas.List.{get_or_past}
use Rattle.net_types.specs.declared.arcs.Arc.{Arc}
use Rattle.net_types.specs.declared.network.Link.{Link}
use Rattle.net_types.specs.Arcs.{down_of, from_end, is_session, is_up, receiver_of, sender_of, up_of}
use Rattle.net_types.specs.Distance.{AreDistances}
use Rattle.net_types.specs.FailSets.{holds, without}
use Rattle.net_types.specs.NetFacts.{IsNet}
use Rattle.net_types.specs.NetValue.{NetValue}
use Rattle.net_types.specs.PrefixValue.{PrefixValue}
use Rattle.net_types.specs.Sets.{IsPart, has}
use Rattle.net_types.specs.Turns.{set_of, turns}
use Rattle.net_types.proofs.TestLemmas.{both}
use Rattle.net_types.proofs.TurnLemmas.{set_past, turns-suc, turns-zero}
use Rattle.ospf_paths.specs.DistanceList.{distance_list}
use Rattle.ospf_paths.specs.Laws.{IsTightArc, IsWith}
use Rattle.ospf_paths.proofs.FailureLaws.{held_links_come_back}
use Rattle.ospf_paths.proofs.LawLemmas.{distances_are_one}
use Rattle.ospf_paths.proofs.ListLemmas.{distance_list_is}
use Rattle.ospf_paths.proofs.Passes.{here_or_not}
use Rattle.ospf_paths.proofs.SlackLinks.{slack_links_keep_distances, slack_links_keep_tight_arcs}
use Rattle.abstract_route.specs.declared.candidates.Candidate.{Candidate}
use Rattle.abstract_route.specs.declared.rows.Row.{Row}
use Rattle.abstract_route.specs.Beats.{beats}
use Rattle.abstract_route.specs.Rows.{IsBelow, bottom, inhabited, row_at}
use Rattle.abstract_route.proofs.RowLemmas.{below_refl}
use Rattle.concrete_algebra.proofs.RoutingLemmas.{up_link}
use Rattle.abstract_maps.proofs.ArcLemmas.{closed_is_bottom, open_grows, passes_is_open}
use Rattle.abstract_maps.proofs.SetWords.{below_or_not, has_full}
use Rattle.abstract_maps.specs.Transfer.{opens, passes}
use Rattle.possible_fixpoint.specs.declared.alive.Alive.{Alive}
use Rattle.possible_fixpoint.specs.Flow.{flow_of}
use Rattle.possible_fixpoint.specs.Held.{IsLessAlive, all_alive}
use Rattle.possible_fixpoint.specs.Possible.{possible}
use Rattle.possible_fixpoint.proofs.AliveLemmas.{possible_falls}
use Rattle.possible_fixpoint.proofs.IdleLemmas.{idle_links_keep_possible}
use Rattle.certain_fixpoint.specs.Certain.{Round, local_at}
use Rattle.certain_fixpoint.specs.CertainSet.{certain_set, joins, reaches, spread}
use Rattle.refine_rounds.specs.Idle.{IsIdle, first_rows}
use Rattle.refine_rounds.specs.Results.{CaseValue, result_at, result_of}
use Rattle.refine_rounds.specs.Reuse.{AreAlike, IdleLinksBringNothing, IdleLinksMayFail}
use Rattle.refine_rounds.specs.Rounds.{arc_candidate, local_candidate, round_of}
use Rattle.refine_rounds.specs.Steps.{arc_beats, drops_arc, drops_local, is_beaten, last_alive, local_beats, sender_beats, step}
use Rattle.refine_rounds.proofs.IdleLemmas.{idle_links_are}

-- ---- tests

-- what implies no test that holds does not hold
off : (p q : Bool) → (p ≡ true → q ≡ true) → q ≡ false → p ≡ false
off true q f e = sym (f refl) ∙ e
off false q f e = refl

test_off : (test : ℕ → Bool) (o : Option ℕ) → ((v : ℕ) → o ≡ Some v → test v ≡ false) → option_map_or test o false ≡ false
test_off test None none = refl
test_off test (Some v) none = none v refl

and_off : (p q : Bool) → q ≡ false → (p && q) ≡ false
and_off true q e = e
and_off false q e = refl

and_same : (p r q : Bool) → (p ≡ r) ⊎ (q ≡ false) → (p && q) ≡ (r && q)
and_same p r q (inl e) = ap (λ (b : Bool). b && q) e
and_same p r q (inr e) = and_off p q e ∙ sym (and_off r q e)

same_bools : (a b : Bool) → (a ≡ true → b ≡ true) → (b ≡ true → a ≡ true) → a ≡ b
same_bools true b f g = sym (f refl)
same_bools false true f g = g refl
same_bools false false f g = refl

-- ---- functions that are applied so many times

turns_keep : {X : Type 0} (f : X → X) (P : X → Type 0) (x : X) → P x → ((a : X) → P a → P (f a)) → (k : ℕ) → P (turns f k x)
turns_keep f P x start keeps zero = subst P (sym (turns-zero f x)) start
turns_keep f P x start keeps (suc k) = subst P (sym (turns-suc f k x)) (keeps (turns f k x) (turns_keep f P x start keeps k))

turns_alike : {X : Type 0} (f g : X → X) (P : X → Type 0) (x : X) → P x → ((a : X) → P a → P (g a)) → ((a : X) → P a → f a ≡ g a) → (k : ℕ) → turns f k x ≡ turns g k x
turns_alike f g P x start keeps same zero = turns-zero f x ∙ sym (turns-zero g x)
turns_alike f g P x start keeps same (suc k) =
    turns-suc f k x ∙ ap f (turns_alike f g P x start keeps same k) ∙ same (turns g k x) (turns_keep g P x start keeps k) ∙ sym (turns-suc g k x)

-- ---- what is alive has 64-bit words

set_inside : (test : ℕ → Bool) → IsPart (set_of test 64) 18446744073709551615
set_inside test = record {
  members = λ x e. elim (below_or_not x 64) [
    | inl low ↦ has_full x low
    | inr high ↦ absurd (let f = set_past test 64 x high in cc)
  ];
}

step_inside : (round : Round) (alive : Alive) → IsLessAlive (step round alive) all_alive
unfolding step
step_inside round alive = record {
  up = set_inside (λ link. has alive.up link && not (drops_arc round (up_of link)));
  down = set_inside (λ link. has alive.down link && not (drops_arc round (down_of link)));
  locals = set_inside (λ u. has alive.locals u && not (drops_local round u));
}

all_inside : IsLessAlive all_alive all_alive
all_inside = record {
  up = record { members = λ x e. e };
  down = record { members = λ x e. e };
  locals = record { members = λ x e. e };
}

-- ---- a round with other links failed

abbrev with_failed : Round → List ℕ → Round
with_failed round more = record { net = round.net; prefix = round.prefix; failed = more; distances = round.distances; rows = round.rows }

-- the arc is up as before, or is closed for its sender's row
abbrev IsStill : Round → List ℕ → Arc → Type 0
IsStill round more arc =
    (is_up round.net more arc ≡ is_up round.net round.failed arc) ⊎
    ((v : ℕ) → sender_of round.net arc ≡ Some v → opens round.net round.prefix arc (row_at round.rows v) ≡ false)

module _ (round : Round) (more : List ℕ) (valid : IsNet round.net) (still : (arc : Arc) → IsStill round more arc) where
  closed_passes : (arc : Arc) (v : ℕ) → opens round.net round.prefix arc (row_at round.rows v) ≡ false → passes round.net round.prefix arc (row_at round.rows v) ≡ false
  closed_passes arc v closed =
      off (passes round.net round.prefix arc (row_at round.rows v)) (opens round.net round.prefix arc (row_at round.rows v)) (passes_is_open round.net round.prefix arc (row_at round.rows v) valid) closed

  -- what asks whether an arc that is up passes its sender's row
  passing_same : (arc : Arc) (p : Bool) (test : ℕ → Bool) → ((v : ℕ) → passes round.net round.prefix arc (row_at round.rows v) ≡ false → test v ≡ false) →
      (is_up round.net more arc && (p && option_map_or test (sender_of round.net arc) false)) ≡ (is_up round.net round.failed arc && (p && option_map_or test (sender_of round.net arc) false))
  passing_same arc p test shut = and_same (is_up round.net more arc) (is_up round.net round.failed arc) (p && option_map_or test (sender_of round.net arc) false) (elim (still arc) [
    | inl e ↦ inl e
    | inr closed ↦ inr (and_off p (option_map_or test (sender_of round.net arc) false)
        (test_off test (sender_of round.net arc) (λ v from. shut v (closed_passes arc v (closed v from)))))
  ])

  reaches_same : (set u : ℕ) (arc : Arc) → reaches (with_failed round more) set u arc ≡ reaches round set u arc
  reaches_same set u arc =
      passing_same arc (option_map_or (λ w. w == u) (receiver_of round.net arc) false) (λ v. has set v && passes round.net round.prefix arc (row_at round.rows v))
      (λ v shut. and_off (has set v) (passes round.net round.prefix arc (row_at round.rows v)) shut)

  joins_same : (set u : ℕ) → joins (with_failed round more) set u ≡ joins round set u
  joins_same set u =
      ap (λ (f : ℕ → Bool). has set u || (is_some (local_at round u) || list_any f (range_with_len 0 (length round.net.links))))
      (λ i link. reaches_same set u (up_of link) i || reaches_same set u (down_of link) i)

  spread_same : (set : ℕ) → spread (with_failed round more) set ≡ spread round set
  unfolding spread
  spread_same set = ap (λ (f : ℕ → Bool). set_of f (length round.net.routers)) (λ i u. joins_same set u i)

  certain_same : certain_set (with_failed round more) ≡ certain_set round
  unfolding certain_set
  certain_same = ap (λ (f : ℕ → ℕ). turns f (2 ^ 64) 0) (λ i set. spread_same set i)

  arc_beats_same : (u : ℕ) (candidate : Candidate) (arc : Arc) → arc_beats (with_failed round more) u candidate arc ≡ arc_beats round u candidate arc
  arc_beats_same u candidate arc =
      ap (λ (set : ℕ). is_up round.net more arc && (option_map_or (λ w. w == u) (receiver_of round.net arc) false && option_map_or (λ v. has set v && (passes round.net round.prefix arc (row_at round.rows v) && (not (has (row_at round.rows v).may u) && beats (arc_candidate round arc v) candidate))) (sender_of round.net arc) false)) certain_same ∙
      passing_same arc (option_map_or (λ w. w == u) (receiver_of round.net arc) false) (sender_beats round u candidate arc)
      (λ v shut. and_off (has (certain_set round) v) (passes round.net round.prefix arc (row_at round.rows v) && (not (has (row_at round.rows v).may u) && beats (arc_candidate round arc v) candidate))
      (ap (λ (b : Bool). b && (not (has (row_at round.rows v).may u) && beats (arc_candidate round arc v) candidate)) shut))

  beaten_same : (u : ℕ) (candidate : Candidate) → is_beaten (with_failed round more) u candidate ≡ is_beaten round u candidate
  unfolding is_beaten
  beaten_same u candidate =
      ap (λ (f : ℕ → Bool). local_beats round u candidate || list_any f (range_with_len 0 (length round.net.links)))
      (λ i link. arc_beats_same u candidate (up_of link) i || arc_beats_same u candidate (down_of link) i)

  drops_arc_same : (arc : Arc) → drops_arc (with_failed round more) arc ≡ drops_arc round arc
  drops_arc_same arc =
      ap (λ (beaten : ℕ → Candidate → Bool). is_up round.net more arc && option_map_or (λ v. option_map_or (λ u. inhabited (arc_candidate round arc v).row && beaten u (arc_candidate round arc v)) (receiver_of round.net arc) false) (sender_of round.net arc) false)
      (λ i u candidate. beaten_same u candidate i) ∙
      and_same (is_up round.net more arc) (is_up round.net round.failed arc)
      (option_map_or (λ v. option_map_or (λ u. inhabited (arc_candidate round arc v).row && is_beaten round u (arc_candidate round arc v)) (receiver_of round.net arc) false) (sender_of round.net arc) false)
      (elim (still arc) [
        | inl e ↦ inl e
        | inr closed ↦ inr (test_off (λ v. option_map_or (λ u. inhabited (arc_candidate round arc v).row && is_beaten round u (arc_candidate round arc v)) (receiver_of round.net arc) false) (sender_of round.net arc) (λ v from.
            test_off (λ u. inhabited (arc_candidate round arc v).row && is_beaten round u (arc_candidate round arc v)) (receiver_of round.net arc) (λ u to.
            ap (λ (r : Row). inhabited r && is_beaten round u (arc_candidate round arc v)) (closed_is_bottom round.net round.prefix arc (row_at round.rows v) valid (closed v from)))))
      ])

  drops_local_same : (u : ℕ) → drops_local (with_failed round more) u ≡ drops_local round u
  drops_local_same u = ap (λ (b : Bool). is_some (local_at round u) && b) (beaten_same u (local_candidate round u))

  step_same : (alive : Alive) → step (with_failed round more) alive ≡ step round alive
  unfolding step
  step_same alive = λ i. record {
    up = set_of (λ link. has alive.up link && not (drops_arc_same (up_of link) i)) 64;
    down = set_of (λ link. has alive.down link && not (drops_arc_same (down_of link) i)) 64;
    locals = set_of (λ u. has alive.locals u && not (drops_local_same u i)) 64;
  }

-- ---- a case, and the one where an idle link fails too

-- rows below those of the first round
row_grows : (rows wide : List Row) → length rows ≡ length wide → ((u : ℕ) → u < length rows → IsBelow (row_at rows u) (row_at wide u)) → (u : ℕ) → IsBelow (row_at rows u) (row_at wide u)
row_grows rows wide long each u = elim (below_or_not u (length rows)) [
  | inl low ↦ each u low
  | inr high ↦ subst (λ (r : Row). IsBelow r (row_at wide u)) (sym (get_or_past rows u bottom high))
      (subst (λ (r : Row). IsBelow bottom r) (sym (get_or_past wide u bottom (omega arith))) (below_refl bottom))
]

-- an arc of an idle link is closed in every round
pub closed_later : (net : NetValue) (prefix : PrefixValue) (failed : List ℕ) (link : ℕ) → IsNet net → IsIdle net prefix failed link → (alive : Alive) → IsLessAlive alive all_alive →
    (arc : Arc) (v : ℕ) → arc.link ≡ link → sender_of net arc ≡ Some v → opens net prefix arc (row_at (possible (flow_of net prefix failed (distance_list net prefix failed) alive)) v) ≡ false
closed_later net prefix failed link valid idle alive less arc v same from =
    let ds = distance_list net prefix failed in
    let low = possible_falls net prefix failed (distance_list net prefix failed) alive all_alive valid (distance_list_is net prefix failed valid) less in
    let rows = possible (flow_of net prefix failed (distance_list net prefix failed) alive) in
    off (opens net prefix arc (row_at rows v)) (opens net prefix arc (row_at (first_rows net prefix failed) v))
    (open_grows net prefix arc (row_at rows v) (row_at (first_rows net prefix failed) v) valid (row_grows rows (first_rows net prefix failed) low.long low.each v))
    (idle.closed arc v same from)

-- what is alive in the last round
last_inside : (net : NetValue) (prefix : PrefixValue) (failed : List ℕ) (ds : List (Option ℕ)) → IsLessAlive (last_alive net prefix failed ds) all_alive
unfolding last_alive
last_inside net prefix failed ds =
    turns_keep (λ alive. step (round_of net prefix failed ds alive) alive) (λ a. IsLessAlive a all_alive) all_alive all_inside (λ a less. step_inside (round_of net prefix failed ds a) a) (3 * 2 ^ 64 + 1)

pub idle_links_bring_nothing : IdleLinksBringNothing
unfolding result_of
idle_links_bring_nothing net prefix failed link valid idle arc v same from =
    let alive = last_alive net prefix failed (distance_list net prefix failed) in
    closed_is_bottom net prefix arc (row_at (possible (flow_of net prefix failed (distance_list net prefix failed) alive)) v) valid
    (closed_later net prefix failed link valid idle alive (last_inside net prefix failed (distance_list net prefix failed)) arc v same from)

module _ (net : NetValue) (prefix : PrefixValue) (failed more : List ℕ) (link : ℕ) (valid : IsNet net) (is_with : IsWith failed link more) (idle : IsIdle net prefix failed link) where
  apart : (arc : Arc) → IsTightArc net failed (distance_list net prefix failed) arc → arc.link ≢ link
  apart arc tight same = idle.slack arc same tight

  far_still : AreDistances net prefix more (distance_list net prefix failed)
  far_still = slack_links_keep_distances net prefix failed more link (distance_list net prefix failed) valid (distance_list_is net prefix failed valid) is_with apart

  far_same : distance_list net prefix more ≡ distance_list net prefix failed
  far_same = distances_are_one net prefix more (distance_list net prefix more) (distance_list net prefix failed) (distance_list_is net prefix more valid) far_still

  kept : (other : ℕ) → holds failed other ≡ true → holds more other ≡ true
  kept other e = elim (here_or_not other link) [
    | inl same ↦ subst (λ (x : ℕ). holds more x ≡ true) (sym same) is_with.has
    | inr differs ↦ is_with.others other differs ∙ e
  ]

  -- an arc that goes down is of the link
  at_link : (arc : Arc) → is_up net failed arc ≡ true → holds more arc.link ≡ true → arc.link ≡ link
  at_link arc up out = elim (here_or_not arc.link link) [
    | inl same ↦ same
    | inr differs ↦ absurd (
        let e = both (is_session net arc) (not (holds failed arc.link)) up in
        let f : not (holds more arc.link) ≡ true = ap not (is_with.others arc.link differs) ∙ e.1 in
        let g : false ≡ true = sym (ap not out) ∙ f in cc)
  ]

  closed_first : (arc : Arc) → is_up net failed arc ≡ true → holds more arc.link ≡ true →
      opens net prefix arc (row_at (first_rows net prefix failed) (unwrap_or (sender_of net arc) 0)) ≡ false
  closed_first arc up out =
      let l = up_link net failed arc up in
      let from : sender_of net arc ≡ Some (from_end arc.down l.0).router = ap (λ (o : Option Link). option_map (λ (x : Link). (from_end arc.down x).router) o) l.1 in
      subst (λ (o : Option ℕ). opens net prefix arc (row_at (first_rows net prefix failed) (unwrap_or o 0)) ≡ false) (sym from)
      (idle.closed arc (from_end arc.down l.0).router (at_link arc up out) from)

  rows_same : (alive : Alive) → IsLessAlive alive all_alive →
      possible (flow_of net prefix more (distance_list net prefix failed) alive) ≡ possible (flow_of net prefix failed (distance_list net prefix failed) alive)
  rows_same alive less =
      sym (idle_links_keep_possible net prefix failed more (distance_list net prefix failed) alive all_alive valid (distance_list_is net prefix failed valid) far_still less kept closed_first)

  still_at : (alive : Alive) → IsLessAlive alive all_alive → (arc : Arc) → IsStill (round_of net prefix failed (distance_list net prefix failed) alive) more arc
  still_at alive less arc = elim (here_or_not arc.link link) [
    | inl same ↦ inr (λ v from. closed_later net prefix failed link valid idle alive less arc v same from)
    | inr differs ↦ inl (ap (λ (b : Bool). is_session net arc && not b) (is_with.others arc.link differs))
  ]

  certain_stays : (alive : Alive) → IsLessAlive alive all_alive →
      certain_set (round_of net prefix more (distance_list net prefix failed) alive) ≡ certain_set (round_of net prefix failed (distance_list net prefix failed) alive)
  certain_stays alive less =
      ap (λ (rows : List Row). certain_set (record { net = net; prefix = prefix; failed = more; distances = distance_list net prefix failed; rows = rows })) (rows_same alive less) ∙
      certain_same (round_of net prefix failed (distance_list net prefix failed) alive) more valid (still_at alive less)

  step_stays : (alive : Alive) → IsLessAlive alive all_alive →
      step (round_of net prefix more (distance_list net prefix failed) alive) alive ≡ step (round_of net prefix failed (distance_list net prefix failed) alive) alive
  step_stays alive less =
      ap (λ (rows : List Row). step (record { net = net; prefix = prefix; failed = more; distances = distance_list net prefix failed; rows = rows }) alive) (rows_same alive less) ∙
      step_same (round_of net prefix failed (distance_list net prefix failed) alive) more valid (still_at alive less) alive

  -- so the last round is the same
  last_stays : last_alive net prefix more (distance_list net prefix failed) ≡ last_alive net prefix failed (distance_list net prefix failed)
  unfolding last_alive
  last_stays =
      turns_alike (λ alive. step (round_of net prefix more (distance_list net prefix failed) alive) alive) (λ alive. step (round_of net prefix failed (distance_list net prefix failed) alive) alive)
      (λ a. IsLessAlive a all_alive) all_alive all_inside (λ a less. step_inside (round_of net prefix failed (distance_list net prefix failed) a) a) (λ a less. step_stays a less) (3 * 2 ^ 64 + 1)

  -- and which other links are idle
  idle_stays : (other : ℕ) → holds more other ≡ false → IsIdle net prefix failed other → IsIdle net prefix more other
  idle_stays other out i = record {
    inside = i.inside;
    up = out;
    closed = λ arc v same from.
        ap (λ (rows : List Row). opens net prefix arc (row_at rows v))
        (ap (λ (ds : List (Option ℕ)). possible (flow_of net prefix more ds all_alive)) far_same ∙ rows_same all_alive all_inside) ∙ i.closed arc v same from;
    slack = λ arc same tight.
        let t : IsTightArc net more (distance_list net prefix failed) arc = subst (λ (ds : List (Option ℕ)). IsTightArc net more ds arc) far_same tight in
        i.slack arc same (t.0, t.1, (slack_links_keep_tight_arcs net failed more link (distance_list net prefix failed) is_with apart arc t.0 t.1).1 t.2);
  }

  apart_outside : (other : ℕ) → holds more other ≡ false → other ≢ link
  apart_outside other out same = let t : true ≡ false = sym (ap (holds more) same ∙ is_with.has) ∙ out in cc

  idle_was : (other : ℕ) → holds more other ≡ false → IsIdle net prefix more other → IsIdle net prefix failed other
  idle_was other out i = record {
    inside = i.inside;
    up = sym (is_with.others other (apart_outside other out)) ∙ out;
    closed = λ arc v same from.
        ap (λ (rows : List Row). opens net prefix arc (row_at rows v))
        (sym (ap (λ (ds : List (Option ℕ)). possible (flow_of net prefix more ds all_alive)) far_same ∙ rows_same all_alive all_inside)) ∙ i.closed arc v same from;
    slack = λ arc same tight.
        i.slack arc same (subst (λ (ds : List (Option ℕ)). IsTightArc net more ds arc) (sym far_same)
        (tight.0, tight.1, (slack_links_keep_tight_arcs net failed more link (distance_list net prefix failed) is_with apart arc tight.0 tight.1).0 tight.2));
  }

  idle_same : (other : ℕ) → holds more other ≡ false → has (result_of net prefix more).idle other ≡ has (result_of net prefix failed).idle other
  idle_same other out = same_bools (has (result_of net prefix more).idle other) (has (result_of net prefix failed).idle other)
      (λ e. (idle_links_are net prefix failed other).1 (idle_was other out ((idle_links_are net prefix more other).0 e)))
      (λ e. (idle_links_are net prefix more other).1 (idle_stays other out ((idle_links_are net prefix failed other).0 e)))

  -- at the same distances, with the same alive
  moved : result_of net prefix more ≡ result_at net prefix more (distance_list net prefix failed) (last_alive net prefix failed (distance_list net prefix failed))
  unfolding result_of
  moved =
      ap (λ (ds : List (Option ℕ)). result_at net prefix more ds (last_alive net prefix more ds)) far_same ∙
      ap (λ (a : Alive). result_at net prefix more (distance_list net prefix failed) a) last_stays

  alike : AreAlike more (result_of net prefix more) (result_of net prefix failed)
  unfolding result_of
  alike =
      let inside = last_inside net prefix failed (distance_list net prefix failed) in
      record {
        rows = ap (λ (r : CaseValue). r.rows) moved ∙ rows_same (last_alive net prefix failed (distance_list net prefix failed)) inside;
        certain = ap (λ (r : CaseValue). r.certain) moved ∙ certain_stays (last_alive net prefix failed (distance_list net prefix failed)) inside;
        alive = ap (λ (r : CaseValue). r.alive) moved;
        distances = ap (λ (r : CaseValue). r.distances) moved;
        idle = idle_same;
      }

pub idle_links_may_fail : IdleLinksMayFail
idle_links_may_fail net prefix set link valid held idle =
    alike net prefix (without set link) set link valid (held_links_come_back set link held) idle

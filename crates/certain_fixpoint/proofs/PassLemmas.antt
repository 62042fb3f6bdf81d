-- Passes over the arcs add certain routers alone, and where one adds nothing the set has them all.
use Rattle.std.proofs.Common.{ℕ, suc, ◌≡◌, ◌<◌, ◌≤◌, ◌+◌, ◌^◌, ◌⊎◌, inl, inr, Bool, true, false, length, bit_or, Option, Some, None, arith, ap, sym, subst, refl, ◌∙◌, if◌then◌else◌}
use Rattle.std.specs.Option.{is_some}
use Rattle.net_types.specs.declared.arcs.Arc.{Arc}
use Rattle.net_types.specs.declared.routes.Route.{Route}
use Rattle.net_types.specs.Arcs.{down_of, up_of}
use Rattle.net_types.specs.NetFacts.{IsNet}
use Rattle.net_types.specs.NetValue.{NetValue}
use Rattle.net_types.specs.PrefixValue.{PrefixValue}
use Rattle.net_types.specs.Sets.{has}
use Rattle.net_types.specs.Turns.{set_of}
use Rattle.net_types.proofs.SetLemmas.{has_union, part_le}
use Rattle.net_types.proofs.TestLemmas.{either, is_some_of, left, right, equal_self, same_number}
use Rattle.net_types.proofs.TurnLemmas.{has_single, set_in, set_past}
use Rattle.net_types.proofs.WordLemmas.{same_members_are_one_set}
use Rattle.concrete_algebra.specs.LocalRoutes.{local_of}
use Rattle.concrete_algebra.specs.Laws.{IsRouting}
use Rattle.concrete_algebra.proofs.RoutingLemmas.{networks_route}
use Rattle.abstract_route.specs.Rows.{IsInhabited, inhabited}
use Rattle.abstract_route.proofs.FitLemmas.{fits_inhabited, inhabited_is}
use Rattle.abstract_maps.specs.LocalRow.{local_row}
use Rattle.abstract_maps.proofs.LocalLemmas.{local_is_exact}
use Rattle.certain_fixpoint.specs.Certain.{IsCertain, IsClosed, Leads, Round, local_at, problem_at}
use Rattle.certain_fixpoint.specs.CertainSet.{certain_set}
use Rattle.certain_fixpoint.specs.OnTheWay.{Added, AreSure, IsMet, Linked, Passed, originating}
use Rattle.certain_fixpoint.proofs.CertainLemmas.{certain_set_is, certain_inside, certain_small, receiver_is}

-- a router originates a route exactly where the row of its local route has one
pub originates_is : (net : NetValue) (prefix : PrefixValue) (u : ℕ) (distance : Option ℕ) → IsNet net → u < length net.routers →
    inhabited (local_row net prefix u distance) ≡ is_some (local_of net prefix u distance)
originates_is net prefix u distance valid low = go (local_of net prefix u distance) refl where
  go : (o : Option Route) → local_of net prefix u distance ≡ o → inhabited (local_row net prefix u distance) ≡ is_some (local_of net prefix u distance)
  go None e = rw e refl
  go (Some route) e =
      let fits = (local_is_exact net prefix u distance route valid low e).fits in
      (inhabited_is (local_row net prefix u distance)).1 (fits_inhabited route (local_row net prefix u distance) fits) ∙ sym (ap is_some e)

-- ---- a set made number by number

pub set_none : (test : ℕ → Bool) → 0 ≡ set_of test 0
unfolding set_of
set_none test = refl

number_more : (test : ℕ → Bool) (k m set : ℕ) (b : Bool) → m ≡ suc k → test k ≡ b → set ≡ set_of test k → (if b then bit_or set (2 ^ k) else set) ≡ set_of test m
unfolding set_of
number_more test k m set b e t is = rw (e, t, is) refl

pub set_with : (test : ℕ → Bool) (k set : ℕ) → test k ≡ true → set ≡ set_of test k → bit_or set (2 ^ k) ≡ set_of test (k + 1)
set_with test k set t is = number_more test k (k + 1) set true (omega arith) t is

pub set_same : (test : ℕ → Bool) (k set : ℕ) → test k ≡ false → set ≡ set_of test k → set ≡ set_of test (k + 1)
set_same test k set t is = number_more test k (k + 1) set false (omega arith) t is

-- ---- one number more

old_or_new : (set u x : ℕ) → has (bit_or set (2 ^ u)) x ≡ true → (has set x ≡ true) ⊎ (x ≡ u)
old_or_new set u x e = elim (either (has set x) (has (2 ^ u) x) (sym (has_union set (2 ^ u) x) ∙ e)) [
  | inl old ↦ inl old
  | inr new ↦ inr (same_number x u (sym (has_single u x) ∙ new))
]

still_in : (set u x : ℕ) → has set x ≡ true → has (bit_or set (2 ^ u)) x ≡ true
still_in set u x e = has_union set (2 ^ u) x ∙ left (has set x) (has (2 ^ u) x) e

new_in : (set u : ℕ) → has (bit_or set (2 ^ u)) u ≡ true
new_in set u = has_union set (2 ^ u) u ∙ right (has set u) (has (2 ^ u) u) (has_single u u ∙ equal_self u)

grows : (set u : ℕ) → set ≤ bit_or set (2 ^ u)
grows set u = part_le set (bit_or set (2 ^ u)) (record { members = λ x e. still_in set u x e })

-- with a new number it is another set
differs : (set u : ℕ) → has set u ≡ false → bit_or set (2 ^ u) ≡ set → ⊥
differs set u absent e = let f : has set u ≡ true = subst (λ (n : ℕ). has n u ≡ true) e (new_in set u) in let g : true ≡ false = sym f ∙ absent in cc

-- ---- one arc, and the two of a link

receiver_low : (round : Round) (arc : Arc) (v u : ℕ) → IsNet round.net → Leads round arc v u → u < length round.net.routers
receiver_low round arc v u valid leads =
    let routing : IsRouting (problem_at round) = networks_route round.net round.prefix round.failed round.distances valid in
    subst (λ (w : ℕ). w < length round.net.routers) (receiver_is round arc v u leads) (routing.receiver arc leads.up)

sure_more : (round : Round) (arc : Arc) (v u set : ℕ) → IsNet round.net → Leads round arc v u → has set v ≡ true →
    Rattle.abstract_maps.specs.Transfer.passes round.net round.prefix arc (Rattle.abstract_route.specs.Rows.row_at round.rows v) ≡ true → AreSure round set → AreSure round (bit_or set (2 ^ u))
sure_more round arc v u set valid leads member passing sure = record {
  inside = λ x e. elim (old_or_new set u x e) [
    | inl old ↦ sure.inside x old
    | inr new ↦ subst (λ (w : ℕ). w < length round.net.routers) (sym new) (receiver_low round arc v u valid leads)
  ];
  certain = λ x e. elim (old_or_new set u x e) [
    | inl old ↦ sure.certain x old
    | inr new ↦ subst (λ (w : ℕ). IsCertain round w) (sym new) (λ test closed. closed.learned arc v u leads (sure.certain v member test closed) passing)
  ];
  local = λ x route low e. still_in set u x (sure.local x route low e);
}

pub added_sure : (round : Round) (arc : Arc) (before after : ℕ) → IsNet round.net → Added round arc before after → AreSure round before → AreSure round after
added_sure round arc before after valid (inl none) sure = rw none.is sure
added_sure round arc before after valid (inr one) sure = rw one.is (sure_more round arc one.v one.u before valid one.leads one.member one.passing sure)

added_grown : (round : Round) (arc : Arc) (before after : ℕ) → Added round arc before after → before ≤ after
added_grown round arc before after (inl none) = rw none.is (omega arith)
added_grown round arc before after (inr one) = rw one.is (grows before one.u)

added_met : (round : Round) (arc : Arc) (before after : ℕ) → Added round arc before after → after ≡ before → IsMet round before arc
added_met round arc before after (inl none) same = none.met
added_met round arc before after (inr one) same = absurd (differs before one.u one.absent (sym one.is ∙ same))

between : (a b c : ℕ) → a ≤ b → b ≤ c → c ≡ a → (c ≡ b) × (b ≡ a)
between a b c h l e = (omega arith, omega arith)

pub linked : (round : Round) (link before more after : ℕ) → IsNet round.net → Added round (up_of link) before more → Added round (down_of link) more after →
    Linked round link before after
linked round link before more after valid up down = record {
  sure = λ sure. added_sure round (down_of link) more after valid down (added_sure round (up_of link) before more valid up sure);
  grown = let a = added_grown round (up_of link) before more up in let b = added_grown round (down_of link) more after down in omega arith;
  met = λ same arc over.
      let e = between before more after (added_grown round (up_of link) before more up) (added_grown round (down_of link) more after down) same in
      on arc.link arc.down over e.0 e.1;
} where
  on : (number : ℕ) (way : Bool) → number ≡ link → after ≡ more → more ≡ before → IsMet round after (record { link = number; down = way })
  on number false over e f = rw (over, e, f) (added_met round (up_of link) before more up f)
  on number true over e f = rw (over, e) (added_met round (down_of link) more after down e)

-- ---- a pass

pub passed_none : (round : Round) (set : ℕ) → AreSure round set → Passed round 0 set set
passed_none round set sure = record { sure = sure; grown = omega arith; met = λ same arc low. absurd (omega arith) }

last_or_before : (a k : ℕ) → a < k + 1 → (a ≡ k) ⊎ (a < k)
last_or_before a k h = grind arith

pub passed_more : (round : Round) (k start set after : ℕ) → Passed round k start set → Linked round k set after → Passed round (k + 1) start after
passed_more round k start set after p l = record {
  sure = l.sure p.sure;
  grown = let a = p.grown in let b = l.grown in omega arith;
  met = λ same arc low.
      let e = between start set after p.grown l.grown same in
      elim (last_or_before arc.link k low) [
        | inl here ↦ l.met e.0 arc here
        | inr earlier ↦ subst (λ (n : ℕ). IsMet round n arc) (sym e.0) (p.met e.1 arc earlier)
      ];
}

-- ---- the routers that originate a route

pub sure_at_first : (round : Round) → AreSure round (originating round)
sure_at_first round = record {
  inside = λ u e. inside u e;
  certain = λ u e test closed. let low = inside u e in let r = is_some_of (local_at round u) (sym (at u low) ∙ e) in closed.local u r.0 low r.1;
  local = λ u route low e. at u low ∙ ap is_some e;
} where
  at : (u : ℕ) → u < length round.net.routers → has (originating round) u ≡ is_some (local_at round u)
  at u low = set_in (λ w. is_some (local_at round w)) (length round.net.routers) u low

  low_or_high : (u n : ℕ) → (u < n) ⊎ (n ≤ u)
  low_or_high u n = grind arith

  inside : (u : ℕ) → has (originating round) u ≡ true → u < length round.net.routers
  inside u e = elim (low_or_high u (length round.net.routers)) [
    | inl low ↦ low
    | inr high ↦ absurd (let f = set_past (λ w. is_some (local_at round w)) (length round.net.routers) u high in cc)
  ]

pub sure_when : (round : Round) (set : ℕ) → set ≡ originating round → AreSure round set
sure_when round set e = rw e (sure_at_first round)

-- ---- the end

same_test : (a b : Bool) → (a ≡ true → b ≡ true) → (b ≡ true → a ≡ true) → a ≡ b
same_test true b f g = sym (f refl)
same_test false true f g = g refl
same_test false false f g = refl

pub sure_is_certain : (round : Round) (set : ℕ) → IsNet round.net → set < 2 ^ 64 → AreSure round set → ((arc : Arc) → arc.link < length round.net.links → IsMet round set arc) →
    set ≡ certain_set round
sure_is_certain round set valid small sure met =
    same_members_are_one_set set (certain_set round) small (certain_small round valid) (λ x few. same_test (has set x) (has (certain_set round) x) (there x) (back x)) where
      closed : IsClosed round (λ u. has set u)
      closed = record {
        local = sure.local;
        learned = λ arc v u leads member passing.
            let routing : IsRouting (problem_at round) = networks_route round.net round.prefix round.failed round.distances valid in
            met arc (routing.link arc leads.up) v u leads member passing;
      }

      there : (x : ℕ) → has set x ≡ true → has (certain_set round) x ≡ true
      there x e = (certain_set_is round valid x (sure.inside x e)).1 (sure.certain x e)

      back : (x : ℕ) → has (certain_set round) x ≡ true → has set x ≡ true
      back x e = (certain_set_is round valid x (certain_inside round x e)).0 e (λ u. has set u) closed

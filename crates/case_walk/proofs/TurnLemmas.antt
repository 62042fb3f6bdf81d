-- The verdicts of a book over the sets of one prefix, one set after the other.
use Rattle.std.proofs.Common.{ℕ, ◌≡◌, ◌≤◌, ◌<◌, ◌+◌, inl, inr, ◌&&◌, Bool, true, false, nat_le, Option, Some, None, is_none, List as Seq, [], ◌∷◌, length, arith, refl, ap, sym, subst, ◌∙◌}
use Rattle.std.proofs.lemmas.Option.{slice_get_within}
use Rattle.std.proofs.lemmas.Bool.{cases_order, and_parts, and_from}
use Rattle.std.proofs.lemmas.Bool.Decides.{nat_tests}
use Rattle.std.specs.List.{slice_get}
use Rattle.net_types.specs.FailSets.{without}
use Rattle.net_types.specs.NetValue.{NetValue}
use Rattle.net_types.specs.PrefixValue.{PrefixValue}
use Rattle.net_types.specs.Prefixes.{same_prefix}
use Rattle.net_types.proofs.PrefixLemmas.{same_prefix_is_one}
use Rattle.failure_sets.specs.SetOrder.{IsPermitted}
use Rattle.failure_sets.specs.SetList.{failure_sets, place_of}
use Rattle.failure_sets.proofs.LawLemmas.{holds_the_permitted, stand_in_order, places_are_positions, fewer_come_earlier}
use Rattle.property_book.specs.declared.property.Property.{Property}
use Rattle.property_book.specs.declared.verdict.Barred.{Barred}
use Rattle.property_book.specs.declared.verdict.Broken.{Broken}
use Rattle.property_book.specs.declared.verdict.Verdict.{Verdict}
use Rattle.property_book.specs.declared.verdict.Verdict.TheVariants.{Certified, NotCertified, NotApplicable}
use Rattle.property_book.specs.Applicable.{barred}
use Rattle.case_walk.specs.Analysis.{Analysis, Answers, AreReusable, is_idle}
use Rattle.case_walk.specs.Representatives.{spare, is_own}
use Rattle.case_walk.specs.Book.{applies, is_of}
use Rattle.case_walk.specs.Verdicts.{IsFirstBroken, IsVerdict}
use Rattle.case_walk.specs.Marks.{AllTurn, none, one, AreMarkedIf, IsMarked, is_asked, verdict_with}
use Rattle.case_walk.specs.Turns.{IsVerdictOf, IsTurn, IsJudged}
use Rattle.case_walk.proofs.SetLemmas.{without_less}
use Rattle.case_walk.proofs.ReuseLemmas.{IsSpare, is_spare, own_without_spare, more_permitted}

-- relations over a book
pub turns_same : (R : Property → Verdict → Verdict → Type 0) (book : Seq Property) (verdicts : Seq Verdict) → length book ≡ length verdicts → ((property : Property) (v : Verdict) → R property v v) → AllTurn R book verdicts verdicts
turns_same R [] [] h r = none
turns_same R [] (v ∷ verdicts) h r = absurd (omega arith)
turns_same R (property ∷ book) [] h r = absurd (omega arith)
turns_same R (property ∷ book) (v ∷ verdicts) h r = one (r property v) (turns_same R book verdicts (omega arith) r)

pub turns_chain : (R S T : Property → Verdict → Verdict → Type 0) {book : Seq Property} {x y z : Seq Verdict} →
    ((property : Property) (a b c : Verdict) → R property a b → S property b c → T property a c) → AllTurn R book x y → AllTurn S book y z → AllTurn T book x z
turns_chain R S T t none none = none
turns_chain R S T t (one {property} {book} {a} {b} r p) (one {b = c} s q) = one (t property a b c r s) (turns_chain R S T t p q)

pub turns_weaker : (R T : Property → Verdict → Verdict → Type 0) {book : Seq Property} {x y : Seq Verdict} → ((property : Property) (a b : Verdict) → R property a b → T property a b) → AllTurn R book x y → AllTurn T book x y
turns_weaker R T t none = none
turns_weaker R T t (one {property} {book} {a} {b} r p) = one (t property a b r) (turns_weaker R T t p)

-- a property that applies has no bar
pub open_of : (net : NetValue) (property : Property) → applies net property ≡ true → barred net property ≡ None
open_of net property h = go (barred net property) refl h where
  go : (o : Option Barred) → barred net property ≡ o → is_none o ≡ true → barred net property ≡ None
  go None e h = e
  go (Some bar) e h = absurd (let f : false ≡ true = h in cc)

-- one set at a place
here : (sets : Seq (Seq ℕ)) (n i : ℕ) (set other : Seq ℕ) → slice_get sets n ≡ Some set → i ≡ n → slice_get sets i ≡ Some other → set ≡ other
here sets n i set other at e is = let f : slice_get sets n ≡ Some other = ap (slice_get sets) (sym e) ∙ is in cc

-- the verdict of a property that asks of the set that comes
verdict_more : (analysis : Analysis) (property : Property) (sets : Seq (Seq ℕ)) (n : ℕ) (set : Seq ℕ) (v : Verdict) (answer : Option Broken) → slice_get sets n ≡ Some set → length set ≤ property.failures →
    Answers analysis property set answer → IsVerdictOf analysis property sets n v → IsVerdictOf analysis property sets (n + 1) (verdict_with v set answer)
verdict_more analysis property sets n set (NotApplicable bar) answer at few is v = absurd v
verdict_more analysis property sets n set (NotCertified first broken) answer at few is v =
    record { place = v.place; within = (let w = v.within in omega arith); found = v.found; few = v.few; is_broken = v.is_broken; first = v.first }
verdict_more analysis property sets n set Certified (Some broken) at few is v = record { place = n; within = omega arith; found = at; few = few; is_broken = is; first = v }
verdict_more analysis property sets n set Certified None at few is v = λ i other less stands low. elim (cases_order i n) [
  | inl same ↦ subst (λ (s : Seq ℕ). analysis.Implied property s) (here sets n i set other at same stands) is
  | inr (inl before) ↦ v i other before stands low
  | inr (inr past) ↦ absurd (omega arith)
]

-- the verdict stays where nothing new can be broken in the set that comes
verdict_stays : (analysis : Analysis) (property : Property) (sets : Seq (Seq ℕ)) (n : ℕ) (set : Seq ℕ) (v : Verdict) → slice_get sets n ≡ Some set →
    (IsVerdictOf analysis property sets n Certified → length set ≤ property.failures → analysis.Implied property set) →
    IsVerdictOf analysis property sets n v → IsVerdictOf analysis property sets (n + 1) v
verdict_stays analysis property sets n set (NotApplicable bar) at h v = absurd v
verdict_stays analysis property sets n set (NotCertified first broken) at h v =
    record { place = v.place; within = (let w = v.within in omega arith); found = v.found; few = v.few; is_broken = v.is_broken; first = v.first }
verdict_stays analysis property sets n set Certified at h v = λ i other less stands low. elim (cases_order i n) [
  | inl same ↦ (let e = here sets n i set other at same stands in
      subst (λ (s : Seq ℕ). analysis.Implied property s) e (h v (subst (λ (s : Seq ℕ). length s ≤ property.failures) (sym e) low)))
  | inr (inl before) ↦ v i other before stands low
  | inr (inr past) ↦ absurd (omega arith)
]

-- a set that is solved
turn_marked : (net : NetValue) (analysis : Analysis) (links : ℕ) (prefix : PrefixValue) (most n : ℕ) (set : Seq ℕ) (property : Property) (a b c : Verdict) → slice_get (failure_sets links most) n ≡ Some set →
    IsTurn net analysis links prefix most n property a b → IsMarked net analysis prefix set property b c → IsTurn net analysis links prefix most (n + 1) property a c
turn_marked net analysis links prefix most n set property a b c at turn is = go (is_of net prefix property) refl (nat_le (length set) property.failures) refl where
  go : (p : Bool) → is_of net prefix property ≡ p → (q : Bool) → nat_le (length set) property.failures ≡ q → IsTurn net analysis links prefix most (n + 1) property a c
  go true e true f =
      let l : length set ≤ property.failures = grind (arith, nat_tests) in
      let m = is.asked (and_from (is_of net prefix property) (nat_le (length set) property.failures) e f) in
      record {
        mine = λ mine old. subst (λ (v : Verdict). IsVerdictOf analysis property (failure_sets links most) (n + 1) v) (sym m.2)
            (verdict_more analysis property (failure_sets links most) n set b m.0 at l m.1 (turn.mine mine old));
        other = λ no. absurd (let t : true ≡ false = sym e ∙ no in cc);
      }
  go true e false f =
      let m : c ≡ b = is.other (ap (λ (k : Bool). is_of net prefix property && k) f ∙ ap (λ (k : Bool). k && false) e) in
      record {
        mine = λ mine old. subst (λ (v : Verdict). IsVerdictOf analysis property (failure_sets links most) (n + 1) v) (sym m)
            (verdict_stays analysis property (failure_sets links most) n set b at (λ v low. absurd (let t : false ≡ true = grind (arith, nat_tests) in cc)) (turn.mine mine old));
        other = λ no. absurd (let t : true ≡ false = sym e ∙ no in cc);
      }
  go false e q f =
      let m : c ≡ b = is.other (ap (λ (k : Bool). k && nat_le (length set) property.failures) e) in
      record {
        mine = λ mine old. absurd (let t : false ≡ true = sym e ∙ mine in cc);
        other = λ no. m ∙ turn.other no;
      }

-- a set that is not its own representative has a spare link
spare_of : (idle : Seq ℕ → ℕ) (set : Seq ℕ) → is_own idle set ≡ false → (link : ℕ) × IsSpare idle set link
spare_of idle set not_own = go (spare idle set) refl where
  go : (o : Option ℕ) → spare idle set ≡ o → (link : ℕ) × IsSpare idle set link
  go None e = absurd (let t = own_without_spare idle set e in let f : true ≡ false = sym t ∙ not_own in cc)
  go (Some link) e = (link, is_spare idle set link e)

-- the prefix of a property that is of it
pub prefix_of_mine : (net : NetValue) (prefix : PrefixValue) (property : Property) → is_of net prefix property ≡ true → prefix ≡ property.prefix
prefix_of_mine net prefix property mine = (same_prefix_is_one prefix property.prefix).0 (and_parts (applies net property) (same_prefix prefix property.prefix) mine).1

-- a property is implied in a set that is reused, where it is in the sets before it
reused_whole : (net : NetValue) (analysis : Analysis) (links : ℕ) (prefix : PrefixValue) (most n : ℕ) (set : Seq ℕ) (property : Property) → AreReusable links analysis → most ≤ 3 → slice_get (failure_sets links most) n ≡ Some set →
    is_own (analysis.idle prefix) set ≡ false → is_of net prefix property ≡ true → IsVerdictOf analysis property (failure_sets links most) n Certified → length set ≤ property.failures → analysis.Implied property set
reused_whole net analysis links prefix most n set property law small at not_own mine v low =
    let p = (holds_the_permitted links most set).1 (n, at) in
    let s = spare_of (analysis.idle prefix) set not_own in
    let unused : is_idle (analysis.idle property.prefix) (without set s.0) s.0 ≡ true =
    subst (λ (q : PrefixValue). is_idle (analysis.idle q) (without set s.0) s.0 ≡ true) (prefix_of_mine net prefix property mine) s.1.unused in
    let f = fewer_come_earlier links most set s.0 small p s.1.inside in
    let place = (places_are_positions links most n set small p).0 at in
    let less = f.1 in
    let w = without_less set s.0 s.1.inside in
    let stands = (places_are_positions links most (place_of links (without set s.0)) (without set s.0) small f.0).1 refl in
    (law.implied property set s.0 (more_permitted links most set small p) s.1.inside unused).1
    (v (place_of links (without set s.0)) (without set s.0) (omega arith) stands (omega arith))

-- a set that is reused
turn_reused : (net : NetValue) (analysis : Analysis) (links : ℕ) (prefix : PrefixValue) (most n : ℕ) (set : Seq ℕ) (property : Property) (a b : Verdict) → AreReusable links analysis → most ≤ 3 →
    slice_get (failure_sets links most) n ≡ Some set → is_own (analysis.idle prefix) set ≡ false → IsTurn net analysis links prefix most n property a b → IsTurn net analysis links prefix most (n + 1) property a b
turn_reused net analysis links prefix most n set property a b law small at not_own turn = record {
  mine = λ mine old. verdict_stays analysis property (failure_sets links most) n set b at (reused_whole net analysis links prefix most n set property law small at not_own mine) (turn.mine mine old);
  other = turn.other;
}

-- one set more
pub turns_more : (net : NetValue) (analysis : Analysis) (links : ℕ) (prefix : PrefixValue) (most n : ℕ) (set : Seq ℕ) (book : Seq Property) (first olds news : Seq Verdict) → AreReusable links analysis → most ≤ 3 →
    slice_get (failure_sets links most) n ≡ Some set → AllTurn (IsTurn net analysis links prefix most n) book first olds →
    AreMarkedIf net analysis prefix set (is_own (analysis.idle prefix) set) book olds news → AllTurn (IsTurn net analysis links prefix most (n + 1)) book first news
turns_more net analysis links prefix most n set book first olds news law small at turns is = go (is_own (analysis.idle prefix) set) refl is where
  go : (o : Bool) → is_own (analysis.idle prefix) set ≡ o → AreMarkedIf net analysis prefix set o book olds news → AllTurn (IsTurn net analysis links prefix most (n + 1)) book first news
  go true e m = turns_chain (IsTurn net analysis links prefix most n) (IsMarked net analysis prefix set) (IsTurn net analysis links prefix most (n + 1))
      (λ property a b c. turn_marked net analysis links prefix most n set property a b c at) turns m
  go false e m = subst (λ (vs : Seq Verdict). AllTurn (IsTurn net analysis links prefix most (n + 1)) book first vs) (sym m)
      (turns_weaker (IsTurn net analysis links prefix most n) (IsTurn net analysis links prefix most (n + 1)) (λ property a b. turn_reused net analysis links prefix most n set property a b law small at e) turns)

-- before the first set
pub turns_start : (net : NetValue) (analysis : Analysis) (links : ℕ) (prefix : PrefixValue) (most : ℕ) (book : Seq Property) (verdicts : Seq Verdict) → length book ≡ length verdicts →
    AllTurn (IsTurn net analysis links prefix most 0) book verdicts verdicts
turns_start net analysis links prefix most book verdicts long = turns_same (IsTurn net analysis links prefix most 0) book verdicts long (λ property v. record {
  mine = λ mine old. subst (λ (w : Verdict). IsVerdictOf analysis property (failure_sets links most) 0 w) (sym old) (λ i set less stands low. absurd (omega arith));
  other = λ no. refl;
})

-- behind the last set
within_most : (links few most : ℕ) (set : Seq ℕ) → few ≤ most → IsPermitted links few set → IsPermitted links most set
within_most links few most set h p = record { few = (let f = p.few in omega arith); ascending = p.ascending; below = p.below }

verdict_of_all : (net : NetValue) (analysis : Analysis) (links : ℕ) (prefix : PrefixValue) (most n : ℕ) (property : Property) (v : Verdict) → links ≡ length net.links → length (failure_sets links most) ≤ n →
    barred net property ≡ None → property.failures ≤ most → IsVerdictOf analysis property (failure_sets links most) n v → IsVerdict net analysis property v
verdict_of_all net analysis links prefix most n property (NotApplicable bar) same all mine few v = absurd v
verdict_of_all net analysis links prefix most n property Certified same all mine few v = record {
  applies = mine;
  implied = subst (λ (k : ℕ). (set : Seq ℕ) → IsPermitted k property.failures set → analysis.Implied property set) same (λ set p. (
      let at = (holds_the_permitted links most set).0 (within_most links property.failures most set few p) in
      let w = slice_get_within (failure_sets links most) at.0 set at.1 in
      v at.0 set (omega arith) at.1 p.few));
}
verdict_of_all net analysis links prefix most n property (NotCertified set broken) same all mine few v = record {
  applies = mine;
  first = subst (λ (k : ℕ). IsFirstBroken k analysis property set broken) same (record {
    permitted = (let p = (holds_the_permitted links most set).1 (v.place, v.found) in record { few = v.few; ascending = p.ascending; below = p.below });
    is_broken = v.is_broken;
    first = λ other p before. (
        let at = (holds_the_permitted links most other).0 (within_most links property.failures most other few p) in
        v.first at.0 other ((stand_in_order links most at.0 v.place other set at.1 v.found).0 before) at.1 p.few);
  });
}

pub turns_done : (net : NetValue) (analysis : Analysis) (links : ℕ) (prefix : PrefixValue) (most n : ℕ) (book : Seq Property) (first last : Seq Verdict) → links ≡ length net.links → length (failure_sets links most) ≤ n →
    AllTurn (IsTurn net analysis links prefix most n) book first last → AllTurn (IsJudged net analysis prefix most) book first last
turns_done net analysis links prefix most n book first last same all turns = turns_weaker (IsTurn net analysis links prefix most n) (IsJudged net analysis prefix most) (λ property a b turn. record {
  mine = λ mine few old. verdict_of_all net analysis links prefix most n property b same all (open_of net property (and_parts (applies net property) (same_prefix prefix property.prefix) mine).0) few (turn.mine mine old);
  other = turn.other;
}) turns

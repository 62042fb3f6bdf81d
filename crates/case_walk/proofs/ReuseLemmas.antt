-- Representatives: which sets are their own, and what a set shares with its representative.
use Rattle.std.proofs.Common.{ℕ, zero, suc, ◌≡◌, ◌<◌, ◌≤◌, true, false, Option, Some, None, List, [], ◌∷◌, length, arith, refl, ap, sym, ◌∙◌}
use Rattle.std.proofs.lemmas.Slice.Eq.{bytes_eq-Decides}
use Rattle.std.proofs.lemmas.Bool.{false_from_ne_true}
use Rattle.std.specs.Str.{bytes_eq}
use Rattle.net_types.specs.FailSets.{holds, without}
use Rattle.failure_sets.specs.SetOrder.{IsPermitted}
use Rattle.failure_sets.proofs.OrderLemmas.{before_fewer}
use Rattle.failure_sets.proofs.LawLemmas.{fewer_come_earlier}
use Rattle.net_types.specs.PrefixValue.{PrefixValue}
use Rattle.property_book.specs.declared.property.Property.{Property}
use Rattle.case_walk.specs.Analysis.{Analysis, AreReusable, IdleStays, ImpliedStays, is_idle}
use Rattle.case_walk.specs.Representatives.{spare, taken_out, reduced, representative, is_own}
use Rattle.case_walk.specs.Laws.{Agrees, OwnHaveNoSpareLink, RepresentativesAgree, RepresentativesAreOwn, FirstBrokenIsOwn}
use Rattle.case_walk.proofs.FindLemmas.{found_stands, found_passes, none_passes, none_found}
use Rattle.case_walk.proofs.SetLemmas.{without_less, without_outside}

-- a spare link is in the set, and idle without it
pub record IsSpare (idle : List ℕ → ℕ) (set : List ℕ) (link : ℕ) : Type 0 where
  pub inside : holds set link ≡ true
  pub unused : is_idle idle (without set link) link ≡ true

pub is_spare : (idle : List ℕ → ℕ) (set : List ℕ) (link : ℕ) → spare idle set ≡ Some link → IsSpare idle set link
is_spare idle set link e = record {
  inside = found_stands (λ (l : ℕ). is_idle idle (without set l) l) set link e;
  unused = found_passes (λ (l : ℕ). is_idle idle (without set l) l) set link e;
}

-- the equations of the recursion
reduced-zero : (idle : List ℕ → ℕ) (set : List ℕ) → reduced idle zero set ≡ set
unfolding reduced
reduced-zero idle set = refl

reduced-suc : (idle : List ℕ → ℕ) (times : ℕ) (set : List ℕ) → reduced idle (suc times) set ≡ taken_out set (reduced idle times) (spare idle set)
unfolding reduced
reduced-suc idle times set = refl

-- no longer than before
reduced_le : (idle : List ℕ → ℕ) (times : ℕ) (set : List ℕ) → length (reduced idle times set) ≤ length set
reduced_le idle zero set = let e = ap length (reduced-zero idle set) in omega arith
reduced_le idle (suc times) set = let e = ap length (reduced-suc idle times set) in go (spare idle set) refl e (reduced_le idle times) where
  go : (o : Option ℕ) → spare idle set ≡ o → length (reduced idle (suc times) set) ≡ length (taken_out set (reduced idle times) o) → ((s : List ℕ) → length (reduced idle times s) ≤ length s) → length (reduced idle (suc times) set) ≤ length set
  go None is e h = omega arith
  go (Some link) is e h =
      let s = is_spare idle set link is in
      let l = without_less set link s.inside in
      let r = h (without set link) in
      omega arith

-- without a spare link the set stays
pub reduced_stays : (idle : List ℕ → ℕ) (times : ℕ) (set : List ℕ) → spare idle set ≡ None → reduced idle times set ≡ set
reduced_stays idle zero set none = reduced-zero idle set
reduced_stays idle (suc times) set none = reduced-suc idle times set ∙ ap (taken_out set (reduced idle times)) none

-- with one it gets shorter
reduced_shrinks : (idle : List ℕ → ℕ) (times : ℕ) (set : List ℕ) (link : ℕ) → length set ≡ times → spare idle set ≡ Some link → length (reduced idle times set) < length set
reduced_shrinks idle zero set link long some = let s = is_spare idle set link some in let l = without_less set link s.inside in absurd (omega arith)
reduced_shrinks idle (suc times) set link long some =
    let s = is_spare idle set link some in
    let l = without_less set link s.inside in
    let r = reduced_le idle times (without set link) in
    let e = ap length (reduced-suc idle times set ∙ ap (taken_out set (reduced idle times)) some) in
    omega arith

pub own_without_spare : (idle : List ℕ → ℕ) (set : List ℕ) → spare idle set ≡ None → is_own idle set ≡ true
unfolding is_own representative
own_without_spare idle set none = (bytes_eq-Decides (reduced idle (length set) set) set).1 (reduced_stays idle (length set) set none)

pub not_own_with_spare : (idle : List ℕ → ℕ) (set : List ℕ) (link : ℕ) → spare idle set ≡ Some link → is_own idle set ≡ false
unfolding is_own representative
not_own_with_spare idle set link some =
    let less = reduced_shrinks idle (length set) set link refl some in
    false_from_ne_true (bytes_eq (reduced idle (length set) set) set) (λ t.
    let e = ap length ((bytes_eq-Decides (reduced idle (length set) set) set).0 t) in omega arith)

pub more_permitted : (links most : ℕ) (set : List ℕ) → most ≤ 3 → IsPermitted links most set → IsPermitted links 3 set
more_permitted links most set few p = record { few = (let f = p.few in omega arith); ascending = p.ascending; below = p.below }

-- what is left of a set is permitted, and has the same idle links outside the set
pub record SharesIdle (links most : ℕ) (idle : List ℕ → ℕ) (set left : List ℕ) : Type 0 where
  pub permitted : IsPermitted links most left
  pub outside : (link : ℕ) → holds set link ≡ false → is_idle idle set link ≡ is_idle idle left link

shares_on : (links most : ℕ) (idle : List ℕ → ℕ) (set left : List ℕ) (link : ℕ) → IdleStays links idle → most ≤ 3 → IsPermitted links most set → IsSpare idle set link →
    SharesIdle links most idle (without set link) left → SharesIdle links most idle set left
shares_on links most idle set left link law few p spare_is s = record {
  permitted = s.permitted;
  outside = λ other out. law set link other (more_permitted links most set few p) spare_is.inside spare_is.unused out ∙ s.outside other (without_outside set link other out);
}

shares_reduced : (links most : ℕ) (idle : List ℕ → ℕ) (times : ℕ) (set : List ℕ) → IdleStays links idle → most ≤ 3 → IsPermitted links most set → SharesIdle links most idle set (reduced idle times set)
shares_reduced links most idle zero set law few p = rw (reduced-zero idle set) (record { permitted = p; outside = λ link h. refl })
shares_reduced links most idle (suc times) set law few p =
    rw (reduced-suc idle times set) (go (spare idle set) refl (λ s q. shares_reduced links most idle times s law few q)) where
      go : (o : Option ℕ) → spare idle set ≡ o → ((s : List ℕ) → IsPermitted links most s → SharesIdle links most idle s (reduced idle times s)) → SharesIdle links most idle set (taken_out set (reduced idle times) o)
      go None is h = record { permitted = p; outside = λ link h. refl }
      go (Some link) is h =
          let s = is_spare idle set link is in
          let q = (fewer_come_earlier links most set link few p s.inside).0 in
          shares_on links most idle set (reduced idle times (without set link)) link law few p s (h (without set link) q)

pub representatives_share : (links most : ℕ) (idle : List ℕ → ℕ) (set : List ℕ) → IdleStays links idle → most ≤ 3 → IsPermitted links most set → SharesIdle links most idle set (representative idle set)
unfolding representative
representatives_share links most idle set law few p = shares_reduced links most idle (length set) set law few p

-- and implies the same
record Implies (analysis : Analysis) (property : Property) (set left : List ℕ) : Type 0 where
  there : analysis.Implied property set → analysis.Implied property left
  back : analysis.Implied property left → analysis.Implied property set

implies_reduced : (links most : ℕ) (analysis : Analysis) (property : Property) (times : ℕ) (set : List ℕ) → ImpliedStays links analysis property → most ≤ 3 → IsPermitted links most set →
    Implies analysis property set (reduced (analysis.idle property.prefix) times set)
implies_reduced links most analysis property zero set law few p = rw (reduced-zero (analysis.idle property.prefix) set) (record { there = λ h. h; back = λ h. h })
implies_reduced links most analysis property (suc times) set law few p =
    rw (reduced-suc (analysis.idle property.prefix) times set) (go (spare (analysis.idle property.prefix) set) refl (λ s q. implies_reduced links most analysis property times s law few q)) where
      go : (o : Option ℕ) → spare (analysis.idle property.prefix) set ≡ o → ((s : List ℕ) → IsPermitted links most s → Implies analysis property s (reduced (analysis.idle property.prefix) times s)) →
          Implies analysis property set (taken_out set (reduced (analysis.idle property.prefix) times) o)
      go None is h = record { there = λ h. h; back = λ h. h }
      go (Some link) is h =
          let s = is_spare (analysis.idle property.prefix) set link is in
          let q = (fewer_come_earlier links most set link few p s.inside).0 in
          let r = h (without set link) q in
          let l = law set link (more_permitted links most set few p) s.inside s.unused in
          record { there = λ x. r.there (l.0 x); back = λ x. l.1 (r.back x) }

pub representatives_agree : (analysis : Analysis) → RepresentativesAgree analysis
unfolding representative
representatives_agree analysis links most property set law few p =
    let s = shares_reduced links most (analysis.idle property.prefix) (length set) set (law.idle property.prefix) few p in
    let i = implies_reduced links most analysis property (length set) set (law.implied property) few p in
    record { permitted = s.permitted; implied = (i.there, i.back); idle = s.outside }

-- no spare link is left
left_alone : (idle : List ℕ → ℕ) (times : ℕ) (set : List ℕ) → length set ≤ times → spare idle (reduced idle times set) ≡ None
left_alone idle zero [] long = rw (reduced-zero idle []) refl
left_alone idle zero (x ∷ xs) long = absurd (omega arith)
left_alone idle (suc times) set long = rw (reduced-suc idle times set) (go (spare idle set) refl (left_alone idle times)) where
  go : (o : Option ℕ) → spare idle set ≡ o → ((s : List ℕ) → length s ≤ times → spare idle (reduced idle times s) ≡ None) → spare idle (taken_out set (reduced idle times) o) ≡ None
  go None is h = is
  go (Some link) is h =
      let s = is_spare idle set link is in
      let l = without_less set link s.inside in
      h (without set link) (omega arith)

pub representatives_are_own : RepresentativesAreOwn
unfolding representative
representatives_are_own idle set =
    let left = reduced idle (length set) set in
    reduced_stays idle (length left) left (left_alone idle (length set) set (omega arith))

pub own_have_no_spare_link : OwnHaveNoSpareLink
unfolding representative
own_have_no_spare_link idle set = (
  (λ same. none_passes (λ (l : ℕ). is_idle idle (without set l) l) set (let h = left_alone idle (length set) set (omega arith) in rw same at h)),
  (λ no. reduced_stays idle (length set) set (none_found (λ (l : ℕ). is_idle idle (without set l) l) set no)),
)

-- more turns than links change nothing
settled : (idle : List ℕ → ℕ) (m n : ℕ) (set : List ℕ) → length set ≤ m → length set ≤ n → reduced idle m set ≡ reduced idle n set
settled idle zero n [] l k = reduced-zero idle [] ∙ sym (reduced_stays idle n [] refl)
settled idle zero n (x ∷ xs) l k = absurd (omega arith)
settled idle (suc m) zero [] l k = reduced_stays idle (suc m) [] refl ∙ sym (reduced-zero idle [])
settled idle (suc m) zero (x ∷ xs) l k = absurd (omega arith)
settled idle (suc m) (suc n) set l k =
    reduced-suc idle m set ∙ go (spare idle set) refl (settled idle m n) ∙ sym (reduced-suc idle n set) where
      go : (o : Option ℕ) → spare idle set ≡ o → ((s : List ℕ) → length s ≤ m → length s ≤ n → reduced idle m s ≡ reduced idle n s) → taken_out set (reduced idle m) o ≡ taken_out set (reduced idle n) o
      go None is h = refl
      go (Some link) is h =
          let s = is_spare idle set link is in
          let w = without_less set link s.inside in
          h (without set link) (omega arith) (omega arith)

-- the representative is that of the set without its least spare link
pub representative_on : (idle : List ℕ → ℕ) (set : List ℕ) (link : ℕ) → spare idle set ≡ Some link → representative idle set ≡ representative idle (without set link)
unfolding representative
representative_on idle [] link some = absurd (let e : None ≡ Some link = some in cc)
representative_on idle (x ∷ xs) link some =
    let s = is_spare idle (x ∷ xs) link some in
    let w = without_less (x ∷ xs) link s.inside in
    reduced-suc idle (length xs) (x ∷ xs) ∙ ap (taken_out (x ∷ xs) (reduced idle (length xs))) some
    ∙ settled idle (length xs) (length (without (x ∷ xs) link)) (without (x ∷ xs) link) (omega arith) (omega arith)

-- and the set itself where there is none
pub representative_stays : (idle : List ℕ → ℕ) (set : List ℕ) → spare idle set ≡ None → representative idle set ≡ set
unfolding representative
representative_stays idle set none = reduced_stays idle (length set) set none

-- the first set in which a property is broken has no spare link: without it, the same would be broken before
pub first_broken_is_own : (analysis : Analysis) → FirstBrokenIsOwn analysis
first_broken_is_own analysis links property set broken law apart few first = go (spare (analysis.idle property.prefix) set) refl where
  go : (o : Option ℕ) → spare (analysis.idle property.prefix) set ≡ o → representative (analysis.idle property.prefix) set ≡ set
  go None none = representative_stays (analysis.idle property.prefix) set none
  go (Some link) some =
      let s = is_spare (analysis.idle property.prefix) set link some in
      let l = law.implied property set link (more_permitted links property.failures set few first.permitted) s.inside s.unused in
      let q = (fewer_come_earlier links property.failures set link few first.permitted s.inside).0 in
      let i = first.first (without set link) q (before_fewer (without set link) set (without_less set link s.inside)) in
      absurd (apart property set broken (l.1 i) first.is_broken)

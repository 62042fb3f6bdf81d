-- Where one step leads from each router, router by router.
use Rattle.std.proofs.Common.{ℕ, ◌≡◌, ◌≢◌, ◌<◌, ◌+◌, List, length, set, get_or, slice_get, Some, inl, inr, arith, sym, subst, ◌∙◌}
use Rattle.std.proofs.lemmas.List.{get_or-set_other, get_or-set_same, length-set}
use Rattle.std.proofs.lemmas.Option.{get_or_from_slice_get, slice_get-get_or, slice_get_within}
use Rattle.implication.specs.View.{View}
use Rattle.implication.specs.OnTheWay.{AreNear, IsSetOf}
use Rattle.implication.proofs.SetLemmas.{earlier}

-- for the routers below k
pub record AreNearTo (view : View) (k : ℕ) (hops backs : List ℕ) : Type 0 where
  pub hop : (u found : ℕ) → u < k → slice_get hops u ≡ Some found → IsSetOf (view.hop u) view.count found
  pub back : (u found : ℕ) → u < k → slice_get backs u ≡ Some found → IsSetOf (view.back u) view.count found

within : (xs : List ℕ) (k x j y : ℕ) → slice_get (set xs k x) j ≡ Some y → j < length xs
within xs k x j y e = subst (λ (n : ℕ). j < n) (length-set xs k x) (slice_get_within (set xs k x) j y e)

there : (xs : List ℕ) (k x y : ℕ) → slice_get (set xs k x) k ≡ Some y → y ≡ x
there xs k x y e = sym (get_or_from_slice_get (set xs k x) k y 0 e) ∙ get_or-set_same xs k x 0 (within xs k x k y e)

elsewhere : (xs : List ℕ) (k x j y : ℕ) → j ≢ k → slice_get (set xs k x) j ≡ Some y → slice_get xs j ≡ Some y
elsewhere xs k x j y other e =
    let same : get_or xs j 0 ≡ y = sym (get_or-set_other xs k j x 0 other) ∙ get_or_from_slice_get (set xs k x) j y 0 e in
    subst (λ (z : ℕ). slice_get xs j ≡ Some z) same (slice_get-get_or xs j 0 (within xs k x j y e))

pub near_none : (view : View) (hops backs : List ℕ) → AreNearTo view 0 hops backs
near_none view hops backs = record { hop = λ u found low e. absurd (omega arith); back = λ u found low e. absurd (omega arith) }

pub near_more : (view : View) (k : ℕ) (hops backs : List ℕ) (hop back : ℕ) → IsSetOf (view.hop k) view.count hop → IsSetOf (view.back k) view.count back → AreNearTo view k hops backs →
    AreNearTo view (k + 1) (set hops k hop) (set backs k back)
near_more view k hops backs hop back is_hop is_back was = record {
  hop = λ u found low e. elim (earlier u k low) [
    | inl same ↦ subst (λ (v : ℕ). IsSetOf (view.hop v) view.count found) (sym same) (subst (λ (x : ℕ). IsSetOf (view.hop k) view.count x) (sym (there hops k hop found (subst (λ (v : ℕ). slice_get (set hops k hop) v ≡ Some found) same e))) is_hop)
    | inr less ↦ was.hop u found less (elsewhere hops k hop u found (λ e. omega (arith, less)) e)
  ];
  back = λ u found low e. elim (earlier u k low) [
    | inl same ↦ subst (λ (v : ℕ). IsSetOf (view.back v) view.count found) (sym same) (subst (λ (x : ℕ). IsSetOf (view.back k) view.count x) (sym (there backs k back found (subst (λ (v : ℕ). slice_get (set backs k back) v ≡ Some found) same e))) is_back)
    | inr less ↦ was.back u found less (elsewhere backs k back u found (λ e. omega (arith, less)) e)
  ];
}

pub near_all : (view : View) (k : ℕ) (hops backs : List ℕ) → k ≡ view.count → AreNearTo view k hops backs → AreNear view hops backs
near_all view k hops backs all near = record {
  hop = λ u found low e. near.hop u found (subst (λ (n : ℕ). u < n) (sym all) low) e;
  back = λ u found low e. near.back u found (subst (λ (n : ℕ). u < n) (sym all) low) e;
}

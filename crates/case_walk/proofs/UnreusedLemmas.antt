-- Where no link is idle, no case is reused.
use Rattle.std.proofs.Common.{ℕ, suc, ◌≡◌, ◌==◌, ◌+◌, cond, Bool, true, false, Option, Some, None, List, [], ◌∷◌, length, sum_by, count_by, find, arith, refl, ap, sym, subst, ◌∙◌}
use Rattle.std.proofs.lemmas.List.Recursion.{is_count_by}
use Rattle.std.proofs.lemmas.List.Sums.{sum_by-cons}
use Rattle.std.proofs.lemmas.Nat.Bits.{bit_at-zero}
use Rattle.net_types.specs.FailSets.{holds, without}
use Rattle.net_types.specs.NetValue.{NetValue}
use Rattle.net_types.specs.PrefixValue.{PrefixValue}
use Rattle.net_types.specs.Sets.{has}
use Rattle.failure_sets.specs.SetList.{failure_sets}
use Rattle.property_book.specs.declared.property.Property.{Property}
use Rattle.case_walk.specs.Analysis.{Analysis, AreReusable, HasNoIdleLink, is_idle}
use Rattle.case_walk.specs.Book.{asked_prefixes, distinct, most_of, solved_of, solved_over, total_of}
use Rattle.case_walk.specs.Representatives.{is_own, representative, solved_count, spare}
use Rattle.case_walk.specs.Laws.{IsUnreused, NothingIsReused}
use Rattle.case_walk.proofs.FindLemmas.{none_found}
use Rattle.case_walk.proofs.ReuseLemmas.{own_without_spare, representative_stays}

has_none : (link : ℕ) → has 0 link ≡ false
has_none link = ap (λ (bit : ℕ). bit == 1) (bit_at-zero link)

never_idle : (idle : List ℕ → ℕ) → ((set : List ℕ) → idle set ≡ 0) → (set : List ℕ) (link : ℕ) → is_idle idle set link ≡ false
never_idle idle never set link = ap (λ (word : ℕ). has word link) (never set) ∙ has_none link

no_spare : (idle : List ℕ → ℕ) → ((set : List ℕ) → idle set ≡ 0) → (set : List ℕ) → spare idle set ≡ None
no_spare idle never set = none_found (λ (l : ℕ). is_idle idle (without set l) l) set (λ link inside. never_idle idle never (without set link) link)

count_each : {X : Type 0} (p : X → Bool) (xs : List X) → ((x : X) → p x ≡ true) → count_by p xs ≡ length xs
count_each p xs all = sym (is_count_by (λ l. length l) p refl (λ y ys.
    (let e : suc (length ys) ≡ 1 + length ys = omega arith in e) ∙ sym (ap (λ (b : Bool). cond b (1 + length ys) (length ys)) (all y))) xs)

all_solved : (idle : List ℕ → ℕ) (links most : ℕ) → ((set : List ℕ) → idle set ≡ 0) → solved_count idle links most ≡ length (failure_sets links most)
unfolding solved_count
all_solved idle links most never = count_each (is_own idle) (failure_sets links most) (λ set. own_without_spare idle set (no_spare idle never set))

sum_same : {X : Type 0} (f g : X → ℕ) (xs : List X) → ((x : X) → f x ≡ g x) → sum_by f xs ≡ sum_by g xs
sum_same f g [] same = refl
sum_same f g (x ∷ xs) same =
    let a = sum_by-cons f x xs in
    let b = sum_by-cons g x xs in
    let h = sum_same f g xs same in
    let e = same x in
    omega arith

total_solved : (net : NetValue) (analysis : Analysis) (book : List Property) → HasNoIdleLink analysis → solved_of net analysis book ≡ total_of net book
unfolding solved_of solved_over total_of
total_solved net analysis book never =
    sum_same (λ (prefix : PrefixValue). solved_count (analysis.idle prefix) (length net.links) (most_of net prefix book)) (λ (prefix : PrefixValue). length (failure_sets (length net.links) (most_of net prefix book)))
    (distinct (asked_prefixes net book)) (λ prefix. all_solved (analysis.idle prefix) (length net.links) (most_of net prefix book) (never prefix))

pub nothing_is_reused : (analysis : Analysis) → NothingIsReused analysis
nothing_is_reused analysis net never = record {
  reusable = record {
    idle = λ prefix set link other p inside unused out. absurd (let f : false ≡ true = sym (never_idle (analysis.idle prefix) (never prefix) (without set link) link) ∙ unused in cc);
    implied = λ property set link p inside unused. absurd (let f : false ≡ true = sym (never_idle (analysis.idle property.prefix) (never property.prefix) (without set link) link) ∙ unused in cc);
  };
  own = λ prefix set. representative_stays (analysis.idle prefix) set (no_spare (analysis.idle prefix) (never prefix) set);
  solved = λ book. total_solved net analysis book never;
}

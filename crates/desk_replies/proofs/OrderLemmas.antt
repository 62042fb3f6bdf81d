-- The names of those who approved a review are in byte order.
use Rattle.std.proofs.Common.{◌≡◌, ℕ, Bool, true, false, List, [], ◌∷◌, filter, ◌==◌, if◌then◌else◌, refl, sym, ap, ◌∙◌, subst, arith}
use Rattle.std.specs.List.{list_all}
use Rattle.std.specs.Ordering.{is_lt, nat_cmp, ordering_then}
use Rattle.std.specs.declared.cmp.Ordering.TheVariants.{Equal}
use Rattle.std.proofs.lemmas.Bool.Decides.{nat_tests}
use Rattle.std.proofs.lemmas.Cmp.{nat_cmp_total, tied_itself}
use Rattle.desk_tables.specs.Order.{after, Ascends, text_cmp, numbered_cmp}
use Rattle.desk_tables.specs.Tables.{approval_key}
use Rattle.desk_tables.specs.declared.rows.ApprovalRow.{ApprovalRow}
use Rattle.desk_tables.proofs.TableLemmas.{and_true}
use Rattle.desk_replies.specs.Laws.{user_of, NamesAreInOrder}

-- approvals of one review are in the order of their users' names
user_after : (a b : ApprovalRow) → a.review ≡ b.review → is_lt (numbered_cmp (approval_key a) (approval_key b)) ≡ true → is_lt (text_cmp a.user b.user) ≡ true
user_after a b same less =
    let tie : nat_cmp a.review b.review ≡ Equal = subst (λ n. nat_cmp a.review n ≡ Equal) same (tied_itself nat_cmp_total a.review) in
    ap (λ r. is_lt (ordering_then r (text_cmp a.user b.user))) (sym tie) ∙ less

users_after : (id : ℕ) (a : ApprovalRow) (xs : List ApprovalRow) → a.review ≡ id → list_all (after numbered_cmp approval_key (approval_key a)) xs ≡ true → list_all (after text_cmp user_of a.user) (filter (λ (b : ApprovalRow). b.review == id) xs) ≡ true
users_after id a [] is all = refl
users_after id a (x ∷ xs) is all = by_case (x.review == id) refl (and_true _ _ all).0 (users_after id a xs is (and_true _ _ all).1)
  where
    by_case : (b : Bool) → (x.review == id) ≡ b → is_lt (numbered_cmp (approval_key a) (approval_key x)) ≡ true → list_all (after text_cmp user_of a.user) (filter (λ (b : ApprovalRow). b.review == id) xs) ≡ true → list_all (after text_cmp user_of a.user) (if b then x ∷ filter (λ (b : ApprovalRow). b.review == id) xs else filter (λ (b : ApprovalRow). b.review == id) xs) ≡ true
    by_case true here less rest =
        let same : a.review ≡ x.review = grind (arith, nat_tests, is) in
        rw (user_after a x same less) rest
    by_case false here less rest = rest

users_ascend : (id : ℕ) (xs : List ApprovalRow) → Ascends numbered_cmp approval_key xs → Ascends text_cmp user_of (filter (λ (a : ApprovalRow). a.review == id) xs)
users_ascend id [] sorted = tt
users_ascend id (x ∷ xs) sorted = by_case (x.review == id) refl (users_ascend id xs sorted.1)
  where
    by_case : (b : Bool) → (x.review == id) ≡ b → Ascends text_cmp user_of (filter (λ (a : ApprovalRow). a.review == id) xs) → Ascends text_cmp user_of (if b then x ∷ filter (λ (a : ApprovalRow). a.review == id) xs else filter (λ (a : ApprovalRow). a.review == id) xs)
    by_case true here rest =
        let is : x.review ≡ id = grind (arith, nat_tests) in
        (users_after id x xs is sorted.0, rest)
    by_case false here rest = rest

pub names_ascend : NamesAreInOrder
names_ascend t id v = users_ascend id t.approvals v.approvals_ascend

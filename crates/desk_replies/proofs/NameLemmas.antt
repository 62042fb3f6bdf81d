-- The names of those who approved a review, one after another.
use Rattle.std.proofs.Common.{◌≡◌, ℕ, zero, suc, ◌+◌, ◌≤◌, ◌==◌, List, [], ◌∷◌, ◌++◌, ◌||◌, append_assoc, append-nil, map, drop, length, filter, count_by, None, Some, option_map, slice_get, ap, sym, refl, false, ◌∙◌, arith}
use Rattle.std.proofs.Math.Seq.{drop-nil}
use Rattle.std.proofs.Math.ListN.{drop_of_length-le}
use Rattle.std.proofs.lemmas.List.{map-append}
use Rattle.std.proofs.lemmas.List.Sums.{length-filter}
use Rattle.serde_json.specs.Data.{Data, string}
use Rattle.serde_json.specs.View.{view, items_of}
use Rattle.serde_json.specs.Written.{has_float, items_have_float}
use Rattle.serde_json.specs.declared.value.Value.{Value}
use Rattle.desk_tables.specs.Tables.{approvals_to}
use Rattle.desk_tables.specs.declared.rows.ApprovalRow.{ApprovalRow}
use Rattle.desk_tables.specs.declared.rows.ReviewRow.{ReviewRow}
use Rattle.desk_tables.specs.declared.rows.Rows.{Rows}
use Rattle.desk_replies.specs.Laws.{user_of}
use Rattle.desk_replies.specs.Views.{name_value, review_value}

named : (xs : List ApprovalRow) (at : ℕ) (name : List ℕ) → option_map user_of (slice_get xs at) ≡ Some name → map name_value (drop at xs) ≡ string name ∷ map name_value (drop (suc at) xs)
named [] at name e = absurd (let f : None ≡ Some name = e in cc)
named (x ∷ xs) zero name e = let g : Some x.user ≡ Some name = e in let f : x.user ≡ name = cc in ap (λ n. string n ∷ map name_value xs) f
named (x ∷ xs) (suc at) name e = named xs at name e

unnamed : (xs : List ApprovalRow) (at : ℕ) → option_map user_of (slice_get xs at) ≡ None → map name_value (drop at xs) ≡ map name_value (drop (suc at) xs)
unnamed [] at e = ap (map name_value) (drop-nil at ∙ sym (drop-nil (suc at)))
unnamed (x ∷ xs) zero e = absurd (let f : Some x.user ≡ None = e in cc)
unnamed (x ∷ xs) (suc at) e = unnamed xs at e

step : (at : ℕ) (xs : List ApprovalRow) → map name_value (drop (suc at) xs) ≡ map name_value (drop (at + 1) xs)
step at xs = let e : suc at ≡ at + 1 = omega arith in ap (λ n. map name_value (drop n xs)) e

-- one more name behind those that are done
pub one_more : (done : List Data) (xs : List ApprovalRow) (at : ℕ) (name : List ℕ) → Some name ≡ option_map user_of (slice_get xs at)
    → done ++ map name_value (drop at xs) ≡ map name_value xs → (done ++ (string name ∷ [])) ++ map name_value (drop (at + 1) xs) ≡ map name_value xs
one_more done xs at name e h =
    append_assoc done (string name ∷ []) (map name_value (drop (at + 1) xs))
    ∙ ap (λ rest. done ++ (string name ∷ rest)) (sym (step at xs)) ∙ ap (λ rest. done ++ rest) (sym (named xs at name (sym e))) ∙ h

pub none_more : (done : List Data) (xs : List ApprovalRow) (at : ℕ) → None ≡ option_map user_of (slice_get xs at)
    → done ++ map name_value (drop at xs) ≡ map name_value xs → done ++ map name_value (drop (at + 1) xs) ≡ map name_value xs
none_more done xs at e h = ap (λ rest. done ++ rest) (sym (step at xs)) ∙ ap (λ rest. done ++ rest) (sym (unnamed xs at (sym e))) ∙ h

-- a value more behind those that are done
pub one_pushed : (items now : List Value) (v : Value) (xs : List ApprovalRow) (at : ℕ) (name : List ℕ) → now ≡ items ++ (v ∷ []) → view v ≡ string name
    → Some name ≡ option_map user_of (slice_get xs at)
    → map view items ++ map name_value (drop at xs) ≡ map name_value xs → map view now ++ map name_value (drop (at + 1) xs) ≡ map name_value xs
one_pushed items now v xs at name e seen is h =
    let grown : map view now ≡ map view items ++ (string name ∷ []) =
    ap (map view) e ∙ map-append view items (v ∷ []) ∙ ap (λ d. map view items ++ (d ∷ [])) seen in
    ap (λ done. done ++ map name_value (drop (at + 1) xs)) grown ∙ one_more (map view items) xs at name is h

-- all names are done
pub all_done : (done : List Data) (id n : ℕ) (rows : List ApprovalRow) → count_by (λ (a : ApprovalRow). a.review == id) rows ≤ n
    → done ++ map name_value (drop n (filter (λ (a : ApprovalRow). a.review == id) rows)) ≡ map name_value (filter (λ (a : ApprovalRow). a.review == id) rows)
    → done ≡ map name_value (filter (λ (a : ApprovalRow). a.review == id) rows)
all_done done id n rows e h =
    let xs = filter (λ (a : ApprovalRow). a.review == id) rows in
    let long : length xs ≤ n = omega (arith, e, length-filter (λ (a : ApprovalRow). a.review == id) rows) in
    sym (append-nil done) ∙ ap (λ rest. done ++ map name_value rest) (sym (drop_of_length-le xs long)) ∙ h

-- names are no numbers
pub names_plain : (xs : List ApprovalRow) → items_have_float (items_of (map name_value xs)) ≡ false
names_plain [] = refl
names_plain (x ∷ xs) = names_plain xs

pub review_plain : (t : Rows) (r : ReviewRow) → has_float (review_value t r) ≡ false
review_plain t r = ap (λ b. b || false) (names_plain (approvals_to t r.id))

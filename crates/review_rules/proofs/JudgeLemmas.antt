-- The names of a bundle's files ascend; what a judge answers names no property that there is not.
use Rattle.std.proofs.Common.{◌≡◌, ℕ, Bool, true, false, List, [], ◌∷◌, map, filter, ◌==◌, if◌then◌else◌, refl, sym, ap, ◌∙◌, subst, arith}
use Rattle.std.specs.List.{list_all}
use Rattle.std.specs.Ordering.{is_lt, nat_cmp, ordering_then}
use Rattle.std.specs.declared.cmp.Ordering.TheVariants.{Equal}
use Rattle.std.proofs.lemmas.Bool.Decides.{nat_tests}
use Rattle.std.proofs.lemmas.Cmp.{nat_cmp_total, tied_itself}
use Rattle.net_types.specs.declared.config.SourceFile.{SourceFile}
use Rattle.desk_tables.specs.Order.{after, Ascends, text_cmp, numbered_cmp}
use Rattle.desk_tables.specs.Tables.{file_key, source_of}
use Rattle.desk_tables.specs.Valid.{IsValid}
use Rattle.desk_tables.specs.declared.rows.FileRow.{FileRow}
use Rattle.desk_tables.specs.declared.rows.Rows.{Rows}
use Rattle.desk_tables.proofs.TableLemmas.{and_true}
use Rattle.review_rules.specs.Judging.{NamesAscend, NamesProperty, bundle_of, IsBookAnswer, IsBundleAnswer, IsRunAnswer}
use Rattle.review_rules.specs.declared.requests.JudgeAnswer.{JudgeAnswer}
use Rattle.review_rules.specs.declared.requests.JudgeAnswer.TheVariants.{NotAsked, Fine, Refused, BookRefused, Limit, Judged, NoMemory}

-- files of one number are in the order of their names
name_after : (f g : FileRow) → f.review ≡ g.review → is_lt (numbered_cmp (file_key f) (file_key g)) ≡ true → is_lt (text_cmp f.name g.name) ≡ true
name_after f g same less =
    let tie : nat_cmp f.review g.review ≡ Equal = subst (λ n. nat_cmp f.review n ≡ Equal) same (tied_itself nat_cmp_total f.review) in
    ap (λ r. is_lt (ordering_then r (text_cmp f.name g.name))) (sym tie) ∙ less

names_after : (id : ℕ) (f : FileRow) (xs : List FileRow) → f.review ≡ id → list_all (after numbered_cmp file_key (file_key f)) xs ≡ true → list_all (after text_cmp (λ (g : SourceFile). g.name) f.name) (map source_of (filter (λ (g : FileRow). g.review == id) xs)) ≡ true
names_after id f [] is all = refl
names_after id f (x ∷ xs) is all = by_case (x.review == id) refl (and_true _ _ all).0 (names_after id f xs is (and_true _ _ all).1)
  where
    by_case : (b : Bool) → (x.review == id) ≡ b → is_lt (numbered_cmp (file_key f) (file_key x)) ≡ true → list_all (after text_cmp (λ (g : SourceFile). g.name) f.name) (map source_of (filter (λ (g : FileRow). g.review == id) xs)) ≡ true → list_all (after text_cmp (λ (g : SourceFile). g.name) f.name) (map source_of (if b then x ∷ filter (λ (g : FileRow). g.review == id) xs else filter (λ (g : FileRow). g.review == id) xs)) ≡ true
    by_case true here less rest =
        let same : f.review ≡ x.review = grind (arith, nat_tests, is) in
        rw (name_after f x same less) rest
    by_case false here less rest = rest

names_ascend : (id : ℕ) (xs : List FileRow) → Ascends numbered_cmp file_key xs → NamesAscend (map source_of (filter (λ (g : FileRow). g.review == id) xs))
names_ascend id [] sorted = tt
names_ascend id (x ∷ xs) sorted = by_case (x.review == id) refl (names_ascend id xs sorted.1)
  where
    by_case : (b : Bool) → (x.review == id) ≡ b → NamesAscend (map source_of (filter (λ (g : FileRow). g.review == id) xs)) → NamesAscend (map source_of (if b then x ∷ filter (λ (g : FileRow). g.review == id) xs else filter (λ (g : FileRow). g.review == id) xs))
    by_case true here rest =
        let is : x.review ≡ id = grind (arith, nat_tests) in
        (names_after id x xs is sorted.0, rest)
    by_case false here rest = rest

pub bundle_ascends : (t : Rows) (id : ℕ) → IsValid t → NamesAscend (bundle_of t id)
bundle_ascends t id v = names_ascend id t.files v.files_ascend

pub bundle_named : (t : Rows) (id : ℕ) (files : List SourceFile) → IsValid t → files ≡ bundle_of t id → NamesAscend files
bundle_named t id files v is = subst NamesAscend (sym is) (bundle_ascends t id v)

-- what is answered of a run names no property that there is not
pub run_names : (m n : ℕ) (a : JudgeAnswer) → IsRunAnswer m n a → NamesProperty a
run_names m n NotAsked is = absurd is
run_names m n Fine is = absurd is
run_names m n (Refused side refusal) is = omega arith
run_names m n (BookRefused refusal) is = omega arith
run_names m n (Limit cases) is = omega arith
run_names m n (Judged missing report) is = is
run_names m n NoMemory is = omega arith

pub book_names : (a : JudgeAnswer) → IsBookAnswer a → NamesProperty a
book_names NotAsked is = absurd is
book_names Fine is = omega arith
book_names (Refused side refusal) is = absurd is
book_names (BookRefused refusal) is = omega arith
book_names (Limit cases) is = absurd is
book_names (Judged missing report) is = absurd is
book_names NoMemory is = omega arith

pub bundle_names : (n : ℕ) (a : JudgeAnswer) → IsBundleAnswer n a → NamesProperty a
bundle_names n NotAsked is = absurd is
bundle_names n Fine is = omega arith
bundle_names n (Refused side refusal) is = omega arith
bundle_names n (BookRefused refusal) is = absurd is
bundle_names n (Limit cases) is = absurd is
bundle_names n (Judged missing report) is = absurd is
bundle_names n NoMemory is = omega arith

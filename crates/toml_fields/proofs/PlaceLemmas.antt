-- Rows and refusals by place.
use Rattle.std.proofs.Common.{ℕ, zero, suc, ◌≡◌, ◌<◌, ◌+◌, ◌⊎◌, inl, inr, List as Seq, [], ◌∷◌, Option, Some, None, Result, Ok, Err, slice_get, arith, ap, ◌∙◌, refl}
use Rattle.std.specs.Option.{option_and_then}
use Rattle.toml.specs.Data.{Data, Items, no_items, item, Members, as_table}
use Rattle.net_types.specs.declared.refusals.FormRefusal.{FormRefusal}
use Rattle.net_types.specs.declared.refusals.FormRefusal.TheVariants.{BadField}
use Rattle.toml_fields.specs.Places.{IsFirstBad, RowsByPlace, row_at}
use Rattle.toml_fields.specs.Tables.{or_bad_field, rows_from}

-- one table in front
step : {A : Type 0} (place : ℕ) (first : Option A) (rest : Result (Seq A) FormRefusal) (rows : Seq A) (after : ℕ → Option A) →
    or_bad_field first place rest ≡ Ok rows → ((later : Seq A) → rest ≡ Ok later → (k : ℕ) → slice_get later k ≡ after k) →
    (slice_get rows zero ≡ first) × ((k : ℕ) → slice_get rows (suc k) ≡ after k)
step place None rest rows after e more = absurd (cc)
step place (Some row) (Err refusal) rows after e more = absurd (cc)
step {A} place (Some row) (Ok later) rows after e more =
    let same : rows ≡ row ∷ later = cc in
    (ap (λ (all : Seq A). slice_get all zero) same, (λ k. ap (λ (all : Seq A). slice_get all (suc k)) same ∙ more later refl k))

rows_at : {A : Type 0} (read : Members → Option A) (items : Items) (place : ℕ) (rows : Seq A) → rows_from read place items ≡ Ok rows →
    (k : ℕ) → slice_get rows k ≡ row_at read items k
rows_at {A} read no_items place rows e k = let same : rows ≡ [] = cc in ap (λ (all : Seq A). slice_get all k) same
rows_at read (item value more) place rows e zero =
    (step place (option_and_then read (as_table value)) (rows_from read (place + 1) more) rows (row_at read more) e
    (λ later r k. rows_at read more (place + 1) later r k)).0
rows_at read (item value more) place rows e (suc k) =
    (step place (option_and_then read (as_table value)) (rows_from read (place + 1) more) rows (row_at read more) e
    (λ later r k. rows_at read more (place + 1) later r k)).1 k

bad_step : {A : Type 0} (place : ℕ) (first : Option A) (rest : Result (Seq A) FormRefusal) (refusal : FormRefusal) → or_bad_field first place rest ≡ Err refusal →
    ((first ≡ None) × (refusal ≡ BadField place)) ⊎ ((row : A) × (first ≡ Some row) × (rest ≡ Err refusal))
bad_step place None rest refusal e = inl (refl, cc)
bad_step place (Some row) (Ok later) refusal e = absurd (cc)
bad_step place (Some row) (Err other) refusal e = inr (row, refl, cc)

in_front : {A : Type 0} (read : Members → Option A) (value : Data) (more : Items) (row : A) (k : ℕ) → option_and_then read (as_table value) ≡ Some row →
    ((j : ℕ) → j < k → (row : A) × (row_at read more j ≡ Some row)) → (j : ℕ) → j < suc k → (row : A) × (row_at read (item value more) j ≡ Some row)
in_front read value more row k first later zero low = (row, first)
in_front read value more row k first later (suc j) low = later j (omega arith)

bad_at : {A : Type 0} (read : Members → Option A) (items : Items) (place : ℕ) (refusal : FormRefusal) → rows_from read place items ≡ Err refusal →
    (k : ℕ) × (refusal ≡ BadField (place + k)) × IsFirstBad read items k
bad_at read no_items place refusal e = absurd (cc)
bad_at read (item value more) place refusal e =
    elim (bad_step place (option_and_then read (as_table value)) (rows_from read (place + 1) more) refusal e) [
      | inl (bad, named) ↦ (zero, (named ∙ ap BadField (omega arith)), record { there = (value, refl); bad = bad; earlier = λ j low. absurd (omega arith) })
      | inr (row, first, rest) ↦
          let i = bad_at read more (place + 1) refusal rest in
          (suc i.0, (i.1 ∙ ap BadField (omega arith)), record { there = i.2.there; bad = i.2.bad; earlier = in_front read value more row i.0 first i.2.earlier })
    ]

pub rows_by_place : {A : Type 0} (read : Members → Option A) → RowsByPlace read
rows_by_place read = ((λ items rows e k. rows_at read items 1 rows e k), (λ items refusal e. let b = bad_at read items 1 refusal e in (b.0, (b.1 ∙ ap BadField (omega arith)), b.2)))

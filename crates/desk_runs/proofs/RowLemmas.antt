-- Rows without a bad one, and tables without two rows, are in the order of their keys.
use Rattle.std.proofs.Common.{◌≡◌, ◌≤◌, List, [], ◌∷◌, length, Option, None, refl, sym, ap, ◌∙◌, arith}
use Rattle.std.specs.Ordering.{nat_cmp}
use Rattle.std.specs.declared.cmp.Ordering.{Ordering}
use Rattle.std.specs.Option.{option_map}
use Rattle.desk_tables.specs.Order.{Ascends, numbered_cmp, texts_cmp}
use Rattle.desk_tables.specs.Tables.{policy_key, review_key, file_key, approval_key, certificate_key, kept_key}
use Rattle.desk_tables.specs.declared.rows.Rows.{Rows}
use Rattle.stored_rows.specs.Stored.{first_bad_row, pair_of}
use Rattle.stored_rows.specs.declared.rows.BadRow.{BadRow}
use Rattle.stored_rows.proofs.OutLemmas.{good_tables}
use Rattle.desk_keeper.specs.Memory.{AreInOrder}
use Rattle.desk_keeper.proofs.OrderLemmas.{valid_in_order}

pub rows_in_order : (bad : Option BadRow) (t : Rows) → option_map pair_of bad ≡ first_bad_row t → bad ≡ None → AreInOrder t
rows_in_order bad t is none = valid_in_order t (good_tables t (sym is ∙ ap (λ (b : Option BadRow). option_map pair_of b) none))

ascends_single : {X K : Type 0} (cmp : K → K → Ordering) (key : X → K) (xs : List X) → length xs ≤ 1 → Ascends cmp key xs
ascends_single cmp key [] few = tt
ascends_single cmp key (x ∷ []) few = (refl, tt)
ascends_single cmp key (x ∷ y ∷ ys) few = absurd (omega arith)

pub single_in_order : (t : Rows) → (length t.policies ≤ 1) × (length t.reviews ≤ 1) × (length t.files ≤ 1) → (length t.approvals ≤ 1) × (length t.certificates ≤ 1) × (length t.kept ≤ 1) → AreInOrder t
single_in_order t first last = record {
  policies = ascends_single nat_cmp policy_key t.policies first.0;
  reviews = ascends_single nat_cmp review_key t.reviews first.1;
  files = ascends_single numbered_cmp file_key t.files first.2;
  approvals = ascends_single numbered_cmp approval_key t.approvals last.0;
  certificates = ascends_single nat_cmp certificate_key t.certificates last.1;
  kept = ascends_single texts_cmp kept_key t.kept last.2;
}

-- The causes of lines of lists and maps, each by itself.
use Rattle.std.proofs.Common.{ℕ, ◌≡◌, ◌↔◌, ◌⊎◌, ◌==◌, ◌+◌, ◌*◌, ◌/◌, Bool, true, false, List, [], ◌∷◌, length, nat_le, Option, Some, None, Result, Ok, Err, MatchResult, if◌then◌else◌, inl, inr, refl, sym, subst, ◌∙◌, ap}
use Rattle.std.specs.List.{list_any}
use Rattle.std.proofs.lemmas.List.Elements.{All-nil, All-cons, All-head, All-tail}
use Rattle.net_types.specs.declared.config.PrefixList.{PrefixList}
use Rattle.net_types.specs.declared.config.CommunityList.{CommunityList}
use Rattle.net_types.specs.declared.config.RouteMap.{RouteMap}
use Rattle.net_types.specs.declared.config.MapEntry.{MapEntry}
use Rattle.frr_policy.specs.declared.refusals.LineRefusal.{LineRefusal}
use Rattle.frr_policy.specs.declared.refusals.LineRefusal.TheVariants.{Unsupported, OutOfPlace, BadValue, Repeated, OutOfLimit, NoMemory}
use Rattle.frr_policy.specs.declared.map_steps.MapStep.{MapStep}
use Rattle.frr_policy.specs.declared.map_steps.MapStep.TheVariants.{Begin, Change}
use Rattle.frr_policy.specs.Answers.{or_bad_value, then_answer}
use Rattle.frr_policy.specs.Lists.{most_entries, number_of, greatest, if_free, new_number}
use Rattle.frr_policy.specs.PrefixLines.{prefix_line, prefix_numbers, prefix_entry, added_prefix_entry, prefix_list_row}
use Rattle.frr_policy.specs.CommunityLines.{community_line, community_numbers, community_entry, added_community_entry, community_list_row}
use Rattle.frr_policy.specs.MapRows.{once, match_community, match_prefix_list, set_preference, set_metric, set_weight, set_origin, set_community, set_comm_list, set_prepend}
use Rattle.frr_policy.specs.MapLines.{heading_of, new_entry, map_numbers, added_map_entry, begins, changes, LineRow, row, map_table, behind, by_head, by_table, map_line}
use Rattle.frr_policy.specs.Laws.{IsOfRest, HasNoHead, begins_head, IsRefusedMapLine}

-- an answer that is refused only for what stands behind a head
abbrev pub OfRest : {A : Type 0} → Result A LineRefusal → Type 0
OfRest r = MatchResult r (λ _. Unit {0}) IsOfRest

or_bad_value_rest : {A : Type 0} (o : Option A) → OfRest (or_bad_value o)
or_bad_value_rest None = tt
or_bad_value_rest (Some a) = tt

then_rest : {A B : Type 0} (r : Result A LineRefusal) (next : A → Result B LineRefusal) → OfRest r → ((a : A) → OfRest (next a)) → OfRest (then_answer r next)
then_rest (Ok a) next h k = k a
then_rest (Err refusal) next h k = h

if_free_rest : (taken : List ℕ) (number : ℕ) → OfRest (if_free taken number)
if_free_rest taken number = go (list_any (λ n. n == number) taken) (nat_le most_entries (length taken)) where
  go : (a b : Bool) → OfRest (if a then Err Repeated else (if b then Err OutOfLimit else Ok number))
  go true b = tt
  go false true = tt
  go false false = tt

number_of_rest : (written : Option ℕ) (taken : List ℕ) → OfRest (number_of written taken)
number_of_rest (Some n) taken = tt
number_of_rest None taken = go (greatest taken / 5 * 5 + 5) (nat_le (greatest taken / 5 * 5 + 5) 4294967295) where
  go : (n : ℕ) (b : Bool) → OfRest (if b then Ok n else Err BadValue)
  go n true = tt
  go n false = tt

new_number_rest : (written : Option ℕ) (taken : List ℕ) → OfRest (new_number written taken)
new_number_rest written taken = then_rest (number_of written taken) (if_free taken) (number_of_rest written taken) (if_free_rest taken)

of_rest : {A : Type 0} (r : Result A LineRefusal) (refusal : LineRefusal) → OfRest r → r ≡ Err refusal → IsOfRest refusal
of_rest (Ok a) refusal h e = absurd (cc)
of_rest (Err q) refusal h e = let f : q ≡ refusal = cc in rw (sym f) h

pub prefix_row_rest : (rest : List (List ℕ)) (lists : List PrefixList) → OfRest (prefix_list_row rest lists)
unfolding prefix_list_row added_prefix_entry
prefix_row_rest rest lists = then_rest (or_bad_value (prefix_line rest)) (added_prefix_entry lists) (or_bad_value_rest (prefix_line rest)) (λ line. then_rest (new_number line.0.seq (prefix_numbers line.0.name lists)) (λ number. Ok (prefix_entry line number)) (new_number_rest line.0.seq (prefix_numbers line.0.name lists)) (λ n. tt))

pub community_row_rest : (rest : List (List ℕ)) (lists : List CommunityList) → OfRest (community_list_row rest lists)
unfolding community_list_row added_community_entry
community_row_rest rest lists = then_rest (or_bad_value (community_line rest)) (added_community_entry lists) (or_bad_value_rest (community_line rest)) (λ line. then_rest (new_number line.0.seq (community_numbers line.0.name lists)) (λ number. Ok (community_entry line number)) (new_number_rest line.0.seq (community_numbers line.0.name lists)) (λ n. tt))

pub lists_of_rest : ((rest : List (List ℕ)) (lists : List PrefixList) (refusal : LineRefusal) → prefix_list_row rest lists ≡ Err refusal → IsOfRest refusal) × ((rest : List (List ℕ)) (lists : List CommunityList) (refusal : LineRefusal) → community_list_row rest lists ≡ Err refusal → IsOfRest refusal)
lists_of_rest = (
  λ rest lists refusal e. of_rest (prefix_list_row rest lists) refusal (prefix_row_rest rest lists) e,
  λ rest lists refusal e. of_rest (community_list_row rest lists) refusal (community_row_rest rest lists) e,
)

-- rows of maps

once_rest : {A : Type 0} (o : Option A) (is_set : Bool) (change : A → MapEntry) → OfRest (once o is_set change)
once_rest None b change = tt
once_rest (Some a) true change = tt
once_rest (Some a) false change = tt

-- an answer of a row is refused for what stands behind the head, or is out of place where no entry is open
abbrev pub IsRowCause : Option MapEntry → LineRefusal → Type 0
IsRowCause current Unsupported = ⊥
IsRowCause current OutOfPlace = current ≡ None
IsRowCause current BadValue = Unit {0}
IsRowCause current Repeated = Unit {0}
IsRowCause current OutOfLimit = Unit {0}
IsRowCause current NoMemory = ⊥

abbrev pub OfRow : {A : Type 0} → Option MapEntry → Result A LineRefusal → Type 0
OfRow current r = MatchResult r (λ _. Unit {0}) (IsRowCause current)

rest_row : {A : Type 0} (current : Option MapEntry) (r : Result A LineRefusal) → OfRest r → OfRow current r
rest_row current (Ok a) h = tt
rest_row current (Err Unsupported) h = absurd h
rest_row current (Err OutOfPlace) h = absurd h
rest_row current (Err BadValue) h = tt
rest_row current (Err Repeated) h = tt
rest_row current (Err OutOfLimit) h = tt
rest_row current (Err NoMemory) h = absurd h

changes_row : (change : List (List ℕ) → MapEntry → Result MapEntry LineRefusal) → ((rest : List (List ℕ)) (e : MapEntry) → OfRest (change rest e)) → (rest : List (List ℕ)) (maps : List RouteMap) (current : Option MapEntry) → OfRow current (changes change rest maps current)
changes_row change h rest maps None = refl
changes_row change h rest maps (Some e) = rest_row (Some e) (then_answer (change rest e) (λ x. Ok (Change x))) (then_rest (change rest e) (λ x. Ok (Change x)) (h rest e) (λ x. tt))

begins_rest : (rest : List (List ℕ)) (maps : List RouteMap) (current : Option MapEntry) → OfRest (begins rest maps current)
unfolding begins added_map_entry
begins_rest rest maps current = then_rest (or_bad_value (heading_of rest)) (added_map_entry maps) (or_bad_value_rest (heading_of rest)) (λ h. then_rest (if_free (map_numbers h.name maps) h.seq) (λ number. Ok (Begin h.name (new_entry h.permit number))) (if_free_rest (map_numbers h.name maps) h.seq) (λ n. tt))

match_community_rest : (rest : List (List ℕ)) (e : MapEntry) → OfRest (match_community rest e)
unfolding match_community
match_community_rest rest e = once_rest _ _ _

match_prefix_list_rest : (rest : List (List ℕ)) (e : MapEntry) → OfRest (match_prefix_list rest e)
unfolding match_prefix_list
match_prefix_list_rest rest e = once_rest _ _ _

set_preference_rest : (rest : List (List ℕ)) (e : MapEntry) → OfRest (set_preference rest e)
unfolding set_preference
set_preference_rest rest e = once_rest _ _ _

set_metric_rest : (rest : List (List ℕ)) (e : MapEntry) → OfRest (set_metric rest e)
unfolding set_metric
set_metric_rest rest e = once_rest _ _ _

set_weight_rest : (rest : List (List ℕ)) (e : MapEntry) → OfRest (set_weight rest e)
unfolding set_weight
set_weight_rest rest e = once_rest _ _ _

set_origin_rest : (rest : List (List ℕ)) (e : MapEntry) → OfRest (set_origin rest e)
unfolding set_origin
set_origin_rest rest e = once_rest _ _ _

set_community_rest : (rest : List (List ℕ)) (e : MapEntry) → OfRest (set_community rest e)
unfolding set_community
set_community_rest rest e = once_rest _ _ _

set_comm_list_rest : (rest : List (List ℕ)) (e : MapEntry) → OfRest (set_comm_list rest e)
unfolding set_comm_list
set_comm_list_rest rest e = once_rest _ _ _

set_prepend_rest : (rest : List (List ℕ)) (e : MapEntry) → OfRest (set_prepend rest e)
unfolding set_prepend
set_prepend_rest rest e = once_rest _ _ _

-- what each row of a table may be refused for
abbrev EachOfRow : List LineRow → List RouteMap → Option MapEntry → Type 0
EachOfRow [] maps current = Unit {0}
EachOfRow (r ∷ rows) maps current = ((rest : List (List ℕ)) → OfRow current (r.effect rest maps current)) × EachOfRow rows maps current

map_table_rows : (maps : List RouteMap) (current : Option MapEntry) → EachOfRow map_table maps current
map_table_rows maps current = (
  (λ rest. rest_row current (begins rest maps current) (begins_rest rest maps current)),
  (
    (λ rest. changes_row match_community match_community_rest rest maps current),
    (
      (λ rest. changes_row match_prefix_list match_prefix_list_rest rest maps current),
      (
        (λ rest. changes_row set_preference set_preference_rest rest maps current),
        (
          (λ rest. changes_row set_metric set_metric_rest rest maps current),
          (
            (λ rest. changes_row set_weight set_weight_rest rest maps current),
            (
              (λ rest. changes_row set_origin set_origin_rest rest maps current),
              (
                (λ rest. changes_row set_community set_community_rest rest maps current),
                (
                  (λ rest. changes_row set_comm_list set_comm_list_rest rest maps current),
                  (
                    (λ rest. changes_row set_prepend set_prepend_rest rest maps current),
                    tt,
                  ),
                ),
              ),
            ),
          ),
        ),
      ),
    ),
  ),
)

-- a line is not supported, and has the head of none of the rows, or is refused as its row is
abbrev ByTable : List LineRow → List (List ℕ) → Option MapEntry → Result MapStep LineRefusal → Type 0
ByTable rows line current r = OfRow current r ⊎ ((r ≡ Err Unsupported) × HasNoHead rows line)

by_table_rows : (rows : List LineRow) (line : List (List ℕ)) (maps : List RouteMap) (current : Option MapEntry) → EachOfRow rows maps current → ByTable rows line current (by_table rows line maps current)
by_table_rows [] line maps current h = inr (refl, All-nil (λ (r : LineRow). behind r.head line ≡ None))
by_table_rows (r ∷ rows) line maps current h = go (behind r.head line) refl (by_table_rows rows line maps current h.1) where
  go : (o : Option (List (List ℕ))) → behind r.head line ≡ o → ByTable rows line current (by_table rows line maps current) → ByTable (r ∷ rows) line current (by_head r o maps current (by_table rows line maps current))
  go (Some rest) e i = inl (h.0 rest)
  go None e (inl k) = inl k
  go None e (inr k) = inr (k.0, All-cons (λ (x : LineRow). behind x.head line ≡ None) r rows e k.1)

headless : (rows : List LineRow) (line : List (List ℕ)) (maps : List RouteMap) (current : Option MapEntry) → HasNoHead rows line → by_table rows line maps current ≡ Err Unsupported
headless [] line maps current h = refl
headless (r ∷ rows) line maps current h =
    let e : behind r.head line ≡ None = All-head (λ (x : LineRow). behind x.head line ≡ None) r rows h in
    ap (λ o. by_head r o maps current (by_table rows line maps current)) e ∙ headless rows line maps current (All-tail (λ (x : LineRow). behind x.head line ≡ None) r rows h)

not_supported : (line : List (List ℕ)) (current : Option MapEntry) (r : Result MapStep LineRefusal) → ByTable map_table line current r → r ≡ Err Unsupported → HasNoHead map_table line
not_supported line current (Ok step) h e = absurd (cc)
not_supported line current (Err Unsupported) (inl h) e = absurd h
not_supported line current (Err Unsupported) (inr h) e = h.1
not_supported line current (Err OutOfPlace) h e = absurd (cc)
not_supported line current (Err BadValue) h e = absurd (cc)
not_supported line current (Err Repeated) h e = absurd (cc)
not_supported line current (Err OutOfLimit) h e = absurd (cc)
not_supported line current (Err NoMemory) h e = absurd (cc)

memory : (line : List (List ℕ)) (current : Option MapEntry) (r : Result MapStep LineRefusal) → ByTable map_table line current r → r ≡ Err NoMemory → ⊥
memory line current r (inl h) e = subst (OfRow {A = MapStep} current) e h
memory line current r (inr h) e = let f : Err Unsupported ≡ Err NoMemory = sym h.0 ∙ e in cc

closed_only : (line : List (List ℕ)) (current : Option MapEntry) (r : Result MapStep LineRefusal) → ByTable map_table line current r → r ≡ Err OutOfPlace → current ≡ None
closed_only line current r (inl h) e = subst (OfRow {A = MapStep} current) e h
closed_only line current r (inr h) e = absurd (let f : Err Unsupported ≡ Err OutOfPlace = sym h.0 ∙ e in cc)

-- rows that are out of place where no entry is open
abbrev EachOfBlock : List LineRow → List RouteMap → Type 0
EachOfBlock [] maps = Unit {0}
EachOfBlock (r ∷ rows) maps = ((rest : List (List ℕ)) → r.effect rest maps None ≡ Err OutOfPlace) × EachOfBlock rows maps

closed_rows : (rows : List LineRow) (line : List (List ℕ)) (maps : List RouteMap) → EachOfBlock rows maps → (by_table rows line maps None ≡ Err OutOfPlace) ⊎ HasNoHead rows line
closed_rows [] line maps h = inr (All-nil (λ (r : LineRow). behind r.head line ≡ None))
closed_rows (r ∷ rows) line maps h = go (behind r.head line) refl (closed_rows rows line maps h.1) where
  go : (o : Option (List (List ℕ))) → behind r.head line ≡ o → (by_table rows line maps None ≡ Err OutOfPlace) ⊎ HasNoHead rows line → (by_head r o maps None (by_table rows line maps None) ≡ Err OutOfPlace) ⊎ HasNoHead (r ∷ rows) line
  go (Some rest) e i = inl (h.0 rest)
  go None e (inl k) = inl k
  go None e (inr k) = inr (All-cons (λ (x : LineRow). behind x.head line ≡ None) r rows e k)

abbrev but_first : List LineRow → List LineRow
but_first [] = []
but_first (r ∷ rows) = rows

abbrev block_rows : List LineRow
block_rows = but_first map_table

block_rows_closed : (maps : List RouteMap) → EachOfBlock block_rows maps
block_rows_closed maps = (λ _. refl, (λ _. refl, (λ _. refl, (λ _. refl, (λ _. refl, (λ _. refl, (λ _. refl, (λ _. refl, (λ _. refl, tt)))))))))

-- the row that begins an entry is never out of place, and each other row is where no entry is open
closed_from : (line : List (List ℕ)) (maps : List RouteMap) → map_line line maps None ≡ Err OutOfPlace → behind begins_head line ≡ None
unfolding map_line
closed_from line maps e = go (behind begins_head line) refl e where
  go : (o : Option (List (List ℕ))) → behind begins_head line ≡ o → by_head (row begins_head begins) o maps None (by_table block_rows line maps None) ≡ Err OutOfPlace → o ≡ None
  go None f h = refl
  go (Some rest) f h = absurd (of_rest (begins rest maps None) OutOfPlace (begins_rest rest maps None) h)

closed_to : (line : List (List ℕ)) (maps : List RouteMap) → behind begins_head line ≡ None → (HasNoHead map_table line → ⊥) → map_line line maps None ≡ Err OutOfPlace
unfolding map_line
closed_to line maps e h = ap (λ o. by_head (row begins_head begins) o maps None (by_table block_rows line maps None)) e ∙ go (closed_rows block_rows line maps (block_rows_closed maps)) where
  go : (by_table block_rows line maps None ≡ Err OutOfPlace) ⊎ HasNoHead block_rows line → by_table block_rows line maps None ≡ Err OutOfPlace
  go (inl k) = k
  go (inr k) = absurd (h (All-cons (λ (x : LineRow). behind x.head line ≡ None) (row begins_head begins) block_rows e k))

pub map_line_by_table : (line : List (List ℕ)) (maps : List RouteMap) (current : Option MapEntry) → ByTable map_table line current (map_line line maps current)
unfolding map_line
map_line_by_table line maps current = by_table_rows map_table line maps current (map_table_rows maps current)

map_line_headless : (line : List (List ℕ)) (maps : List RouteMap) (current : Option MapEntry) → HasNoHead map_table line → map_line line maps current ≡ Err Unsupported
unfolding map_line
map_line_headless line maps current h = headless map_table line maps current h

headed : (line : List (List ℕ)) (maps : List RouteMap) → map_line line maps None ≡ Err OutOfPlace → HasNoHead map_table line → ⊥
headed line maps e h = let f : Err OutOfPlace ≡ Err Unsupported = sym e ∙ map_line_headless line maps None h in cc

out_of_place : (line : List (List ℕ)) (maps : List RouteMap) (current : Option MapEntry) → (map_line line maps current ≡ Err OutOfPlace) ↔ ((current ≡ None) × ((behind begins_head line ≡ None) × (HasNoHead map_table line → ⊥)))
out_of_place line maps current = (from, to) where
  at : Option MapEntry → Type 0
  at o = map_line line maps o ≡ Err OutOfPlace

  from : map_line line maps current ≡ Err OutOfPlace → (current ≡ None) × ((behind begins_head line ≡ None) × (HasNoHead map_table line → ⊥))
  from e =
      let none = closed_only line current (map_line line maps current) (map_line_by_table line maps current) e in
      let f = subst at none e in
      (none, (closed_from line maps f, headed line maps f))

  to : (current ≡ None) × ((behind begins_head line ≡ None) × (HasNoHead map_table line → ⊥)) → map_line line maps current ≡ Err OutOfPlace
  to h = subst at (sym h.0) (closed_to line maps h.1.0 h.1.1)

pub is_refused_map_line : (line : List (List ℕ)) (maps : List RouteMap) (current : Option MapEntry) → IsRefusedMapLine line maps current
is_refused_map_line line maps current = let h = map_line_by_table line maps current in record {
  unsupported = (not_supported line current (map_line line maps current) h, map_line_headless line maps current);
  out_of_place = out_of_place line maps current;
  memory = memory line current (map_line line maps current) h;
}

-- A line by the line table is the line by the row that its words find one after another.
use Rattle.std.proofs.Common.{ℕ, ◌≡◌, ◌&&◌, Bool, true, false, List, [], ◌∷◌, codes, map, Option, Some, None, ap, ◌∙◌, refl, subst, arith, nat_eq}
use Rattle.std.proofs.lemmas.Bool.Decides.{nat_tests}
use Rattle.net_types.specs.declared.config.RouteMap.{RouteMap}
use Rattle.net_types.specs.declared.config.MapEntry.{MapEntry}
use Rattle.net_types.specs.Order.{same_text}
use Rattle.frr_policy.specs.declared.map_steps.Setting.TheVariants.{MatchCommunity, MatchPrefixList, SetPreference, SetMetric, SetWeight, SetOrigin, SetCommunities, DeleteCommunities, Prepend}
use Rattle.frr_policy.specs.declared.map_steps.MapRow.TheVariants.{Begins, Changes}
use Rattle.frr_policy.specs.MapLines.{LineRow, row, behind, by_table, by_head, map_line}
use Rattle.frr_policy.specs.MapPlaces.{Place, place, effect_of, found, found_at, found_row, found_match, found_set, by_found}

-- a row of the table by its name
abbrev named : Place → LineRow
named p = row p.head (effect_of p.row)

by_named : (places : List Place) (line : List (List ℕ)) (maps : List RouteMap) (current : Option MapEntry) → by_table (map named places) line maps current ≡ by_found (found places line) maps current
by_named [] line maps current = refl
by_named (p ∷ places) line maps current = go (behind p.head line) (by_named places line maps current) where
  go : (rest : Option (List (List ℕ))) → by_table (map named places) line maps current ≡ by_found (found places line) maps current → by_head (named p) rest maps current (by_table (map named places) line maps current) ≡ by_found (found_at p.row rest (found places line)) maps current
  go (Some rest) i = refl
  go None i = i

-- words with the same bytes are one
both_true : (a b : Bool) → (a && b) ≡ true → (a ≡ true) × (b ≡ true)
both_true true b h = (refl, h)
both_true false b h = cc

nat_same : (x y : ℕ) → nat_eq x y ≡ true → x ≡ y
nat_same x y h = grind (arith, nat_tests)

same_text_true : (a b : List ℕ) → same_text a b ≡ true → a ≡ b
same_text_true [] [] h = refl
same_text_true [] (y ∷ ys) h = cc
same_text_true (x ∷ xs) [] h = cc
same_text_true (x ∷ xs) (y ∷ ys) h =
    let p = both_true (nat_eq x y) (same_text xs ys) h in
    let e = nat_same x y p.0 in
    let f = same_text_true xs ys p.1 in
    cc

-- the rows of the table by their names
abbrev all_places : List Place
all_places =
    place (codes "route-map" ∷ []) Begins ∷
    place (codes "match" ∷ codes "community" ∷ []) (Changes MatchCommunity) ∷
    place (codes "match" ∷ codes "ip" ∷ codes "address" ∷ codes "prefix-list" ∷ []) (Changes MatchPrefixList) ∷
    place (codes "set" ∷ codes "local-preference" ∷ []) (Changes SetPreference) ∷
    place (codes "set" ∷ codes "metric" ∷ []) (Changes SetMetric) ∷
    place (codes "set" ∷ codes "weight" ∷ []) (Changes SetWeight) ∷
    place (codes "set" ∷ codes "origin" ∷ []) (Changes SetOrigin) ∷
    place (codes "set" ∷ codes "community" ∷ []) (Changes SetCommunities) ∷
    place (codes "set" ∷ codes "comm-list" ∷ []) (Changes DeleteCommunities) ∷
    place (codes "set" ∷ codes "as-path" ∷ codes "prepend" ∷ []) (Changes Prepend) ∷
    []

-- the row of a line, by its first word
first_word : (word : List ℕ) (more : List (List ℕ)) → found all_places (word ∷ more) ≡ found_row (word ∷ more)
unfolding found_row found_match found_set
first_word word more = go (same_text (codes "route-map") word) (same_text (codes "match") word) (same_text (codes "set") word) refl refl refl where
  at : List ℕ → Type 0
  at w = found all_places (w ∷ more) ≡ found_row (w ∷ more)

  go : (a b c : Bool) → same_text (codes "route-map") word ≡ a → same_text (codes "match") word ≡ b → same_text (codes "set") word ≡ c → found all_places (word ∷ more) ≡ found_row (word ∷ more)
  go true b c e f g = subst at (same_text_true (codes "route-map") word e) refl
  go false true c e f g = subst at (same_text_true (codes "match") word f) refl
  go false false true e f g = subst at (same_text_true (codes "set") word g) refl
  go false false false e f g = simp (e, f, g)

by_words : (line : List (List ℕ)) → found all_places line ≡ found_row line
unfolding found_row
by_words [] = refl
by_words (word ∷ more) = first_word word more

-- what a line does, by the row that is found
pub map_line_found : (line : List (List ℕ)) (maps : List RouteMap) (current : Option MapEntry) → map_line line maps current ≡ by_found (found_row line) maps current
unfolding map_line
map_line_found line maps current = by_named all_places line maps current ∙ ap (λ f. by_found f maps current) (by_words line)

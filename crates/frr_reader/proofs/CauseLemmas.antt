-- Each cause of a line by itself.
use Rattle.std.proofs.Common.{ℕ, ◌≡◌, ◌⊎◌, ◌<◌, ◌≤◌, ◌↔◌, Bool, true, false, List, [], ◌∷◌, length, nat_lt, Option, Some, None, Result, Ok, Err, MatchResult, slice_get, if◌then◌else◌, inl, inr, refl, sym, subst, ◌∙◌, ap, arith, zero, suc, IsSome, IfOk, codes}
use Rattle.std.specs.List.{list_any}
use Rattle.std.proofs.lemmas.Bool.Decides.{nat_tests}
use Rattle.net_types.specs.declared.config.BgpConfig.{BgpConfig}
use Rattle.frr_policy.specs.MapLines.{behind as map_behind}
use Rattle.frr_policy.specs.Words.{words}
use Rattle.frr_policy.specs.Laws.{begins_head}
use Rattle.frr_reader.specs.declared.causes.Cause.{Cause}
use Rattle.frr_reader.specs.declared.causes.Cause.TheVariants.{NotText, LineTooLong, Unsupported, OutOfPlace, BadValue, Repeated, OutOfLimit}
use Rattle.frr_reader.specs.declared.modes.Mode.{Mode}
use Rattle.frr_reader.specs.declared.modes.Mode.TheVariants.{InInterface, InBgp, InFamily}
use Rattle.frr_reader.specs.declared.rows.BgpRow.{BgpRow}
use Rattle.frr_reader.specs.declared.rows.BgpRow.TheVariants.{NoPolicy, RemoteAs, NeighborMap, BgpNetwork, Connected, FromOspf, OfNeighbor}
use Rattle.frr_reader.specs.declared.rows.Row.{Row}
use Rattle.frr_reader.specs.declared.rows.Row.TheVariants.{HostName, OpenInterface, OpenBgp, OpenOspf, PrefixListLine, CommunityListLine, MapLine, Address, Area, Cost, Shutdown, OspfNetwork, OfBgp, OpenFamily, Exit, End, ExitFamily, NoEffect}
use Rattle.frr_reader.specs.Lines.{LineValue}
use Rattle.frr_reader.specs.Table.{FoundValue, found_from, is_known}
use Rattle.frr_reader.specs.Answers.{needs, needs_before, and_then}
use Rattle.frr_reader.specs.State.{State, IsOpen}
use Rattle.frr_reader.specs.Bgp.{named_neighbor, map_and_direction, with_map_at, neighbor_map_line, of_neighbor_line, bgp_effect}
use Rattle.frr_reader.specs.Effects.{by_bgp, with_map_noted, of_bgp_line, open_entry, effect}
use Rattle.frr_reader.specs.Reading.{is_control, line_max, file_max, begins_comment, by_row, by_words, within, step}
use Rattle.frr_reader.specs.LineLaws.{IsReadable, IsStatement, words_at, IsLineLaw, IsDisplaced, NamesNoNeighbor}
use Rattle.frr_reader.proofs.FoundLemmas.{taken_innermost, map_line_headed, unknown_found, nowhere_found, found-unsupported, found-causes, found-out_of_place, found_known, StandsWhere, stands_where, begun_head}
use Rattle.frr_reader.proofs.OpenLemmas.{StaysIn, found_stays, opened_in}
use Rattle.frr_reader.proofs.RowCauseLemmas.{OfRow, BgpOut, OutIf, effect_row}

-- where what a block is of is there, a row is out of place only for its neighbor's `remote-as`

within_some : {A : Type 0} (xs : List A) (k : ℕ) → k < length xs → slice_get xs k ≡ None → ⊥
within_some [] k l e = omega arith
within_some (x ∷ xs) zero l e = cc
within_some (x ∷ xs) (suc k) l e = within_some xs k (omega arith) e

none_is_none : {A : Type 0} (o : Option A) → IsSome o → o ≡ None → ⊥
none_is_none None h e = let f : false ≡ true = h in cc
none_is_none (Some x) h e = cc

closed_interface : (s : State) (m : Mode) → IsOpen s → s.mode ≡ m → m ≡ InInterface → slice_get s.interfaces s.open_place ≡ None → ⊥
closed_interface s m h e f g = within_some s.interfaces s.open_place (h.interface (e ∙ f)) g

closed_bgp : (s : State) (m : Mode) → IsOpen s → s.mode ≡ m → (m ≡ InBgp) ⊎ (m ≡ InFamily) → s.bgp ≡ None → ⊥
closed_bgp s m h e (inl f) g = none_is_none s.bgp (h.bgp (e ∙ f)) g
closed_bgp s m h e (inr f) g = none_is_none s.bgp (h.family (e ∙ f)) g

-- the rows that need a neighbor's `remote-as`
abbrev OfNeighbors : Row → Type 0
OfNeighbors row = (row ≡ OfBgp NeighborMap) ⊎ (row ≡ OfBgp OfNeighbor)

abbrev NoRemoteAs : List (List ℕ) → Option BgpConfig → Type 0
NoRemoteAs line o = (b : BgpConfig) → o ≡ Some b → named_neighbor line b ≡ None

bgp_out : (row : BgpRow) (line : List (List ℕ)) (b : BgpConfig) → BgpOut row line b → OfNeighbors (OfBgp row) × (named_neighbor line b ≡ None)
bgp_out NoPolicy line b h = absurd h
bgp_out RemoteAs line b h = absurd h
bgp_out NeighborMap line b h = (inl refl, h)
bgp_out BgpNetwork line b h = absurd h
bgp_out Connected line b h = absurd h
bgp_out FromOspf line b h = absurd h
bgp_out OfNeighbor line b h = (inr refl, h)

two_bgp : (o : Option BgpConfig) (b c : BgpConfig) → o ≡ Some b → o ≡ Some c → b ≡ c
two_bgp o b c e f = cc

same_bgp : (line : List (List ℕ)) (b : BgpConfig) (o : Option BgpConfig) → o ≡ Some b → named_neighbor line b ≡ None → NoRemoteAs line o
same_bgp line b o e h = λ c f. subst (λ x. named_neighbor line x ≡ None) (two_bgp o b c e f) h

out_for_neighbor : (row : Row) (line : List (List ℕ)) (name : List ℕ) (s : State) (m : Mode) → IsOpen s → s.mode ≡ m → StandsWhere name row m → (name ≡ codes "route-map" → map_behind begins_head line ≡ None → ⊥) → OutIf row line s → OfNeighbors row × NoRemoteAs line s.bgp
out_for_neighbor HostName line name s m h e w k o = absurd o
out_for_neighbor OpenInterface line name s m h e w k o = absurd o
out_for_neighbor OpenBgp line name s m h e w k o = absurd o
out_for_neighbor OpenOspf line name s m h e w k o = absurd o
out_for_neighbor PrefixListLine line name s m h e w k o = absurd o
out_for_neighbor CommunityListLine line name s m h e w k o = absurd o
out_for_neighbor MapLine line name s m h e (inl f) k o = absurd (none_is_none (open_entry s) (h.entry (e ∙ f)) o.0)
out_for_neighbor MapLine line name s m h e (inr f) k o = absurd (k f o.1)
out_for_neighbor Address line name s m h e w k o = absurd (closed_interface s m h e w o)
out_for_neighbor Area line name s m h e w k o = absurd (closed_interface s m h e w o)
out_for_neighbor Cost line name s m h e w k o = absurd (closed_interface s m h e w o)
out_for_neighbor Shutdown line name s m h e w k o = absurd (closed_interface s m h e w o)
out_for_neighbor OspfNetwork line name s m h e w k o = absurd o
out_for_neighbor (OfBgp row) line name s m h e w k (inl f) = absurd (closed_bgp s m h e w f)
out_for_neighbor (OfBgp row) line name s m h e w k (inr f) = let q = bgp_out row line f.0 f.2 in (q.0, same_bgp line f.0 s.bgp f.1 q.1)
out_for_neighbor OpenFamily line name s m h e w k o = absurd (closed_bgp s m h e w o)
out_for_neighbor Exit line name s m h e w k o = absurd o
out_for_neighbor End line name s m h e w k o = absurd o
out_for_neighbor ExitFamily line name s m h e w k o = absurd (closed_bgp s m h e w o)
out_for_neighbor NoEffect line name s m h e w k o = absurd o

names_no_neighbor : (s : State) (line : List (List ℕ)) (found : FoundValue) → IsOpen s → found_from s.mode line ≡ Ok found → OutIf found.row line (record s { mode = found.mode }) → NamesNoNeighbor s.mode s.bgp line
names_no_neighbor s line found h e o =
    let i = taken_innermost s.mode line found e in
    let stays : IfOk {E = Cause} (Ok found) (λ f. StaysIn s.mode f.mode) = rw e at (found_stays s.mode line) in
    let w : StandsWhere i.form.head found.row found.mode = subst (λ row. StandsWhere i.form.head row found.mode) i.row (stands_where i.form found.mode i.among i.stands) in
    let q = out_for_neighbor found.row line i.form.head (record s { mode = found.mode }) found.mode (opened_in s found.mode h stays) refl w (λ f g. begun_head i.form.head line found.rest f i.head g) o in
    record { found = found; taken = e; row = q.0; before = q.1 }

-- what the words of a line may be refused for
abbrev IsWordCause : State → List (List ℕ) → Cause → Type 0
IsWordCause s line NotText = ⊥
IsWordCause s line LineTooLong = ⊥
IsWordCause s line Unsupported = IsStatement line × (is_known line ≡ false)
IsWordCause s line OutOfPlace = IsOpen s → IsStatement line × ((is_known line ≡ true) × IsDisplaced s.mode s.bgp line)
IsWordCause s line BadValue = Unit {0}
IsWordCause s line Repeated = Unit {0}
IsWordCause s line OutOfLimit = Unit {0}

abbrev OfWords : State → List (List ℕ) → Result State Cause → Type 0
OfWords s line r = MatchResult r (λ _. Unit {0}) (IsWordCause s line)

row_words : (Q : Type 0) (s : State) (line : List (List ℕ)) (r : Result State Cause) → (Q → IsOpen s → IsStatement line × ((is_known line ≡ true) × IsDisplaced s.mode s.bgp line)) → OfRow Q r → OfWords s line r
row_words Q s line (Ok t) k h = tt
row_words Q s line (Err NotText) k h = absurd h
row_words Q s line (Err LineTooLong) k h = absurd h
row_words Q s line (Err Unsupported) k h = absurd h
row_words Q s line (Err OutOfPlace) k h = k h
row_words Q s line (Err BadValue) k h = tt
row_words Q s line (Err Repeated) k h = tt
row_words Q s line (Err OutOfLimit) k h = tt

by_row_words : (s : State) (line : List (List ℕ)) → IsStatement line → OfWords s line (by_row s line (found_from s.mode line))
by_row_words s line is = go (found_from s.mode line) refl where
  cause_at : (cause : Cause) → found_from s.mode line ≡ Err cause → (cause ≡ OutOfPlace) ⊎ (cause ≡ Unsupported) → IsWordCause s line cause
  cause_at cause e (inl f) = subst (IsWordCause s line) (sym f) (λ _. let g = found-out_of_place s.mode line (e ∙ ap Err f) in (is, (g.0, inl g.1)))
  cause_at cause e (inr f) = subst (IsWordCause s line) (sym f) (is, found-unsupported s.mode line (e ∙ ap Err f))

  go : (r : Result FoundValue Cause) → found_from s.mode line ≡ r → OfWords s line (by_row s line r)
  go (Ok found) e = row_words (OutIf found.row line (record s { mode = found.mode })) s line (effect found.row line found.rest (record s { mode = found.mode })) (λ o h. (is, (found_known s.mode line found e, inr (names_no_neighbor s line found h e o)))) (effect_row found.row line found.rest (record s { mode = found.mode }) (map_line_headed s.mode line found (taken_innermost s.mode line found e)))
  go (Err cause) e = cause_at cause e (found-causes s.mode line cause e)

by_words_causes : (s : State) (line : List (List ℕ)) → OfWords s line (by_words s line)
unfolding by_words
by_words_causes s [] = tt
by_words_causes s (word ∷ more) = go (begins_comment word) refl where
  go : (b : Bool) → begins_comment word ≡ b → OfWords s (word ∷ more) (if b then Ok s else by_row s (word ∷ more) (found_from s.mode (word ∷ more)))
  go true e = tt
  go false e = by_row_words s (word ∷ more) e

-- a row that needs a neighbor's `remote-as` is out of place without it
of_neighbor_out : (row : BgpRow) (line rest : List (List ℕ)) (s : State) → ((b : BgpConfig) → s.bgp ≡ Some b → bgp_effect row line rest b ≡ Err OutOfPlace) → of_bgp_line row line rest s ≡ Err OutOfPlace
unfolding of_bgp_line by_bgp
of_neighbor_out row line rest s h = go s.bgp refl where
  go : (o : Option BgpConfig) → s.bgp ≡ o → and_then (needs_before o (λ b. and_then (bgp_effect row line rest b) (λ new. Ok (record s { bgp = Some new })))) (λ t. Ok (with_map_noted row rest t)) ≡ Err OutOfPlace
  go None e = refl
  go (Some b) e = ap (λ r. and_then (and_then r (λ new. Ok (record s { bgp = Some new }))) (λ t. Ok (with_map_noted row rest t))) (h b e)

map_out : (line rest : List (List ℕ)) (b : BgpConfig) → named_neighbor line b ≡ None → bgp_effect NeighborMap line rest b ≡ Err OutOfPlace
unfolding bgp_effect neighbor_map_line
map_out line rest b e = ap (λ o. needs_before o (λ place. needs (map_and_direction rest) (λ m. needs_before (slice_get b.neighbors place) (with_map_at b place m)))) e

other_out : (line rest : List (List ℕ)) (b : BgpConfig) → named_neighbor line b ≡ None → bgp_effect OfNeighbor line rest b ≡ Err OutOfPlace
unfolding bgp_effect of_neighbor_line
other_out line rest b e = ap (λ o. needs_before o (λ place. Ok b)) e

effect_out : (row : Row) (line rest : List (List ℕ)) (s : State) → OfNeighbors row → NoRemoteAs line s.bgp → effect row line rest s ≡ Err OutOfPlace
unfolding effect
effect_out row line rest s (inl f) h = ap (λ x. effect x line rest s) f ∙ of_neighbor_out NeighborMap line rest s (λ b e. map_out line rest b (h b e))
effect_out row line rest s (inr f) h = ap (λ x. effect x line rest s) f ∙ of_neighbor_out OfNeighbor line rest s (λ b e. other_out line rest b (h b e))

-- a displaced statement is out of place
displaced_words : (s : State) (line : List (List ℕ)) → is_known line ≡ true → IsDisplaced s.mode s.bgp line → by_row s line (found_from s.mode line) ≡ Err OutOfPlace
displaced_words s line k (inl n) = ap (by_row s line) (nowhere_found s.mode line k n)
displaced_words s line k (inr n) = ap (by_row s line) n.taken ∙ effect_out n.found.row line n.found.rest (record s { mode = n.found.mode }) n.row n.before

-- a statement is read by the table, and all else does nothing
statement_words : (s : State) (line : List (List ℕ)) → IsStatement line → by_words s line ≡ by_row s line (found_from s.mode line)
unfolding by_words
statement_words s [] h = absurd h
statement_words s (word ∷ more) h = rw h refl

idle_words : (s : State) (line : List (List ℕ)) → (IsStatement line → ⊥) → by_words s line ≡ Ok s
unfolding by_words
idle_words s [] h = refl
idle_words s (word ∷ more) h = go (begins_comment word) refl where
  go : (b : Bool) → begins_comment word ≡ b → (if b then Ok s else by_row s (word ∷ more) (found_from s.mode (word ∷ more))) ≡ Ok s
  go true e = refl
  go false e = absurd (h e)

-- a line that can be read is what its words do, within the size
readable_step : (s : State) (line : LineValue) → IsReadable line → step s line ≡ within line.reach (words_at s line)
unfolding step
readable_step s line h =
    let l : nat_lt line_max (length line.text) ≡ false = short h.short in
    rw (h.text, l) refl where
      short : length line.text ≤ 512 → nat_lt line_max (length line.text) ≡ false
      short k = go (nat_lt 512 (length line.text)) refl where
        go : (b : Bool) → nat_lt 512 (length line.text) ≡ b → b ≡ false
        go true e = absurd (let f : 512 < length line.text = grind (arith, nat_tests) in omega arith)
        go false e = refl

-- the three ways of a line: control bytes, too long, readable
pub data Way (s : State) (line : LineValue) : Type 0 where
  control : list_any is_control line.text ≡ true → step s line ≡ Err NotText → Way s line
  long : list_any is_control line.text ≡ false → 512 < length line.text → step s line ≡ Err LineTooLong → Way s line
  readable : IsReadable line → step s line ≡ within line.reach (words_at s line) → Way s line

way : (s : State) (line : LineValue) → Way s line
unfolding step
way s line = go (list_any is_control line.text) (nat_lt line_max (length line.text)) refl refl where
  over : nat_lt line_max (length line.text) ≡ true → 512 < length line.text
  over e = grind (arith, nat_tests)

  under : nat_lt line_max (length line.text) ≡ false → length line.text ≤ 512
  under e = grind (arith, nat_tests)

  go : (b c : Bool) → list_any is_control line.text ≡ b → nat_lt line_max (length line.text) ≡ c → Way s line
  go true c e f = control e (rw e refl)
  go false true e f = long e (over f) (rw (e, f) refl)
  go false false e f = let r : IsReadable line = record { text = e; short = under f } in readable r (readable_step s line r)

word_cause : (s : State) (line : List (List ℕ)) (r : Result State Cause) (cause : Cause) → OfWords s line r → r ≡ Err cause → IsWordCause s line cause
word_cause s line r cause h e = subst (OfWords s line) e h

within_cause : (reach : ℕ) (r : Result State Cause) (cause : Cause) → within reach r ≡ Err cause → (cause ≡ OutOfLimit) ⊎ (r ≡ Err cause)
within_cause reach (Err c) cause e = inr e
within_cause reach (Ok s) cause e = go (nat_lt file_max reach) e where
  go : (b : Bool) → (if b then Err OutOfLimit else Ok s) ≡ Err cause → (cause ≡ OutOfLimit) ⊎ (Ok s ≡ Err cause)
  go true f = inl (cc)
  go false f = inr f

within_ok : (reach : ℕ) (s : State) → reach ≤ 262144 → within reach (Ok s) ≡ Ok s
within_ok reach s h = go (nat_lt file_max reach) refl where
  go : (b : Bool) → nat_lt file_max reach ≡ b → (if b then Err OutOfLimit else Ok s) ≡ Ok s
  go true e = absurd (let f : 262144 < reach = grind (arith, nat_tests) in omega arith)
  go false e = refl

within_far : (reach : ℕ) (s : State) → (within reach (Ok s) ≡ Err OutOfLimit) ↔ (262144 < reach)
within_far reach s = (from (nat_lt file_max reach) refl, to) where
  from : (b : Bool) → nat_lt file_max reach ≡ b → (if b then Err OutOfLimit else Ok s) ≡ Err OutOfLimit → 262144 < reach
  from true e f = grind (arith, nat_tests)
  from false e f = absurd (cc)

  to : 262144 < reach → within reach (Ok s) ≡ Err OutOfLimit
  to h = let e : nat_lt file_max reach ≡ true = grind (arith, nat_tests) in rw e refl

no_effect_row : (s : State) (line : List (List ℕ)) (found : FoundValue) → found.row ≡ NoEffect → by_row s line (Ok found) ≡ Ok (record s { mode = found.mode })
unfolding effect
no_effect_row s line found e = ap (λ row. effect row line found.rest (record s { mode = found.mode })) e

not_both : (line : LineValue) → list_any is_control line.text ≡ true → list_any is_control line.text ≡ false → ⊥
not_both line e f = let g : true ≡ false = sym e ∙ f in cc

too_long_is : (line : LineValue) → 512 < length line.text → length line.text ≤ 512 → ⊥
too_long_is line h k = omega arith

-- a line that cannot be read is refused for no other cause
unreadable : (s : State) (line : LineValue) (cause : Cause) → (IsReadable line → ⊥) → step s line ≡ Err cause → (cause ≡ Unsupported → ⊥) → (cause ≡ OutOfPlace → ⊥) → ((step s line ≡ Err NotText) ↔ (list_any is_control line.text ≡ true)) → ((step s line ≡ Err LineTooLong) ↔ ((list_any is_control line.text ≡ false) × (512 < length line.text))) → IsLineLaw s line
unreadable s line cause r e u p not_text too_long = record {
  not_text = not_text;
  too_long = too_long;
  unsupported = (λ f. absurd (u (same (step s line) e f)), λ h. absurd (r h.0));
  out_of_place = λ _. (λ f. absurd (not_out (step s line) e f), λ h. absurd (r h.0));
  idle = λ h. absurd (r h);
  no_effect = λ found h. absurd (r h);
  too_far = λ t h. absurd (r h);
  size_last = λ c h. absurd (r h);
} where
  same : (v : Result State Cause) → v ≡ Err cause → v ≡ Err Unsupported → cause ≡ Unsupported
  same v h k = cc

  not_out : (v : Result State Cause) → v ≡ Err cause → v ≡ Err OutOfPlace → ⊥
  not_out v h k = p (let f : cause ≡ OutOfPlace = cc in f)

pub is_line_law : (s : State) (line : LineValue) → IsLineLaw s line
is_line_law s line = go (way s line) where
  go : Way s line → IsLineLaw s line
  go (control e g) = unreadable s line NotText (λ r. not_both line e r.text) g (λ h. cc) (λ h. cc) (λ _. e, λ _. g) (λ h. absurd (let f : Err NotText ≡ Err LineTooLong = sym g ∙ h in cc), λ h. absurd (not_both line e h.0))
  go (long e l g) = unreadable s line LineTooLong (λ r. too_long_is line l r.short) g (λ h. cc) (λ h. cc) (λ h. absurd (let f : Err LineTooLong ≡ Err NotText = sym g ∙ h in cc), λ h. absurd (not_both line h e)) (λ _. (e, l), λ _. g)
  go (readable r e) = record {
    not_text = (λ g. absurd (no_text (within_cause line.reach (words_at s line) NotText (sym e ∙ g))), λ h. absurd (not_both line h r.text));
    too_long = (λ g. absurd (no_length (within_cause line.reach (words_at s line) LineTooLong (sym e ∙ g))), λ h. absurd (too_long_is line h.1 r.short));
    unsupported = (λ g. (r, no_head (within_cause line.reach (words_at s line) Unsupported (sym e ∙ g))), λ h. e ∙ ap (within line.reach) (statement_words at (words line.text) h.1.0 ∙ ap (by_row at (words line.text)) (unknown_found s.mode (words line.text) h.1.1)));
    out_of_place = λ opened. (λ g. (r, displaced opened (within_cause line.reach (words_at s line) OutOfPlace (sym e ∙ g))), λ h. e ∙ ap (within line.reach) (statement_words at (words line.text) h.1.0 ∙ displaced_words at (words line.text) h.1.1.0 h.1.1.1));
    idle = λ _ is l. e ∙ (ap (within line.reach) (idle_words at (words line.text) is) ∙ within_ok line.reach at l);
    no_effect = λ found _ is f n l. e ∙ (ap (within line.reach) (statement_words at (words line.text) is ∙ (ap (by_row at (words line.text)) f ∙ no_effect_row at (words line.text) found n)) ∙ within_ok line.reach (record at { mode = found.mode }) l);
    too_far = λ t _ w. let g : step s line ≡ within line.reach (Ok t) = e ∙ ap (within line.reach) w in let far = within_far line.reach t in (λ h. far.0 (sym g ∙ h), λ h. g ∙ far.1 h);
    size_last = λ cause _ w. e ∙ ap (within line.reach) w;
  } where
    at : State
    at = record s { number = line.number }

    causes : OfWords at (words line.text) (words_at s line)
    causes = by_words_causes (record s { number = line.number }) (words line.text)

    no_text : (NotText ≡ OutOfLimit) ⊎ (words_at s line ≡ Err NotText) → ⊥
    no_text (inl h) = cc
    no_text (inr h) = word_cause at (words line.text) (words_at s line) NotText causes h

    no_length : (LineTooLong ≡ OutOfLimit) ⊎ (words_at s line ≡ Err LineTooLong) → ⊥
    no_length (inl h) = cc
    no_length (inr h) = word_cause at (words line.text) (words_at s line) LineTooLong causes h

    no_head : (Unsupported ≡ OutOfLimit) ⊎ (words_at s line ≡ Err Unsupported) → IsStatement (words line.text) × (is_known (words line.text) ≡ false)
    no_head (inl h) = absurd (cc)
    no_head (inr h) = word_cause at (words line.text) (words_at s line) Unsupported causes h

    displaced : IsOpen s → (OutOfPlace ≡ OutOfLimit) ⊎ (words_at s line ≡ Err OutOfPlace) → IsStatement (words line.text) × ((is_known (words line.text) ≡ true) × IsDisplaced s.mode s.bgp (words line.text))
    displaced o (inl h) = absurd (cc)
    displaced o (inr h) = word_cause at (words line.text) (words_at s line) OutOfPlace causes h (record { interface = o.interface; ospf = o.ospf; bgp = o.bgp; family = o.family; entry = o.entry })

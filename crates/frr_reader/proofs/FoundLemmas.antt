-- The row by which a line is taken: the first in the innermost mode; and the heads of the lines of maps.
use Rattle.std.proofs.Common.{ℕ, ◌≡◌, ◌⊎◌, ◌++◌, cond, inl, inr, ◌||◌, Bool, true, false, List, [], ◌∷◌, codes, map, filter, All, Contains, Option, Some, None, Result, Ok, Err, option_map, is_some, if◌then◌else◌, refl, sym, subst, ◌∙◌, ap, ◌==◌}
use Rattle.std.specs.List.{list_any}
use Rattle.std.proofs.lemmas.List.Elements.{All-nil, All-cons, All-head, All-tail, All-contains, Contains-append_right, Contains-append_left, Contains-push}
use Rattle.net_types.specs.Order.{same_text}
use Rattle.frr_policy.specs.Words.{words}
use Rattle.frr_policy.specs.MapLines.{LineRow, map_table, behind as map_behind}
use Rattle.frr_policy.specs.Laws.{HasNoHead, begins_head}
use Rattle.frr_reader.specs.declared.causes.Cause.{Cause}
use Rattle.frr_reader.specs.declared.causes.Cause.TheVariants.{Unsupported, OutOfPlace}
use Rattle.frr_reader.specs.declared.modes.Mode.{Mode}
use Rattle.frr_reader.specs.declared.modes.Mode.TheVariants.{Top, InInterface, InBgp, InOspf, InMap, InFamily}
use Rattle.frr_reader.specs.declared.rows.Row.{Row}
use Rattle.frr_reader.specs.declared.rows.Row.TheVariants.{HostName, OpenInterface, OpenBgp, OpenOspf, PrefixListLine, CommunityListLine, MapLine, Address, Area, Cost, Shutdown, OspfNetwork, OfBgp, OpenFamily, Exit, End, ExitFamily, NoEffect}
use Rattle.frr_reader.specs.Table.{FormValue, FoundValue, table, stands_in, behind, by_form, or_else, first_given, found_in, has_head, is_known, or_cause, found_from, modes_from, rank, interface, bgp, bgp_and_family, family, in_map, top_rows, interface_rows, ospf_rows, bgp_rows, bgp_and_family_rows, family_rows, map_rows, leaving_rows}
use Rattle.frr_reader.specs.LineLaws.{TakesIn, NoneTakesIn, IsInnermost, is_map_line, map_heads}

-- the first item for which there is a value
pub record IsFirst {A B : Type 0} (f : A → Option B) (xs : List A) (y : B) : Type 0 where
  pub before : List A
  pub item : A
  pub behind : List A
  pub all : xs ≡ before ++ item ∷ behind
  pub none : All (λ x. f x ≡ None) before
  pub gives : f item ≡ Some y

is_first : {A B : Type 0} (f : A → Option B) (xs : List A) (y : B) → first_given f xs ≡ Some y → IsFirst f xs y
is_first f [] y e = absurd (cc)
is_first {A} {B} f (x ∷ xs) y e = go (f x) refl e (is_first f xs y) where
  go : (o : Option B) → f x ≡ o → or_else o (first_given f xs) ≡ Some y → (first_given f xs ≡ Some y → IsFirst f xs y) → IsFirst f (x ∷ xs) y
  go (Some z) g h i = record { before = []; item = x; behind = xs; all = refl; none = All-nil (λ z. f z ≡ None); gives = g ∙ h }
  go None g h i = let k = i h in record { before = x ∷ k.before; item = k.item; behind = k.behind; all = ap (λ zs. x ∷ zs) k.all; none = All-cons (λ z. f z ≡ None) x k.before g k.none; gives = k.gives }

pub none_given : {A B : Type 0} (f : A → Option B) (xs : List A) → first_given f xs ≡ None → All (λ x. f x ≡ None) xs
none_given f [] e = All-nil (λ x. f x ≡ None)
none_given {A} {B} f (x ∷ xs) e = go (f x) refl e (none_given f xs) where
  go : (o : Option B) → f x ≡ o → or_else o (first_given f xs) ≡ None → (first_given f xs ≡ None → All (λ z. f z ≡ None) xs) → All (λ z. f z ≡ None) (x ∷ xs)
  go (Some z) g h i = absurd (cc)
  go None g h i = All-cons (λ z. f z ≡ None) x xs g (i h)

pub given_none : {A B : Type 0} (f : A → Option B) (xs : List A) → All (λ x. f x ≡ None) xs → first_given f xs ≡ None
given_none f [] h = refl
given_none f (x ∷ xs) h = let e : f x ≡ None = All-head (λ z. f z ≡ None) x xs h in ap (λ o. or_else o (first_given f xs)) e ∙ given_none f xs (All-tail (λ z. f z ≡ None) x xs h)

among : {A : Type 0} (before behind : List A) (x : A) (xs : List A) → xs ≡ before ++ x ∷ behind → Contains xs x
among {A} before behind x xs e = let P : List A → Type 0 = λ ys. Contains ys x in subst P (sym e) (Contains-append_right before (x ∷ behind) x (Contains-append_left (x ∷ []) behind x (Contains-push [] x)))

-- what a row gives, by whether it stands in the mode, and by the words behind its head
abbrev given : FormValue → Mode → Bool → Option (List (List ℕ)) → Option FoundValue
given f mode b o = if b then option_map (λ rest. record { mode = mode; row = f.row; rest = rest }) o else None

-- a row gives nothing exactly where it does not take the line in the mode
by_form-none : (line : List (List ℕ)) (mode : Mode) (f : FormValue) → by_form line mode f ≡ None → TakesIn line mode f → ⊥
unfolding by_form
by_form-none line mode f e t = go (stands_in f mode) (behind (words f.head) line) e t.0 t.1 where
  go : (b : Bool) (o : Option (List (List ℕ))) → given f mode b o ≡ None → b ≡ true → is_some o ≡ true → ⊥
  go true (Some rest) g h i = cc
  go true None g h i = cc
  go false o g h i = cc

none-by_form : (line : List (List ℕ)) (mode : Mode) (f : FormValue) → (TakesIn line mode f → ⊥) → by_form line mode f ≡ None
unfolding by_form
none-by_form line mode f h = go (stands_in f mode) (behind (words f.head) line) refl refl where
  go : (b : Bool) (o : Option (List (List ℕ))) → stands_in f mode ≡ b → behind (words f.head) line ≡ o → given f mode b o ≡ None
  go true (Some rest) g i = absurd (h (g, ap is_some i))
  go true None g i = refl
  go false o g i = refl

by_form-some : (line : List (List ℕ)) (mode : Mode) (f : FormValue) (found : FoundValue) → by_form line mode f ≡ Some found → ((stands_in f mode ≡ true) × (behind (words f.head) line ≡ Some found.rest)) × ((found.mode ≡ mode) × (f.row ≡ found.row))
unfolding by_form
by_form-some line mode f found e = go (stands_in f mode) (behind (words f.head) line) refl refl e where
  go : (b : Bool) (o : Option (List (List ℕ))) → stands_in f mode ≡ b → behind (words f.head) line ≡ o → given f mode b o ≡ Some found → ((stands_in f mode ≡ true) × (behind (words f.head) line ≡ Some found.rest)) × ((found.mode ≡ mode) × (f.row ≡ found.row))
  go true (Some rest) g i k =
      let m : mode ≡ found.mode = ap mode_of k in
      let r : f.row ≡ found.row = ap row_of k in
      let t : Some rest ≡ Some found.rest = ap rest_of k in
      ((g, i ∙ t), (sym m, r)) where
        mode_of : Option FoundValue → Mode
        mode_of (Some x) = x.mode
        mode_of None = mode

        row_of : Option FoundValue → Row
        row_of (Some x) = x.row
        row_of None = f.row

        rest_of : Option FoundValue → Option (List (List ℕ))
        rest_of (Some x) = Some x.rest
        rest_of None = None
  go true None g i k = absurd (cc)
  go false o g i k = absurd (cc)

-- no row takes the line in a mode exactly where it is not found there
found_in-none : (line : List (List ℕ)) (mode : Mode) → found_in line mode ≡ None → NoneTakesIn line mode
unfolding found_in
found_in-none line mode e = λ k d l. by_form-none line mode _ (none_given (by_form line mode) table e k d l)

none-found_in : (line : List (List ℕ)) (mode : Mode) → NoneTakesIn line mode → found_in line mode ≡ None
unfolding found_in
none-found_in line mode h = given_none (by_form line mode) table (λ k d l. none-by_form line mode _ (h k d l))

found_in-first : (line : List (List ℕ)) (mode : Mode) (found : FoundValue) → found_in line mode ≡ Some found → IsFirst (by_form line mode) table found
unfolding found_in
found_in-first line mode found e = is_first (by_form line mode) table found e

innermost : (now : Mode) (line : List (List ℕ)) (found : FoundValue) → IsFirst (found_in line) (modes_from now) found → IsInnermost now line found
innermost now line found m =
    let f = found_in-first line m.item found m.gives in
    let t = by_form-some line m.item f.item found f.gives in
    record {
      inner = m.before;
      round = m.behind;
      modes = subst (λ x. modes_from now ≡ m.before ++ x ∷ m.behind) (sym t.1.0) m.all;
      none_inside = λ k d l. found_in-none line _ (m.none k d l);
      form = f.item;
      among = among f.before f.behind f.item table f.all;
      stands = subst (λ x. stands_in f.item x ≡ true) (sym t.1.0) t.0.0;
      head = t.0.1;
      row = t.1.1;
    }

or_cause-ok : (line : List (List ℕ)) (o : Option FoundValue) (found : FoundValue) → or_cause line o ≡ Ok found → o ≡ Some found
or_cause-ok line (Some x) found e = cc
or_cause-ok line None found e = go (is_known line) e where
  go : (b : Bool) → (if b then Err OutOfPlace else Err Unsupported) ≡ Ok found → None ≡ Some found
  go true h = absurd (cc)
  go false h = absurd (cc)

pub taken_innermost : (now : Mode) (line : List (List ℕ)) (found : FoundValue) → found_from now line ≡ Ok found → IsInnermost now line found
unfolding found_from
taken_innermost now line found e = innermost now line found (is_first (found_in line) (modes_from now) found (or_cause-ok line (first_given (found_in line) (modes_from now)) found e))

-- what is found is known
known-contains : (forms : List FormValue) (line : List (List ℕ)) → list_any (has_head line) forms ≡ false → All (λ (f : FormValue). has_head line f ≡ false) forms
known-contains [] line e = All-nil (λ (f : FormValue). has_head line f ≡ false)
known-contains (f ∷ fs) line e = go (has_head line f) refl e (known-contains fs line) where
  go : (b : Bool) → has_head line f ≡ b → (b || list_any (has_head line) fs) ≡ false → (list_any (has_head line) fs ≡ false → All (λ (x : FormValue). has_head line x ≡ false) fs) → All (λ (x : FormValue). has_head line x ≡ false) (f ∷ fs)
  go true g h i = absurd (cc)
  go false g h i = All-cons (λ (x : FormValue). has_head line x ≡ false) f fs g (i h)

unknown_all : (line : List (List ℕ)) → is_known line ≡ false → All (λ (f : FormValue). has_head line f ≡ false) table
unfolding is_known
unknown_all line e = known-contains table line e

-- a line with the head of no row is taken nowhere
unknown_nowhere : (line : List (List ℕ)) (mode : Mode) → is_known line ≡ false → NoneTakesIn line mode
unknown_nowhere line mode e = λ k d l t. let h = unknown_all line e k d l in cc

pub unknown_found : (now : Mode) (line : List (List ℕ)) → is_known line ≡ false → found_from now line ≡ Err Unsupported
unfolding found_from
unknown_found now line e =
    let n : first_given (found_in line) (modes_from now) ≡ None = given_none (found_in line) (modes_from now) (λ k d l. none-found_in line _ (unknown_nowhere line _ e)) in
    ap (or_cause line) n ∙ rw e refl

pub nowhere_found : (now : Mode) (line : List (List ℕ)) → is_known line ≡ true → All (NoneTakesIn line) (modes_from now) → found_from now line ≡ Err OutOfPlace
unfolding found_from
nowhere_found now line e h =
    let n : first_given (found_in line) (modes_from now) ≡ None = given_none (found_in line) (modes_from now) (λ k d l. none-found_in line _ (h k d l)) in
    ap (or_cause line) n ∙ rw e refl

pub found-unsupported : (now : Mode) (line : List (List ℕ)) → found_from now line ≡ Err Unsupported → is_known line ≡ false
unfolding found_from
found-unsupported now line e = go (first_given (found_in line) (modes_from now)) (is_known line) refl e where
  go : (o : Option FoundValue) (b : Bool) → is_known line ≡ b → or_cause line o ≡ Err Unsupported → b ≡ false
  go (Some x) b g h = absurd (cc)
  go None true g h = absurd (let k : Err OutOfPlace ≡ Err Unsupported = sym (by g) ∙ h in cc) where
    by : is_known line ≡ true → or_cause line None ≡ Err OutOfPlace
    by f = rw f refl
  go None false g h = refl

pub found-causes : (now : Mode) (line : List (List ℕ)) (cause : Cause) → found_from now line ≡ Err cause → (cause ≡ OutOfPlace) ⊎ (cause ≡ Unsupported)
unfolding found_from
found-causes now line cause e = go (first_given (found_in line) (modes_from now)) e where
  by_test : Bool → Result FoundValue Cause
  by_test b = if b then Err OutOfPlace else Err Unsupported

  inner : (b : Bool) → by_test b ≡ Err cause → (cause ≡ OutOfPlace) ⊎ (cause ≡ Unsupported)
  inner true h = inl (cc)
  inner false h = inr (cc)

  go : (o : Option FoundValue) → or_cause line o ≡ Err cause → (cause ≡ OutOfPlace) ⊎ (cause ≡ Unsupported)
  go (Some x) h = absurd (cc)
  go None h = inner (is_known line) h

-- the heads of the lines of maps

pub same_map_heads : map_heads table ≡ map (λ (r : LineRow). r.head) map_table
unfolding words
same_map_heads = refl

-- a head without `_` begins a line here as there
plain_behind : (head line : List (List ℕ)) → list_any (same_text (codes "_")) head ≡ false → behind head line ≡ map_behind head line
plain_behind [] line e = refl
plain_behind (wanted ∷ head) [] e = refl
plain_behind (wanted ∷ head) (word ∷ line) e = go (same_text (codes "_") wanted) (same_text wanted word) e (plain_behind head line) where
  go : (a b : Bool) → (a || list_any (same_text (codes "_")) head) ≡ false → (list_any (same_text (codes "_")) head ≡ false → behind head line ≡ map_behind head line) → (if a || b then behind head line else None) ≡ (if b then map_behind head line else None)
  go true b f i = absurd (cc)
  go false true f i = i f
  go false false f i = refl

headless : (rows : List LineRow) (line : List (List ℕ)) → list_any (λ (r : LineRow). list_any (same_text (codes "_")) r.head) rows ≡ false → HasNoHead rows line → All (λ head. behind head line ≡ None) (map (λ (r : LineRow). r.head) rows)
headless [] line e h = All-nil (λ head. behind head line ≡ None)
headless (r ∷ rows) line e h = go (list_any (same_text (codes "_")) r.head) refl e (λ f. headless rows line f (All-tail (λ (x : LineRow). map_behind x.head line ≡ None) r rows h)) where
  at : map_behind r.head line ≡ None
  at = All-head (λ (x : LineRow). map_behind x.head line ≡ None) r rows h

  go : (b : Bool) → list_any (same_text (codes "_")) r.head ≡ b → (b || list_any (λ (x : LineRow). list_any (same_text (codes "_")) x.head) rows) ≡ false → (list_any (λ (x : LineRow). list_any (same_text (codes "_")) x.head) rows ≡ false → All (λ head. behind head line ≡ None) (map (λ (x : LineRow). x.head) rows)) → All (λ head. behind head line ≡ None) (map (λ (x : LineRow). x.head) (r ∷ rows))
  go true f g i = absurd (cc)
  go false f g i = All-cons (λ head. behind head line ≡ None) r.head (map (λ (x : LineRow). x.head) rows) (plain_behind r.head line f ∙ at) (i g)

no_map_form : (forms : List FormValue) (line : List (List ℕ)) → All (λ head. behind head line ≡ None) (map_heads forms) → All (λ (f : FormValue). is_map_line f.row ≡ true → behind (words f.head) line ≡ None) forms
no_map_form [] line h = All-nil (λ (f : FormValue). is_map_line f.row ≡ true → behind (words f.head) line ≡ None)
no_map_form (f ∷ fs) line h = go (is_map_line f.row) refl h (no_map_form fs line) where
  P : FormValue → Type 0
  P x = is_map_line x.row ≡ true → behind (words x.head) line ≡ None

  go : (b : Bool) → is_map_line f.row ≡ b → All (λ head. behind head line ≡ None) (map (λ (x : FormValue). words x.head) (cond b (f ∷ filter (λ (x : FormValue). is_map_line x.row) fs) (filter (λ (x : FormValue). is_map_line x.row) fs))) → (All (λ head. behind head line ≡ None) (map_heads fs) → All P fs) → All P (f ∷ fs)
  go true e k i = All-cons P f fs (λ _. All-head (λ head. behind head line ≡ None) (words f.head) (map_heads fs) k) (i (All-tail (λ head. behind head line ≡ None) (words f.head) (map_heads fs) k))
  go false e k i = All-cons P f fs (λ g. absurd (let z : false ≡ true = sym e ∙ g in cc)) (i k)

-- a line that the table takes as a map's has a head that `frr_policy` reads
pub map_line_headed : (now : Mode) (line : List (List ℕ)) (found : FoundValue) → IsInnermost now line found → is_map_line found.row ≡ true → HasNoHead map_table line → ⊥
map_line_headed now line found i m h =
    let heads = subst (All (λ head. behind head line ≡ None)) (sym same_map_heads) (headless map_table line refl h) in
    let P : FormValue → Type 0 = λ f. is_map_line f.row ≡ true → behind (words f.head) line ≡ None in
    let n = All-contains P table i.form (no_map_form table line heads) i.among (subst (λ r. is_map_line r ≡ true) (sym i.row) m) in
    let z : None ≡ Some found.rest = sym n ∙ i.head in
    cc

-- what is out of place, and what is found

pub found-out_of_place : (now : Mode) (line : List (List ℕ)) → found_from now line ≡ Err OutOfPlace → (is_known line ≡ true) × All (NoneTakesIn line) (modes_from now)
unfolding found_from
found-out_of_place now line e = go (first_given (found_in line) (modes_from now)) refl (is_known line) refl e where
  unknown : is_known line ≡ false → or_cause line None ≡ Err Unsupported
  unknown f = rw f refl

  go : (o : Option FoundValue) → first_given (found_in line) (modes_from now) ≡ o → (b : Bool) → is_known line ≡ b → or_cause line o ≡ Err OutOfPlace → (is_known line ≡ true) × All (NoneTakesIn line) (modes_from now)
  go (Some x) f b g h = absurd (cc)
  go None f true g h = (g, λ k d l. found_in-none line _ (none_given (found_in line) (modes_from now) f k d l))
  go None f false g h = absurd (let k = sym (unknown g) ∙ h in cc)

pub found_known : (now : Mode) (line : List (List ℕ)) (found : FoundValue) → found_from now line ≡ Ok found → is_known line ≡ true
found_known now line found e = go (is_known line) refl where
  i : IsInnermost now line found
  i = taken_innermost now line found e

  go : (b : Bool) → is_known line ≡ b → b ≡ true
  go true f = refl
  go false f = absurd (let h = All-contains (λ (x : FormValue). has_head line x ≡ false) table i.form (unknown_all line f) i.among in let k : has_head line i.form ≡ true = ap is_some i.head in cc)

-- a line with the head `route-map`
pub begun_head : (name : List ℕ) (line rest : List (List ℕ)) → name ≡ codes "route-map" → behind (words name) line ≡ Some rest → map_behind begins_head line ≡ None → ⊥
unfolding words
begun_head name line rest e f g =
    let h : behind begins_head line ≡ Some rest = subst (λ n. behind (words n) line ≡ Some rest) e f in
    let k = sym g ∙ (sym (plain_behind begins_head line refl) ∙ h) in
    cc

-- the modes of the rows that need an open block
abbrev pub StandsWhere : List ℕ → Row → Mode → Type 0
StandsWhere head HostName m = Unit {0}
StandsWhere head OpenInterface m = Unit {0}
StandsWhere head OpenBgp m = Unit {0}
StandsWhere head OpenOspf m = Unit {0}
StandsWhere head PrefixListLine m = Unit {0}
StandsWhere head CommunityListLine m = Unit {0}
StandsWhere head MapLine m = (m ≡ InMap) ⊎ (head ≡ codes "route-map")
StandsWhere head Address m = m ≡ InInterface
StandsWhere head Area m = m ≡ InInterface
StandsWhere head Cost m = m ≡ InInterface
StandsWhere head Shutdown m = m ≡ InInterface
StandsWhere head OspfNetwork m = Unit {0}
StandsWhere head (OfBgp row) m = (m ≡ InBgp) ⊎ (m ≡ InFamily)
StandsWhere head OpenFamily m = (m ≡ InBgp) ⊎ (m ≡ InFamily)
StandsWhere head Exit m = Unit {0}
StandsWhere head End m = Unit {0}
StandsWhere head ExitFamily m = (m ≡ InBgp) ⊎ (m ≡ InFamily)
StandsWhere head NoEffect m = Unit {0}

abbrev FormStands : FormValue → Type 0
FormStands f = (m : Mode) → stands_in f m ≡ true → StandsWhere f.head f.row m

abbrev EachStands : List FormValue → Type 0
EachStands [] = Unit {0}
EachStands (f ∷ fs) = FormStands f × EachStands fs

each_all : (fs : List FormValue) → EachStands fs → All FormStands fs
each_all [] h = All-nil FormStands
each_all (f ∷ fs) h = All-cons FormStands f fs h.0 (each_all fs h.1)

in_interface : (m : Mode) → list_any (λ x. rank x == rank m) interface ≡ true → m ≡ InInterface
in_interface Top e = absurd (let f : false ≡ true = e in cc)
in_interface InInterface e = refl
in_interface InBgp e = absurd (let f : false ≡ true = e in cc)
in_interface InOspf e = absurd (let f : false ≡ true = e in cc)
in_interface InMap e = absurd (let f : false ≡ true = e in cc)
in_interface InFamily e = absurd (let f : false ≡ true = e in cc)

in_the_map : (m : Mode) → list_any (λ x. rank x == rank m) in_map ≡ true → m ≡ InMap
in_the_map Top e = absurd (let f : false ≡ true = e in cc)
in_the_map InInterface e = absurd (let f : false ≡ true = e in cc)
in_the_map InBgp e = absurd (let f : false ≡ true = e in cc)
in_the_map InOspf e = absurd (let f : false ≡ true = e in cc)
in_the_map InMap e = refl
in_the_map InFamily e = absurd (let f : false ≡ true = e in cc)

in_either : (m : Mode) → list_any (λ x. rank x == rank m) bgp_and_family ≡ true → (m ≡ InBgp) ⊎ (m ≡ InFamily)
in_either Top e = absurd (let f : false ≡ true = e in cc)
in_either InInterface e = absurd (let f : false ≡ true = e in cc)
in_either InBgp e = inl refl
in_either InOspf e = absurd (let f : false ≡ true = e in cc)
in_either InMap e = absurd (let f : false ≡ true = e in cc)
in_either InFamily e = inr refl

in_bgp : (m : Mode) → list_any (λ x. rank x == rank m) bgp ≡ true → (m ≡ InBgp) ⊎ (m ≡ InFamily)
in_bgp Top e = absurd (let f : false ≡ true = e in cc)
in_bgp InInterface e = absurd (let f : false ≡ true = e in cc)
in_bgp InBgp e = inl refl
in_bgp InOspf e = absurd (let f : false ≡ true = e in cc)
in_bgp InMap e = absurd (let f : false ≡ true = e in cc)
in_bgp InFamily e = absurd (let f : false ≡ true = e in cc)

in_family : (m : Mode) → list_any (λ x. rank x == rank m) family ≡ true → (m ≡ InBgp) ⊎ (m ≡ InFamily)
in_family Top e = absurd (let f : false ≡ true = e in cc)
in_family InInterface e = absurd (let f : false ≡ true = e in cc)
in_family InBgp e = absurd (let f : false ≡ true = e in cc)
in_family InOspf e = absurd (let f : false ≡ true = e in cc)
in_family InMap e = absurd (let f : false ≡ true = e in cc)
in_family InFamily e = inr refl

top_rows_stand : EachStands top_rows
top_rows_stand = ((λ m e. tt), ((λ m e. tt), ((λ m e. tt), ((λ m e. tt), ((λ m e. tt), ((λ m e. tt), ((λ m e. tt), ((λ m e. inr refl), ((λ m e. tt), ((λ m e. tt), ((λ m e. tt), ((λ m e. tt), ((λ m e. tt), ((λ m e. tt), ((λ m e. tt), ((λ m e. tt), ((λ m e. tt), ((λ m e. tt), ((λ m e. tt), tt)))))))))))))))))))

interface_rows_stand : EachStands interface_rows
interface_rows_stand = (in_interface, (in_interface, (in_interface, (in_interface, ((λ m e. tt), ((λ m e. tt), tt))))))

ospf_rows_stand : EachStands ospf_rows
ospf_rows_stand = ((λ m e. tt), ((λ m e. tt), tt))

bgp_rows_stand : EachStands bgp_rows
bgp_rows_stand = (in_bgp, (in_bgp, (in_bgp, ((λ m e. tt), ((λ m e. tt), ((λ m e. tt), tt))))))

bgp_and_family_rows_stand : EachStands bgp_and_family_rows
bgp_and_family_rows_stand = (in_either, (in_either, (in_either, (in_either, (in_either, (in_either, (in_either, (in_either, tt))))))))

family_rows_stand : EachStands family_rows
family_rows_stand = (in_family, tt)

map_rows_stand : EachStands map_rows
map_rows_stand = ((λ m e. inl (in_the_map m e)), ((λ m e. inl (in_the_map m e)), ((λ m e. inl (in_the_map m e)), ((λ m e. inl (in_the_map m e)), ((λ m e. inl (in_the_map m e)), ((λ m e. inl (in_the_map m e)), ((λ m e. inl (in_the_map m e)), ((λ m e. inl (in_the_map m e)), ((λ m e. inl (in_the_map m e)), tt)))))))))

leaving_rows_stand : EachStands leaving_rows
leaving_rows_stand = ((λ m e. tt), ((λ m e. tt), tt))

both_stand : (fs gs : List FormValue) → EachStands fs → EachStands gs → EachStands (fs ++ gs)
both_stand [] gs h k = k
both_stand (f ∷ fs) gs h k = (h.0, both_stand fs gs h.1 k)

table_stands : EachStands table
table_stands = both_stand top_rows (interface_rows ++ ospf_rows ++ bgp_rows ++ bgp_and_family_rows ++ family_rows ++ map_rows ++ leaving_rows) top_rows_stand (both_stand interface_rows (ospf_rows ++ bgp_rows ++ bgp_and_family_rows ++ family_rows ++ map_rows ++ leaving_rows) interface_rows_stand (both_stand ospf_rows (bgp_rows ++ bgp_and_family_rows ++ family_rows ++ map_rows ++ leaving_rows) ospf_rows_stand (both_stand bgp_rows (bgp_and_family_rows ++ family_rows ++ map_rows ++ leaving_rows) bgp_rows_stand (both_stand bgp_and_family_rows (family_rows ++ map_rows ++ leaving_rows) bgp_and_family_rows_stand (both_stand family_rows (map_rows ++ leaving_rows) family_rows_stand (both_stand map_rows leaving_rows map_rows_stand leaving_rows_stand))))))

pub stands_where : (f : FormValue) (m : Mode) → Contains table f → stands_in f m ≡ true → StandsWhere f.head f.row m
stands_where f m c e = All-contains FormStands table f (each_all table table_stands) c m e

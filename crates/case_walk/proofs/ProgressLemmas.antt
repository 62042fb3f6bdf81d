-- The walk over the properties of a book: which verdicts are done.
use Rattle.std.proofs.Common.{ℕ, zero, suc, ◌≡◌, ◌<◌, ◌≤◌, ◌+◌, ◌-◌, ◌*◌, ◌^◌, ◌&&◌, ◌||◌, not, if◌then◌else◌, Bool, true, false, Option, Some, None, is_none, List as Seq, [], ◌∷◌, length, map, All, drop, take, get_or, add-one, drop-cons, length-drop, arith, refl, ap, sym, subst, ◌∙◌}
use Rattle.std.proofs.lemmas.Bool.{and_parts, and_from}
use Rattle.std.proofs.lemmas.Bool.Decides.{nat_tests}
use Rattle.std.proofs.lemmas.List.Elements.{All-head, All-tail}
use Rattle.std.specs.List.{AllZip}
use Rattle.net_types.specs.NetValue.{NetValue}
use Rattle.net_types.specs.PrefixValue.{PrefixValue}
use Rattle.net_types.specs.Prefixes.{same_prefix}
use Rattle.net_types.proofs.PrefixLemmas.{same_prefix_is_one}
use Rattle.property_book.specs.declared.property.Property.{Property}
use Rattle.property_book.specs.declared.verdict.Barred.{Barred}
use Rattle.property_book.specs.declared.verdict.Verdict.{Verdict}
use Rattle.property_book.specs.declared.verdict.Verdict.TheVariants.{Certified, NotApplicable}
use Rattle.property_book.specs.Applicable.{barred}
use Rattle.case_walk.specs.Analysis.{Analysis}
use Rattle.case_walk.specs.Representatives.{solved_count}
use Rattle.case_walk.specs.Book.{applies, is_lead, asked_prefixes, stands, most_of, solved_over, solved_of}
use Rattle.case_walk.specs.Verdicts.{IsVerdict}
use Rattle.case_walk.specs.Marks.{AllTurn, none, one}
use Rattle.case_walk.specs.Turns.{IsJudged}
use Rattle.case_walk.specs.Progress.{opening, opening_by, IsSoFar, Brings}
use Rattle.case_walk.proofs.CountLemmas.{take_all}
use Rattle.case_walk.proofs.TurnLemmas.{open_of}
use Rattle.case_walk.proofs.BookLemmas.{IsInside, all_inside, asked_in, asked_out, sum_lead, same_itself, same_prefix_swaps}

-- relations between a book and its verdicts
zip_map : {X Y : Type 0} (P : X → Type 0) (R : X → Y → Type 0) (f : X → Y) → ((x : X) → P x → R x (f x)) → (xs : Seq X) → All P xs → AllZip R xs (map f xs)
zip_map P R f h [] all = tt
zip_map P R f h (x ∷ xs) all = (h x (All-head P x xs all), zip_map P R f h xs (All-tail P x xs all))

zip_weaker : {X Y : Type 0} (Q R : X → Y → Type 0) → ((x : X) (y : Y) → Q x y → R x y) → (xs : Seq X) (ys : Seq Y) → AllZip Q xs ys → AllZip R xs ys
zip_weaker Q R h [] [] all = tt
zip_weaker Q R h [] (y ∷ ys) all = absurd all
zip_weaker Q R h (x ∷ xs) [] all = absurd all
zip_weaker Q R h (x ∷ xs) (y ∷ ys) all = (h x y all.0, zip_weaker Q R h xs ys all.1)

zip_turn : (Q S : Property → Verdict → Type 0) (R : Property → Verdict → Verdict → Type 0) {book : Seq Property} {x y : Seq Verdict} →
    ((property : Property) (a b : Verdict) → Q property a → R property a b → S property b) → AllZip Q book x → AllTurn R book x y → AllZip S book y
zip_turn Q S R h all none = tt
zip_turn Q S R h all (one {property} {book} {a} {b} r p) = (h property a b all.0 r, zip_turn Q S R h all.1 p)

pub zip_long : {X Y : Type 0} (R : X → Y → Type 0) (xs : Seq X) (ys : Seq Y) → AllZip R xs ys → length ys ≡ length xs
zip_long R [] [] all = refl
zip_long R [] (y ∷ ys) all = absurd all
zip_long R (x ∷ xs) [] all = absurd all
zip_long R (x ∷ xs) (y ∷ ys) all = ap suc (zip_long R xs ys all.1)

-- a property with a bar does not apply
barred_out : (net : NetValue) (property : Property) (bar : Barred) → barred net property ≡ Some bar → applies net property ≡ false
barred_out net property bar e = ap is_none e

-- before the first property
pub so_far_starts : (net : NetValue) (analysis : Analysis) (book : Seq Property) → AllZip (IsSoFar net analysis book book) book (map (opening net) book)
so_far_starts net analysis book = zip_map (IsInside net book) (IsSoFar net analysis book book) (opening net) (λ property inside. record {
  other = λ bar e. ap opening_by e;
  ahead = λ open_here stands_there. ap opening_by (open_of net property open_here);
  done = λ open_here gone. absurd (let t : true ≡ false = sym (inside.among open_here) ∙ gone in cc);
  fits = inside.fits;
}) book (all_inside net book)

-- which prefixes are still to come, with one property more
same_ahead : (net : NetValue) (property : Property) (later : Seq Property) (p : PrefixValue) → is_lead net property later ≡ false → stands (asked_prefixes net (property ∷ later)) p ≡ stands (asked_prefixes net later) p
same_ahead net property later p follows = go (applies net property) refl (stands (asked_prefixes net later) property.prefix) refl (same_prefix p property.prefix) refl where
  go : (a : Bool) → applies net property ≡ a → (s : Bool) → stands (asked_prefixes net later) property.prefix ≡ s → (t : Bool) → same_prefix p property.prefix ≡ t →
      stands (asked_prefixes net (property ∷ later)) p ≡ stands (asked_prefixes net later) p
  go false e s f t g = ap (λ (ps : Seq PrefixValue). stands ps p) (asked_out net property later e)
  go true e false f t g = absurd (
      let l : is_lead net property later ≡ true = and_from (applies net property) (not (stands (asked_prefixes net later) property.prefix)) e (ap not f) in
      let k : true ≡ false = sym l ∙ follows in cc)
  go true e true f true g =
      let same = sym ((same_prefix_is_one p property.prefix).0 g) in
      let s : stands (asked_prefixes net later) p ≡ true = subst (λ (q : PrefixValue). stands (asked_prefixes net later) q ≡ true) same f in
      ap (λ (ps : Seq PrefixValue). stands ps p) (asked_in net property later e) ∙ ap (λ (b : Bool). b || stands (asked_prefixes net later) p) g ∙ sym s
  go true e true f false g = ap (λ (ps : Seq PrefixValue). stands ps p) (asked_in net property later e) ∙ ap (λ (b : Bool). b || stands (asked_prefixes net later) p) g

other_ahead : (net : NetValue) (property : Property) (later : Seq Property) (p : PrefixValue) → applies net property ≡ true → same_prefix p property.prefix ≡ false →
    stands (asked_prefixes net (property ∷ later)) p ≡ stands (asked_prefixes net later) p
other_ahead net property later p e g = ap (λ (ps : Seq PrefixValue). stands ps p) (asked_in net property later e) ∙ ap (λ (b : Bool). b || stands (asked_prefixes net later) p) g

own_ahead : (net : NetValue) (property : Property) (later : Seq Property) → applies net property ≡ true → stands (asked_prefixes net (property ∷ later)) property.prefix ≡ true
own_ahead net property later e = ap (λ (ps : Seq PrefixValue). stands ps property.prefix) (asked_in net property later e) ∙ ap (λ (b : Bool). b || stands (asked_prefixes net later) property.prefix) (same_itself property.prefix)

-- a property that leads
so_far_led : (net : NetValue) (analysis : Analysis) (book : Seq Property) (property : Property) (later : Seq Property) → is_lead net property later ≡ true → (other : Property) (a b : Verdict) →
    IsSoFar net analysis book (property ∷ later) other a → IsJudged net analysis property.prefix (most_of net property.prefix book) other a b → IsSoFar net analysis book later other b
so_far_led net analysis book property later leads other a b s j = go (applies net other) refl (same_prefix property.prefix other.prefix) refl where
  open_here : applies net property ≡ true
  open_here = (and_parts (applies net property) (not (stands (asked_prefixes net later) property.prefix)) leads).0

  not_true : (x : Bool) → not x ≡ true → x ≡ false
  not_true true h = absurd (let t : false ≡ true = h in cc)
  not_true false h = refl

  gone : stands (asked_prefixes net later) property.prefix ≡ false
  gone = not_true (stands (asked_prefixes net later) property.prefix) (and_parts (applies net property) (not (stands (asked_prefixes net later) property.prefix)) leads).1

  go : (p : Bool) → applies net other ≡ p → (q : Bool) → same_prefix property.prefix other.prefix ≡ q → IsSoFar net analysis book later other b
  go false e q f =
      let same : b ≡ a = j.other (ap (λ (x : Bool). x && same_prefix property.prefix other.prefix) e) in
      record {
        other = λ bar h. same ∙ s.other bar h;
        ahead = λ h. absurd (let t : true ≡ false = sym h ∙ e in cc);
        done = λ h. absurd (let t : true ≡ false = sym h ∙ e in cc);
        fits = s.fits;
      }
  go true e true f =
      let at : property.prefix ≡ other.prefix = (same_prefix_is_one property.prefix other.prefix).0 f in
      let come : stands (asked_prefixes net (property ∷ later)) other.prefix ≡ true = subst (λ (p : PrefixValue). stands (asked_prefixes net (property ∷ later)) p ≡ true) at (own_ahead net property later open_here) in
      let away : stands (asked_prefixes net later) other.prefix ≡ false = subst (λ (p : PrefixValue). stands (asked_prefixes net later) p ≡ false) at gone in
      let few : other.failures ≤ most_of net property.prefix book = subst (λ (p : PrefixValue). other.failures ≤ most_of net p book) (sym at) (s.fits e) in
      record {
        other = λ bar h. absurd (let t : true ≡ false = sym e ∙ barred_out net other bar h in cc);
        ahead = λ h k. absurd (let t : true ≡ false = sym k ∙ away in cc);
        done = λ h k. j.mine (and_from (applies net other) (same_prefix property.prefix other.prefix) e f) few (s.ahead e come);
        fits = s.fits;
      }
  go true e false f =
      let same : b ≡ a = j.other (ap (λ (x : Bool). x && same_prefix property.prefix other.prefix) e ∙ f) in
      let apart : same_prefix other.prefix property.prefix ≡ false = same_prefix_swaps other.prefix property.prefix ∙ f in
      let ahead_is = other_ahead net property later other.prefix open_here apart in
      record {
        other = λ bar h. absurd (let t : true ≡ false = sym e ∙ barred_out net other bar h in cc);
        ahead = λ h k. same ∙ s.ahead h (ahead_is ∙ k);
        done = λ h k. subst (λ (v : Verdict). IsVerdict net analysis other v) (sym same) (s.done h (ahead_is ∙ k));
        fits = s.fits;
      }

-- a property that follows
so_far_followed : (net : NetValue) (analysis : Analysis) (book : Seq Property) (property : Property) (later : Seq Property) → is_lead net property later ≡ false → (other : Property) (a : Verdict) →
    IsSoFar net analysis book (property ∷ later) other a → IsSoFar net analysis book later other a
so_far_followed net analysis book property later follows other a s = record {
  other = s.other;
  ahead = λ h k. s.ahead h (same_ahead net property later other.prefix follows ∙ k);
  done = λ h k. s.done h (same_ahead net property later other.prefix follows ∙ k);
  fits = s.fits;
}

-- one property more
pub so_far_more : (net : NetValue) (analysis : Analysis) (book : Seq Property) (property : Property) (later : Seq Property) (olds news : Seq Verdict) → AllZip (IsSoFar net analysis book (property ∷ later)) book olds →
    Brings net analysis book property (is_lead net property later) olds news → AllZip (IsSoFar net analysis book later) book news
so_far_more net analysis book property later olds news all brings = go (is_lead net property later) refl brings where
  go : (b : Bool) → is_lead net property later ≡ b → Brings net analysis book property b olds news → AllZip (IsSoFar net analysis book later) book news
  go true e turns = zip_turn (IsSoFar net analysis book (property ∷ later)) (IsSoFar net analysis book later) (IsJudged net analysis property.prefix (most_of net property.prefix book)) (so_far_led net analysis book property later e) all turns
  go false e same = subst (λ (vs : Seq Verdict). AllZip (IsSoFar net analysis book later) book vs) (sym same)
      (zip_weaker (IsSoFar net analysis book (property ∷ later)) (IsSoFar net analysis book later) (so_far_followed net analysis book property later e) book olds all)

-- behind the last property
pub so_far_done : (net : NetValue) (analysis : Analysis) (book : Seq Property) (verdicts : Seq Verdict) → AllZip (IsSoFar net analysis book []) book verdicts → AllZip (IsVerdict net analysis) book verdicts
so_far_done net analysis book verdicts all = zip_weaker (IsSoFar net analysis book []) (IsVerdict net analysis) (λ property v s. go property v s (barred net property) refl) book verdicts all where
  go : (property : Property) (v : Verdict) → IsSoFar net analysis book [] property v → (o : Option Barred) → barred net property ≡ o → IsVerdict net analysis property v
  go property v s None e = s.done (ap is_none e) refl
  go property v s (Some bar) e = subst (λ (w : Verdict). IsVerdict net analysis property w) (sym (s.other bar e)) e

nothing_left : (net : NetValue) (analysis : Analysis) (book : Seq Property) → solved_over net analysis book [] ≡ 0
unfolding solved_over
nothing_left net analysis book = refl

drop_all : {X : Type 0} (xs : Seq X) (i : ℕ) → length xs ≤ i → drop i xs ≡ []
drop_all [] zero h = refl
drop_all [] (suc i) h = refl
drop_all (x ∷ xs) zero h = absurd (omega arith)
drop_all (x ∷ xs) (suc i) h = drop_all xs i (omega arith)

-- what is left, one property shorter
left_on : {X : Type 0} (xs : Seq X) (i : ℕ) (d : X) → i < length xs → drop i xs ≡ get_or xs i d ∷ drop (i + 1) xs
left_on xs i d h = rw add-one (drop-cons xs i d h)

-- the walk with one property more
pub progress_more : (net : NetValue) (analysis : Analysis) (book : Seq Property) (i : ℕ) (d : Property) (later : Seq Property) (olds news : Seq Verdict) → i < length book → later ≡ drop (i + 1) book →
    AllZip (IsSoFar net analysis book (drop i book)) book olds → Brings net analysis book (get_or book i d) (is_lead net (get_or book i d) later) olds news → AllZip (IsSoFar net analysis book (drop (i + 1) book)) book news
progress_more net analysis book i d later olds news h is all brings =
    let e : drop i book ≡ get_or book i d ∷ later = left_on book i d h ∙ ap (λ (l : Seq Property). get_or book i d ∷ l) (sym is) in
    let w = so_far_more net analysis book (get_or book i d) later olds news (subst (λ (l : Seq Property). AllZip (IsSoFar net analysis book l) book olds) e all) brings in
    subst (λ (l : Seq Property). AllZip (IsSoFar net analysis book l) book news) is w

pub sum_more : (net : NetValue) (analysis : Analysis) (book : Seq Property) (i : ℕ) (d : Property) (later : Seq Property) → i < length book → later ≡ drop (i + 1) book →
    solved_over net analysis book (drop i book) ≡
    (if is_lead net (get_or book i d) later then solved_count (analysis.idle (get_or book i d).prefix) (length net.links) (most_of net (get_or book i d).prefix book) else 0) + solved_over net analysis book (drop (i + 1) book)
unfolding solved_over
sum_more net analysis book i d later h is =
    let e : drop i book ≡ get_or book i d ∷ later = left_on book i d h ∙ ap (λ (l : Seq Property). get_or book i d ∷ l) (sym is) in
    ap (λ (l : Seq Property). solved_over net analysis book l) e
    ∙ sum_lead (λ (p : PrefixValue). solved_count (analysis.idle p) (length net.links) (most_of net p book)) net (get_or book i d) later
    ∙ ap (λ (l : Seq Property). (if is_lead net (get_or book i d) later then solved_count (analysis.idle (get_or book i d).prefix) (length net.links) (most_of net (get_or book i d).prefix book) else 0) + solved_over net analysis book l) is

-- the rest of a slice
pub take_rest : {X : Type 0} (xs : Seq X) (k : ℕ) → take (length xs - k) (drop k xs) ≡ drop k xs
take_rest xs k = take_all (drop k xs) (length xs - k) (let l = length-drop k xs in omega arith)

-- what holds before each property
pub record IsProgress (net : NetValue) (analysis : Analysis) (book : Seq Property) (i solved : ℕ) (now : Seq Verdict) : Type 0 where
  pub verdicts : AllZip (IsSoFar net analysis book (drop i book)) book now
  pub sum : solved + solved_over net analysis book (drop i book) ≡ solved_of net analysis book
  pub small : solved ≤ i * 2 ^ 32

pub progress_starts : (net : NetValue) (analysis : Analysis) (book : Seq Property) (verdicts : Seq Verdict) → verdicts ≡ map (opening net) book → IsProgress net analysis book 0 0 verdicts
unfolding solved_of
progress_starts net analysis book verdicts is = record {
  verdicts = subst (λ (vs : Seq Verdict). AllZip (IsSoFar net analysis book book) book vs) (sym is) (so_far_starts net analysis book);
  sum = omega arith;
  small = omega arith;
}

pub progress_on : (net : NetValue) (analysis : Analysis) (links : ℕ) (book : Seq Property) (i n solved : ℕ) (property : Property) (olds news : Seq Verdict) → links ≡ length net.links → i < length book →
    IsProgress net analysis book i solved olds → property ≡ get_or book i property →
    Brings net analysis book property (is_lead net property (take (length book - (i + 1)) (drop (i + 1) book))) olds news →
    n ≡ (if is_lead net property (take (length book - (i + 1)) (drop (i + 1) book)) then solved_count (analysis.idle property.prefix) links (most_of net property.prefix book) else 0) → n < 2 ^ 32 →
    IsProgress net analysis book (i + 1) (solved + n) news
progress_on net analysis links book i n solved property olds news same h p item brings many few =
    let is = take_rest book (i + 1) in
    let there = subst (λ (x : Property). Brings net analysis book x (is_lead net x (take (length book - (i + 1)) (drop (i + 1) book))) olds news) item brings in
    let s = sum_more net analysis book i property (take (length book - (i + 1)) (drop (i + 1) book)) h is in
    let m : n ≡ (if is_lead net (get_or book i property) (take (length book - (i + 1)) (drop (i + 1) book)) then solved_count (analysis.idle (get_or book i property).prefix) (length net.links) (most_of net (get_or book i property).prefix book) else 0) =
    many ∙ ap (λ (k : ℕ). if is_lead net property (take (length book - (i + 1)) (drop (i + 1) book)) then solved_count (analysis.idle property.prefix) k (most_of net property.prefix book) else 0) same
    ∙ ap (λ (x : Property). if is_lead net x (take (length book - (i + 1)) (drop (i + 1) book)) then solved_count (analysis.idle x.prefix) (length net.links) (most_of net x.prefix book) else 0) item in
    let e = p.sum in
    let b = p.small in
    record {
      verdicts = progress_more net analysis book i property (take (length book - (i + 1)) (drop (i + 1) book)) olds news h is p.verdicts there;
      sum = omega arith;
      small = omega arith;
    }

pub record IsAll (net : NetValue) (analysis : Analysis) (book : Seq Property) (solved : ℕ) (now : Seq Verdict) : Type 0 where
  pub verdicts : AllZip (IsVerdict net analysis) book now
  pub number : solved ≡ solved_of net analysis book

pub progress_done : (net : NetValue) (analysis : Analysis) (book : Seq Property) (i n : ℕ) (verdicts : Seq Verdict) → length book ≤ i → IsProgress net analysis book i n verdicts → IsAll net analysis book n verdicts
progress_done net analysis book i n verdicts all p =
    let e : drop i book ≡ [] = drop_all book i all in
    let s = p.sum in
    let z = nothing_left net analysis book in
    let f = ap (λ (l : Seq Property). solved_over net analysis book l) e in
    record {
      verdicts = so_far_done net analysis book verdicts (subst (λ (l : Seq Property). AllZip (IsSoFar net analysis book l) book verdicts) e p.verdicts);
      number = omega arith;
    }

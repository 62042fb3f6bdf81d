-- The set behind a set: the last link goes up, else an earlier one goes up and the later ones follow it.
use Rattle.std.proofs.Common.{ℕ, zero, suc, ◌≡◌, ◌<◌, ◌≤◌, ◌+◌, ◌-◌, inl, inr, Some, None, List, [], ◌∷◌, length, slice_get, arith, refl, ap, sym, ◌∙◌}
use Rattle.std.proofs.lemmas.Option.{slice_get_past}
use Rattle.std.proofs.lemmas.Bool.{cases_lt}
use Rattle.failure_sets.specs.SetOrder.{IsPermitted}
use Rattle.failure_sets.specs.SetList.{sets_of, failure_sets, next_of}
use Rattle.failure_sets.specs.Places.{choose, how_many, place_among}
use Rattle.failure_sets.specs.Steps.{next_in_size, first_of_size}
use Rattle.failure_sets.proofs.CountLemmas.{choose-mono, choose-pascal, choose-one, choose-none, how_many-mono, how_many-next}
use Rattle.failure_sets.proofs.ListLemmas.{IsWithin, entry, place_below, length-sets_of, get_front, get_back}
use Rattle.failure_sets.proofs.PermittedLemmas.{within}
use Rattle.failure_sets.proofs.AllLemmas.{smaller, ranked, length-failure_sets, found_in_size, found_in_all}
use Rattle.failure_sets.proofs.LawLemmas.{next_by_rank}

pub choose_same : (m n size : ℕ) → m ≡ n → choose m size ≡ choose n size
choose_same m n size e = ap (λ (k : ℕ). choose k size) e

-- places of one, two and three numbers
pub place_one : (links least a : ℕ) → least ≤ a → a < links → place_among links least (a ∷ []) + least ≡ a
unfolding place_among
place_one links least a low high =
    let m = choose-one (links - least) in
    let n = choose-one (links - a) in
    omega arith

pub place_two : (links least a b : ℕ) → place_among links least (a ∷ b ∷ []) ≡ choose (links - least) 2 - choose (links - a) 2 + place_among links (suc a) (b ∷ [])
unfolding place_among
place_two links least a b = refl

pub place_three : (links least a b c : ℕ) → place_among links least (a ∷ b ∷ c ∷ []) ≡ choose (links - least) 3 - choose (links - a) 3 + place_among links (suc a) (b ∷ c ∷ [])
unfolding place_among
place_three links least a b c = refl

two_of_two : choose 2 2 ≡ 1
unfolding choose
two_of_two = refl

three_of_three : choose 3 3 ≡ 1
unfolding choose
three_of_three = refl

-- two numbers that go up
pair_up : (links least a b : ℕ) → a < b → b + 1 < links → place_among links least (a ∷ (b + 1) ∷ []) ≡ place_among links least (a ∷ b ∷ []) + 1
pair_up links least a b less high =
    let p = place_two links least a b in
    let q = place_two links least a (b + 1) in
    let r = place_one links (suc a) b less (omega arith) in
    let s = place_one links (suc a) (b + 1) (omega arith) high in
    omega arith

pair_over : (links least a b : ℕ) → least ≤ a → a < b → b + 1 ≡ links → a + 2 < links → place_among links least ((a + 1) ∷ (a + 2) ∷ []) ≡ place_among links least (a ∷ b ∷ []) + 1
pair_over links least a b low less last room =
    let p = place_two links least a b in
    let q = place_two links least (a + 1) (a + 2) in
    let r = place_one links (suc a) b less (omega arith) in
    let s = place_one links (suc (a + 1)) (a + 2) (omega arith) room in
    let c = choose-pascal (links - (a + 1)) (links - a) 1 (omega arith) in
    let d = choose-one (links - (a + 1)) in
    let m = choose-mono (links - a) (links - least) 2 (omega arith) in
    omega arith

pair_last : (links least a b : ℕ) → least ≤ a → a < b → b + 1 ≡ links → links ≤ a + 2 → choose (links - least) 2 ≡ place_among links least (a ∷ b ∷ []) + 1
pair_last links least a b low less last end =
    let p = place_two links least a b in
    let r = place_one links (suc a) b less (omega arith) in
    let c = choose_same (links - a) 2 2 (omega arith) in
    let d = two_of_two in
    let m = choose-mono (links - a) (links - least) 2 (omega arith) in
    omega arith

-- three numbers that go up
triple_up : (links a b c : ℕ) → b < c → c + 1 < links → place_among links 0 (a ∷ b ∷ (c + 1) ∷ []) ≡ place_among links 0 (a ∷ b ∷ c ∷ []) + 1
triple_up links a b c less high =
    let p = place_three links 0 a b c in
    let q = place_three links 0 a b (c + 1) in
    let r = pair_up links (suc a) b c less high in
    omega arith

triple_mid : (links a b c : ℕ) → a < b → b < c → c + 1 ≡ links → b + 2 < links → place_among links 0 (a ∷ (b + 1) ∷ (b + 2) ∷ []) ≡ place_among links 0 (a ∷ b ∷ c ∷ []) + 1
triple_mid links a b c low less last room =
    let p = place_three links 0 a b c in
    let q = place_three links 0 a (b + 1) (b + 2) in
    let r = pair_over links (suc a) b c low less last room in
    omega arith

first_pair : (links a b : ℕ) → b ≡ suc a → b < links → place_among links a (a ∷ b ∷ []) ≡ 0
first_pair links a b e high =
    let p = place_two links a a b in
    let r = place_one links (suc a) b (omega arith) high in
    omega arith

triple_over : (links a b c : ℕ) → a < b → b < c → c + 1 ≡ links → links ≤ b + 2 → a + 3 < links →
    place_among links 0 ((a + 1) ∷ (a + 2) ∷ (a + 3) ∷ []) ≡ place_among links 0 (a ∷ b ∷ c ∷ []) + 1
triple_over links a b c low less last end room =
    let p = place_three links 0 a b c in
    let q = place_three links 0 (a + 1) (a + 2) (a + 3) in
    let r = pair_last links (suc a) b c low less last end in
    let f = first_pair links (a + 2) (a + 3) (omega arith) room in
    let g : place_among links (suc (a + 1)) ((a + 2) ∷ (a + 3) ∷ []) ≡ place_among links (a + 2) ((a + 2) ∷ (a + 3) ∷ []) = ap (λ (n : ℕ). place_among links n ((a + 2) ∷ (a + 3) ∷ [])) (let e : suc (a + 1) ≡ a + 2 = omega arith in e) in
    let s = choose-pascal (links - suc a) (links - a) 2 (omega arith) in
    let t = choose_same (links - suc a) (links - (a + 1)) 3 (omega arith) in
    let m = choose-mono (links - a) (links - 0) 3 (omega arith) in
    omega arith

triple_last : (links a b c : ℕ) → a < b → b < c → c + 1 ≡ links → links ≤ a + 3 → choose links 3 ≤ place_among links 0 (a ∷ b ∷ c ∷ []) + 1
triple_last links a b c low less last end =
    let p = place_three links 0 a b c in
    let r = pair_last links (suc a) b c low less last (omega arith) in
    let s = choose_same (links - suc a) 2 2 (omega arith) in
    let t = choose_same (links - a) 3 3 (omega arith) in
    let u = choose_same (links - 0) links 3 (omega arith) in
    let v = two_of_two in
    let w = three_of_three in
    let m = choose-mono (links - a) (links - 0) 3 (omega arith) in
    omega arith

-- the set behind by its place
some_behind : (links : ℕ) (set next : List ℕ) → length next ≡ length set → IsWithin 0 links next → place_among links 0 next ≡ place_among links 0 set + 1 → next_in_size links set ≡ Some next
unfolding next_in_size
some_behind links set next l w e =
    ap (λ (n : ℕ). slice_get (sets_of (length set) 0 links) n) (sym e) ∙ found_in_size links (length set) next l w

none_behind : (links : ℕ) (set : List ℕ) → choose links (length set) ≤ place_among links 0 set + 1 → next_in_size links set ≡ None
unfolding next_in_size
none_behind links set le =
    slice_get_past (sets_of (length set) 0 links) (place_among links 0 set + 1) (let l = length-sets_of (length set) 0 links in omega arith)

-- the steps
pub single_goes_up : (links a : ℕ) → a + 1 < links → next_in_size links (a ∷ []) ≡ Some ((a + 1) ∷ [])
single_goes_up links a room =
    let p = place_one links 0 a (omega arith) (omega arith) in
    let q = place_one links 0 (a + 1) (omega arith) room in
    some_behind links (a ∷ []) ((a + 1) ∷ []) refl (omega arith, room, tt) (omega arith)

pub single_ends : (links a : ℕ) → a < links → links ≤ a + 1 → next_in_size links (a ∷ []) ≡ None
single_ends links a high end =
    let p = place_one links 0 a (omega arith) high in
    let o = choose-one links in
    none_behind links (a ∷ []) (omega arith)

pub pair_goes_up : (links a b : ℕ) → a < b → b + 1 < links → next_in_size links (a ∷ b ∷ []) ≡ Some (a ∷ (b + 1) ∷ [])
pair_goes_up links a b less room =
    some_behind links (a ∷ b ∷ []) (a ∷ (b + 1) ∷ []) refl (omega arith, omega arith, (omega arith, room, tt)) (pair_up links 0 a b less room)

pub pair_goes_over : (links a b : ℕ) → a < b → b < links → links ≤ b + 1 → a + 2 < links → next_in_size links (a ∷ b ∷ []) ≡ Some ((a + 1) ∷ (a + 2) ∷ [])
pair_goes_over links a b less high end room =
    some_behind links (a ∷ b ∷ []) ((a + 1) ∷ (a + 2) ∷ []) refl (omega arith, omega arith, (omega arith, room, tt)) (pair_over links 0 a b (omega arith) less (omega arith) room)

pub pair_ends : (links a b : ℕ) → a < b → b < links → links ≤ b + 1 → links ≤ a + 2 → next_in_size links (a ∷ b ∷ []) ≡ None
pair_ends links a b less high end over =
    let p = pair_last links 0 a b (omega arith) less (omega arith) over in
    let u = choose_same (links - 0) links 2 (omega arith) in
    none_behind links (a ∷ b ∷ []) (omega arith)

pub triple_goes_up : (links a b c : ℕ) → a < b → b < c → c + 1 < links → next_in_size links (a ∷ b ∷ c ∷ []) ≡ Some (a ∷ b ∷ (c + 1) ∷ [])
triple_goes_up links a b c low less room =
    some_behind links (a ∷ b ∷ c ∷ []) (a ∷ b ∷ (c + 1) ∷ []) refl (omega arith, omega arith, (low, omega arith, (omega arith, room, tt))) (triple_up links a b c less room)

pub triple_goes_over : (links a b c : ℕ) → a < b → b < c → c < links → links ≤ c + 1 → b + 2 < links → next_in_size links (a ∷ b ∷ c ∷ []) ≡ Some (a ∷ (b + 1) ∷ (b + 2) ∷ [])
triple_goes_over links a b c low less high end room =
    some_behind links (a ∷ b ∷ c ∷ []) (a ∷ (b + 1) ∷ (b + 2) ∷ []) refl (omega arith, omega arith, (omega arith, omega arith, (omega arith, room, tt))) (triple_mid links a b c low less (omega arith) room)

pub triple_starts_over : (links a b c : ℕ) → a < b → b < c → c < links → links ≤ c + 1 → links ≤ b + 2 → a + 3 < links → next_in_size links (a ∷ b ∷ c ∷ []) ≡ Some ((a + 1) ∷ (a + 2) ∷ (a + 3) ∷ [])
triple_starts_over links a b c low less high end over room =
    some_behind links (a ∷ b ∷ c ∷ []) ((a + 1) ∷ (a + 2) ∷ (a + 3) ∷ []) refl (omega arith, omega arith, (omega arith, omega arith, (omega arith, room, tt))) (triple_over links a b c low less (omega arith) over room)

pub triple_ends : (links a b c : ℕ) → a < b → b < c → c < links → links ≤ c + 1 → links ≤ b + 2 → links ≤ a + 3 → next_in_size links (a ∷ b ∷ c ∷ []) ≡ None
triple_ends links a b c low less high end over last =
    none_behind links (a ∷ b ∷ c ∷ []) (triple_last links a b c low less (omega arith) last)

pub nothing_ends : (links : ℕ) → next_in_size links [] ≡ None
nothing_ends links = let c = choose-none links in none_behind links [] (omega arith)

-- the first sets of a size
first_found : (links size : ℕ) (set : List ℕ) → length set ≡ size → IsWithin 0 links set → place_among links 0 set ≡ 0 → first_of_size links size ≡ Some set
unfolding first_of_size
first_found links size set l w e = ap (λ (n : ℕ). slice_get (sets_of size 0 links) n) (sym e) ∙ found_in_size links size set l w

no_first : (links size : ℕ) → choose links size ≡ 0 → first_of_size links size ≡ None
unfolding first_of_size
no_first links size none = slice_get_past (sets_of size 0 links) 0 (let l = length-sets_of size 0 links in omega arith)

pub choose-few : (links size : ℕ) → links < size → choose links size ≡ 0
unfolding choose
choose-few links zero few = absurd (omega arith)
choose-few zero (suc size) few = refl
choose-few (suc links) (suc size) few =
    let a = choose-few links size (omega arith) in
    let b = choose-few links (suc size) (omega arith) in
    omega arith

pub choose-enough : (links size : ℕ) → size ≤ links → 1 ≤ choose links size
unfolding choose
choose-enough links zero enough = omega arith
choose-enough zero (suc size) enough = absurd (omega arith)
choose-enough (suc links) (suc size) enough = let a = choose-enough links size (omega arith) in omega arith

pub first_single : (links size : ℕ) → size ≡ 1 → 1 ≤ links → first_of_size links size ≡ Some (0 ∷ [])
first_single links size e room = rw e (first_found links 1 (0 ∷ []) refl (omega arith, omega arith, tt) (let p = place_one links 0 0 (omega arith) (omega arith) in omega arith))

pub first_two : (links size : ℕ) → size ≡ 2 → 2 ≤ links → first_of_size links size ≡ Some (0 ∷ 1 ∷ [])
first_two links size e room = rw e (first_found links 2 (0 ∷ 1 ∷ []) refl (omega arith, omega arith, (omega arith, omega arith, tt)) (first_pair links 0 1 refl (omega arith)))

pub first_three : (links size : ℕ) → size ≡ 3 → 3 ≤ links → first_of_size links size ≡ Some (0 ∷ 1 ∷ 2 ∷ [])
first_three links size e room = rw e (first_found links 3 (0 ∷ 1 ∷ 2 ∷ []) refl (omega arith, omega arith, (omega arith, omega arith, (omega arith, omega arith, tt)))
    (let p = place_three links 0 0 1 2 in let q = first_pair links 1 2 refl (omega arith) in omega arith))

pub first_missing : (links size : ℕ) → links < size → first_of_size links size ≡ None
first_missing links size few = no_first links size (choose-few links size few)

-- where the larger sets begin
larger_begin : (links few most : ℕ) → few < most → slice_get (failure_sets links most) (how_many links few) ≡ first_of_size links (suc few)
unfolding failure_sets first_of_size
larger_begin links few zero less = absurd (omega arith)
larger_begin links few (suc most) less =
    let a = failure_sets links most in
    let b = sets_of (suc most) 0 links in
    let n = length-failure_sets links most in
    let m = length-sets_of (suc most) 0 links in
    elim (cases_lt few most) [
      | inr last ↦ (
          let e : few ≡ most = omega arith in
          let f : how_many links few ≡ how_many links most = ap (λ (k : ℕ). how_many links k) e in
          get_back a b (how_many links few) 0 (omega arith) ∙ ap (λ (k : ℕ). slice_get (sets_of (suc k) 0 links) 0) (sym e))
      | inl more ↦ elim (cases_lt (how_many links few) (length a)) [
        | inl front ↦ get_front a b (how_many links few) front ∙ larger_begin links few most more
        | inr back ↦ (
            let u = how_many-next links few in
            let v = how_many-mono links (suc few) most (omega arith) in
            let none : choose links (suc few) ≡ 0 = omega arith in
            let small : links < suc few = elim (cases_lt links (suc few)) [ inl l ↦ l | inr g ↦ absurd (let c = choose-enough links (suc few) g in omega arith) ] in
            let z = choose-few links (suc most) (omega arith) in
            let j = how_many links few - length a in
            get_back a b (how_many links few) j (omega arith)
            ∙ slice_get_past b j (omega arith)
            ∙ sym (slice_get_past (sets_of (suc few) 0 links) 0 (let k = length-sets_of (suc few) 0 links in omega arith)))
      ]
    ]

-- the next set is the next of its size, or where there is none the first of the sets with a link more
rank_goes_up : (links : ℕ) (set next : List ℕ) → length next ≡ length set → place_among links 0 next ≡ place_among links 0 set + 1 → ranked links next ≡ ranked links set + 1
unfolding ranked
rank_goes_up links set next l e =
    let s : smaller links (length next) ≡ smaller links (length set) = ap (λ (n : ℕ). smaller links n) l in
    omega arith

past_the_end : {X : Type 0} (xs : List X) (i : ℕ) → slice_get xs i ≡ None → length xs ≤ i
past_the_end [] i e = omega arith
past_the_end (x ∷ xs) zero e = absurd (let f : Some x ≡ None = e in cc)
past_the_end (x ∷ xs) (suc i) e = let h = past_the_end xs i e in omega arith

all_smaller : (links size : ℕ) → smaller links size + choose links size ≡ how_many links size
unfolding smaller how_many choose
all_smaller links zero = refl
all_smaller links (suc size) = refl

rank_at_end : (links most : ℕ) (set : List ℕ) → IsPermitted links most set → next_in_size links set ≡ None → ranked links set + 1 ≡ how_many links (length set)
unfolding ranked next_in_size
rank_at_end links most set p none =
    let w = within links most set p in
    let b = place_below links 0 links (omega arith) set w in
    let e = past_the_end (sets_of (length set) 0 links) (place_among links 0 set + 1) none in
    let l = length-sets_of (length set) 0 links in
    let a = all_smaller links (length set) in
    omega arith

pub next_stays : (links most : ℕ) (set next : List ℕ) → most ≤ 3 → IsPermitted links most set → next_in_size links set ≡ Some next → next_of links most set ≡ Some next
unfolding next_in_size
next_stays links most set next few p is =
    let w = within links most set p in
    let e = entry (length set) 0 links links (omega arith) (place_among links 0 set + 1) next is in
    let r = rank_goes_up links set next e.long e.place in
    next_by_rank links most set few p
    ∙ ap (λ (n : ℕ). slice_get (failure_sets links most) n) (sym r)
    ∙ found_in_all links most next (let l = e.long in let f = p.few in omega arith) e.within

pub next_grows : (links most : ℕ) (set : List ℕ) → most ≤ 3 → IsPermitted links most set → next_in_size links set ≡ None → length set < most → next_of links most set ≡ first_of_size links (length set + 1)
next_grows links most set few p none less =
    let r = rank_at_end links most set p none in
    let e : suc (length set) ≡ length set + 1 = omega arith in
    next_by_rank links most set few p
    ∙ ap (λ (n : ℕ). slice_get (failure_sets links most) n) r
    ∙ larger_begin links (length set) most less
    ∙ ap (λ (n : ℕ). first_of_size links n) e

pub next_ends : (links most : ℕ) (set : List ℕ) → most ≤ 3 → IsPermitted links most set → next_in_size links set ≡ None → most ≤ length set → next_of links most set ≡ None
next_ends links most set few p none full =
    let r = rank_at_end links most set p none in
    let l = length-failure_sets links most in
    let f = p.few in
    let e : how_many links (length set) ≡ how_many links most = ap (λ (n : ℕ). how_many links n) (let g : length set ≡ most = omega arith in g) in
    next_by_rank links most set few p
    ∙ slice_get_past (failure_sets links most) (ranked links set + 1) (omega arith)

pub empty_ends : (links : ℕ) (set : List ℕ) → length set < 1 → next_in_size links set ≡ None
empty_ends links [] h = nothing_ends links
empty_ends links (x ∷ xs) h = absurd (omega arith)

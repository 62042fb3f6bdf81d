-- The verdicts of a book with one case, one property after the other.
use Rattle.std.proofs.Common.{ℕ, zero, suc, ◌≡◌, ◌<◌, ◌≤◌, ◌+◌, List as Seq, [], ◌∷◌, length, get_or, slice_set, add-one, arith, refl, ap, sym, subst, ◌∙◌}
use Rattle.net_types.specs.NetValue.{NetValue}
use Rattle.net_types.specs.PrefixValue.{PrefixValue}
use Rattle.property_book.specs.declared.property.Property.{Property}
use Rattle.property_book.specs.declared.verdict.Verdict.{Verdict}
use Rattle.case_walk.specs.Marks.{AllTurn, none, one}

-- the relation holds of the first `n` properties, and the verdicts behind them are as they were
abbrev pub TurnedUpTo : (Property → Verdict → Verdict → Type 0) → ℕ → Seq Property → Seq Verdict → Seq Verdict → Type 0
TurnedUpTo R zero book olds news = news ≡ olds
TurnedUpTo R (suc n) [] olds news = ⊥
TurnedUpTo R (suc n) (property ∷ book) [] news = ⊥
TurnedUpTo R (suc n) (property ∷ book) (a ∷ olds) [] = ⊥
TurnedUpTo R (suc n) (property ∷ book) (a ∷ olds) (b ∷ news) = R property a b × TurnedUpTo R n book olds news

-- before the first property
pub turned_none : (R : Property → Verdict → Verdict → Type 0) (book : Seq Property) (olds : Seq Verdict) → TurnedUpTo R 0 book olds olds
turned_none R book olds = refl

pub turned_long : (R : Property → Verdict → Verdict → Type 0) (n : ℕ) (book : Seq Property) (olds news : Seq Verdict) → TurnedUpTo R n book olds news → length news ≡ length olds
turned_long R zero book olds news h = ap length h
turned_long R (suc n) [] olds news h = absurd h
turned_long R (suc n) (property ∷ book) [] news h = absurd h
turned_long R (suc n) (property ∷ book) (a ∷ olds) [] h = absurd h
turned_long R (suc n) (property ∷ book) (a ∷ olds) (b ∷ news) h = ap suc (turned_long R n book olds news h.1)

-- one property more
turned_more : (R : Property → Verdict → Verdict → Type 0) (n : ℕ) (book : Seq Property) (olds news : Seq Verdict) (p : Property) (old new : Verdict) → n < length book → n < length olds →
    TurnedUpTo R n book olds news → old ≡ get_or news n old → R (get_or book n p) old new → TurnedUpTo R (suc n) book olds (slice_set news n new)
turned_more R zero [] olds news p old new h k t was r = absurd (omega arith)
turned_more R zero (property ∷ book) [] news p old new h k t was r = absurd (omega arith)
turned_more R zero (property ∷ book) (a ∷ olds) news p old new h k t was r =
    let e : old ≡ a = was ∙ ap (λ (vs : Seq Verdict). get_or vs 0 old) t in
    subst (λ (vs : Seq Verdict). TurnedUpTo R 1 (property ∷ book) (a ∷ olds) (slice_set vs 0 new)) (sym t) (subst (λ (v : Verdict). R property v new) e r, refl)
turned_more R (suc n) [] olds news p old new h k t was r = absurd t
turned_more R (suc n) (property ∷ book) [] news p old new h k t was r = absurd t
turned_more R (suc n) (property ∷ book) (a ∷ olds) [] p old new h k t was r = absurd t
turned_more R (suc n) (property ∷ book) (a ∷ olds) (b ∷ news) p old new h k t was r =
    (t.0, turned_more R n book olds news p old new (omega arith) (omega arith) t.1 was r)

pub turned_step : (R : Property → Verdict → Verdict → Type 0) (n : ℕ) (book : Seq Property) (olds news : Seq Verdict) (p : Property) (old new : Verdict) → n < length book → length book ≡ length olds →
    TurnedUpTo R n book olds news → p ≡ get_or book n p → old ≡ get_or news n old → R p old new → TurnedUpTo R (n + 1) book olds (slice_set news n new)
turned_step R n book olds news p old new h long t item was r =
    let e : suc n ≡ n + 1 = omega arith in
    subst (λ (m : ℕ). TurnedUpTo R m book olds (slice_set news n new)) e
    (turned_more R n book olds news p old new h (omega arith) t was (subst (λ (x : Property). R x old new) item r))

-- behind the last property
pub turned_all : (R : Property → Verdict → Verdict → Type 0) (n : ℕ) (book : Seq Property) (olds news : Seq Verdict) → length book ≤ n → length book ≡ length olds → TurnedUpTo R n book olds news → AllTurn R book olds news
turned_all R zero [] [] news h long t = subst (λ (vs : Seq Verdict). AllTurn R [] [] vs) (sym t) none
turned_all R zero [] (a ∷ olds) news h long t = absurd (omega arith)
turned_all R zero (property ∷ book) olds news h long t = absurd (omega arith)
turned_all R (suc n) [] olds news h long t = absurd t
turned_all R (suc n) (property ∷ book) [] news h long t = absurd t
turned_all R (suc n) (property ∷ book) (a ∷ olds) [] h long t = absurd t
turned_all R (suc n) (property ∷ book) (a ∷ olds) (b ∷ news) h long t = one t.0 (turned_all R n book olds news (omega arith) (omega arith) t.1)

-- what is said of a network and a prefix is said of the same network and prefix
pub moved : (R : NetValue → PrefixValue → Type 0) (a b : NetValue) (p q : PrefixValue) → a ≡ b → p ≡ q → R a p → R b q
moved R a b p q e f r = subst (λ (net : NetValue). R net q) e (subst (λ (prefix : PrefixValue). R a prefix) f r)

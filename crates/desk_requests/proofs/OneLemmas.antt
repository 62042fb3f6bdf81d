-- A conversation asks for one thing.
use Rattle.std.proofs.Common.{◌≡◌, ℕ, List, [], take, drop, Option, None, Some, Result, Ok, Err, ap, sym, subst, refl, ◌∙◌}
use Rattle.std.specs.Prelude.{IfSome, IsNone}
use Rattle.httparse.specs.Grammar.{RequestHead, ReadsRequest}
use Rattle.httparse.proofs.GrammarLemmas.{request_unique}
use Rattle.desk_requests.specs.declared.refusals.HttpRefusal.{HttpRefusal}
use Rattle.desk_requests.specs.declared.requests.Asked.{Asked}
use Rattle.desk_requests.specs.declared.requests.Heard.{Heard}
use Rattle.desk_requests.specs.Head.{framed}
use Rattle.desk_requests.specs.Plans.{Plans, planned, IsHeadOf}
use Rattle.desk_requests.specs.Asks.{Asks, AsksFramed, asked}

plans_one : (bytes : List ℕ) (p q : Result Heard HttpRefusal) → Plans bytes p → Plans bytes q → p ≡ q
plans_one bytes p q (None, x, e) (None, y, f) = e ∙ sym f
plans_one bytes p q (None, x, e) (Some k, y, f) = absurd (x k y)
plans_one bytes p q (Some h, x, e) (None, y, f) = absurd (y h x)
plans_one bytes p q (Some h, x, e) (Some k, y, f) = e ∙ ap (λ h. planned (Some h)) (request_unique bytes h k [] [] x y).0 ∙ sym f

framed_one : (input : List ℕ) (r : Result ℕ HttpRefusal) (a b : Result Asked HttpRefusal) → AsksFramed input r a → AsksFramed input r b → a ≡ b
framed_one input (Err f) a b x y = x ∙ sym y
framed_one input (Ok n) a b x y = x.2 ∙ ap (λ p. asked p (drop n input)) (plans_one (take n input) x.0 y.0 x.1 y.1) ∙ sym y.2

pub asks_one : (input : List ℕ) (a b : Result Asked HttpRefusal) → Asks input a → Asks input b → a ≡ b
asks_one input a b x y = framed_one input (framed input) a b x y

pub asks_refusal : (input : List ℕ) (f : HttpRefusal) → framed input ≡ Err f → (a : Result Asked HttpRefusal) × Asks input a
asks_refusal input f e = (Err f, subst (λ (r : Result ℕ HttpRefusal). AsksFramed input r (Err f)) (sym e) refl)

pub asks_head : (input : List ℕ) (n : ℕ) (o : Option RequestHead) → framed input ≡ Ok n → IsHeadOf (take n input) o → (a : Result Asked HttpRefusal) × Asks input a
asks_head input n o e x =
    (asked (planned o) (drop n input), subst (λ (r : Result ℕ HttpRefusal). AsksFramed input r (asked (planned o) (drop n input))) (sym e) (planned o, (o, x, refl), refl))

-- a head that was looked for
pub head_found : {R : Type 0} (P : R → RequestHead → Type 0) (bytes : List ℕ) (r : Option R) → IfSome r (λ s. (h : RequestHead) × ReadsRequest bytes h [] × P s h)
    → (IsNone r → (h : RequestHead) → ReadsRequest bytes h [] → ⊥) → (o : Option RequestHead) × IsHeadOf bytes o
head_found P bytes (Some s) x y = (Some x.0, x.1)
head_found P bytes None x y = (None, y refl)

-- What was read is what the conversation asks for.
use Rattle.std.proofs.Common.{◌≡◌, ℕ, ◌+◌, ◌-◌, ◌≤◌, List, take, drop, length, length-drop, Option, Result, Ok, Err, ap, sym, subst, refl, ◌∙◌, arith}
use Rattle.std.specs.Prelude.{nat_lt, if◌then◌else◌}
use Rattle.std.proofs.lemmas.Bool.Decides.{nat_tests}
use Rattle.std.proofs.lemmas.List.{drop-take, take-take}
use Rattle.doors.specs.Door.{Told, left_of}
use Rattle.doors.specs.Reading.{IsRead}
use Rattle.doors.specs.declared.reading.Stop.{Stop}
use Rattle.review_rules.specs.declared.requests.Command.{Command}
use Rattle.desk_requests.specs.Head.{framed}
use Rattle.desk_requests.specs.Plans.{Plans}
use Rattle.desk_requests.specs.Bodies.{command_of}
use Rattle.desk_requests.specs.Asks.{asked, commanded, Asks, AsksFramed, Hears, HearsAs}
use Rattle.desk_requests.specs.declared.requests.Asked.{Asked}
use Rattle.desk_requests.specs.declared.requests.Form.{Form}
use Rattle.desk_requests.specs.declared.requests.Heard.{Heard}
use Rattle.desk_requests.specs.declared.refusals.HttpRefusal.{HttpRefusal}
use Rattle.desk_requests.specs.declared.refusals.HttpRefusal.TheVariants.{BadRequest}

not_less : (a b : ℕ) (x y : Result Command HttpRefusal) → b ≤ a → y ≡ (if nat_lt a b then x else y)
not_less a b x y h = grind (arith, nat_tests)

-- the body in what was read is that of the input
body_in : (c bytes : List ℕ) (len size : ℕ) → bytes ≡ take (length bytes) c → length bytes ≤ length c → len + size ≤ length bytes
    → (take size (drop len bytes) ≡ take size (drop len c)) × (size ≤ length (drop len c))
body_in c bytes len size same few enough =
    let m = length bytes - len in
    let sum : length bytes ≡ len + m = omega arith in
    let fits : size ≤ m = omega arith in
    let rest : drop len bytes ≡ take m (drop len c) =
    ap (drop len) (same ∙ ap (λ k. take k c) sum) ∙ drop-take len m c in
    (ap (take size) rest ∙ take-take size m (drop len c) fits, omega (arith, length-drop len c))

pub hears_body : (t : Told) (bytes : List ℕ) (now : Option Told) (form : Form) (len size m : ℕ) (a : Result Command HttpRefusal) → IsRead t bytes now → len + size ≤ length bytes → m ≡ size
    → a ≡ command_of form (take m (drop len bytes)) → a ≡ commanded form size (drop len (left_of t))
hears_body t bytes now form len size m a r enough e given =
    let body = body_in (left_of t) bytes len size r.same r.few enough in
    given ∙ ap (λ k. command_of form (take k (drop len bytes))) e ∙ ap (command_of form) body.0
    ∙ not_less (length (drop len (left_of t))) size (Err BadRequest) (command_of form (take size (drop len (left_of t)))) body.1

-- a refusal of the head
pub hears_refusal : (c : List ℕ) (f : HttpRefusal) → framed c ≡ Err f → Asks c (Err f)
hears_refusal c f e = subst (λ (r : Result ℕ HttpRefusal). AsksFramed c r (Err f)) (sym e) refl

asks_plan : (c : List ℕ) (n : ℕ) (plan : Result Heard HttpRefusal) (a : Result Asked HttpRefusal) → framed c ≡ Ok n → Plans (take n c) plan → a ≡ asked plan (drop n c) → Asks c a
asks_plan c n plan a e plans given = subst (λ (r : Result ℕ HttpRefusal). AsksFramed c r a) (sym e) (plan, plans, given)

-- what a head asks for, with the rest of the input
pub hears_plan : (t : Told) (bytes : List ℕ) (old now : Option Told) (len : ℕ) (plan : Result Heard HttpRefusal) (r : Result (Result Asked HttpRefusal) Stop) → IsRead t bytes old → framed (left_of t) ≡ Ok len → len ≤ length bytes
    → Plans (take len bytes) plan → HearsAs t (asked plan) len r now → Hears t r now
hears_plan t bytes old now len plan (Ok a) r e w plans h =
    let front : take len bytes ≡ take len (left_of t) = ap (take len) r.same ∙ take-take len (length bytes) (left_of t) w in
    (asks_plan (left_of t) len plan a e (subst (λ (xs : List ℕ). Plans xs plan) front plans) h.0, h.1)
hears_plan t bytes old now len plan (Err s) r e w plans h = h

-- What a door tells: conversations, one after the other, and what each call makes of it.
use Rattle.std.specs.Prelude.{◌≡◌, ℕ, ◌<◌, ◌≤◌, List, [], ◌∷◌, ◌++◌, Option, None, Some, Result, Ok, Err, length, take, drop, option_map}

-- a conversation that is begun and not ended: what is left of its input, and what was given to it
pub record Talk : Type 0 where
  pub left : List ℕ
  pub given : List ℕ

-- the port last opened; the conversation that is begun; what was given to those that are ended; the inputs of those to come
pub record Told : Type 0 where
  pub port : Option ℕ
  pub talk : Option Talk
  pub ended : List (List ℕ)
  pub coming : List (List ℕ)

abbrev pub left_in : Option Talk → List ℕ
left_in None = []
left_in (Some a) = a.left

-- what is left of the input: nothing where no conversation is begun
abbrev pub left_of : Told → List ℕ
left_of t = left_in t.talk

abbrev pub skipping : ℕ → Talk → Talk
skipping n a = record { left = drop n a.left; given = a.given }

-- n bytes of the input were taken
abbrev pub past : ℕ → Told → Told
past n t = record { port = t.port; talk = option_map (skipping n) t.talk; ended = t.ended; coming = t.coming }

abbrev pub adding : List ℕ → Talk → Talk
adding xs a = record { left = a.left; given = a.given ++ xs }

-- these bytes were given
abbrev pub giving : List ℕ → Told → Told
giving xs t = record { port = t.port; talk = option_map (adding xs) t.talk; ended = t.ended; coming = t.coming }

abbrev pub closed : Told → Option Talk → Told
closed t None = t
closed t (Some a) = record { port = t.port; talk = None; ended = t.ended ++ (a.given ∷ []); coming = t.coming }

-- the conversation that is begun, if any, was ended
abbrev pub ending : Told → Told
ending t = closed t t.talk

-- the next conversation begins; there is one
abbrev pub Begins : Told → List (List ℕ) → Option Told → Type 0
Begins t [] now = ⊥
Begins t (x ∷ xs) now = now ≡ Some (record { port = t.port; talk = Some (record { left = x; given = [] }); ended = t.ended; coming = xs })

-- `open`
abbrev pub Opens : {E : Type 0} → Told → ℕ → Result (Unit {0}) E → Option Told → Type 0
Opens t port (Ok a) now = now ≡ Some (record { port = Some port; talk = t.talk; ended = t.ended; coming = t.coming })
Opens t port (Err e) now = now ≡ Some t

-- `next`
abbrev pub Nexts : {E : Type 0} → Told → Result (Unit {0}) E → Option Told → Type 0
Nexts t (Ok a) now = Begins (ending t) t.coming now
Nexts t (Err e) now = now ≡ Some t

-- `take` into a room, as it is afterwards: the next bytes, and 0 only at the input's end
abbrev pub Reads : {E : Type 0} → Told → List ℕ → Result ℕ E → Option Told → Type 0
Reads t room (Ok n) now =
    (n ≤ length (left_of t)) × (take n room ≡ take n (left_of t)) × (0 < length room → n ≡ 0 → left_of t ≡ []) × (now ≡ Some (past n t))
Reads t room (Err e) now = now ≡ Some t

-- `give`: the first bytes of the piece; the whole length, and nothing kept, where no conversation is begun
abbrev pub Gives : {E : Type 0} → Told → List ℕ → Result ℕ E → Option Told → Type 0
Gives t piece (Ok k) now = (now ≡ Some (giving (take k piece) t)) × (t.talk ≡ None → k ≡ length piece)
Gives t piece (Err e) now = now ≡ Some t

-- a whole piece was given, or where a call failed the beginning of it that was taken before
abbrev pub GivesAll : {E : Type 0} → Told → List ℕ → Result (Unit {0}) E → Option Told → Type 0
GivesAll t piece (Ok a) now = now ≡ Some (giving piece t)
GivesAll t piece (Err e) now = (k : ℕ) × (k < length piece) × (now ≡ Some (giving (take k piece) t))

-- a take that goes behind what was taken before: some of what is left, all of it only at its end
abbrev pub TakesMore : {E : Type 0} → Told → List ℕ → Result ℕ E → List ℕ → Option Told → Type 0
TakesMore t before (Ok n) bytes now =
    (n ≤ length (left_of t)) × (bytes ≡ before ++ take n (left_of t)) × (n ≡ 0 → left_of t ≡ []) × (now ≡ Some (past n t))
TakesMore t before (Err e) bytes now = (n : ℕ) × (now ≡ Some (past n t))

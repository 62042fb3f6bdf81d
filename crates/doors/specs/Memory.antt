-- The door in memory: its conversations, what each call answers, and the door afterwards.
use Rattle.std.specs.Prelude.{ℕ, ◌-◌, ◌==◌, Bool, false, true, ◌&&◌, ◌||◌, List, [], ◌∷◌, ◌++◌, Option, Some, None, length, map, min, take, drop, get_or, nat_lt, if◌then◌else◌, option_map}
use Rattle.outside.specs.Calls.{CallsValue, fails, begun, with_fault}
use Rattle.doors.specs.Door.{Talk, Told}

-- a conversation to come: its input, and the room in bytes for what is given to it
pub record WaitingValue : Type 0 where
  pub input : List ℕ
  pub room : ℕ

-- a conversation that is begun: what is left of its input, what was given to it, and the room for that
pub record TalkValue : Type 0 where
  pub left : List ℕ
  pub given : List ℕ
  pub room : ℕ

-- the calls; the port last opened; whether the door is open; the conversation that is begun; what was given to those
-- that are ended; and those to come
pub record DoorValue : Type 0 where
  pub calls : CallsValue
  pub port : Option ℕ
  pub is_open : Bool
  pub talk : Option TalkValue
  pub ended : List (List ℕ)
  pub coming : List WaitingValue

-- how many conversations are begun and not ended
abbrev pub count_begun : Option TalkValue → ℕ
count_begun None = 0
count_begun (Some talk) = 1

-- what it tells
abbrev pub told_talk : TalkValue → Talk
told_talk talk = record { left = talk.left; given = talk.given }

abbrev pub told_by : DoorValue → Told
told_by d = record { port = d.port; talk = option_map told_talk d.talk; ended = d.ended; coming = map (λ w. w.input) d.coming }

-- the conversations of these inputs, each with so much room
abbrev pub waiting : ℕ → List ℕ → WaitingValue
waiting room input = record { input = input; room = room }

-- what was given to those that were begun
abbrev pub all_given : Option TalkValue → List (List ℕ) → List (List ℕ)
all_given None ended = ended
all_given (Some talk) ended = ended ++ (talk.given ∷ [])

-- what was given to the conversation of this number, from 0; nothing where it was not begun
abbrev pub given_to : DoorValue → ℕ → List ℕ
given_to d number = get_or (all_given d.talk d.ended) number []

-- after a call that did nothing
abbrev pub after_call : DoorValue → DoorValue
after_call d = record d { calls = begun d.calls }

-- the same where it failed though it is not listed
abbrev pub after_fault : DoorValue → DoorValue
after_fault d = record d { calls = with_fault (begun d.calls) }

-- `open`: a listed call fails
abbrev pub after_open : DoorValue → ℕ → DoorValue
after_open d port =
    if fails d.calls then record d { calls = begun d.calls; is_open = false }
    else record d { calls = begun d.calls; port = Some port; is_open = true }

-- `end`
abbrev pub after_end : DoorValue → DoorValue
after_end d = record d { talk = None; ended = all_given d.talk d.ended }

-- `next`: it fails also where there is no conversation to come
abbrev pub is_last : List WaitingValue → Bool
is_last [] = true
is_last (w ∷ more) = false

abbrev pub next_fails : DoorValue → Bool
next_fails d = fails d.calls || is_last d.coming

abbrev pub beginning : WaitingValue → TalkValue
beginning w = record { left = w.input; given = []; room = w.room }

abbrev pub with_next : DoorValue → List WaitingValue → DoorValue
with_next d [] = after_fault d
with_next d (w ∷ more) = record d { calls = begun d.calls; talk = Some (beginning w); ended = all_given d.talk d.ended; coming = more }

abbrev pub after_next : DoorValue → DoorValue
after_next d = if fails d.calls then after_call d else with_next d d.coming

-- `take`: how many bytes come into so much room, or none where the call fails
abbrev pub count_taken : ℕ → Option TalkValue → ℕ
count_taken room None = 0
count_taken room (Some talk) = min room (length talk.left)

abbrev pub taken : DoorValue → ℕ → Option ℕ
taken d room = if fails d.calls then None else Some (count_taken room d.talk)

abbrev pub without : ℕ → TalkValue → TalkValue
without n talk = record talk { left = drop n talk.left }

abbrev pub after_take : DoorValue → ℕ → DoorValue
after_take d room =
    if fails d.calls then after_call d
    else record d { calls = begun d.calls; talk = option_map (without (count_taken room d.talk)) d.talk }

-- the room afterwards: those bytes at its front
abbrev pub put_front : List ℕ → Option TalkValue → List ℕ
put_front room None = room
put_front room (Some talk) = let n = min (length room) (length talk.left) in take n talk.left ++ drop n room

abbrev pub room_after : DoorValue → List ℕ → List ℕ
room_after d room = if fails d.calls then room else put_front room d.talk

-- `give`: a piece has bytes, and there is no room for any
abbrev pub is_full : TalkValue → List ℕ → Bool
is_full talk piece = nat_lt 0 (length piece) && talk.room - length talk.given == 0

-- how many bytes of a piece are taken, or none where it finds no room
abbrev pub fitting : TalkValue → List ℕ → Option ℕ
fitting talk piece = if is_full talk piece then None else Some (min (length piece) (talk.room - length talk.given))

abbrev pub fitting_in : Option TalkValue → List ℕ → Option ℕ
fitting_in None piece = Some (length piece)
fitting_in (Some talk) piece = fitting talk piece

abbrev pub given_count : DoorValue → List ℕ → Option ℕ
given_count d piece = if fails d.calls then None else fitting_in d.talk piece

abbrev pub with_piece : TalkValue → List ℕ → TalkValue
with_piece talk piece = record talk { given = talk.given ++ take (min (length piece) (talk.room - length talk.given)) piece }

abbrev pub after_piece : TalkValue → List ℕ → TalkValue
after_piece talk piece = if is_full talk piece then talk else with_piece talk piece

abbrev pub with_given : DoorValue → Option TalkValue → List ℕ → DoorValue
with_given d None piece = after_call d
with_given d (Some talk) piece =
    if is_full talk piece then after_fault d
    else record d { calls = begun d.calls; talk = Some (with_piece talk piece) }

abbrev pub after_give : DoorValue → List ℕ → DoorValue
after_give d piece = if fails d.calls then after_call d else with_given d d.talk piece

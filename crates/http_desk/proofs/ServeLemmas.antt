-- From what was heard to what was served.
use Rattle.std.proofs.Common.{◌≡◌, ℕ, inl, inr, List, [], take, Option, Some, Result, ap, sym, subst, refl, ◌∙◌}
use Rattle.doors.specs.Door.{Talk, Told, left_of, left_in, past, giving, ending}
use Rattle.doors.proofs.GivingLemmas.{giving_nothing}
use Rattle.review_rules.specs.State.{State}
use Rattle.review_rules.specs.Judging.{Judging}
use Rattle.desk_requests.specs.Asks.{Asks}
use Rattle.desk_requests.specs.declared.refusals.HttpRefusal.{HttpRefusal}
use Rattle.desk_requests.specs.declared.requests.Asked.{Asked}
use Rattle.http_desk.specs.declared.ruling.Ruling.{Ruling}
use Rattle.http_desk.specs.declared.ruling.Ruling.TheVariants.{Done, Broken, Faulty, StoreFault, NoMemory}
use Rattle.http_desk.specs.declared.serving.Served.{Served}
use Rattle.http_desk.specs.declared.serving.Served.TheVariants.{Replied, DoorFault}
use Rattle.http_desk.specs.Ruled.{as_answer, RuledAs, RepliesWith}
use Rattle.http_desk.specs.Serves.{IsReply, defined, store_fault, no_memory, no_store, no_room, text_of, Converses, Serves, after}

-- a ruling on what was asked is a reply
pub is_reply : (j : Judging) (s : State) (input : List ℕ) (a : Result Asked HttpRefusal) (before now : ℕ) (ruling : Ruling) (next : State)
    → Asks input a → RuledAs j s a before now ruling next → IsReply j s input before now (as_answer ruling next)
is_reply j s input a before now (Done media body) next asks r = defined (a, asks, r)
is_reply j s input a before now (Broken rule body) next asks r = defined (a, asks, r)
is_reply j s input a before now (Faulty f) next asks r = defined (a, asks, r)
is_reply j s input a before now StoreFault next asks r = store_fault (a, asks, r.0) r.1 (ap no_store r.2)
is_reply j s input a before now NoMemory next asks r = no_memory (ap no_room r)

-- a ruling that is a reply, and was replied
pub converses : (j : Judging) (s : State) (t : Told) (before now : ℕ) (ruling : Ruling) (served : Served) (next : State) (n : ℕ) (told : Option Told)
    → IsReply j s (left_of t) before now (as_answer ruling next) → RepliesWith (past n t) ruling served told → Converses j s t before now served next told
converses j s t before now ruling (Replied code) next n told r w = (as_answer ruling next, r, sym w.0, refl, (n, w.1))
converses j s t before now ruling DoorFault next n told r w = inr (as_answer ruling next, r, refl, (n, w.0, w.1, w.2))

-- the end of a conversation to which these bytes were given
ended_at : (t : Told) (o : Option Talk) (input bytes : List ℕ) (n : ℕ) → o ≡ Some (record { left = input; given = [] })
    → ending (giving bytes (past n (record { port = t.port; talk = o; ended = t.ended; coming = t.coming }))) ≡ after t bytes
ended_at t o input bytes n e =
    ap (λ v. ending (giving bytes (past n (record { port = t.port; talk = v; ended = t.ended; coming = t.coming })))) e

ended : (t : Told) (input bytes : List ℕ) (n : ℕ) → t.talk ≡ Some (record { left = input; given = [] }) → ending (giving bytes (past n t)) ≡ after t bytes
ended t input bytes n e = ended_at t t.talk input bytes n e

pub serves : (j : Judging) (s : State) (t : Told) (input : List ℕ) (before now : ℕ) (served : Served) (next : State) (told after_end : Option Told)
    → t.talk ≡ Some (record { left = input; given = [] }) → Converses j s t before now served next told → ((u : Told) → told ≡ Some u → after_end ≡ Some (ending u))
    → Serves j s t input before now served next after_end
serves j s t input before now (Replied code) next told after_end e x h =
    let same : left_of t ≡ input = ap left_in e in (
      text_of x.0,
      (x.0, subst (λ (c : List ℕ). IsReply j s c before now x.0) same x.1, x.2, x.3, refl),
      h _ x.4.1 ∙ ap Some (ended t input (text_of x.0) x.4.0 e),
    )
serves j s t input before now DoorFault next told after_end e (inl x) h =
    ([], inl (x.0, refl), h _ (x.1.1 ∙ ap Some (sym (giving_nothing (past x.1.0 t)))) ∙ ap Some (ended t input [] x.1.0 e))
serves j s t input before now DoorFault next told after_end e (inr x) h =
    let same : left_of t ≡ input = ap left_in e in (
      take x.3.1 (text_of x.0),
      inr (x.0, subst (λ (c : List ℕ). IsReply j s c before now x.0) same x.1, x.2, (x.3.1, x.3.2, refl)),
      h _ x.3.3 ∙ ap Some (ended t input (take x.3.1 (text_of x.0)) x.3.0 e),
    )

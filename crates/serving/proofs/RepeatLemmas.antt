-- A conversation that asks again leaves the state as it is.
use Rattle.std.proofs.Common.{◌≡◌, ℕ, ◌<◌, ◌⊎◌, inl, inr, List, [], ◌∷◌, ◌++◌, take, length, length-append, codes, decimal, Option, None, Some, Result, Ok, Err, ap, sym, subst, refl, ◌∙◌, arith}
use Rattle.std.proofs.lemmas.List.{map-append, take_all}
use Rattle.desk_tables.specs.Valid.{IsValid}
use Rattle.desk_tables.specs.Tables.{user_of, review_of, certificate_of}
use Rattle.desk_tables.specs.declared.rows.User.{User}
use Rattle.desk_tables.specs.declared.rows.ReviewRow.{ReviewRow}
use Rattle.desk_tables.specs.declared.rows.CertificateRow.{CertificateRow}
use Rattle.review_rules.specs.State.{State}
use Rattle.review_rules.specs.Rules.{Outcome, Repeated, Refused, Accepted}
use Rattle.review_rules.specs.Judging.{Judging, IsJudging, answer_of, judged}
use Rattle.review_rules.specs.Laws.{IsAccepted, next, tables_after}
use Rattle.review_rules.specs.declared.requests.Request.{Request}
use Rattle.review_rules.proofs.ValidLemmas.{tables_stay_valid}
use Rattle.review_rules.proofs.RepeatLemmas.{answer_names}
use Rattle.review_rules.proofs.KeptLemmas.{kept_replies_stay, accepted_are_kept}
use Rattle.desk_requests.specs.Asks.{Asks}
use Rattle.desk_requests.specs.declared.refusals.HttpRefusal.{HttpRefusal}
use Rattle.desk_requests.specs.declared.requests.Asked.{Asked}
use Rattle.desk_requests.specs.declared.requests.Asked.TheVariants.{Query as AskedQuery, Command as AskedCommand}
use Rattle.desk_requests.specs.declared.requests.Query.{Query}
use Rattle.desk_requests.specs.declared.requests.Query.TheVariants.{Head, Review, Report}
use Rattle.desk_requests.proofs.OneLemmas.{asks_one}
use Rattle.desk_replies.specs.declared.giving.Media.{Media}
use Rattle.desk_replies.specs.declared.giving.Media.TheVariants.{Json}
use Rattle.desk_replies.specs.Replies.{reply_text, status_line, content, phrase}
use Rattle.http_desk.specs.declared.serving.Served.{Served}
use Rattle.http_desk.specs.declared.serving.Served.TheVariants.{Replied, DoorFault}
use Rattle.http_desk.specs.Answer.{Answered, Answer, answered, performed, shown_to, about_review, about_report, report_of, told, AnswersNew, AsksNew}
use Rattle.http_desk.specs.Serves.{IsServed, IsReply, defined, store_fault, no_memory, no_room, text_of}
use Rattle.http_desk.proofs.OneLemmas.{one_answer, acts_once}
use Rattle.serving.specs.Turns.{Moment, IsTurn, AreTurns, none, behind}
use Rattle.serving.specs.Repeats.{Fate, Done, Lost, IsDone, Conversation, Leaves, IsStep, AreSteps, HaveAccepted, WasAccepted, AsksAgain, LeaveOutRepeats, Gives, inputs_of, SpeaksOfWant, AreGiven}
use Rattle.serving.proofs.SoundLemmas.{asks_sound}

-- ---- the state after an answer

report_stays : (s : State) (o : Option CertificateRow) → (report_of s o).next ≡ s
report_stays s None = refl
report_stays s (Some c) = refl

review_stays : (s : State) (o : Option ReviewRow) → (about_review s o).next ≡ s
review_stays s None = refl
review_stays s (Some r) = refl

about_stays : (s : State) (id : ℕ) (o : Option ReviewRow) → (about_report s id o).next ≡ s
about_stays s id None = refl
about_stays s id (Some r) = report_stays s (certificate_of s.tables id)

shown_stays : (s : State) (o : Option User) (query : Query) → (shown_to s o query).next ≡ s
shown_stays s None query = refl
shown_stays s (Some u) Head = refl
shown_stays s (Some u) (Review id) = review_stays s (review_of s.tables id)
shown_stays s (Some u) (Report id) = about_stays s id (review_of s.tables id)

performed_next : (s : State) (r : Request) (o : Outcome) → (performed s r.command o).next ≡ record s { tables = tables_after s.tables o }
performed_next s r (Repeated reply) = refl
performed_next s r (Refused rule) = refl
performed_next s r (Accepted t reply) = refl

-- the state is as before, or that behind the request that was asked for
abbrev Moved : Judging → State → List ℕ → State → Type 0
Moved j s input now = (now ≡ s) ⊎ ((r : Request) × Asks input (Ok (AskedCommand r)) × (now ≡ next j s r))

answered_moved : (j : Judging) (s : State) (input : List ℕ) (now : State) (a : Result Asked HttpRefusal) → Asks input a → now ≡ (answered j s a).next → Moved j s input now
answered_moved j s input now (Err refusal) asks e = inl e
answered_moved j s input now (Ok (AskedQuery token query)) asks e = inl (e ∙ shown_stays s (user_of s.users token) query)
answered_moved j s input now (Ok (AskedCommand r)) asks e = inr (r, asks, e ∙ performed_next s r (judged j s r))

moved : (j : Judging) (s : State) (input : List ℕ) (fate : Fate) (now : State) → Leaves j s input fate now → Moved j s input now
moved j s input Done now x = answered_moved j s input now x.1.0 x.1.1 (x.2 ∙ ap (λ (a : Answered). a.next) (sym x.1.2))
moved j s input Lost now e = inl e

-- a command that is asked for has one answer
answer_next : (j : Judging) (s : State) (input : List ℕ) (r : Request) (answer : Answered) → Asks input (Ok (AskedCommand r)) → Answer j s input answer → answer.next ≡ next j s r
answer_next j s input r answer asks x =
    ap (λ (n : Answered). n.next) (one_answer j s input answer (performed s r.command (judged j s r)) x (Ok (AskedCommand r), asks, refl))
    ∙ performed_next s r (judged j s r)

done_next : (j : Judging) (s : State) (input : List ℕ) (fate : Fate) (r : Request) (now : State) → IsDone fate → Asks input (Ok (AskedCommand r)) → Leaves j s input fate now → now ≡ next j s r
done_next j s input Done r now done asks x = x.2 ∙ answer_next j s input r x.0 asks x.1
done_next j s input Lost r now done asks e = absurd done

-- ---- a step leaves one state

one_end : (j : Judging) (s : State) (input : List ℕ) (fate : Fate) (a b : State) → Leaves j s input fate a → Leaves j s input fate b → a ≡ b
one_end j s input Done a b x y = x.2 ∙ ap (λ (n : Answered). n.next) (one_answer j s input x.0 y.0 x.1 y.1) ∙ sym y.2
one_end j s input Lost a b x y = x ∙ sym y

one_step : (j : Judging) (c : Conversation) (s s' a b : State) → s ≡ s' → IsStep j s c a → IsStep j s' c b → a ≡ b
one_step j c s s' a b e x y = one_end j s' c.input c.fate a b (subst (λ (z : State). IsStep j z c a) e x) y

step_more : (j : Judging) (cs : List Conversation) (c : Conversation) (s m now : State) → AreSteps j s cs m → IsStep j m c now → AreSteps j s (cs ++ (c ∷ [])) now
step_more j [] c s m now e step = (now, subst (λ (z : State). IsStep j z c now) e step, refl)
step_more j (d ∷ cs) c s m now (n, first, more) step = (n, first, step_more j cs c n m now more step)

-- ---- a request that was accepted before is kept

kept_stays : (j : Judging) (s : State) (r : Request) (reply : List ℕ) → judged j s r ≡ Repeated reply → next j s r ≡ s
kept_stays j s r reply kept = ap (λ (o : Outcome). record s { tables = tables_after s.tables o }) kept

valid_after : (j : Judging) (s now : State) (input : List ℕ) → IsJudging j → IsValid s.tables → Moved j s input now → IsValid now.tables
valid_after j s now input well valid (inl same) = subst (λ (z : State). IsValid z.tables) (sym same) valid
valid_after j s now input well valid (inr (r, asks, to)) =
    subst (λ (z : State). IsValid z.tables) (sym to) (tables_stay_valid s r (answer_of j s r) valid (asks_sound input r asks) (answer_names j s r well))

kept_after : (j : Judging) (s now : State) (input : List ℕ) (r : Request) (reply : List ℕ) → IsJudging j → IsValid s.tables → Moved j s input now → judged j s r ≡ Repeated reply → judged j now r ≡ Repeated reply
kept_after j s now input r reply well valid (inl same) kept = subst (λ (z : State). judged j z r ≡ Repeated reply) (sym same) kept
kept_after j s now input r reply well valid (inr (q, asks, to)) kept =
    subst (λ (z : State). judged j z r ≡ Repeated reply) (sym to) (kept_replies_stay j s r reply (q ∷ []) well valid (asks_sound input q asks, tt) kept)

kept_later : (j : Judging) (cs : List Conversation) (s now : State) (r : Request) (reply : List ℕ) → IsJudging j → IsValid s.tables → AreSteps j s cs now → judged j s r ≡ Repeated reply → judged j now r ≡ Repeated reply
kept_later j [] s now r reply well valid e kept = subst (λ (z : State). judged j z r ≡ Repeated reply) (sym e) kept
kept_later j (c ∷ cs) s now r reply well valid (n, step, more) kept =
    let to = moved j s c.input c.fate n step in
    kept_later j cs n now r reply well (valid_after j s n c.input well valid to) more (kept_after j s n c.input r reply well valid to kept)

accepted_later : (j : Judging) (cs : List Conversation) (s now : State) (r : Request) (reply : List ℕ) → IsJudging j → IsValid s.tables → AreSteps j s cs now → HaveAccepted j s cs r reply → judged j now r ≡ Repeated reply
accepted_later j [] s now r reply well valid e had = absurd had
accepted_later j (c ∷ cs) s now r reply well valid (n, step, more) (inl (done, asks, (tables, is))) =
    let to = done_next j s c.input c.fate r n done asks step in
    let kept = subst (λ (z : State). judged j z r ≡ Repeated reply) (sym to) (accepted_are_kept j s r tables reply valid is) in
    kept_later j cs n now r reply well (valid_after j s n c.input well valid (moved j s c.input c.fate n step)) more kept
accepted_later j (c ∷ cs) s now r reply well valid (n, step, more) (inr (m, also, later)) =
    let had = subst (λ (z : State). HaveAccepted j z cs r reply) (one_step j c s s m n refl also step) later in
    accepted_later j cs n now r reply well (valid_after j s n c.input well valid (moved j s c.input c.fate n step)) more had

again_kept : (j : Judging) (cs : List Conversation) (s now : State) (r : Request) (reply : List ℕ) → IsJudging j → IsValid s.tables → AreSteps j s cs now → WasAccepted j s cs r reply → judged j now r ≡ Repeated reply
again_kept j cs s now r reply well valid steps (inl kept) = kept_later j cs s now r reply well valid steps kept
again_kept j cs s now r reply well valid steps (inr had) = accepted_later j cs s now r reply well valid steps had

-- ---- a conversation that asks for it again

answer_again : (j : Judging) (m : State) (input : List ℕ) (r : Request) (answer : Answered) → Asks input (Ok (AskedCommand r)) → next j m r ≡ m → Answer j m input answer → answer.next ≡ m
answer_again j m input r answer asks stays x = answer_next j m input r answer asks x ∙ stays

step_again : (j : Judging) (m : State) (input : List ℕ) (fate : Fate) (r : Request) (now : State) → Asks input (Ok (AskedCommand r)) → next j m r ≡ m → Leaves j m input fate now → now ≡ m
step_again j m input Done r now asks stays (answer, x, e) = e ∙ answer_again j m input r answer asks stays x
step_again j m input Lost r now asks stays e = e

-- ---- lists of conversations

lists_act_once : (j : Judging) (s : State) (long past short : List Conversation) (m n a b : State) → IsJudging j → IsValid s.tables
    → AreSteps j s past m → m ≡ n → LeaveOutRepeats j s past long short → AreSteps j m long a → AreSteps j n short b → a ≡ b
lists_act_once j s [] past short m n a b well valid before e none_left x y =
    x ∙ e ∙ sym (subst (λ (cs : List Conversation). AreSteps j n cs b) none_left y)
lists_act_once j s (c ∷ long) past short m n a b well valid before e (inl ((reply, (r, asks, was)), out)) (k, step, more) y =
    let kept = again_kept j past s m r reply well valid before was in
    let same = step_again j m c.input c.fate r k asks (kept_stays j m r reply kept) step in
    lists_act_once j s long (past ++ (c ∷ [])) short k n a b well valid (step_more j past c s m k before step) (same ∙ e) out more y
lists_act_once j s (c ∷ long) past short m n a b well valid before e (inr (rest, same, out)) (k, step, more) y =
    let z = subst (λ (cs : List Conversation). AreSteps j n cs b) same y in
    lists_act_once j s long (past ++ (c ∷ [])) rest k z.0 a b well valid (step_more j past c s m k before step) (one_step j c m n k z.0 e step z.1) out more z.2

pub repeats_act_once : (j : Judging) (s a b : State) (long short : List Conversation) → IsJudging j → IsValid s.tables
    → LeaveOutRepeats j s [] long short → AreSteps j s long a → AreSteps j s short b → a ≡ b
repeats_act_once j s a b long short well valid out x y = lists_act_once j s long [] short s s a b well valid refl refl out x y

-- ---- what is given to one that asks again

reply_stays : (j : Judging) (m : State) (input : List ℕ) (before now : ℕ) (answer : Answered) (r : Request) → Asks input (Ok (AskedCommand r)) → next j m r ≡ m
    → IsReply j m input before now answer → answer.next ≡ m
reply_stays j m input before now answer r asks stays (defined x) = answer_again j m input r answer asks stays x
reply_stays j m input before now answer r asks stays (store_fault new rose e) = ap (λ (n : Answered). n.next) e
reply_stays j m input before now answer r asks stays (no_memory e) = ap (λ (n : Answered). n.next) e

served_stays : (j : Judging) (m next_state : State) (input given : List ℕ) (before now : ℕ) (served : Served) (r : Request) → Asks input (Ok (AskedCommand r)) → next j m r ≡ m
    → IsServed j m input before now served next_state given → next_state ≡ m
served_stays j m next_state input given before now (Replied code) r asks stays x = sym x.3 ∙ reply_stays j m input before now x.0 r asks stays x.1
served_stays j m next_state input given before now DoorFault r asks stays (inl x) = x.0
served_stays j m next_state input given before now DoorFault r asks stays (inr x) = sym x.2 ∙ reply_stays j m input before now x.0 r asks stays x.1

-- a new command is no repeated one
not_new : (j : Judging) (m : State) (input : List ℕ) (r : Request) (reply : List ℕ) → Asks input (Ok (AskedCommand r)) → judged j m r ≡ Repeated reply → AnswersNew j m input → ⊥
not_new j m input r reply asks kept (a, also, new) =
    subst (λ (o : Outcome). IsAccepted o) kept (subst (λ (x : Result Asked HttpRefusal). AsksNew j m x) (asks_one input a (Ok (AskedCommand r)) also asks) new)

reply_again : (j : Judging) (m : State) (input : List ℕ) (before now : ℕ) (answer : Answered) (r : Request) (reply : List ℕ) → Asks input (Ok (AskedCommand r)) → judged j m r ≡ Repeated reply
    → IsReply j m input before now answer → (answer ≡ told m Json reply) ⊎ (answer ≡ no_room m)
reply_again j m input before now answer r reply asks kept (defined x) = inl (acts_once j m input r reply answer asks kept x)
reply_again j m input before now answer r reply asks kept (store_fault new rose e) = absurd (not_new j m input r reply asks kept new)
reply_again j m input before now answer r reply asks kept (no_memory e) = inr e

abbrev GivesEither : State → List ℕ → Served → List ℕ → Type 0
GivesEither m reply served given = Gives served (told m Json reply) given ⊎ Gives served (no_room m) given

gives_whole : (m : State) (reply : List ℕ) (code : ℕ) (answer : Answered) (given : List ℕ) → (answer ≡ told m Json reply) ⊎ (answer ≡ no_room m) → answer.code ≡ code → given ≡ text_of answer
    → GivesEither m reply (Replied code) given
gives_whole m reply code answer given (inl e) c g = inl (subst (λ (x : Answered). Gives (Replied code) x given) e (c, g))
gives_whole m reply code answer given (inr e) c g = inr (subst (λ (x : Answered). Gives (Replied code) x given) e (c, g))

gives_part : (m : State) (reply : List ℕ) (answer : Answered) (k : ℕ) (given : List ℕ) → (answer ≡ told m Json reply) ⊎ (answer ≡ no_room m) → k < length (text_of answer) → given ≡ take k (text_of answer)
    → GivesEither m reply DoorFault given
gives_part m reply answer k given (inl e) part g = inl (subst (λ (x : Answered). Gives DoorFault x given) e (k, part, g))
gives_part m reply answer k given (inr e) part g = inr (subst (λ (x : Answered). Gives DoorFault x given) e (k, part, g))

-- a reply is not without bytes
some_text : (code : ℕ) (media : Media) (body : List ℕ) → 0 < length (reply_text code media body)
unfolding reply_text
some_text code media body =
    let line = length-append (codes "HTTP/1.1 ") (decimal code) in
    let status = length-append (codes "HTTP/1.1 " ++ decimal code) (codes " " ++ phrase code) in
    let whole = length-append (status_line code) (content media body) in
    omega (arith, line, status, whole)

served_again : (j : Judging) (m to : State) (input given : List ℕ) (before now : ℕ) (served : Served) (r : Request) (reply : List ℕ) → Asks input (Ok (AskedCommand r)) → judged j m r ≡ Repeated reply
    → IsServed j m input before now served to given → GivesEither m reply served given
served_again j m to input given before now (Replied code) r reply asks kept x = gives_whole m reply code x.0 given (reply_again j m input before now x.0 r reply asks kept x.1) x.2 x.4
served_again j m to input given before now DoorFault r reply asks kept (inl x) = inl (0, some_text 200 Json reply, x.1)
served_again j m to input given before now DoorFault r reply asks kept (inr x) = gives_part m reply x.0 x.3.0 given (reply_again j m input before now x.0 r reply asks kept x.1) x.3.1 x.3.2

pub repeats_are_answered : (j : Judging) (s m to : State) (past : List Conversation) (input reply given : List ℕ) (before now : ℕ) (served : Served) → IsJudging j → IsValid s.tables
    → AreSteps j s past m → AsksAgain j s past input reply → IsServed j m input before now served to given
    → (to ≡ m) × (Gives served (told m Json reply) given ⊎ Gives served (no_room m) given)
repeats_are_answered j s m to past input reply given before now served well valid steps (r, asks, was) x =
    let kept = again_kept j past s m r reply well valid steps was in
    (served_stays j m to input given before now served r asks (kept_stays j m r reply kept) x, served_again j m to input given before now served r reply asks kept x)

-- ---- turns are steps

-- a fate of the conversation that had this input and was given this
abbrev HasFate : Judging → State → List ℕ → List ℕ → State → Type 0
HasFate j s input given to = (fate : Fate) × Leaves j s input fate to × (IsDone fate ⊎ SpeaksOfWant given)

reply_fate : (j : Judging) (s : State) (input : List ℕ) (before now k : ℕ) (answer : Answered) (given : List ℕ) (to : State) → IsReply j s input before now answer → answer.next ≡ to
    → given ≡ take k (text_of answer) → HasFate j s input given to
reply_fate j s input before now k answer given to (defined x) e g = (Done, (answer, x, sym e), inl tt)
reply_fate j s input before now k answer given to (store_fault new rose is) e g =
    (Lost, sym e ∙ ap (λ (n : Answered). n.next) is, inr (k, inl (g ∙ ap (λ (n : Answered). take k (text_of n)) is)))
reply_fate j s input before now k answer given to (no_memory is) e g =
    (Lost, sym e ∙ ap (λ (n : Answered). n.next) is, inr (k, inr (g ∙ ap (λ (n : Answered). take k (text_of n)) is)))

served_fate : (j : Judging) (s to : State) (input given : List ℕ) (before now : ℕ) (served : Served) → IsServed j s input before now served to given → HasFate j s input given to
served_fate j s to input given before now (Replied code) x =
    let whole = sym (take_all (length (text_of x.0)) (text_of x.0) (omega arith)) in
    reply_fate j s input before now (length (text_of x.0)) x.0 given to x.1 x.3 (x.4 ∙ whole)
served_fate j s to input given before now DoorFault (inl x) = (Lost, x.0, inr (0, inl x.1))
served_fate j s to input given before now DoorFault (inr x) = reply_fate j s input before now x.3.0 x.0 given to x.1 x.2 x.3.2

turn_fate : (j : Judging) (a b : Moment) (input given : List ℕ) → IsTurn j a input given b → HasFate j a.state input given b.state
turn_fate j a b input given turn = served_fate j a.state b.state input given a.keeper b.keeper turn.0 turn.1

given_more : (cs : List Conversation) (givens : List (List ℕ)) (c : Conversation) (given : List ℕ) → AreGiven cs givens → IsDone c.fate ⊎ SpeaksOfWant given → AreGiven (cs ++ (c ∷ [])) (givens ++ (given ∷ []))
given_more [] [] c given h one = (one, tt)
given_more [] (g ∷ gs) c given h one = absurd h
given_more (d ∷ ds) [] c given h one = absurd h
given_more (d ∷ ds) (g ∷ gs) c given h one = (h.0, given_more ds gs c given h.1 one)

-- conversations of these inputs, of which these were given, are steps to a state
abbrev HaveSteps : Judging → State → List (List ℕ) → List (List ℕ) → State → Type 0
HaveSteps j s inputs givens now = (cs : List Conversation) × (inputs_of cs ≡ inputs) × AreGiven cs givens × AreSteps j s cs now

fate_behind : (j : Judging) (s m now : State) (inputs givens : List (List ℕ)) (input given : List ℕ) → HaveSteps j s inputs givens m → HasFate j m input given now
    → HaveSteps j s (inputs ++ (input ∷ [])) (givens ++ (given ∷ [])) now
fate_behind j s m now inputs givens input given (cs, e, gave, steps) (fate, step, gives) =
    let c : Conversation = record { input = input; fate = fate } in (
      cs ++ (c ∷ []),
      map-append (λ (c : Conversation). c.input) cs (c ∷ []) ∙ ap (λ (xs : List (List ℕ)). xs ++ (input ∷ [])) e,
      given_more cs givens c given gave gives,
      step_more j cs c s m now steps step,
    )

pub turns_are_steps : (j : Judging) (a b : Moment) (inputs givens : List (List ℕ)) → AreTurns j a inputs givens b
    → (cs : List Conversation) × (inputs_of cs ≡ inputs) × AreGiven cs givens × AreSteps j a.state cs b.state
turns_are_steps j a b inputs givens none = ([], refl, tt, refl)
turns_are_steps j a b inputs givens (behind {inputs = firsts} {givens = gs} {input = input} {given = given} {b = m} turns turn) =
    fate_behind j a.state m.state b.state firsts gs input given (turns_are_steps j a m firsts gs turns) (turn_fate j m b input given turn)

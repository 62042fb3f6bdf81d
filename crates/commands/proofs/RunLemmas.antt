-- What a run comes to, from what its command came to and how that was written.
use Rattle.std.proofs.Common.{ℕ, ◌≡◌, ◌≤◌, ◌⊎◌, inl, inr, ◌++◌, Bool, true, false, List, Option, Some, None, Result, Ok, Err, sym, subst, ap, ◌∙◌, arith}
use Rattle.outside.specs.Content.{Content}
use Rattle.commands.specs.declared.answer.Answer.{Answer}
use Rattle.commands.specs.declared.stop.Stop.{Stop}
use Rattle.commands.specs.declared.stop.Stop.TheVariants.{Refused, ReadFault, NoMemory}
use Rattle.commands.specs.declared.refusals.Refusal.{Refusal}
use Rattle.command_words.specs.declared.commands.Command.{Command}
use Rattle.command_words.specs.Asked.{asked}
use Rattle.command_words.specs.Commands.{Asked}
use Rattle.commands.specs.Refusals.{line_of}
use Rattle.commands.specs.Running.{Answers, Ending, EndsWith, Finishes, HasAnswered, HasNoMemory, HasPart, HasUsage, IsBehind, IsEnding, IsPartBehind, IsRefusedCommand, IsWritten, Performs, PerformsCounted, ending_of, read_fault_line, status_of, usage_line}
use Rattle.commands.specs.Stops.{Comes, Counts, CountsOf, HasCause, Unticked}

-- the ending of a command that came to an answer
answer_of : (ending : Ending) (answer : Answer) (status : ℕ) → Comes ending.Is ending.steps (Ok answer) → status ≡ status_of answer.good → IsEnding ending answer.text status
answer_of ending answer status came is = subst (λ v. EndsWith ending.Is v answer.text status) (sym came.1) (record { good = answer.good; answer = came.2; status_is = is })

-- the ending of a command that came to a refusal
refusal_of : (ending : Ending) (refusal : Refusal) (status : ℕ) → Comes ending.Is ending.steps (Err (Refused refusal)) → status ≡ 2 → IsEnding ending (line_of refusal) status
refusal_of ending refusal status came is = subst (λ v. EndsWith ending.Is v (line_of refusal) status) (sym came) (record { text_is = λ i. line_of refusal; status_is = is })

-- what the command that was read comes to
pub performed : (content : Content) (command read : Command) (done : Result Answer Stop) → command ≡ read → Performs content (asked read) done → Performs content (asked command) done
performed content command read done is performs = subst (λ (c : Command). Performs content (asked c) done) (sym is) performs

-- and its ticks
pub counted : (content : Content) (command read : Command) (ticks ticks_now : ℕ) (done : Result Answer Stop) → command ≡ read → PerformsCounted content (asked read) ticks ticks_now done → PerformsCounted content (asked command) ticks ticks_now done
counted content command read ticks ticks_now done is counts = subst (λ (c : Command). PerformsCounted content (asked c) ticks ticks_now done) (sym is) counts

-- where nothing is solved, no tick is made
none_counted : {A : Type 0} (value : Result A Refusal) (ticks : ℕ) → CountsOf (λ (input : A). 0) value ticks ticks
none_counted (Ok input) ticks = omega arith
none_counted (Err refusal) ticks = λ i. ticks

pub none_ticked : {A : Type 0} (value : Result A Refusal) (ticks : ℕ) (done : Result Answer Stop) → Counts (λ (input : A). 0) value ticks ticks done
none_ticked value ticks (Ok answer) = none_counted value ticks
none_ticked value ticks (Err (Refused refusal)) = none_counted value ticks
none_ticked value ticks (Err ReadFault) = tt
none_ticked value ticks (Err NoMemory) = tt

-- a text with its status, where the sink did not fail
whole : (wanted : ℕ) (text before : List ℕ) (faults faults_now : ℕ) (given given_now : Option (List ℕ)) (status : ℕ) → (status ≡ 5 → ⊥) → given ≡ Some before → IsWritten wanted text faults faults_now given given_now status → (status ≡ wanted) × (given_now ≡ Some (before ++ text))
whole wanted text before faults faults_now given given_now status calm e (inl w) = (w.ends, w.told before e)
whole wanted text before faults faults_now given given_now status calm e (inr w) = absurd (calm w.ends)

pub answered : (content : Content) (asked : Asked) (before : List ℕ) (performed : Result Answer Stop) (faults faults_now : ℕ) (given given_now : Option (List ℕ)) (ticks ticks_now status : ℕ) → Performs content asked performed → PerformsCounted content asked ticks ticks_now performed → (status ≡ 4 → ⊥) → (status ≡ 5 → ⊥) → given ≡ Some before → Finishes performed faults faults_now given given_now status → HasAnswered content asked before given_now ticks ticks_now status ⊎ HasNoMemory before given_now status
answered content asked before (Ok answer) faults faults_now given given_now ticks ticks_now status performs counts quiet calm e f =
    let w = whole (status_of answer.good) answer.text before faults faults_now given given_now status calm e f in
    inl (record { text = answer.text; answer = answer_of (ending_of content asked) answer status performs w.0; written = w.1; counted = counts })
answered content asked before (Err (Refused refusal)) faults faults_now given given_now ticks ticks_now status performs counts quiet calm e (inl f) =
    let w = whole 2 (line_of refusal) before faults faults_now given given_now status calm e f in
    inl (record { text = line_of refusal; answer = refusal_of (ending_of content asked) refusal status performs w.0; written = w.1; counted = counts })
answered content asked before (Err (Refused refusal)) faults faults_now given given_now ticks ticks_now status performs counts quiet calm e (inr f) = inr (record { status_is = f.ends; written = f.told ∙ e })
answered content asked before (Err ReadFault) faults faults_now given given_now ticks ticks_now status performs counts quiet calm e (inl f) = absurd (quiet f.ends)
answered content asked before (Err ReadFault) faults faults_now given given_now ticks ticks_now status performs counts quiet calm e (inr f) = absurd (calm f.ends)
answered content asked before (Err NoMemory) faults faults_now given given_now ticks ticks_now status performs counts quiet calm e f = inr (record { status_is = f.ends; written = f.told ∙ e })

pub used : (before : List ℕ) (wanted : ℕ) (text : List ℕ) (faults faults_now : ℕ) (given given_now : Option (List ℕ)) (ticks status : ℕ) → wanted ≡ 3 → text ≡ usage_line → (status ≡ 5 → ⊥) → given ≡ Some before → IsWritten wanted text faults faults_now given given_now status → HasUsage before given_now ticks ticks status
used before wanted text faults faults_now given given_now ticks status three line calm e w =
    let done = whole wanted text before faults faults_now given given_now status calm e w in
    record { status_is = done.0 ∙ three; written = done.1 ∙ ap (λ t. Some (before ++ t)) line; still = λ i. ticks }

-- where there is no memory for the words
pub silent : (content : Content) (asked : Option Asked) (before : List ℕ) (given : Option (List ℕ)) (ticks ticks_now status : ℕ) → status ≡ 8 → given ≡ Some before → Answers content asked before given ticks ticks_now status
silent content None before given ticks ticks_now status eight same = inr (record { status_is = eight; written = same })
silent content (Some asked) before given ticks ticks_now status eight same = inr (record { status_is = eight; written = same })

pub behind_usage : (wanted : ℕ) (text : List ℕ) (faults faults_now : ℕ) (given given_now : Option (List ℕ)) (status : ℕ) → text ≡ usage_line → IsWritten wanted text faults faults_now given given_now status → status ≡ 3 → IsBehind usage_line given given_now
behind_usage wanted text faults faults_now given given_now status line (inl w) three = λ before e. w.told before e ∙ ap (λ t. Some (before ++ t)) line
behind_usage wanted text faults faults_now given given_now status line (inr w) three = absurd (let five = w.ends in omega arith)

-- a status of a good or a bad answer is below 2
small : (good : Bool) (status : ℕ) → status ≡ status_of good → status ≤ 1
small true status is = let zero_is : status ≡ 0 = is in omega arith
small false status is = let one_is : status ≡ 1 = is in omega arith

-- where a command ends with status 2, a step of it refused
pub refused : (content : Content) (asked : Asked) (performed : Result Answer Stop) (faults faults_now : ℕ) (given given_now : Option (List ℕ)) (status : ℕ) → Performs content asked performed → status ≡ 2 → Finishes performed faults faults_now given given_now status → IsRefusedCommand content (Some asked)
refused content asked (Ok answer) faults faults_now given given_now status came two (inl w) = absurd (let one = small answer.good status w.ends in omega arith)
refused content asked (Ok answer) faults faults_now given given_now status came two (inr w) = absurd (let five = w.ends in omega arith)
refused content asked (Err (Refused refusal)) faults faults_now given given_now status came two f = (refusal, came)
refused content asked (Err ReadFault) faults faults_now given given_now status came two (inl w) = absurd (let four = w.ends in omega arith)
refused content asked (Err ReadFault) faults faults_now given given_now status came two (inr w) = absurd (let five = w.ends in omega arith)
refused content asked (Err NoMemory) faults faults_now given given_now status came two f = absurd (let eight = f.ends in omega arith)

-- with the status of a refusal, or of files that failed, no tick was made
pub unsolved : (performed : Result Answer Stop) (faults faults_now : ℕ) (given given_now : Option (List ℕ)) (ticks ticks_now status : ℕ) → Unticked ticks ticks_now performed → Finishes performed faults faults_now given given_now status → 2 ≤ status → status ≤ 4 → ticks_now ≡ ticks
unsolved (Ok answer) faults faults_now given given_now ticks ticks_now status still (inl w) least most = absurd (let one = small answer.good status w.ends in omega arith)
unsolved (Ok answer) faults faults_now given given_now ticks ticks_now status still (inr w) least most = absurd (let five = w.ends in omega arith)
unsolved (Err (Refused refusal)) faults faults_now given given_now ticks ticks_now status still f least most = still
unsolved (Err ReadFault) faults faults_now given given_now ticks ticks_now status still f least most = still
unsolved (Err NoMemory) faults faults_now given given_now ticks ticks_now status still f least most = absurd (let eight = f.ends in omega arith)

-- a beginning of a text, where the status is 5 and not the one that was wanted
cut : (wanted : ℕ) (text : List ℕ) (faults faults_now : ℕ) (given given_now : Option (List ℕ)) (status : ℕ) → wanted ≤ 4 → status ≡ 5 → IsWritten wanted text faults faults_now given given_now status → IsPartBehind text given given_now
cut wanted text faults faults_now given given_now status low five (inl w) = absurd (let wanted_is = w.ends in omega arith)
cut wanted text faults faults_now given given_now status low five (inr w) = w.told

low : (good : Bool) → status_of good ≤ 4
low true = omega arith
low false = omega arith

pub part : (content : Option Content) (asked : Asked) (performed : Result Answer Stop) (read read_now faults faults_now : ℕ) (given given_now : Option (List ℕ)) (status : ℕ) → HasCause read read_now performed → ((c : Content) → content ≡ Some c → Performs c asked performed) → status ≡ 5 → Finishes performed faults faults_now given given_now status → HasPart content (Some asked) read read_now given given_now
part content asked (Ok answer) read read_now faults faults_now given given_now status cause performs five f = record {
  text = answer.text;
  meant = inl (λ c e. (status_of answer.good, answer_of (ending_of c asked) answer (status_of answer.good) (performs c e) (λ i. status_of answer.good)));
  told = cut (status_of answer.good) answer.text faults faults_now given given_now status (low answer.good) five f;
}
part content asked (Err (Refused refusal)) read read_now faults faults_now given given_now status cause performs five (inl f) = record {
  text = line_of refusal;
  meant = inl (λ c e. (2, refusal_of (ending_of c asked) refusal 2 (performs c e) (λ i. 2)));
  told = cut 2 (line_of refusal) faults faults_now given given_now status (omega arith) five f;
}
part content asked (Err (Refused refusal)) read read_now faults faults_now given given_now status cause performs five (inr f) = absurd (let eight = f.ends in omega arith)
part content asked (Err ReadFault) read read_now faults faults_now given given_now status cause performs five f = record {
  text = read_fault_line;
  meant = inr ((λ i. read_fault_line), cause.1);
  told = cut 4 read_fault_line faults faults_now given given_now status (omega arith) five f;
}
part content asked (Err NoMemory) read read_now faults faults_now given given_now status cause performs five f = absurd (let eight = f.ends in omega arith)

pub usage_part : (content : Option Content) (read read_now : ℕ) (wanted : ℕ) (text : List ℕ) (faults faults_now : ℕ) (given given_now : Option (List ℕ)) (status : ℕ) → wanted ≡ 3 → text ≡ usage_line → status ≡ 5 → IsWritten wanted text faults faults_now given given_now status → HasPart content None read read_now given given_now
usage_part content read read_now wanted text faults faults_now given given_now status three line five w = record {
  text = text;
  meant = line;
  told = cut wanted text faults faults_now given given_now status (omega arith) five w;
}

-- the counts of faults

pub read_still : (performed : Result Answer Stop) (read read_now faults faults_now : ℕ) (given given_now : Option (List ℕ)) (status : ℕ) → HasCause read read_now performed → Finishes performed faults faults_now given given_now status → (status ≡ 4 → ⊥) → (status ≡ 5 → ⊥) → read_now ≡ read
read_still (Ok answer) read read_now faults faults_now given given_now status cause f quiet calm = cause
read_still (Err (Refused refusal)) read read_now faults faults_now given given_now status cause f quiet calm = cause
read_still (Err ReadFault) read read_now faults faults_now given given_now status cause (inl w) quiet calm = absurd (quiet w.ends)
read_still (Err ReadFault) read read_now faults faults_now given given_now status cause (inr w) quiet calm = absurd (calm w.ends)
read_still (Err NoMemory) read read_now faults faults_now given given_now status cause f quiet calm = cause

pub read_kept : (performed : Result Answer Stop) (read read_now : ℕ) → HasCause read read_now performed → read ≤ read_now
read_kept (Ok answer) read read_now cause = let still : read_now ≡ read = cause in omega arith
read_kept (Err (Refused refusal)) read read_now cause = let still : read_now ≡ read = cause in omega arith
read_kept (Err ReadFault) read read_now cause = cause.0
read_kept (Err NoMemory) read read_now cause = let still : read_now ≡ read = cause in omega arith

pub written_still : (wanted : ℕ) (text : List ℕ) (faults faults_now : ℕ) (given given_now : Option (List ℕ)) (status : ℕ) → IsWritten wanted text faults faults_now given given_now status → (status ≡ 5 → ⊥) → faults_now ≡ faults
written_still wanted text faults faults_now given given_now status (inl w) calm = w.still
written_still wanted text faults faults_now given given_now status (inr w) calm = absurd (calm w.ends)

pub write_still : (performed : Result Answer Stop) (faults faults_now : ℕ) (given given_now : Option (List ℕ)) (status : ℕ) → Finishes performed faults faults_now given given_now status → (status ≡ 5 → ⊥) → faults_now ≡ faults
write_still (Ok answer) faults faults_now given given_now status f calm = written_still (status_of answer.good) answer.text faults faults_now given given_now status f calm
write_still (Err (Refused refusal)) faults faults_now given given_now status (inl f) calm = written_still 2 (line_of refusal) faults faults_now given given_now status f calm
write_still (Err (Refused refusal)) faults faults_now given given_now status (inr f) calm = f.still
write_still (Err ReadFault) faults faults_now given given_now status f calm = written_still 4 read_fault_line faults faults_now given given_now status f calm
write_still (Err NoMemory) faults faults_now given given_now status f calm = f.still

pub written_kept : (wanted : ℕ) (text : List ℕ) (faults faults_now : ℕ) (given given_now : Option (List ℕ)) (status : ℕ) → IsWritten wanted text faults faults_now given given_now status → faults ≤ faults_now
written_kept wanted text faults faults_now given given_now status (inl w) = let still = w.still in omega arith
written_kept wanted text faults faults_now given given_now status (inr w) = w.kept

pub write_kept : (performed : Result Answer Stop) (faults faults_now : ℕ) (given given_now : Option (List ℕ)) (status : ℕ) → Finishes performed faults faults_now given given_now status → faults ≤ faults_now
write_kept (Ok answer) faults faults_now given given_now status f = written_kept (status_of answer.good) answer.text faults faults_now given given_now status f
write_kept (Err (Refused refusal)) faults faults_now given given_now status (inl f) = written_kept 2 (line_of refusal) faults faults_now given given_now status f
write_kept (Err (Refused refusal)) faults faults_now given given_now status (inr f) = let still = f.still in omega arith
write_kept (Err ReadFault) faults faults_now given given_now status f = written_kept 4 read_fault_line faults faults_now given given_now status f
write_kept (Err NoMemory) faults faults_now given given_now status f = let still = f.still in omega arith

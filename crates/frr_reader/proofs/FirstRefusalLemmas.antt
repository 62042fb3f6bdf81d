-- The reading of a file is its configuration or the refusal of its first refused line.
use Rattle.std.proofs.Common.{ℕ, ◌≡◌, ◌⊎◌, ◌++◌, List, [], ◌∷◌, Option, Some, None, Result, Ok, Err, IfSome, IfOk, MatchResult, option_and_then, fold, inl, inr, refl, sym, ◌∙◌, ap, subst, ◌+◌}
use Rattle.net_types.specs.declared.config.RouterConfig.{RouterConfig}
use Rattle.net_types.specs.declared.refusals.ReadRefusal.{ReadRefusal}
use Rattle.net_types.specs.declared.refusals.ReadRefusal.TheVariants.{Undefined, ForeignAs, NoMemory}
use Rattle.frr_reader.specs.declared.causes.Cause.{Cause}
use Rattle.frr_reader.specs.declared.causes.Cause.TheVariants.{NotText, LineTooLong, Unsupported, OutOfPlace, BadValue, Repeated, OutOfLimit}
use Rattle.frr_reader.specs.declared.needs.Need.{Need}
use Rattle.frr_reader.specs.Needs.{is_undefined, is_foreign, first_undefined, first_foreign}
use Rattle.frr_reader.proofs.LineLemmas.{Counted, counted-lines, counted-left}
use Rattle.frr_reader.proofs.NeedLemmas.{least_undefined, least_foreign}
use Rattle.frr_reader.specs.Lines.{LineValue, lines}
use Rattle.frr_reader.specs.State.{State, start, IsOpen}
use Rattle.frr_reader.specs.Reading.{step, RefusedLine, go_on, read_lines, configured, unless_wrong, judged, config_of, refusal_of, concluded, reading}
use Rattle.frr_reader.specs.FirstRefusal.{accepted, after, IsConf, IsRefAtLine, IsRefAtEnd, IsRef, IsReadOnce, IsLeastWrong}
use Rattle.frr_reader.proofs.KeptLemmas.{IsKept, step_kept, start_kept}

-- after s, but from a state that may not be there
abbrev onwards : Option State → List LineValue → Option State
onwards o ls = fold (λ before line. option_and_then (λ t. accepted (step t line)) before) o ls

-- one of the lines is refused first
pub record Refuses (s : State) (ls : List LineValue) (r : RefusedLine) : Type 0 where
  pub before : List LineValue
  pub behind : List LineValue
  pub line : LineValue
  pub state : State
  pub lines_are : ls ≡ before ++ line ∷ behind
  pub taken : after s before ≡ Some state
  pub refused : step state line ≡ Err r.cause
  pub number : r.number ≡ line.number

later : (s t : State) (line : LineValue) (ls : List LineValue) (r : RefusedLine) → step s line ≡ Ok t → Refuses t ls r → Refuses s (line ∷ ls) r
later s t line ls r e h = record {
  before = line ∷ h.before;
  behind = h.behind;
  line = h.line;
  state = h.state;
  lines_are = ap (λ xs. line ∷ xs) h.lines_are;
  taken = ap (λ v. onwards (accepted v) h.before) e ∙ h.taken;
  refused = h.refused;
  number = h.number;
}

carried : (s t : State) (line : LineValue) (ls : List LineValue) (r : Result State RefusedLine) → step s line ≡ Ok t → MatchResult r (λ u. after t ls ≡ Some u) (λ q. Refuses t ls q) → MatchResult r (λ u. after t ls ≡ Some u) (λ q. Refuses s (line ∷ ls) q)
carried s t line ls (Ok u) e h = h
carried s t line ls (Err q) e h = later s t line ls q e h

-- what the fold over the lines gives
pub read_lines-gives : (ls : List LineValue) (s : State) → MatchResult (read_lines s ls) (λ t. after s ls ≡ Some t) (λ r. Refuses s ls r)
read_lines-gives [] s = refl
read_lines-gives (line ∷ more) s = go (λ t. read_lines-gives more t) (step s line) refl where
  go : ((t : State) → MatchResult (read_lines t more) (λ u. after t more ≡ Some u) (λ r. Refuses t more r)) → (v : Result State Cause) → step s line ≡ v → MatchResult (go_on line.number v (λ t. read_lines t more)) (λ t. onwards (accepted v) more ≡ Some t) (λ r. Refuses s (line ∷ more) r)
  go ih (Ok t) e = carried s t line more (read_lines t more) e (ih t)
  go ih (Err cause) e = record { before = []; behind = more; line = line; state = s; lines_are = refl; taken = refl; refused = e; number = refl }

onwards-none : (ls : List LineValue) → onwards None ls ≡ None
onwards-none [] = refl
onwards-none (line ∷ more) = onwards-none more

-- where the first lines are taken, the reading goes on from the state after them
pub read_lines-append : (before behind : List LineValue) (s t : State) → after s before ≡ Some t → read_lines s (before ++ behind) ≡ read_lines t behind
read_lines-append [] behind s t e = let f : s ≡ t = cc in ap (λ u. read_lines u behind) f
read_lines-append (line ∷ more) behind s t e = go (λ u h. read_lines-append more behind u t h) (step s line) e where
  go : ((u : State) → after u more ≡ Some t → read_lines u (more ++ behind) ≡ read_lines t behind) → (v : Result State Cause) → onwards (accepted v) more ≡ Some t → go_on line.number v (λ u. read_lines u (more ++ behind)) ≡ read_lines t behind
  go ih (Ok u) h = ih u h
  go ih (Err cause) h = let n = onwards-none more in absurd (let f : None ≡ Some t = sym n ∙ h in cc)

-- the two answers of a reading, by what the fold gives
concluded-conf : (text : List ℕ) (r : Result State RefusedLine) → read_lines start (lines text) ≡ r → MatchResult r (λ t. after start (lines text) ≡ Some t) (λ q. Refuses start (lines text) q) → MatchResult (concluded r) (λ config. IsConf text config) (λ refusal. IsRef text refusal)
concluded-conf text (Ok t) e h = go (config_of t t.host) refl where
  go : (v : Result RouterConfig ReadRefusal) → config_of t t.host ≡ v → MatchResult v (λ config. IsConf text config) (λ refusal. IsRef text refusal)
  go (Ok config) f = record { state = t; taken = h; says = f }
  go (Err refusal) f = inr (record { state = t; taken = h; refused = f })
concluded-conf text (Err q) e h = inl (record {
  line = h.line;
  cause = q.cause;
  first = record { before = h.before; behind = h.behind; lines_are = h.lines_are; state = h.state; taken = h.taken; refused = h.refused };
  named = ap (refusal_of q.cause) h.number;
})

-- what the reading gives
reading-gives : (text : List ℕ) → MatchResult (reading text) (λ config. IsConf text config) (λ refusal. IsRef text refusal)
unfolding reading
reading-gives text = concluded-conf text (read_lines start (lines text)) refl (read_lines-gives (lines text) start)

append-nil : (xs : List LineValue) → xs ++ [] ≡ xs
append-nil [] = refl
append-nil (x ∷ xs) = ap (λ ys. x ∷ ys) (append-nil xs)

-- all lines taken: the reading is of the state after them
read-whole : (ls : List LineValue) (s t : State) → after s ls ≡ Some t → read_lines s ls ≡ Ok t
read-whole ls s t e = ap (read_lines s) (sym (append-nil ls)) ∙ read_lines-append ls [] s t e

pub reading-conf : (text : List ℕ) (config : RouterConfig) → IsConf text config → reading text ≡ Ok config
unfolding reading
reading-conf text config h = ap concluded (read-whole (lines text) start h.state h.taken) ∙ h.says

reading-at_end : (text : List ℕ) (refusal : ReadRefusal) → IsRefAtEnd text refusal → reading text ≡ Err refusal
unfolding reading
reading-at_end text refusal h = ap concluded (read-whole (lines text) start h.state h.taken) ∙ h.refused

refused-line : (s : State) (line : LineValue) (behind : List LineValue) (cause : Cause) → step s line ≡ Err cause → read_lines s (line ∷ behind) ≡ Err (record { number = line.number; cause = cause })
refused-line s line behind cause e = ap (λ v. go_on line.number v (λ t. read_lines t behind)) e

reading-at_line : (text : List ℕ) (refusal : ReadRefusal) → IsRefAtLine text refusal → reading text ≡ Err refusal
unfolding reading
reading-at_line text refusal h =
    let f = h.first in
    let whole : read_lines start (lines text) ≡ Err (record { number = h.line.number; cause = h.cause }) = ap (read_lines start) f.lines_are ∙ (read_lines-append f.before (h.line ∷ f.behind) start f.state f.taken ∙ refused-line f.state h.line f.behind h.cause f.refused) in
    ap concluded whole ∙ ap Err (sym h.named)

pub reading-ref : (text : List ℕ) (refusal : ReadRefusal) → IsRef text refusal → reading text ≡ Err refusal
reading-ref text refusal (inl h) = reading-at_line text refusal h
reading-ref text refusal (inr h) = reading-at_end text refusal h

conf-gives : (text : List ℕ) (config : RouterConfig) → reading text ≡ Ok config → IsConf text config
conf-gives text config e = let h : MatchResult (Ok config) (λ c. IsConf text c) (λ r. IsRef text r) = rw e at (reading-gives text) in h

ref-gives : (text : List ℕ) (refusal : ReadRefusal) → reading text ≡ Err refusal → IsRef text refusal
ref-gives text refusal e = let h : MatchResult (Err refusal) (λ c. IsConf text c) (λ r. IsRef text r) = rw e at (reading-gives text) in h

either : (text : List ℕ) (r : Result RouterConfig ReadRefusal) → MatchResult r (λ c. IsConf text c) (λ q. IsRef text q) → ((config : RouterConfig) × IsConf text config) ⊎ ((refusal : ReadRefusal) × IsRef text refusal)
either text (Ok config) h = inl (config, h)
either text (Err refusal) h = inr (refusal, h)

apart : (text : List ℕ) (config : RouterConfig) (refusal : ReadRefusal) → IsConf text config → IsRef text refusal → ⊥
apart text config refusal c r = let a = reading-conf text config c in let b = reading-ref text refusal r in cc

same_conf : (text : List ℕ) (a b : RouterConfig) → IsConf text a → IsConf text b → a ≡ b
same_conf text a b c d = let e = reading-conf text a c in let f = reading-conf text b d in cc

same_ref : (text : List ℕ) (a b : ReadRefusal) → IsRef text a → IsRef text b → a ≡ b
same_ref text a b c d = let e = reading-ref text a c in let f = reading-ref text b d in cc

judged-memory : (config : RouterConfig) (all : List Need) → judged config all ≡ Err NoMemory → ⊥
unfolding judged
judged-memory config all e = go (first_undefined config all) (first_foreign config all) e where
  go : (u f : Option ℕ) → unless_wrong config u f ≡ Err NoMemory → ⊥
  go (Some line) f k = cc
  go None (Some line) k = cc
  go None None k = cc

config_of-memory : (s : State) (host : Option (List ℕ)) → config_of s host ≡ Err NoMemory → ⊥
config_of-memory s None e = cc
config_of-memory s (Some host) e = judged-memory (configured s host) s.needed e

refusal_of-memory : (cause : Cause) (number : ℕ) → NoMemory ≡ refusal_of cause number → ⊥
refusal_of-memory NotText number e = cc
refusal_of-memory LineTooLong number e = cc
refusal_of-memory Unsupported number e = cc
refusal_of-memory OutOfPlace number e = cc
refusal_of-memory BadValue number e = cc
refusal_of-memory Repeated number e = cc
refusal_of-memory OutOfLimit number e = cc

never_memory : (text : List ℕ) → IsRef text NoMemory → ⊥
never_memory text (inl h) = refusal_of-memory h.cause h.line.number h.named
never_memory text (inr h) = config_of-memory h.state h.state.host h.refused

-- each state that is reached keeps what a line keeps
abbrev Reached : State → Type 0
Reached s = (n : ℕ) × IsKept n s

onwards_kept : (ls : List LineValue) (o : Option State) (n : ℕ) → Counted n ls → IfSome o (IsKept n) → IfSome (onwards o ls) Reached
onwards_kept [] None n c h = tt
onwards_kept [] (Some s) n c h = (n, h)
onwards_kept (line ∷ more) None n c h = onwards_kept more None (n + 1) c.1 tt
onwards_kept (line ∷ more) (Some s) n c h = onwards_kept more (accepted (step s line)) (n + 1) c.1 (go (step s line) (step_kept n s line c.0 h)) where
  go : (r : Result State Cause) → IfOk r (IsKept (n + 1)) → IfSome (accepted r) (IsKept (n + 1))
  go (Ok t) k = k
  go (Err cause) k = tt

reached : (ls : List LineValue) (state : State) → Counted 0 ls → after start ls ≡ Some state → Reached state
reached ls state c e = let h : IfSome (Some state) Reached = rw e at (onwards_kept ls (Some start) 0 c start_kept) in h

reached_open : (text : List ℕ) (before behind : List LineValue) (state : State) → lines text ≡ before ++ behind → after start before ≡ Some state → IsOpen state
reached_open text before behind state f e = let c : Counted 0 (before ++ behind) = subst (Counted 0) f (counted-lines text) in (reached before state (counted-left 0 before behind c) e).1.opened

-- the least line that is wrong

undefined_apart : (cause : Cause) (number line : ℕ) → Undefined line ≡ refusal_of cause number → ⊥
undefined_apart NotText number line e = cc
undefined_apart LineTooLong number line e = cc
undefined_apart Unsupported number line e = cc
undefined_apart OutOfPlace number line e = cc
undefined_apart BadValue number line e = cc
undefined_apart Repeated number line e = cc
undefined_apart OutOfLimit number line e = cc

foreign_apart : (cause : Cause) (number line : ℕ) → ForeignAs line ≡ refusal_of cause number → ⊥
foreign_apart NotText number line e = cc
foreign_apart LineTooLong number line e = cc
foreign_apart Unsupported number line e = cc
foreign_apart OutOfPlace number line e = cc
foreign_apart BadValue number line e = cc
foreign_apart Repeated number line e = cc
foreign_apart OutOfLimit number line e = cc

undefined_line : (config : RouterConfig) (all : List Need) (line : ℕ) → judged config all ≡ Err (Undefined line) → first_undefined config all ≡ Some line
unfolding judged
undefined_line config all line e = go (first_undefined config all) (first_foreign config all) e where
  go : (u f : Option ℕ) → unless_wrong config u f ≡ Err (Undefined line) → u ≡ Some line
  go (Some l) f k = cc
  go None (Some l) k = cc
  go None None k = cc

foreign_line : (config : RouterConfig) (all : List Need) (line : ℕ) → judged config all ≡ Err (ForeignAs line) → first_foreign config all ≡ Some line
unfolding judged
foreign_line config all line e = go (first_undefined config all) (first_foreign config all) e where
  go : (u f : Option ℕ) → unless_wrong config u f ≡ Err (ForeignAs line) → f ≡ Some line
  go (Some l) f k = cc
  go None (Some l) k = cc
  go None None k = cc

undefined_at_end : (text : List ℕ) (line : ℕ) (state : State) → after start (lines text) ≡ Some state → (o : Option (List ℕ)) → state.host ≡ o → config_of state o ≡ Err (Undefined line) → IsLeastWrong text is_undefined line
undefined_at_end text line state t None e r = cc
undefined_at_end text line state t (Some host) e r =
    let k = reached (lines text) state (counted-lines text) t in
    record { state = state; host = host; taken = t; named = e; least = least_undefined (configured state host) state.needed line k.1.policy.ordered.rising (undefined_line (configured state host) state.needed line r) }

foreign_at_end : (text : List ℕ) (line : ℕ) (state : State) → after start (lines text) ≡ Some state → (o : Option (List ℕ)) → state.host ≡ o → config_of state o ≡ Err (ForeignAs line) → IsLeastWrong text is_foreign line
foreign_at_end text line state t None e r = cc
foreign_at_end text line state t (Some host) e r =
    let k = reached (lines text) state (counted-lines text) t in
    record { state = state; host = host; taken = t; named = e; least = least_foreign (configured state host) state.needed line k.1.policy.ordered.rising (foreign_line (configured state host) state.needed line r) }

least_undefined_line : (text : List ℕ) (line : ℕ) → IsRef text (Undefined line) → IsLeastWrong text is_undefined line
least_undefined_line text line (inl h) = absurd (undefined_apart h.cause h.line.number line h.named)
least_undefined_line text line (inr h) = undefined_at_end text line h.state h.taken h.state.host refl h.refused

least_foreign_line : (text : List ℕ) (line : ℕ) → IsRef text (ForeignAs line) → IsLeastWrong text is_foreign line
least_foreign_line text line (inl h) = absurd (foreign_apart h.cause h.line.number line h.named)
least_foreign_line text line (inr h) = foreign_at_end text line h.state h.taken h.state.host refl h.refused

pub read_once : (text : List ℕ) → IsReadOnce text
read_once text = record {
  conf = λ config. (conf-gives text config, reading-conf text config);
  ref = λ refusal. (ref-gives text refusal, reading-ref text refusal);
  one = either text (reading text) (reading-gives text);
  apart = apart text;
  same_conf = same_conf text;
  same_ref = same_ref text;
  «open» = reached_open text;
  no_memory = never_memory text;
  undefined = least_undefined_line text;
  foreign_as = least_foreign_line text;
}

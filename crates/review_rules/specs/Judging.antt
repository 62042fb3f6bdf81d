-- What a request has to be, and what a judge answers.
use Rattle.std.specs.Prelude.{ℕ, ◌≡◌, ◌≢◌, ◌≤◌, ◌<◌, ◌&&◌, nat_le, Bool, true, List, [], length, map, Option, Some, None, unwrap_or}
use Rattle.std.specs.List.{All, list_all}
use Rattle.net_types.specs.Names.{is_host, is_name_byte}
use Rattle.net_types.specs.declared.config.SourceFile.{SourceFile}
use Rattle.net_types.specs.declared.refusals.ReadRefusal.TheVariants.{NoMemory as NoReadMemory}
use Rattle.net_types.specs.declared.refusals.NetRefusal.{NetRefusal}
use Rattle.net_types.specs.declared.refusals.NetRefusal.TheVariants.{SameHost, SameAs, SameAddress, NoMemory as NoNetMemory}
use Rattle.net_types.specs.declared.refusals.BundleRefusal.{BundleRefusal}
use Rattle.net_types.specs.declared.refusals.BundleRefusal.TheVariants.{InFile, InNet, NoMemory as NoBundleMemory}
use Rattle.net_types.specs.declared.refusals.FormRefusal.TheVariants.{NoMemory as NoFormMemory}
use Rattle.desk_tables.specs.Order.{text_cmp, Ascends}
use Rattle.desk_tables.specs.Tables.{files_of, merged_of, head_of, book_of, source_of}
use Rattle.desk_tables.specs.declared.rows.Rows.{Rows}
use Rattle.review_rules.specs.State.{State}
use Rattle.review_rules.specs.Rules.{ask_of, missing_of, Outcome, step}
use Rattle.review_rules.specs.declared.requests.Request.{Request}
use Rattle.review_rules.specs.declared.requests.Command.{Command}
use Rattle.review_rules.specs.declared.requests.Command.TheVariants.{SetPolicy, Submit, Certify}
use Rattle.review_rules.specs.declared.requests.Ask.{Ask}
use Rattle.review_rules.specs.declared.requests.Ask.TheVariants.{Nothing}
use Rattle.review_rules.specs.declared.requests.BundleSide.{BundleSide}
use Rattle.review_rules.specs.declared.requests.BundleSide.TheVariants.{Base, New}
use Rattle.review_rules.specs.declared.requests.JudgeAnswer.{JudgeAnswer}
use Rattle.review_rules.specs.declared.requests.JudgeAnswer.TheVariants.{NotAsked, Fine, Refused, BookRefused, Limit, Judged, NoMemory}

-- ---- requests

-- a key has 1 to 64 bytes that are printed, and no blank
abbrev pub is_key : List ℕ → Bool
is_key key = nat_le 1 (length key) && nat_le (length key) 64 && list_all is_name_byte key

abbrev pub NamesAscend : List SourceFile → Type 0
NamesAscend files = Ascends text_cmp (λ (f : SourceFile). f.name) files

abbrev pub HasHostName : SourceFile → Type 0
HasHostName f = is_host f.name ≡ true

-- a title has at most 200 bytes; the names of files are those of hosts, and ascend
abbrev pub IsCommand : Command → Type 0
IsCommand (Submit base title files) = (length title ≤ 200) × NamesAscend files × All HasHostName files
IsCommand _ = Unit {0}

pub record IsRequest (r : Request) : Type 0 where
  pub key : is_key r.key ≡ true
  pub command : IsCommand r.command

-- ---- answers

-- a refusal of so many files is one of them all or names some of them, and is no want of memory
abbrev pub IsNetRefusal : ℕ → NetRefusal → Type 0
IsNetRefusal n (SameHost i j) = (i < n) × (j < n)
IsNetRefusal n (SameAs i j) = (i < n) × (j < n)
IsNetRefusal n (SameAddress i j) = (i < n) × (j < n)
IsNetRefusal n NoNetMemory = ⊥
IsNetRefusal n _ = Unit {0}

abbrev pub IsBundleRefusal : ℕ → BundleRefusal → Type 0
IsBundleRefusal n (InFile i refusal) = (i < n) × (refusal ≢ NoReadMemory)
IsBundleRefusal n (InNet refusal) = IsNetRefusal n refusal
IsBundleRefusal n NoBundleMemory = ⊥
IsBundleRefusal n _ = Unit {0}

-- what may be answered of a bundle of so many files
abbrev pub IsBundleAnswer : ℕ → JudgeAnswer → Type 0
IsBundleAnswer n Fine = Unit {0}
IsBundleAnswer n (Refused side refusal) = (side ≡ New) × IsBundleRefusal n refusal
IsBundleAnswer n NoMemory = Unit {0}
IsBundleAnswer n _ = ⊥

-- of a property file
abbrev pub IsBookAnswer : JudgeAnswer → Type 0
IsBookAnswer Fine = Unit {0}
IsBookAnswer (BookRefused refusal) = refusal ≢ NoFormMemory
IsBookAnswer NoMemory = Unit {0}
IsBookAnswer _ = ⊥

-- of a run over two bundles of so many files
abbrev pub files_on : BundleSide → ℕ → ℕ → ℕ
files_on Base m n = m
files_on New m n = n

abbrev pub IsRunAnswer : ℕ → ℕ → JudgeAnswer → Type 0
IsRunAnswer m n (Refused side refusal) = IsBundleRefusal (files_on side m n) refusal
IsRunAnswer m n (BookRefused refusal) = refusal ≢ NoFormMemory
IsRunAnswer m n (Limit cases) = Unit {0}
IsRunAnswer m n (Judged missing report) = unwrap_or missing 0 < 64
IsRunAnswer m n NoMemory = Unit {0}
IsRunAnswer m n _ = ⊥

-- a property that an answer names has a position below 64
abbrev pub NamesProperty : JudgeAnswer → Type 0
NamesProperty a = unwrap_or (missing_of a) 0 < 64

-- what a judge means: a function for each of its questions
pub record Judging : Type 0 where
  pub bundle : List SourceFile → JudgeAnswer
  pub book : List ℕ → JudgeAnswer
  pub run : List SourceFile → List SourceFile → List ℕ → JudgeAnswer

-- each value names no property of a position that there is not
abbrev pub IsJudging : Judging → Type 0
IsJudging j =
    ((files : List SourceFile) → NamesProperty (j.bundle files)) ×
    ((text : List ℕ) → NamesProperty (j.book text)) ×
    ((base new : List SourceFile) (text : List ℕ) → NamesProperty (j.run base new text))

-- an answer is the value that is meant, or there was no memory
abbrev pub Means : JudgeAnswer → JudgeAnswer → Type 0
Means value NoMemory = Unit {0}
Means value answer = answer ≡ value

-- ---- the question of a request

-- the bundle of a review, and of the head, which is without files where nothing is merged
abbrev pub bundle_of : Rows → ℕ → List SourceFile
bundle_of t id = map source_of (files_of t id)

abbrev pub bundle_by : Rows → Option ℕ → List SourceFile
bundle_by t None = []
bundle_by t (Some id) = bundle_of t id

abbrev pub head_bundle : Rows → List SourceFile
head_bundle t = bundle_by t (merged_of t (head_of t))

-- what the judge means by a command, where it is asked
abbrev pub judged_command : Judging → Rows → Command → JudgeAnswer
judged_command j t (SetPolicy approvals book) = j.book book
judged_command j t (Submit base title files) = j.bundle files
judged_command j t (Certify id) = j.run (head_bundle t) (bundle_of t id) (book_of t)
judged_command j t _ = NotAsked

abbrev pub if_asked : Ask → JudgeAnswer → JudgeAnswer
if_asked Nothing a = NotAsked
if_asked _ a = a

abbrev pub answer_of : Judging → State → Request → JudgeAnswer
answer_of j s r = if_asked (ask_of s r) (judged_command j s.tables r.command)

-- the step of the machine, where the judge's question is answered by its meaning
abbrev pub judged : Judging → State → Request → Outcome
judged j s r = step s r (answer_of j s r)

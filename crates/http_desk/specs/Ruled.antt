-- What is replied, as the code has it (private).
use Rattle.std.specs.Prelude.{◌≡◌, ℕ, ◌<◌, List, Option, Some, Result, string_bytes, length, take}
use Rattle.outside.specs.Faults.{Rose}
use Rattle.doors.specs.Door.{Told, giving}
use Rattle.review_rules.specs.State.{State}
use Rattle.review_rules.specs.Judging.{Judging}
use Rattle.desk_requests.specs.declared.refusals.HttpRefusal.{HttpRefusal}
use Rattle.desk_requests.specs.declared.requests.Asked.{Asked}
use Rattle.desk_replies.specs.declared.giving.Media.{Media}
use Rattle.desk_replies.specs.declared.giving.Media.TheVariants.{Json}
use Rattle.desk_replies.specs.Replies.{reply_text, http_code, http_body, store_body, memory_body}
use Rattle.desk_replies.specs.RuleWords.{rule_code}
use Rattle.http_desk.specs.declared.ruling.Ruling.{Ruling}
use Rattle.http_desk.specs.declared.ruling.Ruling.TheVariants.{Done, Broken, Faulty, StoreFault, NoMemory}
use Rattle.http_desk.specs.declared.serving.Served.{Served}
use Rattle.http_desk.specs.declared.serving.Served.TheVariants.{Replied, DoorFault}
use Rattle.http_desk.specs.Answer.{Answered, answered, AsksNew}

abbrev pub ruling_code : Ruling → ℕ
ruling_code (Done media body) = 200
ruling_code (Broken rule body) = rule_code rule
ruling_code (Faulty refusal) = http_code refusal
ruling_code StoreFault = 503
ruling_code NoMemory = 507

abbrev pub ruling_media : Ruling → Media
ruling_media (Done media body) = media
ruling_media _ = Json

abbrev pub ruling_body : Ruling → List ℕ
ruling_body (Done media body) = body
ruling_body (Broken rule body) = string_bytes body
ruling_body (Faulty refusal) = http_body refusal
ruling_body StoreFault = store_body
ruling_body NoMemory = memory_body

abbrev pub ruling_text : Ruling → List ℕ
ruling_text ruling = reply_text (ruling_code ruling) (ruling_media ruling) (ruling_body ruling)

-- the ruling as a reply that leaves this state
abbrev pub as_answer : Ruling → State → Answered
as_answer ruling next = record { code = ruling_code ruling; media = ruling_media ruling; body = ruling_body ruling; next = next }

-- the ruling on what was asked, with the keeper's count of faults before and afterwards
abbrev pub RuledAs : Judging → State → Result Asked HttpRefusal → ℕ → ℕ → Ruling → State → Type 0
RuledAs j s a before now StoreFault next = AsksNew j s a × Rose before now × (next ≡ s)
RuledAs j s a before now NoMemory next = next ≡ s
RuledAs j s a before now (Done media body) next = answered j s a ≡ as_answer (Done media body) next
RuledAs j s a before now (Broken rule body) next = answered j s a ≡ as_answer (Broken rule body) next
RuledAs j s a before now (Faulty refusal) next = answered j s a ≡ as_answer (Faulty refusal) next

-- a ruling on this answer, or want of memory
abbrev pub IsRuling : Answered → State → Ruling → Type 0
IsRuling answer next NoMemory = Unit {0}
IsRuling answer next StoreFault = ⊥
IsRuling answer next (Done media body) = answer ≡ as_answer (Done media body) next
IsRuling answer next (Broken rule body) = answer ≡ as_answer (Broken rule body) next
IsRuling answer next (Faulty refusal) = answer ≡ as_answer (Faulty refusal) next

-- a ruling that was replied to a door
abbrev pub RepliesWith : Told → Ruling → Served → Option Told → Type 0
RepliesWith t ruling (Replied code) now = (code ≡ ruling_code ruling) × (now ≡ Some (giving (ruling_text ruling) t))
RepliesWith t ruling DoorFault now = (k : ℕ) × (k < length (ruling_text ruling)) × (now ≡ Some (giving (take k (ruling_text ruling)) t))

-- What a head asks for: the steps behind its end, up to its fields, in their order.
use Rattle.std.specs.Prelude.{◌≡◌, ◌≤◌, ℕ, ◌&&◌, Bool, true, List, [], codes, Option, Some, None, Result, Ok, Err, map, length, nat_lt, nat_le, not, if◌then◌else◌}
use Rattle.std.specs.List.{list_all}
use Rattle.std.specs.Str.{bytes_eq}
use Rattle.httparse.specs.Grammar.{RequestHead, ReadsRequest}
use Rattle.httparse.specs.Spans.{name_and_value}
use Rattle.net_types.specs.Numerals.{value}
use Rattle.net_types.specs.Names.{is_name_byte}
use Rattle.review_rules.specs.Judging.{is_key}
use Rattle.desk_requests.specs.declared.refusals.HttpRefusal.{HttpRefusal}
use Rattle.desk_requests.specs.declared.refusals.HttpRefusal.TheVariants.{BadRequest, NotFound, BadMethod, NoLength, BodyTooLarge, NoCoding}
use Rattle.desk_requests.specs.declared.requests.Form.{Form}
use Rattle.desk_requests.specs.declared.requests.Path.{Path}
use Rattle.desk_requests.specs.declared.requests.Path.TheVariants.{Get, Post}
use Rattle.desk_requests.specs.declared.requests.Plan.{Plan}
use Rattle.desk_requests.specs.declared.requests.Plan.TheVariants.{Now, Body}
use Rattle.desk_requests.specs.declared.requests.Heard.{Heard}
use Rattle.desk_requests.specs.Numbers.{is_length}
use Rattle.desk_requests.specs.Fields.{count_named, value_named}
use Rattle.desk_requests.specs.Paths.{path_of}

-- a pair of a name and a value for each field
abbrev pub Fields : Type 0
Fields = List (List ℕ × List ℕ)

-- the method is the path's
abbrev pub is_allowed : List ℕ → Path → Bool
is_allowed method (Get query) = bytes_eq method (codes "GET")
is_allowed method (Post form) = bytes_eq method (codes "POST")

-- no field of these names stands more than once
abbrev pub stands_twice : List ℕ → Fields → Bool
stands_twice name fields = nat_lt 1 (count_named name fields)

unfoldable pub stand_once : Fields → Bool
stand_once fields =
    not (stands_twice (codes "x-desk-token") fields) && not (stands_twice (codes "x-desk-key") fields) && not (stands_twice (codes "content-length") fields)

-- the length of a body: one or more digits alone, at most 8,388,608
abbrev pub most_body : ℕ
most_body = 8388608

abbrev pub size_in : List ℕ → Result ℕ HttpRefusal
size_in text =
    if is_length text then (if nat_lt most_body (value text) then Err BodyTooLarge else Ok (value text)) else Err BadRequest

abbrev pub size_of : Option (List ℕ) → Result ℕ HttpRefusal
size_of None = Err NoLength
size_of (Some text) = size_in text

-- the body of a command
abbrev pub body_of : Form → Result ℕ HttpRefusal → Result Plan HttpRefusal
body_of form (Ok size) = Ok (Body form size)
body_of form (Err refusal) = Err refusal

abbrev pub plan_at : List ℕ → Fields → Path → Result Plan HttpRefusal
plan_at key fields (Get query) = Ok (Now query)
plan_at key fields (Post form) =
    if is_key key then body_of form (size_of (value_named (codes "content-length") fields)) else Err BadRequest

abbrev pub fields_plan : List ℕ → Fields → Path → Result Plan HttpRefusal
fields_plan key fields path = if stand_once fields then plan_at key fields path else Err BadRequest

abbrev pub path_plan : List ℕ → List ℕ → Fields → Option Path → Result Plan HttpRefusal
path_plan key method fields None = Err NotFound
path_plan key method fields (Some path) = if is_allowed method path then fields_plan key fields path else Err BadMethod

-- what a head asks for, by its key, method, target and fields: its first refusal, else what is to be done next
unfoldable pub plan_from : List ℕ → List ℕ → List ℕ → Fields → Result Plan HttpRefusal
plan_from key method target fields =
    if nat_lt 0 (count_named (codes "transfer-encoding") fields) then Err NoCoding else path_plan key method fields (path_of target)

-- a token: 1 to 128 bytes of 33 to 126
abbrev pub is_token : List ℕ → Bool
is_token text = nat_le 1 (length text) && nat_le (length text) 128 && list_all is_name_byte text

-- the token, or an empty one where none stands, or one that no user can have
abbrev pub token_in : Option (List ℕ) → List ℕ
token_in None = []
token_in (Some text) = if is_token text then text else []

-- the key, or an empty one where none stands, or what stands is none
abbrev pub key_in : Option (List ℕ) → List ℕ
key_in None = []
key_in (Some text) = if is_key text then text else []

abbrev pub heard_with : List ℕ → List ℕ → Result Plan HttpRefusal → Result Heard HttpRefusal
heard_with token key (Ok plan) = Ok (record { token = token; key = key; plan = plan })
heard_with token key (Err refusal) = Err refusal

abbrev pub heard_as : List ℕ → List ℕ → List ℕ → List ℕ → Fields → Result Heard HttpRefusal
heard_as token key method target fields = heard_with token key (plan_from key method target fields)

-- what a head says
unfoldable pub heard_from : List ℕ → List ℕ → Fields → Result Heard HttpRefusal
heard_from method target fields =
    heard_as (token_in (value_named (codes "x-desk-token") fields)) (key_in (value_named (codes "x-desk-key") fields)) method target fields

abbrev pub planned : Option RequestHead → Result Heard HttpRefusal
planned None = Err BadRequest
planned (Some h) = heard_from h.method h.target (map name_and_value h.fields)

-- the request head that these bytes are as a whole, or none where they are none
abbrev pub IsHeadOf : List ℕ → Option RequestHead → Type 0
IsHeadOf bytes None = (h : RequestHead) → ReadsRequest bytes h [] → ⊥
IsHeadOf bytes (Some h) = ReadsRequest bytes h []

-- what the bytes of a head say
abbrev pub Plans : List ℕ → Result Heard HttpRefusal → Type 0
Plans bytes heard = (o : Option RequestHead) × IsHeadOf bytes o × (heard ≡ planned o)

-- a body that is to be read is not too long, and goes with a key
abbrev pub IsSoundPlan : List ℕ → Plan → Type 0
IsSoundPlan key (Now query) = Unit {0}
IsSoundPlan key (Body form size) = (is_key key ≡ true) × (size ≤ 8388608)

abbrev pub IsSoundHeard : Heard → Type 0
IsSoundHeard heard = IsSoundPlan heard.key heard.plan

-- A command that a conversation asks for is one of which the desk can be asked.
use Rattle.std.proofs.Common.{◌≡◌, ◌≤◌, ◌&&◌, ◌==◌, ℕ, Bool, true, false, List, length, take, drop, Option, None, Some, Result, Ok, Err, Less, Equal, Greater, option_map, option_and_then, ap, ap₂, sym, subst, refl, ◌∙◌, if◌then◌else◌, arith}
use Rattle.std.specs.Prelude.{codes, nat_le, nat_lt}
use Rattle.std.specs.List.{list_all}
use Rattle.std.specs.Ordering.{is_lt, match_ordering, ordering_reverse}
use Rattle.std.specs.Str.{is_utf8}
use Rattle.std.specs.declared.cmp.Ordering.{Ordering}
use Rattle.std.proofs.lemmas.Bool.Decides.{nat_tests}
use Rattle.std.proofs.lemmas.Cmp.{nat_list_cmp_total}
use Rattle.std.proofs.lemmas.List.Elements.{All-cons, All-nil}
use Rattle.json.specs.Lex.{tokens}
use Rattle.json.specs.Json as json
use Rattle.serde_json.specs.Data.{Num, Data, null, boolean, number, string, array, object, Items, Members, no_members, member, put}
use Rattle.serde_json.specs.Read.{number_of, of_json, of_items, of_members, max_depth, read}
use Rattle.serde_json.specs.Find.{get_member, as_str, as_object}
use Rattle.serde_json.specs.Events.{members_len}
use Rattle.net_types.specs.Names.{is_host}
use Rattle.net_types.specs.declared.config.SourceFile.{SourceFile}
use Rattle.desk_tables.specs.Order.{text_cmp, after}
use Rattle.review_rules.specs.Judging.{IsRequest, IsCommand, HasHostName, is_key}
use Rattle.review_rules.specs.declared.requests.Request.{Request}
use Rattle.review_rules.specs.declared.requests.Command.{Command}
use Rattle.review_rules.specs.declared.requests.Command.TheVariants.{SetPolicy, Submit, Certify, Approve, Merge, Withdraw}
use Rattle.desk_requests.specs.Head.{framed}
use Rattle.desk_requests.specs.Paths.{path_of}
use Rattle.desk_requests.specs.Fields.{value_named}
use Rattle.desk_requests.specs.Plans.{Fields, Plans, heard_from, heard_with, plan_from, path_plan, fields_plan, plan_at, body_of, size_of, is_allowed, stand_once, token_in, key_in}
use Rattle.desk_requests.specs.Bodies.{AreFiles, file_with, with_file, files_in, files_at, text_at, number_at, members_of, data_of, if_count, policy_with, policy_in, submit_with, submit_in, plain_in, command_with, command_in, command_of}
use Rattle.desk_requests.specs.Asks.{Asks, AsksFramed, asked, asked_with, with_command, commanded}
use Rattle.desk_requests.specs.declared.refusals.HttpRefusal.{HttpRefusal}
use Rattle.desk_requests.specs.declared.refusals.HttpRefusal.TheVariants.{BadRequest}
use Rattle.desk_requests.specs.declared.requests.Asked.{Asked}
use Rattle.desk_requests.specs.declared.requests.Asked.TheVariants.{Query as AskedQuery, Command as AskedCommand}
use Rattle.desk_requests.specs.declared.requests.Form.{Form}
use Rattle.desk_requests.specs.declared.requests.Form.TheVariants.{SetPolicy as PolicyForm, Submit as SubmitForm, Certify as CertifyForm, Approve as ApproveForm, Merge as MergeForm, Withdraw as WithdrawForm}
use Rattle.desk_requests.specs.declared.requests.Heard.{Heard}
use Rattle.desk_requests.specs.declared.requests.Path.{Path}
use Rattle.desk_requests.specs.declared.requests.Path.TheVariants.{Get, Post}
use Rattle.desk_requests.specs.declared.requests.Plan.{Plan}
use Rattle.desk_requests.specs.declared.requests.Plan.TheVariants.{Now, Body}

-- ---- the members of an object ascend, and those of each value in it

-- the keys of the members come after this one
abbrev IsAfter : List ℕ → Members → Type 0
IsAfter k no_members = Unit {0}
IsAfter k (member l e ms) = (text_cmp k l ≡ Less) × IsAfter k ms

abbrev mutual
  IsOrdered : Data → Type 0
  IsOrdered null = Unit {0}
  IsOrdered (boolean b) = Unit {0}
  IsOrdered (number n) = Unit {0}
  IsOrdered (string s) = Unit {0}
  IsOrdered (array ds) = Unit {0}
  IsOrdered (object ms) = AreOrdered ms

  AreOrdered : Members → Type 0
  AreOrdered no_members = Unit {0}
  AreOrdered (member k d ms) = IsOrdered d × IsAfter k ms × AreOrdered ms

abbrev OrderedIn : Option Data → Type 0
OrderedIn None = Unit {0}
OrderedIn (Some d) = IsOrdered d

abbrev MembersIn : Option Members → Type 0
MembersIn None = Unit {0}
MembersIn (Some ms) = AreOrdered ms

after_first : (k l : List ℕ) (ms : Members) → text_cmp k l ≡ Less → IsAfter l ms → IsAfter k ms
after_first k l no_members less h = tt
after_first k l (member n e ms) less h = (nat_list_cmp_total.trans k l n less h.0, after_first k l ms less h.1)

other_way : (k l : List ℕ) → text_cmp k l ≡ Greater → text_cmp l k ≡ Less
other_way k l more = nat_list_cmp_total.antisymm l k ∙ ap ordering_reverse more

put_after : (l k : List ℕ) (d : Data) (ms : Members) → text_cmp l k ≡ Less → IsAfter l ms → IsAfter l (put k d ms)
put_after l k d no_members less h = (less, tt)
put_after l k d (member n e ms) less h = by_case (text_cmp k n) (put_after l k d ms less h.1)
  where
    by_case : (c : Ordering) → IsAfter l (put k d ms) → IsAfter l (match_ordering c (member k d (member n e ms)) (member n d ms) (member n e (put k d ms)))
    by_case Less rest = (less, h)
    by_case Equal rest = h
    by_case Greater rest = (h.0, rest)

put_ordered : (k : List ℕ) (d : Data) (ms : Members) → IsOrdered d → AreOrdered ms → AreOrdered (put k d ms)
put_ordered k d no_members o h = (o, tt, tt)
put_ordered k d (member l e ms) o h = by_case (text_cmp k l) refl (put_ordered k d ms o h.2)
  where
    by_case : (c : Ordering) → text_cmp k l ≡ c → AreOrdered (put k d ms) → AreOrdered (match_ordering c (member k d (member l e ms)) (member l d ms) (member l e (put k d ms)))
    by_case Less is rest = (o, (is, after_first k l ms is h.1), h)
    by_case Equal is rest = (o, h.1, h.2)
    by_case Greater is rest = (h.0, put_after l k d ms (other_way k l is) h.1, rest)

in_object : (o : Option Members) → MembersIn o → OrderedIn (option_map object o)
in_object None h = tt
in_object (Some ms) h = h

in_array : (o : Option Items) → OrderedIn (option_map array o)
in_array None = tt
in_array (Some ds) = tt

in_number : (o : Option Num) → OrderedIn (option_map number o)
in_number None = tt
in_number (Some n) = tt

in_members : (o : Option Data) (f : Data → Option Members) → OrderedIn o → ((d : Data) → IsOrdered d → MembersIn (f d)) → MembersIn (option_and_then f o)
in_members None f h g = tt
in_members (Some d) f h g = g d h

mutual
  json_ordered : (j : json.Json) → OrderedIn (of_json j)
  json_ordered json.null = tt
  json_ordered (json.boolean b) = tt
  json_ordered (json.number s) = in_number (number_of s)
  json_ordered (json.string s) = tt
  json_ordered (json.array js) = in_array (of_items js)
  json_ordered (json.object ms) = in_object (of_members ms no_members) (members_ordered ms no_members tt)

  members_ordered : (ms : json.Members) (found : Members) → AreOrdered found → MembersIn (of_members ms found)
  members_ordered json.no_members found h = h
  members_ordered (json.member k j ms) found h =
      in_members (of_json j) (λ d. of_members ms (put k d found)) (json_ordered j) (λ d o. members_ordered ms (put k d found) (put_ordered k d found o h))

json_in : (o : Option json.Json) → OrderedIn (option_and_then of_json o)
json_in None = tt
json_in (Some j) = json_ordered j

object_in : (o : Option Data) → OrderedIn o → MembersIn (option_and_then as_object o)
object_in None h = tt
object_in (Some null) h = tt
object_in (Some (boolean b)) h = tt
object_in (Some (number n)) h = tt
object_in (Some (string s)) h = tt
object_in (Some (array ds)) h = tt
object_in (Some (object ms)) h = h

text_ordered : (b : Bool) (o : Option Data) → OrderedIn o → OrderedIn (if b then o else None)
text_ordered true o h = h
text_ordered false o h = tt

body_ordered : (text : List ℕ) → MembersIn (members_of text)
unfolding members_of
body_ordered text = object_in (data_of text) (text_ordered (is_utf8 text) (read text) (json_in (option_and_then (λ p. json.if_last p.0 p.1) (json.value max_depth (tokens text)))))

found_ordered : (k : List ℕ) (ms : Members) → AreOrdered ms → OrderedIn (get_member k ms)
found_ordered k no_members h = tt
found_ordered k (member l e ms) h = by_case (text_cmp k l) (found_ordered k ms h.2)
  where
    by_case : (c : Ordering) → OrderedIn (get_member k ms) → OrderedIn (match_ordering c (get_member k ms) (Some e) (get_member k ms))
    by_case Less rest = rest
    by_case Equal rest = h.0
    by_case Greater rest = rest

-- ---- the files of a body

abbrev name_of : SourceFile → List ℕ
name_of f = f.name

abbrev AreAbove : List ℕ → Option (List SourceFile) → Type 0
AreAbove k None = Unit {0}
AreAbove k (Some files) = list_all (after text_cmp name_of k) files ≡ true

above_with : (k key text : List ℕ) (b : Bool) (rest : Option (List SourceFile)) → text_cmp k key ≡ Less → AreAbove k rest → AreAbove k (with_file (if b then Some (record { name = key; text = text }) else None) rest)
above_with k key text false rest less h = tt
above_with k key text true None less h = tt
above_with k key text true (Some files) less h = ap₂ (λ a b. a && b) (ap is_lt less) h

above_more : (k key : List ℕ) (v : Option (List ℕ)) (rest : Option (List SourceFile)) → text_cmp k key ≡ Less → AreAbove k rest → AreAbove k (with_file (file_with key v) rest)
above_more k key None rest less h = tt
above_more k key (Some text) rest less h = above_with k key text (is_host key) rest less h

above : (k : List ℕ) (ms : Members) → IsAfter k ms → AreAbove k (files_in ms)
above k no_members h = refl
above k (member l e ms) h = above_more k l (as_str e) (files_in ms) h.0 (above k ms h.1)

sound_with : (key text : List ℕ) (b : Bool) (rest : Option (List SourceFile)) → is_host key ≡ b → AreAbove key rest → AreFiles rest → AreFiles (with_file (if b then Some (record { name = key; text = text }) else None) rest)
sound_with key text false rest e a h = tt
sound_with key text true None e a h = tt
sound_with key text true (Some files) e a h = ((a, h.0), All-cons HasHostName (record { name = key; text = text }) files e h.1)

sound_more : (key : List ℕ) (v : Option (List ℕ)) (rest : Option (List SourceFile)) → AreAbove key rest → AreFiles rest → AreFiles (with_file (file_with key v) rest)
sound_more key None rest a h = tt
sound_more key (Some text) rest a h = sound_with key text (is_host key) rest refl a h

files_sound : (ms : Members) → AreOrdered ms → AreFiles (files_in ms)
files_sound no_members h = (tt, All-nil HasHostName)
files_sound (member k d ms) h = sound_more k (as_str d) (files_in ms) (above k ms h.1) (files_sound ms h.2)

files_of_object : (o : Option Members) → MembersIn o → AreFiles (option_and_then files_in o)
files_of_object None h = tt
files_of_object (Some ms) h = files_sound ms h

files_at_sound : (key : List ℕ) (ms : Members) → AreOrdered ms → AreFiles (files_at key ms)
unfolding files_at
files_at_sound key ms h = files_of_object (option_and_then as_object (get_member key ms)) (object_in (get_member key ms) (found_ordered key ms h))

-- ---- the command of a body

abbrev CommandIn : Result Command HttpRefusal → Type 0
CommandIn (Err refusal) = Unit {0}
CommandIn (Ok command) = IsCommand command

if_command : (b : Bool) (command : Command) → IsCommand command → CommandIn (if b then Ok command else Err BadRequest)
if_command true command h = h
if_command false command h = tt

policy_sound : (approvals : Option ℕ) (book : Option (List ℕ)) (count : ℕ) → CommandIn (policy_with approvals book count)
policy_sound None book count = tt
policy_sound (Some approvals) None count = tt
policy_sound (Some approvals) (Some book) count = if_command (count == 2) (SetPolicy approvals book) tt

submit_sized : (b : Bool) (base : ℕ) (title : List ℕ) (files : List SourceFile) (count : ℕ) → nat_le (length title) 200 ≡ b → AreFiles (Some files) → CommandIn (if b then if_count 3 count (Submit base title files) else Err BadRequest)
submit_sized false base title files count is h = tt
submit_sized true base title files count is h =
    let short : length title ≤ 200 = grind (arith, nat_tests) in
    if_command (count == 3) (Submit base title files) (short, h.0, h.1)

submit_sound : (base : Option ℕ) (title : Option (List ℕ)) (files : Option (List SourceFile)) (count : ℕ) → AreFiles files → CommandIn (submit_with base title files count)
submit_sound None title files count h = tt
submit_sound (Some base) None files count h = tt
submit_sound (Some base) (Some title) None count h = tt
submit_sound (Some base) (Some title) (Some files) count h = submit_sized (nat_le (length title) 200) base title files count refl h

form_sound : (form : Form) (ms : Members) → AreOrdered ms → CommandIn (command_with form ms)
unfolding policy_in submit_in plain_in
form_sound PolicyForm ms h = policy_sound (number_at (codes "approvals") ms) (text_at (codes "properties") ms) (members_len ms)
form_sound SubmitForm ms h = submit_sound (number_at (codes "base") ms) (text_at (codes "title") ms) (files_at (codes "files") ms) (members_len ms) (files_at_sound (codes "files") ms h)
form_sound (CertifyForm id) ms h = if_command (members_len ms == 0) (Certify id) tt
form_sound (ApproveForm id) ms h = if_command (members_len ms == 0) (Approve id) tt
form_sound (MergeForm id) ms h = if_command (members_len ms == 0) (Merge id) tt
form_sound (WithdrawForm id) ms h = if_command (members_len ms == 0) (Withdraw id) tt

members_sound : (form : Form) (o : Option Members) → MembersIn o → CommandIn (command_in form o)
members_sound form None h = tt
members_sound form (Some ms) h = form_sound form ms h

commanded_sized : (b : Bool) (c : Result Command HttpRefusal) → CommandIn c → CommandIn (if b then Err BadRequest else c)
commanded_sized true c h = tt
commanded_sized false c h = h

commanded_sound : (form : Form) (size : ℕ) (rest : List ℕ) → CommandIn (commanded form size rest)
commanded_sound form size rest = commanded_sized (nat_lt (length rest) size) (command_of form (take size rest)) (members_sound form (members_of (take size rest)) (body_ordered (take size rest)))

-- ---- the key of a head

abbrev HasKey : List ℕ → Plan → Type 0
HasKey key (Now query) = Unit {0}
HasKey key (Body form size) = is_key key ≡ true

abbrev KeyIn : List ℕ → Result Plan HttpRefusal → Type 0
KeyIn key (Err refusal) = Unit {0}
KeyIn key (Ok plan) = HasKey key plan

abbrev HeardIn : Result Heard HttpRefusal → Type 0
HeardIn (Err refusal) = Unit {0}
HeardIn (Ok heard) = HasKey heard.key heard.plan

key_of_body : (key : List ℕ) (form : Form) (size : Result ℕ HttpRefusal) → is_key key ≡ true → KeyIn key (body_of form size)
key_of_body key form (Ok size) is = is
key_of_body key form (Err refusal) is = tt

key_tested : (b : Bool) (key : List ℕ) (form : Form) (size : Result ℕ HttpRefusal) → is_key key ≡ b → KeyIn key (if b then body_of form size else Err BadRequest)
key_tested true key form size is = key_of_body key form size is
key_tested false key form size is = tt

plan_sound : (key : List ℕ) (fields : Fields) (path : Path) → KeyIn key (plan_at key fields path)
plan_sound key fields (Get query) = tt
plan_sound key fields (Post form) = key_tested (is_key key) key form (size_of (value_named (codes "content-length") fields)) refl

unless_refused : (b : Bool) (key : List ℕ) (refusal : HttpRefusal) (plan : Result Plan HttpRefusal) → KeyIn key plan → KeyIn key (if b then plan else Err refusal)
unless_refused true key refusal plan h = h
unless_refused false key refusal plan h = tt

path_sound : (key method : List ℕ) (fields : Fields) (path : Option Path) → KeyIn key (path_plan key method fields path)
path_sound key method fields None = tt
path_sound key method fields (Some path) =
    unless_refused (is_allowed method path) key _ (fields_plan key fields path) (unless_refused (stand_once fields) key _ (plan_at key fields path) (plan_sound key fields path))

coded : (b : Bool) (key : List ℕ) (refusal : HttpRefusal) (plan : Result Plan HttpRefusal) → KeyIn key plan → KeyIn key (if b then Err refusal else plan)
coded true key refusal plan h = tt
coded false key refusal plan h = h

plan_from_sound : (key method target : List ℕ) (fields : Fields) → KeyIn key (plan_from key method target fields)
unfolding plan_from
plan_from_sound key method target fields = coded _ key _ (path_plan key method fields (path_of target)) (path_sound key method fields (path_of target))

heard_sound : (token key : List ℕ) (plan : Result Plan HttpRefusal) → KeyIn key plan → HeardIn (heard_with token key plan)
heard_sound token key (Ok plan) h = h
heard_sound token key (Err refusal) h = tt

head_sound : (method target : List ℕ) (fields : Fields) → HeardIn (heard_from method target fields)
unfolding heard_from
head_sound method target fields =
    let token = token_in (value_named (codes "x-desk-token") fields) in
    let key = key_in (value_named (codes "x-desk-key") fields) in
    heard_sound token key (plan_from key method target fields) (plan_from_sound key method target fields)

planned_sound : (bytes : List ℕ) (heard : Result Heard HttpRefusal) → Plans bytes heard → HeardIn heard
planned_sound bytes heard (None, head, is) = subst HeardIn (sym is) tt
planned_sound bytes heard (Some h, head, is) = subst HeardIn (sym is) (head_sound h.method h.target _)

-- ---- what is asked

abbrev SoundIn : Result Asked HttpRefusal → Type 0
SoundIn (Err refusal) = Unit {0}
SoundIn (Ok (AskedQuery token query)) = Unit {0}
SoundIn (Ok (AskedCommand request)) = IsRequest request

request_sound : (token key : List ℕ) (c : Result Command HttpRefusal) → is_key key ≡ true → CommandIn c → SoundIn (with_command token key c)
request_sound token key (Err refusal) is h = tt
request_sound token key (Ok command) is h = record { key = is; command = h }

asked_with_sound : (token key : List ℕ) (plan : Plan) (rest : List ℕ) → HasKey key plan → SoundIn (asked_with token key plan rest)
asked_with_sound token key (Now query) rest h = tt
asked_with_sound token key (Body form size) rest h = request_sound token key (commanded form size rest) h (commanded_sound form size rest)

asked_sound : (heard : Result Heard HttpRefusal) (rest : List ℕ) → HeardIn heard → SoundIn (asked heard rest)
asked_sound (Err refusal) rest h = tt
asked_sound (Ok heard) rest h = asked_with_sound heard.token heard.key heard.plan rest h

framed_sound : (input : List ℕ) (frame : Result ℕ HttpRefusal) (a : Result Asked HttpRefusal) → AsksFramed input frame a → SoundIn a
framed_sound input (Err refusal) a x = subst SoundIn (sym x) tt
framed_sound input (Ok n) a (heard, plans, x) = subst SoundIn (sym x) (asked_sound heard (drop n input) (planned_sound (take n input) heard plans))

pub asks_sound : (input : List ℕ) (r : Request) → Asks input (Ok (AskedCommand r)) → IsRequest r
asks_sound input r asks = framed_sound input (framed input) (Ok (AskedCommand r)) asks

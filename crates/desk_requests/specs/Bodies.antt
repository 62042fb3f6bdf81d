-- What the body of a command says: one object of JSON with exactly the command's fields.
use Rattle.std.specs.Prelude.{ℕ, ◌==◌, List, [], ◌∷◌, ◌++◌, Option, None, Some, Result, Ok, Err, All, codes, length, nat_le, option_and_then, if◌then◌else◌}
use Rattle.std.specs.Str.{is_utf8}
use Rattle.serde_json.specs.Data.{Data, Members, object, member, no_members}
use Rattle.serde_json.specs.Read.{read}
use Rattle.serde_json.specs.Find.{get_member, as_number, as_u64, as_str, as_object}
use Rattle.serde_json.specs.Events.{members_len}
use Rattle.net_types.specs.Names.{is_host}
use Rattle.net_types.specs.declared.config.SourceFile.{SourceFile}
use Rattle.review_rules.specs.Judging.{NamesAscend, HasHostName}
use Rattle.review_rules.specs.declared.requests.Command.{Command}
use Rattle.review_rules.specs.declared.requests.Command.TheVariants.{SetPolicy, Submit, Certify, Approve, Merge, Withdraw}
use Rattle.desk_requests.specs.declared.refusals.HttpRefusal.{HttpRefusal}
use Rattle.desk_requests.specs.declared.refusals.HttpRefusal.TheVariants.{BadRequest}
use Rattle.desk_requests.specs.declared.requests.Form.{Form}
use Rattle.desk_requests.specs.declared.requests.Form.TheVariants.{SetPolicy as PolicyForm, Submit as SubmitForm, Certify as CertifyForm, Approve as ApproveForm, Merge as MergeForm, Withdraw as WithdrawForm}

-- the value of a text, which is UTF-8
abbrev pub data_of : List ℕ → Option Data
data_of text = if is_utf8 text then read text else None

-- the members of a text that is one object
unfoldable pub members_of : List ℕ → Option Members
members_of text = option_and_then as_object (data_of text)

-- the number and the text at a key
abbrev pub number_at : List ℕ → Members → Option ℕ
number_at key m = option_and_then as_u64 (option_and_then as_number (get_member key m))

abbrev pub text_at : List ℕ → Members → Option (List ℕ)
text_at key m = option_and_then as_str (get_member key m)

-- ---- the files: an object from names of hosts to texts

abbrev pub file_with : List ℕ → Option (List ℕ) → Option SourceFile
file_with name None = None
file_with name (Some text) = if is_host name then Some (record { name = name; text = text }) else None

abbrev pub with_file : Option SourceFile → Option (List SourceFile) → Option (List SourceFile)
with_file None files = None
with_file (Some file) None = None
with_file (Some file) (Some files) = Some (file ∷ files)

-- the files that the members are, in their order, which is that of the bytes of their names; none where a member is no file
abbrev pub files_in : Members → Option (List SourceFile)
files_in no_members = Some []
files_in (member key value more) = with_file (file_with key (as_str value)) (files_in more)

unfoldable pub files_at : List ℕ → Members → Option (List SourceFile)
files_at key m = option_and_then files_in (option_and_then as_object (get_member key m))

-- the files of a command: their names are those of hosts, and ascend
abbrev pub AreFiles : Option (List SourceFile) → Type 0
AreFiles None = Unit {0}
AreFiles (Some files) = NamesAscend files × All HasHostName files

-- what is done, and then what is left
abbrev pub behind : List SourceFile → Option (List SourceFile) → Option (List SourceFile)
behind done None = None
behind done (Some files) = Some (done ++ files)

-- ---- the commands

-- a value of each field, and no other field
abbrev pub if_count : ℕ → ℕ → Command → Result Command HttpRefusal
if_count wanted count command = if count == wanted then Ok command else Err BadRequest

-- `approvals`, a number below 2^64, and `properties`, a text
abbrev pub policy_with : Option ℕ → Option (List ℕ) → ℕ → Result Command HttpRefusal
policy_with None book count = Err BadRequest
policy_with (Some approvals) None count = Err BadRequest
policy_with (Some approvals) (Some book) count = if_count 2 count (SetPolicy approvals book)

-- `base`, a number below 2^64, `title`, a text of at most 200 bytes, and `files`
abbrev pub submit_with : Option ℕ → Option (List ℕ) → Option (List SourceFile) → ℕ → Result Command HttpRefusal
submit_with None title files count = Err BadRequest
submit_with (Some base) None files count = Err BadRequest
submit_with (Some base) (Some title) None count = Err BadRequest
submit_with (Some base) (Some title) (Some files) count =
    if nat_le (length title) 200 then if_count 3 count (Submit base title files) else Err BadRequest

unfoldable pub policy_in : Members → Result Command HttpRefusal
policy_in m = policy_with (number_at (codes "approvals") m) (text_at (codes "properties") m) (members_len m)

unfoldable pub submit_in : Members → Result Command HttpRefusal
submit_in m = submit_with (number_at (codes "base") m) (text_at (codes "title") m) (files_at (codes "files") m) (members_len m)

-- no field
unfoldable pub plain_in : Command → Members → Result Command HttpRefusal
plain_in command m = if_count 0 (members_len m) command

abbrev pub command_with : Form → Members → Result Command HttpRefusal
command_with PolicyForm m = policy_in m
command_with SubmitForm m = submit_in m
command_with (CertifyForm id) m = plain_in (Certify id) m
command_with (ApproveForm id) m = plain_in (Approve id) m
command_with (MergeForm id) m = plain_in (Merge id) m
command_with (WithdrawForm id) m = plain_in (Withdraw id) m

abbrev pub command_in : Form → Option Members → Result Command HttpRefusal
command_in form None = Err BadRequest
command_in form (Some m) = command_with form m

-- the command of a body
abbrev pub command_of : Form → List ℕ → Result Command HttpRefusal
command_of form body = command_in form (members_of body)

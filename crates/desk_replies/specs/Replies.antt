-- The bytes of a reply, and the body of a refusal.
use Rattle.std.specs.Prelude.{ℕ, List, [], ◌++◌, codes, decimal, length}
use Rattle.std.specs.Option.{unwrap_or}
use Rattle.http.specs.StatusCode.{reason_phrase}
use Rattle.serde_json.specs.Data.{object, member, no_members, string, number, unsigned}
use Rattle.serde_json.specs.Written.{compact_text}
use Rattle.desk_requests.specs.declared.refusals.HttpRefusal.{HttpRefusal}
use Rattle.desk_requests.specs.declared.refusals.HttpRefusal.TheVariants.{BadRequest, NotFound, BadMethod, NoLength, BodyTooLarge, HeadTooLarge, NoCoding}
use Rattle.desk_replies.specs.declared.giving.Media.{Media}
use Rattle.desk_replies.specs.declared.giving.Media.TheVariants.{Json, Plain}

-- the phrase of a code, as `http` has it
abbrev pub phrase : ℕ → List ℕ
phrase code = unwrap_or (reason_phrase code) []

-- the status line, without its end
abbrev pub status_line : ℕ → List ℕ
status_line code = (codes "HTTP/1.1 " ++ decimal code) ++ (codes " " ++ phrase code)

-- its end, and the field of the body's kind, up to the number of its bytes
abbrev pub kind_line : Media → List ℕ
kind_line Json = codes "\r\ncontent-type: application/json\r\ncontent-length: "
kind_line Plain = codes "\r\ncontent-type: text/plain\r\ncontent-length: "

abbrev pub content : Media → List ℕ → List ℕ
content media body = (kind_line media ++ decimal (length body)) ++ (codes "\r\nconnection: close\r\n\r\n" ++ body)

-- a whole reply
unfoldable pub reply_text : ℕ → Media → List ℕ → List ℕ
reply_text code media body = status_line code ++ content media body

-- the body of a reply that is no 200: the name, the number of the rule that broke, or 0, and what goes with it
unfoldable pub refusal_body : List ℕ → ℕ → List ℕ → List ℕ
refusal_body name rule value =
    compact_text (object (member (codes "name") (string name) (member (codes "rule") (number (unsigned rule)) (member (codes "value") (string value) no_members))))

-- the code and the name of a refusal that comes before the rules
abbrev pub http_code : HttpRefusal → ℕ
http_code BadRequest = 400
http_code NotFound = 404
http_code BadMethod = 405
http_code NoLength = 411
http_code BodyTooLarge = 413
http_code HeadTooLarge = 431
http_code NoCoding = 501

abbrev pub http_name : HttpRefusal → List ℕ
http_name BadRequest = codes "BadRequest"
http_name NotFound = codes "NotFound"
http_name BadMethod = codes "BadMethod"
http_name NoLength = codes "NoLength"
http_name BodyTooLarge = codes "BodyTooLarge"
http_name HeadTooLarge = codes "HeadTooLarge"
http_name NoCoding = codes "NoCoding"

abbrev pub http_body : HttpRefusal → List ℕ
http_body refusal = refusal_body (http_name refusal) 0 []

-- the body of 503, where the keeper failed, and of 507, for want of memory
abbrev pub store_body : List ℕ
store_body = refusal_body (codes "StoreFault") 0 []

abbrev pub memory_body : List ℕ
memory_body = refusal_body (codes "NoMemory") 0 []

-- The texts of refusals that need no memory.
use Rattle.std.proofs.Common.{◌≡◌, codes, refl}
use Rattle.std.specs.Fmt.{digits}
use Rattle.serde_json.proofs.OnLiterals.{serde_json_on_literals}
use Rattle.desk_replies.specs.Replies.{refusal_body, http_body, store_body, memory_body}
use Rattle.desk_requests.specs.declared.refusals.HttpRefusal.TheVariants.{BadRequest, NotFound, BadMethod, NoLength, BodyTooLarge, HeadTooLarge, NoCoding}

pub text_BadRequest : codes "{\"name\":\"BadRequest\",\"rule\":0,\"value\":\"\"}" ≡ http_body BadRequest
unfolding serde_json_on_literals refusal_body digits
text_BadRequest = refl

pub text_NotFound : codes "{\"name\":\"NotFound\",\"rule\":0,\"value\":\"\"}" ≡ http_body NotFound
unfolding serde_json_on_literals refusal_body digits
text_NotFound = refl

pub text_BadMethod : codes "{\"name\":\"BadMethod\",\"rule\":0,\"value\":\"\"}" ≡ http_body BadMethod
unfolding serde_json_on_literals refusal_body digits
text_BadMethod = refl

pub text_NoLength : codes "{\"name\":\"NoLength\",\"rule\":0,\"value\":\"\"}" ≡ http_body NoLength
unfolding serde_json_on_literals refusal_body digits
text_NoLength = refl

pub text_BodyTooLarge : codes "{\"name\":\"BodyTooLarge\",\"rule\":0,\"value\":\"\"}" ≡ http_body BodyTooLarge
unfolding serde_json_on_literals refusal_body digits
text_BodyTooLarge = refl

pub text_HeadTooLarge : codes "{\"name\":\"HeadTooLarge\",\"rule\":0,\"value\":\"\"}" ≡ http_body HeadTooLarge
unfolding serde_json_on_literals refusal_body digits
text_HeadTooLarge = refl

pub text_NoCoding : codes "{\"name\":\"NoCoding\",\"rule\":0,\"value\":\"\"}" ≡ http_body NoCoding
unfolding serde_json_on_literals refusal_body digits
text_NoCoding = refl

pub text_StoreFault : codes "{\"name\":\"StoreFault\",\"rule\":0,\"value\":\"\"}" ≡ store_body
unfolding serde_json_on_literals refusal_body digits
text_StoreFault = refl

pub text_NoMemory : codes "{\"name\":\"NoMemory\",\"rule\":0,\"value\":\"\"}" ≡ memory_body
unfolding serde_json_on_literals refusal_body digits
text_NoMemory = refl

use Rattle.std.proofs.Common.{◌∙◌, ap, sym}
use Rattle.desk_replies.specs.Replies.{http_body}
use Rattle.desk_replies.proofs.TextLemmas.{text_BadRequest, text_NotFound, text_BadMethod, text_NoLength, text_BodyTooLarge, text_HeadTooLarge, text_NoCoding}
use Rattle.desk_replies.proofs.refusals.http_body.Goals as goal

pub returns-in-BadRequest : goal.returns-in-BadRequest
returns-in-BadRequest c = text_BadRequest ∙ ap http_body (sym c.in-BadRequest.is)

pub returns-in-NotFound : goal.returns-in-NotFound
returns-in-NotFound c = text_NotFound ∙ ap http_body (sym c.in-NotFound.is)

pub returns-in-BadMethod : goal.returns-in-BadMethod
returns-in-BadMethod c = text_BadMethod ∙ ap http_body (sym c.in-BadMethod.is)

pub returns-in-NoLength : goal.returns-in-NoLength
returns-in-NoLength c = text_NoLength ∙ ap http_body (sym c.in-NoLength.is)

pub returns-in-BodyTooLarge : goal.returns-in-BodyTooLarge
returns-in-BodyTooLarge c = text_BodyTooLarge ∙ ap http_body (sym c.in-BodyTooLarge.is)

pub returns-in-HeadTooLarge : goal.returns-in-HeadTooLarge
returns-in-HeadTooLarge c = text_HeadTooLarge ∙ ap http_body (sym c.in-HeadTooLarge.is)

pub returns-in-NoCoding : goal.returns-in-NoCoding
returns-in-NoCoding c = text_NoCoding ∙ ap http_body (sym c.in-NoCoding.is)

use Rattle.std.proofs.Common.{ap, ◌∙◌}
use Rattle.serde_json.specs.Written.{has_float, compact_text}
use Rattle.desk_replies.specs.Views.{review_body}
use Rattle.desk_replies.proofs.NameLemmas.{review_plain}
use Rattle.desk_replies.proofs.views.review_body.Goals as goal

pub returns : goal.returns
unfolding review_body
returns c =
    let plain = ap has_float c.in_ok-value.ensures ∙ review_plain c.args.desk.now.state.tables c.args.review.now in
    c.in_ok-to_string.ensures.text plain ∙ ap compact_text c.in_ok-value.ensures

use Rattle.std.proofs.Common.{ap, sym, ◌∙◌}
use Rattle.std.proofs.lemmas.Result.{IfOk-weaker}
use Rattle.command_words.specs.Line.{line_of}
use Rattle.command_words.specs.Serving.{serving_of}
use Rattle.command_words.proofs.WordLemmas.{six}
use Rattle.command_words.proofs.serving.serving_of.Goals as goal

pub serve_of-requires-in-len6 : goal.serve_of-requires-in-len6
serve_of-requires-in-len6 c =
    c.requires ∙ ap line_of (six c.args.words.now _ _ _ _ _ _ c.in-len6.len_at_least c.in-len6.len_below c.word-item-then-words-lt7.is c.store-item-then-words-lt7.is c.port-item-then-words-lt7.is c.count-item-then-words-lt7.is c.users-item-then-words-lt7.is c.last-item.is)

pub returns-in-len6-clause-value : goal.returns-in-len6-clause-value
returns-in-len6-clause-value c =
    let words = six c.args.words.now _ _ _ _ _ _ c.in-len6.len_at_least c.in-len6.len_below c.word-item-then-words-lt7.is c.store-item-then-words-lt7.is c.port-item-then-words-lt7.is c.count-item-then-words-lt7.is c.users-item-then-words-lt7.is c.last-item.is in
    IfOk-weaker c.serve_of-in-len6.result _ _ (λ asked is. is ∙ sym (ap serving_of words)) c.serve_of-in-len6.ensures.value

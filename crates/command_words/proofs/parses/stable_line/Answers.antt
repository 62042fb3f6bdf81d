use Rattle.std.proofs.Common.{ap, ap₂, ◌∙◌}
use Rattle.std.proofs.lemmas.Result.{IfErr-weaker, IfOk-weaker}
use Rattle.clap.specs.Words.{is_simple, matches_of, takes}
use Rattle.command_words.proofs.ParseLemmas.{stable_found, stable_taken}
use Rattle.command_words.proofs.parses.stable_line.Goals as goal

pub returns-clause-ok : goal.returns-clause-ok
returns-clause-ok c = λ word a b is.
    let app = c.in_ok-command.ensures in
    IfOk-weaker c.try_get_matches_from.result _ _ (λ m h. stable_found m word a b ((h (ap is_simple app)).0 ∙ ap₂ matches_of app is)) c.try_get_matches_from.ensures.matches

pub returns-clause-err : goal.returns-clause-err
returns-clause-err c = λ word a b is.
    let app = c.in_ok-command.ensures in
    IfErr-weaker c.try_get_matches_from.result _ _ (λ e h. h (ap₂ takes app is ∙ stable_taken word a b)) c.try_get_matches_from.ensures.passes

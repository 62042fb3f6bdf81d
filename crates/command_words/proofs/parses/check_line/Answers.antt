use Rattle.std.proofs.Common.{ap, ap₂, ◌∙◌}
use Rattle.std.proofs.lemmas.Result.{IfErr-weaker, IfOk-weaker}
use Rattle.clap.specs.Words.{is_simple, matches_of, takes}
use Rattle.command_words.proofs.ParseLemmas.{check_found, check_taken}
use Rattle.command_words.proofs.parses.check_line.Goals as goal

pub returns-clause-ok : goal.returns-clause-ok
returns-clause-ok c = λ word a b d last is.
    let app = c.in_ok-command.ensures in
    IfOk-weaker c.try_get_matches_from.result _ _ (λ m h. check_found m word a b d last ((h (ap is_simple app)).0 ∙ ap₂ matches_of app is)) c.try_get_matches_from.ensures.matches

pub returns-clause-err : goal.returns-clause-err
returns-clause-err c = λ word a b d last is.
    let app = c.in_ok-command.ensures in
    IfErr-weaker c.try_get_matches_from.result _ _ (λ e h. h (ap₂ takes app is ∙ check_taken word a b d last)) c.try_get_matches_from.ensures.passes

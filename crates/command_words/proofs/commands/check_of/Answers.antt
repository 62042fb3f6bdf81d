use Rattle.std.proofs.Common.{rules, ◌≡◌, ◌&&◌, true, codes, option_map}
use Rattle.net_types.specs.Order.{same_text}
use Rattle.command_words.specs.Commands.{are_paths}
use Rattle.command_words.proofs.WordLemmas.{chosen}
use Rattle.command_words.proofs.commands.check_of.Goals as goal

pub returns-in-Ok-clause-value : goal.returns-in-Ok-clause-value
returns-in-Ok-clause-value c =
    let a = c.args.a.now in
    let b = c.args.b.now in
    let d = c.args.c.now in
    let last = option_map (λ t. t.now) c.args.last in
    let met : (same_text c.args.word.now (codes "check") && are_paths a b d) ≡ true = search rules in
    chosen _ _ _ met (c.check_given.ensures.value a b d last (c.in-Ok.ensures.ok c.args.word.now a b d last c.requires))

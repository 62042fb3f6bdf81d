use Rattle.std.proofs.Common.{rules, ◌≡◌, true, codes, option_map}
use Rattle.net_types.specs.Order.{same_text}
use Rattle.command_words.proofs.WordLemmas.{chosen}
use Rattle.command_words.proofs.commands.gen_of.Goals as goal

pub returns-in-Ok-clause-value : goal.returns-in-Ok-clause-value
returns-in-Ok-clause-value c =
    let last = option_map (λ t. t.now) c.args.last in
    let met : same_text c.args.word.now (codes "gen") ≡ true = search rules in
    chosen _ _ _ met (c.gen_given.ensures.value c.args.number.now last (c.in-Ok.ensures.ok c.args.word.now c.args.number.now last c.requires))

use Rattle.std.proofs.Common.{rules, ◌≡◌, ◌&&◌, true, codes, option_map}
use Rattle.net_types.specs.Order.{same_text}
use Rattle.command_words.specs.Commands.{is_path}
use Rattle.command_words.proofs.WordLemmas.{chosen}
use Rattle.command_words.proofs.serving.serve_of.Goals as goal

pub returns-in-Ok-clause-value : goal.returns-in-Ok-clause-value
returns-in-Ok-clause-value c =
    let a = c.args.store.now in
    let b = c.args.port.now in
    let d = c.args.count.now in
    let f = c.args.users.now in
    let last = option_map (λ t. t.now) c.args.last in
    let met : (same_text c.args.word.now (codes "serve") && (is_path a && is_path f)) ≡ true = search rules in
    chosen _ _ _ met (c.serve_given.ensures.value a b d f last (c.in-Ok.ensures.ok c.args.word.now a b d f last c.requires))

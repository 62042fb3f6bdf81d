use Rattle.possible_fixpoint.proofs.PassLemmas.{turned_more}
use Rattle.possible_fixpoint.proofs.passes.turn.Goals as goal

pub returns-then-is_power_of_two-clause-turned : goal.returns-then-is_power_of_two-clause-turned
returns-then-is_power_of_two-clause-turned g c =
    turned_more c.args.rows.now c.pass-passed.new.rows c.lengthen.new.rows c.pass-passed.result.changed c.lengthen.result.changed c.pass-passed.ensures.turned c.lengthen.ensures.advanced

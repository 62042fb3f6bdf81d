use Rattle.frr_policy.proofs.WordLemmas.{cut_at_blank, no_blank}
use Rattle.frr_policy.proofs.line_words.cut_at_blank.Goals as goal

pub returns-then-at-line-clause-parts : goal.returns-then-at-line-clause-parts
returns-then-at-line-clause-parts c = cut_at_blank c.place_of_blank-at.result c.args.line.now c.place_of_blank-at.ensures c.if-at-line.true

pub returns-else-at-line-clause-parts : goal.returns-else-at-line-clause-parts
returns-else-at-line-clause-parts c = no_blank c.place_of_blank-at.result c.args.line.now c.place_of_blank-at.ensures c.if-at-line.false

pub returns-else-at-line-clause-shorter : goal.returns-else-at-line-clause-shorter
returns-else-at-line-clause-shorter c = no_blank c.place_of_blank-at.result c.args.line.now c.place_of_blank-at.ensures c.if-at-line.false

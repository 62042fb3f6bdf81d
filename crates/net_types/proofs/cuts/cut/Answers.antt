use Rattle.net_types.proofs.CutLemmas.{cut_at, cut_none}
use Rattle.net_types.proofs.cuts.cut.Goals as goal

pub returns-then-at-text-clause-parts : goal.returns-then-at-text-clause-parts
returns-then-at-text-clause-parts c = cut_at c.args.byte c.place_of-at.result c.args.text.now c.place_of-at.ensures.value c.if-at-text.true

pub returns-else-at-text-clause-parts : goal.returns-else-at-text-clause-parts
returns-else-at-text-clause-parts c = cut_none c.args.byte c.place_of-at.result c.args.text.now c.place_of-at.ensures.value c.if-at-text.false

pub returns-else-at-text-clause-shorter : goal.returns-else-at-text-clause-shorter
returns-else-at-text-clause-shorter c = cut_none c.args.byte c.place_of-at.result c.args.text.now c.place_of-at.ensures.value c.if-at-text.false

use Rattle.frr_reader.proofs.LineLemmas.{sizes-cut}
use Rattle.frr_reader.proofs.lines.cut_line.Goals as goal

pub returns-clause-sizes : goal.returns-clause-sizes
returns-clause-sizes c = sizes-cut 10 c.args.text.now c.cut.result c.cut.ensures.parts

use Rattle.std.proofs.Common.{arith}
use Rattle.case_walk.proofs.BookLemmas.{most_le}
use Rattle.case_walk.proofs.verdicts.solve_at.Goals as goal

pub walk-requires-clause-most : goal.walk-requires-clause-most
walk-requires-clause-most g c κs within = let h = most_le c.args.net.now c.args.property.now.prefix 3 c.args.book.now c.requires.few in let e = c.most_of-most.ensures in omega arith

use Rattle.std.proofs.Common.{arith}
use Rattle.case_walk.proofs.BookLemmas.{most_le}
use Rattle.case_walk.proofs.counts.cases_at.Goals as goal

pub count-requires-clause-most : goal.count-requires-clause-most
count-requires-clause-most c = let h = most_le c.args.net.now c.args.property.now.prefix 3 c.args.book.now c.requires.few in let e = c.most_of.ensures in omega arith

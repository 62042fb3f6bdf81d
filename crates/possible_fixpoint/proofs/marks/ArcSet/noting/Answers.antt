use Rattle.std.proofs.Common.{sym, ◌∙◌}
use Rattle.abstract_route.proofs.FitLemmas.{inhabited_is}
use Rattle.possible_fixpoint.proofs.BitLemmas.{noted_more}
use Rattle.possible_fixpoint.proofs.marks.ArcSet.noting.Goals as goal

pub returns-then-is_inhabited : goal.returns-then-is_inhabited
returns-then-is_inhabited c =
    rw c.with.ensures (noted_more c.args.self.now c.args.arc c.args.row.now ((inhabited_is c.args.row.now).0 (sym c.is_inhabited.ensures.test ∙ c.if-is_inhabited.true)))

use Rattle.std.proofs.Common.{arith, not, ◌≡◌, IsTrue, Bool, true, false}
use Rattle.abstract_route.specs.Rows.{row_at}
use Rattle.possible_fixpoint.proofs.GatherLemmas.{offer_done, offer_raised, offer_under}
use Rattle.possible_fixpoint.proofs.gathering.offer.Goals as goal

refuse : (r : Bool) → not r ≡ true → IsTrue r → ⊥
refuse true t h = let e : false ≡ true = t in cc
refuse false t h = let e : false ≡ true = h in cc

pub row-row-requires : goal.row-row-requires
row-row-requires g c =
    let e = c.requires.kept.rows_long in let f = c.requires.few in let h = c.requires.within in omega arith

pub raise-seat-requires-clause-under : goal.raise-seat-requires-clause-under
raise-seat-requires-clause-under g c =
    offer_under (g.A.Analysis.flow c.args.analysis.now) c.args.seat c.args.router c.from.result c.row-row.result c.args.notes.now c.requires.works c.requires.kept c.requires.within c.from.ensures c.row-row.ensures

pub returns-clause-raised : goal.returns-clause-raised
returns-clause-raised g c =
    offer_raised c.args.seat c.raise-seat.result.0 c.args.router c.from.result c.row-row.result (row_at c.args.notes.now.rows c.args.router) c.from.ensures c.row-row.ensures c.raise-seat.ensures.raised

pub returns-clause-grown : goal.returns-clause-grown
returns-clause-grown g c =
    offer_done (g.A.Analysis.flow c.args.analysis.now) c.args.seat c.raise-seat.result.0 c.args.router c.from.result c.row-row.result c.raise-seat.result.1 c.args.notes.now (not c.is_below.result)
    c.requires.works c.requires.kept c.requires.within c.from.ensures c.row-row.ensures c.raise-seat.ensures.met c.raise-seat.ensures.raised (λ t b. refuse c.is_below.result t (c.is_below.ensures.1 b))

use Rattle.std.proofs.Common.{ap, sym, refl, arith, get_or, ◌∙◌, ◌*◌, ◌+◌, ◌||◌}
use Rattle.flow_board.specs.Pass.{Pass}
use Rattle.possible_fixpoint.proofs.ArrivalLemmas.{gathers_past, read_set}
use Rattle.possible_fixpoint.proofs.GatherLemmas.{gathers_at, gathers_on}
use Rattle.possible_fixpoint.proofs.gathering.visit_all.Goals as goal

pub loop-link-preserved : goal.loop-link-preserved
loop-link-preserved g c = (
  c.visit_both-next.ensures.same ∙ c.loop-link.invariant.0,
  c.first_from-link-in-loop-link.ensures.within,
  gathers_past (g.A.Analysis.flow c.args.analysis.now) c.args.seat.start c.args.router (c.loop-link.link + 1) c.first_from-link-in-loop-link.result c.args.sets.now (get_or c.args.sets.now c.from.result c.index-sets-from.result) c.args.notes.now c.visit_both-next.new.notes (c.loop-link.grew || c.visit_both-next.result.1)
      c.requires.solvable c.requires.sets
      (read_set c.args.sets.now c.from.result c.args.router c.index-sets-from.result
      (let a = c.type_inv.sets in let b = c.requires.within in let d = c.requires.solvable.few in let e = c.from.ensures in omega arith) c.from.ensures)
      c.first_from-link-in-loop-link.ensures.none
      (gathers_on (g.A.Analysis.flow c.args.analysis.now) c.args.seat.start c.args.router 0 (2 * c.loop-link.link) (2 * (c.loop-link.link + 1)) c.args.notes.now c.loop-link.notes c.visit_both-next.new.notes c.loop-link.grew c.visit_both-next.result.1
      c.loop-link.invariant.2 (gathers_at (g.A.Analysis.flow c.args.analysis.now) c.loop-link.seat.start c.args.seat.start c.args.router (2 * c.loop-link.link) (2 * (c.loop-link.link + 1)) (2 * c.loop-link.link) (2 * (c.loop-link.link + 1)) c.loop-link.notes c.visit_both-next.new.notes c.visit_both-next.result.1
      (ap (λ (p : Pass). p.start) (sym c.loop-link.invariant.0)) refl refl c.visit_both-next.ensures.gathers)),
)

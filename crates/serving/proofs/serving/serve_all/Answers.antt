use Rattle.std.proofs.Common.{◌∙◌, arith, refl, subst, Ok}
use Rattle.outside.specs.declared.sink.Failed.{Failed}
use Rattle.review_rules.specs.Judging.{Judging}
use Rattle.serving.specs.Turns.{Comes, ServesNext}
use Rattle.serving.proofs.TurnLemmas.{comes_nowhere, comes_on, no_turns, one_more}
use Rattle.serving.proofs.serving.serve_all.Goals as goal

pub loop-init : goal.loop-init
loop-init g c = record {
  opened = refl;
  shown = refl;
  agrees = c.requires.agrees;
  judge = refl;
  comes = comes_nowhere (g.J.Judge.meaning c.args.judge.now) c.args.store.now.state;
  kept = omega arith;
  turns = λ t e. no_turns (g.J.Judge.meaning c.args.judge.now) (record { state = c.args.store.now.state; keeper = g.K.Keeper.faults c.args.keeper.now; door = g.D.Door.faults c.args.door.now }) t (g.D.Door.told c.args.door.now) e;
}

pub returns-in_err-serve_next-clause-comes : goal.returns-in_err-serve_next-clause-comes
returns-in_err-serve_next-clause-comes g c =
    comes_on (g.J.Judge.meaning c.args.judge.now) c.args.store.now.state c.loop.store.state c.serve_next.new.store.state
    c.loop.invariant.comes
    (subst (λ (j : Judging). Comes j c.loop.store.state c.serve_next.new.store.state) c.loop.invariant.judge c.in_err-serve_next.ensures.comes)

pub loop-preserved : goal.loop-preserved
loop-preserved g c = record {
  opened = c.in_ok-serve_next.ensures.opened ∙ c.loop.invariant.opened;
  shown = c.in_ok-serve_next.ensures.stays ∙ c.loop.invariant.shown;
  agrees = c.in_ok-serve_next.ensures.agrees;
  judge = c.in_ok-serve_next.ensures.judge ∙ c.loop.invariant.judge;
  comes =
      comes_on (g.J.Judge.meaning c.args.judge.now) c.args.store.now.state c.loop.store.state c.serve_next.new.store.state
      c.loop.invariant.comes
      (subst (λ (j : Judging). Comes j c.loop.store.state c.serve_next.new.store.state) c.loop.invariant.judge c.in_ok-serve_next.ensures.comes);
  kept = (let a = c.loop.invariant.kept in let b = c.in_ok-serve_next.ensures.kept in omega arith);
  turns = λ t e.
      one_more (g.J.Judge.meaning c.args.judge.now)
      (record { state = c.args.store.now.state; keeper = g.K.Keeper.faults c.args.keeper.now; door = g.D.Door.faults c.args.door.now })
      (record { state = c.loop.store.state; keeper = g.K.Keeper.faults c.loop.keeper; door = g.D.Door.faults c.loop.door })
      (record { state = c.serve_next.new.store.state; keeper = g.K.Keeper.faults c.serve_next.new.keeper; door = g.D.Door.faults c.serve_next.new.door })
      t c.loop.counter (g.D.Door.told c.loop.door) (g.D.Door.told c.serve_next.new.door)
      (c.loop.invariant.turns t e)
      (λ u told. subst (λ (j : Judging). ServesNext {E = Failed} j
      (record { state = c.loop.store.state; keeper = g.K.Keeper.faults c.loop.keeper; door = g.D.Door.faults c.loop.door })
      u (Ok tt)
      (record { state = c.serve_next.new.store.state; keeper = g.K.Keeper.faults c.serve_next.new.keeper; door = g.D.Door.faults c.serve_next.new.door })
      (g.D.Door.told c.serve_next.new.door)) c.loop.invariant.judge (c.in_ok-serve_next.ensures.told u told));
}

use Rattle.std.proofs.Common.{arith, sym, subst, ◌≡◌, ◌∙◌, ℕ}
use Rattle.possible_fixpoint.specs.Standing.{place}
use Rattle.possible_fixpoint.proofs.PassLemmas.{passing_asked, passing_ends, passing_skipped}
use Rattle.possible_fixpoint.proofs.passes.pass.Goals as goal
use Rattle.possible_fixpoint.proofs.passes.pass.Goals.{then-has, else-has}

pub loop-k-preserved : goal.loop-k-preserved
loop-k-preserved g c =
    let flow = g.A.Analysis.flow c.args.analysis.now in
    let is : c.router_at-router.result ≡ place c.args.up flow.routers c.loop-k.k =
    subst (λ (n : ℕ). c.router_at-router.result ≡ place c.args.up n c.loop-k.k) c.routers-count.ensures c.router_at-router.ensures in
    elim c.if-has.branch [
      | then-has w ↦ rw (w.rows-is, w.now-is) (passing_asked flow c.args.up c.loop-k.k c.router_at-router.result c.args.rows.now c.loop-k.rows w.ask-now.new.rows
          c.loop-k.now.gave w.ask-now.result.gave c.args.marks.now.changed c.loop-k.now.changed w.ask-now.result.changed
          c.requires.solvable.few (let e = c.loop-k-test.true in let f = c.routers-count.ensures in omega arith) is c.loop-k.invariant w.ask-now.ensures.standing w.ask-now.ensures.advanced)
      | else-has w ↦ rw (w.rows-is, w.now-is) (passing_skipped flow c.args.up c.loop-k.k c.router_at-router.result c.args.rows.now c.loop-k.rows
          c.loop-k.now.gave c.args.marks.now.changed c.loop-k.now.changed is (sym c.has.ensures ∙ w.if-has.false) c.loop-k.invariant)
    ]

pub returns-clause-turned : goal.returns-clause-turned
returns-clause-turned g c =
    passing_ends (g.A.Analysis.flow c.args.analysis.now) c.args.up c.loop-k.k c.args.rows.now c.loop-k.rows c.loop-k.now.gave c.args.marks.now.changed c.loop-k.now.changed
    (let e = c.loop-k-test.false in let f = c.routers-count.ensures in let h = c.loop-k.auto.k-end in omega arith) c.loop-k.invariant

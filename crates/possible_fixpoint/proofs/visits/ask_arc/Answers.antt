use Rattle.std.proofs.Common.{sym, ◌∙◌}
use Rattle.possible_fixpoint.proofs.VisitLemmas.{between_short, passed_walked, visited_walked}
use Rattle.possible_fixpoint.proofs.visits.ask_arc.Goals as goal
use Rattle.possible_fixpoint.proofs.visits.ask_arc.Goals.{else-sender-router-via-then-sender-router+else-lives, else-sender-router-via-else-sender-router}

pub visit-requires-clause-short : goal.visit-requires-clause-short
visit-requires-clause-short g c =
    let flow = g.A.Analysis.flow c.args.analysis.now in
    between_short flow c.args.rows.now (flow.sender c.args.arc) c.requires.solvable c.requires.standing.between
    (c.requires.solvable.lawful.sender c.args.arc (sym c.lives.ensures ∙ c.if-lives.true))

pub returns-then-lives-clause-standing : goal.returns-then-lives-clause-standing
returns-then-lives-clause-standing g c =
    (visited_walked (g.A.Analysis.flow c.args.analysis.now) c.args.router c.args.arc c.args.rows.now c.visit.new.rows c.args.marks.now.gave c.visit.result.gave c.args.marks.now.changed c.visit.result.changed
    c.requires.solvable.lawful (sym c.lives.ensures ∙ c.if-lives.true) c.requires.standing c.visit.ensures).standing

pub returns-then-lives-clause-advanced : goal.returns-then-lives-clause-advanced
returns-then-lives-clause-advanced g c =
    (visited_walked (g.A.Analysis.flow c.args.analysis.now) c.args.router c.args.arc c.args.rows.now c.visit.new.rows c.args.marks.now.gave c.visit.result.gave c.args.marks.now.changed c.visit.result.changed
    c.requires.solvable.lawful (sym c.lives.ensures ∙ c.if-lives.true) c.requires.standing c.visit.ensures).advanced

pub returns-else-sender-router-clause-standing : goal.returns-else-sender-router-clause-standing
returns-else-sender-router-clause-standing g c =
    (passed_walked (g.A.Analysis.flow c.args.analysis.now) c.args.router c.args.arc c.args.rows.now c.args.marks.now.gave c.args.marks.now.changed
    (λ lives mine. elim c.else-sender-router.branch [
      | else-sender-router-via-then-sender-router+else-lives w ↦ (let a = sym w.lives.ensures ∙ w.if-lives.false in let b = lives in cc)
      | else-sender-router-via-else-sender-router w ↦ w.if-sender-router.false (c.sender.ensures ∙ mine)
    ])
    c.requires.standing).standing

use Rattle.std.proofs.Common.{ℕ, ◌≡◌, Option, Some, None, List, length, take, length-take, arith, refl, sym, subst, ap, ◌∙◌}
use Rattle.std.proofs.lemmas.List.Sums.{count_by-le-length}
use Rattle.failure_sets.specs.SetList.{failure_sets}
use Rattle.case_walk.specs.Representatives.{is_own}
use Rattle.case_walk.specs.Turns.{IsWalk}
use Rattle.case_walk.proofs.WalkLemmas.{is_coming, walk_starts, walk_on, walk_done}
use Rattle.case_walk.proofs.walk.walk.Goals as goal

pub loop-at-init : goal.loop-at-init
loop-at-init g c = record {
  walk = (
      let w = walk_starts c.args.net.now (g.S.CaseReader.analysis c.args.net.now) c.args.links c.args.prefix.now c.args.most c.args.book.now c.args.verdicts.now (Some c.first.result) c.requires.long (c.first.ensures.first c.args.links c.args.most) in
      subst (λ (ws : List ℕ). IsWalk c.args.net.now (g.S.CaseReader.analysis c.args.net.now) c.args.links c.args.prefix.now c.args.most c.args.book.now c.args.verdicts.now (record { words = ws; solved = 0 }) c.args.verdicts.now (Some c.first.result)) (sym c.new.ensures) w);
  ticks = omega arith;
}

pub step-requires-clause-set : goal.step-requires-clause-set
step-requires-clause-set g c κs within =
    (is_coming c.args.net.now (g.S.CaseReader.analysis c.args.net.now) c.args.links c.args.prefix.now c.args.most c.args.book.now c.args.verdicts.now c.loop-at.verdicts c.loop-at.sweep c.loop-at.at c.in-Some.set c.requires.most c.loop-at.invariant.walk c.in-Some.is).permitted

pub step-requires-clause-place : goal.step-requires-clause-place
step-requires-clause-place g c κs within =
    (is_coming c.args.net.now (g.S.CaseReader.analysis c.args.net.now) c.args.links c.args.prefix.now c.args.most c.args.book.now c.args.verdicts.now c.loop-at.verdicts c.loop-at.sweep c.loop-at.at c.in-Some.set c.requires.most c.loop-at.invariant.walk c.in-Some.is).place

pub step-requires-clause-few : goal.step-requires-clause-few
step-requires-clause-few g c κs within =
    let r = (is_coming c.args.net.now (g.S.CaseReader.analysis c.args.net.now) c.args.links c.args.prefix.now c.args.most c.args.book.now c.args.verdicts.now c.loop-at.verdicts c.loop-at.sweep c.loop-at.at c.in-Some.set c.requires.most c.loop-at.invariant.walk c.in-Some.is).room in
    let n = c.count-total.ensures.number in
    let s = c.count-total.ensures.small in
    omega arith

pub next-at-requires-clause-set : goal.next-at-requires-clause-set
next-at-requires-clause-set g c =
    (is_coming c.args.net.now (g.S.CaseReader.analysis c.args.net.now) c.args.links c.args.prefix.now c.args.most c.args.book.now c.args.verdicts.now c.loop-at.verdicts c.loop-at.sweep c.loop-at.at c.in-Some.set c.requires.most c.loop-at.invariant.walk c.in-Some.is).few

pub loop-at-smaller : goal.loop-at-smaller
loop-at-smaller g c =
    let w = (is_coming c.args.net.now (g.S.CaseReader.analysis c.args.net.now) c.args.links c.args.prefix.now c.args.most c.args.book.now c.args.verdicts.now c.loop-at.verdicts c.loop-at.sweep c.loop-at.at c.in-Some.set c.requires.most c.loop-at.invariant.walk c.in-Some.is).within in
    let l = c.in_ok-step.ensures.step.long in
    omega arith

pub loop-at-preserved : goal.loop-at-preserved
loop-at-preserved g c = record {
  walk = walk_on c.args.net.now (g.S.CaseReader.analysis c.args.net.now) c.args.links c.args.prefix.now c.args.most c.args.book.now c.args.verdicts.now c.loop-at.verdicts c.step.new.verdicts c.loop-at.sweep c.step.new.sweep c.loop-at.at c.next-at.result c.in-Some.set
      c.requires.reusable c.requires.most c.loop-at.invariant.walk c.in-Some.is c.in_ok-step.ensures.step c.next-at.ensures.behind;
  ticks = (let t = c.in_ok-step.ensures.tick in let b = c.loop-at.invariant.ticks in omega arith);
}

none_from : (o : Option (List ℕ)) → ((x : List ℕ) → o ≡ Some x → ⊥) → o ≡ None
none_from None h = refl
none_from (Some x) h = absurd (h x refl)

pub returns-clause-judged : goal.returns-clause-judged
returns-clause-judged g c =
    (walk_done c.args.net.now (g.S.CaseReader.analysis c.args.net.now) c.args.links c.args.prefix.now c.args.most c.args.book.now c.args.verdicts.now c.loop-at.verdicts c.loop-at.sweep c.loop-at.at c.requires.links c.loop-at.invariant.walk (none_from c.loop-at.at c.in_default.not-Some)).judged

pub returns-clause-solved : goal.returns-clause-solved
returns-clause-solved g c =
    (walk_done c.args.net.now (g.S.CaseReader.analysis c.args.net.now) c.args.links c.args.prefix.now c.args.most c.args.book.now c.args.verdicts.now c.loop-at.verdicts c.loop-at.sweep c.loop-at.at c.requires.links c.loop-at.invariant.walk (none_from c.loop-at.at c.in_default.not-Some)).solved

pub returns-clause-small : goal.returns-clause-small
returns-clause-small g c =
    let w = c.loop-at.invariant.walk.solved in
    let few = count_by-le-length (is_own ((g.S.CaseReader.analysis c.args.net.now).idle c.args.prefix.now)) (take (length c.loop-at.sweep.words) (failure_sets c.args.links c.args.most)) in
    let l = length-take (length c.loop-at.sweep.words) (failure_sets c.args.links c.args.most) in
    let n = c.count-total.ensures.number in
    let s = c.count-total.ensures.small in
    omega arith

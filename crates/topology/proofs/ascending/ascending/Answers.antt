use Rattle.std.proofs.Common.{rules, ap, None, ◌∙◌}
use Rattle.std.proofs.lemmas.List.Sorted.{answers_always}
use Rattle.topology.specs.Ascending.{ascending, once_behind}
use Rattle.topology.proofs.AscendingLemmas.{ascending-sorted, weak-from_linear, if-ok-at}
use Rattle.topology.proofs.ascending.ascending.Goals as goal

pub returns : goal.returns
returns g c =
    let sorted = c.sort_unstable_by.ensures.sorted g.T.Ranked.before (weak-from_linear g.T.Ranked.same g.T.Ranked.before c.requires) (answers_always _ _ _ (λ f a r h q. search rules)) in
    let is = ap (λ ys. once_behind g.T.Ranked.same None ys) c.deref.ensures.value ∙ ascending-sorted g.T.Ranked.same g.T.Ranked.before c.requires c.args.items.items c.sort_unstable_by.new.self.items c.sort_unstable_by.ensures.permutation sorted in
    if-ok-at c.each_once.result (λ v. v.items) (once_behind g.T.Ranked.same None c.deref.result.now) (ascending g.T.Ranked.same g.T.Ranked.before c.args.items.items) is c.each_once.ensures

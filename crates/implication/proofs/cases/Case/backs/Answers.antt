use Rattle.std.proofs.Common.{ℕ, ◌≡◌, length, arith, ap, subst}
use Rattle.implication.specs.View.{back_over}
use Rattle.implication.proofs.ArcLemmas.{Gathered, gathered_all, gathered_more}
use Rattle.implication.proofs.cases.Case.backs.Goals as goal

pub loop-link-preserved : goal.loop-link-preserved
loop-link-preserved c =
    gathered_more (λ v. back_over c.args.self.now.net.now c.args.self.now.prefix c.args.self.now.failed.now c.args.self.now.known.now c.args.router v)
    c.loop-link.link c.loop-link.set c.with_back-more.result c.with_back-set.result
    c.loop-link.invariant (rw c.both.ensures.up at c.with_back-more.ensures) (rw c.both.ensures.down at c.with_back-set.ensures)

pub returns : goal.returns
returns c =
    let all : length c.links-link-end.result.now ≡ length c.args.self.now.net.now.links = ap length c.links-link-end.ensures in
    let end : c.loop-link.link ≡ length c.args.self.now.net.now.links = omega arith in
    gathered_all (λ v. back_over c.args.self.now.net.now c.args.self.now.prefix c.args.self.now.failed.now c.args.self.now.known.now c.args.router v)
    (length c.args.self.now.net.now.links) (length c.args.self.now.net.now.routers) c.loop-link.set
    (subst (λ (n : ℕ). Gathered (λ v. back_over c.args.self.now.net.now c.args.self.now.prefix c.args.self.now.failed.now c.args.self.now.known.now c.args.router v) n c.loop-link.set) end c.loop-link.invariant)
    (c.requires.inside.backs c.args.router)

use Rattle.std.proofs.Common.{◌≡◌, ◌≤◌, length, ap, arith, sym, ◌∙◌}
use Rattle.std.proofs.lemmas.Bool.Decides.{nat_tests}
use Rattle.certain_fixpoint.specs.Certain.{round_read}
use Rattle.refine_rounds.proofs.ArrivalLemmas.{drops_own, keeps_other_locals}
use Rattle.refine_rounds.proofs.beating.Found.drops_local.Goals as goal

pub returns-then-from-routers : goal.returns-then-from-routers
returns-then-from-routers c =
    let number = c.from.ensures in
    let all : length c.routers.result.now ≡ length c.args.self.now.reading.now.net.now.routers = ap length c.routers.ensures in
    let test = c.if-from-routers.true in
    let high : length c.args.self.now.reading.now.net.now.routers ≤ c.args.router = grind (arith, nat_tests) in
    sym (keeps_other_locals (round_read c.args.self.now.reading.now) c.args.router high)

pub returns : goal.returns
returns c =
    let number = c.from.ensures in
    let all : length c.routers.result.now ≡ length c.args.self.now.reading.now.net.now.routers = ap length c.routers.ensures in
    let test = c.if-from-routers.false in
    c.drops.ensures ∙ drops_own c.args.self.now c.requires c.valid.ensures c.args.router (grind (arith, nat_tests)) c.local_candidate-local.result c.local_candidate-local.ensures

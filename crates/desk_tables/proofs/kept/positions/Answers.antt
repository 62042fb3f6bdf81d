use Rattle.std.proofs.Common.{◌≡◌, ◌++◌, ◌∷◌, [], rules}
use Rattle.desk_tables.proofs.KeptLemmas.{positions_more}
use Rattle.desk_tables.proofs.kept.positions.Goals as goal

pub loop-i-preserved : goal.loop-i-preserved
loop-i-preserved c =
    let is : c.push.new.self.items ≡ c.loop-i.order.items ++ c.loop-i.i ∷ [] = search rules in
    positions_more c.args.rows.now c.loop-i.order.items c.push.new.self.items c.loop-i.i c.loop-i.invariant.0 c.loop-i.invariant.1 c.loop-i-test.true is

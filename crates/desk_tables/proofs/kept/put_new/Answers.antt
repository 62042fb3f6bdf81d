use Rattle.std.proofs.Common.{◌≡◌, ◌++◌, ◌∷◌, [], length, rules}
use Rattle.std.specs.List.{insert}
use Rattle.desk_tables.proofs.KeptLemmas.{taken_new}
use Rattle.desk_tables.proofs.kept.put_new.Goals as goal

pub returns-clause-put : goal.returns-clause-put
returns-clause-put c =
    let rows : c.push-added.new.self.items ≡ c.args.rows.now.items ++ c.args.row ∷ [] = search rules in
    let order : c.insert-placed.new.self.items ≡ insert c.args.order.now.items c.args.place (length c.args.rows.now.items) = search rules in
    (taken_new c.args.rows.now.items c.push-added.new.self.items c.args.order.now.items c.insert-placed.new.self.items c.args.place c.args.row c.requires.order c.requires.split c.requires.other rows order).0

pub returns-clause-order : goal.returns-clause-order
returns-clause-order c =
    let rows : c.push-added.new.self.items ≡ c.args.rows.now.items ++ c.args.row ∷ [] = search rules in
    let order : c.insert-placed.new.self.items ≡ insert c.args.order.now.items c.args.place (length c.args.rows.now.items) = search rules in
    (taken_new c.args.rows.now.items c.push-added.new.self.items c.args.order.now.items c.insert-placed.new.self.items c.args.place c.args.row c.requires.order c.requires.split c.requires.other rows order).1

use Rattle.std.proofs.Common.{◌≡◌, ◌-◌, drop, length, get_or, sym, subst, rules}
use Rattle.stored_rows.specs.Index.{Indexes}
use Rattle.stored_rows.proofs.IndexLemmas.{drop_back}
use Rattle.stored_rows.proofs.index.index_of.Goals as goal

pub loop-i-preserved : goal.loop-i-preserved
loop-i-preserved c =
    let rows = c.args.rows.now in
    let i = c.loop-i.i in
    let row = c.index-rows-rows.result in
    let item : get_or rows (length rows - 1 - i) row ≡ row = search rules in
    record {
      long = search rules;
      index = subst (Indexes c.put.new.numbers.items) (sym (drop_back rows i row c.loop-i-test.true item)) (c.put.ensures.index (drop (length rows - i) rows) c.loop-i.invariant.index);
    }

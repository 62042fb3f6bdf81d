use Rattle.std.proofs.Common.{◌∙◌, sym, ◌+◌}
use Rattle.toml_fields.proofs.TableLemmas.{first_repeat-here, first_repeat-further}
use Rattle.property_book.specs.Book.{is_same_name}
use Rattle.property_book.proofs.book.first_repeat.Goals as goal

pub returns-then-is_named_in : goal.returns-then-is_named_in
returns-then-is_named_in c =
    sym (c.loop-i.invariant ∙ first_repeat-here is_same_name c.args.properties.now c.loop-i.i (c.loop-i.i + 1) c.index-properties-i.result c.loop-i-test.true c.index-properties-i.is (sym c.is_named_in.ensures ∙ c.if-is_named_in.true))

pub loop-i-preserved : goal.loop-i-preserved
loop-i-preserved c =
    c.loop-i.invariant ∙ first_repeat-further is_same_name c.args.properties.now c.loop-i.i (c.loop-i.i + 1) c.index-properties-i.result c.loop-i-test.true c.index-properties-i.is (sym c.is_named_in.ensures ∙ c.if-is_named_in.false)

use Rattle.std.proofs.Common.{◌∙◌, sym, ◌+◌}
use Rattle.toml_fields.proofs.TableLemmas.{first_repeat-here, first_repeat-further}
use Rattle.label_file.specs.Tables.{is_same_router}
use Rattle.label_file.proofs.tables.first_repeat.Goals as goal

pub returns-then-has_router : goal.returns-then-has_router
returns-then-has_router c =
    sym (c.loop-i.invariant ∙ first_repeat-here is_same_router c.args.labels.now c.loop-i.i (c.loop-i.i + 1) c.index-labels-i.result c.loop-i-test.true c.index-labels-i.is (sym c.has_router.ensures ∙ c.if-has_router.true))

pub loop-i-preserved : goal.loop-i-preserved
loop-i-preserved c =
    c.loop-i.invariant ∙ first_repeat-further is_same_router c.args.labels.now c.loop-i.i (c.loop-i.i + 1) c.index-labels-i.result c.loop-i-test.true c.index-labels-i.is (sym c.has_router.ensures ∙ c.if-has_router.false)

use Rattle.std.proofs.Common.{◌∙◌, sym, ◌+◌}
use Rattle.toml_fields.proofs.TableLemmas.{first_repeat-here, first_repeat-further}
use Rattle.user_file.specs.Users.{is_same_user}
use Rattle.user_file.proofs.users.first_repeat.Goals as goal

pub returns-then-is_among : goal.returns-then-is_among
returns-then-is_among c =
    sym (c.loop-i.invariant ∙ first_repeat-here is_same_user c.args.users.now c.loop-i.i (c.loop-i.i + 1) c.index-users-i.result c.loop-i-test.true c.index-users-i.is (sym c.is_among.ensures ∙ c.if-is_among.true))

pub loop-i-preserved : goal.loop-i-preserved
loop-i-preserved c =
    c.loop-i.invariant ∙ first_repeat-further is_same_user c.args.users.now c.loop-i.i (c.loop-i.i + 1) c.index-users-i.result c.loop-i-test.true c.index-users-i.is (sym c.is_among.ensures ∙ c.if-is_among.false)

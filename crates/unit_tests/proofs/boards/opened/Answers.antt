use Rattle.std.proofs.Common.{◌∙◌}
use Rattle.unit_tests.proofs.BoardLemmas.{bottoms_under, opened_free}
use Rattle.unit_tests.proofs.boards.opened.Goals as goal

pub open-requires-clause-under : goal.open-requires-clause-under
open-requires-clause-under c = bottoms_under c.as_slice.result.now c.args.count (c.as_slice.ensures.value ∙ c.in_ok-start.ensures)

pub returns-clause-free : goal.returns-clause-free
returns-clause-free c = opened_free c.open.result c.as_slice.result.now c.open.ensures.count c.open.ensures.seat

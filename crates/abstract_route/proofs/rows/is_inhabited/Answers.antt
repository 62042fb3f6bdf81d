use Rattle.std.proofs.Common.{rules, ◌≡◌}
use Rattle.abstract_route.specs.Rows.{inhabited}
use Rattle.abstract_route.proofs.FitLemmas.{inhabited_fact}
use Rattle.abstract_route.proofs.rows.is_inhabited.Goals as goal

pub returns-then-is_part-clause-fact : goal.returns-then-is_part-clause-fact
returns-then-is_part-clause-fact c =
    let e : c.is_part-then-is_part.result ≡ inhabited c.args.a.now = search rules in
    inhabited_fact c.is_part-then-is_part.result c.args.a.now e

pub returns-else-is_part-clause-fact : goal.returns-else-is_part-clause-fact
returns-else-is_part-clause-fact c =
    let e : c.if-is_some-5.value ≡ inhabited c.args.a.now = search rules in
    inhabited_fact c.if-is_some-5.value c.args.a.now e

use Rattle.std.proofs.Common.{◌≡◌, take, drop, []}
use Rattle.stored_rows.specs.Stored.{first_bad, bad_review, Marks}
use Rattle.stored_rows.proofs.rows.first_bad_review.Given as goal

abbrev pub invariant-loop-i : goal.invariant-loop-i
invariant-loop-i l = record {
  rest : first_bad (bad_review l.heads) (take l.i l.rows) (drop l.i l.rows) ≡ first_bad (bad_review l.heads) [] l.rows;
  marks : Marks l.heads (take l.i l.rows) l.seen.items;
}

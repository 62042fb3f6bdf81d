use Rattle.std.proofs.Common.{◌≡◌, ◌≤◌, ◌+◌, ◌*◌, ◌^◌, drop, length, sum_by}
use Rattle.failure_sets.specs.SetList.{failure_sets}
use Rattle.case_walk.specs.Book.{asked_prefixes, distinct, most_of, total_of}
use Rattle.case_walk.proofs.counts.cases.Given as goal

abbrev pub invariant-loop-i : goal.invariant-loop-i
invariant-loop-i l = record {
  sum : l.total + sum_by (λ prefix. length (failure_sets (length l.net.links) (most_of l.net prefix l.book))) (distinct (asked_prefixes l.net (drop l.i l.book))) ≡ total_of l.net l.book;
  small : l.total ≤ l.i * 2 ^ 32;
}

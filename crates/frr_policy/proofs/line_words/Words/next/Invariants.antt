use Rattle.std.proofs.Common.{◌≡◌, length, filter}
use Rattle.std.specs.List.{slice_split}
use Rattle.frr_policy.specs.Words.{has_bytes, is_blank}
use Rattle.frr_policy.proofs.line_words.Words.next.Given as goal

abbrev pub invariant-loop-part : goal.invariant-loop-part
invariant-loop-part l = filter has_bytes (slice_split is_blank l.initial.self-inside.line.now) ≡ filter has_bytes (slice_split is_blank l.self-inside.line.now)

abbrev pub decreases-loop-part : goal.decreases-loop-part
decreases-loop-part l = length l.self-inside.line.now

use Rattle.std.proofs.Common.{◌≡◌, ◌++◌, map, drop}
use Rattle.command_words.specs.Line.{line_of}
use Rattle.command_words.proofs.line.line_of.Given as goal

abbrev pub invariant-loop-other : goal.invariant-loop-other
invariant-loop-other l = map (λ s. s.now) l.line.items ++ drop l.other-index l.others ≡ line_of l.words

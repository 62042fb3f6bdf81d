use Rattle.std.proofs.Common.{◌≡◌, length}
use Rattle.frr_reader.specs.Lines.{lines}
use Rattle.frr_reader.specs.State.{start}
use Rattle.frr_reader.specs.Reading.{read_lines}
use Rattle.frr_reader.proofs.reading.read_text.Given as goal

abbrev pub invariant-loop-line : goal.invariant-loop-line
invariant-loop-line l = read_lines start (lines l.text) ≡ read_lines l.reader l.lines

abbrev pub decreases-loop-line : goal.decreases-loop-line
decreases-loop-line l = length l.lines

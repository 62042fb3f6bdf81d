use Rattle.std.proofs.Common.{◌≡◌, drop, string_bytes}
use Rattle.net_types.specs.Then.{◌then◌}
use Rattle.ladder.specs.Files.{interface_lines}
use Rattle.ladder.proofs.files.interface_lines.Given as goal

abbrev pub invariant-loop-i : goal.invariant-loop-i
invariant-loop-i l = string_bytes l.text then interface_lines l.i (drop l.i l.ports) ≡ interface_lines 0 l.ports

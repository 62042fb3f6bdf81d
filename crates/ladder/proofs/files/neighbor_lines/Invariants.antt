use Rattle.std.proofs.Common.{◌≡◌, drop, string_bytes}
use Rattle.net_types.specs.Then.{◌then◌}
use Rattle.ladder.specs.Files.{neighbor_lines}
use Rattle.ladder.proofs.files.neighbor_lines.Given as goal

abbrev pub invariant-loop-port : goal.invariant-loop-port
invariant-loop-port l = string_bytes l.text then neighbor_lines (drop l.port-index l.ports) ≡ neighbor_lines l.ports

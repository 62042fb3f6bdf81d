use Rattle.std.proofs.Common.{refl, ◌∙◌}
use Rattle.ladder.specs.Files.{speaker_lines}
use Rattle.ladder.proofs.files.speaker_lines.Goals as goal

pub returns : goal.returns
unfolding speaker_lines
returns c = c.in_ok-format.ensures.ok ∙ rw c.asn_of-asn.ensures (rw c.network_line-network.ensures refl)

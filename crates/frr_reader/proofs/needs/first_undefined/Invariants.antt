use Rattle.std.proofs.Common.{◌≡◌, drop, find, option_map}
use Rattle.frr_reader.specs.declared.needs.Need.{Need}
use Rattle.frr_reader.specs.Needs.{is_undefined}
use Rattle.frr_reader.proofs.needs.first_undefined.Given as goal

abbrev pub invariant-loop-need : goal.invariant-loop-need
invariant-loop-need l = option_map (λ (n : Need). n.line) (find (λ (n : Need). is_undefined l.config n.what) l.needed) ≡ option_map (λ (n : Need). n.line) (find (λ (n : Need). is_undefined l.config n.what) (drop l.need-index l.needed))

use Rattle.std.proofs.Common.{◌≡◌, drop, find, option_map}
use Rattle.frr_reader.specs.declared.needs.Need.{Need}
use Rattle.frr_reader.specs.Needs.{is_foreign}
use Rattle.frr_reader.proofs.needs.first_foreign.Given as goal

abbrev pub invariant-loop-need : goal.invariant-loop-need
invariant-loop-need l = option_map (λ (n : Need). n.line) (find (λ (n : Need). is_foreign l.config n.what) l.needed) ≡ option_map (λ (n : Need). n.line) (find (λ (n : Need). is_foreign l.config n.what) (drop l.need-index l.needed))

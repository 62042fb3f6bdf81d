use Rattle.frr_reader.proofs.CauseLemmas.{is_line_law}
use Rattle.frr_reader.proofs.FoundLemmas.{taken_innermost, same_map_heads}
use Rattle.frr_reader.proofs.LineLemmas.{is_placed}
use Rattle.frr_reader.proofs.laws.law_of_lines.Goals as goal

pub returns-clause-places : goal.returns-clause-places
returns-clause-places c = is_placed

pub returns-clause-causes : goal.returns-clause-causes
returns-clause-causes c = is_line_law

pub returns-clause-innermost : goal.returns-clause-innermost
returns-clause-innermost c = taken_innermost

pub returns-clause-heads : goal.returns-clause-heads
returns-clause-heads c = same_map_heads

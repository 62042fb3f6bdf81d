use Rattle.unit_tests.proofs.turns.ladder_counted.Given as goal

abbrev pub ghosts-ladder_under : goal.ghosts-ladder_under
ghosts-ladder_under g a = record { name = a.blank.name; parts = a.blank.parts }

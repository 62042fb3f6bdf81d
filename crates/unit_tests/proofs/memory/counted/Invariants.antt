use Rattle.unit_tests.proofs.memory.counted.Given as goal

abbrev pub ghosts-reports_or_is_silent : goal.ghosts-reports_or_is_silent
ghosts-reports_or_is_silent g a = record { name = a.blank.name; parts = a.blank.parts }

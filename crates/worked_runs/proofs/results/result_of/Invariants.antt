use Rattle.worked_runs.proofs.results.result_of.Given as goal

abbrev pub ghosts-result_from : goal.ghosts-result_from
ghosts-result_from g a = record { name = a.blank.name; parts = a.blank.parts }

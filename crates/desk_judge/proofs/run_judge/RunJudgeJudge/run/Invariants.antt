use Rattle.desk_judge.proofs.run_judge.RunJudgeJudge.run.Given as goal

abbrev pub ghosts-run_answer : goal.ghosts-run_answer
ghosts-run_answer g a = record { name = a.blank.name; parts = a.blank.parts }

use Rattle.route_desk.proofs.main.Given as goal

abbrev pub ghosts-status_of : goal.ghosts-status_of
ghosts-status_of a b = record { name = b.blank.name; parts = b.blank.parts }

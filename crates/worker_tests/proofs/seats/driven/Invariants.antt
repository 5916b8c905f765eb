use Rattle.worker_tests.proofs.seats.driven.Given as goal

abbrev pub ghosts-driven_by : goal.ghosts-driven_by
ghosts-driven_by g a = record { name = a.blank.name; parts = a.blank.parts }

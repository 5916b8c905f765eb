use Rattle.worker_tests.proofs.passing.made.Given as goal

abbrev pub ghosts-made_by : goal.ghosts-made_by
ghosts-made_by g a = record { name = a.blank.name; parts = a.blank.parts }

use Rattle.worker_tests.proofs.passing.made_alone.Given as goal

abbrev pub ghosts-made_alone_by : goal.ghosts-made_alone_by
ghosts-made_alone_by a = record { name = a.blank.name; parts = a.blank.parts }

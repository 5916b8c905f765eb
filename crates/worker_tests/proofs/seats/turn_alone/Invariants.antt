use Rattle.worker_tests.proofs.seats.turn_alone.Given as goal

abbrev pub ghosts-turn_of_idle : goal.ghosts-turn_of_idle
ghosts-turn_of_idle g a = record { name = a.blank.name; parts = a.blank.parts }

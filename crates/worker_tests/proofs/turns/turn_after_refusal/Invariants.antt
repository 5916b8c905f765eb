use Rattle.worker_tests.proofs.turns.turn_after_refusal.Given as goal

abbrev pub ghosts-turn_after_refusal_by : goal.ghosts-turn_after_refusal_by
ghosts-turn_after_refusal_by g a = record { name = a.blank.name; parts = a.blank.parts }

use Rattle.clifinl.proofs.held_gate.is_finished.Given as goal

abbrev pub ghosts-is_finished_by : goal.ghosts-is_finished_by
ghosts-is_finished_by g a = record { name = a.blank.name; parts = a.blank.parts }

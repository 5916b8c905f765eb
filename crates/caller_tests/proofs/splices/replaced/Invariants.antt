use Rattle.caller_tests.proofs.splices.replaced.Given as goal

abbrev pub ghosts-replaced_by : goal.ghosts-replaced_by
ghosts-replaced_by a = record { name = a.blank.name; parts = a.blank.parts }

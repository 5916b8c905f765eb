use Rattle.filetest.proofs.inlining.passed.Given as goal

abbrev pub ghosts-passed_counted : goal.ghosts-passed_counted
ghosts-passed_counted a = record { name = a.blank.name; parts = a.blank.parts }

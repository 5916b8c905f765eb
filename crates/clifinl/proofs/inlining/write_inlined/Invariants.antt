use Rattle.clifinl.proofs.inlining.write_inlined.Given as goal

abbrev pub ghosts-pass_counted : goal.ghosts-pass_counted
ghosts-pass_counted g a = record { name = a.blank.name; parts = a.blank.parts }

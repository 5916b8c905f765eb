use Rattle.std.proofs.Common.{◌≡◌, ◌≤◌, length, take, map, option_map}
use Rattle.clif_lex.specs.Places.{line_at}
use Rattle.filetest.proofs.verifying.lines_of_spots.Given as goal

abbrev pub invariant-loop-i : goal.invariant-loop-i
invariant-loop-i l = record {
  within : l.at ≤ length l.text;
  known : l.line ≡ line_at l.text l.at;
  told : l.lines.items ≡ map (option_map (line_at l.text)) (take l.i l.spots);
}

use Rattle.std.proofs.Common.{◌≡◌, take, drop, map}
use Rattle.clif_lex.specs.Spelling.{StandFrom}
use Rattle.test_directives.specs.Placing.{placed_of}
use Rattle.test_directives.specs.Tests.{comments}
use Rattle.test_directives.proofs.places.comments.Given as goal

abbrev pub invariant-tokens : goal.invariant-tokens
invariant-tokens l = record {
  seen : map placed_of l.list.items ≡ comments l.text (take l.i l.tokens);
  text : l.lines.text ≡ l.text;
  stand : StandFrom l.text l.lines.at (drop l.i l.tokens);
}

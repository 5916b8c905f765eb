use Rattle.std.proofs.Common.{◌≡◌, drop, map}
use Rattle.test_directives.specs.Placing.{placed_of}
use Rattle.test_directives.specs.Reading.{finished_by, stopped_by, bad_comment}
use Rattle.test_directives.specs.Tests.{tests_in}
use Rattle.test_directives.proofs.tests.read_function.Given as goal

abbrev pub invariant-loop-comment : goal.invariant-loop-comment
invariant-loop-comment l = record {
  functions : l.reader.functions ≡ l.fn.named.functions.now;
  tests : finished_by l.reader (map placed_of (drop l.comment-index l.fn.comments)) ≡ tests_in l.fn.line l.fn.func (map placed_of l.fn.comments);
  stops : stopped_by l.reader (map placed_of (drop l.comment-index l.fn.comments)) ≡ bad_comment l.fn.named.functions.now (map placed_of l.fn.comments);
}

use Rattle.std.proofs.Common.{◌≡◌, ◌++◌, ◌≤◌, length, drop, map}
use Rattle.std.specs.Prelude.{All}
use Rattle.test_directives.specs.Placing.{placed_of, AreAscending, InOrder, LeavesBehind}
use Rattle.test_directives.specs.Reading.{tests_by, bad_by}
use Rattle.test_directives.specs.Tests.{first_spot}
use Rattle.test_directives.specs.Views.{function_of, IsPlaced}
use Rattle.test_directives.proofs.tests.read_each.Given as goal

abbrev pub invariant-loop-func : goal.invariant-loop-func
invariant-loop-func l = record {
  text : l.lines.text ≡ l.fn.text;
  within : l.next ≤ length l.fn.comments;
  ascending : AreAscending l.fn.text l.lines.at l.left;
  in_order : InOrder (map placed_of (drop l.next l.fn.comments));
  behind : LeavesBehind (first_spot l.fn.text l.left) (map placed_of l.fn.comments) (map placed_of (drop l.next l.fn.comments));
  tests : map function_of l.list.items ++ tests_by l.fn.text (map placed_of l.fn.comments) l.left ≡ tests_by l.fn.text (map placed_of l.fn.comments) l.fn.named.functions.now;
  placed : All (λ t. All (IsPlaced l.fn.named.functions.now) t.runs.items) l.list.items;
  bad : bad_by l.fn.text (map placed_of l.fn.comments) l.fn.named.functions.now l.left ≡ bad_by l.fn.text (map placed_of l.fn.comments) l.fn.named.functions.now l.fn.named.functions.now;
}

abbrev pub decreases-loop-func : goal.decreases-loop-func
decreases-loop-func l = length l.left

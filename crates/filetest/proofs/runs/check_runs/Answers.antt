use Rattle.std.proofs.Common.{All, ap, map, arith, sym, subst}
use Rattle.std.proofs.lemmas.List.{drop_all}
use Rattle.test_directives.specs.Views.{command_of, function_of}
use Rattle.filetest.specs.Checks.{run_checks}
use Rattle.filetest.specs.Placing.{IsPlacedIn}
use Rattle.filetest.proofs.Telling.{tells_all}
use Rattle.filetest.proofs.RunChecks.{holds_at, runs_more}
use Rattle.filetest.proofs.runs.check_runs.Goals as goal

pub check_function_runs-requires : goal.check_function_runs-requires
check_function_runs-requires c = record {
  placed = subst (λ rs. All (IsPlacedIn c.in_ok-linked.linked) rs) (sym c.as_slice.ensures.value)
      (subst (λ m. All (IsPlacedIn m) c.index-tests-i.result.runs.items) (sym c.in_ok-linked.ensures)
      (holds_at (λ t. All (IsPlacedIn c.args.checked.now) t.runs.items) c.args.tests.now c.loop-i.i c.index-tests-i.result c.loop-i-test.true c.index-tests-i.is c.requires.placed));
}

pub loop-i-preserved : goal.loop-i-preserved
loop-i-preserved c = runs_more c.args.out.now c.loop-i.out c.check_function_runs.new.out (command_of c.args.command.now) c.args.checked.now _ c.in_ok-linked.linked c.args.tests.now c.loop-i.i c.index-tests-i.result c.as_slice.result.now
    c.in_ok-linked.ensures c.loop-i-test.true c.index-tests-i.is c.as_slice.ensures.value c.in_ok-check_function_runs.ensures c.loop-i.invariant

pub returns : goal.returns
returns c = tells_all c.args.out.now c.loop-i.out (command_of c.args.command.now) _ _
    (ap (λ xs. run_checks c.args.checked.now (map function_of xs)) (drop_all c.loop-i.i c.args.tests.now (omega (arith, c.loop-i-test.false)))) c.loop-i.invariant

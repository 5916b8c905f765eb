use Rattle.std.proofs.Common.{ap, map, arith}
use Rattle.std.proofs.lemmas.List.{drop_all}
use Rattle.test_directives.specs.Views.{command_of, run_of}
use Rattle.filetest.specs.Checks.{run_check}
use Rattle.filetest.specs.Placing.{IsPlacedIn}
use Rattle.filetest.proofs.Telling.{tells_all}
use Rattle.filetest.proofs.RunChecks.{holds_at, run_more}
use Rattle.filetest.proofs.runs.check_function_runs.Goals as goal

pub run_failure-requires : goal.run_failure-requires
run_failure-requires c = record { placed = holds_at (IsPlacedIn c.args.linked.now) c.args.runs.now c.loop-i.i c.index-runs-i.result c.loop-i-test.true c.index-runs-i.is c.requires.placed }

pub loop-i-preserved : goal.loop-i-preserved
loop-i-preserved c = run_more c.args.out.now c.loop-i.out c.check.new.self (command_of c.args.command.now) c.args.linked.now _ c.args.runs.now c.loop-i.i c.index-runs-i.result c.as_slice.result.now _
    c.loop-i-test.true c.index-runs-i.is c.as_slice.ensures c.in_ok-failure.ensures c.in_ok-check.ensures c.loop-i.invariant

pub returns : goal.returns
returns c = tells_all c.args.out.now c.loop-i.out (command_of c.args.command.now) _ _
    (ap (λ xs. map (run_check c.args.linked.now) (map run_of xs)) (drop_all c.loop-i.i c.args.runs.now (omega (arith, c.loop-i-test.false)))) c.loop-i.invariant

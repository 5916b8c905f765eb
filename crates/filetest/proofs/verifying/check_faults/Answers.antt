use Rattle.std.proofs.Common.{◌≤◌, length, map, arith, min}
use Rattle.std.proofs.lemmas.List.{length-map}
use Rattle.test_directives.specs.Views.{command_of, function_of}
use Rattle.filetest.proofs.Telling.{tells_all}
use Rattle.filetest.proofs.FaultChecks.{faults_more, faults_done}
use Rattle.filetest.proofs.verifying.check_faults.Goals as goal

pub loop-i-preserved : goal.loop-i-preserved
loop-i-preserved c = faults_more c.args.out.now c.loop-i.out c.check.new.self (command_of c.args.command.now) c.args.tests.now c.args.faults.now _ c.loop-i.i c.index-tests-i.result _ c.as_slice.result.now _
    (omega (arith, c.loop-i-test.true, c.min-i-end.ensures)) c.index-tests-i.is (omega (arith, c.loop-i-test.true, c.min-i-end.ensures)) c.as_slice.ensures c.in_ok-failure.ensures c.in_ok-check.ensures c.loop-i.invariant

pub returns : goal.returns
returns c =
    let ts = c.args.tests.now in
    let h : min (length (map function_of ts)) (length c.args.faults.now) ≤ c.loop-i.i = omega (arith, c.loop-i-test.false, c.min-i-end.ensures, length-map ts function_of) in
    tells_all c.args.out.now c.loop-i.out (command_of c.args.command.now) _ _ (faults_done (map function_of ts) c.args.faults.now c.loop-i.i h) c.loop-i.invariant

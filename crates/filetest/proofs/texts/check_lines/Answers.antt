use Rattle.std.proofs.Common.{◌≤◌, length, map, arith, min}
use Rattle.ir_text.specs.Text.{function_text_of}
use Rattle.test_directives.specs.Views.{command_of, function_of}
use Rattle.std.proofs.lemmas.List.{length-map}
use Rattle.filetest.proofs.Telling.{tells_all}
use Rattle.filetest.proofs.TextChecks.{lines_more, lines_done}
use Rattle.filetest.proofs.texts.check_lines.Goals as goal

pub loop-i-preserved : goal.loop-i-preserved
loop-i-preserved c = lines_more c.args.out.now c.loop-i.out c.check_function_lines.new.out (command_of c.args.command.now) c.args.module.now c.args.tests.now c.loop-i.i c.index-tests-i.result _
    (omega (arith, c.loop-i-test.true, c.min-i-end.ensures)) c.index-tests-i.is c.in_ok-check_function_lines.ensures (omega (arith, c.loop-i-test.true, c.min-i-end.ensures, c.len.ensures.count)) c.loop-i.invariant

pub returns : goal.returns
returns c =
    let m = c.args.module.now in
    let ts = c.args.tests.now in
    let h : min (length (map function_text_of m)) (length (map function_of ts)) ≤ c.loop-i.i =
    omega (arith, c.loop-i-test.false, c.min-i-end.ensures, c.len.ensures.count, length-map m function_text_of, length-map ts function_of) in
    tells_all c.args.out.now c.loop-i.out (command_of c.args.command.now) _ _ (lines_done (map function_text_of m) (map function_of ts) c.loop-i.i h) c.loop-i.invariant

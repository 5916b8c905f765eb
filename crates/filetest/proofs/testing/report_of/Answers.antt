use Rattle.std.proofs.Common.{map, refl, arith}
use Rattle.std.proofs.lemmas.List.{drop_all, length-map}
use Rattle.test_directives.specs.Views.{command_of, function_of}
use Rattle.filetest.specs.Sections.{nothing_told}
use Rattle.filetest.proofs.CommandChecks.{carries_fresh, carries_command, reported, ok_both, limited_at}
use Rattle.filetest.proofs.testing.report_of.Goals as goal

pub loop-i-init : goal.loop-i-init
loop-i-init c = record { carries = carries_fresh c.args.checked.now (map function_of c.args.tests.now) c.args.faults.now c.new-out.result (map command_of c.args.commands.now) c.new-out.ensures.text c.new-out.ensures.counts; kept = c.new-sections.ensures c.args.checked.now (map function_of c.args.tests.now) c.args.faults.now }

pub loop-i-preserved : goal.loop-i-preserved
loop-i-preserved c = record {
  carries = carries_command c.args.checked.now (map function_of c.args.tests.now) c.args.faults.now nothing_told c.loop-i.out c.tell.new.out c.args.commands.now _ c.loop-i.i c.index-commands-i.result
      c.loop-i-test.true c.index-commands-i.is c.loop-i.invariant.carries c.in_ok-tell.ensures.told;
  kept = c.in_ok-tell.ensures.kept;
}

pub returns : goal.returns
returns c = ok_both _ _ _ _ (λ report t n. reported c.args.checked.now (map function_of c.args.tests.now) c.args.faults.now nothing_told c.loop-i.out _ _ report
    (drop_all c.loop-i.i (map command_of c.args.commands.now) (omega (arith, c.loop-i-test.false, length-map c.args.commands.now command_of)))
    refl refl refl refl c.loop-i.invariant.carries t n.0 n.1 n.2) c.finish.ensures.text c.finish.ensures.counts

pub tell-requires-clause-limited : goal.tell-requires-clause-limited
tell-requires-clause-limited c = limited_at c.args.commands.now c.loop-i.i c.index-commands-i.result c.loop-i-test.true c.index-commands-i.is c.requires.limited

use Rattle.std.proofs.Common.{List, ap}
use Rattle.ir_core.specs.Module.{Function}
use Rattle.ir_core.proofs.Gets.{next_left}
use Rattle.ir_text.specs.TextTree.{spelled}
use Rattle.ir_text.specs.Text.{more_functions}
use Rattle.text_output.proofs.Puts.{goes}
use Rattle.canonical_text.proofs.functions.put_module.Goals as goal

pub loop-i-preserved : goal.loop-i-preserved
loop-i-preserved g c =
    goes _ c.loop-i.invariant (ap (λ (l : List Function). spelled (more_functions l)) (next_left c.args.module.now c.loop-i.i c.func.result.now.function c.func.ensures.at)) c.in_ok-put_further_function.ensures

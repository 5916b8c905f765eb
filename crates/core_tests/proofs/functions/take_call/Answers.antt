use Rattle.std.proofs.Common.{ℕ, ap₂, ◌∙◌}
use Rattle.ir_core.specs.Module.{Function}
use Rattle.ir_core.specs.Edits.{at_block}
use Rattle.ir_core.specs.Viewed.{line_of}
use Rattle.ir_core.proofs.Taking.{without_last, left_function}
use Rattle.core_tests.proofs.functions.take_call.Goals as goal

pub returns-clause-function : goal.returns-clause-function
returns-clause-function c =
    left_function c.new.result (line_of c.take_last.result) c.args.func.now.function c.take_last.new.self.function c.take_last.ensures.body
    ∙ ap₂ (λ (z : Function) (n : ℕ). record z { blocks = at_block n without_last z.blocks }) c.requires c.new.ensures

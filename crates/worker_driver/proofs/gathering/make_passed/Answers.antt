use Rattle.std.proofs.Common.{List, sym, subst}
use Rattle.ir_core.specs.Edits.{Body}
use Rattle.ir_core.specs.Lists.{Each}
use Rattle.ir_core.specs.Module.{Function}
use Rattle.ir_core.specs.WellFormed.{WellFormed}
use Rattle.worker_driver.proofs.Gathered.{all_whole}
use Rattle.worker_driver.proofs.gathering.make_passed.Goals as goal

pub of_functions-requires : goal.of_functions-requires
of_functions-requires c = let funcs : List Body = c.in_ok-funcs.funcs.items in
    all_whole funcs c.in_ok-funcs.ensures.sound (subst (λ (fs : List Function). Each WellFormed fs) (sym c.in_ok-funcs.ensures.functions) c.requires.bodies.same.1)

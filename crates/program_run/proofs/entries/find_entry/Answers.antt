use Rattle.std.proofs.Common.{◌≡◌, ◌<◌, length, Some, subst, sym, arith}
use Rattle.std.proofs.lemmas.Option.{slice_get_within}
use Rattle.ir_core.specs.declared.names.FuncName.{FuncName}
use Rattle.ir_core.specs.Module.{Function}
use Rattle.ir_core.specs.Lookup.{find_function}
use Rattle.program_run.proofs.Comparing.{found_named}
use Rattle.program_run.proofs.entries.find_entry.Goals as goal

pub returns-then-is_spelled : goal.returns-then-is_spelled
returns-then-is_spelled c =
    let m = c.args.module.now in (
      c.is_spelled.ensures.0 c.if-is_spelled.true,
      subst (λ (n : FuncName). (f : Function) × (find_function n m ≡ Some f)) (sym c.name-name.ensures.value)
          (found_named m c.loop-i.i c.func.result.now.function c.func.ensures.at),
    )

pub returns : goal.returns
returns c =
    λ j f there.
    let within : j < length c.args.module.now = slice_get_within c.args.module.now j f there in
    c.loop-i.invariant j f (omega arith) there

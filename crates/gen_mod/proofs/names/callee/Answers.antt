use Rattle.std.proofs.Common.{ap, ℕ, false}
use Rattle.ir_core.specs.declared.declarations.Callee.{Callee}
use Rattle.gen_mod.proofs.names.callee.Goals as goal

pub returns : goal.returns
returns c =
    let called : ℕ → Callee = λ sig. record { name = c.args.name; colocated = false; sig = sig } in
    ap called c.new.ensures

use Rattle.std.proofs.Common.{◌≡◌, [], List, false, Option, Some, None, is_some, sym, ◌∙◌, subst}
use Rattle.ir_core.specs.Module.{Function}
use Rattle.ir_core.specs.Lists.{Each}
use Rattle.ir_check.specs.declared.faults.Fault.{Fault}
use Rattle.ir_check.specs.Faults.{Check, Passed, last_rules}
use Rattle.ir_check.specs.Found.{Finds, checks_of_function}
use Rattle.ir_check.proofs.Firsts.{own_rules}
use Rattle.ir_check.proofs.own.keeps_own_rules.Goals as goal

all_pass : (f : Function) (checks : List Check) (found : Option Fault) → is_some found ≡ false → Finds [] f checks found → Each (Passed []) checks
all_pass f checks None e h = h
all_pass f checks (Some x) e h = cc

pub returns-in-Ok-None : goal.returns-in-Ok-None
returns-in-Ok-None c = λ yes.
    let f : Function = c.args.func.now.function in
    own_rules f 0 (all_pass f _ c.find_fault_in_blocks.result (sym c.is_some.ensures ∙ c.if-is_some.false) (c.find_fault_in_blocks.ensures []))
    (subst (Finds [] f (checks_of_function last_rules 0 f)) c.in-Ok-None.field-0-is (c.in-Ok-None.ensures []))

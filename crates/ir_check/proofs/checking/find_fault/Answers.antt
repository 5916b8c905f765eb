use Rattle.std.proofs.Common.{subst}
use Rattle.ir_check.specs.Faults.{first_rules, tried}
use Rattle.ir_check.specs.Found.{FindsAny}
use Rattle.ir_check.proofs.Searching.{checks_early, late_found}
use Rattle.ir_check.proofs.checking.find_fault.Goals as goal

pub returns-in-Some : goal.returns-in-Some
returns-in-Some c = checks_early c.args.«module».now c.in-Some.fault c.in-Some.ensures

pub returns : goal.returns
returns c = late_found c.args.«module».now c.find_late_fault.result (subst (λ o. FindsAny c.args.«module».now (tried first_rules 0 c.args.«module».now) o) c.in_default.is c.find_early_fault.ensures) c.find_late_fault.ensures

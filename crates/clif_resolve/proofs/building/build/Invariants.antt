use Rattle.std.proofs.Common.{take}
use Rattle.ir_core.specs.Lists.{Each}
use Rattle.clif_names.specs.FunctionNames.{NoFunctionFault}
use Rattle.clif_meaning.specs.Meaning.{FunctionsMean}
use Rattle.clif_resolve.proofs.building.build.Given as goal

abbrev pub invariant-loop-func : goal.invariant-loop-func
invariant-loop-func l = record { free : Each NoFunctionFault (take l.func-index l.functions); means : FunctionsMean (take l.func-index l.functions) l.module }

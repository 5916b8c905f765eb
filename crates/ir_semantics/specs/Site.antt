-- A call that can be replaced by its callee's body: a direct call of a function of the module in another function.
use Rattle.std.specs.Prelude.{◌≡◌, ℕ, ◌∷◌, ◌++◌, Some, slice_get}
use Rattle.ir_core.specs.declared.declarations.Callee.{Callee}
use Rattle.ir_core.specs.Module.{Block, Module}
use Rattle.ir_core.specs.Lookup.{find_block, find_function}
use Rattle.ir_core.specs.Uses.{callee_of}
use Rattle.ir_semantics.specs.Splice.{Splicing}

pub record Site (m : Module) (p : Splicing) : Type 0 where
  pub block : Block
  pub block_found : find_block p.at p.caller.blocks ≡ Some block
  pub lines : block.lines ≡ p.before ++ (p.site ∷ p.behind)
  pub caller_found : find_function p.caller.name m ≡ Some p.caller
  pub callee : ℕ
  pub is_call : callee_of p.site.inst ≡ Some callee
  pub declared : Callee
  pub declared_found : slice_get p.caller.callees callee ≡ Some declared
  pub callee_found : find_function declared.name m ≡ Some p.callee

-- What is found of one function before a run.
use Rattle.std.specs.Prelude.{◌≡◌, length, map}
use Rattle.ir_core.specs.declared.declarations.Callee.{Callee}
use Rattle.ir_core.specs.Module.{Function, Module}
use Rattle.ir_core.specs.Named.{place_of}
use Rattle.ir_core.specs.Sound.{IsSound}
use Rattle.interp.specs.declared.state.Links.{Links}

pub record LinksOf (m : Module) (f : Function) (l : Links) : Type 0 where
  pub sound : IsSound f
  pub callees : l.callees.items ≡ map (λ (c : Callee). place_of c.name m) f.callees
  pub blocks : l.blocks ≡ length f.blocks

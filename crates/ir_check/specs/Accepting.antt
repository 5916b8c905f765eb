-- What each checked module keeps.
use Rattle.ir_core.specs.Module.{Module}
use Rattle.ir_core.specs.WellFormed.{IsModule}
use Rattle.ir_semantics.specs.Accepted.{Accepted}

pub record IsChecked (m : Module) : Type 0 where
  pub functions : IsModule m
  pub accepted : Accepted m

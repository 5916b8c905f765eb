-- What is found of an accepted module before its runs.
use Rattle.ir_semantics.specs.Accepted.{Accepted}
use Rattle.interp.specs.declared.state.Program.{Program}
use Rattle.interp.specs.State.{Linked}
use Rattle.interp_run.specs.declared.addresses.Addresses.{Addresses}
use Rattle.interp_run.specs.Addressing.{IsAddressed}

-- the places of callees and the addresses of names are those of the module, which is accepted
pub record IsReady (p : Program) (a : Addresses) : Type 0 where
  pub accepted : Accepted p.module.now
  pub linked : Linked p
  pub addressed : IsAddressed p.module.now a

-- What is found of a module's names before a run.
use Rattle.std.specs.Prelude.{◌≡◌, ℕ, List, map, Option}
use Rattle.ir_core.specs.declared.declarations.Callee.{Callee}
use Rattle.ir_core.specs.declared.names.FuncName.{FuncName}
use Rattle.ir_core.specs.Module.{Function, Module}
use Rattle.ir_core.specs.Named.{place_of}
use Rattle.ir_semantics.specs.Names.{names, address_of}
use Rattle.func_addrs.specs.Listing.{IsOrdered}
use Rattle.func_addrs.specs.Mentions.{names_of}
use Rattle.interp_run.specs.declared.addresses.Addresses.{Addresses}
use Rattle.interp_run.specs.declared.addresses.CalleeAddrs.{CalleeAddrs}

-- the addresses of callee declarations, by the names of a module in order
abbrev pub callee_addresses : List FuncName → List Callee → List (Option ℕ)
callee_addresses ns cs = map (λ (c : Callee). address_of ns c.name) cs

abbrev pub all_addresses : List FuncName → Module → List (List (Option ℕ))
all_addresses ns m = map (λ (f : Function). callee_addresses ns f.callees) m

pub record IsAddressed (m : Module) (a : Addresses) : Type 0 where
  pub listed : names_of a.names.names.items ≡ names m
  pub ordered : IsOrdered a.names
  pub places : a.places.items ≡ map (λ (n : FuncName). place_of n m) (names m)
  pub callees : map (λ (c : CalleeAddrs). c.addresses.items) a.callees.items ≡ all_addresses (names m) m

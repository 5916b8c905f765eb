-- A function with its name and signature alone, and with its declarations too.
use Rattle.std.specs.Prelude.{ℕ, ◌-◌, ◌<◌, ◌^◌, List, [], flat_map, length}
use Rattle.ir_core.specs.declared.declarations.Callee.{Callee}
use Rattle.ir_core.specs.declared.declarations.SlotDecl.{SlotDecl}
use Rattle.ir_core.specs.declared.signatures.Sig.{Sig}
use Rattle.ir_core.specs.Lists.{Each}
use Rattle.ir_core.specs.Module.{Function}
use Rattle.clif_read.specs.declared.raw.RawFunction.{RawFunction}
use Rattle.clif_meaning.specs.Meaning.{function_with, name_of, sig_of}
use Rattle.clif_resolve.specs.Parts.{own_sigs}

abbrev pub sigs_of : RawFunction → List Sig
sigs_of raw = flat_map own_sigs raw.decls

abbrev pub undeclared : RawFunction → Function
undeclared raw = record {
  name = name_of raw.name;
  sig = sig_of raw.signature;
  slots = [];
  sigs = [];
  callees = [];
  types = [];
  blocks = [];
}

abbrev pub declared : RawFunction → (ℕ → ℕ) → Function
declared raw value = record (function_with raw value []) { blocks = [] }

-- few enough declarations, of which each callee has its signature among these
pub record AreFew (ss : List SlotDecl) (gs : List Sig) (cs : List Callee) : Type 0 where
  pub slots : length ss < 2 ^ 32 - 1
  pub sigs : length gs < 2 ^ 32 - 1
  pub callees : length cs < 2 ^ 32 - 1
  pub in_range : Each (λ (c : Callee). c.sig < length gs) cs

-- The numbers of a function's words by its tables.
use Rattle.std.specs.Prelude.{ℕ, suc, ◌<◌, ◌^◌, List, [], ◌∷◌, get_or}
use Rattle.ir_semantics.specs.Renaming.{Renaming}
use Rattle.clif_read.specs.declared.raw.RawCalleeSig.TheVariants as callee_sig
use Rattle.clif_read.specs.declared.raw.RawDecl.{RawDecl}
use Rattle.clif_read.specs.declared.raw.RawDecl.TheVariants as decl
use Rattle.clif_names.specs.declared.function.FunctionNames.{FunctionNames}
use Rattle.clif_names.specs.FunctionNames.{value_number}
use Rattle.name_tables.specs.Taking.{place_or_count}

-- where `sigs` has the number of each declared signature, and at last how many signatures there are
abbrev pub numbers_in : FunctionNames → List ℕ → Renaming
numbers_in names sigs = record {
  value = value_number names;
  block = place_or_count names.uses.blocks.words;
  slot = place_or_count names.uses.slots.words;
  sig = λ n. get_or sigs (place_or_count names.uses.sigs.words n) 0;
  callee = place_or_count names.uses.callees.words;
}

-- each number is one of 32 bits
pub record AreSmall (at : Renaming) : Type 0 where
  pub value : (n : ℕ) → at.value n < 2 ^ 32
  pub block : (n : ℕ) → at.block n < 2 ^ 32
  pub slot : (n : ℕ) → at.slot n < 2 ^ 32
  pub sig : (n : ℕ) → at.sig n < 2 ^ 32
  pub callee : (n : ℕ) → at.callee n < 2 ^ 32

-- the numbers that a declaration gives to declared signatures, where so many signatures stand before it
abbrev pub own_sig_numbers : ℕ → RawDecl → List ℕ
own_sig_numbers count (decl.Slot n size align) = []
own_sig_numbers count (decl.Sig n signature) = count ∷ []
own_sig_numbers count (decl.Callee colocated n sig name) = []

-- the numbers of the declared signatures, where so many signatures stand before
abbrev pub sig_numbers : ℕ → List RawDecl → List ℕ
sig_numbers count [] = []
sig_numbers count (decl.Slot n size align ∷ ds) = sig_numbers count ds
sig_numbers count (decl.Sig n signature ∷ ds) = count ∷ sig_numbers (suc count) ds
sig_numbers count (decl.Callee colocated n (callee_sig.Declared s) name ∷ ds) = sig_numbers count ds
sig_numbers count (decl.Callee colocated n (callee_sig.Inline signature) name ∷ ds) = sig_numbers (suc count) ds

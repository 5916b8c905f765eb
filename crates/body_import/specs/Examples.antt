-- A worked import: the second of a callee's three signatures is the caller's, the third repeats the first, and the
-- first of its two callee declarations is the caller's.
use Rattle.std.specs.Prelude.{◌≡◌, ℕ, [], ◌∷◌, map}
use Rattle.ir_core.specs.declared.declarations.Callee.{Callee}
use Rattle.ir_core.specs.declared.names.FuncName.TheVariants.{Text}
use Rattle.ir_core.specs.declared.signatures.Conv.TheVariants.{Tail}
use Rattle.ir_core.specs.declared.signatures.Sig.{Sig}
use Rattle.ir_core.specs.declared.signatures.Ty.TheVariants.{I8, I32, I64}
use Rattle.ir_core.specs.Calling.{callee_named, one_to_one}
use Rattle.ir_core.specs.Module.{Function}
use Rattle.ir_semantics.specs.Import.{sig_after, callee_after}
use Rattle.body_import.specs.Importing.{importing}

abbrev pub one_to_one_tail : Sig
one_to_one_tail = record one_to_one { conv = Tail }

-- the callee of the name that is one letter, with the signature of the number
abbrev pub callee_with : ℕ → ℕ → Callee
callee_with letter sig = record (callee_named letter) { sig = sig }

abbrev pub before : Function
before =
    record {
      name = Text (102 ∷ []);
      sig = one_to_one;
      slots = record { size = 8; align = 8 } ∷ [];
      sigs = one_to_one ∷ [];
      callees = callee_with 103 0 ∷ [];
      types = (0, I64) ∷ [];
      blocks = [];
    }

abbrev pub called : Function
called =
    record {
      name = Text (103 ∷ []);
      sig = one_to_one;
      slots = record { size = 16; align = 4 } ∷ record { size = 1; align = 1 } ∷ [];
      sigs = one_to_one_tail ∷ one_to_one ∷ one_to_one_tail ∷ [];
      callees = callee_with 103 1 ∷ callee_with 104 2 ∷ [];
      types = (0, I32) ∷ (1, I8) ∷ [];
      blocks = [];
    }

abbrev pub after : Function
after =
    record {
      name = Text (102 ∷ []);
      sig = one_to_one;
      slots = record { size = 8; align = 8 } ∷ record { size = 16; align = 4 } ∷ record { size = 1; align = 1 } ∷ [];
      sigs = one_to_one ∷ one_to_one_tail ∷ [];
      callees = callee_with 103 0 ∷ callee_with 104 1 ∷ [];
      types = (0, I64) ∷ (1, I32) ∷ (2, I8) ∷ [];
      blocks = [];
    }

pub record WorkedImport : Type 0 where
  pub caller : importing before called ≡ after
  pub sigs : map (sig_after before called) (0 ∷ 1 ∷ 2 ∷ []) ≡ 1 ∷ 0 ∷ 1 ∷ []
  pub callees : map (callee_after before called) (0 ∷ 1 ∷ []) ≡ 0 ∷ 1 ∷ []

-- Canonical numbers of a function: values in order of definition in the text, blocks by their places in the text.
-- Slots, signatures and callees keep theirs. WellFormed functions with the same canonical form are the same up to
-- numbering.
use Rattle.std.specs.Prelude.{◌≡◌, ℕ, List, [], ◌∷◌, ◌++◌, map}
use Rattle.ir_core.specs.declared.signatures.Ty.{Ty}
use Rattle.ir_core.specs.Module.{Function, Module}
use Rattle.ir_core.specs.Lookup.{type_in, definitions, block_numbers, number_in}
use Rattle.ir_core.specs.Lists.{Each}
use Rattle.ir_semantics.specs.Renaming.{Renaming, block_under}
use Rattle.ir_semantics.specs.Splice.{with_type}
use Rattle.ir_core.specs.WellFormed.{WellFormed}

abbrev pub canonical_names : Function → Renaming
canonical_names f =
    record {
      value = number_in (definitions f.blocks);
      block = number_in (block_numbers f.blocks);
      slot = λ k. k;
      sig = λ s. s;
      callee = λ k. k;
    }

-- the types of values in the order of a list, each under its new number
abbrev pub types_in_order : (ℕ → ℕ) → List (ℕ × Ty) → List ℕ → List (ℕ × Ty)
types_in_order new types [] = []
types_in_order new types (v ∷ vs) = with_type (new v) (type_in types v) ++ types_in_order new types vs

abbrev pub canonical : Function → Function
canonical f =
    record f {
      types = types_in_order (canonical_names f).value f.types (definitions f.blocks);
      blocks = map (block_under (canonical_names f)) f.blocks;
    }

abbrev pub canonical_module : Module → Module
canonical_module m = map canonical m

abbrev pub SameFunction : Function → Function → Type 0
SameFunction f g = WellFormed f × WellFormed g × (canonical f ≡ canonical g)

abbrev pub SameUpToNumbering : Module → Module → Type 0
SameUpToNumbering m r = Each WellFormed m × Each WellFormed r × (canonical_module m ≡ canonical_module r)

-- The types of results, found one instruction after the other.
use Rattle.std.specs.Prelude.{List, [], ◌∷◌, ◌++◌, fold, slice_get}
use Rattle.std.specs.List.{enumerate_from}
use Rattle.ir_core.specs.declared.signatures.Ty.{Ty}
use Rattle.ir_core.specs.Lookup.{type_in}
use Rattle.ir_core.specs.Module.{Function}
use Rattle.ir_semantics.specs.Renaming.{Renaming}
use Rattle.clif_words.specs.declared.opcodes.Opcode.{Opcode}
use Rattle.clif_words.specs.declared.opcodes.Opcode.TheVariants as opcode
use Rattle.clif_insts.specs.declared.raw.RawInst.{RawInst}
use Rattle.clif_read.specs.declared.raw.RawFunction.{RawFunction}
use Rattle.clif_read.specs.declared.raw.RawLine.{RawLine}
use Rattle.clif_read.specs.declared.raw.RawLine.TheVariants as line
use Rattle.name_tables.specs.Definitions.{Step, Param as Parameter, Line as Written, steps}
use Rattle.clif_resolve.specs.Declaring.{declared}
use Rattle.clif_resolve.specs.declared.forms.FormTypes.{FormTypes}
use Rattle.clif_resolve.specs.declared.forms.FormTypes.TheVariants as form
use Rattle.clif_meaning.specs.Instructions.{instruction_of, known, type_for}
use Rattle.clif_meaning.specs.Meaning.{form_types, sig_results, types_for}

-- in a function
abbrev pub listed : Function → FormTypes → List Ty
listed f form.None = []
listed f (form.One first) = first ∷ []
listed f (form.Two first second) = first ∷ second ∷ []
listed f (form.Signature sig) = sig_results (slice_get f.sigs sig)

-- no types for a tail call
abbrev pub unless_tail : Opcode → List Ty → List Ty
unless_tail opcode.ReturnCall ts = []
unless_tail opcode.ReturnCallIndirect ts = []
unless_tail o ts = ts

-- ---- with the types of the values that are defined before

-- an instruction's type
abbrev pub type_after : Renaming → List Ty → RawInst → Ty
type_after at ts inst = known (type_for (type_in (enumerate_from 0 ts)) at inst)

module _ (f : Function) (at : Renaming) where
  abbrev pub line_types_after : List Ty → RawLine → List Ty
  line_types_after ts (line.Alias location n m) = []
  line_types_after ts (line.Inst location tags results inst) =
      types_for results
      (form_types f (instruction_of at inst.opcode.kind (type_after at ts inst) inst.operands) (type_after at ts inst))

  abbrev pub step_types_after : List Ty → Step → List Ty
  step_types_after ts (Parameter p) = p.ty ∷ []
  step_types_after ts (Written l) = line_types_after ts l

  -- the types with those of one more step
  unfoldable pub with_step : List Ty → Step → List Ty
  with_step ts s = ts ++ step_types_after ts s

  abbrev pub types_along : List Step → List Ty
  types_along ss = fold with_step [] ss

-- the types of the values of a function, whose words have these numbers
unfoldable pub types_of : RawFunction → Renaming → List Ty
types_of raw at = types_along (declared raw at.value) at (steps raw)

-- The rules on calls: conventions at a tail call, signatures of declarations and of a `try_call`, and where tags stand.
use Rattle.std.specs.Prelude.{◌≡◌, ⊤, List, [], Some, false, IsSomeAnd, slice_get}
use Rattle.std.specs.List.{list_any}
use Rattle.debug_tags.specs.declared.tags.Tag.{Tag}
use Rattle.debug_tags.specs.Tags.{is_slot}
use Rattle.ir_core.specs.declared.signatures.Conv.TheVariants.{Tail}
use Rattle.ir_core.specs.declared.declarations.Callee.{Callee}
use Rattle.ir_core.specs.Module.{call_target, Instruction, Plain, Branches, SequencePoint, Return, Call, ReturnCall}
use Rattle.ir_core.specs.Module.{TryCall, Line, Function, Module}
use Rattle.ir_core.specs.Lookup.{find_function, signature_of}

-- ---- Convention: at a tail call the function's and the callee's conventions are `tail`

abbrev pub InstructionConvention : Function → Instruction → Type 0
InstructionConvention f (ReturnCall t args) =
    (f.sig.conv ≡ Tail) × IsSomeAnd (signature_of f t) (λ sig. sig.conv ≡ Tail)
InstructionConvention f _ = ⊤

abbrev pub Convention : Function → Line → Type 0
Convention f l = InstructionConvention f l.inst

-- ---- SignatureMismatch: a declaration of a function of the module states its signature, and a `try_call` its callee's

abbrev pub Declared : Module → Function → Callee → Type 0
Declared m f c = (h : Function) → find_function c.name m ≡ Some h → slice_get f.sigs c.sig ≡ Some h.sig

abbrev pub InstructionSignature : Function → Instruction → Type 0
InstructionSignature f (TryCall t sig args normal table) = slice_get f.sigs sig ≡ signature_of f (call_target t sig)
InstructionSignature f _ = ⊤

abbrev pub Signature : Function → Line → Type 0
Signature f l = InstructionSignature f l.inst

-- ---- TagPlace: tags stand on calls and `sequence_point` only, and no slot tag on a tail call

abbrev pub InstructionTags : List Tag → Instruction → Type 0
InstructionTags tags (Plain p) = tags ≡ []
InstructionTags tags (Branches b) = tags ≡ []
InstructionTags tags SequencePoint = ⊤
InstructionTags tags (Return vs) = tags ≡ []
InstructionTags tags (Call t args) = ⊤
InstructionTags tags (ReturnCall t args) = list_any is_slot tags ≡ false
InstructionTags tags (TryCall t sig args normal table) = ⊤

abbrev pub TagPlace : Line → Type 0
TagPlace l = InstructionTags l.tags l.inst

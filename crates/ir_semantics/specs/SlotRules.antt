-- The rule on slots: the bytes of a `stack_load` or `stack_store` lie in the slot.
use Rattle.std.specs.Prelude.{⊤, IsSomeAnd, IsSome}
use Rattle.ir_core.specs.Module.{Simple, StackLoad, StackStore, Instruction, Plain, Line, Function}
use Rattle.ir_core.specs.Lookup.{type_of, width_of}
use Rattle.ir_semantics.specs.Values.{bytes_in, slot_place}

-- ---- SlotRange: the bytes of a `stack_load` or `stack_store` lie in the slot

abbrev pub SimpleSlot : Function → Simple → Type 0
SimpleSlot f (StackLoad t k offset) = IsSome (slot_place f k offset (bytes_in (width_of t)))
SimpleSlot f (StackStore v k offset) =
    IsSomeAnd (type_of f v) (λ t. IsSome (slot_place f k offset (bytes_in (width_of t))))
SimpleSlot f _ = ⊤

abbrev pub InstructionSlot : Function → Instruction → Type 0
InstructionSlot f (Plain p) = SimpleSlot f p
InstructionSlot f _ = ⊤

abbrev pub SlotRange : Function → Line → Type 0
SlotRange f l = InstructionSlot f l.inst

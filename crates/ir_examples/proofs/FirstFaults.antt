-- Worked examples, computed: first faults.
use Rattle.std.proofs.Common.{refl}
use Rattle.std.specs.Prelude.{◌≡◌, ℕ, pos, List, [], ◌∷◌, Some, None, Bool, not, nat_eq}
use Rattle.clk_num.specs.declared.op.Op.TheVariants as op
use Rattle.clk_num.specs.Rows.{row}
use Rattle.debug_tags.specs.declared.tags.Tag.TheVariants as tag
use Rattle.ir_core.specs.declared.signatures.Ty.TheVariants.{I64, I128}
use Rattle.ir_core.specs.declared.signatures.Conv.TheVariants.{Fast}
use Rattle.ir_core.specs.declared.places.Item.TheVariants as item
use Rattle.ir_core.specs.Module.{Nop, Pure, StackStore, Direct, Plain, ReturnCall, Line, Function}
use Rattle.ir_core.specs.Signatures.{same_sig}
use Rattle.ir_semantics.specs.Accepted.{no_terminator, entry_target, count_mismatch, type_mismatch, convention, signature_mismatch, slot_range, tag_place, not_available}
use Rattle.ir_examples.proofs.Written.{slot, declares, h, of_i64, line, tagged, jumps, returns, block, line_at}
use Rattle.ir_check.specs.Faults.{check}
use Rattle.ir_check.specs.Twins.{first_fault, early_fault}
use Rattle.ir_examples.proofs.AcceptedModule.{many, gives_back}

-- another signature than the declared one: at the declaration, before all blocks
abbrev fast_back : Function
fast_back = record gives_back { sig = of_i64 Fast }

at_declaration : early_fault (many ∷ fast_back ∷ []) ≡ Some (check 0 many (item.Callee 0) signature_mismatch)
unfolding row same_sig
at_declaration = refl

-- a function that has these lines
abbrev has : List Line → Function
has ls = record gives_back { blocks = block 0 (0 ∷ []) ls ∷ [] }

-- a target that is the first block, with an argument too few: the earlier rule
abbrev back : Function
back = has (jumps 0 [] ∷ [])

earlier_rule : early_fault (gives_back ∷ back ∷ []) ≡ Some (check 1 back (line_at 0 0) entry_target)
unfolding row same_sig
earlier_rule = refl

-- two faults: the earlier line, though its rule is a later one
abbrev two : Function
two = has (tagged (tag.User 1 ∷ []) [] (Plain Nop) ∷ returns [] ∷ [])

earlier_line : early_fault (two ∷ []) ≡ Some (check 0 two (line_at 0 0) tag_place)
unfolding row same_sig
earlier_line = refl

-- a value that is not available comes behind a fault of a later function
abbrev but_zero : Function → ℕ → ℕ → ℕ → Bool
but_zero f b i v = not (nat_eq v 0)

availability_last : first_fault but_zero (gives_back ∷ two ∷ []) ≡ Some (check 1 two (line_at 0 0) tag_place)
unfolding row same_sig
availability_last = refl

availability : first_fault but_zero (gives_back ∷ []) ≡ Some (check 0 gives_back (line_at 0 0) not_available)
unfolding row same_sig
availability = refl

-- a block without instructions, at the block
abbrev hollow : Function
hollow = has []

no_lines : early_fault (hollow ∷ []) ≡ Some (check 0 hollow (item.Block 0) no_terminator)
unfolding row same_sig
no_lines = refl

-- a terminator before the last line, at itself
abbrev early_end : Function
early_end = has (returns (0 ∷ []) ∷ returns (0 ∷ []) ∷ [])

ends_early : early_fault (early_end ∷ []) ≡ Some (check 0 early_end (line_at 0 0) no_terminator)
unfolding row same_sig
ends_early = refl

-- one returned value too few
abbrev few : Function
few = has (returns [] ∷ [])

too_few : early_fault (few ∷ []) ≡ Some (check 0 few (line_at 0 0) count_mismatch)
unfolding row same_sig
too_few = refl

-- division of i128
abbrev wide : Function
wide =
    record gives_back {
      types = (0, I64) ∷ (1, I128) ∷ (2, I128) ∷ [];
      blocks = block 0 (0 ∷ []) (line (Some I64) (1 ∷ []) (Plain (Pure op.Iconcat (0 ∷ 0 ∷ []))) ∷ line (Some I128) (2 ∷ []) (Plain (Pure op.Udiv (1 ∷ 1 ∷ []))) ∷ returns (0 ∷ []) ∷ []) ∷ [];
    }

wide_division : early_fault (wide ∷ []) ≡ Some (check 0 wide (line_at 0 1) type_mismatch)
unfolding row same_sig
wide_division = refl

-- an i128 stored into a slot of 8 bytes
abbrev narrow : Function
narrow =
    record gives_back {
      slots = slot 8 ∷ [];
      types = (0, I64) ∷ (1, I128) ∷ [];
      blocks = block 0 (0 ∷ []) (line (Some I64) (1 ∷ []) (Plain (Pure op.Iconcat (0 ∷ 0 ∷ []))) ∷ line (Some I128) [] (Plain (StackStore 1 0 (pos 0))) ∷ returns (0 ∷ []) ∷ []) ∷ [];
    }

narrow_slot : early_fault (narrow ∷ []) ≡ Some (check 0 narrow (line_at 0 1) slot_range)
unfolding row same_sig
narrow_slot = refl

-- a tail call of a function of another convention
abbrev fast_tail : Function
fast_tail = record gives_back { sigs = of_i64 Fast ∷ []; callees = declares h 0 ∷ []; blocks = block 0 (0 ∷ []) (line None [] (ReturnCall (Direct 0) (0 ∷ [])) ∷ []) ∷ [] }

other_convention : early_fault (fast_tail ∷ []) ≡ Some (check 0 fast_tail (line_at 0 0) convention)
unfolding row same_sig
other_convention = refl

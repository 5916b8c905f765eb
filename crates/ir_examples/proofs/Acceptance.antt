-- Worked examples: which rule of acceptance refuses a line, and which values are available.
use Rattle.std.specs.Prelude.{◌≡◌, ◌≢◌, ℕ, pos, Bool, nat_eq, length, if◌then◌else◌, List, [], ◌∷◌, Option, Some, None, false, true, IsSomeAnd, slice_get}
use Rattle.std.proofs.Common.{refl, inl, inr, ap, ◌∙◌, subst}
use Rattle.clk_num.specs.Operations.{value_of}
use Rattle.clk_num.specs.declared.width.Width.TheVariants.{W32, W128}
use Rattle.clk_num.specs.declared.op.Op.TheVariants.{Iadd, Udiv, Iconcat}
use Rattle.clk_num.specs.declared.op.TrapCode.TheVariants as code
use Rattle.clk_num.specs.Rows.{row}
use Rattle.debug_tags.specs.declared.tags.Tag.TheVariants.{Slot}
use Rattle.ir_core.specs.declared.signatures.Ty.TheVariants.{I8, I32, I64, I128}
use Rattle.ir_core.specs.declared.signatures.Conv.TheVariants.{Fast, Tail}
use Rattle.ir_core.specs.Module.{Const, Pure, StackLoad, StackStore, Trap, Brif, Direct, Plain, Branches, ReturnCall, Line, Block, Function}
use Rattle.ir_core.specs.declared.signatures.Sig.{Sig}
use Rattle.ir_core.specs.declared.instructions.BlockCall.{BlockCall}
use Rattle.ir_semantics.specs.Splice.{first_number}
use Rattle.ir_core.specs.Uses.{targets}
use Rattle.ir_core.specs.Lookup.{find_block}
use Rattle.ir_core.specs.Lists.{Each}
use Rattle.ir_core.proofs.Gets.{each_at}
use Rattle.ir_core.proofs.Members.{each_in}
use Rattle.ir_semantics.specs.Available.{Reach, begin, next, branch, Available}
use Rattle.ir_semantics.specs.Accepted.{Rule, no_terminator, entry_target, count_mismatch, type_mismatch, convention, signature_mismatch, slot_range, tag_place, not_available, HoldsAtLine}
use Rattle.ir_semantics.specs.CallRules.{Declared}
use Rattle.ir_examples.proofs.Written.{signature, slot, declares, f, h, of_i64, line, tagged, to, jumps, returns, block, function}

-- a rule holds at a line of a block
abbrev KeptAt : Function → ℕ → ℕ → Rule → Type 0
KeptAt f b i rule = IsSomeAnd (find_block b f.blocks) (λ block. IsSomeAnd (slice_get block.lines i) (λ l. HoldsAtLine f b block i l rule))

-- A slot tag on a tail call.
abbrev tail_tag : Function
tail_tag =
    function f (signature [] [] Tail) (slot 4 ∷ []) (signature [] [] Tail ∷ []) (declares h 0 ∷ []) [] (
    block 0 [] (tagged (Slot 0 ∷ []) [] (ReturnCall (Direct 0) []) ∷ []) ∷ [])

tail_tag_refused : KeptAt tail_tag 0 0 tag_place → ⊥
unfolding row
tail_tag_refused p = cc

tail_tag_else : KeptAt tail_tag 0 0 no_terminator × KeptAt tail_tag 0 0 entry_target × KeptAt tail_tag 0 0 count_mismatch × KeptAt tail_tag 0 0 type_mismatch × KeptAt tail_tag 0 0 convention × KeptAt tail_tag 0 0 signature_mismatch × KeptAt tail_tag 0 0 slot_range
tail_tag_else = (tt, tt, (refl, (refl, refl)), (refl, tt, (refl, refl)), (refl, refl), tt, tt)

-- A suffix that is not the operand's type.
abbrev other_type : Function
other_type =
    function f (of_i64 Fast) [] [] [] (I64 ∷ I32 ∷ []) (
    block 0 (0 ∷ []) (line (Some I32) (1 ∷ []) (Plain (Pure Iadd (0 ∷ 0 ∷ []))) ∷ returns (0 ∷ []) ∷ []) ∷ [])

other_type_refused : KeptAt other_type 0 0 type_mismatch → ⊥
unfolding row
other_type_refused p = cc

-- Two results of an operation that has one.
abbrev two_results : Function
two_results =
    function f (of_i64 Fast) [] [] [] (I64 ∷ I64 ∷ I8 ∷ []) (
    block 0 (0 ∷ []) (line (Some I64) (1 ∷ 2 ∷ []) (Plain (Pure Iadd (0 ∷ 0 ∷ []))) ∷ returns (0 ∷ []) ∷ []) ∷ [])

two_results_refused : KeptAt two_results 0 0 count_mismatch → ⊥
unfolding row
two_results_refused p = cc

-- A terminator that does not stand last.
abbrev too_soon : Function
too_soon =
    function f (of_i64 Fast) [] [] [] (I64 ∷ []) (
    block 0 (0 ∷ []) (line None [] (Plain (Trap (code.User 1))) ∷ returns (0 ∷ []) ∷ []) ∷ [])

too_soon_refused : KeptAt too_soon 0 0 no_terminator → ⊥
unfolding row
too_soon_refused p = p

-- A jump to the first block.
abbrev to_entry : Function
to_entry = function f (signature [] [] Fast) [] [] [] [] (block 0 [] (jumps 0 [] ∷ []) ∷ [])

to_entry_refused : KeptAt to_entry 0 0 entry_target → ⊥
unfolding row
to_entry_refused p = p.0 refl

-- Eight bytes of a slot of four.
abbrev beyond_slot : Function
beyond_slot =
    function f (signature [] [] Fast) (slot 4 ∷ []) [] [] (I64 ∷ []) (
    block 0 [] (line None (0 ∷ []) (Plain (StackLoad I64 0 (pos 0))) ∷ returns [] ∷ []) ∷ [])

beyond_slot_refused : KeptAt beyond_slot 0 0 slot_range → ⊥
unfolding row
beyond_slot_refused p = cc

-- A tail call under another convention.
abbrev fast_tail : Function
fast_tail =
    function f (signature [] [] Fast) [] (signature [] [] Fast ∷ []) (declares h 0 ∷ []) [] (
    block 0 [] (line None [] (ReturnCall (Direct 0) []) ∷ []) ∷ [])

fast_tail_refused : KeptAt fast_tail 0 0 convention → ⊥
unfolding row
fast_tail_refused p = cc

-- No division of an i128.
abbrev wide_division : Function
wide_division =
    function f (signature (I64 ∷ I64 ∷ []) (I64 ∷ []) Fast) [] [] [] (I64 ∷ I64 ∷ I128 ∷ I128 ∷ []) (
    block 0 (0 ∷ 1 ∷ []) (
    line (Some I64) (2 ∷ []) (Plain (Pure Iconcat (0 ∷ 1 ∷ []))) ∷
    line (Some I128) (3 ∷ []) (Plain (Pure Udiv (2 ∷ 2 ∷ []))) ∷
    returns (0 ∷ []) ∷ []) ∷ [])

wide_division_refused : KeptAt wide_division 0 1 type_mismatch → ⊥
unfolding row
wide_division_refused p = p.0

-- No constant of an i128.
abbrev wide_constant : Function
wide_constant =
    function f (of_i64 Fast) [] [] [] (I64 ∷ I128 ∷ []) (
    block 0 (0 ∷ []) (line None (1 ∷ []) (Plain (Const (value_of W128 1))) ∷ returns (0 ∷ []) ∷ []) ∷ [])

wide_constant_refused : KeptAt wide_constant 0 0 type_mismatch → ⊥
unfolding row
wide_constant_refused p = p.1 refl

-- An i128 into a slot of eight bytes.
abbrev wide_store : Function
wide_store =
    function f (of_i64 Fast) (slot 8 ∷ []) [] [] (I64 ∷ I128 ∷ []) (
    block 0 (0 ∷ []) (
    line (Some I64) (1 ∷ []) (Plain (Pure Iconcat (0 ∷ 0 ∷ []))) ∷
    line (Some I128) [] (Plain (StackStore 1 0 (pos 0))) ∷
    returns (0 ∷ []) ∷ []) ∷ [])

wide_store_refused : KeptAt wide_store 0 1 slot_range → ⊥
unfolding row
wide_store_refused p = cc

-- A declaration of the function itself with another signature.
abbrev other_signature : Function
other_signature =
    function f (signature [] [] Fast) [] (signature (I8 ∷ []) [] Fast ∷ []) (declares f 0 ∷ []) [] (
    block 0 [] (returns [] ∷ []) ∷ [])

other_signature_refused : Declared (other_signature ∷ []) other_signature (declares f 0) → ⊥
other_signature_refused p = let e : Path ℕ 1 0 = ap params (p other_signature refl) in cc
  where
    params : Option Sig → ℕ
    params None = 0
    params (Some s) = length s.params

-- A value whose definition stands before the use in the text, and not on every path.
abbrev by_text : Function
by_text =
    function f (signature (I8 ∷ []) (I32 ∷ []) Fast) [] [] [] (I8 ∷ I32 ∷ []) (
    block 0 (0 ∷ []) (line (Some I8) [] (Branches (Brif 0 (to 1 []) (to 2 []))) ∷ []) ∷
    block 1 [] (line None (1 ∷ []) (Plain (Const (value_of W32 1))) ∷ jumps 2 [] ∷ []) ∷
    block 2 [] (returns (1 ∷ []) ∷ []) ∷ [])

by_text_path : Reach by_text 2 0 (0 ∷ [])
by_text_path = branch (begin _ _ refl) _ refl _ refl (to 2 []) (inr (inl refl)) _ refl

by_text_refused : Available by_text 2 0 1 → ⊥
by_text_refused p = elim (p (0 ∷ []) by_text_path) [ inl q ↦ cc | inr q ↦ q ]

-- A value that is used before the line that defines it, with a suffix that says its type.
abbrev too_early : Function
too_early =
    function f (of_i64 Fast) [] [] [] (I64 ∷ I64 ∷ I64 ∷ []) (
    block 0 (0 ∷ []) (
    line (Some I64) (1 ∷ []) (Plain (Pure Iadd (2 ∷ 0 ∷ []))) ∷
    line (Some I64) (2 ∷ []) (Plain (Pure Iadd (0 ∷ 0 ∷ []))) ∷
    returns (0 ∷ []) ∷ []) ∷ [])

too_early_refused : KeptAt too_early 0 0 not_available → ⊥
too_early_refused p = elim (p.0 (0 ∷ []) (begin _ _ refl)) [ inl q ↦ cc | inr q ↦ q ]

too_early_else : KeptAt too_early 0 0 no_terminator × KeptAt too_early 0 0 entry_target × KeptAt too_early 0 0 count_mismatch × KeptAt too_early 0 0 type_mismatch × KeptAt too_early 0 0 convention × KeptAt too_early 0 0 signature_mismatch × KeptAt too_early 0 0 slot_range × KeptAt too_early 0 0 tag_place
unfolding row
too_early_else = (tt, tt, refl, (refl, refl), tt, tt, tt, refl)

-- A block that nothing enters: every value is available there.
abbrev no_path : Function
no_path =
    function f (signature (I8 ∷ []) (I32 ∷ []) Fast) [] [] [] (I8 ∷ I32 ∷ I32 ∷ []) (
    block 0 (0 ∷ []) (line (Some I8) [] (Branches (Brif 0 (to 1 []) (to 2 []))) ∷ []) ∷
    block 1 [] (line None (1 ∷ []) (Plain (Const (value_of W32 1))) ∷ jumps 2 [] ∷ []) ∷
    block 2 [] (line None (2 ∷ []) (Plain (Const (value_of W32 2))) ∷ returns (2 ∷ []) ∷ []) ∷
    block 3 [] (returns (1 ∷ []) ∷ []) ∷ [])

abbrev NotThird : List BlockCall → Type 0
NotThird ts = Each (λ (t : BlockCall). t.block ≢ 3) ts

-- no line of the function has the block as a target
lines_lead : Each (λ (b : Block). Each (λ (l : Line). NotThird (targets l.inst)) b.lines) no_path.blocks
lines_lead = ((((λ e. cc), ((λ e. cc), tt)), tt), ((tt, (((λ e. cc), tt), tt)), ((tt, (tt, tt)), ((tt, tt), tt))))

found_each : (P : Block → Type 0) (bs : List Block) → Each P bs → (b : ℕ) (block : Block) → find_block b bs ≡ Some block → P block
found_each P [] each b block q = cc
found_each P (x ∷ bs) each b block q = go (λ e. found_each P bs each.1 b block e) (nat_eq x.number b) q
  where
    go : (find_block b bs ≡ Some block → P block) → (c : Bool) → (if c then Some x else find_block b bs) ≡ Some block → P block
    go ih true q = subst P (let e : Some x ≡ Some block = q in cc) each.0
    go ih false q = ih q

not_reached : {b i : ℕ} {defs : List ℕ} → Reach no_path b i defs → b ≢ 3
not_reached (begin first others q) = λ e. let n : Path ℕ 0 3 = ap first_number q ∙ e in cc
not_reached (next r block q l p goes) = not_reached r
not_reached (branch {b = b} {i = i} r block q l p t is entered e) =
    each_in (λ (t : BlockCall). t.block ≢ 3) (targets l.inst) (each_at (λ (l : Line). NotThird (targets l.inst)) block.lines i l (found_each (λ (b : Block). Each (λ (l : Line). NotThird (targets l.inst)) b.lines) no_path.blocks lines_lead b block q) p) t is

no_path_available : Available no_path 3 0 1
no_path_available defs r = absurd (not_reached r refl)

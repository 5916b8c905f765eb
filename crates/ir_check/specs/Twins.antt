-- The rules as tests, by the same cases as the rules.
use Rattle.std.specs.Prelude.{ℕ, ◌^◌, suc, List, [], ◌∷◌, length, map, Option, Some, None, Bool, true, false, not, ◌&&◌}
use Rattle.std.specs.Prelude.{nat_eq, nat_lt, is_some, if◌then◌else◌, slice_get}
use Rattle.std.specs.List.{list_all, list_any}
use Rattle.debug_tags.specs.declared.tags.Tag.{Tag}
use Rattle.debug_tags.specs.Tags.{is_slot}
use Rattle.clk_num.specs.Width.{same, bits_of}
use Rattle.clk_num.specs.Operations.{DataValue}
use Rattle.clk_num.specs.declared.width.Width.{Width}
use Rattle.clk_num.specs.declared.width.Width.TheVariants.{W128}
use Rattle.clk_num.specs.declared.op.Op.{Op}
use Rattle.clk_num.specs.Rows.{row}
use Rattle.ir_core.specs.declared.signatures.Ty.{Ty}
use Rattle.ir_core.specs.declared.signatures.Ty.TheVariants.{I32, I64}
use Rattle.ir_core.specs.declared.signatures.Sig.{Sig}
use Rattle.ir_core.specs.declared.signatures.Conv.TheVariants.{Tail}
use Rattle.ir_core.specs.declared.declarations.Callee.{Callee}
use Rattle.ir_core.specs.declared.instructions.Arg.{Arg}
use Rattle.ir_core.specs.declared.instructions.Arg.TheVariants as arg
use Rattle.ir_core.specs.declared.instructions.BlockCall.{BlockCall}
use Rattle.ir_core.specs.declared.places.Item.{Item}
use Rattle.ir_core.specs.declared.places.Item.TheVariants as item
use Rattle.ir_core.specs.Module.{Simple, Nop, Const, Pure, PureImm, Load, Store, StackLoad, StackStore, FuncAddr, Trap}
use Rattle.ir_core.specs.Module.{Trapz, Trapnz, Branch, Jump, Brif, BrTable, CallTarget, Direct, Indirect, call_target}
use Rattle.ir_core.specs.Module.{Instruction, Plain, Branches, SequencePoint, Return, Call, ReturnCall, TryCall, Line}
use Rattle.ir_core.specs.Module.{Block, Function, Module}
use Rattle.ir_core.specs.Lookup.{find_function, find_block, type_of, signature_of, param_types, width_of, ty_of}
use Rattle.ir_core.specs.Signatures.{same_type, same_conv, same_sig}
use Rattle.ir_semantics.specs.Values.{bytes_in, slot_place}
use Rattle.ir_semantics.specs.Splice.{first_number}
use Rattle.ir_core.specs.Uses.{targets, table_targets, values_used}
use Rattle.ir_semantics.specs.Available.{terminates}
use Rattle.ir_semantics.specs.Accepted.{Rule, no_terminator, entry_target, count_mismatch, type_mismatch, convention}
use Rattle.ir_semantics.specs.Accepted.{signature_mismatch, slot_range, tag_place, not_available}
use Rattle.ir_semantics.specs.CountRules.{simple_results}
use Rattle.ir_semantics.specs.TypeRules.{types_of, each_some, arg_type, type_at, access_form, access_suffix, store_form}
use Rattle.ir_semantics.specs.TypeRules.{widths_of_values}
use Rattle.ir_core.specs.Forms.{controlling, has_immediate, access_type, flags_form}
use Rattle.ir_check.specs.Faults.{Check, tried, first_rules, checks}

-- ---- words

-- there is one, and it passes
abbrev pub some_and : {A : Type 0} → Option A → (A → Bool) → Bool
some_and None t = false
some_and (Some a) t = t a

-- if there is one, it passes
abbrev pub if_some : {A : Type 0} → Option A → (A → Bool) → Bool
if_some None t = true
if_some (Some a) t = t a

abbrev pub implies : Bool → Bool → Bool
implies true b = b
implies false b = true

abbrev pub empty : {A : Type 0} → List A → Bool
empty [] = true
empty (a ∷ as') = false

abbrev pub same_option : {A : Type 0} → (A → A → Bool) → Option A → Option A → Bool
same_option t None None = true
same_option t (Some a) (Some b) = t a b
same_option t None (Some b) = false
same_option t (Some a) None = false

abbrev pub same_list : {A : Type 0} → (A → A → Bool) → List A → List A → Bool
same_list t [] [] = true
same_list t (a ∷ as') (b ∷ bs) = t a b && same_list t as' bs
same_list t [] (b ∷ bs) = false
same_list t (a ∷ as') [] = false

-- ---- NoTerminator

abbrev pub filled : Block → Bool
filled b = not (empty b.lines)

abbrev pub ends_rightly : Bool → Option Line → Bool
ends_rightly true None = true
ends_rightly true (Some l) = false
ends_rightly false None = false
ends_rightly false (Some l) = true

-- the same, where it is told whether it is the last line
abbrev pub ends_by : Bool → Bool → Bool
ends_by true last = last
ends_by false last = not last

abbrev pub terminated : Block → ℕ → Line → Bool
terminated b i l = ends_rightly (terminates l.inst) (slice_get b.lines (suc i))

-- ---- EntryTarget

-- the target is another block than the first
abbrev pub leaves : ℕ → BlockCall → Bool
leaves first t = not (nat_eq t.block first)

abbrev pub not_first : Function → BlockCall → Bool
not_first f t = leaves (first_number f.blocks) t

abbrev pub entry_is_no_target : Function → Line → Bool
entry_is_no_target f l = list_all (not_first f) (targets l.inst)

-- ---- CountMismatch

abbrev pub below : Option ℕ → ℕ → Bool
below None i = true
below (Some n) i = nat_lt i n

abbrev pub arg_counts : Option ℕ → Arg → Bool
arg_counts results (arg.Value v) = true
arg_counts results (arg.Ret i) = below results i
arg_counts results (arg.Exn i) = nat_lt i 2

abbrev pub target_counts : Function → Option ℕ → BlockCall → Bool
target_counts f results t =
    some_and (find_block t.block f.blocks) (λ b. nat_eq (length t.args) (length b.params))
    && list_all (arg_counts results) t.args

abbrev pub call_counts : Function → CallTarget → List ℕ → (Sig → Bool) → Bool
call_counts f t args more = some_and (signature_of f t) (λ sig. nat_eq (length args) (length sig.params) && more sig)

abbrev pub instruction_counts : Function → Line → Instruction → Bool
instruction_counts f l (Plain p) = nat_eq (length l.results) (simple_results p)
instruction_counts f l (Branches b) =
    nat_eq (length l.results) 0 && list_all (target_counts f None) (targets (Branches b))
instruction_counts f l SequencePoint = nat_eq (length l.results) 0
instruction_counts f l (Return vs) = nat_eq (length l.results) 0 && nat_eq (length vs) (length f.sig.results)
instruction_counts f l (Call t args) = call_counts f t args (λ sig. nat_eq (length l.results) (length sig.results))
instruction_counts f l (ReturnCall t args) =
    call_counts f t args (λ sig. nat_eq (length l.results) 0 && nat_eq (length sig.results) (length f.sig.results))
instruction_counts f l (TryCall t sig args normal table) =
    call_counts f (call_target t sig) args
    (λ s. nat_eq (length l.results) 0
    && list_all (target_counts f (Some (length s.results))) (normal ∷ table_targets table))

abbrev pub counts : Function → Line → Bool
counts f l = instruction_counts f l l.inst

abbrev pub entry_counts : Function → Block → Bool
entry_counts f b = nat_eq (length b.params) (length f.sig.params)

-- ---- TypeMismatch

abbrev pub is_type : Option Ty → Option Ty → Bool
is_type a b = same_option same_type a b

abbrev pub same_types : List (Option Ty) → List (Option Ty) → Bool
same_types as' bs = same_list is_type as' bs

abbrev pub have_types : Function → List ℕ → List Ty → Bool
have_types f vs ts = same_types (types_of f vs) (each_some ts)

abbrev pub target_types : Function → List Ty → List Ty → BlockCall → Bool
target_types f results payloads t =
    some_and (find_block t.block f.blocks)
    (λ b. same_types (map (arg_type f results payloads) t.args) (types_of f b.params))

abbrev pub op_types : Function → Line → Op → Option (List Width) → Bool
op_types f l o ws =
    some_and ws (λ given. some_and (row o given) (λ results. have_types f l.results (map ty_of results)))

-- the suffix is the type of the value
abbrev pub by_value : Function → Line → ℕ → Bool
by_value f l v = some_and (type_of f v) (λ t. is_type l.ty (Some t))

abbrev pub in_range : DataValue → Bool
in_range x = nat_lt x.value (2 ^ bits_of x.width)

abbrev pub simple_types : Function → Line → Simple → Bool
simple_types f l Nop = is_type l.ty None
simple_types f l (Const x) =
    is_type l.ty None && not (same x.width W128) && in_range x && have_types f l.results (ty_of x.width ∷ [])
simple_types f l (Pure o args) =
    op_types f l o (widths_of_values f args) && is_type l.ty (type_at f (controlling o args))
simple_types f l (PureImm o a imm) =
    has_immediate o && in_range imm
    && some_and (type_of f a) (λ t. is_type l.ty (Some t) && same imm.width (width_of t)
    && op_types f l o (Some (width_of t ∷ imm.width ∷ [])))
simple_types f l (Load access flags a offset) =
    is_type l.ty (access_suffix access) && flags_form flags && access_form access && is_type (type_of f a) (Some I64)
    && have_types f l.results (access_type access ∷ [])
simple_types f l (Store narrow flags v a offset) =
    flags_form flags && is_type (type_of f a) (Some I64)
    && some_and (type_of f v) (λ t. is_type l.ty (Some t) && store_form narrow t)
simple_types f l (StackLoad t k offset) = is_type l.ty None && have_types f l.results (t ∷ [])
simple_types f l (StackStore v k offset) = by_value f l v
simple_types f l (FuncAddr k) = is_type l.ty None && have_types f l.results (I64 ∷ [])
simple_types f l (Trap code) = is_type l.ty None
simple_types f l (Trapz v code) = by_value f l v
simple_types f l (Trapnz v code) = by_value f l v

abbrev pub branch_types : Function → Line → Branch → Bool
branch_types f l (Jump t) = is_type l.ty None
branch_types f l (Brif v t u) = by_value f l v
branch_types f l (BrTable v default ts) = is_type l.ty None && is_type (type_of f v) (Some I32)

abbrev pub called_types : Function → CallTarget → Bool
called_types f (Direct k) = true
called_types f (Indirect s a) = is_type (type_of f a) (Some I64)

abbrev pub call_types : Function → Line → CallTarget → List ℕ → (Sig → Bool) → Bool
call_types f l t args more =
    is_type l.ty None && called_types f t
    && some_and (signature_of f t) (λ sig. have_types f args (param_types sig.params) && more sig)

abbrev pub instruction_types : Function → Line → Instruction → Bool
instruction_types f l (Plain p) = simple_types f l p
instruction_types f l (Branches b) = branch_types f l b && list_all (target_types f [] []) (targets (Branches b))
instruction_types f l SequencePoint = is_type l.ty None
instruction_types f l (Return vs) = is_type l.ty None && have_types f vs (param_types f.sig.results)
instruction_types f l (Call t args) = call_types f l t args (λ sig. have_types f l.results (param_types sig.results))
instruction_types f l (ReturnCall t args) =
    call_types f l t args (λ sig. same_list same_type (param_types sig.results) (param_types f.sig.results))
instruction_types f l (TryCall t sig args normal table) =
    call_types f l (call_target t sig) args
    (λ s. target_types f (param_types s.results) [] normal
    && list_all (target_types f [] (I64 ∷ I64 ∷ [])) (table_targets table))

abbrev pub types : Function → Line → Bool
types f l = instruction_types f l l.inst

abbrev pub entry_types : Function → Block → Bool
entry_types f b = have_types f b.params (param_types f.sig.params)

-- ---- Convention

abbrev pub instruction_convention : Function → Instruction → Bool
instruction_convention f (ReturnCall t args) =
    same_conv f.sig.conv Tail && some_and (signature_of f t) (λ sig. same_conv sig.conv Tail)
instruction_convention f _ = true

-- ---- SignatureMismatch

abbrev pub declared : Module → Function → Callee → Bool
declared m f c = if_some (find_function c.name m) (λ h. same_option same_sig (slice_get f.sigs c.sig) (Some h.sig))

abbrev pub instruction_signature : Function → Instruction → Bool
instruction_signature f (TryCall t sig args normal table) =
    same_option same_sig (slice_get f.sigs sig) (signature_of f (call_target t sig))
instruction_signature f _ = true

-- ---- SlotRange

abbrev pub simple_slot : Function → Simple → Bool
simple_slot f (StackLoad t k offset) = is_some (slot_place f k offset (bytes_in (width_of t)))
simple_slot f (StackStore v k offset) =
    some_and (type_of f v) (λ t. is_some (slot_place f k offset (bytes_in (width_of t))))
simple_slot f _ = true

abbrev pub instruction_slot : Function → Instruction → Bool
instruction_slot f (Plain p) = simple_slot f p
instruction_slot f _ = true

-- ---- TagPlace

abbrev pub instruction_tags : List Tag → Instruction → Bool
instruction_tags tags (Plain p) = empty tags
instruction_tags tags (Branches b) = empty tags
instruction_tags tags SequencePoint = true
instruction_tags tags (Return vs) = empty tags
instruction_tags tags (Call t args) = true
instruction_tags tags (ReturnCall t args) = not (list_any is_slot tags)
instruction_tags tags (TryCall t sig args normal table) = true

-- ---- all rules, where a test for availability is given: of the function, the block, the line and the value

module _ (available : Function → ℕ → ℕ → ℕ → Bool) where
  abbrev pub kept_at_line : Function → ℕ → Block → ℕ → Line → Rule → Bool
  kept_at_line f b block i l no_terminator = terminated block i l
  kept_at_line f b block i l entry_target = entry_is_no_target f l
  kept_at_line f b block i l count_mismatch = counts f l
  kept_at_line f b block i l type_mismatch = types f l
  kept_at_line f b block i l convention = instruction_convention f l.inst
  kept_at_line f b block i l signature_mismatch = instruction_signature f l.inst
  kept_at_line f b block i l slot_range = instruction_slot f l.inst
  kept_at_line f b block i l tag_place = instruction_tags l.tags l.inst
  kept_at_line f b block i l not_available = list_all (available f b i) (values_used l.inst)

  abbrev pub is_first : Function → ℕ → Bool
  is_first f b = nat_eq b (first_number f.blocks)

  abbrev pub kept_at_block : Function → ℕ → Block → Rule → Bool
  kept_at_block f b block no_terminator = filled block
  kept_at_block f b block count_mismatch = implies (is_first f b) (entry_counts f block)
  kept_at_block f b block type_mismatch = implies (is_first f b) (entry_types f block)
  kept_at_block f b block _ = true

  abbrev pub kept_at_callee : Module → Function → Callee → Rule → Bool
  kept_at_callee m f c signature_mismatch = declared m f c
  kept_at_callee m f c _ = true

  abbrev pub kept : Module → Function → Item → Rule → Bool
  kept m f item.Whole rule = true
  kept m f (item.Callee k) rule = if_some (slice_get f.callees k) (λ c. kept_at_callee m f c rule)
  kept m f (item.Block b) rule = if_some (find_block b f.blocks) (λ block. kept_at_block f b block rule)
  kept m f (item.Inst at) rule =
      if_some (find_block at.block f.blocks)
      (λ block. if_some (slice_get block.lines at.index) (λ l. kept_at_line f at.block block at.index l rule))

-- ---- the first that fails

abbrev pub passes : (Function → ℕ → ℕ → ℕ → Bool) → Module → Check → Bool
passes available m c = kept available m c.func c.place c.rule

abbrev pub first_failing : (Check → Bool) → List Check → Option Check
first_failing t [] = None
first_failing t (c ∷ cs) = if t c then first_failing t cs else Some c

-- where a test for availability is given
abbrev pub first_fault : (Function → ℕ → ℕ → ℕ → Bool) → Module → Option Check
first_fault available m = first_failing (passes available m) (checks m)

-- by all rules but availability
abbrev pub always_available : Function → ℕ → ℕ → ℕ → Bool
always_available f b i v = true

abbrev pub early_fault : Module → Option Check
early_fault m = first_failing (passes always_available m) (tried first_rules 0 m)

-- the first fault of two parts in order
abbrev pub or_else : Option Check → Option Check → Option Check
or_else None o = o
or_else (Some c) o = Some c

-- A function under other numbers has the same canonical text.
use Rattle.std.proofs.Common.{◌≡◌, ℕ, suc, ◌+◌, List, [], ◌∷◌, ◌++◌, map, length, Option, Some, None, Bool, false, ◌&&◌, nat_lt, refl, sym, ap, ap₂, ◌∙◌, subst}
use Rattle.std.specs.Prelude.{if◌then◌else◌, codes, slice_get}
use Rattle.std.specs.Option.{option_map_or}
use Rattle.clk_num.specs.declared.op.Op.{Op}
use Rattle.clk_num.specs.declared.op.Op.TheVariants as op
use Rattle.exn_tables.specs.declared.table.Entry.{Entry}
use Rattle.debug_tags.specs.declared.tags.Tag.{Tag}
use Rattle.debug_tags.specs.declared.tags.Tag.TheVariants as tag
use Rattle.ir_core.specs.declared.signatures.Ty.{Ty}
use Rattle.ir_core.specs.declared.signatures.Ty.TheVariants.{I64}
use Rattle.ir_text.specs.Words.{op_word}
use Rattle.ir_core.specs.declared.signatures.Sig.{Sig}
use Rattle.ir_core.specs.declared.names.FuncName.{FuncName}
use Rattle.ir_core.specs.declared.declarations.SlotDecl.{SlotDecl}
use Rattle.ir_core.specs.declared.declarations.Callee.{Callee}
use Rattle.ir_core.specs.declared.instructions.Arg.{Arg}
use Rattle.ir_core.specs.declared.instructions.Arg.TheVariants as arg
use Rattle.ir_core.specs.declared.instructions.BlockCall.{BlockCall}
use Rattle.ir_core.specs.Module.{Simple, Nop, Const, Pure, PureImm, Load, Store, StackLoad, StackStore, FuncAddr, Trap, Trapz, Trapnz, Branch, Jump, Brif, BrTable, CallTarget, Direct, Indirect, TryTarget, TryDirect, TryIndirect, call_target, Instruction, Plain, Branches, SequencePoint, Return, Call, ReturnCall, TryCall, Line, Block, Function, Module}
use Rattle.ir_core.specs.Forms.{controlling}
use Rattle.ir_core.specs.Signatures.{same_type}
use Rattle.ir_core.specs.Lookup.{type_of, line_definitions, definitions, block_numbers, number_in}
use Rattle.ir_core.specs.Lists.{In, Each, Different}
use Rattle.ir_semantics.specs.Renaming.{Renaming, arg_under, target_under, tag_under, entry_under, simple_under, branch_under, called_under, try_target_under, instruction_under, line_under, block_under}
use Rattle.ir_core.specs.Uses.{table_targets, branch_targets, targets, arg_values_used, targets_used, simple_used, branch_used, called_used, values_used, blocks_used}
use Rattle.ir_core.specs.Uses as uses
use Rattle.ir_semantics.specs.Canon.{canonical, canonical_module, SameFunction}
use Rattle.ir_core.specs.WellFormed.{WellFormed}
use Rattle.ir_text.specs.Numbering.{Numbering, numbering_of}
use Rattle.ir_text.specs.TextTree.{Text, Nothing, Word, Numbered, Mark, ◌▹◌, spelled, space, line_end, indent, comma, colon, equals, more, separated, in_parentheses, in_brackets}
use Rattle.ir_text.specs.TextDeclarations as text_declarations
use Rattle.ir_text.specs.TextInstructions as text_instructions
use Rattle.ir_text.specs.Text as text
use Rattle.ir_core.proofs.Members.{each_left, each_right}
use Rattle.inline_acceptance.proofs.KeptCounts.{lines_under, blocks_under}
use Rattle.inline_numbering.specs.Renamed.{Renamed, NumberingKeepsText}
use Rattle.inline_numbering.proofs.Same.{place_map, blocks_number, blocks_in, same_is_renamed}

-- ---- lists

length_map : (f : ℕ → ℕ) (xs : List ℕ) → length (map f xs) ≡ length xs
length_map f [] = refl
length_map f (x ∷ xs) = ap suc (length_map f xs)

-- the number in an option, under other numbers
under : (ℕ → ℕ) → Option ℕ → Option ℕ
under f None = None
under f (Some v) = Some (f v)

first_map : (f : ℕ → ℕ) (vs : List ℕ) → slice_get (map f vs) 0 ≡ under f (slice_get vs 0)
unfolding under
first_map f [] = refl
first_map f (v ∷ vs) = refl

second_map : (f : ℕ → ℕ) (vs : List ℕ) → slice_get (map f vs) 1 ≡ under f (slice_get vs 1)
unfolding under
second_map f [] = refl
second_map f (v ∷ vs) = first_map f vs

op_map : (f : ℕ → ℕ) (o : Op) (vs : List ℕ) → controlling o (map f vs) ≡ under f (controlling o vs)
unfolding under
op_map f op.Iadd vs = first_map f vs
op_map f op.Isub vs = first_map f vs
op_map f op.Imul vs = first_map f vs
op_map f op.Band vs = first_map f vs
op_map f op.Bor vs = first_map f vs
op_map f op.Bxor vs = first_map f vs
op_map f op.Smin vs = first_map f vs
op_map f op.Smax vs = first_map f vs
op_map f op.Umin vs = first_map f vs
op_map f op.Umax vs = first_map f vs
op_map f op.Umulhi vs = first_map f vs
op_map f op.Smulhi vs = first_map f vs
op_map f op.Udiv vs = first_map f vs
op_map f op.Urem vs = first_map f vs
op_map f op.Sdiv vs = first_map f vs
op_map f op.Srem vs = first_map f vs
op_map f op.Ineg vs = first_map f vs
op_map f op.Bnot vs = first_map f vs
op_map f op.Iabs vs = first_map f vs
op_map f op.Clz vs = first_map f vs
op_map f op.Ctz vs = first_map f vs
op_map f op.Popcnt vs = first_map f vs
op_map f op.Bitrev vs = first_map f vs
op_map f op.Bswap vs = first_map f vs
op_map f op.Ishl vs = first_map f vs
op_map f op.Ushr vs = first_map f vs
op_map f op.Sshr vs = first_map f vs
op_map f op.Rotl vs = first_map f vs
op_map f op.Rotr vs = first_map f vs
op_map f (op.Icmp z) vs = first_map f vs
op_map f op.Select vs = second_map f vs
op_map f (op.Uextend z) vs = refl
op_map f (op.Sextend z) vs = refl
op_map f (op.Ireduce z) vs = refl
op_map f op.UaddOverflow vs = first_map f vs
op_map f op.SaddOverflow vs = first_map f vs
op_map f op.UsubOverflow vs = first_map f vs
op_map f op.SsubOverflow vs = first_map f vs
op_map f op.Iconcat vs = first_map f vs
op_map f op.Isplit vs = first_map f vs

simple_map : (r : Renaming) (p : Simple) → text_instructions.simple_operand (simple_under r p) ≡ under r.value (text_instructions.simple_operand p)
unfolding under
simple_map r Nop = refl
simple_map r (Const x) = refl
simple_map r (Pure o args) = op_map r.value o args
simple_map r (PureImm o a n) = refl
simple_map r (Load access flags a offset) = refl
simple_map r (Store narrow flags v a offset) = refl
simple_map r (StackLoad t k offset) = refl
simple_map r (StackStore v k offset) = refl
simple_map r (FuncAddr k) = refl
simple_map r (Trap code) = refl
simple_map r (Trapz v code) = refl
simple_map r (Trapnz v code) = refl

typing_map : (r : Renaming) (i : Instruction) → text_instructions.typing_operand (instruction_under r i) ≡ under r.value (text_instructions.typing_operand i)
unfolding under
typing_map r (Plain p) = simple_map r p
typing_map r (Branches (Jump t)) = refl
typing_map r (Branches (Brif v t u)) = refl
typing_map r (Branches (BrTable v d ts)) = refl
typing_map r SequencePoint = refl
typing_map r (Return vs) = refl
typing_map r (Call t args) = refl
typing_map r (ReturnCall t args) = refl
typing_map r (TryCall t s args n u) = refl

-- the operand is one that is used
Holds : (ℕ → Type 0) → Option ℕ → Type 0
Holds V None = Unit {0}
Holds V (Some v) = V v

first_holds : (V : ℕ → Type 0) (vs : List ℕ) → Each V vs → Holds V (slice_get vs 0)
unfolding Holds
first_holds V [] h = tt
first_holds V (v ∷ vs) h = h.0

second_holds : (V : ℕ → Type 0) (vs : List ℕ) → Each V vs → Holds V (slice_get vs 1)
unfolding Holds
second_holds V [] h = tt
second_holds V (v ∷ vs) h = first_holds V vs h.1

op_holds : (V : ℕ → Type 0) (o : Op) (vs : List ℕ) → Each V vs → Holds V (controlling o vs)
unfolding Holds
op_holds V op.Iadd vs h = first_holds V vs h
op_holds V op.Isub vs h = first_holds V vs h
op_holds V op.Imul vs h = first_holds V vs h
op_holds V op.Band vs h = first_holds V vs h
op_holds V op.Bor vs h = first_holds V vs h
op_holds V op.Bxor vs h = first_holds V vs h
op_holds V op.Smin vs h = first_holds V vs h
op_holds V op.Smax vs h = first_holds V vs h
op_holds V op.Umin vs h = first_holds V vs h
op_holds V op.Umax vs h = first_holds V vs h
op_holds V op.Umulhi vs h = first_holds V vs h
op_holds V op.Smulhi vs h = first_holds V vs h
op_holds V op.Udiv vs h = first_holds V vs h
op_holds V op.Urem vs h = first_holds V vs h
op_holds V op.Sdiv vs h = first_holds V vs h
op_holds V op.Srem vs h = first_holds V vs h
op_holds V op.Ineg vs h = first_holds V vs h
op_holds V op.Bnot vs h = first_holds V vs h
op_holds V op.Iabs vs h = first_holds V vs h
op_holds V op.Clz vs h = first_holds V vs h
op_holds V op.Ctz vs h = first_holds V vs h
op_holds V op.Popcnt vs h = first_holds V vs h
op_holds V op.Bitrev vs h = first_holds V vs h
op_holds V op.Bswap vs h = first_holds V vs h
op_holds V op.Ishl vs h = first_holds V vs h
op_holds V op.Ushr vs h = first_holds V vs h
op_holds V op.Sshr vs h = first_holds V vs h
op_holds V op.Rotl vs h = first_holds V vs h
op_holds V op.Rotr vs h = first_holds V vs h
op_holds V (op.Icmp z) vs h = first_holds V vs h
op_holds V op.Select vs h = second_holds V vs h
op_holds V (op.Uextend z) vs h = tt
op_holds V (op.Sextend z) vs h = tt
op_holds V (op.Ireduce z) vs h = tt
op_holds V op.UaddOverflow vs h = first_holds V vs h
op_holds V op.SaddOverflow vs h = first_holds V vs h
op_holds V op.UsubOverflow vs h = first_holds V vs h
op_holds V op.SsubOverflow vs h = first_holds V vs h
op_holds V op.Iconcat vs h = first_holds V vs h
op_holds V op.Isplit vs h = first_holds V vs h

simple_holds : (V : ℕ → Type 0) (p : Simple) → Each V (simple_used p) → Holds V (text_instructions.simple_operand p)
unfolding Holds
simple_holds V Nop h = tt
simple_holds V (Const x) h = tt
simple_holds V (Pure o args) h = op_holds V o args h
simple_holds V (PureImm o a n) h = h.0
simple_holds V (Load access flags a offset) h = tt
simple_holds V (Store narrow flags v a offset) h = h.0
simple_holds V (StackLoad t k offset) h = tt
simple_holds V (StackStore v k offset) h = h.0
simple_holds V (FuncAddr k) h = tt
simple_holds V (Trap code) h = tt
simple_holds V (Trapz v code) h = h.0
simple_holds V (Trapnz v code) h = h.0

typing_holds : (V : ℕ → Type 0) (i : Instruction) → Each V (uses.operands i) → Holds V (text_instructions.typing_operand i)
unfolding Holds
typing_holds V (Plain p) h = simple_holds V p h
typing_holds V (Branches (Jump t)) h = tt
typing_holds V (Branches (Brif v t u)) h = h.0
typing_holds V (Branches (BrTable v d ts)) h = tt
typing_holds V SequencePoint h = tt
typing_holds V (Return vs) h = tt
typing_holds V (Call t args) h = tt
typing_holds V (ReturnCall t args) h = tt
typing_holds V (TryCall t s args n u) h = tt

-- ---- f with the numbers n, and g, which is f under r, with the numbers m

module _ (r : Renaming) (f g : Function) (n m : Numbering) (V B : ℕ → Type 0) (value : (v : ℕ) → V v → number_in m.values (r.value v) ≡ number_in n.values v) (block : (b : ℕ) → B b → number_in m.blocks (r.block b) ≡ number_in n.blocks b) (slot : (k : ℕ) → r.slot k ≡ k) (sig : (k : ℕ) → r.sig k ≡ k) (callee : (k : ℕ) → r.callee k ≡ k) (typed : (v : ℕ) → V v → type_of g (r.value v) ≡ type_of f v) where
  value_same : (v : ℕ) → V v → text_instructions.value m (r.value v) ≡ text_instructions.value n v
  value_same v h = ap (λ (k : ℕ). Numbered (codes "v") k) (value v h)

  block_same : (b : ℕ) → B b → text_instructions.block_reference m (r.block b) ≡ text_instructions.block_reference n b
  block_same b h = ap (λ (k : ℕ). Numbered (codes "block") k) (block b h)

  values_more : (vs : List ℕ) → Each V vs → more (text_instructions.value m) (map r.value vs) ≡ more (text_instructions.value n) vs
  values_more [] h = refl
  values_more (v ∷ vs) h = ap₂ (λ (a b : Text). comma ▹ a ▹ b) (value_same v h.0) (values_more vs h.1)

  values_same : (vs : List ℕ) → Each V vs → text_instructions.values m (map r.value vs) ≡ text_instructions.values n vs
  values_same [] h = refl
  values_same (v ∷ vs) h = ap₂ (λ (a b : Text). a ▹ b) (value_same v h.0) (values_more vs h.1)

  args_more : (as' : List Arg) → Each V (arg_values_used as') → more (text_instructions.argument m) (map (arg_under r) as') ≡ more (text_instructions.argument n) as'
  args_more [] h = refl
  args_more (arg.Value v ∷ as') h = ap₂ (λ (a b : Text). comma ▹ a ▹ b) (value_same v h.0) (args_more as' h.1)
  args_more (arg.Ret i ∷ as') h = ap (λ (b : Text). comma ▹ text_instructions.argument n (arg.Ret i) ▹ b) (args_more as' h)
  args_more (arg.Exn i ∷ as') h = ap (λ (b : Text). comma ▹ text_instructions.argument n (arg.Exn i) ▹ b) (args_more as' h)

  args_same : (as' : List Arg) → Each V (arg_values_used as') → text_instructions.target_arguments m (map (arg_under r) as') ≡ text_instructions.target_arguments n as'
  args_same [] h = refl
  args_same (arg.Value v ∷ as') h = ap₂ (λ (a b : Text). in_parentheses (a ▹ b)) (value_same v h.0) (args_more as' h.1)
  args_same (arg.Ret i ∷ as') h = ap (λ (b : Text). in_parentheses (text_instructions.argument n (arg.Ret i) ▹ b)) (args_more as' h)
  args_same (arg.Exn i ∷ as') h = ap (λ (b : Text). in_parentheses (text_instructions.argument n (arg.Exn i) ▹ b)) (args_more as' h)

  target_same : (t : BlockCall) → Each V (arg_values_used t.args) → B t.block → text_instructions.target m (target_under r t) ≡ text_instructions.target n t
  target_same t h b = ap₂ (λ (x y : Text). x ▹ y) (block_same t.block b) (args_same t.args h)

  targets_more : (ts : List BlockCall) → Each V (targets_used ts) → Each B (map (λ t. t.block) ts) → more (text_instructions.target m) (map (target_under r) ts) ≡ more (text_instructions.target n) ts
  targets_more [] h b = refl
  targets_more (t ∷ ts) h b = ap₂ (λ (x y : Text). comma ▹ x ▹ y) (target_same t (each_left V (arg_values_used t.args) (targets_used ts) h) b.0) (targets_more ts (each_right V (arg_values_used t.args) (targets_used ts) h) b.1)

  targets_same : (ts : List BlockCall) → Each V (targets_used ts) → Each B (map (λ t. t.block) ts) → separated (text_instructions.target m) (map (target_under r) ts) ≡ separated (text_instructions.target n) ts
  targets_same [] h b = refl
  targets_same (t ∷ ts) h b = ap₂ (λ (x y : Text). x ▹ y) (target_same t (each_left V (arg_values_used t.args) (targets_used ts) h) b.0) (targets_more ts (each_right V (arg_values_used t.args) (targets_used ts) h) b.1)

  entry_same : (e : Entry BlockCall) → Each V (arg_values_used e.target.args) → B e.target.block → text_instructions.entry m (entry_under r e) ≡ text_instructions.entry n e
  entry_same e h b = ap (λ (y : Text). text_instructions.entry_tag e.tag ▹ colon ▹ space ▹ y) (target_same e.target h b)

  entries_more : (es : List (Entry BlockCall)) → Each V (targets_used (table_targets es)) → Each B (map (λ t. t.block) (table_targets es)) → more (text_instructions.entry m) (map (entry_under r) es) ≡ more (text_instructions.entry n) es
  entries_more [] h b = refl
  entries_more (e ∷ es) h b =
      ap₂ (λ (x y : Text). comma ▹ x ▹ y) (entry_same e (each_left V (arg_values_used e.target.args) (targets_used (table_targets es)) h) b.0) (entries_more es (each_right V (arg_values_used e.target.args) (targets_used (table_targets es)) h) b.1)

  table_same : (es : List (Entry BlockCall)) → Each V (targets_used (table_targets es)) → Each B (map (λ t. t.block) (table_targets es)) → text_instructions.exception_table m (map (entry_under r) es) ≡ text_instructions.exception_table n es
  table_same [] h b = refl
  table_same (e ∷ es) h b =
      ap₂ (λ (x y : Text). in_brackets (space ▹ (x ▹ y) ▹ space)) (entry_same e (each_left V (arg_values_used e.target.args) (targets_used (table_targets es)) h) b.0) (entries_more es (each_right V (arg_values_used e.target.args) (targets_used (table_targets es)) h) b.1)

  operands_same : (vs : List ℕ) → Each V vs → text_instructions.operands m (map r.value vs) ≡ text_instructions.operands n vs
  operands_same [] h = refl
  operands_same (v ∷ vs) h = ap₂ (λ (a b : Text). space ▹ (a ▹ b)) (value_same v h.0) (values_more vs h.1)

  simple_same : (s : Option Ty) (p : Simple) → Each V (simple_used p) → text_instructions.simple m s (simple_under r p) ≡ text_instructions.simple n s p
  simple_same s Nop h = refl
  simple_same s (Const x) h = refl
  simple_same s (Pure o args) h = ap (λ (z : Text). Word (op_word o) ▹ text_instructions.op_suffix o s ▹ text_instructions.condition o ▹ z) (operands_same args h)
  simple_same s (PureImm o a d) h = ap (λ (z : Text). Word (op_word o ++ codes "_imm") ▹ text_instructions.suffix_if s ▹ text_instructions.condition o ▹ space ▹ z ▹ comma ▹ text_instructions.constant d) (value_same a h.0)
  simple_same s (Load from fs a offset) h = ap (λ (z : Text). text_instructions.load_opcode s from ▹ space ▹ text_instructions.flags fs ▹ (z ▹ text_instructions.offset_text offset)) (value_same a h.0)
  simple_same s (Store narrow fs v a offset) h = ap₂ (λ (y z : Text). text_instructions.store_opcode narrow ▹ text_instructions.suffix_if s ▹ space ▹ text_instructions.flags fs ▹ y ▹ comma ▹ (z ▹ text_instructions.offset_text offset)) (value_same v h.0) (value_same a h.1.0)
  simple_same s (StackLoad t k offset) h = ap (λ (z : ℕ). Word (codes "stack_load") ▹ text_instructions.suffix t ▹ space ▹ text_instructions.slot_address z offset) (slot k)
  simple_same s (StackStore v k offset) h = ap₂ (λ (y : Text) (z : ℕ). Word (codes "stack_store") ▹ text_instructions.suffix_if s ▹ space ▹ y ▹ comma ▹ text_instructions.slot_address z offset) (value_same v h.0) (slot k)
  simple_same s (FuncAddr k) h = ap (λ (z : ℕ). Word (codes "func_addr") ▹ text_instructions.suffix I64 ▹ space ▹ text_instructions.callee_reference z) (callee k)
  simple_same s (Trap code) h = refl
  simple_same s (Trapz v code) h = ap (λ (z : Text). Word (codes "trapz") ▹ text_instructions.suffix_if s ▹ space ▹ z ▹ comma ▹ text_instructions.trap_code code) (value_same v h.0)
  simple_same s (Trapnz v code) h = ap (λ (z : Text). Word (codes "trapnz") ▹ text_instructions.suffix_if s ▹ space ▹ z ▹ comma ▹ text_instructions.trap_code code) (value_same v h.0)

  branch_same : (s : Option Ty) (c : Branch) → Each V (branch_used c) → Each V (targets_used (branch_targets c)) → Each B (map (λ t. t.block) (branch_targets c)) → text_instructions.branch m s (branch_under r c) ≡ text_instructions.branch n s c
  branch_same s (Jump t) h k b = ap (λ (z : Text). Word (codes "jump") ▹ space ▹ z) (target_same t (each_left V (arg_values_used t.args) [] k) b.0)
  branch_same s (Brif v t u) h k b =
      let k' = each_right V (arg_values_used t.args) (targets_used (u ∷ [])) k in
      ap (λ (z : Text). Word (codes "brif") ▹ text_instructions.suffix_if s ▹ space ▹ z ▹ comma ▹ text_instructions.target m (target_under r t) ▹ comma ▹ text_instructions.target m (target_under r u)) (value_same v h.0)
      ∙ ap₂ (λ (x y : Text). Word (codes "brif") ▹ text_instructions.suffix_if s ▹ space ▹ text_instructions.value n v ▹ comma ▹ x ▹ comma ▹ y) (target_same t (each_left V (arg_values_used t.args) (targets_used (u ∷ [])) k) b.0) (target_same u (each_left V (arg_values_used u.args) [] k') b.1.0)
  branch_same s (BrTable v d ts) h k b =
      ap (λ (z : Text). Word (codes "br_table") ▹ space ▹ z ▹ comma ▹ text_instructions.target m (target_under r d) ▹ comma ▹ in_brackets (separated (text_instructions.target m) (map (target_under r) ts))) (value_same v h.0)
      ∙ ap₂ (λ (x y : Text). Word (codes "br_table") ▹ space ▹ text_instructions.value n v ▹ comma ▹ x ▹ comma ▹ in_brackets y) (target_same d (each_left V (arg_values_used d.args) (targets_used ts) k) b.0) (targets_same ts (each_right V (arg_values_used d.args) (targets_used ts) k) b.1)

  opcode_same : (t : CallTarget) (word : List ℕ) → text_instructions.call_opcode (called_under r t) word ≡ text_instructions.call_opcode t word
  opcode_same (Direct k) word = refl
  opcode_same (Indirect s a) word = refl

  called_same : (t : CallTarget) (args : List ℕ) → Each V (called_used t ++ args) → text_instructions.called m (called_under r t) (map r.value args) ≡ text_instructions.called n t args
  called_same (Direct k) args h = ap₂ (λ (x : ℕ) (y : Text). text_instructions.callee_reference x ▹ in_parentheses y) (callee k) (values_same args h)
  called_same (Indirect s a) args h = ap (λ (z : ℕ). text_instructions.signature_reference z ▹ comma ▹ text_instructions.value m (r.value a) ▹ in_parentheses (text_instructions.values m (map r.value args))) (sig s) ∙ ap₂ (λ (x y : Text). text_instructions.signature_reference s ▹ comma ▹ x ▹ in_parentheses y) (value_same a h.0) (values_same args h.1)

  try_opcode_same : (t : TryTarget) → text_instructions.try_opcode (try_target_under r t) ≡ text_instructions.try_opcode t
  try_opcode_same (TryDirect k) = refl
  try_opcode_same (TryIndirect a) = refl

  tried_same : (t : TryTarget) (sg : ℕ) (args : List ℕ) → Each V (called_used (call_target t sg) ++ args) → text_instructions.tried m (try_target_under r t) (map r.value args) ≡ text_instructions.tried n t args
  tried_same (TryDirect k) sg args h = ap₂ (λ (x : ℕ) (y : Text). text_instructions.callee_reference x ▹ in_parentheses y) (callee k) (values_same args h)
  tried_same (TryIndirect a) sg args h = ap₂ (λ (x y : Text). x ▹ in_parentheses y) (value_same a h.0) (values_same args h.1)

  instruction_same : (s : Option Ty) (i : Instruction) → Each V (uses.operands i) → Each V (targets_used (targets i)) → Each B (blocks_used i) → text_instructions.instruction m s (instruction_under r i) ≡ text_instructions.instruction n s i
  instruction_same s (Plain p) h k b = simple_same s p h
  instruction_same s (Branches c) h k b = branch_same s c h k b
  instruction_same s SequencePoint h k b = refl
  instruction_same s (Return vs) h k b = ap (λ (z : Text). Word (codes "return") ▹ z) (operands_same vs h)
  instruction_same s (Call t args) h k b = ap₂ (λ (x y : Text). x ▹ space ▹ y) (opcode_same t (codes "call")) (called_same t args h)
  instruction_same s (ReturnCall t args) h k b = ap₂ (λ (x y : Text). x ▹ space ▹ y) (opcode_same t (codes "return_call")) (called_same t args h)
  instruction_same s (TryCall t g1 args normal table) h k b =
      ap₂ (λ (x y : Text). x ▹ space ▹ y ▹ comma ▹ text_instructions.signature_reference (r.sig g1) ▹ comma ▹ text_instructions.target m (target_under r normal) ▹ comma ▹ text_instructions.exception_table m (map (entry_under r) table)) (try_opcode_same t) (tried_same t g1 args h)
      ∙ (ap (λ (z : ℕ). text_instructions.try_opcode t ▹ space ▹ text_instructions.tried n t args ▹ comma ▹ text_instructions.signature_reference z ▹ comma ▹ text_instructions.target m (target_under r normal) ▹ comma ▹ text_instructions.exception_table m (map (entry_under r) table)) (sig g1)
      ∙ ap₂ (λ (x y : Text). text_instructions.try_opcode t ▹ space ▹ text_instructions.tried n t args ▹ comma ▹ text_instructions.signature_reference g1 ▹ comma ▹ x ▹ comma ▹ y) (target_same normal (each_left V (arg_values_used normal.args) (targets_used (table_targets table)) k) b.0) (table_same table (each_right V (arg_values_used normal.args) (targets_used (table_targets table)) k) b.1))

  known_same : (next : ℕ) (t : Ty) (o : Option ℕ) → Holds V o → text_instructions.is_known g m next t (under r.value o) ≡ text_instructions.is_known f n next t o
  unfolding under Holds
  known_same next t None h = refl
  known_same next t (Some v) h = ap₂ (λ (k : ℕ) (o : Option Ty). nat_lt k next && option_map_or (λ own. same_type own t) o false) (value v h) (typed v h)

  suffix_same : (next : ℕ) (t : Option Ty) (o : Option ℕ) → Holds V o → text_instructions.shown_suffix g m next t (under r.value o) ≡ text_instructions.shown_suffix f n next t o
  suffix_same next None o h = refl
  suffix_same next (Some t) o h = ap (λ (c : Bool). if c then None else Some t) (known_same next t o h)

  tags_more : (ts : List Tag) → more text_instructions.debug_tag (map (tag_under r) ts) ≡ more text_instructions.debug_tag ts
  tags_more [] = refl
  tags_more (tag.User k ∷ ts) = ap (λ (z : Text). comma ▹ text_instructions.debug_tag (tag.User k) ▹ z) (tags_more ts)
  tags_more (tag.Slot k ∷ ts) = ap₂ (λ (x : ℕ) (z : Text). comma ▹ text_instructions.debug_tag (tag.Slot x) ▹ z) (slot k) (tags_more ts)

  tags_same : (ts : List Tag) → text_instructions.debug_tags (map (tag_under r) ts) ≡ text_instructions.debug_tags ts
  tags_same [] = refl
  tags_same (tag.User k ∷ ts) = ap (λ (z : Text). Mark 60 ▹ (text_instructions.debug_tag (tag.User k) ▹ z) ▹ Mark 62 ▹ space) (tags_more ts)
  tags_same (tag.Slot k ∷ ts) = ap₂ (λ (x : ℕ) (z : Text). Mark 60 ▹ (text_instructions.debug_tag (tag.Slot x) ▹ z) ▹ Mark 62 ▹ space) (slot k) (tags_more ts)

  results_same : (vs : List ℕ) → Each V vs → text.results g m (map r.value vs) ≡ text.results f n vs
  results_same [] h = refl
  results_same (v ∷ vs) h = ap₂ (λ (a b : Text). (a ▹ b) ▹ equals) (value_same v h.0) (values_more vs h.1)

  abbrev LineIn : Line → Type 0
  LineIn l = Each V l.results × Each V (values_used l.inst) × Each B (blocks_used l.inst)

  line_same : (next : ℕ) (l : Line) → Each V l.results × Each V (values_used l.inst) × Each B (blocks_used l.inst) → text.line g m next (line_under r l) ≡ text.line f n next l
  line_same next l h =
      let own = each_left V (uses.operands l.inst) (targets_used (targets l.inst)) h.1 in
      let led = each_right V (uses.operands l.inst) (targets_used (targets l.inst)) h.1 in
      let s = ap (text_instructions.shown_suffix g m next l.ty) (typing_map r l.inst) ∙ suffix_same next l.ty (text_instructions.typing_operand l.inst) (typing_holds V l.inst own) in
      ap₂ (λ (a b : Text). indent ▹ a ▹ b ▹ text_instructions.instruction m (text_instructions.shown_suffix g m next l.ty (text_instructions.typing_operand (instruction_under r l.inst))) (instruction_under r l.inst) ▹ line_end) (tags_same l.tags) (results_same l.results h.0)
      ∙ ap (λ (z : Text). indent ▹ text_instructions.debug_tags l.tags ▹ text.results f n l.results ▹ z ▹ line_end) (ap (λ (o : Option Ty). text_instructions.instruction m o (instruction_under r l.inst)) s ∙ instruction_same (text_instructions.shown_suffix f n next l.ty (text_instructions.typing_operand l.inst)) l.inst own led h.2)

  lines_same : (next : ℕ) (ls : List Line) → Each (λ l. Each V l.results × Each V (values_used l.inst) × Each B (blocks_used l.inst)) ls → text.lines g m next (map (line_under r) ls) ≡ text.lines f n next ls
  lines_same next [] h = refl
  lines_same next (l ∷ ls) h =
      ap₂ (λ (a b : Text). a ▹ b) (line_same next l h.0) (ap (λ (k : ℕ). text.lines g m (next + k) (map (line_under r) ls)) (length_map r.value l.results) ∙ lines_same (next + length l.results) ls h.1)

  parameter_same : (v : ℕ) → V v → text.block_parameter g m (r.value v) ≡ text.block_parameter f n v
  parameter_same v h = ap₂ (λ (a : Text) (o : Option Ty). a ▹ colon ▹ space ▹ text_instructions.type_text o) (value_same v h) (typed v h)

  parameters_more : (vs : List ℕ) → Each V vs → more (text.block_parameter g m) (map r.value vs) ≡ more (text.block_parameter f n) vs
  parameters_more [] h = refl
  parameters_more (v ∷ vs) h = ap₂ (λ (a b : Text). comma ▹ a ▹ b) (parameter_same v h.0) (parameters_more vs h.1)

  parameters_same : (vs : List ℕ) → Each V vs → text.block_parameters g m (map r.value vs) ≡ text.block_parameters f n vs
  parameters_same [] h = refl
  parameters_same (v ∷ vs) h = ap₂ (λ (a b : Text). in_parentheses (a ▹ b)) (parameter_same v h.0) (parameters_more vs h.1)

  abbrev BlockIn : Block → Type 0
  BlockIn b = B b.number × Each V b.params × Each (λ l. Each V l.results × Each V (values_used l.inst) × Each B (blocks_used l.inst)) b.lines

  block_text : (next : ℕ) (b : Block) → B b.number × Each V b.params × Each (λ l. Each V l.results × Each V (values_used l.inst) × Each B (blocks_used l.inst)) b.lines → text.block g m next (block_under r b) ≡ text.block f n next b
  block_text next b h =
      ap₂ (λ (x y : Text). x ▹ y ▹ colon ▹ line_end ▹ text.lines g m (next + length (map r.value b.params)) (map (line_under r) b.lines)) (block_same b.number h.0) (parameters_same b.params h.1)
      ∙ ap (λ (z : Text). text_instructions.block_reference n b.number ▹ text.block_parameters f n b.params ▹ colon ▹ line_end ▹ z) (ap (λ (k : ℕ). text.lines g m (next + k) (map (line_under r) b.lines)) (length_map r.value b.params) ∙ lines_same (next + length b.params) b.lines h.2)

  next_same : (next : ℕ) (b : Block) → text_instructions.next_after next (block_under r b) ≡ text_instructions.next_after next b
  next_same next b = ap₂ (λ (x y : ℕ). next + x + y) (length_map r.value b.params) (ap length (lines_under r b.lines) ∙ length_map r.value (line_definitions b.lines))

  blocks_more : (next : ℕ) (bs : List Block) → Each (λ b. B b.number × Each V b.params × Each (λ l. Each V l.results × Each V (values_used l.inst) × Each B (blocks_used l.inst)) b.lines) bs → text.more_blocks g m next (map (block_under r) bs) ≡ text.more_blocks f n next bs
  blocks_more next [] h = refl
  blocks_more next (b ∷ bs) h = ap₂ (λ (x y : Text). line_end ▹ x ▹ y) (block_text next b h.0) (ap (λ (k : ℕ). text.more_blocks g m k (map (block_under r) bs)) (next_same next b) ∙ blocks_more (text_instructions.next_after next b) bs h.1)

  blocks_text : (bs : List Block) → Each (λ b. B b.number × Each V b.params × Each (λ l. Each V l.results × Each V (values_used l.inst) × Each B (blocks_used l.inst)) b.lines) bs → text.blocks g m (map (block_under r) bs) ≡ text.blocks f n bs
  blocks_text [] h = refl
  blocks_text (b ∷ bs) h = ap₂ (λ (x y : Text). x ▹ y) (block_text 0 b h.0) (ap (λ (k : ℕ). text.more_blocks g m k (map (block_under r) bs)) (next_same 0 b) ∙ blocks_more (text_instructions.next_after 0 b) bs h.1)

-- ---- functions

head_text : FuncName → Sig → List SlotDecl → List Sig → List Callee → Text → Text
head_text name sig slots sigs callees body =
    Word (codes "function") ▹ space ▹ text_declarations.function_name name ▹ text_declarations.signature sig ▹ space ▹ Mark 123 ▹ line_end
    ▹ text_declarations.declarations text_declarations.slot_line 0 slots ▹ text_declarations.declarations text_declarations.signature_line 0 sigs ▹ text_declarations.declarations text_declarations.callee_line 0 callees ▹ (if text_declarations.is_empty slots && text_declarations.is_empty sigs && text_declarations.is_empty callees then Nothing else line_end)
    ▹ body ▹ Mark 125 ▹ line_end

pub function_text : (r : Renaming) (f g : Function) → WellFormed f → WellFormed g → Renamed r f g → text.canonical_function g ≡ text.canonical_function f
unfolding head_text
function_text r f g wf wg h =
    let defs : definitions g.blocks ≡ map r.value (definitions f.blocks) = ap definitions h.blocks ∙ blocks_under r f.blocks in
    let numbers : block_numbers g.blocks ≡ map r.block (block_numbers f.blocks) = ap block_numbers h.blocks ∙ blocks_number r f.blocks in
    let value : (v : ℕ) → In v (definitions f.blocks) → number_in (definitions g.blocks) (r.value v) ≡ number_in (definitions f.blocks) v = λ v i. ap (λ z. number_in z (r.value v)) defs ∙ place_map r.value (definitions f.blocks) v (subst Different defs wg.defined_once) i in
    let block : (b : ℕ) → In b (block_numbers f.blocks) → number_in (block_numbers g.blocks) (r.block b) ≡ number_in (block_numbers f.blocks) b = λ b i. ap (λ z. number_in z (r.block b)) numbers ∙ place_map r.block (block_numbers f.blocks) b (subst Different numbers wg.blocks) i in
    let body : text.blocks g (numbering_of g) g.blocks ≡ text.blocks f (numbering_of f) f.blocks =
    ap (text.blocks g (numbering_of g)) h.blocks ∙ blocks_text r f g (numbering_of f) (numbering_of g) (λ v. In v (definitions f.blocks)) (λ b. In b (block_numbers f.blocks)) value block h.slot h.signature h.callee h.typed f.blocks (blocks_in f wf f.blocks (λ v i. i) (λ b i. i) wf.lines) in
    ap (λ n. head_text n g.sig g.slots g.sigs g.callees (text.blocks g (numbering_of g) g.blocks)) h.name
    ∙ (ap (λ n. head_text f.name n g.slots g.sigs g.callees (text.blocks g (numbering_of g) g.blocks)) h.sig
    ∙ (ap (λ n. head_text f.name f.sig n g.sigs g.callees (text.blocks g (numbering_of g) g.blocks)) h.slots
    ∙ (ap (λ n. head_text f.name f.sig f.slots n g.callees (text.blocks g (numbering_of g) g.blocks)) h.sigs
    ∙ (ap (λ n. head_text f.name f.sig f.slots f.sigs n (text.blocks g (numbering_of g) g.blocks)) h.callees
    ∙ ap (head_text f.name f.sig f.slots f.sigs f.callees) body))))

same_text : (f g : Function) → SameFunction f g → text.canonical_function g ≡ text.canonical_function f
same_text f g h = let r = same_is_renamed f g h in function_text r.0 f g h.0 h.1 r.1

-- ---- modules

head_same : (f g : Function) (fs gs : Module) → f ∷ fs ≡ g ∷ gs → f ≡ g
head_same f g fs gs e = cc

tail_same : (f g : Function) (fs gs : Module) → f ∷ fs ≡ g ∷ gs → fs ≡ gs
tail_same f g fs gs e = cc

more_text : (m r : Module) → Each WellFormed m → Each WellFormed r → canonical_module m ≡ canonical_module r → text.more_functions m ≡ text.more_functions r
more_text [] [] a b e = refl
more_text [] (g ∷ gs) a b e = cc
more_text (f ∷ fs) [] a b e = cc
more_text (f ∷ fs) (g ∷ gs) a b e =
    ap₂ (λ (x y : Text). line_end ▹ x ▹ y) (sym (same_text f g (a.0, b.0, head_same (canonical f) (canonical g) (canonical_module fs) (canonical_module gs) e))) (more_text fs gs a.1 b.1 (tail_same (canonical f) (canonical g) (canonical_module fs) (canonical_module gs) e))

module_text : (m r : Module) → Each WellFormed m → Each WellFormed r → canonical_module m ≡ canonical_module r → text.canonical_text m ≡ text.canonical_text r
module_text [] [] a b e = refl
module_text [] (g ∷ gs) a b e = cc
module_text (f ∷ fs) [] a b e = cc
module_text (f ∷ fs) (g ∷ gs) a b e =
    ap₂ (λ (x y : Text). x ▹ y) (sym (same_text f g (a.0, b.0, head_same (canonical f) (canonical g) (canonical_module fs) (canonical_module gs) e))) (more_text fs gs a.1 b.1 (tail_same (canonical f) (canonical g) (canonical_module fs) (canonical_module gs) e))

pub numbering_keeps_text : NumberingKeepsText
numbering_keeps_text m r h = ap spelled (module_text m r h.0 h.1 h.2)

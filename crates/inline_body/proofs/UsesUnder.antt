-- What an instruction uses, under other numbers.
use Rattle.std.proofs.Common.{◌≡◌, ℕ, List, [], ◌∷◌, ◌++◌, map, refl, sym, ap, ap₂, ◌∙◌}
use Rattle.std.proofs.lemmas.List.{map-append}
use Rattle.exn_tables.specs.declared.table.Entry.{Entry}
use Rattle.debug_tags.specs.declared.tags.Tag.{Tag}
use Rattle.debug_tags.specs.declared.tags.Tag.TheVariants as tag
use Rattle.ir_core.specs.declared.instructions.Arg.{Arg}
use Rattle.ir_core.specs.declared.instructions.Arg.TheVariants as arg
use Rattle.ir_core.specs.declared.instructions.BlockCall.{BlockCall}
use Rattle.ir_core.specs.Module.{Simple, Nop, Const, Pure, PureImm, Load, Store, StackLoad, StackStore, FuncAddr, Trap, Trapz, Trapnz, Branch, Jump, Brif, BrTable, CallTarget, Direct, Indirect, TryTarget, TryDirect, TryIndirect, call_target, Instruction, Plain, Branches, SequencePoint, Return, Call, ReturnCall, TryCall}
use Rattle.ir_core.specs.Uses.{targets, table_targets, arg_values_used, targets_used, simple_used, branch_used, called_used, operands, values_used, simple_slots, slots_used, slots_shown, simple_callees, called_callees, callees_used, called_sigs, sigs_used, blocks_used}
use Rattle.ir_semantics.specs.Renaming.{Renaming, arg_under, target_under, tag_under, entry_under, simple_under, branch_under, called_under, try_target_under, instruction_under}

module _ (r : Renaming) where
  args_under : (as' : List Arg) → arg_values_used (map (arg_under r) as') ≡ map r.value (arg_values_used as')
  args_under [] = refl
  args_under (arg.Value v ∷ as') = ap (λ z. r.value v ∷ z) (args_under as')
  args_under (arg.Ret i ∷ as') = args_under as'
  args_under (arg.Exn i ∷ as') = args_under as'

  targets_values : (ts : List BlockCall) → targets_used (map (target_under r) ts) ≡ map r.value (targets_used ts)
  targets_values [] = refl
  targets_values (t ∷ ts) = ap₂ (λ x y. x ++ y) (args_under t.args) (targets_values ts) ∙ sym (map-append r.value (arg_values_used t.args) (targets_used ts))

  targets_blocks : (ts : List BlockCall) → map (λ t. t.block) (map (target_under r) ts) ≡ map r.block (map (λ t. t.block) ts)
  targets_blocks [] = refl
  targets_blocks (t ∷ ts) = ap (λ z. r.block t.block ∷ z) (targets_blocks ts)

  table_under : (es : List (Entry BlockCall)) → table_targets (map (entry_under r) es) ≡ map (target_under r) (table_targets es)
  table_under [] = refl
  table_under (e ∷ es) = ap (λ z. target_under r e.target ∷ z) (table_under es)

  targets_under : (i : Instruction) → targets (instruction_under r i) ≡ map (target_under r) (targets i)
  targets_under (Plain p) = refl
  targets_under (Branches (Jump t)) = refl
  targets_under (Branches (Brif v t u)) = refl
  targets_under (Branches (BrTable v default ts)) = refl
  targets_under SequencePoint = refl
  targets_under (Return vs) = refl
  targets_under (Call t args) = refl
  targets_under (ReturnCall t args) = refl
  targets_under (TryCall t sig args normal table) = ap (λ z. target_under r normal ∷ z) (table_under table)

  simple_values : (p : Simple) → simple_used (simple_under r p) ≡ map r.value (simple_used p)
  simple_values Nop = refl
  simple_values (Const x) = refl
  simple_values (Pure op args) = refl
  simple_values (PureImm op a n) = refl
  simple_values (Load access flags a offset) = refl
  simple_values (Store narrow flags v a offset) = refl
  simple_values (StackLoad t k offset) = refl
  simple_values (StackStore v k offset) = refl
  simple_values (FuncAddr k) = refl
  simple_values (Trap code) = refl
  simple_values (Trapz v code) = refl
  simple_values (Trapnz v code) = refl

  called_values : (t : CallTarget) → called_used (called_under r t) ≡ map r.value (called_used t)
  called_values (Direct k) = refl
  called_values (Indirect s a) = refl

  try_values : (t : TryTarget) (s s' : ℕ) → called_used (call_target (try_target_under r t) s) ≡ map r.value (called_used (call_target t s'))
  try_values (TryDirect k) s s' = refl
  try_values (TryIndirect a) s s' = refl

  with_args : (x y args : List ℕ) → x ≡ map r.value y → x ++ map r.value args ≡ map r.value (y ++ args)
  with_args x y args e = ap (λ z. z ++ map r.value args) e ∙ sym (map-append r.value y args)

  operands_under : (i : Instruction) → operands (instruction_under r i) ≡ map r.value (operands i)
  operands_under (Plain p) = simple_values p
  operands_under (Branches (Jump t)) = refl
  operands_under (Branches (Brif v t u)) = refl
  operands_under (Branches (BrTable v default ts)) = refl
  operands_under SequencePoint = refl
  operands_under (Return vs) = refl
  operands_under (Call t args) = with_args (called_used (called_under r t)) (called_used t) args (called_values t)
  operands_under (ReturnCall t args) = with_args (called_used (called_under r t)) (called_used t) args (called_values t)
  operands_under (TryCall t sig args normal table) = with_args (called_used (call_target (try_target_under r t) (r.sig sig))) (called_used (call_target t sig)) args (try_values t (r.sig sig) sig)

  pub values_under : (i : Instruction) → values_used (instruction_under r i) ≡ map r.value (values_used i)
  values_under i =
      ap₂ (λ x y. x ++ y) (operands_under i) (ap targets_used (targets_under i) ∙ targets_values (targets i)) ∙ sym (map-append r.value (operands i) (targets_used (targets i)))

  pub blocks_under : (i : Instruction) → blocks_used (instruction_under r i) ≡ map r.block (blocks_used i)
  blocks_under i = ap (map (λ (t : BlockCall). t.block)) (targets_under i) ∙ targets_blocks (targets i)

  simple_slots_under : (p : Simple) → simple_slots (simple_under r p) ≡ map r.slot (simple_slots p)
  simple_slots_under Nop = refl
  simple_slots_under (Const x) = refl
  simple_slots_under (Pure op args) = refl
  simple_slots_under (PureImm op a n) = refl
  simple_slots_under (Load access flags a offset) = refl
  simple_slots_under (Store narrow flags v a offset) = refl
  simple_slots_under (StackLoad t k offset) = refl
  simple_slots_under (StackStore v k offset) = refl
  simple_slots_under (FuncAddr k) = refl
  simple_slots_under (Trap code) = refl
  simple_slots_under (Trapz v code) = refl
  simple_slots_under (Trapnz v code) = refl

  pub slots_under : (i : Instruction) → slots_used (instruction_under r i) ≡ map r.slot (slots_used i)
  slots_under (Plain p) = simple_slots_under p
  slots_under (Branches b) = refl
  slots_under SequencePoint = refl
  slots_under (Return vs) = refl
  slots_under (Call t args) = refl
  slots_under (ReturnCall t args) = refl
  slots_under (TryCall t sig args normal table) = refl

  simple_callees_under : (p : Simple) → simple_callees (simple_under r p) ≡ map r.callee (simple_callees p)
  simple_callees_under Nop = refl
  simple_callees_under (Const x) = refl
  simple_callees_under (Pure op args) = refl
  simple_callees_under (PureImm op a n) = refl
  simple_callees_under (Load access flags a offset) = refl
  simple_callees_under (Store narrow flags v a offset) = refl
  simple_callees_under (StackLoad t k offset) = refl
  simple_callees_under (StackStore v k offset) = refl
  simple_callees_under (FuncAddr k) = refl
  simple_callees_under (Trap code) = refl
  simple_callees_under (Trapz v code) = refl
  simple_callees_under (Trapnz v code) = refl

  called_callees_under : (t : CallTarget) → called_callees (called_under r t) ≡ map r.callee (called_callees t)
  called_callees_under (Direct k) = refl
  called_callees_under (Indirect s a) = refl

  try_callees_under : (t : TryTarget) (s s' : ℕ) → called_callees (call_target (try_target_under r t) s) ≡ map r.callee (called_callees (call_target t s'))
  try_callees_under (TryDirect k) s s' = refl
  try_callees_under (TryIndirect a) s s' = refl

  pub callees_under : (i : Instruction) → callees_used (instruction_under r i) ≡ map r.callee (callees_used i)
  callees_under (Plain p) = simple_callees_under p
  callees_under (Branches b) = refl
  callees_under SequencePoint = refl
  callees_under (Return vs) = refl
  callees_under (Call t args) = called_callees_under t
  callees_under (ReturnCall t args) = called_callees_under t
  callees_under (TryCall t sig args normal table) = try_callees_under t (r.sig sig) sig

  called_sigs_under : (t : CallTarget) → called_sigs (called_under r t) ≡ map r.sig (called_sigs t)
  called_sigs_under (Direct k) = refl
  called_sigs_under (Indirect s a) = refl

  pub sigs_under : (i : Instruction) → sigs_used (instruction_under r i) ≡ map r.sig (sigs_used i)
  sigs_under (Plain p) = refl
  sigs_under (Branches b) = refl
  sigs_under SequencePoint = refl
  sigs_under (Return vs) = refl
  sigs_under (Call t args) = called_sigs_under t
  sigs_under (ReturnCall t args) = called_sigs_under t
  sigs_under (TryCall t sig args normal table) = refl

  pub shown_under : (ts : List Tag) → slots_shown (map (tag_under r) ts) ≡ map r.slot (slots_shown ts)
  shown_under [] = refl
  shown_under (tag.User n ∷ ts) = shown_under ts
  shown_under (tag.Slot k ∷ ts) = ap (λ z. r.slot k ∷ z) (shown_under ts)

-- Two changes of numbers, one after another, are a third.
use Rattle.std.proofs.Common.{◌≡◌, ℕ, List, [], ◌∷◌, map, refl, ap, ap₂, ◌∙◌}
use Rattle.exn_tables.specs.declared.table.Entry.{Entry}
use Rattle.debug_tags.specs.declared.tags.Tag.{Tag}
use Rattle.debug_tags.specs.declared.tags.Tag.TheVariants as tag
use Rattle.ir_core.specs.declared.instructions.Arg.{Arg}
use Rattle.ir_core.specs.declared.instructions.Arg.TheVariants as arg
use Rattle.ir_core.specs.declared.instructions.BlockCall.{BlockCall}
use Rattle.ir_core.specs.Module.{Simple, Nop, Const, Pure, PureImm, Load, Store, StackLoad, StackStore, FuncAddr, Trap, Trapz, Trapnz, Branch, Jump, Brif, BrTable, CallTarget, Direct, Indirect, TryTarget, TryDirect, TryIndirect, call_target, Instruction, Plain, Branches, SequencePoint, Return, Call, ReturnCall, TryCall, Line, Block}
use Rattle.ir_core.specs.Lists.{Each}
use Rattle.ir_semantics.specs.Renaming.{Renaming, arg_under, target_under, tag_under, entry_under, simple_under, branch_under, called_under, try_target_under, instruction_under, line_under, block_under}
use Rattle.ir_core.specs.Uses.{table_targets, branch_targets, targets, arg_values_used, targets_used, simple_used, branch_used, called_used, operands, values_used, blocks_used}
use Rattle.ir_core.proofs.Members.{each_left, each_right}

module _ (r u w : Renaming) (V B : ℕ → Type 0) (value : (v : ℕ) → V v → u.value (r.value v) ≡ w.value v) (block : (b : ℕ) → B b → u.block (r.block b) ≡ w.block b) (slot : (k : ℕ) → u.slot (r.slot k) ≡ w.slot k) (sig : (k : ℕ) → u.sig (r.sig k) ≡ w.sig k) (callee : (k : ℕ) → u.callee (r.callee k) ≡ w.callee k) where
  pub values_via : (vs : List ℕ) → Each V vs → map u.value (map r.value vs) ≡ map w.value vs
  values_via [] h = refl
  values_via (v ∷ vs) h = ap₂ (λ x xs. x ∷ xs) (value v h.0) (values_via vs h.1)

  pub args_via : (as' : List Arg) → Each V (arg_values_used as') → map (arg_under u) (map (arg_under r) as') ≡ map (arg_under w) as'
  args_via [] h = refl
  args_via (arg.Value v ∷ as') h = ap₂ (λ (x : ℕ) xs. arg.Value x ∷ xs) (value v h.0) (args_via as' h.1)
  args_via (arg.Ret i ∷ as') h = ap (λ xs. arg.Ret i ∷ xs) (args_via as' h)
  args_via (arg.Exn i ∷ as') h = ap (λ xs. arg.Exn i ∷ xs) (args_via as' h)

  pub target_via : (t : BlockCall) → Each V (arg_values_used t.args) → B t.block → target_under u (target_under r t) ≡ target_under w t
  target_via t h b = ap₂ (λ (b : ℕ) (as' : List Arg). record t { block = b; args = as' }) (block t.block b) (args_via t.args h)

  targets_via : (ts : List BlockCall) → Each V (targets_used ts) → Each B (map (λ t. t.block) ts) → map (target_under u) (map (target_under r) ts) ≡ map (target_under w) ts
  targets_via [] h b = refl
  targets_via (t ∷ ts) h b = ap₂ (λ x xs. x ∷ xs) (target_via t (each_left V (arg_values_used t.args) (targets_used ts) h) b.0) (targets_via ts (each_right V (arg_values_used t.args) (targets_used ts) h) b.1)

  pub entries_via : (es : List (Entry BlockCall)) → Each V (targets_used (table_targets es)) → Each B (map (λ t. t.block) (table_targets es)) → map (entry_under u) (map (entry_under r) es) ≡ map (entry_under w) es
  entries_via [] h b = refl
  entries_via (e ∷ es) h b =
      ap₂ (λ (t : BlockCall) xs. record e { target = t } ∷ xs) (target_via e.target (each_left V (arg_values_used e.target.args) (targets_used (table_targets es)) h) b.0) (entries_via es (each_right V (arg_values_used e.target.args) (targets_used (table_targets es)) h) b.1)

  pub tags_via : (ts : List Tag) → map (tag_under u) (map (tag_under r) ts) ≡ map (tag_under w) ts
  tags_via [] = refl
  tags_via (tag.User n ∷ ts) = ap (λ xs. tag.User n ∷ xs) (tags_via ts)
  tags_via (tag.Slot k ∷ ts) = ap₂ (λ (x : ℕ) xs. tag.Slot x ∷ xs) (slot k) (tags_via ts)

  simple_via : (p : Simple) → Each V (simple_used p) → simple_under u (simple_under r p) ≡ simple_under w p
  simple_via Nop h = refl
  simple_via (Const x) h = refl
  simple_via (Pure op args) h = ap (Pure op) (values_via args h)
  simple_via (PureImm op a n) h = ap (λ z. PureImm op z n) (value a h.0)
  simple_via (Load access flags a offset) h = ap (λ z. Load access flags z offset) (value a h.0)
  simple_via (Store narrow flags v a offset) h = ap₂ (λ y z. Store narrow flags y z offset) (value v h.0) (value a h.1.0)
  simple_via (StackLoad t k offset) h = ap (λ z. StackLoad t z offset) (slot k)
  simple_via (StackStore v k offset) h = ap₂ (λ y z. StackStore y z offset) (value v h.0) (slot k)
  simple_via (FuncAddr k) h = ap FuncAddr (callee k)
  simple_via (Trap code) h = refl
  simple_via (Trapz v code) h = ap (λ z. Trapz z code) (value v h.0)
  simple_via (Trapnz v code) h = ap (λ z. Trapnz z code) (value v h.0)

  branch_via : (c : Branch) → Each V (branch_used c) → Each V (targets_used (branch_targets c)) → Each B (map (λ t. t.block) (branch_targets c)) → branch_under u (branch_under r c) ≡ branch_under w c
  branch_via (Jump t) h k b = ap Jump (target_via t (each_left V (arg_values_used t.args) [] k) b.0)
  branch_via (Brif v s t) h k b =
      let k' = each_right V (arg_values_used s.args) (targets_used (t ∷ [])) k in
      ap (λ z. Brif z (target_under u (target_under r s)) (target_under u (target_under r t))) (value v h.0) ∙ ap₂ (Brif (w.value v)) (target_via s (each_left V (arg_values_used s.args) (targets_used (t ∷ [])) k) b.0) (target_via t (each_left V (arg_values_used t.args) [] k') b.1.0)
  branch_via (BrTable v default ts) h k b =
      ap (λ z. BrTable z (target_under u (target_under r default)) (map (target_under u) (map (target_under r) ts))) (value v h.0) ∙ ap₂ (BrTable (w.value v)) (target_via default (each_left V (arg_values_used default.args) (targets_used ts) k) b.0) (targets_via ts (each_right V (arg_values_used default.args) (targets_used ts) k) b.1)

  pub called_via : (t : CallTarget) → Each V (called_used t) → called_under u (called_under r t) ≡ called_under w t
  called_via (Direct k) h = ap Direct (callee k)
  called_via (Indirect s a) h = ap₂ Indirect (sig s) (value a h.0)

  pub try_via : (t : TryTarget) (sg : ℕ) → Each V (called_used (call_target t sg)) → try_target_under u (try_target_under r t) ≡ try_target_under w t
  try_via (TryDirect k) sg h = ap TryDirect (callee k)
  try_via (TryIndirect a) sg h = ap TryIndirect (value a h.0)

  pub instruction_via : (i : Instruction) → Each V (operands i) → Each V (targets_used (targets i)) → Each B (blocks_used i) → instruction_under u (instruction_under r i) ≡ instruction_under w i
  instruction_via (Plain p) h k b = ap Plain (simple_via p h)
  instruction_via (Branches c) h k b = ap Branches (branch_via c h k b)
  instruction_via SequencePoint h k b = refl
  instruction_via (Return vs) h k b = ap Return (values_via vs h)
  instruction_via (Call t args) h k b = ap₂ Call (called_via t (each_left V (called_used t) args h)) (values_via args (each_right V (called_used t) args h))
  instruction_via (ReturnCall t args) h k b = ap₂ ReturnCall (called_via t (each_left V (called_used t) args h)) (values_via args (each_right V (called_used t) args h))
  instruction_via (TryCall t sg args normal table) h k b =
      ap₂ (λ y z. TryCall y z (map u.value (map r.value args)) (target_under u (target_under r normal)) (map (entry_under u) (map (entry_under r) table))) (try_via t sg (each_left V (called_used (call_target t sg)) args h)) (sig sg)
      ∙ (ap (λ z. TryCall (try_target_under w t) (w.sig sg) z (target_under u (target_under r normal)) (map (entry_under u) (map (entry_under r) table))) (values_via args (each_right V (called_used (call_target t sg)) args h))
      ∙ ap₂ (TryCall (try_target_under w t) (w.sig sg) (map w.value args)) (target_via normal (each_left V (arg_values_used normal.args) (targets_used (table_targets table)) k) b.0) (entries_via table (each_right V (arg_values_used normal.args) (targets_used (table_targets table)) k) b.1))

  pub lines_via : (ls : List Line) → Each (λ l. Each V l.results × Each V (values_used l.inst) × Each B (blocks_used l.inst)) ls → map (line_under u) (map (line_under r) ls) ≡ map (line_under w) ls
  lines_via [] h = refl
  lines_via (l ∷ ls) h =
      let used = h.0.1 in
      ap₂ (λ (i : Instruction) (xs : List Line). record l { inst = i; results = map u.value (map r.value l.results); tags = map (tag_under u) (map (tag_under r) l.tags) } ∷ xs) (instruction_via l.inst (each_left V (operands l.inst) (targets_used (targets l.inst)) used) (each_right V (operands l.inst) (targets_used (targets l.inst)) used) h.0.2) (lines_via ls h.1)
      ∙ ap₂ (λ (vs : List ℕ) (ts : List Tag). record l { inst = instruction_under w l.inst; results = vs; tags = ts } ∷ map (line_under w) ls) (values_via l.results h.0.0) (tags_via l.tags)

  pub blocks_via : (bs : List Block) → Each (λ b. B b.number × Each V b.params × Each (λ l. Each V l.results × Each V (values_used l.inst) × Each B (blocks_used l.inst)) b.lines) bs → map (block_under u) (map (block_under r) bs) ≡ map (block_under w) bs
  blocks_via [] h = refl
  blocks_via (b ∷ bs) h =
      ap₂ (λ (x : ℕ) (xs : List Block). record b { number = x; params = map u.value (map r.value b.params); lines = map (line_under u) (map (line_under r) b.lines) } ∷ xs) (block b.number h.0.0) (blocks_via bs h.1)
      ∙ ap₂ (λ (vs : List ℕ) (ls : List Line). record b { number = w.block b.number; params = vs; lines = ls } ∷ map (block_under w) bs) (values_via b.params h.0.1) (lines_via b.lines h.0.2)

-- Numbers that are equal everywhere change nothing.
use Rattle.std.proofs.Common.{◌≡◌, ℕ, List, [], ◌∷◌, map, refl, ap, ap₂, ◌∙◌}
use Rattle.exn_tables.specs.declared.table.Entry.{Entry}
use Rattle.debug_tags.specs.declared.tags.Tag.{Tag}
use Rattle.debug_tags.specs.declared.tags.Tag.TheVariants as tag
use Rattle.ir_core.specs.declared.instructions.Arg.{Arg}
use Rattle.ir_core.specs.declared.instructions.Arg.TheVariants as arg
use Rattle.ir_core.specs.declared.instructions.BlockCall.{BlockCall}
use Rattle.ir_core.specs.Module.{Simple, Nop, Const, Pure, PureImm, Load, Store, StackLoad, StackStore, FuncAddr, Trap, Trapz, Trapnz, Branch, Jump, Brif, BrTable, CallTarget, Direct, Indirect, TryTarget, TryDirect, TryIndirect, Instruction, Plain, Branches, SequencePoint, Return, Call, ReturnCall, TryCall, Line, Block}
use Rattle.ir_semantics.specs.Renaming.{Renaming, arg_under, target_under, tag_under, entry_under, simple_under, branch_under, called_under, try_target_under, instruction_under, line_under, block_under}

module _ (u w : Renaming) (value : (v : ℕ) → u.value v ≡ w.value v) (block : (b : ℕ) → u.block b ≡ w.block b) (slot : (k : ℕ) → u.slot k ≡ w.slot k) (sig : (k : ℕ) → u.sig k ≡ w.sig k) (callee : (k : ℕ) → u.callee k ≡ w.callee k) where
  pub values_same : (vs : List ℕ) → map u.value vs ≡ map w.value vs
  values_same [] = refl
  values_same (v ∷ vs) = ap₂ (λ (x : ℕ) (xs : List ℕ). x ∷ xs) (value v) (values_same vs)

  args_same : (as' : List Arg) → map (arg_under u) as' ≡ map (arg_under w) as'
  args_same [] = refl
  args_same (arg.Value v ∷ as') = ap₂ (λ (x : ℕ) (xs : List Arg). arg.Value x ∷ xs) (value v) (args_same as')
  args_same (arg.Ret i ∷ as') = ap (λ (xs : List Arg). arg.Ret i ∷ xs) (args_same as')
  args_same (arg.Exn i ∷ as') = ap (λ (xs : List Arg). arg.Exn i ∷ xs) (args_same as')

  target_same : (t : BlockCall) → target_under u t ≡ target_under w t
  target_same t = ap₂ (λ (b : ℕ) (as' : List Arg). record t { block = b; args = as' }) (block t.block) (args_same t.args)

  targets_same : (ts : List BlockCall) → map (target_under u) ts ≡ map (target_under w) ts
  targets_same [] = refl
  targets_same (t ∷ ts) = ap₂ (λ (x : BlockCall) (xs : List BlockCall). x ∷ xs) (target_same t) (targets_same ts)

  entries_same : (es : List (Entry BlockCall)) → map (entry_under u) es ≡ map (entry_under w) es
  entries_same [] = refl
  entries_same (e ∷ es) = ap₂ (λ (t : BlockCall) (xs : List (Entry BlockCall)). record e { target = t } ∷ xs) (target_same e.target) (entries_same es)

  pub tags_same : (ts : List Tag) → map (tag_under u) ts ≡ map (tag_under w) ts
  tags_same [] = refl
  tags_same (tag.User n ∷ ts) = ap (λ (xs : List Tag). tag.User n ∷ xs) (tags_same ts)
  tags_same (tag.Slot k ∷ ts) = ap₂ (λ (x : ℕ) (xs : List Tag). tag.Slot x ∷ xs) (slot k) (tags_same ts)

  simple_same : (p : Simple) → simple_under u p ≡ simple_under w p
  simple_same Nop = refl
  simple_same (Const x) = refl
  simple_same (Pure op args) = ap (Pure op) (values_same args)
  simple_same (PureImm op a n) = ap (λ (z : ℕ). PureImm op z n) (value a)
  simple_same (Load access flags a offset) = ap (λ (z : ℕ). Load access flags z offset) (value a)
  simple_same (Store narrow flags v a offset) = ap₂ (λ (y z : ℕ). Store narrow flags y z offset) (value v) (value a)
  simple_same (StackLoad t k offset) = ap (λ (z : ℕ). StackLoad t z offset) (slot k)
  simple_same (StackStore v k offset) = ap₂ (λ (y z : ℕ). StackStore y z offset) (value v) (slot k)
  simple_same (FuncAddr k) = ap FuncAddr (callee k)
  simple_same (Trap code) = refl
  simple_same (Trapz v code) = ap (λ (z : ℕ). Trapz z code) (value v)
  simple_same (Trapnz v code) = ap (λ (z : ℕ). Trapnz z code) (value v)

  branch_same : (c : Branch) → branch_under u c ≡ branch_under w c
  branch_same (Jump t) = ap Jump (target_same t)
  branch_same (Brif v t t') = ap (λ (z : ℕ). Brif z (target_under u t) (target_under u t')) (value v) ∙ ap₂ (Brif (w.value v)) (target_same t) (target_same t')
  branch_same (BrTable v default ts) = ap (λ (z : ℕ). BrTable z (target_under u default) (map (target_under u) ts)) (value v) ∙ ap₂ (BrTable (w.value v)) (target_same default) (targets_same ts)

  pub called_same : (t : CallTarget) → called_under u t ≡ called_under w t
  called_same (Direct k) = ap Direct (callee k)
  called_same (Indirect k a) = ap₂ Indirect (sig k) (value a)

  try_same : (t : TryTarget) → try_target_under u t ≡ try_target_under w t
  try_same (TryDirect k) = ap TryDirect (callee k)
  try_same (TryIndirect a) = ap TryIndirect (value a)

  pub instruction_same : (i : Instruction) → instruction_under u i ≡ instruction_under w i
  instruction_same (Plain p) = ap Plain (simple_same p)
  instruction_same (Branches c) = ap Branches (branch_same c)
  instruction_same SequencePoint = refl
  instruction_same (Return vs) = ap Return (values_same vs)
  instruction_same (Call t args) = ap₂ Call (called_same t) (values_same args)
  instruction_same (ReturnCall t args) = ap₂ ReturnCall (called_same t) (values_same args)
  instruction_same (TryCall t k args normal table) =
      ap₂ (λ (y : TryTarget) (z : ℕ). TryCall y z (map u.value args) (target_under u normal) (map (entry_under u) table)) (try_same t) (sig k)
      ∙ (ap (λ (z : List ℕ). TryCall (try_target_under w t) (w.sig k) z (target_under u normal) (map (entry_under u) table)) (values_same args)
      ∙ ap₂ (TryCall (try_target_under w t) (w.sig k) (map w.value args)) (target_same normal) (entries_same table))

  line_same : (l : Line) → line_under u l ≡ line_under w l
  line_same l =
      ap (λ (i : Instruction). record l { inst = i; results = map u.value l.results; tags = map (tag_under u) l.tags }) (instruction_same l.inst)
      ∙ ap₂ (λ (vs : List ℕ) (ts : List Tag). record l { inst = instruction_under w l.inst; results = vs; tags = ts }) (values_same l.results) (tags_same l.tags)

  pub lines_same : (ls : List Line) → map (line_under u) ls ≡ map (line_under w) ls
  lines_same [] = refl
  lines_same (l ∷ ls) = ap₂ (λ (x : Line) (xs : List Line). x ∷ xs) (line_same l) (lines_same ls)

  pub block_same : (b : Block) → block_under u b ≡ block_under w b
  block_same b =
      ap (λ (x : ℕ). record b { number = x; params = map u.value b.params; lines = map (line_under u) b.lines }) (block b.number)
      ∙ ap₂ (λ (vs : List ℕ) (ls : List Line). record b { number = w.block b.number; params = vs; lines = ls }) (values_same b.params) (lines_same b.lines)

  pub blocks_same : (bs : List Block) → map (block_under u) bs ≡ map (block_under w) bs
  blocks_same [] = refl
  blocks_same (b ∷ bs) = ap₂ (λ (x : Block) (xs : List Block). x ∷ xs) (block_same b) (blocks_same bs)

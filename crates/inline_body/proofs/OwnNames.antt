-- Numbers that stay change nothing.
use Rattle.std.proofs.Common.{◌≡◌, ℕ, List, [], ◌∷◌, map, refl, ap, ap₂, ◌∙◌}
use Rattle.exn_tables.specs.declared.table.Entry.{Entry}
use Rattle.debug_tags.specs.declared.tags.Tag.{Tag}
use Rattle.debug_tags.specs.declared.tags.Tag.TheVariants as tag
use Rattle.ir_core.specs.declared.instructions.Arg.{Arg}
use Rattle.ir_core.specs.declared.instructions.Arg.TheVariants as arg
use Rattle.ir_core.specs.declared.instructions.BlockCall.{BlockCall}
use Rattle.ir_core.specs.Module.{Simple, Nop, Const, Pure, PureImm, Load, Store, StackLoad, StackStore, FuncAddr, Trap, Trapz, Trapnz, Branch, Jump, Brif, BrTable, CallTarget, Direct, Indirect, TryTarget, TryDirect, TryIndirect, Instruction, Plain, Branches, SequencePoint, Return, Call, ReturnCall, TryCall, Line, Block}
use Rattle.ir_semantics.specs.Renaming.{Renaming, arg_under, target_under, tag_under, entry_under, simple_under, branch_under, called_under, try_target_under, instruction_under, line_under, block_under}

module _ (u : Renaming) (value : (v : ℕ) → u.value v ≡ v) (block : (b : ℕ) → u.block b ≡ b) (slot : (k : ℕ) → u.slot k ≡ k) (sig : (k : ℕ) → u.sig k ≡ k) (callee : (k : ℕ) → u.callee k ≡ k) where
  pub values_kept : (vs : List ℕ) → map u.value vs ≡ vs
  values_kept [] = refl
  values_kept (v ∷ vs) = ap₂ (λ (x : ℕ) (xs : List ℕ). x ∷ xs) (value v) (values_kept vs)

  args_kept : (as' : List Arg) → map (arg_under u) as' ≡ as'
  args_kept [] = refl
  args_kept (arg.Value v ∷ as') = ap₂ (λ (x : ℕ) (xs : List Arg). arg.Value x ∷ xs) (value v) (args_kept as')
  args_kept (arg.Ret i ∷ as') = ap (λ (xs : List Arg). arg.Ret i ∷ xs) (args_kept as')
  args_kept (arg.Exn i ∷ as') = ap (λ (xs : List Arg). arg.Exn i ∷ xs) (args_kept as')

  target_kept : (t : BlockCall) → target_under u t ≡ t
  target_kept t = ap₂ (λ (b : ℕ) (as' : List Arg). record t { block = b; args = as' }) (block t.block) (args_kept t.args)

  targets_kept : (ts : List BlockCall) → map (target_under u) ts ≡ ts
  targets_kept [] = refl
  targets_kept (t ∷ ts) = ap₂ (λ (x : BlockCall) (xs : List BlockCall). x ∷ xs) (target_kept t) (targets_kept ts)

  entries_kept : (es : List (Entry BlockCall)) → map (entry_under u) es ≡ es
  entries_kept [] = refl
  entries_kept (e ∷ es) = ap₂ (λ (t : BlockCall) (xs : List (Entry BlockCall)). record e { target = t } ∷ xs) (target_kept e.target) (entries_kept es)

  pub tags_kept : (ts : List Tag) → map (tag_under u) ts ≡ ts
  tags_kept [] = refl
  tags_kept (tag.User n ∷ ts) = ap (λ (xs : List Tag). tag.User n ∷ xs) (tags_kept ts)
  tags_kept (tag.Slot k ∷ ts) = ap₂ (λ (x : ℕ) (xs : List Tag). tag.Slot x ∷ xs) (slot k) (tags_kept ts)

  simple_kept : (p : Simple) → simple_under u p ≡ p
  simple_kept Nop = refl
  simple_kept (Const x) = refl
  simple_kept (Pure op args) = ap (Pure op) (values_kept args)
  simple_kept (PureImm op a n) = ap (λ (z : ℕ). PureImm op z n) (value a)
  simple_kept (Load access flags a offset) = ap (λ (z : ℕ). Load access flags z offset) (value a)
  simple_kept (Store narrow flags v a offset) = ap₂ (λ (y z : ℕ). Store narrow flags y z offset) (value v) (value a)
  simple_kept (StackLoad t k offset) = ap (λ (z : ℕ). StackLoad t z offset) (slot k)
  simple_kept (StackStore v k offset) = ap₂ (λ (y z : ℕ). StackStore y z offset) (value v) (slot k)
  simple_kept (FuncAddr k) = ap FuncAddr (callee k)
  simple_kept (Trap code) = refl
  simple_kept (Trapz v code) = ap (λ (z : ℕ). Trapz z code) (value v)
  simple_kept (Trapnz v code) = ap (λ (z : ℕ). Trapnz z code) (value v)

  branch_kept : (c : Branch) → branch_under u c ≡ c
  branch_kept (Jump t) = ap Jump (target_kept t)
  branch_kept (Brif v t t') = ap (λ (z : ℕ). Brif z (target_under u t) (target_under u t')) (value v) ∙ ap₂ (Brif (v)) (target_kept t) (target_kept t')
  branch_kept (BrTable v default ts) = ap (λ (z : ℕ). BrTable z (target_under u default) (map (target_under u) ts)) (value v) ∙ ap₂ (BrTable (v)) (target_kept default) (targets_kept ts)

  pub called_kept : (t : CallTarget) → called_under u t ≡ t
  called_kept (Direct k) = ap Direct (callee k)
  called_kept (Indirect k a) = ap₂ Indirect (sig k) (value a)

  try_kept : (t : TryTarget) → try_target_under u t ≡ t
  try_kept (TryDirect k) = ap TryDirect (callee k)
  try_kept (TryIndirect a) = ap TryIndirect (value a)

  pub instruction_kept : (i : Instruction) → instruction_under u i ≡ i
  instruction_kept (Plain p) = ap Plain (simple_kept p)
  instruction_kept (Branches c) = ap Branches (branch_kept c)
  instruction_kept SequencePoint = refl
  instruction_kept (Return vs) = ap Return (values_kept vs)
  instruction_kept (Call t args) = ap₂ Call (called_kept t) (values_kept args)
  instruction_kept (ReturnCall t args) = ap₂ ReturnCall (called_kept t) (values_kept args)
  instruction_kept (TryCall t k args normal table) =
      ap₂ (λ (y : TryTarget) (z : ℕ). TryCall y z (map u.value args) (target_under u normal) (map (entry_under u) table)) (try_kept t) (sig k)
      ∙ (ap (λ (z : List ℕ). TryCall (t) (k) z (target_under u normal) (map (entry_under u) table)) (values_kept args)
      ∙ ap₂ (TryCall (t) (k) (args)) (target_kept normal) (entries_kept table))

  line_kept : (l : Line) → line_under u l ≡ l
  line_kept l =
      ap (λ (i : Instruction). record l { inst = i; results = map u.value l.results; tags = map (tag_under u) l.tags }) (instruction_kept l.inst)
      ∙ ap₂ (λ (vs : List ℕ) (ts : List Tag). record l { inst = l.inst; results = vs; tags = ts }) (values_kept l.results) (tags_kept l.tags)

  pub lines_kept : (ls : List Line) → map (line_under u) ls ≡ ls
  lines_kept [] = refl
  lines_kept (l ∷ ls) = ap₂ (λ (x : Line) (xs : List Line). x ∷ xs) (line_kept l) (lines_kept ls)

  pub block_kept : (b : Block) → block_under u b ≡ b
  block_kept b =
      ap (λ (x : ℕ). record b { number = x; params = map u.value b.params; lines = map (line_under u) b.lines }) (block b.number)
      ∙ ap₂ (λ (vs : List ℕ) (ls : List Line). record b { number = b.number; params = vs; lines = ls }) (values_kept b.params) (lines_kept b.lines)

  pub blocks_kept : (bs : List Block) → map (block_under u) bs ≡ bs
  blocks_kept [] = refl
  blocks_kept (b ∷ bs) = ap₂ (λ (x : Block) (xs : List Block). x ∷ xs) (block_kept b) (blocks_kept bs)

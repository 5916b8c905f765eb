-- Two renamings that agree on what a line uses make the same line of it.
use Rattle.std.proofs.Common.{◌≡◌, ℕ, List, [], ◌∷◌, ◌++◌, map, Option, refl, ap, ap₂, ◌∙◌}
use Rattle.exn_tables.specs.declared.table.Entry.{Entry}
use Rattle.debug_tags.specs.declared.tags.Tag.{Tag}
use Rattle.debug_tags.specs.declared.tags.Tag.TheVariants as tag
use Rattle.ir_core.specs.declared.instructions.Arg.{Arg}
use Rattle.ir_core.specs.declared.instructions.Arg.TheVariants as arg
use Rattle.ir_core.specs.declared.instructions.BlockCall.{BlockCall}
use Rattle.ir_core.specs.declared.signatures.Ty.{Ty}
use Rattle.ir_core.specs.Lists.{Each}
use Rattle.ir_core.specs.Module.{Simple, Branch, CallTarget, TryTarget, Instruction, Line}
use Rattle.ir_core.specs.Module as insts
use Rattle.ir_semantics.specs.Renaming.{Renaming, arg_under, target_under, tag_under, entry_under, simple_under, called_under, try_target_under, instruction_under, line_under}
use Rattle.ir_core.proofs.Members.{each_left, each_right}
use Rattle.ir_core.specs.Uses.{table_targets, arg_values_used, targets_used, simple_used, called_used, values_used, simple_slots, slots_used, slots_shown, called_callees, simple_callees, callees_used, called_sigs, sigs_used, blocks_used}

module _ (r q : Renaming) where
  abbrev pub SameValue : ℕ → Type 0
  SameValue v = r.value v ≡ q.value v

  abbrev pub SameBlock : ℕ → Type 0
  SameBlock b = r.block b ≡ q.block b

  abbrev pub SameSlot : ℕ → Type 0
  SameSlot k = r.slot k ≡ q.slot k

  abbrev pub SameSig : ℕ → Type 0
  SameSig k = r.sig k ≡ q.sig k

  abbrev pub SameCallee : ℕ → Type 0
  SameCallee k = r.callee k ≡ q.callee k

  values_agree : (vs : List ℕ) → Each SameValue vs → map r.value vs ≡ map q.value vs
  values_agree [] h = refl
  values_agree (v ∷ vs) h = ap₂ (λ (x : ℕ) (xs : List ℕ). x ∷ xs) h.0 (values_agree vs h.1)

  args_agree : (xs : List Arg) → Each SameValue (arg_values_used xs) → map (arg_under r) xs ≡ map (arg_under q) xs
  args_agree [] h = refl
  args_agree (arg.Value v ∷ xs) h = ap₂ (λ (y : ℕ) (ys : List Arg). arg.Value y ∷ ys) h.0 (args_agree xs h.1)
  args_agree (arg.Ret i ∷ xs) h = ap (λ (ys : List Arg). arg.Ret i ∷ ys) (args_agree xs h)
  args_agree (arg.Exn i ∷ xs) h = ap (λ (ys : List Arg). arg.Exn i ∷ ys) (args_agree xs h)

  abbrev block_with : ℕ → List Arg → BlockCall
  block_with b xs = record { block = b; args = xs }

  abbrev entry_with : Option ℕ → BlockCall → Entry BlockCall
  entry_with k t = record { tag = k; target = t }

  target_agrees : (t : BlockCall) → SameBlock t.block → Each SameValue (arg_values_used t.args) → target_under r t ≡ target_under q t
  target_agrees t b h = ap₂ block_with b (args_agree t.args h)

  abbrev BlocksOf : List BlockCall → Type 0
  BlocksOf ts = Each SameBlock (map (λ t. t.block) ts)

  targets_agree : (ts : List BlockCall) → BlocksOf ts → Each SameValue (targets_used ts) → map (target_under r) ts ≡ map (target_under q) ts
  targets_agree [] b h = refl
  targets_agree (t ∷ ts) b h =
      ap₂ (λ (x : BlockCall) (xs : List BlockCall). x ∷ xs) (target_agrees t b.0 (each_left SameValue (arg_values_used t.args) (targets_used ts) h))
      (targets_agree ts b.1 (each_right SameValue (arg_values_used t.args) (targets_used ts) h))

  entries_agree : (es : List (Entry BlockCall)) → BlocksOf (table_targets es) → Each SameValue (targets_used (table_targets es)) → map (entry_under r) es ≡ map (entry_under q) es
  entries_agree [] b h = refl
  entries_agree (e ∷ es) b h =
      ap₂ (λ (x : BlockCall) (xs : List (Entry BlockCall)). entry_with e.tag x ∷ xs) (target_agrees e.target b.0 (each_left SameValue (arg_values_used e.target.args) (targets_used (table_targets es)) h))
      (entries_agree es b.1 (each_right SameValue (arg_values_used e.target.args) (targets_used (table_targets es)) h))

  tags_agree : (ts : List Tag) → Each SameSlot (slots_shown ts) → map (tag_under r) ts ≡ map (tag_under q) ts
  tags_agree [] h = refl
  tags_agree (tag.User k ∷ ts) h = ap (λ (us : List Tag). tag.User k ∷ us) (tags_agree ts h)
  tags_agree (tag.Slot k ∷ ts) h = ap₂ (λ (j : ℕ) (us : List Tag). tag.Slot j ∷ us) h.0 (tags_agree ts h.1)

  simple_agrees : (i : Simple) → Each SameValue (simple_used i) → Each SameSlot (simple_slots i) → Each SameCallee (simple_callees i) → simple_under r i ≡ simple_under q i
  simple_agrees insts.Nop v s c = refl
  simple_agrees (insts.Const d) v s c = refl
  simple_agrees (insts.Pure o args) v s c = ap (insts.Pure o) (values_agree args v)
  simple_agrees (insts.PureImm o x d) v s c = ap (λ (y : ℕ). insts.PureImm o y d) v.0
  simple_agrees (insts.Load a g p z) v s c = ap (λ (y : ℕ). insts.Load a g y z) v.0
  simple_agrees (insts.Store k g x p z) v s c = ap₂ (λ (y w : ℕ). insts.Store k g y w z) v.0 v.1.0
  simple_agrees (insts.StackLoad u k z) v s c = ap (λ (y : ℕ). insts.StackLoad u y z) s.0
  simple_agrees (insts.StackStore x k z) v s c = ap₂ (λ (y w : ℕ). insts.StackStore y w z) v.0 s.0
  simple_agrees (insts.FuncAddr k) v s c = ap insts.FuncAddr c.0
  simple_agrees (insts.Trap k) v s c = refl
  simple_agrees (insts.Trapz x k) v s c = ap (λ (y : ℕ). insts.Trapz y k) v.0
  simple_agrees (insts.Trapnz x k) v s c = ap (λ (y : ℕ). insts.Trapnz y k) v.0

  called_agrees : (t : CallTarget) → Each SameValue (called_used t) → Each SameSig (called_sigs t) → Each SameCallee (called_callees t) → called_under r t ≡ called_under q t
  called_agrees (insts.Direct k) v s c = ap insts.Direct c.0
  called_agrees (insts.Indirect k x) v s c = ap₂ insts.Indirect s.0 v.0

  tried_agrees : (t : TryTarget) (sig : ℕ) → Each SameValue (called_used (insts.call_target t sig)) → Each SameCallee (called_callees (insts.call_target t sig)) → try_target_under r t ≡ try_target_under q t
  tried_agrees (insts.TryDirect k) sig v c = ap insts.TryDirect c.0
  tried_agrees (insts.TryIndirect x) sig v c = ap insts.TryIndirect v.0

  call_agrees : (make : CallTarget → List ℕ → Instruction) (t : CallTarget) (args : List ℕ) → Each SameValue ((called_used t ++ args) ++ []) → Each SameSig (called_sigs t) → Each SameCallee (called_callees t)
      → make (called_under r t) (map r.value args) ≡ make (called_under q t) (map q.value args)
  call_agrees make t args v s c =
      let all = each_left SameValue (called_used t ++ args) [] v in
      ap₂ make (called_agrees t (each_left SameValue (called_used t) args all) s c) (values_agree args (each_right SameValue (called_used t) args all))

  instruction_agrees : (i : Instruction) → Each SameValue (values_used i) → Each SameBlock (blocks_used i) → Each SameSlot (slots_used i) → Each SameSig (sigs_used i) → Each SameCallee (callees_used i)
      → instruction_under r i ≡ instruction_under q i
  instruction_agrees (insts.Plain i) v b s g c = ap insts.Plain (simple_agrees i (each_left SameValue (simple_used i) [] v) s c)
  instruction_agrees (insts.Branches (insts.Jump t)) v b s g c = ap (λ (x : BlockCall). insts.Branches (insts.Jump x)) (target_agrees t b.0 (each_left SameValue (arg_values_used t.args) [] v))
  instruction_agrees (insts.Branches (insts.Brif x t u)) v b s g c =
      ap (λ (y : ℕ). insts.Branches (insts.Brif y (target_under r t) (target_under r u))) v.0
      ∙ ap₂ (λ (y z : BlockCall). insts.Branches (insts.Brif (q.value x) y z))
      (target_agrees t b.0 (each_left SameValue (arg_values_used t.args) (arg_values_used u.args ++ []) v.1))
      (target_agrees u b.1.0 (each_left SameValue (arg_values_used u.args) [] (each_right SameValue (arg_values_used t.args) (arg_values_used u.args ++ []) v.1)))
  instruction_agrees (insts.Branches (insts.BrTable x t ts)) v b s g c =
      ap (λ (y : ℕ). insts.Branches (insts.BrTable y (target_under r t) (map (target_under r) ts))) v.0
      ∙ ap₂ (λ (y : BlockCall) (ys : List BlockCall). insts.Branches (insts.BrTable (q.value x) y ys))
      (target_agrees t b.0 (each_left SameValue (arg_values_used t.args) (targets_used ts) v.1))
      (targets_agree ts b.1 (each_right SameValue (arg_values_used t.args) (targets_used ts) v.1))
  instruction_agrees insts.SequencePoint v b s g c = refl
  instruction_agrees (insts.Return vs) v b s g c = ap insts.Return (values_agree vs (each_left SameValue vs [] v))
  instruction_agrees (insts.Call t args) v b s g c = call_agrees insts.Call t args v g c
  instruction_agrees (insts.ReturnCall t args) v b s g c = call_agrees insts.ReturnCall t args v g c
  instruction_agrees (insts.TryCall t sig args normal table) v b s g c =
      let to = called_used (insts.call_target t sig) in
      let own = each_left SameValue (to ++ args) (arg_values_used normal.args ++ targets_used (table_targets table)) v in
      let rest = each_right SameValue (to ++ args) (arg_values_used normal.args ++ targets_used (table_targets table)) v in
      ap₂ (λ (x : TryTarget) (ws : List ℕ). insts.TryCall x (r.sig sig) ws (target_under r normal) (map (entry_under r) table)) (tried_agrees t sig (each_left SameValue to args own) c) (values_agree args (each_right SameValue to args own))
      ∙ ap (λ (k : ℕ). insts.TryCall (try_target_under q t) k (map q.value args) (target_under r normal) (map (entry_under r) table)) g.0
      ∙ ap₂ (λ (y : BlockCall) (ys : List (Entry BlockCall)). insts.TryCall (try_target_under q t) (q.sig sig) (map q.value args) y ys)
      (target_agrees normal b.0 (each_left SameValue (arg_values_used normal.args) (targets_used (table_targets table)) rest))
      (entries_agree table b.1 (each_right SameValue (arg_values_used normal.args) (targets_used (table_targets table)) rest))

  abbrev line_with : Instruction → Option Ty → List ℕ → List Tag → Line
  line_with i t vs ts = record { inst = i; ty = t; results = vs; tags = ts }

  pub line_agrees : (l : Line) → Each SameValue (values_used l.inst) → Each SameValue l.results → Each SameBlock (blocks_used l.inst) → Each SameSlot (slots_used l.inst) → Each SameSlot (slots_shown l.tags) → Each SameSig (sigs_used l.inst) → Each SameCallee (callees_used l.inst)
      → line_under r l ≡ line_under q l
  line_agrees l v w b s t g c =
      ap (λ (i : Instruction). line_with i l.ty (map r.value l.results) (map (tag_under r) l.tags)) (instruction_agrees l.inst v b s g c)
      ∙ ap₂ (λ (vs : List ℕ) (ts : List Tag). line_with (instruction_under q l.inst) l.ty vs ts) (values_agree l.results w) (tags_agree l.tags t)

-- The numbers of a writable function's raw function keep their limits.
use Rattle.std.proofs.Common.{◌≡◌, ℕ, zero, suc, ◌+◌, ◌-◌, ◌*◌, ◌^◌, ◌<◌, ◌≤◌, ◌==◌, Bool, true, false, List, [], ◌∷◌, ◌++◌, map, Option, Some, None, refl, sym, subst, arith, inl, inr}
use Rattle.std.specs.Prelude.{flat_map, ℤ, pos, negsuc, neg_ℤ}
use Rattle.std.proofs.lemmas.Bool.{le-leb, lt-ltb}
use Rattle.std.proofs.lemmas.Bool.Decides.{leb_tells}
use Rattle.std.proofs.lemmas.Grind.{flat_map-append}
use Rattle.std.proofs.lemmas.Int.{ints}
use Rattle.clk_num.specs.Numbers.{signed, fits}
use Rattle.clk_num.specs.Width.{bits_of}
use Rattle.clk_num.specs.declared.op.TrapCode.{TrapCode}
use Rattle.clk_num.specs.declared.op.TrapCode.TheVariants as code
use Rattle.clk_num.specs.declared.width.Width.{Width}
use Rattle.clk_num.specs.declared.width.Width.TheVariants.{W8, W16, W32, W64, W128}
use Rattle.clk_num.proofs.Numbers.{signed_low, signed_high}
use Rattle.debug_tags.specs.declared.tags.Tag.{Tag}
use Rattle.debug_tags.specs.declared.tags.Tag.TheVariants as tag
use Rattle.exn_tables.specs.declared.table.Entry.{Entry}
use Rattle.ir_core.specs.declared.declarations.Callee.{Callee}
use Rattle.ir_core.specs.declared.declarations.SlotDecl.{SlotDecl}
use Rattle.ir_core.specs.declared.instructions.Arg.{Arg}
use Rattle.ir_core.specs.declared.instructions.Arg.TheVariants as arg
use Rattle.ir_core.specs.declared.instructions.BlockCall.{BlockCall}
use Rattle.ir_core.specs.declared.names.FuncName.{FuncName}
use Rattle.ir_core.specs.declared.names.FuncName.TheVariants as name
use Rattle.ir_core.specs.declared.signatures.Sig.{Sig}
use Rattle.ir_core.specs.declared.signatures.Ty.{Ty}
use Rattle.ir_core.specs.Lists.{Each}
use Rattle.ir_core.specs.Lookup.{ty_of}
use Rattle.ir_core.specs.Module.{Simple, Instruction, Line as CoreLine, Block, Function}
use Rattle.ir_core.specs.Module as insts
use Rattle.ir_core.specs.Uses as core
use Rattle.ir_core.proofs.Members.{each_join}
use Rattle.ir_text.specs.Numbering.{Numbering, numbering_of}
use Rattle.ir_text.specs.TextInstructions.{shown_suffix, typing_operand}
use Rattle.ir_text.specs.Writable.{greatest_number, NameWritable, SlotWritable, OffsetWritable, CodeWritable, TagWritable, EntryTagWritable, ValueArg, NormalArg, TableArg, TargetWritable, TableWritable, SimpleForm, InstructionForm, LineWritable, FunctionWritable}
use Rattle.clif_insts.specs.declared.raw.RawOperands.{RawOperands}
use Rattle.clif_insts.specs.declared.raw.RawTarget.{RawTarget}
use Rattle.clif_read.specs.declared.raw.RawDecl.{RawDecl}
use Rattle.clif_read.specs.declared.raw.RawLine.{RawLine}
use Rattle.clif_names.specs.declared.limits.Limit.TheVariants.{Entity, Alignment, Offset, Constant}
use Rattle.name_tables.specs.Definitions.{lines}
use Rattle.clif_names.specs.Limits.{keeps, name_limits, maybe_number, decl_limits, arg_limits, target_limits, entry_limits, trap_limits, operand_limits, tag_limits, line_limits}
use Rattle.name_tables.specs.Uses.{operand_targets}
use Rattle.text_read_back.specs.RawOf as raws
use Rattle.clif_meaning.proofs.LimitLaws.{Kept, AllKept}
use Rattle.canonical_reads.proofs.Shapes.{by_operands, by_immediate}
use Rattle.canonical_reads.proofs.Used.{targets_of, all_lines, each_flat}

-- ---- numbers

pub entity : (k : ℕ) → k ≤ greatest_number → keeps Entity (pos k) ≡ true
entity k h = rw (le-leb 0 k (omega arith), le-leb k greatest_number h) refl

offset_kept : (z : ℤ) → OffsetWritable z → keeps Offset z ≡ true
offset_kept (pos k) h = let high = h.1 in rw (le-leb k 2147483647 (omega (arith, ints))) refl
offset_kept (negsuc k) h = let low = h.0 in rw (le-leb k 2147483647 (omega (arith, ints))) refl

offset_limits : (z : ℤ) → OffsetWritable z → AllKept (maybe_number Offset (raws.offset z))
offset_limits (pos zero) h = tt
offset_limits (pos (suc k)) h = (offset_kept (pos (suc k)) h, tt)
offset_limits (negsuc k) h = (offset_kept (negsuc k) h, tt)

-- a value that is read as signed is one of its width
module _ (b v : ℕ) (h : v < 2 ^ b) (halves : 2 ^ b ≡ 2 * 2 ^ (b - 1)) (least : neg_ℤ (pos (2 ^ (b - 1))) ≡ negsuc (2 ^ (b - 1) - 1)) where
  signed_fits : fits b (signed b v) ≡ true
  unfolding fits
  signed_fits = elim (leb_tells (2 ^ (b - 1)) v) [
    | inl t ↦ (let k = t.1 in rw (signed_high b v k h, least, le-leb (2 ^ b - 1 - v) (2 ^ (b - 1) - 1) (omega arith)) refl)
    | inr f ↦ (let k = f.1 in rw (signed_low b v k, least, lt-ltb v (2 ^ b) h) refl)
  ]

constant_at : (w : Width) (v : ℕ) → v < 2 ^ bits_of w → keeps (Constant (ty_of w)) (signed (bits_of w) v) ≡ true
constant_at W8 v h = signed_fits 8 v h refl refl
constant_at W16 v h = signed_fits 16 v h refl refl
constant_at W32 v h = signed_fits 32 v h refl refl
constant_at W64 v h = signed_fits 64 v h refl refl
constant_at W128 v h = signed_fits 128 v h refl refl

code_limits : (c : TrapCode) → CodeWritable c → AllKept (trap_limits (raws.trap_code c))
code_limits code.StkOvf h = tt
code_limits code.IntOvf h = tt
code_limits code.HeapOob h = tt
code_limits code.IntDivz h = tt
code_limits code.BadToint h = tt
code_limits (code.User k) h = (rw (le-leb 0 k (omega arith), le-leb k 65535 h) refl, tt)

-- ---- names and declarations

pub name_kept : (x : FuncName) → NameWritable x → AllKept (name_limits (raws.function_name x))
name_kept (name.Text bytes) h = tt
name_kept (name.User a i) h = (entity a h.0, (entity i h.1, tt))

slot_kept : (k : ℕ) (s : SlotDecl) → SlotWritable s → AllKept (decl_limits (raws.slot_decl k s))
slot_kept k s h = (rw (le-leb 0 s.size (omega arith), le-leb s.size 65536 h.0) refl, align (s.align == 1) refl)
  where
    align : (b : Bool) → (s.align == 1) ≡ b → AllKept (maybe_number Alignment (raws.alignment s.align))
    align true e = rw e tt
    align false e = rw e (h.1, tt)

decls_kept : {A : Type 0} (P : A → Type 0) (decl : ℕ → A → RawDecl) → ((k : ℕ) (x : A) → P x → AllKept (decl_limits (decl k x))) → (k : ℕ) (xs : List A) → Each P xs → AllKept (flat_map decl_limits (raws.numbered decl k xs))
decls_kept P decl each k [] h = tt
decls_kept P decl each k (x ∷ xs) h = each_join Kept (decl_limits (decl k x)) (flat_map decl_limits (raws.numbered decl (k + 1) xs)) (each k x h.0) (decls_kept P decl each (k + 1) xs h.1)

no_limits : (k : ℕ) (ss : List Sig) → AllKept (flat_map decl_limits (raws.numbered raws.sig_decl k ss))
no_limits k [] = tt
no_limits k (s ∷ ss) = no_limits (k + 1) ss

-- ---- instructions

module _ (f : Function) (n : Numbering) where
  args_kept : (P : Arg → Type 0) → ((a : Arg) → P a → AllKept (arg_limits (raws.argument n a))) → (as' : List Arg) → Each P as' → AllKept (flat_map arg_limits (map (raws.argument n) as'))
  args_kept P each [] h = tt
  args_kept P each (a ∷ as') h = each_join Kept (arg_limits (raws.argument n a)) (flat_map arg_limits (map (raws.argument n) as')) (each a h.0) (args_kept P each as' h.1)

  value_arg : (a : Arg) → ValueArg a → AllKept (arg_limits (raws.argument n a))
  value_arg (arg.Value v) h = tt
  value_arg (arg.Ret k) h = absurd h
  value_arg (arg.Exn k) h = absurd h

  normal_arg : (a : Arg) → NormalArg a → AllKept (arg_limits (raws.argument n a))
  normal_arg (arg.Value v) h = tt
  normal_arg (arg.Ret k) h = (entity k h, tt)
  normal_arg (arg.Exn k) h = absurd h

  table_arg : (a : Arg) → TableArg a → AllKept (arg_limits (raws.argument n a))
  table_arg (arg.Value v) h = tt
  table_arg (arg.Ret k) h = absurd h
  table_arg (arg.Exn k) h = (entity k h, tt)

  abbrev TargetKept : BlockCall → Type 0
  TargetKept t = AllKept (target_limits (raws.target n t))

  branch_targets_kept : (ts : List BlockCall) → Each (TargetWritable ValueArg) ts → Each TargetKept ts
  branch_targets_kept [] h = tt
  branch_targets_kept (t ∷ ts) h = (args_kept ValueArg value_arg t.args h.0, branch_targets_kept ts h.1)

  table_targets_kept : (es : List (Entry BlockCall)) → Each TableWritable es → Each TargetKept (core.table_targets es)
  table_targets_kept [] h = tt
  table_targets_kept (e ∷ es) h = (args_kept TableArg table_arg e.target.args h.0.1, table_targets_kept es h.1)

  targets_kept : (l : CoreLine) (i : Instruction) → InstructionForm f l i → Each TargetKept (core.targets i)
  targets_kept l (insts.Plain i) h = tt
  targets_kept l (insts.Branches b) h = branch_targets_kept (core.branch_targets b) h.1
  targets_kept l insts.SequencePoint h = tt
  targets_kept l (insts.Return vs) h = tt
  targets_kept l (insts.Call to vs) h = tt
  targets_kept l (insts.ReturnCall to vs) h = tt
  targets_kept l (insts.TryCall to sig vs normal table) h = (args_kept NormalArg normal_arg normal.args h.1, table_targets_kept table h.2)

  all_targets : (ts : List BlockCall) → Each TargetKept ts → AllKept (flat_map target_limits (map (raws.target n) ts))
  all_targets [] h = tt
  all_targets (t ∷ ts) h = each_join Kept (target_limits (raws.target n t)) (flat_map target_limits (map (raws.target n) ts)) h.0 (all_targets ts h.1)

  entry_kept : (e : Entry BlockCall) → EntryTagWritable e.tag → AllKept (entry_limits (raws.entry n e))
  entry_kept e h = go e.tag refl h
    where
      go : (t : Option ℕ) → e.tag ≡ t → EntryTagWritable t → AllKept (entry_limits (raws.entry n e))
      go None s h = rw s tt
      go (Some k) s h = rw s (entity k h, tt)

  entries_kept : (es : List (Entry BlockCall)) → Each TableWritable es → AllKept (flat_map entry_limits (map (raws.entry n) es))
  entries_kept [] h = tt
  entries_kept (e ∷ es) h = each_join Kept (entry_limits (raws.entry n e)) (flat_map entry_limits (map (raws.entry n) es)) (entry_kept e h.0.0) (entries_kept es h.1)

  tags_kept : (ts : List Tag) → Each TagWritable ts → AllKept (flat_map tag_limits (map raws.debug_tag ts))
  tags_kept [] h = tt
  tags_kept (tag.User k ∷ ts) h = (entity k h.0, tags_kept ts h.1)
  tags_kept (tag.Slot k ∷ ts) h = tags_kept ts h.1

  module _ (l : CoreLine) (s : Option Ty) where
    simple_kept : (i : Simple) → SimpleForm f l i → AllKept (operand_limits (raws.simple n s i).suffix (raws.simple n s i).operands)
    simple_kept insts.Nop h = tt
    simple_kept (insts.Const d) h = (constant_at d.width d.value h.1.0, tt)
    simple_kept (insts.Pure o vs) h =
        by_operands n (λ (vs : List ℕ) (given : RawOperands). AllKept (operand_limits (raws.op_suffix o s) given)) (λ vs. tt) (λ x. tt) (λ x y. tt) (λ c x y. tt) (λ c x y. tt) o vs
    simple_kept (insts.PureImm o x d) h = by_immediate n (λ (given : RawOperands). AllKept (operand_limits s given)) x d tt (λ c. tt) o
    simple_kept (insts.Load a g p z) h = offset_limits z h.1
    simple_kept (insts.Store narrow g x p z) h = offset_limits z h.1
    simple_kept (insts.StackLoad t slot z) h = offset_limits z h.0
    simple_kept (insts.StackStore x slot z) h = offset_limits z h.0
    simple_kept (insts.FuncAddr callee) h = tt
    simple_kept (insts.Trap c) h = code_limits c h.0
    simple_kept (insts.Trapz x c) h = code_limits c h.0
    simple_kept (insts.Trapnz x c) h = code_limits c h.0

    operands_kept : (i : Instruction) → InstructionForm f l i → AllKept (operand_limits (raws.instruction n s i).suffix (raws.instruction n s i).operands)
    operands_kept (insts.Plain i) h = simple_kept i h
    operands_kept (insts.Branches (insts.Jump t)) h = tt
    operands_kept (insts.Branches (insts.Brif x t u)) h = tt
    operands_kept (insts.Branches (insts.BrTable x t ts)) h = tt
    operands_kept insts.SequencePoint h = tt
    operands_kept (insts.Return vs) h = tt
    operands_kept (insts.Call (insts.Direct callee) vs) h = tt
    operands_kept (insts.Call (insts.Indirect sig p) vs) h = tt
    operands_kept (insts.ReturnCall (insts.Direct callee) vs) h = tt
    operands_kept (insts.ReturnCall (insts.Indirect sig p) vs) h = tt
    operands_kept (insts.TryCall (insts.TryDirect callee) sig vs normal table) h = entries_kept table h.2
    operands_kept (insts.TryCall (insts.TryIndirect p) sig vs normal table) h = entries_kept table h.2

  abbrev shown : ℕ → CoreLine → Option Ty
  shown next l = shown_suffix f n next l.ty (typing_operand l.inst)

  line_kept : (next : ℕ) (l : CoreLine) → LineWritable f l → AllKept (line_limits (raws.line f n next l))
  line_kept next l h =
      let own = raws.instruction n (shown next l) l.inst in
      each_join Kept (flat_map tag_limits (map raws.debug_tag l.tags) ++ operand_limits own.suffix own.operands) (flat_map target_limits (operand_targets own.operands))
      (each_join Kept (flat_map tag_limits (map raws.debug_tag l.tags)) (operand_limits own.suffix own.operands) (tags_kept l.tags h.1) (operands_kept l (shown next l) l.inst h.0))
      (subst (λ (ts : List RawTarget). AllKept (flat_map target_limits ts)) (sym (targets_of n (shown next l) l.inst)) (all_targets (core.targets l.inst) (targets_kept l l.inst h.0)))

-- ---- a whole function

pub decl_numbers : (f : Function) → FunctionWritable f → AllKept (flat_map decl_limits (raws.raw_function f).decls)
decl_numbers f w =
    let slots = raws.numbered raws.slot_decl 0 f.slots in
    let sigs = raws.numbered raws.sig_decl 0 f.sigs in
    let callees = raws.numbered raws.callee_decl 0 f.callees in
    subst AllKept (sym (flat_map-append decl_limits slots (sigs ++ callees)))
    (each_join Kept (flat_map decl_limits slots) (flat_map decl_limits (sigs ++ callees)) (decls_kept SlotWritable raws.slot_decl slot_kept 0 f.slots w.slots)
    (subst AllKept (sym (flat_map-append decl_limits sigs callees))
    (each_join Kept (flat_map decl_limits sigs) (flat_map decl_limits callees) (no_limits 0 f.sigs)
    (decls_kept (λ (c : Callee). NameWritable c.name) raws.callee_decl (λ k c h. name_kept c.name h) 0 f.callees w.callees))))

pub line_numbers : (f : Function) → FunctionWritable f → AllKept (flat_map line_limits (lines (raws.raw_function f)))
line_numbers f w =
    each_flat Kept line_limits (lines (raws.raw_function f))
    (all_lines f (numbering_of f) (LineWritable f) (λ (l : RawLine). AllKept (line_limits l)) (line_kept f (numbering_of f)) 0 f.blocks w.lines)

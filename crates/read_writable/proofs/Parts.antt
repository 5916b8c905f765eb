-- Targets, exception tables, flags, tags, names and declarations that are read can be written.
use Rattle.std.proofs.Common.{◌≡◌, ℕ, suc, Bool, true, List, [], ◌∷◌, map, Option, None, Some, refl, sym, ap₂, ◌∙◌}
use Rattle.std.specs.Prelude.{flat_map, fold, not, ◌&&◌, ◌||◌, IsTrue, ℤ, pos, negsuc}
use Rattle.std.specs.List.{list_any, list_all}
use Rattle.std.proofs.Math.Bool.{or-false, or-true}
use Rattle.std.proofs.lemmas.Bool.{and_parts}
use Rattle.ir_core.specs.declared.instructions.Flags.{Flags}
use Rattle.ir_core.specs.declared.declarations.Callee.{Callee}
use Rattle.ir_core.specs.Forms.{flags_form}
use Rattle.ir_core.specs.Lists.{Each}
use Rattle.ir_core.proofs.Members.{each_left, each_right}
use Rattle.ir_semantics.specs.Renaming.{Renaming}
use Rattle.ir_text.specs.Writable.{greatest_number, is_name_byte, NameWritable, SlotWritable, OffsetWritable, CodeWritable, TagWritable, EntryTagWritable, ValueArg, NormalArg, TableArg, TargetWritable, TableWritable}
use Rattle.clif_lex.specs.Bytes.{is_word_byte}
use Rattle.token_reader.specs.declared.raw.RawName.{RawName}
use Rattle.token_reader.specs.declared.raw.RawNumber.{RawNumber}
use Rattle.clif_insts.specs.declared.raw.RawArg.{RawArg}
use Rattle.clif_insts.specs.declared.raw.RawArg.TheVariants as arg
use Rattle.clif_insts.specs.declared.raw.RawTarget.{RawTarget}
use Rattle.clif_insts.specs.declared.raw.RawEntry.{RawEntry}
use Rattle.clif_insts.specs.declared.raw.RawTrap.{RawTrap}
use Rattle.clif_insts.specs.declared.raw.RawTrap.TheVariants as trap
use Rattle.clif_insts.specs.declared.raw.RawFlag.{RawFlag}
use Rattle.clif_insts.specs.declared.raw.RawFlag.TheVariants as flag
use Rattle.clif_insts.specs.Marks.{MarkFormed}
use Rattle.clif_insts.specs.OfForm.{is_value, is_normal, is_handler, is_big, is_little, one_order, TargetHas, TableHas}
use Rattle.clif_read.specs.declared.raw.RawTag.{RawTag}
use Rattle.clif_read.specs.declared.raw.RawTag.TheVariants as tag
use Rattle.clif_read.specs.declared.raw.RawFuncName.{RawFuncName}
use Rattle.clif_read.specs.declared.raw.RawFuncName.TheVariants as func_name
use Rattle.clif_read.specs.declared.raw.RawCalleeSig.TheVariants as callee_sig
use Rattle.clif_read.specs.declared.raw.RawDecl.{RawDecl}
use Rattle.clif_read.specs.declared.raw.RawDecl.TheVariants as decl
use Rattle.clif_read.specs.Marks.{func_name_marks, callee_sig_marks, decl_marks}
use Rattle.clif_names.specs.declared.limits.Limit.TheVariants.{Entity, Alignment, Offset}
use Rattle.clif_names.specs.declared.limits.Limited.{Limited}
use Rattle.clif_names.specs.Limits.{is_power, of_word, name_limits, maybe_number, decl_limits, arg_limits, target_limits, entry_limits, trap_limits, tag_limits}
use Rattle.clif_meaning.specs.Instructions.{natural, offset_of, code_of, no_flags, with_flag, flags_of, arg_of, target_of, entry_tag, entry_of, tag_of}
use Rattle.clif_meaning.specs.Meaning.{name_of, alignment, decl_slots, callees_from}
use Rattle.clif_meaning.proofs.LimitLaws.{Kept, AllKept}
use Rattle.read_writable.proofs.Numbers.{at_most, offset_writable}

-- ---- numbers

pub maybe_offset : (n : Option RawNumber) → AllKept (maybe_number Offset n) → OffsetWritable (offset_of n)
maybe_offset None h = offset_writable (pos 0) refl
maybe_offset (Some n) h = offset_writable n.value h.0

pub code_writable : (c : RawTrap) → AllKept (trap_limits c) → CodeWritable (code_of c)
code_writable trap.StkOvf h = tt
code_writable trap.IntOvf h = tt
code_writable trap.HeapOob h = tt
code_writable trap.IntDivz h = tt
code_writable trap.BadToint h = tt
code_writable (trap.User n) h = at_most 65535 (pos n.number) h.0

-- ---- flags

big_is : (fs : List RawFlag) (a : Flags) → (fold with_flag a fs).big ≡ (a.big || list_any is_big fs)
big_is [] a = sym (or-false a.big)
big_is (flag.Big ∷ fs) a = big_is fs (with_flag a flag.Big) ∙ sym (or-true a.big)
big_is (flag.Notrap ∷ fs) a = big_is fs (with_flag a flag.Notrap)
big_is (flag.Aligned ∷ fs) a = big_is fs (with_flag a flag.Aligned)
big_is (flag.Readonly ∷ fs) a = big_is fs (with_flag a flag.Readonly)
big_is (flag.CanMove ∷ fs) a = big_is fs (with_flag a flag.CanMove)
big_is (flag.Heap ∷ fs) a = big_is fs (with_flag a flag.Heap)
big_is (flag.Table ∷ fs) a = big_is fs (with_flag a flag.Table)
big_is (flag.Vmctx ∷ fs) a = big_is fs (with_flag a flag.Vmctx)
big_is (flag.Little ∷ fs) a = big_is fs (with_flag a flag.Little)

little_is : (fs : List RawFlag) (a : Flags) → (fold with_flag a fs).little ≡ (a.little || list_any is_little fs)
little_is [] a = sym (or-false a.little)
little_is (flag.Little ∷ fs) a = little_is fs (with_flag a flag.Little) ∙ sym (or-true a.little)
little_is (flag.Notrap ∷ fs) a = little_is fs (with_flag a flag.Notrap)
little_is (flag.Aligned ∷ fs) a = little_is fs (with_flag a flag.Aligned)
little_is (flag.Readonly ∷ fs) a = little_is fs (with_flag a flag.Readonly)
little_is (flag.CanMove ∷ fs) a = little_is fs (with_flag a flag.CanMove)
little_is (flag.Heap ∷ fs) a = little_is fs (with_flag a flag.Heap)
little_is (flag.Table ∷ fs) a = little_is fs (with_flag a flag.Table)
little_is (flag.Vmctx ∷ fs) a = little_is fs (with_flag a flag.Vmctx)
little_is (flag.Big ∷ fs) a = little_is fs (with_flag a flag.Big)

pub flags_writable : (fs : List RawFlag) → one_order fs ≡ true → flags_form (flags_of fs) ≡ true
flags_writable fs h = ap₂ (λ (x y : Bool). not (x && y)) (big_is fs no_flags) (little_is fs no_flags) ∙ h

-- ---- targets

module _ (at : Renaming) where
  value_args : (as' : List RawArg) → Each (λ a. IsTrue (is_value a)) as' → Each ValueArg (map (arg_of at) as')
  value_args [] h = tt
  value_args (arg.Value n ∷ as') h = (tt, value_args as' h.1)
  value_args (arg.Ret n ∷ as') h = absurd (let bad = h.0 in cc)
  value_args (arg.Exn n ∷ as') h = absurd (let bad = h.0 in cc)

  normal_args : (as' : List RawArg) → Each (λ a. IsTrue (is_normal a)) as' → AllKept (flat_map arg_limits as') → Each NormalArg (map (arg_of at) as')
  normal_args [] h k = tt
  normal_args (arg.Value n ∷ as') h k = (tt, normal_args as' h.1 k)
  normal_args (arg.Ret n ∷ as') h k = (at_most greatest_number (pos n.number) k.0, normal_args as' h.1 k.1)
  normal_args (arg.Exn n ∷ as') h k = absurd (let bad = h.0 in cc)

  table_args : (as' : List RawArg) → Each (λ a. IsTrue (is_handler a)) as' → AllKept (flat_map arg_limits as') → Each TableArg (map (arg_of at) as')
  table_args [] h k = tt
  table_args (arg.Value n ∷ as') h k = (tt, table_args as' h.1 k)
  table_args (arg.Ret n ∷ as') h k = absurd (let bad = h.0 in cc)
  table_args (arg.Exn n ∷ as') h k = (at_most greatest_number (pos n.number) k.0, table_args as' h.1 k.1)

  pub branch_target : (t : RawTarget) → TargetHas is_value t → TargetWritable ValueArg (target_of at t)
  branch_target t h = value_args t.args h

  pub branch_targets : (ts : List RawTarget) → Each (TargetHas is_value) ts → Each (TargetWritable ValueArg) (map (target_of at) ts)
  branch_targets [] h = tt
  branch_targets (t ∷ ts) h = (branch_target t h.0, branch_targets ts h.1)

  pub normal_target : (t : RawTarget) → TargetHas is_normal t → AllKept (target_limits t) → TargetWritable NormalArg (target_of at t)
  normal_target t h k = normal_args t.args h k

  entry_tag_writable : (n : Option RawName) → AllKept (elim n as (λ n. List Limited) [ None ↦ [] | Some x ↦ of_word Entity x ∷ [] ]) → EntryTagWritable (entry_tag n)
  entry_tag_writable None h = tt
  entry_tag_writable (Some n) h = at_most greatest_number (pos n.number) h.0

  pub table_writable : (es : List RawEntry) → TableHas es → AllKept (flat_map entry_limits es) → AllKept (flat_map target_limits (map (λ (e : RawEntry). e.target) es)) → Each TableWritable (map (entry_of at) es)
  table_writable [] h k m = tt
  table_writable (e ∷ es) h k m = (
    (
      entry_tag_writable e.tag (each_left Kept (entry_limits e) (flat_map entry_limits es) k),
      table_args e.target.args h.0 (each_left Kept (target_limits e.target) (flat_map target_limits (map (λ (e : RawEntry). e.target) es)) m),
    ),
    table_writable es h.1 (each_right Kept (entry_limits e) (flat_map entry_limits es) k)
        (each_right Kept (target_limits e.target) (flat_map target_limits (map (λ (e : RawEntry). e.target) es)) m),
  )

  -- ---- tags

  pub tags_writable : (ts : List RawTag) → AllKept (flat_map tag_limits ts) → Each TagWritable (map (tag_of at) ts)
  tags_writable [] h = tt
  tags_writable (tag.User n ∷ ts) h = (at_most greatest_number n.value h.0, tags_writable ts h.1)
  tags_writable (tag.Slot n ∷ ts) h = (tt, tags_writable ts h)

-- ---- names

bytes_writable : (bytes : List ℕ) → list_all is_word_byte bytes ≡ true → Each (λ b. IsTrue (is_name_byte b)) bytes
bytes_writable [] h = tt
bytes_writable (b ∷ bs) h = let both = and_parts (is_word_byte b) (list_all is_word_byte bs) h in (both.0, bytes_writable bs both.1)

pub name_writable : (len : ℕ) (x : RawFuncName) → Each (MarkFormed len) (func_name_marks x) → AllKept (name_limits x) → NameWritable (name_of x)
name_writable len (func_name.Text bytes spot) h k = (h.0.1, bytes_writable bytes h.0.2)
name_writable len (func_name.User space number) h k = (at_most greatest_number (pos space.number) k.0, at_most greatest_number number.value k.1.0)

-- ---- declarations

power_kept : (n : Option RawNumber) → AllKept (maybe_number Alignment n) → is_power (pos (alignment n)) ≡ true
power_kept None h = refl
power_kept (Some n) h = go n.value h.0
  where
    go : (z : ℤ) → is_power z ≡ true → is_power (pos (natural z)) ≡ true
    go (pos k) e = e
    go (negsuc k) e = absurd cc

abbrev DeclMarks : ℕ → List RawDecl → Type 0
DeclMarks len ds = Each (MarkFormed len) (flat_map decl_marks ds)

pub slots_writable : (ds : List RawDecl) → AllKept (flat_map decl_limits ds) → Each SlotWritable (flat_map decl_slots ds)
slots_writable [] h = tt
slots_writable (decl.Slot n size align ∷ ds) h =
    let own = each_left Kept (decl_limits (decl.Slot n size align)) (flat_map decl_limits ds) h in
    let rest = each_right Kept (decl_limits (decl.Slot n size align)) (flat_map decl_limits ds) h in
    ((at_most 65536 size.value own.0, power_kept align own.1), slots_writable ds rest)
slots_writable (decl.Sig n signature ∷ ds) h = slots_writable ds h
slots_writable (decl.Callee colocated n sig name ∷ ds) h = slots_writable ds (each_right Kept (name_limits name) (flat_map decl_limits ds) h)

pub callees_writable : (len : ℕ) (sig : ℕ → ℕ) (k : ℕ) (ds : List RawDecl) → DeclMarks len ds → AllKept (flat_map decl_limits ds) → Each (λ (c : Callee). NameWritable c.name) (callees_from sig k ds)
callees_writable len sig k [] m h = tt
callees_writable len sig k (decl.Slot n size align ∷ ds) m h =
    callees_writable len sig k ds (each_right (MarkFormed len) (decl_marks (decl.Slot n size align)) (flat_map decl_marks ds) m)
    (each_right Kept (decl_limits (decl.Slot n size align)) (flat_map decl_limits ds) h)
callees_writable len sig k (decl.Sig n signature ∷ ds) m h = callees_writable len sig (suc k) ds m.1 h
callees_writable len sig k (decl.Callee colocated n (callee_sig.Declared s) name ∷ ds) m h =
    let own = each_left (MarkFormed len) (decl_marks (decl.Callee colocated n (callee_sig.Declared s) name)) (flat_map decl_marks ds) m in (
      name_writable len name (each_left (MarkFormed len) (func_name_marks name) (callee_sig_marks (callee_sig.Declared s)) own.1)
          (each_left Kept (name_limits name) (flat_map decl_limits ds) h),
      callees_writable len sig k ds (each_right (MarkFormed len) (decl_marks (decl.Callee colocated n (callee_sig.Declared s) name)) (flat_map decl_marks ds) m)
          (each_right Kept (name_limits name) (flat_map decl_limits ds) h),
    )
callees_writable len sig k (decl.Callee colocated n (callee_sig.Inline signature) name ∷ ds) m h =
    let own = each_left (MarkFormed len) (decl_marks (decl.Callee colocated n (callee_sig.Inline signature) name)) (flat_map decl_marks ds) m in (
      name_writable len name (each_left (MarkFormed len) (func_name_marks name) [] own.1)
          (each_left Kept (name_limits name) (flat_map decl_limits ds) h),
      callees_writable len sig (suc k) ds (each_right (MarkFormed len) (decl_marks (decl.Callee colocated n (callee_sig.Inline signature) name)) (flat_map decl_marks ds) m)
          (each_right Kept (name_limits name) (flat_map decl_limits ds) h),
    )

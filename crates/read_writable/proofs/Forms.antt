-- An instruction that is read is of a form that can be written.
use Rattle.std.proofs.Common.{◌≡◌, ℕ, ◌<◌, true, false, List, map, length, Option, None, Some, refl, sym, ◌∙◌, inl, inr}
use Rattle.std.specs.Prelude.{flat_map, is_some, IsSome, IsSomeAnd}
use Rattle.clk_num.specs.declared.op.Op.{Op}
use Rattle.clk_num.specs.declared.op.TrapCode.{TrapCode}
use Rattle.clk_num.specs.declared.op.Op.TheVariants as op
use Rattle.clk_num.specs.declared.width.Width.{Width}
use Rattle.ir_core.specs.declared.declarations.Callee.{Callee}
use Rattle.ir_core.specs.declared.signatures.Sig.{Sig}
use Rattle.ir_core.specs.declared.signatures.Ty.{Ty}
use Rattle.ir_core.specs.declared.signatures.Ty.TheVariants as ty
use Rattle.ir_core.specs.Lists.{Each}
use Rattle.ir_core.specs.Lookup.{signature_of, param_types, width_of, ty_of}
use Rattle.ir_core.specs.Module.{CallTarget, Direct, Indirect, Plain, Line, Function}
use Rattle.ir_core.specs.Uses.{called_callees, called_sigs, callees_used, sigs_used}
use Rattle.ir_core.proofs.Members.{each_left, each_right}
use Rattle.ir_core.proofs.Gets.{each_at, get_some}
use Rattle.ir_semantics.specs.Renaming.{Renaming}
use Rattle.ir_text.specs.Writable.{conversion, ResultTypes, OpForm, AccessForm, StoreForm, CodeWritable, InstructionForm}
use Rattle.clif_words.specs.declared.class.Class.TheVariants as classes
use Rattle.clif_words.specs.declared.opcodes.Opcode.{Opcode}
use Rattle.clif_words.specs.declared.opcodes.Opcode.TheVariants as opcode
use Rattle.token_reader.specs.declared.raw.RawName.{RawName}
use Rattle.clif_insts.specs.declared.raw.RawFlag.{RawFlag}
use Rattle.token_reader.specs.declared.raw.RawNumber.{RawNumber}
use Rattle.clif_insts.specs.declared.raw.RawEntry.{RawEntry}
use Rattle.clif_insts.specs.declared.raw.RawOperands.{RawOperands}
use Rattle.clif_insts.specs.declared.raw.RawOperands.TheVariants as form
use Rattle.clif_insts.specs.Marks.{MarkFormed, operand_marks}
use Rattle.clif_insts.specs.OfForm.{IsOfForm, ArgumentsFit}
use Rattle.clif_names.specs.Limits.{target_limits, operand_limits}
use Rattle.clif_names.specs.Typing.{gives_type}
use Rattle.name_tables.specs.Uses.{operand_targets}
use Rattle.clif_meaning.specs.Instructions.{may_leave_out, kept_type, nullary, trap_if, call, code_of, instruction_of}
use Rattle.clif_meaning.specs.Meaning.{operation_types, form_types}
use Rattle.clif_meaning.specs.Operations.{operation, access_of, stored_bytes}
use Rattle.clif_meaning.proofs.LimitLaws.{Kept, AllKept}
use Rattle.read_writable.proofs.Numbers.{constant_writable, immediate_writable}
use Rattle.read_writable.proofs.Operations.{unary_count, binary_count, ternary_count, immediate_is, IsNot, is_of, other_form, no_conversion, its_conversion, leaves_out, keeps_suffix, unary_form}
use Rattle.read_writable.proofs.Parts.{maybe_offset, code_writable, flags_writable, branch_target, branch_targets, normal_target, table_writable}

width_back : (t : Ty) → ty_of (width_of t) ≡ t
width_back ty.I8 = refl
width_back ty.I16 = refl
width_back ty.I32 = refl
width_back ty.I64 = refl
width_back ty.I128 = refl

-- the signature of a call whose callee or signature there is
signature_there : (f : Function) → Each (λ (c : Callee). c.sig < length f.sigs) f.callees
    → (to : CallTarget) → Each (λ k. k < length f.callees) (called_callees to) → Each (λ s. s < length f.sigs) (called_sigs to) → (s : Sig) × (signature_of f to ≡ Some s)
signature_there f own (Direct k) c s =
    let (callee, at) = get_some f.callees k c.0 in
    let below = each_at (λ (c : Callee). c.sig < length f.sigs) f.callees k callee own at in
    let (sig, there) = get_some f.sigs callee.sig below in
    (sig, rw at there)
signature_there f own (Indirect n address) c s = get_some f.sigs n s.0

stores : (o : Opcode) → StoreForm (stored_bytes o)
stores opcode.Istore8 = refl
stores opcode.Istore16 = refl
stores opcode.Istore32 = refl
stores _ = tt

-- ---- what is known of an instruction that is read

module _ (len : ℕ) (f : Function) (own : Each (λ (c : Callee). c.sig < length f.sigs) f.callees) (at : Renaming) (l : Line) (s : Option Ty) (o : Opcode) (t : Ty) where
  pub record Given (op : RawOperands) : Type 0 where
    pub of_form : IsOfForm o op
    pub arguments : ArgumentsFit op
    pub limits : AllKept (operand_limits s op)
    pub targets : AllKept (flat_map target_limits (operand_targets op))
    pub marks : Each (MarkFormed len) (operand_marks op)
    pub ty : l.ty ≡ kept_type (may_leave_out o op) t
    pub results : ResultTypes f l.results (form_types f (instruction_of at o t op) t)
    pub callees : Each (λ k. k < length f.callees) (callees_used (instruction_of at o t op))
    pub sigs : Each (λ s. s < length f.sigs) (sigs_used (instruction_of at o t op))

  -- ---- the type that is kept

  abbrev IsPlain : Type 0
  IsPlain = IsNot classes.Convert o × IsNot classes.LoadWide o

  plain_opcode : (op : RawOperands) → is_of classes.Convert op ≡ false → is_of classes.LoadWide op ≡ false → IsOfForm o op → IsPlain
  plain_opcode op c w h = (other_form classes.Convert op c o h, other_form classes.LoadWide op w o h)

  kept : (op : RawOperands) → IsPlain → l.ty ≡ kept_type (may_leave_out o op) t → l.ty ≡ kept_type (is_some (gives_type op)) t
  kept op plain e = e ∙ (let same = leaves_out o op plain.0 plain.1 in rw same refl)

  typed : l.ty ≡ Some t → IsSome l.ty
  typed e = rw e refl

  -- ---- operations

  plain_operation : (q : Op) → conversion q ≡ None → l.ty ≡ Some t → ResultTypes f l.results (operation_types q t (conversion q)) → OpForm f l q (conversion q)
  plain_operation q c e r = go (conversion q) c r
    where
      go : (w : Option Width) → w ≡ None → ResultTypes f l.results (operation_types q t w) → OpForm f l q w
      go None c r = rw e r
      go (Some w) c r = absurd cc

  converting : (q : Op) (u : Width) → conversion q ≡ Some u → l.ty ≡ None → ResultTypes f l.results (operation_types q t (conversion q)) → OpForm f l q (conversion q)
  converting q u c e r = go (conversion q) c r
    where
      go : (w : Option Width) → w ≡ Some u → ResultTypes f l.results (operation_types q t w) → OpForm f l q w
      go None c r = absurd cc
      go (Some w) c r = (e, r)

  abbrev ItsForm : Type 0
  ItsForm = OpForm f l (operation o t) (conversion (operation o t))

  abbrev ItsTypes : Type 0
  ItsTypes = ResultTypes f l.results (operation_types (operation o t) t (conversion (operation o t)))

  -- an operation whose suffix may be left out
  left_out : (op : RawOperands) → IsPlain → is_some (gives_type op) ≡ true → l.ty ≡ kept_type (may_leave_out o op) t → ItsTypes → ItsForm
  left_out op plain gives e r = plain_operation (operation o t) (no_conversion o t plain.0) (kept op plain e ∙ rw gives refl) r

  unary_operation : (x : RawName) → IsOfForm o (form.Unary x) → l.ty ≡ kept_type (may_leave_out o (form.Unary x)) t → ItsTypes → ItsForm
  unary_operation x h e r = elim (unary_form o x h) [
    | inl c ↦ left_out (form.Unary x) ((λ k. absurd (let bad = sym c ∙ k in cc)), (λ k. absurd (let bad = sym c ∙ k in cc))) refl e r
    | inr c ↦ converting (operation o t) (width_of t) (its_conversion o t c) (e ∙ (let none = keeps_suffix o (form.Unary x) c in rw none refl)) r
  ]

  -- ---- loads

  load_access : (q : Opcode) (fs : List RawFlag) (p : RawName) (offset : Option RawNumber)
      → l.ty ≡ kept_type (may_leave_out q (form.Load fs p offset)) t → AccessForm l (access_of q t)
  load_access opcode.Uload8 fs p offset e = (refl, e)
  load_access opcode.Sload8 fs p offset e = (refl, e)
  load_access opcode.Uload16 fs p offset e = (refl, e)
  load_access opcode.Sload16 fs p offset e = (refl, e)
  load_access opcode.Uload32 fs p offset e = (refl, (typed e, refl))
  load_access opcode.Sload32 fs p offset e = (refl, (typed e, refl))
  load_access _ fs p offset e = e

  -- ---- calls, traps and what has no operands

  call_form : (q : Opcode) (to : CallTarget) (vs : List ℕ) → l.ty ≡ None → ResultTypes f l.results (form_types f (call q to vs) t)
      → Each (λ k. k < length f.callees) (callees_used (call q to vs)) → Each (λ s. s < length f.sigs) (sigs_used (call q to vs)) → InstructionForm f l (call q to vs)
  call_form opcode.ReturnCall to vs e r c s = (e, r)
  call_form opcode.ReturnCallIndirect to vs e r c s = (e, r)
  call_form _ to vs e r c s = (e, there (signature_there f own to c s))
    where
      there : (s : Sig) × (signature_of f to ≡ Some s) → IsSomeAnd (signature_of f to) (λ s. ResultTypes f l.results (param_types s.results))
      there (sig, is) = let typed = rw is at r in rw is typed

  nullary_form : (q : Opcode) → l.ty ≡ None → ResultTypes f l.results (form_types f (nullary q) t) → InstructionForm f l (nullary q)
  nullary_form opcode.SequencePoint e r = (e, r)
  nullary_form _ e r = (e, r)

  trap_form : (q : Opcode) (v : ℕ) (code : TrapCode) → CodeWritable code → IsSome l.ty → ResultTypes f l.results (form_types f (Plain (trap_if q v code)) t) → InstructionForm f l (Plain (trap_if q v code))
  trap_form opcode.Trapnz v code c e r = (c, e, r)
  trap_form _ v code c e r = (c, e, r)

  -- ---- each form

  no_type : (op : RawOperands) → is_of classes.Convert op ≡ false → is_of classes.LoadWide op ≡ false → is_some (gives_type op) ≡ false → Given op → l.ty ≡ None
  no_type op c w none g = kept op (plain_opcode op c w g.of_form) g.ty ∙ rw none refl

  its_type : (op : RawOperands) → is_of classes.Convert op ≡ false → is_of classes.LoadWide op ≡ false → is_some (gives_type op) ≡ true → Given op → l.ty ≡ Some t
  its_type op c w some g = kept op (plain_opcode op c w g.of_form) g.ty ∙ rw some refl

  pub form_writable : (op : RawOperands) → Given op → InstructionForm f l (instruction_of at o t op)
  form_writable form.Nullary g = nullary_form o (no_type form.Nullary refl refl refl g) g.results
  form_writable (form.Number n) g = (no_type (form.Number n) refl refl refl g, constant_writable t n.value g.marks.0.1, g.results)
  form_writable (form.Unary x) g = (sym (unary_count o t x g.of_form), unary_operation x g.of_form g.ty g.results)
  form_writable (form.Binary x y) g = (
    sym (binary_count o t x y g.of_form),
    left_out (form.Binary x y) (plain_opcode (form.Binary x y) refl refl g.of_form) refl g.ty g.results,
  )
  form_writable (form.Ternary c x y) g = (
    sym (ternary_count o t c x y g.of_form),
    left_out (form.Ternary c x y) (plain_opcode (form.Ternary c x y) refl refl g.of_form) refl g.ty g.results,
  )
  form_writable (form.Compare c x y) g = (refl, plain_operation (op.Icmp c) refl (its_type (form.Compare c x y) refl refl refl g) g.results)
  form_writable (form.BinaryImm x n) g =
      let e = its_type (form.BinaryImm x n) refl refl refl g in (
        immediate_is o t x n g.of_form,
        immediate_writable (operation o t) t n.value,
        e ∙ (let back = width_back t in rw back refl),
        rw e g.results,
      )
  form_writable (form.CompareImm c x n) g =
      let e = its_type (form.CompareImm c x n) refl refl refl g in
      (refl, immediate_writable (op.Icmp c) t n.value, e ∙ (let back = width_back t in rw back refl), rw e g.results)
  form_writable (form.Load flags p offset) g = (flags_writable flags g.arguments, maybe_offset offset g.limits, load_access o flags p offset g.ty, g.results)
  form_writable (form.Store flags x p offset) g = (
    flags_writable flags g.arguments,
    maybe_offset offset g.limits,
    stores o,
    typed (its_type (form.Store flags x p offset) refl refl refl g),
    g.results,
  )
  form_writable (form.StackLoad slot offset) g = (maybe_offset offset g.limits, no_type (form.StackLoad slot offset) refl refl refl g, g.results)
  form_writable (form.StackStore x slot offset) g = (maybe_offset offset g.limits, typed (its_type (form.StackStore x slot offset) refl refl refl g), g.results)
  form_writable (form.FuncAddr callee) g = (no_type (form.FuncAddr callee) refl refl refl g, g.results)
  form_writable (form.Jump target) g = (no_type (form.Jump target) refl refl refl g, (branch_target at target g.arguments, tt), g.results)
  form_writable (form.Brif x taken other) g = (
    typed (its_type (form.Brif x taken other) refl refl refl g),
    (branch_target at taken g.arguments.0, (branch_target at other g.arguments.1, tt)),
    g.results,
  )
  form_writable (form.BrTable x default entries) g = (
    no_type (form.BrTable x default entries) refl refl refl g,
    (branch_target at default g.arguments.0, branch_targets at entries g.arguments.1),
    g.results,
  )
  form_writable (form.Return xs) g = (no_type (form.Return xs) refl refl refl g, g.results)
  form_writable (form.Trap code) g = (code_writable code g.limits, no_type (form.Trap code) refl refl refl g, g.results)
  form_writable (form.TrapIf x code) g =
      trap_form o (at.value x.number) (code_of code) (code_writable code g.limits) (typed (its_type (form.TrapIf x code) refl refl refl g)) g.results
  form_writable (form.Call callee args) g =
      call_form o _ _ (no_type (form.Call callee args) refl refl refl g) g.results g.callees g.sigs
  form_writable (form.CallIndirect sig x args) g =
      call_form o _ _ (no_type (form.CallIndirect sig x args) refl refl refl g) g.results g.callees g.sigs
  form_writable (form.TryCall callee args sig normal table) g =
      let rest = flat_map target_limits (map (λ (e : RawEntry). e.target) table) in (
        no_type (form.TryCall callee args sig normal table) refl refl refl g,
        normal_target at normal g.arguments.0 (each_left Kept (target_limits normal) rest g.targets),
        table_writable at table g.arguments.1 g.limits (each_right Kept (target_limits normal) rest g.targets),
        g.results,
      )
  form_writable (form.TryCallIndirect x args sig normal table) g =
      let rest = flat_map target_limits (map (λ (e : RawEntry). e.target) table) in (
        no_type (form.TryCallIndirect x args sig normal table) refl refl refl g,
        normal_target at normal g.arguments.0 (each_left Kept (target_limits normal) rest g.targets),
        table_writable at table g.arguments.1 g.limits (each_right Kept (target_limits normal) rest g.targets),
        g.results,
      )

-- What a raw function means does not depend on its spots.
use Rattle.std.proofs.Common.{◌≡◌, ℕ, suc, ◌+◌, nat_eq, Bool, cond, List, [], ◌∷◌, ◌++◌, map, Option, Some, None, refl, sym, ap, ap₂, ◌∙◌}
use Rattle.std.specs.Prelude.{flat_map, ℤ, is_some}
use Rattle.std.specs.List.{enumerate_from}
use mathlib.Core.Path.{fun_ext}
use Rattle.exn_tables.specs.declared.table.Entry.{Entry}
use Rattle.debug_tags.specs.declared.tags.Tag.{Tag}
use Rattle.clk_num.specs.declared.op.TrapCode.{TrapCode}
use Rattle.std.proofs.lemmas.Grind.{flat_map-append}
use Rattle.ir_core.specs.declared.declarations.Callee.{Callee}
use Rattle.ir_core.specs.declared.declarations.SlotDecl.{SlotDecl}
use Rattle.ir_core.specs.declared.instructions.Arg.{Arg}
use Rattle.ir_core.specs.declared.instructions.BlockCall.{BlockCall}
use Rattle.ir_core.specs.declared.names.FuncName.{FuncName}
use Rattle.ir_core.specs.declared.signatures.Sig.{Sig}
use Rattle.ir_core.specs.declared.signatures.Ty.{Ty}
use Rattle.ir_core.specs.Lookup.{type_in}
use Rattle.ir_core.specs.Module.{Instruction, Line, Block, Function}
use Rattle.ir_core.specs.Module as insts
use Rattle.ir_semantics.specs.Renaming.{Renaming}
use Rattle.clif_words.specs.declared.opcodes.Opcode.{Opcode}
use Rattle.clif_words.specs.declared.opcodes.Opcode.TheVariants as opcode
use Rattle.clif_insts.specs.declared.raw.RawArg.{RawArg}
use Rattle.clif_insts.specs.declared.raw.RawArg.TheVariants as raw_args
use Rattle.clif_insts.specs.declared.raw.RawEntry.{RawEntry}
use Rattle.clif_insts.specs.declared.raw.RawInst.{RawInst}
use Rattle.token_reader.specs.declared.raw.RawName.{RawName}
use Rattle.token_reader.specs.declared.raw.RawNumber.{RawNumber}
use Rattle.clif_insts.specs.declared.raw.RawOperands.{RawOperands}
use Rattle.clif_insts.specs.declared.raw.RawOperands.TheVariants as form
use Rattle.clif_insts.specs.declared.raw.RawTarget.{RawTarget}
use Rattle.clif_insts.specs.declared.raw.RawTrap.{RawTrap}
use Rattle.clif_insts.specs.declared.raw.RawTrap.TheVariants as traps
use Rattle.clif_read.specs.declared.raw.RawBlock.{RawBlock}
use Rattle.clif_read.specs.declared.raw.RawBlockParam.{RawBlockParam}
use Rattle.clif_read.specs.declared.raw.RawCalleeSig.TheVariants as callee_sigs
use Rattle.clif_read.specs.declared.raw.RawDecl.{RawDecl}
use Rattle.clif_read.specs.declared.raw.RawDecl.TheVariants as decls
use Rattle.clif_read.specs.declared.raw.RawFuncName.{RawFuncName}
use Rattle.clif_read.specs.declared.raw.RawFuncName.TheVariants as func_names
use Rattle.clif_read.specs.declared.raw.RawFunction.{RawFunction}
use Rattle.clif_read.specs.declared.raw.RawLine.{RawLine}
use Rattle.clif_read.specs.declared.raw.RawLine.TheVariants as lines
use Rattle.clif_read.specs.declared.raw.RawTag.{RawTag}
use Rattle.clif_read.specs.declared.raw.RawTag.TheVariants as tags
use Rattle.name_tables.specs.Definitions.{Step, Param, Line as Written, block_steps, slot_names, sig_names, callee_names}
use Rattle.clif_names.specs.Typing.{gives_type}
use Rattle.name_tables.specs.Words.{place_among}
use Rattle.clif_meaning.specs.Operations.{access_of, stored_bytes}
use Rattle.clif_meaning.specs.Instructions as says
use Rattle.clif_meaning.specs.Meaning as means
use Rattle.text_read_back.specs.Bare as bare
use Rattle.text_read_back.specs.Defining.{number_of}

-- ---- names and declarations

pub name_same : (n : RawFuncName) → means.name_of (bare.bare_func_name n) ≡ means.name_of n
name_same (func_names.Text bytes spot) = refl
name_same (func_names.User space number) = refl

alignment_same : (n : Option RawNumber) → means.alignment (bare.bare_option bare.bare_number n) ≡ means.alignment n
alignment_same None = refl
alignment_same (Some n) = refl

abbrev slot_with : ℕ → ℕ → SlotDecl
slot_with s a = record { size = s; align = a }

slots_same : (ds : List RawDecl) → flat_map means.decl_slots (map bare.bare_decl ds) ≡ flat_map means.decl_slots ds
slots_same [] = refl
slots_same (decls.Slot n size align ∷ ds) = ap₂ (λ (a : ℕ) (xs : List SlotDecl). slot_with (says.natural size.value) a ∷ xs) (alignment_same align) (slots_same ds)
slots_same (decls.Sig n s ∷ ds) = slots_same ds
slots_same (decls.Callee colocated n sig name ∷ ds) = slots_same ds

sigs_same : (ds : List RawDecl) → map (λ s. s.1) (flat_map means.decl_sigs (map bare.bare_decl ds)) ≡ map (λ s. s.1) (flat_map means.decl_sigs ds)
sigs_same [] = refl
sigs_same (decls.Slot n size align ∷ ds) = sigs_same ds
sigs_same (decls.Sig n s ∷ ds) = ap (λ (xs : List Sig). means.sig_of s ∷ xs) (sigs_same ds)
sigs_same (decls.Callee colocated n (callee_sigs.Declared x) name ∷ ds) = sigs_same ds
sigs_same (decls.Callee colocated n (callee_sigs.Inline s) name ∷ ds) = ap (λ (xs : List Sig). means.sig_of s ∷ xs) (sigs_same ds)

sig_place_same : (ds : List RawDecl) (k : ℕ) → means.sig_place (flat_map means.decl_sigs (map bare.bare_decl ds)) k ≡ means.sig_place (flat_map means.decl_sigs ds) k
sig_place_same [] k = refl
sig_place_same (decls.Slot n size align ∷ ds) k = sig_place_same ds k
sig_place_same (decls.Sig n s ∷ ds) k = ap (λ (j : ℕ). cond (nat_eq k n.number) 0 (suc j)) (sig_place_same ds k)
sig_place_same (decls.Callee colocated n (callee_sigs.Declared x) name ∷ ds) k = sig_place_same ds k
sig_place_same (decls.Callee colocated n (callee_sigs.Inline s) name ∷ ds) k = ap suc (sig_place_same ds k)

abbrev callee_with : FuncName → Bool → ℕ → Callee
callee_with n c s = record { name = n; colocated = c; sig = s }

callees_same : (sig : ℕ → ℕ) (count : ℕ) (ds : List RawDecl) → means.callees_from sig count (map bare.bare_decl ds) ≡ means.callees_from sig count ds
callees_same sig count [] = refl
callees_same sig count (decls.Slot n size align ∷ ds) = callees_same sig count ds
callees_same sig count (decls.Sig n s ∷ ds) = callees_same sig (suc count) ds
callees_same sig count (decls.Callee colocated n (callee_sigs.Declared x) name ∷ ds) =
    ap₂ (λ (m : FuncName) (cs : List Callee). callee_with m colocated (sig x.number) ∷ cs) (name_same name) (callees_same sig count ds)
callees_same sig count (decls.Callee colocated n (callee_sigs.Inline s) name ∷ ds) =
    ap₂ (λ (m : FuncName) (cs : List Callee). callee_with m colocated count ∷ cs) (name_same name) (callees_same sig (suc count) ds)

pub slot_words : (ds : List RawDecl) → map number_of (flat_map slot_names (map bare.bare_decl ds)) ≡ map number_of (flat_map slot_names ds)
slot_words [] = refl
slot_words (decls.Slot n size align ∷ ds) = ap (λ (ns : List ℕ). n.number ∷ ns) (slot_words ds)
slot_words (decls.Sig n s ∷ ds) = slot_words ds
slot_words (decls.Callee colocated n sig name ∷ ds) = slot_words ds

pub sig_words : (ds : List RawDecl) → map number_of (flat_map sig_names (map bare.bare_decl ds)) ≡ map number_of (flat_map sig_names ds)
sig_words [] = refl
sig_words (decls.Slot n size align ∷ ds) = sig_words ds
sig_words (decls.Sig n s ∷ ds) = ap (λ (ns : List ℕ). n.number ∷ ns) (sig_words ds)
sig_words (decls.Callee colocated n sig name ∷ ds) = sig_words ds

pub callee_words : (ds : List RawDecl) → map number_of (flat_map callee_names (map bare.bare_decl ds)) ≡ map number_of (flat_map callee_names ds)
callee_words [] = refl
callee_words (decls.Slot n size align ∷ ds) = callee_words ds
callee_words (decls.Sig n s ∷ ds) = callee_words ds
callee_words (decls.Callee colocated n sig name ∷ ds) = ap (λ (ns : List ℕ). n.number ∷ ns) (callee_words ds)

pub block_words : (bs : List RawBlock) → map number_of (map (λ b. b.block) (map bare.bare_block bs)) ≡ map number_of (map (λ b. b.block) bs)
block_words [] = refl
block_words (b ∷ bs) = ap (λ (ns : List ℕ). b.block.number ∷ ns) (block_words bs)

-- ---- what each word means

abbrev numbers_with : (ℕ → ℕ) → (ℕ → ℕ) → (ℕ → ℕ) → (ℕ → ℕ) → (ℕ → ℕ) → Renaming
numbers_with v b k s c = record { value = v; block = b; slot = k; sig = s; callee = c }

pub numbers_same : (r : RawFunction) (value : ℕ → ℕ) → means.numbers (bare.bare_function r) value ≡ means.numbers r value
numbers_same r value =
    ap₂ (λ (b k : ℕ → ℕ). numbers_with value b k (means.sig_place (flat_map means.decl_sigs (map bare.bare_decl r.decls))) (place_among (map number_of (flat_map callee_names (map bare.bare_decl r.decls)))))
    (ap place_among (block_words r.blocks)) (ap place_among (slot_words r.decls))
    ∙ ap₂ (λ (s c : ℕ → ℕ). numbers_with value (place_among (map number_of (map (λ b. b.block) r.blocks))) (place_among (map number_of (flat_map slot_names r.decls))) s c)
    (fun_ext (sig_place_same r.decls)) (ap place_among (callee_words r.decls))

-- ---- instructions

offset_same : (z : Option RawNumber) → says.offset_of (bare.bare_option bare.bare_number z) ≡ says.offset_of z
offset_same None = refl
offset_same (Some z) = refl

code_same : (c : RawTrap) → says.code_of (bare.bare_trap c) ≡ says.code_of c
code_same traps.StkOvf = refl
code_same traps.IntOvf = refl
code_same traps.HeapOob = refl
code_same traps.IntDivz = refl
code_same traps.BadToint = refl
code_same (traps.User x) = refl

entry_tag_same : (t : Option RawName) → says.entry_tag (bare.bare_option bare.bare_name t) ≡ says.entry_tag t
entry_tag_same None = refl
entry_tag_same (Some x) = refl

abbrev to_block : ℕ → List Arg → BlockCall
to_block b xs = record { block = b; args = xs }

abbrev entry_with : Option ℕ → BlockCall → Entry BlockCall
entry_with k t = record { tag = k; target = t }

gives_same : (type : ℕ → Option Ty) (at : Renaming) (ops : RawOperands) → says.operand_type type at (gives_type (bare.bare_operands ops)) ≡ says.operand_type type at (gives_type ops)
gives_same type at form.Nullary = refl
gives_same type at (form.Number n) = refl
gives_same type at (form.Unary x) = refl
gives_same type at (form.Binary x y) = refl
gives_same type at (form.Ternary c x y) = refl
gives_same type at (form.Compare c x y) = refl
gives_same type at (form.BinaryImm x n) = refl
gives_same type at (form.CompareImm c x n) = refl
gives_same type at (form.Load flags p z) = refl
gives_same type at (form.Store flags x p z) = refl
gives_same type at (form.StackLoad slot z) = refl
gives_same type at (form.StackStore x slot z) = refl
gives_same type at (form.FuncAddr callee) = refl
gives_same type at (form.Jump t) = refl
gives_same type at (form.Brif x t u) = refl
gives_same type at (form.BrTable x t ts) = refl
gives_same type at (form.Return vs) = refl
gives_same type at (form.Trap c) = refl
gives_same type at (form.TrapIf x c) = refl
gives_same type at (form.Call callee vs) = refl
gives_same type at (form.TryCall callee vs sig t es) = refl
gives_same type at (form.CallIndirect sig p vs) = refl
gives_same type at (form.TryCallIndirect p vs sig t es) = refl

gives_some : (ops : RawOperands) → is_some (gives_type (bare.bare_operands ops)) ≡ is_some (gives_type ops)
gives_some form.Nullary = refl
gives_some (form.Number n) = refl
gives_some (form.Unary x) = refl
gives_some (form.Binary x y) = refl
gives_some (form.Ternary c x y) = refl
gives_some (form.Compare c x y) = refl
gives_some (form.BinaryImm x n) = refl
gives_some (form.CompareImm c x n) = refl
gives_some (form.Load flags p z) = refl
gives_some (form.Store flags x p z) = refl
gives_some (form.StackLoad slot z) = refl
gives_some (form.StackStore x slot z) = refl
gives_some (form.FuncAddr callee) = refl
gives_some (form.Jump t) = refl
gives_some (form.Brif x t u) = refl
gives_some (form.BrTable x t ts) = refl
gives_some (form.Return vs) = refl
gives_some (form.Trap c) = refl
gives_some (form.TrapIf x c) = refl
gives_some (form.Call callee vs) = refl
gives_some (form.TryCall callee vs sig t es) = refl
gives_some (form.CallIndirect sig p vs) = refl
gives_some (form.TryCallIndirect p vs sig t es) = refl

-- whether a suffix may be left out: the opcode says, or whether an operand gives the type
leave_out_by : (o : Opcode) (a b : RawOperands) → is_some (gives_type a) ≡ is_some (gives_type b) → says.may_leave_out o a ≡ says.may_leave_out o b
leave_out_by opcode.Uextend a b e = refl
leave_out_by opcode.Sextend a b e = refl
leave_out_by opcode.Ireduce a b e = refl
leave_out_by opcode.Uload32 a b e = refl
leave_out_by opcode.Sload32 a b e = refl
leave_out_by o a b e = e

module _ (at : Renaming) where
  values_same : (vs : List RawName) → says.values_at at (map bare.bare_name vs) ≡ says.values_at at vs
  values_same [] = refl
  values_same (v ∷ vs) = ap (λ (ws : List ℕ). at.value v.number ∷ ws) (values_same vs)

  args_same : (xs : List RawArg) → map (says.arg_of at) (map bare.bare_arg xs) ≡ map (says.arg_of at) xs
  args_same [] = refl
  args_same (raw_args.Value x ∷ xs) = ap (λ (ys : List Arg). says.arg_of at (raw_args.Value x) ∷ ys) (args_same xs)
  args_same (raw_args.Ret x ∷ xs) = ap (λ (ys : List Arg). says.arg_of at (raw_args.Ret x) ∷ ys) (args_same xs)
  args_same (raw_args.Exn x ∷ xs) = ap (λ (ys : List Arg). says.arg_of at (raw_args.Exn x) ∷ ys) (args_same xs)

  target_same : (t : RawTarget) → says.target_of at (bare.bare_target t) ≡ says.target_of at t
  target_same t = ap (to_block (at.block t.block.number)) (args_same t.args)

  targets_same : (ts : List RawTarget) → map (says.target_of at) (map bare.bare_target ts) ≡ map (says.target_of at) ts
  targets_same [] = refl
  targets_same (t ∷ ts) = ap₂ (λ (u : BlockCall) (us : List BlockCall). u ∷ us) (target_same t) (targets_same ts)

  entries_same : (es : List RawEntry) → map (says.entry_of at) (map bare.bare_entry es) ≡ map (says.entry_of at) es
  entries_same [] = refl
  entries_same (e ∷ es) = ap₂ (λ (u : Entry BlockCall) (us : List (Entry BlockCall)). u ∷ us) (ap₂ entry_with (entry_tag_same e.tag) (target_same e.target)) (entries_same es)

  tags_same : (ts : List RawTag) → map (says.tag_of at) (map bare.bare_tag ts) ≡ map (says.tag_of at) ts
  tags_same [] = refl
  tags_same (tags.User n ∷ ts) = ap (λ (us : List Tag). says.tag_of at (tags.User n) ∷ us) (tags_same ts)
  tags_same (tags.Slot x ∷ ts) = ap (λ (us : List Tag). says.tag_of at (tags.Slot x) ∷ us) (tags_same ts)

  inst_same : (o : Opcode) (t : Ty) (ops : RawOperands) → says.instruction_of at o t (bare.bare_operands ops) ≡ says.instruction_of at o t ops
  inst_same o t form.Nullary = refl
  inst_same o t (form.Number n) = refl
  inst_same o t (form.Unary x) = refl
  inst_same o t (form.Binary x y) = refl
  inst_same o t (form.Ternary c x y) = refl
  inst_same o t (form.Compare c x y) = refl
  inst_same o t (form.BinaryImm x n) = refl
  inst_same o t (form.CompareImm c x n) = refl
  inst_same o t (form.Load flags p z) = ap (λ (k : ℤ). insts.Plain (insts.Load (access_of o t) (says.flags_of flags) (at.value p.number) k)) (offset_same z)
  inst_same o t (form.Store flags x p z) = ap (λ (k : ℤ). insts.Plain (insts.Store (stored_bytes o) (says.flags_of flags) (at.value x.number) (at.value p.number) k)) (offset_same z)
  inst_same o t (form.StackLoad slot z) = ap (λ (k : ℤ). insts.Plain (insts.StackLoad t (at.slot slot.number) k)) (offset_same z)
  inst_same o t (form.StackStore x slot z) = ap (λ (k : ℤ). insts.Plain (insts.StackStore (at.value x.number) (at.slot slot.number) k)) (offset_same z)
  inst_same o t (form.FuncAddr callee) = refl
  inst_same o t (form.Jump u) = ap (λ (b : BlockCall). insts.Branches (insts.Jump b)) (target_same u)
  inst_same o t (form.Brif x u w) = ap₂ (λ (b c : BlockCall). insts.Branches (insts.Brif (at.value x.number) b c)) (target_same u) (target_same w)
  inst_same o t (form.BrTable x u us) = ap₂ (λ (b : BlockCall) (bs : List BlockCall). insts.Branches (insts.BrTable (at.value x.number) b bs)) (target_same u) (targets_same us)
  inst_same o t (form.Return vs) = ap insts.Return (values_same vs)
  inst_same o t (form.Trap c) = ap (λ (k : TrapCode). insts.Plain (insts.Trap k)) (code_same c)
  inst_same o t (form.TrapIf x c) = ap (λ (k : TrapCode). insts.Plain (says.trap_if o (at.value x.number) k)) (code_same c)
  inst_same o t (form.Call callee vs) = ap (λ (ws : List ℕ). says.call o (insts.Direct (at.callee callee.number)) ws) (values_same vs)
  inst_same o t (form.TryCall callee vs sig u es) =
      ap (λ (ws : List ℕ). insts.TryCall (insts.TryDirect (at.callee callee.number)) (at.sig sig.number) ws (says.target_of at (bare.bare_target u)) (map (says.entry_of at) (map bare.bare_entry es))) (values_same vs)
      ∙ ap₂ (λ (b : BlockCall) (xs : List (Entry BlockCall)). insts.TryCall (insts.TryDirect (at.callee callee.number)) (at.sig sig.number) (says.values_at at vs) b xs) (target_same u) (entries_same es)
  inst_same o t (form.CallIndirect sig p vs) = ap (λ (ws : List ℕ). says.call o (insts.Indirect (at.sig sig.number) (at.value p.number)) ws) (values_same vs)
  inst_same o t (form.TryCallIndirect p vs sig u es) =
      ap (λ (ws : List ℕ). insts.TryCall (insts.TryIndirect (at.value p.number)) (at.sig sig.number) ws (says.target_of at (bare.bare_target u)) (map (says.entry_of at) (map bare.bare_entry es))) (values_same vs)
      ∙ ap₂ (λ (b : BlockCall) (xs : List (Entry BlockCall)). insts.TryCall (insts.TryIndirect (at.value p.number)) (at.sig sig.number) (says.values_at at vs) b xs) (target_same u) (entries_same es)

  -- ---- lines, with the types of values

  module _ (type : ℕ → Option Ty) where
    abbrev type_found : RawInst → Ty
    type_found i = says.known (says.type_for type at i)

    found_by : (s : Option Ty) (i : RawInst) → i.suffix ≡ s → type_found (bare.bare_inst i) ≡ type_found i
    found_by None i e = rw e (ap says.known (gives_same type at i.operands))
    found_by (Some t) i e = rw e refl

    found_same : (i : RawInst) → type_found (bare.bare_inst i) ≡ type_found i
    found_same i = found_by i.suffix i refl

    abbrev line_with : Instruction → Option Ty → List ℕ → List Tag → Line
    line_with i t vs ts = record { inst = i; ty = t; results = vs; tags = ts }

    line_same : (ts : List RawTag) (rs : List RawName) (i : RawInst)
        → says.line_of at (type_found (bare.bare_inst i)) (map bare.bare_tag ts) (map bare.bare_name rs) (bare.bare_inst i) ≡ says.line_of at (type_found i) ts rs i
    line_same ts rs i =
        ap (λ (t : Ty). says.line_of at t (map bare.bare_tag ts) (map bare.bare_name rs) (bare.bare_inst i)) (found_same i)
        ∙ ap₂ (λ (j : Instruction) (b : Bool). line_with j (says.kept_type b (type_found i)) (says.values_at at (map bare.bare_name rs)) (map (says.tag_of at) (map bare.bare_tag ts)))
        (inst_same i.opcode.kind (type_found i) i.operands) (leave_out_by i.opcode.kind (bare.bare_operands i.operands) i.operands (gives_some i.operands))
        ∙ ap₂ (λ (vs : List ℕ) (us : List Tag). line_with (says.instruction_of at i.opcode.kind (type_found i) i.operands) (says.kept_type (says.may_leave_out i.opcode.kind i.operands) (type_found i)) vs us)
        (values_same rs) (tags_same ts)

types_for_same : (rs : List RawName) (ts : List Ty) → means.types_for (map bare.bare_name rs) ts ≡ means.types_for rs ts
types_for_same [] ts = refl
types_for_same (r ∷ rs) [] = ap (λ (us : List Ty). means.types_for (r ∷ []) [] ++ us) (types_for_same rs [])
types_for_same (r ∷ rs) (t ∷ ts) = ap (λ (us : List Ty). t ∷ us) (types_for_same rs ts)

-- ---- a function, with numbers and types of values

module _ (r : RawFunction) (value : ℕ → ℕ) (types : List (ℕ × Ty)) where
  abbrev at : Renaming
  at = means.numbers r value

  abbrev made : FuncName → List SlotDecl → List Sig → List Callee → List Block → Function
  made name slots sigs callees blocks = record { name = name; sig = means.sig_of r.signature; slots = slots; sigs = sigs; callees = callees; types = types; blocks = blocks }

  -- the lines of a raw line, and the types of its results, where each word means what `at` says
  abbrev lines_by : Renaming → RawLine → List Line
  lines_by m (lines.Alias location n x) = []
  lines_by m (lines.Inst location ts rs i) = says.line_of m (says.known (says.type_for (type_in types) m i)) ts rs i ∷ []

  one_line : (l : RawLine) → lines_by at (bare.bare_line l) ≡ lines_by at l
  one_line (lines.Alias location n x) = refl
  one_line (lines.Inst location ts rs i) = ap (λ (l : Line). l ∷ []) (line_same at (type_in types) ts rs i)

  lines_same : (ls : List RawLine) → flat_map (lines_by at) (map bare.bare_line ls) ≡ flat_map (lines_by at) ls
  lines_same [] = refl
  lines_same (l ∷ ls) = ap₂ (λ (xs ys : List Line). xs ++ ys) (one_line l) (lines_same ls)

  abbrev block_by : Renaming → ℕ × RawBlock → Block
  block_by m b = record { number = b.0; params = map (λ p. value p.value.number) b.1.params; lines = flat_map (lines_by m) b.1.lines }

  params_same : (ps : List RawBlockParam) → map (λ p. value p.value.number) (map bare.bare_block_param ps) ≡ map (λ p. value p.value.number) ps
  params_same [] = refl
  params_same (p ∷ ps) = ap (λ (vs : List ℕ). value p.value.number ∷ vs) (params_same ps)

  abbrev block_with : ℕ → List ℕ → List Line → Block
  block_with k vs ls = record { number = k; params = vs; lines = ls }

  blocks_same : (k : ℕ) (bs : List RawBlock) → map (block_by at) (enumerate_from k (map bare.bare_block bs)) ≡ map (block_by at) (enumerate_from k bs)
  blocks_same k [] = refl
  blocks_same k (b ∷ bs) = ap₂ (λ (x : Block) (xs : List Block). x ∷ xs) (ap₂ (block_with k) (params_same b.params) (lines_same b.lines)) (blocks_same (k + 1) bs)

  pub function_same : means.function_with (bare.bare_function r) value types ≡ means.function_with r value types
  function_same =
      let ds = map bare.bare_decl r.decls in
      let ss = map (λ s. s.1) (flat_map means.decl_sigs ds) in
      ap (λ (m : Renaming). made (means.name_of (bare.bare_func_name r.name)) (flat_map means.decl_slots ds) ss (means.callees_from m.sig 0 ds) (map (block_by m) (enumerate_from 0 (map bare.bare_block r.blocks)))) (numbers_same r value)
      ∙ ap₂ (λ (x : FuncName) (xs : List SlotDecl). made x xs ss (means.callees_from at.sig 0 ds) (map (block_by at) (enumerate_from 0 (map bare.bare_block r.blocks)))) (name_same r.name) (slots_same r.decls)
      ∙ ap₂ (λ (x : List Sig) (cs : List Callee). made (means.name_of r.name) (flat_map means.decl_slots r.decls) x cs (map (block_by at) (enumerate_from 0 (map bare.bare_block r.blocks)))) (sigs_same r.decls) (callees_same at.sig 0 r.decls)
      ∙ ap (λ (bs : List Block). made (means.name_of r.name) (flat_map means.decl_slots r.decls) (map (λ s. s.1) (flat_map means.decl_sigs r.decls)) (means.callees_from at.sig 0 r.decls) bs) (blocks_same 0 r.blocks)

  -- ---- types of results

  abbrev types_by : Renaming → Function → RawLine → List Ty
  types_by m g (lines.Alias location n x) = []
  types_by m g (lines.Inst location ts rs i) =
      means.types_for rs (means.form_types g (says.line_of m (says.known (says.type_for (type_in types) m i)) ts rs i).inst (says.known (says.type_for (type_in types) m i)))

  abbrev step_by : Renaming → Function → Step → List Ty
  step_by m g (Param p) = p.ty ∷ []
  step_by m g (Written l) = types_by m g l

  module _ (g : Function) where
    line_types : (l : RawLine) → types_by at g (bare.bare_line l) ≡ types_by at g l
    line_types (lines.Alias location n x) = refl
    line_types (lines.Inst location ts rs i) =
        types_for_same rs (means.form_types g (says.instruction_of at i.opcode.kind (type_found at (type_in types) (bare.bare_inst i)) (bare.bare_operands i.operands)) (type_found at (type_in types) (bare.bare_inst i)))
        ∙ ap (λ (t : Ty). means.types_for rs (means.form_types g (says.instruction_of at i.opcode.kind t (bare.bare_operands i.operands)) t)) (found_same at (type_in types) i)
        ∙ ap (λ (j : Instruction). means.types_for rs (means.form_types g j (type_found at (type_in types) i))) (inst_same at i.opcode.kind (type_found at (type_in types) i) i.operands)

    written_types : (ls : List RawLine) → flat_map (step_by at g) (map Written (map bare.bare_line ls)) ≡ flat_map (step_by at g) (map Written ls)
    written_types [] = refl
    written_types (l ∷ ls) = ap₂ (λ (xs ys : List Ty). xs ++ ys) (line_types l) (written_types ls)

    param_types : (ps : List RawBlockParam) → flat_map (step_by at g) (map Param (map bare.bare_block_param ps)) ≡ flat_map (step_by at g) (map Param ps)
    param_types [] = refl
    param_types (p ∷ ps) = ap (λ (ts : List Ty). p.ty ∷ ts) (param_types ps)

    block_types : (bs : List RawBlock) → flat_map (step_by at g) (flat_map block_steps (map bare.bare_block bs)) ≡ flat_map (step_by at g) (flat_map block_steps bs)
    block_types [] = refl
    block_types (b ∷ bs) =
        let ps = map Param (map bare.bare_block_param b.params) in let ls = map Written (map bare.bare_line b.lines) in
        let qs = map Param b.params in let ms = map Written b.lines in
        flat_map-append (step_by at g) (ps ++ ls) (flat_map block_steps (map bare.bare_block bs))
        ∙ ap₂ (λ (xs ys : List Ty). xs ++ ys)
        (flat_map-append (step_by at g) ps ls ∙ ap₂ (λ (xs ys : List Ty). xs ++ ys) (param_types b.params) (written_types b.lines) ∙ sym (flat_map-append (step_by at g) qs ms))
        (block_types bs)
        ∙ sym (flat_map-append (step_by at g) (qs ++ ms) (flat_map block_steps bs))

  abbrev all_types : Renaming → Function → List RawBlock → List Ty
  all_types m g bs = flat_map (step_by m g) (flat_map block_steps bs)

  pub types_same : means.value_types (bare.bare_function r) value types ≡ means.value_types r value types
  types_same =
      ap₂ (λ (m : Renaming) (g : Function). all_types m g (map bare.bare_block r.blocks)) (numbers_same r value) function_same
      ∙ block_types (means.function_with r value types) r.blocks

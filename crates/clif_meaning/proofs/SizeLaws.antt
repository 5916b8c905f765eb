-- The size of a raw function is that of the function which it means.
use Rattle.std.proofs.Common.{◌≡◌, ℕ, suc, ◌+◌, List, [], ◌∷◌, ◌++◌, length, map, refl, ap, ◌∙◌, arith, length-append}
use Rattle.std.specs.Prelude.{flat_map}
use Rattle.std.specs.List.{enumerate_from}
use Rattle.std.proofs.lemmas.List.{length-map}
use Rattle.clk_num.specs.declared.op.TrapCode.{TrapCode}
use Rattle.ir_core.specs.declared.signatures.Ty.{Ty}
use Rattle.ir_core.specs.Module.{CallTarget, Direct, Indirect, TryTarget, TryDirect, TryIndirect, call_target, Instruction, Plain}
use Rattle.ir_core.specs.Uses.{table_targets, called_used}
use Rattle.ir_semantics.specs.Renaming.{Renaming}
use Rattle.ir_core.specs.Size as core
use Rattle.ir_core.specs.Size.{total, size_of}
use Rattle.clif_words.specs.declared.opcodes.Opcode.{Opcode}
use Rattle.clif_words.specs.declared.opcodes.Opcode.TheVariants as opcode
use Rattle.token_reader.specs.declared.raw.RawName.{RawName}
use Rattle.clif_insts.specs.declared.raw.RawTarget.{RawTarget}
use Rattle.clif_insts.specs.declared.raw.RawEntry.{RawEntry}
use Rattle.clif_insts.specs.declared.raw.RawOperands.{RawOperands}
use Rattle.clif_insts.specs.declared.raw.RawOperands.TheVariants as form
use Rattle.clif_read.specs.declared.raw.RawSignature.{RawSignature}
use Rattle.clif_read.specs.declared.raw.RawCalleeSig.TheVariants as callee_sig
use Rattle.clif_read.specs.declared.raw.RawDecl.{RawDecl}
use Rattle.clif_read.specs.declared.raw.RawDecl.TheVariants as decl
use Rattle.clif_read.specs.declared.raw.RawLine.{RawLine}
use Rattle.clif_read.specs.declared.raw.RawLine.TheVariants as line
use Rattle.clif_read.specs.declared.raw.RawBlock.{RawBlock}
use Rattle.clif_read.specs.declared.raw.RawFunction.{RawFunction}
use Rattle.clif_names.specs.Sizes
use Rattle.clif_names.specs.Sizes.{raw_size, operands_size, target_size, signature_size, decl_size}
use Rattle.clif_meaning.specs.Instructions.{instruction_of, nullary, trap_if, call, value_at, values_at, target_of, entry_of, tag_of, arg_of}
use Rattle.clif_meaning.specs.Meaning.{sig_of, param_of, decl_slots, decl_sigs, callees_from, numbers, inst_type, lines_with, block_with, SameSize}

-- ---- instructions

abbrev weight : Instruction → ℕ
weight i = core.operand_count i + core.entry_count i

one_target : (at : Renaming) (t : RawTarget) → core.argument_count (target_of at t) ≡ target_size t
one_target at t = length-map t.args (arg_of at)

all_targets : (at : Renaming) (ts : List RawTarget) → total core.argument_count (map (target_of at) ts) ≡ total target_size ts
all_targets at [] = refl
all_targets at (t ∷ ts) = let a = one_target at t in let b = all_targets at ts in omega (arith, a, b)

table_sizes : (at : Renaming) (es : List RawEntry) → total core.argument_count (table_targets (map (entry_of at) es)) ≡ total target_size (map (λ (e : RawEntry). e.target) es)
table_sizes at [] = refl
table_sizes at (e ∷ es) = let a = one_target at e.target in let b = table_sizes at es in omega (arith, a, b)

nullary_weight : (o : Opcode) → weight (nullary o) ≡ 0
nullary_weight opcode.SequencePoint = refl
nullary_weight _ = refl

trap_weight : (o : Opcode) (v : ℕ) (c : TrapCode) → weight (Plain (trap_if o v c)) ≡ 1
trap_weight opcode.Trapnz v c = refl
trap_weight _ v c = refl

call_weight : (o : Opcode) (t : CallTarget) (vs : List ℕ) → weight (call o t vs) ≡ length (called_used t ++ vs)
call_weight opcode.ReturnCall t vs = omega arith
call_weight opcode.ReturnCallIndirect t vs = omega arith
call_weight _ t vs = omega arith

try_weight : (at : Renaming) (t : TryTarget) (sig : ℕ) (args : List RawName) (normal : RawTarget) (table : List RawEntry)
    → weight (Instruction.TryCall t sig (values_at at args) (target_of at normal) (map (entry_of at) table))
    ≡ (length (called_used (call_target t sig)) + length args + (target_size normal + total target_size (map (λ (e : RawEntry). e.target) table))) + length table
try_weight at t sig args normal table =
    let a = length-append (called_used (call_target t sig)) (values_at at args) in
    let b = length-map args (value_at at) in
    let c = one_target at normal in
    let d = table_sizes at table in
    let e = length-map table (entry_of at) in
    omega (arith, a, b, c, d, e)

form_weight : (at : Renaming) (o : Opcode) (t : Ty) (op : RawOperands) → weight (instruction_of at o t op) ≡ operands_size op
form_weight at o t form.Nullary = nullary_weight o
form_weight at o t (form.Number n) = refl
form_weight at o t (form.Unary x) = refl
form_weight at o t (form.Binary x y) = refl
form_weight at o t (form.Ternary c x y) = refl
form_weight at o t (form.Compare c x y) = refl
form_weight at o t (form.BinaryImm x n) = refl
form_weight at o t (form.CompareImm c x n) = refl
form_weight at o t (form.Load flags p offset) = refl
form_weight at o t (form.Store flags x p offset) = refl
form_weight at o t (form.StackLoad slot offset) = refl
form_weight at o t (form.StackStore x slot offset) = refl
form_weight at o t (form.FuncAddr callee) = refl
form_weight at o t (form.Jump target) = let a = one_target at target in omega (arith, a)
form_weight at o t (form.Brif x taken other) = let a = one_target at taken in let b = one_target at other in omega (arith, a, b)
form_weight at o t (form.BrTable x default entries) =
    let a = one_target at default in let b = all_targets at entries in let c = length-map entries (target_of at) in omega (arith, a, b, c)
form_weight at o t (form.Return xs) = let a = length-map xs (value_at at) in omega (arith, a)
form_weight at o t (form.Trap c) = refl
form_weight at o t (form.TrapIf x c) = trap_weight o (value_at at x) _
form_weight at o t (form.Call callee args) = call_weight o (Direct (at.callee callee.number)) (values_at at args) ∙ (let a = length-map args (value_at at) in omega (arith, a))
form_weight at o t (form.TryCall callee args sig normal table) = try_weight at (TryDirect (at.callee callee.number)) (at.sig sig.number) args normal table ∙ omega arith
form_weight at o t (form.CallIndirect sig x args) = call_weight o (Indirect (at.sig sig.number) (value_at at x)) (values_at at args) ∙ (let a = length-map args (value_at at) in omega (arith, a))
form_weight at o t (form.TryCallIndirect x args sig normal table) = try_weight at (TryIndirect (value_at at x)) (at.sig sig.number) args normal table ∙ omega arith

-- ---- declarations

signature_weight : (s : RawSignature) → core.sig_size (sig_of s) ≡ signature_size s
signature_weight s = let a = length-map s.params param_of in let b = length-map s.results param_of in omega (arith, a, b)

decl_weights : (sig : ℕ → ℕ) (n : ℕ) (ds : List RawDecl)
    → (length (flat_map decl_slots ds) + length (callees_from sig n ds)) + total core.sig_size (map (λ s. s.1) (flat_map decl_sigs ds)) ≡ total decl_size ds
decl_weights sig n [] = refl
decl_weights sig n (decl.Slot m size align ∷ ds) = let a = decl_weights sig n ds in omega (arith, a)
decl_weights sig n (decl.Sig m signature ∷ ds) = let a = decl_weights sig (suc n) ds in let b = signature_weight signature in omega (arith, a, b)
decl_weights sig n (decl.Callee colocated m (callee_sig.Declared s) name ∷ ds) = let a = decl_weights sig n ds in omega (arith, a)
decl_weights sig n (decl.Callee colocated m (callee_sig.Inline signature) name ∷ ds) = let a = decl_weights sig (suc n) ds in let b = signature_weight signature in omega (arith, a, b)

-- ---- blocks

module _ (raw : RawFunction) (value : ℕ → ℕ) (types : List (ℕ × Ty)) where
  line_weights : (ls : List RawLine) → total core.line_size (flat_map (lines_with raw value types) ls) ≡ total Sizes.line_size ls
  line_weights [] = refl
  line_weights (line.Alias location n m ∷ ls) = let a = line_weights ls in omega (arith, a)
  line_weights (line.Inst location tags results inst ∷ ls) =
      let a = line_weights ls in
      let b = form_weight (numbers raw value) inst.opcode.kind (inst_type raw value types inst) inst.operands in
      let c = length-map results (value_at (numbers raw value)) in
      let d = length-map tags (tag_of (numbers raw value)) in
      omega (arith, a, b, c, d)

  block_weights : (n : ℕ) (bs : List RawBlock) → total core.block_size (map (block_with raw value types) (enumerate_from n bs)) ≡ total Sizes.block_size bs
  block_weights n [] = refl
  block_weights n (b ∷ bs) =
      let a = block_weights (n + 1) bs in
      let c = line_weights b.lines in
      let d = length-map b.params (λ p. value p.value.number) in
      omega (arith, a, c, d)

pub same_size : SameSize
same_size raw f mf =
    ap size_of mf.function
    ∙ (let a = decl_weights (numbers raw mf.value).sig 0 raw.decls in let b = block_weights raw mf.value f.types 0 raw.blocks in omega (arith, a, b))

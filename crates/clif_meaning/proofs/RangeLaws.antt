-- Where each word that is used is defined, each number of the function that is meant names something that it has.
use Rattle.std.proofs.Common.{◌≡◌, ℕ, ◌<◌, List, [], ◌∷◌, ◌++◌, Option, map, refl, sym, ap, ◌∙◌}
use Rattle.std.specs.Prelude.{flat_map}
use Rattle.std.proofs.lemmas.List.{map-append}
use Rattle.clk_num.specs.declared.op.TrapCode.{TrapCode}
use Rattle.ir_core.specs.declared.signatures.Ty.{Ty}
use Rattle.ir_core.specs.declared.instructions.BlockCall.{BlockCall}
use Rattle.ir_core.specs.Module.{CallTarget, Direct, Indirect, Plain}
use Rattle.ir_core.specs.Lists.{Below, Each}
use Rattle.ir_core.specs.Uses.{operands, targets, table_targets, called_used, called_callees, called_sigs, arg_values_used, targets_used, values_used, blocks_used, slots_used, slots_shown, callees_used, sigs_used}
use Rattle.ir_core.specs.Sound.{Counts, LineInRange}
use Rattle.ir_semantics.specs.Renaming.{Renaming}
use Rattle.ir_core.proofs.Members.{each_left, each_right}
use Rattle.clif_words.specs.declared.opcodes.Opcode.{Opcode}
use Rattle.clif_words.specs.declared.opcodes.Opcode.TheVariants as opcode
use Rattle.token_reader.specs.declared.raw.RawName.{RawName}
use Rattle.clif_insts.specs.declared.raw.RawArg.{RawArg}
use Rattle.clif_insts.specs.declared.raw.RawArg.TheVariants as arg
use Rattle.clif_insts.specs.declared.raw.RawTarget.{RawTarget}
use Rattle.clif_insts.specs.declared.raw.RawEntry.{RawEntry}
use Rattle.clif_insts.specs.declared.raw.RawInst.{RawInst}
use Rattle.clif_insts.specs.declared.raw.RawOperands.{RawOperands}
use Rattle.clif_insts.specs.declared.raw.RawOperands.TheVariants as form
use Rattle.clif_read.specs.declared.raw.RawTag.{RawTag}
use Rattle.clif_read.specs.declared.raw.RawTag.TheVariants as tag
use Rattle.clif_read.specs.declared.raw.RawLine.{RawLine}
use Rattle.clif_read.specs.declared.raw.RawLine.TheVariants as line
use Rattle.name_tables.specs.Definitions.{Slots, Sigs, Callees, Blocks, Values}
use Rattle.name_tables.specs.Uses.{operand_values, operand_targets, operand_slots, operand_callees, operand_sigs, arg_values, target_values, tag_slots, line_uses}
use Rattle.clif_meaning.specs.Instructions.{instruction_of, nullary, trap_if, call, value_at, values_at, target_of, entry_of, tag_of, line_of, arg_of}

-- ---- what the instruction uses is what is written, under its numbers

module _ (at : Renaming) where
  call_operands : (o : Opcode) (t : CallTarget) (vs : List ℕ) → operands (call o t vs) ≡ called_used t ++ vs
  call_operands opcode.ReturnCall t vs = refl
  call_operands opcode.ReturnCallIndirect t vs = refl
  call_operands _ t vs = refl

  nullary_operands : (o : Opcode) → operands (nullary o) ≡ []
  nullary_operands opcode.SequencePoint = refl
  nullary_operands _ = refl

  trap_operands : (o : Opcode) (v : ℕ) (c : TrapCode) → operands (Plain (trap_if o v c)) ≡ v ∷ []
  trap_operands opcode.Trapnz v c = refl
  trap_operands _ v c = refl

  operands_are : (o : Opcode) (t : Ty) (op : RawOperands) → operands (instruction_of at o t op) ≡ values_at at (operand_values op)
  operands_are o t form.Nullary = nullary_operands o
  operands_are o t (form.TrapIf x c) = trap_operands o (value_at at x) _
  operands_are o t (form.Call callee args) = call_operands o (Direct (at.callee callee.number)) (values_at at args)
  operands_are o t (form.CallIndirect sig x args) = call_operands o (Indirect (at.sig sig.number) (value_at at x)) (values_at at args)
  operands_are o t _ = refl

  table_are : (es : List RawEntry) → table_targets (map (entry_of at) es) ≡ map (target_of at) (map (λ (e : RawEntry). e.target) es)
  table_are [] = refl
  table_are (e ∷ es) = ap (λ ts. target_of at e.target ∷ ts) (table_are es)

  call_targets : (o : Opcode) (t : CallTarget) (vs : List ℕ) → targets (call o t vs) ≡ []
  call_targets opcode.ReturnCall t vs = refl
  call_targets opcode.ReturnCallIndirect t vs = refl
  call_targets _ t vs = refl

  nullary_targets : (o : Opcode) → targets (nullary o) ≡ []
  nullary_targets opcode.SequencePoint = refl
  nullary_targets _ = refl

  targets_are : (o : Opcode) (t : Ty) (op : RawOperands) → targets (instruction_of at o t op) ≡ map (target_of at) (operand_targets op)
  targets_are o t form.Nullary = nullary_targets o
  targets_are o t (form.Call callee args) = call_targets o _ _
  targets_are o t (form.CallIndirect sig x args) = call_targets o _ _
  targets_are o t (form.TryCall callee args sig normal table) = ap (λ ts. target_of at normal ∷ ts) (table_are table)
  targets_are o t (form.TryCallIndirect x args sig normal table) = ap (λ ts. target_of at normal ∷ ts) (table_are table)
  targets_are o t _ = refl

  args_are : (as' : List RawArg) → arg_values_used (map (arg_of at) as') ≡ values_at at (flat_map arg_values as')
  args_are [] = refl
  args_are (arg.Value n ∷ as') = ap (λ xs. at.value n.number ∷ xs) (args_are as')
  args_are (arg.Ret n ∷ as') = args_are as'
  args_are (arg.Exn n ∷ as') = args_are as'

  target_args_are : (ts : List RawTarget) → targets_used (map (target_of at) ts) ≡ values_at at (flat_map target_values ts)
  target_args_are [] = refl
  target_args_are (t ∷ ts) =
      ap (λ xs. xs ++ targets_used (map (target_of at) ts)) (args_are t.args) ∙ ap (λ xs. values_at at (flat_map arg_values t.args) ++ xs) (target_args_are ts)
      ∙ sym (map-append (value_at at) (flat_map arg_values t.args) (flat_map target_values ts))

  pub values_are : (o : Opcode) (t : Ty) (op : RawOperands) → values_used (instruction_of at o t op) ≡ values_at at (operand_values op ++ flat_map target_values (operand_targets op))
  values_are o t op =
      ap (λ xs. xs ++ targets_used (targets (instruction_of at o t op))) (operands_are o t op)
      ∙ ap (λ ts. values_at at (operand_values op) ++ targets_used ts) (targets_are o t op)
      ∙ ap (λ xs. values_at at (operand_values op) ++ xs) (target_args_are (operand_targets op))
      ∙ sym (map-append (value_at at) (operand_values op) (flat_map target_values (operand_targets op)))

  block_words : (ts : List RawTarget) → map (λ (t : BlockCall). t.block) (map (target_of at) ts) ≡ map (λ (n : RawName). at.block n.number) (map (λ (t : RawTarget). t.block) ts)
  block_words [] = refl
  block_words (t ∷ ts) = ap (λ xs. at.block t.block.number ∷ xs) (block_words ts)

  pub blocks_are : (o : Opcode) (t : Ty) (op : RawOperands) → blocks_used (instruction_of at o t op) ≡ map (λ (n : RawName). at.block n.number) (map (λ (t : RawTarget). t.block) (operand_targets op))
  blocks_are o t op = ap (map (λ (t : BlockCall). t.block)) (targets_are o t op) ∙ block_words (operand_targets op)

  call_slots : (o : Opcode) (t : CallTarget) (vs : List ℕ) → slots_used (call o t vs) ≡ []
  call_slots opcode.ReturnCall t vs = refl
  call_slots opcode.ReturnCallIndirect t vs = refl
  call_slots _ t vs = refl

  nullary_slots : (o : Opcode) → slots_used (nullary o) ≡ []
  nullary_slots opcode.SequencePoint = refl
  nullary_slots _ = refl

  trap_slots : (o : Opcode) (v : ℕ) (c : TrapCode) → slots_used (Plain (trap_if o v c)) ≡ []
  trap_slots opcode.Trapnz v c = refl
  trap_slots _ v c = refl

  pub slots_are : (o : Opcode) (t : Ty) (op : RawOperands) → slots_used (instruction_of at o t op) ≡ map (λ (n : RawName). at.slot n.number) (operand_slots op)
  slots_are o t form.Nullary = nullary_slots o
  slots_are o t (form.TrapIf x c) = trap_slots o (value_at at x) _
  slots_are o t (form.Call callee args) = call_slots o _ _
  slots_are o t (form.CallIndirect sig x args) = call_slots o _ _
  slots_are o t _ = refl

  pub shown_are : (ts : List RawTag) → slots_shown (map (tag_of at) ts) ≡ map (λ (n : RawName). at.slot n.number) (flat_map tag_slots ts)
  shown_are [] = refl
  shown_are (tag.User n ∷ ts) = shown_are ts
  shown_are (tag.Slot n ∷ ts) = ap (λ xs. at.slot n.number ∷ xs) (shown_are ts)

  call_callees : (o : Opcode) (t : CallTarget) (vs : List ℕ) → callees_used (call o t vs) ≡ called_callees t
  call_callees opcode.ReturnCall t vs = refl
  call_callees opcode.ReturnCallIndirect t vs = refl
  call_callees _ t vs = refl

  nullary_callees : (o : Opcode) → callees_used (nullary o) ≡ []
  nullary_callees opcode.SequencePoint = refl
  nullary_callees _ = refl

  trap_callees : (o : Opcode) (v : ℕ) (c : TrapCode) → callees_used (Plain (trap_if o v c)) ≡ []
  trap_callees opcode.Trapnz v c = refl
  trap_callees _ v c = refl

  pub callees_are : (o : Opcode) (t : Ty) (op : RawOperands) → callees_used (instruction_of at o t op) ≡ map (λ (n : RawName). at.callee n.number) (operand_callees op)
  callees_are o t form.Nullary = nullary_callees o
  callees_are o t (form.TrapIf x c) = trap_callees o (value_at at x) _
  callees_are o t (form.Call callee args) = call_callees o (Direct (at.callee callee.number)) _
  callees_are o t (form.CallIndirect sig x args) = call_callees o (Indirect (at.sig sig.number) (value_at at x)) _
  callees_are o t _ = refl

  call_sigs : (o : Opcode) (t : CallTarget) (vs : List ℕ) → sigs_used (call o t vs) ≡ called_sigs t
  call_sigs opcode.ReturnCall t vs = refl
  call_sigs opcode.ReturnCallIndirect t vs = refl
  call_sigs _ t vs = refl

  nullary_sigs : (o : Opcode) → sigs_used (nullary o) ≡ []
  nullary_sigs opcode.SequencePoint = refl
  nullary_sigs _ = refl

  pub sigs_below : (n : ℕ) (o : Opcode) (t : Ty) (op : RawOperands) → Each (λ (s : RawName). at.sig s.number < n) (operand_sigs op) → Below n (sigs_used (instruction_of at o t op))
  sigs_below n o t form.Nullary h = rw (nullary_sigs o) tt
  sigs_below n o t (form.Call callee args) h = rw (call_sigs o (Direct (at.callee callee.number)) (values_at at args)) tt
  sigs_below n o t (form.CallIndirect sig x args) h = rw (call_sigs o (Indirect (at.sig sig.number) (value_at at x)) (values_at at args)) h
  sigs_below n o t (form.TryCallIndirect x args sig normal table) h = h
  sigs_below n o t (form.TryCall callee args sig normal table) h = h
  sigs_below n o t _ h = tt

below_words : (g : RawName → ℕ) (n : ℕ) (us : List RawName) → Each (λ u. g u < n) us → Below n (map g us)
below_words g n [] h = tt
below_words g n (u ∷ us) h = (h.0, below_words g n us h.1)

-- a line whose words have numbers in range is in range
pub record WordsInRange (n : Counts) (at : Renaming) (l : RawLine) : Type 0 where
  pub values : Each (λ (u : RawName). at.value u.number < n.values) (line_uses Values l)
  pub blocks : Each (λ (u : RawName). at.block u.number < n.blocks) (line_uses Blocks l)
  pub slots : Each (λ (u : RawName). at.slot u.number < n.slots) (line_uses Slots l)
  pub callees : Each (λ (u : RawName). at.callee u.number < n.callees) (line_uses Callees l)
  pub sigs : Each (λ (u : RawName). at.sig u.number < n.sigs) (line_uses Sigs l)

pub line_in_range : (n : Counts) (at : Renaming) (t : Ty) (location : Option ℕ) (tags : List RawTag) (results : List RawName) (inst : RawInst)
    → WordsInRange n at (line.Inst location tags results inst) → Each (λ (u : RawName). at.value u.number < n.values) results → LineInRange n (line_of at t tags results inst)
line_in_range n at t location tags results inst w rs = record {
  values = rw (values_are at _ t inst.operands) (below_words (λ u. at.value u.number) n.values (line_uses Values (line.Inst location tags results inst)) w.values);
  blocks = rw (blocks_are at _ t inst.operands) (below_words (λ u. at.block u.number) n.blocks (line_uses Blocks (line.Inst location tags results inst)) w.blocks);
  slots = rw (slots_are at _ t inst.operands) (below_words (λ u. at.slot u.number) n.slots (operand_slots inst.operands) (each_right (λ (u : RawName). at.slot u.number < n.slots) (flat_map tag_slots tags) (operand_slots inst.operands) w.slots));
  shown = rw (shown_are at tags) (below_words (λ u. at.slot u.number) n.slots (flat_map tag_slots tags) (each_left (λ (u : RawName). at.slot u.number < n.slots) (flat_map tag_slots tags) (operand_slots inst.operands) w.slots));
  callees = rw (callees_are at _ t inst.operands) (below_words (λ u. at.callee u.number) n.callees (operand_callees inst.operands) w.callees);
  sigs = sigs_below at n.sigs _ t inst.operands w.sigs;
  results = below_words (λ u. at.value u.number) n.values results rs;
}

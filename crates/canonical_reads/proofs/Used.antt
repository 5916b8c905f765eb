-- The raw function of a whole function uses only words that it defines.
use Rattle.std.proofs.Common.{◌≡◌, ℕ, ◌+◌, ◌<◌, List, [], ◌∷◌, ◌++◌, map, length, Option, refl, sym, ap, subst}
use Rattle.std.specs.Prelude.{flat_map}
use Rattle.std.proofs.lemmas.Grind.{flat_map-append}
use Rattle.debug_tags.specs.declared.tags.Tag.{Tag}
use Rattle.debug_tags.specs.declared.tags.Tag.TheVariants as tag
use Rattle.exn_tables.specs.declared.table.Entry.{Entry}
use Rattle.ir_core.specs.declared.declarations.Callee.{Callee}
use Rattle.ir_core.specs.declared.declarations.SlotDecl.{SlotDecl}
use Rattle.ir_core.specs.declared.instructions.Arg.{Arg}
use Rattle.ir_core.specs.declared.instructions.Arg.TheVariants as arg
use Rattle.ir_core.specs.declared.instructions.BlockCall.{BlockCall}
use Rattle.ir_core.specs.declared.signatures.Sig.{Sig}
use Rattle.ir_core.specs.declared.signatures.Ty.{Ty}
use Rattle.ir_core.specs.Lists.{In, Each}
use Rattle.ir_core.specs.Lookup.{definitions as defined_values, block_numbers, number_in}
use Rattle.ir_core.specs.Module.{Simple, Instruction, Line as CoreLine, Block, Function}
use Rattle.ir_core.specs.Module as insts
use Rattle.ir_core.specs.Uses as core
use Rattle.ir_core.specs.WellFormed.{declared, LineWellFormed, WellFormed}
use Rattle.ir_core.proofs.Members.{each_left, each_right, each_join, each_more}
use Rattle.ir_text.specs.Numbering.{Numbering, numbering_of}
use Rattle.ir_text.specs.TextInstructions.{next_after, shown_suffix, typing_operand}
use Rattle.token_reader.specs.declared.raw.RawName.{RawName}
use Rattle.clif_insts.specs.declared.raw.RawOperands.{RawOperands}
use Rattle.clif_insts.specs.declared.raw.RawTarget.{RawTarget}
use Rattle.clif_insts.specs.declared.raw.RawEntry.{RawEntry}
use Rattle.clif_read.specs.declared.raw.RawBlock.{RawBlock}
use Rattle.clif_read.specs.declared.raw.RawDecl.{RawDecl}
use Rattle.clif_read.specs.declared.raw.RawLine.{RawLine}
use Rattle.name_tables.specs.Definitions.{Kind, Slots, Sigs, Callees, Blocks, Values, lines}
use Rattle.name_tables.specs.Uses.{operand_values, operand_targets, operand_slots, operand_callees, operand_sigs, target_values, arg_values, tag_slots, line_uses, decl_uses, uses}
use Rattle.text_read_back.specs.RawOf as raws
use Rattle.text_read_back.proofs.Lists.{below_length}
use Rattle.inline_acceptance.proofs.KeptLists.{each_map}
use Rattle.canonical_reads.proofs.Lists.{Within}
use Rattle.canonical_reads.proofs.Counted.{count}
use Rattle.canonical_reads.proofs.Shapes.{by_operands, by_immediate}

-- ---- instructions, under the numbers of a text

module _ (n : Numbering) where
  abbrev Below : ℕ → List ℕ → Type 0
  Below m vs = Each (λ (v : ℕ). number_in n.values v < m) vs

  abbrev ops : Option Ty → Instruction → RawOperands
  ops s i = (raws.instruction n s i).operands

  module _ (m : ℕ) where
    values_within : (vs : List ℕ) → Below m vs → Within m (raws.values n vs)
    values_within vs h = each_map (λ (v : ℕ). number_in n.values v < m) (λ (w : RawName). w.number < m) (raws.value n) (λ v k. k) vs h

    simple_within : (s : Option Ty) (i : Simple) → Below m (core.simple_used i) → Within m (operand_values (raws.simple n s i).operands)
    simple_within s insts.Nop h = tt
    simple_within s (insts.Const d) h = tt
    simple_within s (insts.Pure o vs) h =
        by_operands n (λ (vs : List ℕ) (given : RawOperands). Below m vs → Within m (operand_values given)) (λ vs h. tt) (λ x h. h) (λ x y h. h) (λ c x y h. h) (λ c x y h. h) o vs h
    simple_within s (insts.PureImm o x d) h = by_immediate n (λ (given : RawOperands). Within m (operand_values given)) x d h (λ c. h) o
    simple_within s (insts.Load a g p z) h = h
    simple_within s (insts.Store narrow g x p z) h = h
    simple_within s (insts.StackLoad t slot z) h = tt
    simple_within s (insts.StackStore x slot z) h = h
    simple_within s (insts.FuncAddr callee) h = tt
    simple_within s (insts.Trap c) h = tt
    simple_within s (insts.Trapz x c) h = h
    simple_within s (insts.Trapnz x c) h = h

    operands_within : (s : Option Ty) (i : Instruction) → Below m (core.operands i) → Within m (operand_values (ops s i))
    operands_within s (insts.Plain i) h = simple_within s i h
    operands_within s (insts.Branches (insts.Jump t)) h = tt
    operands_within s (insts.Branches (insts.Brif x t u)) h = h
    operands_within s (insts.Branches (insts.BrTable x t ts)) h = h
    operands_within s insts.SequencePoint h = tt
    operands_within s (insts.Return vs) h = values_within vs h
    operands_within s (insts.Call (insts.Direct callee) vs) h = values_within vs h
    operands_within s (insts.Call (insts.Indirect sig p) vs) h = (h.0, values_within vs h.1)
    operands_within s (insts.ReturnCall (insts.Direct callee) vs) h = values_within vs h
    operands_within s (insts.ReturnCall (insts.Indirect sig p) vs) h = (h.0, values_within vs h.1)
    operands_within s (insts.TryCall (insts.TryDirect callee) sig vs normal table) h = values_within vs h
    operands_within s (insts.TryCall (insts.TryIndirect p) sig vs normal table) h = (h.0, values_within vs h.1)

    args_within : (as' : List Arg) → Below m (core.arg_values_used as') → Within m (flat_map arg_values (map (raws.argument n) as'))
    args_within [] h = tt
    args_within (arg.Value v ∷ as') h = (h.0, args_within as' h.1)
    args_within (arg.Ret k ∷ as') h = args_within as' h
    args_within (arg.Exn k ∷ as') h = args_within as' h

    targets_within : (ts : List BlockCall) → Below m (core.targets_used ts) → Within m (flat_map target_values (map (raws.target n) ts))
    targets_within [] h = tt
    targets_within (t ∷ ts) h =
        each_join (λ (w : RawName). w.number < m) (target_values (raws.target n t)) (flat_map target_values (map (raws.target n) ts))
        (args_within t.args (each_left (λ (v : ℕ). number_in n.values v < m) (core.arg_values_used t.args) (core.targets_used ts) h))
        (targets_within ts (each_right (λ (v : ℕ). number_in n.values v < m) (core.arg_values_used t.args) (core.targets_used ts) h))

    blocks_within : (ts : List BlockCall) → Each (λ (b : ℕ). number_in n.blocks b < m) (map (λ t. t.block) ts) → Within m (map (λ (t : RawTarget). t.block) (map (raws.target n) ts))
    blocks_within [] h = tt
    blocks_within (t ∷ ts) h = (h.0, blocks_within ts h.1)

    slots_within : (s : Option Ty) (i : Instruction) → Each (λ (k : ℕ). k < m) (core.slots_used i) → Within m (operand_slots (ops s i))
    slots_within s (insts.Plain insts.Nop) h = tt
    slots_within s (insts.Plain (insts.Const d)) h = tt
    slots_within s (insts.Plain (insts.Pure o vs)) h =
        by_operands n (λ (vs : List ℕ) (given : RawOperands). Within m (operand_slots given)) (λ vs. tt) (λ x. tt) (λ x y. tt) (λ c x y. tt) (λ c x y. tt) o vs
    slots_within s (insts.Plain (insts.PureImm o x d)) h = by_immediate n (λ (given : RawOperands). Within m (operand_slots given)) x d tt (λ c. tt) o
    slots_within s (insts.Plain (insts.StackLoad t slot z)) h = h
    slots_within s (insts.Plain (insts.StackStore x slot z)) h = h
    slots_within s (insts.Call (insts.Direct callee) vs) h = tt
    slots_within s (insts.Call (insts.Indirect sig p) vs) h = tt
    slots_within s (insts.ReturnCall (insts.Direct callee) vs) h = tt
    slots_within s (insts.ReturnCall (insts.Indirect sig p) vs) h = tt
    slots_within s (insts.TryCall (insts.TryDirect callee) sig vs normal table) h = tt
    slots_within s (insts.TryCall (insts.TryIndirect p) sig vs normal table) h = tt
    slots_within s (insts.Branches (insts.Jump t)) h = tt
    slots_within s (insts.Branches (insts.Brif x t u)) h = tt
    slots_within s (insts.Branches (insts.BrTable x t ts)) h = tt
    slots_within s _ h = tt

    shown_within : (ts : List Tag) → Each (λ (k : ℕ). k < m) (core.slots_shown ts) → Within m (flat_map tag_slots (map raws.debug_tag ts))
    shown_within [] h = tt
    shown_within (tag.User k ∷ ts) h = shown_within ts h
    shown_within (tag.Slot k ∷ ts) h = (h.0, shown_within ts h.1)

    callees_within : (s : Option Ty) (i : Instruction) → Each (λ (k : ℕ). k < m) (core.callees_used i) → Within m (operand_callees (ops s i))
    callees_within s (insts.Plain insts.Nop) h = tt
    callees_within s (insts.Plain (insts.Const d)) h = tt
    callees_within s (insts.Plain (insts.Pure o vs)) h =
        by_operands n (λ (vs : List ℕ) (given : RawOperands). Within m (operand_callees given)) (λ vs. tt) (λ x. tt) (λ x y. tt) (λ c x y. tt) (λ c x y. tt) o vs
    callees_within s (insts.Plain (insts.PureImm o x d)) h = by_immediate n (λ (given : RawOperands). Within m (operand_callees given)) x d tt (λ c. tt) o
    callees_within s (insts.Plain (insts.FuncAddr callee)) h = h
    callees_within s (insts.Call (insts.Direct callee) vs) h = h
    callees_within s (insts.Call (insts.Indirect sig p) vs) h = tt
    callees_within s (insts.ReturnCall (insts.Direct callee) vs) h = h
    callees_within s (insts.ReturnCall (insts.Indirect sig p) vs) h = tt
    callees_within s (insts.TryCall (insts.TryDirect callee) sig vs normal table) h = h
    callees_within s (insts.TryCall (insts.TryIndirect p) sig vs normal table) h = tt
    callees_within s (insts.Branches (insts.Jump t)) h = tt
    callees_within s (insts.Branches (insts.Brif x t u)) h = tt
    callees_within s (insts.Branches (insts.BrTable x t ts)) h = tt
    callees_within s _ h = tt

    sigs_within : (s : Option Ty) (i : Instruction) → Each (λ (k : ℕ). k < m) (core.sigs_used i) → Within m (operand_sigs (ops s i))
    sigs_within s (insts.Plain insts.Nop) h = tt
    sigs_within s (insts.Plain (insts.Const d)) h = tt
    sigs_within s (insts.Plain (insts.Pure o vs)) h =
        by_operands n (λ (vs : List ℕ) (given : RawOperands). Within m (operand_sigs given)) (λ vs. tt) (λ x. tt) (λ x y. tt) (λ c x y. tt) (λ c x y. tt) o vs
    sigs_within s (insts.Plain (insts.PureImm o x d)) h = by_immediate n (λ (given : RawOperands). Within m (operand_sigs given)) x d tt (λ c. tt) o
    sigs_within s (insts.Call (insts.Direct callee) vs) h = tt
    sigs_within s (insts.Call (insts.Indirect sig p) vs) h = h
    sigs_within s (insts.ReturnCall (insts.Direct callee) vs) h = tt
    sigs_within s (insts.ReturnCall (insts.Indirect sig p) vs) h = h
    sigs_within s (insts.TryCall (insts.TryDirect callee) sig vs normal table) h = h
    sigs_within s (insts.TryCall (insts.TryIndirect p) sig vs normal table) h = h
    sigs_within s (insts.Branches (insts.Jump t)) h = tt
    sigs_within s (insts.Branches (insts.Brif x t u)) h = tt
    sigs_within s (insts.Branches (insts.BrTable x t ts)) h = tt
    sigs_within s _ h = tt

  -- ---- targets

  table_of : (es : List (Entry BlockCall)) → map (λ (e : RawEntry). e.target) (map (raws.entry n) es) ≡ map (raws.target n) (core.table_targets es)
  table_of [] = refl
  table_of (e ∷ es) = ap (λ (ts : List RawTarget). raws.target n e.target ∷ ts) (table_of es)

  pub targets_of : (s : Option Ty) (i : Instruction) → operand_targets (ops s i) ≡ map (raws.target n) (core.targets i)
  targets_of s (insts.Plain insts.Nop) = refl
  targets_of s (insts.Plain (insts.Pure o vs)) =
      by_operands n (λ (vs : List ℕ) (given : RawOperands). operand_targets given ≡ []) (λ vs. refl) (λ x. refl) (λ x y. refl) (λ c x y. refl) (λ c x y. refl) o vs
  targets_of s (insts.Plain (insts.PureImm o x d)) = by_immediate n (λ (given : RawOperands). operand_targets given ≡ []) x d refl (λ c. refl) o
  targets_of s (insts.Branches (insts.Jump t)) = refl
  targets_of s (insts.Branches (insts.Brif x t u)) = refl
  targets_of s (insts.Branches (insts.BrTable x t ts)) = refl
  targets_of s (insts.Call (insts.Direct callee) vs) = refl
  targets_of s (insts.Call (insts.Indirect sig p) vs) = refl
  targets_of s (insts.ReturnCall (insts.Direct callee) vs) = refl
  targets_of s (insts.ReturnCall (insts.Indirect sig p) vs) = refl
  targets_of s (insts.TryCall (insts.TryDirect callee) sig vs normal table) = ap (λ (ts : List RawTarget). raws.target n normal ∷ ts) (table_of table)
  targets_of s (insts.TryCall (insts.TryIndirect p) sig vs normal table) = ap (λ (ts : List RawTarget). raws.target n normal ∷ ts) (table_of table)
  targets_of s _ = refl

-- ---- lines: what holds of each holds of all of a function

module _ (f : Function) (n : Numbering) (Q : CoreLine → Type 0) (P : RawLine → Type 0) (of_line : (next : ℕ) (l : CoreLine) → Q l → P (raws.line f n next l)) where
  lines_hold : (next : ℕ) (ls : List CoreLine) → Each Q ls → Each P (raws.lines f n next ls)
  lines_hold next [] h = tt
  lines_hold next (l ∷ ls) h = (of_line next l h.0, lines_hold (next + length l.results) ls h.1)

  pub all_lines : (next : ℕ) (bs : List Block) → Each (λ (b : Block). Each Q b.lines) bs → Each P (flat_map (λ (b : RawBlock). b.lines) (raws.blocks f n next bs))
  all_lines next [] h = tt
  all_lines next (b ∷ bs) h =
      each_join P (raws.lines f n (next + length b.params) b.lines) (flat_map (λ (b : RawBlock). b.lines) (raws.blocks f n (next_after next b) bs))
      (lines_hold (next + length b.params) b.lines h.0) (all_lines (next_after next b) bs h.1)

pub each_flat : {A B : Type 0} (P : B → Type 0) (g : A → List B) (xs : List A) → Each (λ (x : A). Each P (g x)) xs → Each P (flat_map g xs)
each_flat P g [] h = tt
each_flat P g (x ∷ xs) h = each_join P (g x) (flat_map g xs) h.0 (each_flat P g xs h.1)

-- ---- a whole function

module _ (f : Function) (is : WellFormed f) where
  abbrev n : Numbering
  n = numbering_of f

  -- the suffix that is printed
  abbrev shown : ℕ → CoreLine → Option Ty
  shown next l = shown_suffix f n next l.ty (typing_operand l.inst)

  line_within : (next : ℕ) (l : CoreLine) → LineWellFormed f l → (k : Kind) → Within (count f k) (line_uses k (raws.line f n next l))
  line_within next l h Slots =
      each_join (λ (w : RawName). w.number < count f Slots) (flat_map tag_slots (map raws.debug_tag l.tags)) (operand_slots (ops n (shown next l) l.inst))
      (shown_within n (count f Slots) l.tags h.shown) (slots_within n (count f Slots) (shown next l) l.inst h.slots)
  line_within next l h Sigs = sigs_within n (count f Sigs) (shown next l) l.inst h.sigs
  line_within next l h Callees = callees_within n (count f Callees) (shown next l) l.inst h.callees
  line_within next l h Blocks =
      subst (λ (ts : List RawTarget). Within (count f Blocks) (map (λ (t : RawTarget). t.block) ts)) (sym (targets_of n (shown next l) l.inst))
      (blocks_within n (count f Blocks) (core.targets l.inst)
      (each_more (λ (b : ℕ). In b (block_numbers f.blocks)) (λ (b : ℕ). number_in (block_numbers f.blocks) b < count f Blocks) (below_length (block_numbers f.blocks)) (core.blocks_used l.inst) h.blocks))
  line_within next l h Values =
      let here = each_more (λ (v : ℕ). In v (declared f)) (λ (v : ℕ). number_in (defined_values f.blocks) v < count f Values)
      (λ v k. below_length (defined_values f.blocks) v (is.defined v k)) (core.values_used l.inst) h.values in
      each_join (λ (w : RawName). w.number < count f Values) (operand_values (ops n (shown next l) l.inst)) (flat_map target_values (operand_targets (ops n (shown next l) l.inst)))
      (operands_within n (count f Values) (shown next l) l.inst (each_left (λ (v : ℕ). number_in (defined_values f.blocks) v < count f Values) (core.operands l.inst) (core.targets_used (core.targets l.inst)) here))
      (subst (λ (ts : List RawTarget). Within (count f Values) (flat_map target_values ts)) (sym (targets_of n (shown next l) l.inst))
      (targets_within n (count f Values) (core.targets l.inst) (each_right (λ (v : ℕ). number_in (defined_values f.blocks) v < count f Values) (core.operands l.inst) (core.targets_used (core.targets l.inst)) here)))

  -- ---- declarations

  none_used : {A : Type 0} (k : Kind) (decl : ℕ → A → RawDecl) → ((j : ℕ) (x : A) → decl_uses k (decl j x) ≡ []) → (j : ℕ) (xs : List A) → Within (count f k) (flat_map (decl_uses k) (raws.numbered decl j xs))
  none_used k decl none j [] = tt
  none_used k decl none j (x ∷ xs) = subst (λ (ws : List RawName). Within (count f k) (ws ++ flat_map (decl_uses k) (raws.numbered decl (j + 1) xs))) (sym (none j x)) (none_used k decl none (j + 1) xs)

  sigs_used : (j : ℕ) (cs : List Callee) → Each (λ (c : Callee). c.sig < length f.sigs) cs → Within (length f.sigs) (flat_map (decl_uses Sigs) (raws.numbered raws.callee_decl j cs))
  sigs_used j [] h = tt
  sigs_used j (c ∷ cs) h = (h.0, sigs_used (j + 1) cs h.1)

  callee_decls : (k : Kind) → Within (count f k) (flat_map (decl_uses k) (raws.numbered raws.callee_decl 0 f.callees))
  callee_decls Sigs = sigs_used 0 f.callees is.callees
  callee_decls Slots = none_used Slots raws.callee_decl (λ j x. refl) 0 f.callees
  callee_decls Callees = none_used Callees raws.callee_decl (λ j x. refl) 0 f.callees
  callee_decls Blocks = none_used Blocks raws.callee_decl (λ j x. refl) 0 f.callees
  callee_decls Values = none_used Values raws.callee_decl (λ j x. refl) 0 f.callees

  slot_decls : (k : Kind) (j : ℕ) (s : SlotDecl) → decl_uses k (raws.slot_decl j s) ≡ []
  slot_decls Sigs j s = refl
  slot_decls _ j s = refl

  sig_decls : (k : Kind) (j : ℕ) (s : Sig) → decl_uses k (raws.sig_decl j s) ≡ []
  sig_decls Sigs j s = refl
  sig_decls _ j s = refl

  abbrev slots : List RawDecl
  slots = raws.numbered raws.slot_decl 0 f.slots

  abbrev sigs : List RawDecl
  sigs = raws.numbered raws.sig_decl 0 f.sigs

  abbrev callees : List RawDecl
  callees = raws.numbered raws.callee_decl 0 f.callees

  decls_within : (k : Kind) → Within (count f k) (flat_map (decl_uses k) (slots ++ (sigs ++ callees)))
  decls_within k =
      subst (Within (count f k)) (sym (flat_map-append (decl_uses k) slots (sigs ++ callees)))
      (each_join (λ (w : RawName). w.number < count f k) (flat_map (decl_uses k) slots) (flat_map (decl_uses k) (sigs ++ callees)) (none_used k raws.slot_decl (slot_decls k) 0 f.slots)
      (subst (Within (count f k)) (sym (flat_map-append (decl_uses k) sigs callees))
      (each_join (λ (w : RawName). w.number < count f k) (flat_map (decl_uses k) sigs) (flat_map (decl_uses k) callees) (none_used k raws.sig_decl (sig_decls k) 0 f.sigs) (callee_decls k))))

  -- ---- all of it

  pub used_within : (k : Kind) → Within (count f k) (uses (raws.raw_function f) k)
  used_within k =
      each_join (λ (w : RawName). w.number < count f k) (flat_map (decl_uses k) (raws.raw_function f).decls) (flat_map (line_uses k) (lines (raws.raw_function f))) (decls_within k)
      (each_flat (λ (w : RawName). w.number < count f k) (line_uses k) (lines (raws.raw_function f))
      (all_lines f n (LineWellFormed f) (λ (l : RawLine). Within (count f k) (line_uses k l)) (λ next l h. line_within next l h k) 0 f.blocks is.lines))

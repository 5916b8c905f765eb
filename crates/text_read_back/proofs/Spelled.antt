-- A module of whole functions that are writable can be spelled.
use Rattle.std.proofs.Common.{ℕ, ◌<◌, ◌≤◌, List, [], ◌∷◌, ◌++◌, map, length, refl, arith, inl, inr}
use Rattle.debug_tags.specs.declared.tags.Tag.{Tag}
use Rattle.debug_tags.specs.declared.tags.Tag.TheVariants as tag
use Rattle.ir_core.specs.declared.declarations.Callee.{Callee}
use Rattle.ir_core.specs.declared.instructions.Arg.{Arg}
use Rattle.ir_core.specs.declared.instructions.Arg.TheVariants as arg
use Rattle.ir_core.specs.declared.instructions.BlockCall.{BlockCall}
use Rattle.ir_core.specs.Lists.{In, Each}
use Rattle.ir_core.specs.Lookup.{line_definitions, definitions, block_numbers}
use Rattle.ir_core.specs.Module.{Simple, Line, Block, Function, Module, CallTarget, TryTarget, Instruction}
use Rattle.ir_core.specs.Module as insts
use Rattle.ir_core.specs.Uses.{operands, targets, arg_values_used, targets_used, slots_shown, simple_slots, simple_callees, called_callees, called_sigs}
use Rattle.ir_core.specs.WellFormed.{declared, LineWellFormed, BlockWellFormed, WellFormed}
use Rattle.ir_text.specs.Numbering.{Numbering, numbering_of}
use Rattle.ir_text.specs.Writable.{greatest_number, FunctionWritable}
use Rattle.ir_core.proofs.Members.{each_left, each_more, each_right, in_left, in_right, each_by}
use Rattle.text_read_back.proofs.Lists.{below_length, type_there}
use Rattle.text_read_back.proofs.Sizes.{Counts, counts}
use Rattle.text_read_back.proofs.Spellable.{ValueFits, BlockFits, ArgFits, TargetFits, SimpleNumbers, CalledNumbers, Numbers, TagSpellable, LineSpellable, ParamSpellable, BlockSpellable, FunctionSpellable, ModuleSpellable}

-- ---- instructions

module _ (f : Function) (is : WellFormed f) (c : Counts f 262144) where
  abbrev n : Numbering
  n = numbering_of f

  slot_small : (k : ℕ) → k < length f.slots → k ≤ greatest_number
  slot_small k h = let m = c.slots in omega arith

  callee_small : (k : ℕ) → k < length f.callees → k ≤ greatest_number
  callee_small k h = let m = c.callees in omega arith

  sig_small : (k : ℕ) → k < length f.sigs → k ≤ greatest_number
  sig_small k h = let m = c.sigs in omega arith

  defined_fits : (v : ℕ) → In v (definitions f.blocks) → ValueFits n v
  defined_fits v h = let m = c.values in let k = below_length (definitions f.blocks) v h in omega arith

  value_fits : (v : ℕ) → In v (declared f) → ValueFits n v
  value_fits v h = defined_fits v (is.defined v h)

  block_fits : (b : ℕ) → In b (block_numbers f.blocks) → BlockFits n b
  block_fits b h = let m = c.blocks in let k = below_length (block_numbers f.blocks) b h in omega arith

  abbrev Declared : ℕ → Type 0
  Declared v = In v (declared f)

  args_fit : (xs : List Arg) → Each Declared (arg_values_used xs) → Each (ArgFits n) xs
  args_fit [] h = tt
  args_fit (arg.Value v ∷ xs) h = (value_fits v h.0, args_fit xs h.1)
  args_fit (arg.Ret k ∷ xs) h = (tt, args_fit xs h)
  args_fit (arg.Exn k ∷ xs) h = (tt, args_fit xs h)

  targets_fit : (ts : List BlockCall) → Each Declared (targets_used ts) → Each (λ b. In b (block_numbers f.blocks)) (map (λ t. t.block) ts) → Each (TargetFits n) ts
  targets_fit [] h b = tt
  targets_fit (t ∷ ts) h b = (
    (block_fits t.block b.0, args_fit t.args (each_left Declared (arg_values_used t.args) (targets_used ts) h)),
    targets_fit ts (each_right Declared (arg_values_used t.args) (targets_used ts) h) b.1,
  )

  simple_numbers : (i : Simple) → Each (λ k. k < length f.slots) (simple_slots i) → Each (λ k. k < length f.callees) (simple_callees i) → SimpleNumbers i
  simple_numbers insts.Nop s k = tt
  simple_numbers (insts.Const d) s k = tt
  simple_numbers (insts.Pure op args) s k = tt
  simple_numbers (insts.PureImm op x d) s k = tt
  simple_numbers (insts.Load a g p o) s k = tt
  simple_numbers (insts.Store narrow g x p o) s k = tt
  simple_numbers (insts.StackLoad t slot o) s k = slot_small slot s.0
  simple_numbers (insts.StackStore x slot o) s k = slot_small slot s.0
  simple_numbers (insts.FuncAddr callee) s k = callee_small callee k.0
  simple_numbers (insts.Trap code) s k = tt
  simple_numbers (insts.Trapz x code) s k = tt
  simple_numbers (insts.Trapnz x code) s k = tt

  called_numbers : (t : CallTarget) → Each (λ k. k < length f.callees) (called_callees t) → Each (λ k. k < length f.sigs) (called_sigs t) → CalledNumbers t
  called_numbers (insts.Direct callee) k s = callee_small callee k.0
  called_numbers (insts.Indirect sig p) k s = sig_small sig s.0

  tried_numbers : (t : TryTarget) (sig : ℕ) → Each (λ k. k < length f.callees) (called_callees (insts.call_target t sig)) → sig < length f.sigs → CalledNumbers (insts.call_target t sig)
  tried_numbers (insts.TryDirect callee) sig k s = callee_small callee k.0
  tried_numbers (insts.TryIndirect p) sig k s = sig_small sig s

  inst_numbers : (l : Line) (i : Instruction) → LineWellFormed f (record l { inst = i }) → Numbers i
  inst_numbers l (insts.Plain i) w = simple_numbers i w.slots w.callees
  inst_numbers l (insts.Branches b) w = tt
  inst_numbers l insts.SequencePoint w = tt
  inst_numbers l (insts.Return vs) w = tt
  inst_numbers l (insts.Call to args) w = called_numbers to w.callees w.sigs
  inst_numbers l (insts.ReturnCall to args) w = called_numbers to w.callees w.sigs
  inst_numbers l (insts.TryCall to sig args normal table) w = (tried_numbers to sig w.callees w.sigs.0, sig_small sig w.sigs.0)

  tags_spellable : (ts : List Tag) → Each (λ k. k < length f.slots) (slots_shown ts) → Each TagSpellable ts
  tags_spellable [] h = tt
  tags_spellable (tag.User k ∷ ts) h = (tt, tags_spellable ts h)
  tags_spellable (tag.Slot k ∷ ts) h = (slot_small k h.0, tags_spellable ts h.1)

  -- ---- lines, whose definitions stand among the function's

  abbrev Defined : ℕ → Type 0
  Defined v = In v (definitions f.blocks)

  line_spellable : (l : Line) → LineWellFormed f l → ((v : ℕ) → In v l.results → Defined v) → LineSpellable n l
  line_spellable l w d = record {
    inst = record {
      numbers = inst_numbers l l.inst w;
      values = each_more Declared (ValueFits n) value_fits (operands l.inst) (each_left Declared (operands l.inst) (targets_used (targets l.inst)) w.values);
      targets = targets_fit (targets l.inst) (each_right Declared (operands l.inst) (targets_used (targets l.inst)) w.values) w.blocks;
    };
    results = each_more Defined (ValueFits n) defined_fits l.results (each_by Defined l.results d);
    tags = tags_spellable l.tags w.shown;
  }

  lines_spellable : (ls : List Line) → Each (LineWellFormed f) ls → ((v : ℕ) → In v (line_definitions ls) → Defined v) → Each (LineSpellable n) ls
  lines_spellable [] h d = tt
  lines_spellable (l ∷ ls) h d = (
    line_spellable l h.0 (λ v k. d v (in_left v l.results (line_definitions ls) k)),
    lines_spellable ls h.1 (λ v k. d v (in_right v l.results (line_definitions ls) k)),
  )

  -- ---- blocks

  param_spellable : (v : ℕ) → Defined v → ParamSpellable f n v
  param_spellable v h = (defined_fits v h, type_there f.types v (is.definitions_declared v h))

  blocks_spellable : (bs : List Block) → ((v : ℕ) → In v (definitions bs) → Defined v) → ((b : ℕ) → In b (block_numbers bs) → In b (block_numbers f.blocks)) → Each (BlockWellFormed f) bs → Each (BlockSpellable f n) bs
  blocks_spellable [] d e w = tt
  blocks_spellable (b ∷ bs) d e w = (
    record {
      name = block_fits b.number (e b.number (inl refl));
      params = each_more Defined (ParamSpellable f n) param_spellable b.params (each_by Defined b.params (λ x k. d x (in_left x b.params (line_definitions b.lines ++ definitions bs) k)));
      lines = lines_spellable b.lines w.0 (λ x k. d x (in_right x b.params (line_definitions b.lines ++ definitions bs) (in_left x (line_definitions b.lines) (definitions bs) k)));
    },
    blocks_spellable bs (λ x k. d x (in_right x b.params (line_definitions b.lines ++ definitions bs) (in_right x (line_definitions b.lines) (definitions bs) k))) (λ x k. e x (inr k)) w.1,
  )

  callees_spellable : (cs : List Callee) → Each (λ (k : Callee). k.sig < length f.sigs) cs → Each (λ (k : Callee). k.sig ≤ greatest_number) cs
  callees_spellable [] h = tt
  callees_spellable (k ∷ ks) h = (sig_small k.sig h.0, callees_spellable ks h.1)

-- ---- functions and modules

function_spellable : (f : Function) → WellFormed f → FunctionWritable f → FunctionSpellable f
function_spellable f is w =
    let c = counts f 262144 w.size in
    record {
      blocks = is.begins;
      each = blocks_spellable f is c f.blocks (λ x k. k) (λ x k. k) is.lines;
      callees = callees_spellable f is c f.callees is.callees;
    }

pub module_spellable : (m : Module) → Each WellFormed m → Each FunctionWritable m → ModuleSpellable m
module_spellable [] is w = tt
module_spellable (f ∷ fs) is w = (function_spellable f is.0 w.0, module_spellable fs is.1 w.1)

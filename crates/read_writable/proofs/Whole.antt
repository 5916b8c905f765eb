-- A function that a text means is writable, and so is a module.
use Rattle.std.proofs.Common.{◌≡◌, ◌≢◌, ℕ, suc, ◌+◌, List, [], ◌∷◌, ◌++◌, length, slice_get, Option, Some, map, refl, sym, ap, subst, arith, inl, inr}
use Rattle.std.specs.Prelude.{flat_map}
use Rattle.std.specs.List.{enumerate_from}
use Rattle.std.proofs.lemmas.Bool.Decides.{leb_tells}
use Rattle.ir_core.specs.Lists.{In, Different, Each}
use Rattle.ir_core.specs.Module.{Block, Function}
use Rattle.ir_core.specs.Size.{size_of}
use Rattle.ir_core.specs.WellFormed.{LineWellFormed, BlockWellFormed, WellFormed}
use Rattle.ir_core.proofs.Members.{each_left, each_right, in_map, in_right, each_in}
use Rattle.ir_core.proofs.Gets.{get_some}
use Rattle.ir_semantics.specs.Renaming.{Renaming}
use Rattle.ir_text.specs.Writable.{LineWritable, FunctionWritable}
use Rattle.clif_lex.specs.declared.faults.TextKind.TheVariants.{Duplicate, TooLarge}
use Rattle.clif_insts.specs.declared.raw.RawInst.{RawInst}
use Rattle.token_reader.specs.declared.raw.RawName.{RawName}
use Rattle.clif_insts.specs.Marks.{Mark, Spot, MarkFormed, names_marks, inst_marks}
use Rattle.clif_insts.specs.OfForm.{InstFormed}
use Rattle.clif_read.specs.declared.raw.RawTag.{RawTag}
use Rattle.clif_read.specs.declared.raw.RawLine.{RawLine}
use Rattle.clif_read.specs.declared.raw.RawLine.TheVariants as line
use Rattle.clif_read.specs.declared.raw.RawBlock.{RawBlock}
use Rattle.clif_read.specs.declared.raw.RawFunction.{RawFunction}
use Rattle.clif_read.specs.Formed.{LineFormed, BlockFormed, FunctionFormed}
use Rattle.clif_read.specs.Marks.{name_spot, func_name_marks, decl_marks, tag_marks, location_marks, line_marks, block_param_marks, block_marks, function_marks}
use Rattle.name_tables.specs.Chains.{numbered}
use Rattle.name_tables.specs.Definitions.{Values, Param, Line as Written, block_steps, value_defs, lines}
use Rattle.clif_names.specs.FunctionNames.{NoFunctionFault}
use Rattle.clif_names.specs.Limits.{target_limits, operand_limits, tag_limits, line_limits}
use Rattle.name_tables.specs.Uses.{operand_targets}
use Rattle.clif_meaning.specs.Instructions.{line_of}
use Rattle.clif_meaning.specs.Meaning.{numbers, inst_type, function_with, block_with, lines_with, FunctionMeans, FunctionsMean}
use Rattle.clif_meaning.specs.Reads.{ReadIsModule}
use Rattle.clif_meaning.proofs.BoundLaws.{blocks_define}
use Rattle.clif_meaning.proofs.LimitLaws.{Kept, AllKept, name_kept, decls_kept, lines_kept}
use Rattle.clif_meaning.proofs.Lists.{in_flat_in}
use Rattle.clif_meaning.proofs.ModuleLaws.{size, meant_is_module}
use Rattle.clif_meaning.proofs.SizeLaws.{same_size}
use Rattle.clif_read.proofs.ModuleFormed.{text_formed}
use Rattle.read_writable.specs.Laws.{MeantIsWritable, ReadIsWritable}
use Rattle.read_writable.proofs.Lists.{each_given}
use Rattle.read_writable.proofs.Parts.{tags_writable, name_writable, slots_writable, callees_writable}
use Rattle.read_writable.proofs.Forms.{form_writable}
use Rattle.read_writable.proofs.Typed.{line_typed}

-- ---- a function without a fault, which is formed and means f

module _ (len : ℕ) (raw : RawFunction) (f : Function) (mf : FunctionMeans raw f) (free : NoFunctionFault raw)
    (formed : FunctionFormed raw) (marks : Each (MarkFormed len) (function_marks raw)) (is : WellFormed f) where
  abbrev F : Function
  F = function_with raw mf.value f.types

  abbrev at : Renaming
  at = numbers raw mf.value

  whole : WellFormed F
  whole = subst WellFormed mf.function is

  -- ---- its marks

  abbrev blocks_marks : List Mark
  blocks_marks = flat_map block_marks raw.blocks ++ (Spot raw.end_spot ∷ [])

  name_marked : Each (MarkFormed len) (func_name_marks raw.name)
  name_marked = each_left (MarkFormed len) (func_name_marks raw.name) (flat_map decl_marks raw.decls ++ blocks_marks) marks.1

  rest_marked : Each (MarkFormed len) (flat_map decl_marks raw.decls ++ blocks_marks)
  rest_marked = each_right (MarkFormed len) (func_name_marks raw.name) (flat_map decl_marks raw.decls ++ blocks_marks) marks.1

  decls_marked : Each (MarkFormed len) (flat_map decl_marks raw.decls)
  decls_marked = each_left (MarkFormed len) (flat_map decl_marks raw.decls) blocks_marks rest_marked

  blocks_marked : Each (MarkFormed len) (flat_map block_marks raw.blocks)
  blocks_marked =
      each_left (MarkFormed len) (flat_map block_marks raw.blocks) (Spot raw.end_spot ∷ [])
      (each_right (MarkFormed len) (flat_map decl_marks raw.decls) blocks_marks rest_marked)

  -- ---- its lines

  differ : Different (map (λ (r : RawName). mf.value r.number) (numbered (value_defs raw)))
  differ = subst Different (blocks_define raw mf.value f.types 0 raw.blocks) whole.defined_once

  module _ (b : RawBlock) (there : In b raw.blocks) where
    line_marked : (l : RawLine) → In l b.lines → Each (MarkFormed len) (line_marks l)
    line_marked l i =
        let own = each_given (MarkFormed len) block_marks raw.blocks blocks_marked b there in
        each_given (MarkFormed len) line_marks b.lines (each_right (MarkFormed len) (flat_map block_param_marks b.params) (flat_map line_marks b.lines) own.1) l i

    line_formed : (l : RawLine) → In l b.lines → LineFormed l
    line_formed l i = each_in LineFormed b.lines (each_in BlockFormed raw.blocks formed.blocks b there) l i

    line_kept : (l : RawLine) → In l b.lines → AllKept (line_limits l)
    line_kept l i = each_given Kept line_limits (lines raw) (lines_kept raw free) l (in_flat_in (λ (x : RawBlock). x.lines) raw.blocks b l there i)

    line_writable : (location : Option ℕ) (tags : List RawTag) (results : List RawName) (inst : RawInst) → In (line.Inst location tags results inst) b.lines
        → LineWellFormed F (line_of at (inst_type raw mf.value f.types inst) tags results inst)
        → LineWritable F (line_of at (inst_type raw mf.value f.types inst) tags results inst)
    line_writable location tags results inst i sound =
        let l = line.Inst location tags results inst in
        let t = inst_type raw mf.value f.types inst in
        let inst_formed : InstFormed inst = line_formed l i in
        let own = operand_limits inst.suffix inst.operands in
        let targets = flat_map target_limits (operand_targets inst.operands) in
        let shown = flat_map tag_limits tags in
        let fine = line_kept l i in
        let front = each_left Kept (shown ++ own) targets fine in
        let marked =
        each_right (MarkFormed len) (names_marks results) (inst_marks inst)
        (each_right (MarkFormed len) (flat_map tag_marks tags) (names_marks results ++ inst_marks inst)
        (each_right (MarkFormed len) (location_marks location) (flat_map tag_marks tags ++ (names_marks results ++ inst_marks inst)) (line_marked l i)))
        in
        let step = in_flat_in block_steps raw.blocks b (Written l) there (in_right (Written l) (map Param b.params) (map Written b.lines) (in_map Written l b.lines i)) in (
          form_writable len F whole.callees at (line_of at t tags results inst) inst.suffix inst.opcode.kind t inst.operands (record {
            of_form = inst_formed.operands;
            arguments = inst_formed.arguments;
            limits = each_right Kept shown own front;
            targets = each_right Kept (shown ++ own) targets fine;
            marks = marked.1;
            ty = refl;
            results = line_typed raw mf.value f.types mf.numbering (λ spot h. free Duplicate spot (Values, h)) mf.types differ location tags results inst step;
            callees = sound.callees;
            sigs = sound.sigs;
          }),
          tags_writable at tags (each_left Kept shown own front),
        )

    lines_writable : (ls : List RawLine) → ((l : RawLine) → In l ls → In l b.lines)
        → Each (LineWellFormed F) (flat_map (lines_with raw mf.value f.types) ls) → Each (LineWritable F) (flat_map (lines_with raw mf.value f.types) ls)
    lines_writable [] sub sound = tt
    lines_writable (line.Alias location x y ∷ ls) sub sound = lines_writable ls (λ l i. sub l (inr i)) sound
    lines_writable (line.Inst location tags results inst ∷ ls) sub sound = (
      line_writable location tags results inst (sub (line.Inst location tags results inst) (inl refl)) sound.0,
      lines_writable ls (λ l i. sub l (inr i)) sound.1,
    )

  blocks_writable : (k : ℕ) (bs : List RawBlock) → ((b : RawBlock) → In b bs → In b raw.blocks)
      → Each (BlockWellFormed F) (map (block_with raw mf.value f.types) (enumerate_from k bs))
      → Each (λ (b : Block). Each (LineWritable F) b.lines) (map (block_with raw mf.value f.types) (enumerate_from k bs))
  blocks_writable k [] sub sound = tt
  blocks_writable k (b ∷ bs) sub sound = (
    lines_writable b (sub b (inl refl)) b.lines (λ l i. i) sound.0,
    blocks_writable (k + 1) bs (λ c i. sub c (inr i)) sound.1,
  )

  -- ---- the whole

  meant_writable : FunctionWritable F
  meant_writable = record {
    name = name_writable len raw.name name_marked (name_kept raw free);
    slots = slots_writable raw.decls (decls_kept raw free);
    callees = callees_writable len at.sig 0 raw.decls decls_marked (decls_kept raw free);
    lines = blocks_writable 0 raw.blocks (λ b i. i) whole.lines;
    size = let small = size raw free in let own = same_size raw f mf in let meant = ap size_of mf.function in omega (arith, small, own, meant);
  }

  function_writable : FunctionWritable f
  function_writable = subst FunctionWritable (sym mf.function) meant_writable

-- ---- a module

functions_writable : (len : ℕ) (rs : List RawFunction) (fs : List Function) → ((i : ℕ) (r : RawFunction) → slice_get rs i ≡ Some r → NoFunctionFault r)
    → Each FunctionFormed rs → Each (MarkFormed len) (flat_map function_marks rs) → Each WellFormed fs → FunctionsMean rs fs → Each FunctionWritable fs
functions_writable len [] [] frees formed marks is h = tt
functions_writable len [] (f ∷ fs) frees formed marks is h = absurd h
functions_writable len (r ∷ rs) [] frees formed marks is h = absurd h
functions_writable len (r ∷ rs) (f ∷ fs) frees formed marks is h = (
  function_writable len r f h.0 (frees 0 r refl) formed.0 (each_left (MarkFormed len) (function_marks r) (flat_map function_marks rs) marks) is.0,
  functions_writable len rs fs (λ i. frees (suc i)) formed.1 (each_right (MarkFormed len) (function_marks r) (flat_map function_marks rs) marks) is.1 h.1,
)

as_many : (rs : List RawFunction) (fs : List Function) → FunctionsMean rs fs → length fs ≡ length rs
as_many [] [] h = refl
as_many [] (f ∷ fs) h = absurd h
as_many (r ∷ rs) [] h = absurd h
as_many (r ∷ rs) (f ∷ fs) h = ap suc (as_many rs fs h.1)

has_blocks : (rs : List RawFunction) → Each FunctionFormed rs → Each (λ (f : RawFunction). f.blocks ≢ []) rs
has_blocks [] h = tt
has_blocks (r ∷ rs) h = (h.0.begins, has_blocks rs h.1)

pub meant_is_writable : MeantIsWritable
meant_is_writable len raw m none formed means = record {
  functions =
      functions_writable len raw.functions m (λ i r at kind spot f. none kind spot (inr (i, r, at, f))) formed.functions
      (each_right (MarkFormed len) (map Spot raw.headers) (flat_map function_marks raw.functions) formed.marks.each)
      (meant_is_module raw m none (has_blocks raw.functions formed.functions) means).whole means;
  count = elim (leb_tells (length raw.functions) 65536) [
    | inl t ↦ (let few = t.1 in let same = as_many raw.functions m means in omega (arith, few, same))
    | inr many ↦ (let (r, there) = get_some raw.functions 65536 many.1 in absurd (none TooLarge (name_spot r.name) (inl (65536, r, there, refl, omega arith))))
  ];
}

pub read_is_writable : ReadIsWritable
read_is_writable text m (raw, read, none, means) = meant_is_writable (length text) raw m none (text_formed text raw read) means

pub read_is_module : ReadIsModule
read_is_module text m (raw, read, none, means) = meant_is_module raw m none (has_blocks raw.functions (text_formed text raw read).functions) means

-- The raw function of a whole function that is writable means its canonical form.
use Rattle.std.proofs.Common.{◌≡◌, ℕ, suc, ◌+◌, ◌<◌, ◌≤◌, nat_eq, Bool, true, false, cond, List, [], ◌∷◌, ◌++◌, map, length, Option, Some, None, refl, sym, ap, ap₂, subst, ◌∙◌, arith, inl, inr, append_assoc}
use Rattle.std.specs.Prelude.{◌⊎◌, flat_map, slice_get, IsSome}
use Rattle.std.specs.List.{range_with_len, enumerate_from}
use Rattle.std.proofs.lemmas.Bool.{eqb-true}
use Rattle.std.proofs.lemmas.List.{length-append, length-map, map-append}
use Rattle.std.proofs.lemmas.Grind.{flat_map-append}
use Rattle.ir_core.specs.declared.declarations.Callee.{Callee}
use Rattle.ir_core.specs.declared.declarations.SlotDecl.{SlotDecl}
use Rattle.ir_core.specs.declared.names.FuncName.{FuncName}
use Rattle.ir_core.specs.declared.signatures.Sig.{Sig}
use Rattle.ir_core.specs.declared.signatures.Ty.{Ty}
use Rattle.ir_core.specs.Lists.{In, Each}
use Rattle.ir_core.specs.Lookup.{and_then, type_in, type_of, signature_of, line_definitions, definitions, block_numbers, number_in}
use Rattle.ir_core.specs.Module.{CallTarget, Direct, Indirect, Line, Block, Function, Module}
use Rattle.ir_core.specs.WellFormed.{LineWellFormed, BlockWellFormed, WellFormed}
use Rattle.ir_semantics.specs.Canon.{canonical_names, types_in_order, canonical, canonical_module}
use Rattle.ir_semantics.specs.Renaming.{Renaming, called_under, line_under, block_under}
use Rattle.ir_text.specs.Numbering.{Numbering, numbering_of}
use Rattle.ir_text.specs.TextInstructions.{next_after}
use Rattle.ir_text.specs.Writable.{ResultTypes, LineWritable, FunctionWritable}
use Rattle.clif_insts.specs.declared.raw.RawInst.{RawInst}
use Rattle.clif_read.specs.declared.raw.RawFunction.{RawFunction}
use Rattle.name_tables.specs.Definitions.{Step, Param, Line as Written, block_steps}
use Rattle.clif_meaning.specs.Instructions.{may_leave_out, line_of}
use Rattle.clif_meaning.specs.Meaning as says
use Rattle.text_read_back.specs.RawOf as raws
use Rattle.ir_core.proofs.Members.{in_left, in_right, each_by}
use Rattle.text_read_back.proofs.Lists.{places, same_number, type_there}
use Rattle.names_read_back.specs.ReadNames.{printed}
use Rattle.names_read_back.proofs.CanonTypes.{types_kept}
use Rattle.names_read_back.proofs.Declarations.{name_back, sig_back, slots_back, sigs_back}
use Rattle.names_read_back.proofs.Numbers.{value_number, is_numbering, values_canonical, line_canonical, callees_read}
use Rattle.names_read_back.proofs.ResultTypes.{kept_is, some_type, form_types_are, results_typed}
use Rattle.names_read_back.proofs.Types.{inst_type, line_back}

-- ---- numbers in a list

member : (xs : List ℕ) (v : ℕ) → number_in xs v < length xs → In v xs
member [] v h = absurd (omega arith)
member (x ∷ xs) v h = go (nat_eq x v) refl h (member xs v)
  where
    go : (b : Bool) → nat_eq x v ≡ b → cond b 0 (suc (number_in xs v)) < suc (length xs) → (number_in xs v < length xs → In v xs) → (v ≡ x) ⊎ In v xs
    go true e k more = inl (sym (eqb-true x v e))
    go false e k more = inr (more (omega arith))

-- numbers of members tell them apart
one_number : (xs : List ℕ) (v w : ℕ) → In v xs → In w xs → number_in xs v ≡ number_in xs w → v ≡ w
one_number [] v w h k e = absurd h
one_number (x ∷ xs) v w h k e = go (nat_eq x v) refl (nat_eq x w) refl h k e (one_number xs v w)
  where
    differ : (a b : ℕ) → nat_eq a b ≡ false → b ≡ a → ⊥
    differ a b e k = absurd (let bad : nat_eq a b ≡ true = rw k (same_number a) in cc)

    past : (a : ℕ) → nat_eq x a ≡ false → (a ≡ x) ⊎ In a xs → In a xs
    past a e (inl s) = absurd (differ x a e s)
    past a e (inr k) = k

    go : (b : Bool) → nat_eq x v ≡ b → (c : Bool) → nat_eq x w ≡ c → (v ≡ x) ⊎ In v xs → (w ≡ x) ⊎ In w xs → cond b 0 (suc (number_in xs v)) ≡ cond c 0 (suc (number_in xs w))
        → (In v xs → In w xs → number_in xs v ≡ number_in xs w → v ≡ w) → v ≡ w
    go true p true q h k e more = sym (eqb-true x v p) ∙ eqb-true x w q
    go true p false q h k e more = absurd (omega arith)
    go false p true q h k e more = absurd (omega arith)
    go false p false q h k e more = more (past v p h) (past w q k) (omega arith)

-- ---- types in order of definition

-- values that are numbered from k on have their types in the order of a list
types_enumerated : (new : ℕ → ℕ) (types : List (ℕ × Ty)) (k : ℕ) (vs : List ℕ) (ts : List Ty) → map (type_in types) vs ≡ map some_type ts → map new vs ≡ range_with_len k (length vs)
    → types_in_order new types vs ≡ enumerate_from k ts
types_enumerated new types k [] [] e q = refl
types_enumerated new types k [] (t ∷ ts) e q = absurd cc
types_enumerated new types k (v ∷ vs) [] e q = absurd cc
types_enumerated new types k (v ∷ vs) (t ∷ ts) e q =
    let own : type_in types v ≡ Some t = cc in
    let others : map (type_in types) vs ≡ map some_type ts = cc in
    let first : new v ≡ k = cc in
    let rest : map new vs ≡ range_with_len (k + 1) (length vs) = cc in
    rw own (ap₂ (λ (j : ℕ) (xs : List (ℕ × Ty)). (j, t) ∷ xs) first (types_enumerated new types (k + 1) vs ts others rest))

type_or_is : (o : Option Ty) → IsSome o → o ≡ some_type (raws.type_or o)
type_or_is (Some t) h = refl
type_or_is None h = absurd cc

module _ (f : Function) (is : WellFormed f) where
  abbrev n : Numbering
  n = numbering_of f

  abbrev raw : RawFunction
  raw = raws.raw_function f

  abbrev value : ℕ → ℕ
  value = value_number f is

  abbrev types : List (ℕ × Ty)
  types = (canonical f).types

  abbrev at : Renaming
  at = says.numbers raw value

  abbrev names : Renaming
  names = canonical_names f

  -- what the raw function means with the canonical types
  abbrev meant : Function
  meant = says.function_with raw value types

  abbrev Defined : ℕ → Type 0
  Defined v = In v (definitions f.blocks)

  typed : (v : ℕ) → number_in n.values v < length (definitions f.blocks) → type_in types (at.value (number_in n.values v)) ≡ type_of f v
  typed v h =
      let k = member (definitions f.blocks) v h in
      ap (type_in types) (values_canonical f is v k) ∙ types_kept names.value f.types v (definitions f.blocks) (λ u j e. one_number (definitions f.blocks) u v j k e) (inl k)

  -- ---- lines, where the next value that is defined has the number next

  module _ (next : ℕ) (few : next ≤ length (definitions f.blocks)) (l : Line) (h : LineWritable f l) where
    abbrev own : RawInst
    own = printed f n next l

    before : (v : ℕ) → number_in n.values v < next → type_in types (at.value (number_in n.values v)) ≡ type_of f v
    before v k = typed v (omega arith)

    line_is : LineWellFormed f l → ((v : ℕ) → In v l.results → Defined v) → says.lines_with raw value types (raws.line f n next l) ≡ line_under names l ∷ []
    line_is w d = ap (λ (x : Line). x ∷ []) (line_back f n at (type_in types) next before l h.0 ∙ line_canonical f is l w (each_by Defined l.results d))

    abbrev line_read : Line
    line_read = line_of at (says.inst_type raw value types own) (map raws.debug_tag l.tags) (raws.values n l.results) own

    -- the types of its results are those that its form gives
    results_are : LineWellFormed f l → ((v : ℕ) → In v l.results → Defined v) → ((t : CallTarget) → signature_of meant (called_under names t) ≡ signature_of f t)
        → map (type_of f) l.results ≡ map some_type (says.line_types raw value types (raws.line f n next l))
    results_are w d same =
        let both = inst_type f n at (type_in types) next before l l.inst h.0 in
        let u = says.inst_type raw value types own in
        let form = form_types_are f meant names same l u (λ t e. kept_is (may_leave_out own.opcode.kind own.operands) u t (both.1 ∙ e)) l.inst h.0 in
        let same_line : line_read ≡ line_under names l = line_back f n at (type_in types) next before l h.0 ∙ line_canonical f is l w (each_by Defined l.results d) in
        results_typed f n l.results (says.form_types meant line_read.inst u)
        (subst (λ (x : Line). ResultTypes f l.results (says.form_types meant x.inst u)) (sym same_line) form)

  -- ---- the lines of a block: some are left of all definitions

  abbrev AllDefined : List ℕ → Type 0
  AllDefined vs = (v : ℕ) → In v vs → Defined v

  abbrev SameSignatures : Type 0
  SameSignatures = (t : CallTarget) → signature_of meant (called_under names t) ≡ signature_of f t

  fewer : (a b c m : ℕ) → a + (b + c) ≤ m → (a + b) + c ≤ m
  fewer a b c m h = omega arith

  lines_are : (next : ℕ) (ls : List Line) → next + length (line_definitions ls) ≤ length (definitions f.blocks) → Each (LineWritable f) ls → Each (LineWellFormed f) ls → AllDefined (line_definitions ls)
      → flat_map (says.lines_with raw value types) (raws.lines f n next ls) ≡ map (line_under names) ls
  lines_are next [] few h w d = refl
  lines_are next (l ∷ ls) few h w d =
      let e = length-append l.results (line_definitions ls) in
      ap₂ (λ (xs ys : List Line). xs ++ ys) (line_is next (omega arith) l h.0 w.0 (λ v k. d v (in_left v l.results (line_definitions ls) k)))
      (lines_are (next + length l.results) ls (omega arith) h.1 w.1 (λ v k. d v (in_right v l.results (line_definitions ls) k)))

  abbrev types_of_steps : List Step → List Ty
  types_of_steps ss = flat_map (says.step_types raw value types) ss

  lines_typed : SameSignatures → (next : ℕ) (ls : List Line) → next + length (line_definitions ls) ≤ length (definitions f.blocks) → Each (LineWritable f) ls → Each (LineWellFormed f) ls → AllDefined (line_definitions ls)
      → map (type_of f) (line_definitions ls) ≡ map some_type (types_of_steps (map Written (raws.lines f n next ls)))
  lines_typed same next [] few h w d = refl
  lines_typed same next (l ∷ ls) few h w d =
      let e = length-append l.results (line_definitions ls) in
      let own = results_are next (omega arith) l h.0 w.0 (λ v k. d v (in_left v l.results (line_definitions ls) k)) same in
      let rest = lines_typed same (next + length l.results) ls (omega arith) h.1 w.1 (λ v k. d v (in_right v l.results (line_definitions ls) k)) in
      map-append (type_of f) l.results (line_definitions ls)
      ∙ ap₂ (λ (xs ys : List (Option Ty)). xs ++ ys) own rest
      ∙ sym (map-append some_type (says.line_types raw value types (raws.line f n next l)) (types_of_steps (map Written (raws.lines f n (next + length l.results) ls))))

  -- ---- blocks

  declared_type : (v : ℕ) → Defined v → IsSome (type_of f v)
  declared_type v h = type_there f.types v (is.definitions_declared v h)

  params_typed : (vs : List ℕ) → AllDefined vs → map (type_of f) vs ≡ map some_type (types_of_steps (map Param (map (raws.block_parameter f n) vs)))
  params_typed [] d = refl
  params_typed (v ∷ vs) d = ap₂ (λ (x : Option Ty) (xs : List (Option Ty)). x ∷ xs) (type_or_is (type_of f v) (declared_type v (d v (inl refl)))) (params_typed vs (λ w k. d w (inr k)))

  params_are : (vs : List ℕ) → AllDefined vs → map (λ p. value p.value.number) (map (raws.block_parameter f n) vs) ≡ map names.value vs
  params_are [] d = refl
  params_are (v ∷ vs) d = ap₂ (λ (x : ℕ) (xs : List ℕ). x ∷ xs) (values_canonical f is v (d v (inl refl))) (params_are vs (λ w k. d w (inr k)))

  abbrev block_made : ℕ → List ℕ → List Line → Block
  block_made k vs ls = record { number = k; params = vs; lines = ls }

  record Left (next : ℕ) (bs : List Block) : Type 0 where
    pub few : next + length (definitions bs) ≤ length (definitions f.blocks)
    pub writable : Each (λ (b : Block). Each (LineWritable f) b.lines) bs
    pub formed : Each (BlockWellFormed f) bs
    pub defined : AllDefined (definitions bs)

  module _ (next : ℕ) (b : Block) (bs : List Block) (left : Left next (b ∷ bs)) where
    few_lines : (next + length b.params) + length (line_definitions b.lines) ≤ length (definitions f.blocks)
    few_lines =
        let few = left.few in
        let d = length-append b.params (line_definitions b.lines ++ definitions bs) in
        let e = length-append (line_definitions b.lines) (definitions bs) in
        omega arith

    own_params : AllDefined b.params
    own_params v k = left.defined v (in_left v b.params (line_definitions b.lines ++ definitions bs) k)

    own_lines : AllDefined (line_definitions b.lines)
    own_lines v k = left.defined v (in_right v b.params (line_definitions b.lines ++ definitions bs) (in_left v (line_definitions b.lines) (definitions bs) k))

    others : Left (next_after next b) bs
    others =
        let few = left.few in
        let d = length-append b.params (line_definitions b.lines ++ definitions bs) in
        let e = length-append (line_definitions b.lines) (definitions bs) in
        let h = left.writable in let w = left.formed in
        record {
          few = omega arith;
          writable = h.1;
          formed = w.1;
          defined = λ v k. left.defined v (in_right v b.params (line_definitions b.lines ++ definitions bs) (in_right v (line_definitions b.lines) (definitions bs) k));
        }

    one_block : (k : ℕ) → names.block b.number ≡ k → says.block_with raw value types (k, raws.block f n next b) ≡ block_under names b
    one_block k e =
        let h = left.writable in let w = left.formed in
        ap₂ (λ (vs : List ℕ) (ls : List Line). block_made k vs ls) (params_are b.params own_params) (lines_are (next + length b.params) b.lines few_lines h.0 w.0 own_lines)
        ∙ ap (λ (j : ℕ). block_made j (map names.value b.params) (map (line_under names) b.lines)) (sym e)

    block_typed : SameSignatures → map (type_of f) (b.params ++ line_definitions b.lines) ≡ map some_type (types_of_steps (block_steps (raws.block f n next b)))
    block_typed same =
        let h = left.writable in let w = left.formed in
        let ps = map Param (map (raws.block_parameter f n) b.params) in
        let ls = map Written (raws.lines f n (next + length b.params) b.lines) in
        map-append (type_of f) b.params (line_definitions b.lines)
        ∙ ap₂ (λ (xs ys : List (Option Ty)). xs ++ ys) (params_typed b.params own_params) (lines_typed same (next + length b.params) b.lines few_lines h.0 w.0 own_lines)
        ∙ sym (ap (map some_type) (flat_map-append (says.step_types raw value types) ps ls) ∙ map-append some_type (types_of_steps ps) (types_of_steps ls))

  blocks_are : (k next : ℕ) (bs : List Block) → Left next bs → map names.block (block_numbers bs) ≡ range_with_len k (length bs) → map (says.block_with raw value types) (enumerate_from k (raws.blocks f n next bs)) ≡ map (block_under names) bs
  blocks_are k next [] left e = refl
  blocks_are k next (b ∷ bs) left e =
      let first : names.block b.number ≡ k = cc in
      let rest : map names.block (block_numbers bs) ≡ range_with_len (k + 1) (length bs) = cc in
      ap₂ (λ (x : Block) (xs : List Block). x ∷ xs) (one_block next b bs left k first) (blocks_are (k + 1) (next_after next b) bs (others next b bs left) rest)

  blocks_typed : SameSignatures → (next : ℕ) (bs : List Block) → Left next bs → map (type_of f) (definitions bs) ≡ map some_type (types_of_steps (flat_map block_steps (raws.blocks f n next bs)))
  blocks_typed same next [] left = refl
  blocks_typed same next (b ∷ bs) left =
      let steps = block_steps (raws.block f n next b) in
      let more = flat_map block_steps (raws.blocks f n (next_after next b) bs) in
      ap (map (type_of f)) (sym (append_assoc b.params (line_definitions b.lines) (definitions bs)))
      ∙ map-append (type_of f) (b.params ++ line_definitions b.lines) (definitions bs)
      ∙ ap₂ (λ (xs ys : List (Option Ty)). xs ++ ys) (block_typed next b bs left same) (blocks_typed same (next_after next b) bs (others next b bs left))
      ∙ sym (ap (map some_type) (flat_map-append (says.step_types raw value types) steps more) ∙ map-append some_type (types_of_steps steps) (types_of_steps more))

  -- ---- the whole function

  same_signatures : SameSignatures
  same_signatures (Direct k) =
      ap₂ (λ (cs : List Callee) (ss : List Sig). and_then (and_then (slice_get cs k) (λ c. Some c.sig)) (slice_get ss)) (callees_read f is) (sigs_back f)
  same_signatures (Indirect s a) = ap (λ (ss : List Sig). slice_get ss s) (sigs_back f)

  abbrev made : FuncName → Sig → List SlotDecl → List Sig → List Callee → List Block → Function
  made name sig slots sigs callees blocks = record { name = name; sig = sig; slots = slots; sigs = sigs; callees = callees; types = types; blocks = blocks }

  all_left : FunctionWritable f → Left 0 f.blocks
  all_left w = record { few = omega arith; writable = w.lines; formed = is.lines; defined = λ v k. k }

  block_places : map names.block (block_numbers f.blocks) ≡ range_with_len 0 (length f.blocks)
  block_places = places (block_numbers f.blocks) is.blocks ∙ ap (range_with_len 0) (length-map f.blocks (λ (b : Block). b.number))

  pub function_is : FunctionWritable f → meant ≡ canonical f
  function_is w =
      let blocks = map (says.block_with raw value types) (enumerate_from 0 raw.blocks) in
      ap₂ (λ (x : FuncName) (s : Sig). made x s meant.slots meant.sigs meant.callees blocks) (name_back f.name) (sig_back f.sig)
      ∙ ap₂ (λ (x : List SlotDecl) (s : List Sig). made f.name f.sig x s meant.callees blocks) (slots_back f) (sigs_back f)
      ∙ ap₂ (λ (x : List Callee) (bs : List Block). made f.name f.sig f.slots f.sigs x bs) (callees_read f is) (blocks_are 0 0 f.blocks (all_left w) block_places)

  pub types_are : FunctionWritable f → types ≡ enumerate_from 0 (says.value_types raw value types)
  types_are w = types_enumerated names.value f.types 0 (definitions f.blocks) (says.value_types raw value types) (blocks_typed same_signatures 0 f.blocks (all_left w)) (places (definitions f.blocks) is.defined_once)

  function_means : FunctionWritable f → says.FunctionMeans raw (canonical f)
  function_means w = record { value = value; numbering = is_numbering f is; function = sym (function_is w); types = types_are w }

pub module_means : (m : Module) → Each WellFormed m → Each FunctionWritable m → says.Means (raws.raw_of m) (canonical_module m)
module_means [] is w = tt
module_means (f ∷ fs) is w = (function_means f is.0 w.0, module_means fs is.1 w.1)

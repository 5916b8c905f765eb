-- A function that is meant is sound and whole.
use Rattle.std.proofs.Common.{◌≡◌, ◌≢◌, ℕ, suc, ◌+◌, ◌<◌, ◌≤◌, inl, inr, List, [], ◌∷◌, ◌++◌, length, Option, None, Some, map, refl, sym, ap, subst, ◌∙◌, arith, append_assoc, length-append, eq-eqb, ne_eqb}
use Rattle.std.specs.Prelude.{flat_map}
use Rattle.std.specs.List.{enumerate_from}
use Rattle.std.proofs.lemmas.Bool.{cases_eq}
use Rattle.std.proofs.lemmas.List.{length-map}
use Rattle.ir_core.specs.declared.signatures.Ty.{Ty}
use Rattle.ir_core.specs.Lists.{In, Different, Below, Each}
use Rattle.ir_core.specs.Module.{Line, Block, Function}
use Rattle.ir_core.specs.Lookup.{definitions as defined_values, line_definitions, block_numbers}
use Rattle.name_tables.specs.Words.{place_among}
use Rattle.ir_core.specs.Size.{total, block_size, line_size, size_of}
use Rattle.ir_core.specs.Sound.{Counts, counts_of, LineInRange, BlockInRange, instruction_count, IsSmall, IsSound, IsWhole}
use Rattle.ir_core.specs.WellFormed.{WellFormed}
use Rattle.ir_core.proofs.Keeping.{length_numbered, types_numbered}
use Rattle.ir_core.proofs.Members.{in_left, in_right, in_map, different_apart, each_by}
use Rattle.ir_core.proofs.Wholeness.{whole_of}
use Rattle.ir_core.proofs.Sizing.{sigs_count, blocks_count}
use Rattle.token_reader.specs.declared.raw.RawName.{RawName}
use Rattle.clif_read.specs.declared.raw.RawBlockParam.{RawBlockParam}
use Rattle.clif_read.specs.declared.raw.RawLine.{RawLine}
use Rattle.clif_read.specs.declared.raw.RawLine.TheVariants as line
use Rattle.clif_read.specs.declared.raw.RawBlock.{RawBlock}
use Rattle.clif_read.specs.declared.raw.RawFunction.{RawFunction}
use Rattle.name_tables.specs.declared.firsts.Def.{Def}
use Rattle.name_tables.specs.Definitions.{Kind, Slots, Sigs, Callees, Blocks, Values, Step, Param, Line as Written, value_def, line_defs, step_defs, block_steps, steps, value_defs, names_of, definitions, lines}
use Rattle.name_tables.specs.Uses.{line_uses, decl_uses, uses}
use Rattle.name_tables.specs.Words.{IsDefined, place_in}
use Rattle.name_tables.specs.Chains.{numbered}
use Rattle.clif_names.specs.Sizes.{raw_size}
use Rattle.clif_names.specs.Typing.{IsUntyped}
use Rattle.clif_meaning.specs.Meaning.{numbers, inst_type, decl_sigs, block_with, lines_with, function_with, value_types, FunctionMeans}
use Rattle.clif_meaning.proofs.Lists.{in_flat_in, numbered_long}
use Rattle.clif_meaning.proofs.OneMeaning.{counts}
use Rattle.clif_meaning.proofs.SizeLaws.{same_size}
use Rattle.clif_meaning.proofs.RangeLaws.{WordsInRange, line_in_range}
use Rattle.clif_meaning.proofs.BoundLaws.{place_below, value_below, slots_long, callees_long, sig_below, callees_below, blocks_define, own_place}
use Rattle.name_tables.proofs.DefinedWords.{NoRepeats, no_repeats_behind, not_behind}

-- ---- lists

map_on : {A B : Type 0} (f g : A → B) (xs : List A) → ((x : A) → In x xs → f x ≡ g x) → map f xs ≡ map g xs
map_on f g [] go = refl
map_on f g (x ∷ xs) go = ap (λ y. y ∷ map f xs) (go x (inl refl)) ∙ ap (λ ys. g x ∷ ys) (map_on f g xs (λ y i. go y (inr i)))

pub in_defined : (ns : List RawName) (r : RawName) → In r ns → IsDefined ns r.number
in_defined [] r i = absurd i
in_defined (x ∷ xs) r (inl e) = (0, x, refl, ap (λ (y : RawName). y.number) (sym e))
in_defined (x ∷ xs) r (inr i) = let p = in_defined xs r i in (suc p.0, p.1, p.2, p.3)

-- ---- numbers from k on, one for each element

numbers_from : {A : Type 0} → ℕ → List A → List ℕ
numbers_from k xs = map (λ x. x.0) (enumerate_from k xs)

module _ {A : Type 0} where
  from_range : (k : ℕ) (ts : List A) (v : ℕ) → In v (numbers_from k ts) → (k ≤ v) × (v < k + length ts)
  unfolding numbers_from
  from_range k [] v i = absurd i
  from_range k (t ∷ ts) v (inl e) = (omega (arith, e), omega (arith, e))
  from_range k (t ∷ ts) v (inr r) = let q = from_range (k + 1) ts v r in (omega (arith, q.0), omega (arith, q.1))

  from_in : (k : ℕ) (ts : List A) (v : ℕ) → k ≤ v → v < k + length ts → In v (numbers_from k ts)
  unfolding numbers_from
  from_in k [] v low high = absurd (omega (arith, low, high))
  from_in k (t ∷ ts) v low high = elim (cases_eq v k) [ inl e ↦ inl e | inr e ↦ inr (from_in (k + 1) ts v (omega (arith, low, e)) (omega (arith, high))) ]

  from_differ : (k : ℕ) (ts : List A) → Different (numbers_from k ts)
  unfolding numbers_from
  from_differ k [] = tt
  from_differ k (t ∷ ts) = ((λ i. (let q = from_range (k + 1) ts k i in absurd (omega (arith, q.0)))), from_differ (k + 1) ts)

  from_long : (k : ℕ) (ts : List A) → length (numbers_from k ts) ≡ length ts
  unfolding numbers_from
  from_long k [] = refl
  from_long k (t ∷ ts) = ap suc (from_long (k + 1) ts)

  from_below : (k n : ℕ) (ts : List A) → k + length ts ≤ n → Below n (numbers_from k ts)
  unfolding numbers_from
  from_below k n [] le = tt
  from_below k n (t ∷ ts) le = (omega (arith, le), from_below (k + 1) n ts (omega (arith, le)))

-- ---- the places of different words are their numbers in order

place_seam : (pre : List ℕ) (x : ℕ) (xs : List ℕ) → (In x pre → ⊥) → place_among (pre ++ x ∷ xs) x ≡ length pre
place_seam [] x xs out = rw (eq-eqb x x refl) refl
place_seam (y ∷ ys) x xs out = rw (ne_eqb y x (λ e. out (inl (sym e)))) (ap suc (place_seam ys x xs (λ i. out (inr i))))

places : (pre xs : List ℕ) → Different (pre ++ xs) → map (place_among (pre ++ xs)) xs ≡ numbers_from (length pre) xs
unfolding numbers_from
places pre [] d = refl
places pre (x ∷ xs) d =
    ap (λ y. y ∷ map (place_among (pre ++ x ∷ xs)) xs) (place_seam pre x xs (λ i. different_apart pre (x ∷ xs) x d i (inl refl)))
    ∙ ap (λ ys. length pre ∷ ys)
    (ap (λ zs. map (place_among zs) xs) (sym (append_assoc pre (x ∷ []) xs))
    ∙ places (pre ++ x ∷ []) xs (subst Different (sym (append_assoc pre (x ∷ []) xs)) d)
    ∙ ap (λ k. map (λ z. z.0) (enumerate_from k xs)) (length-append pre (x ∷ [])))

-- ---- words without repeats differ, and so do those of them that are no alias lines

words : List RawName → List ℕ
words ns = map (λ (n : RawName). n.number) ns

pub word_in : (ns : List RawName) (v : ℕ) → In v (map (λ (n : RawName). n.number) ns) → IsDefined ns v
word_in [] v i = absurd i
word_in (n ∷ ns) v (inl e) = (0, n, refl, sym e)
word_in (n ∷ ns) v (inr i) = let p = word_in ns v i in (suc p.0, p.1, p.2, p.3)

own_in : (ds : List Def) (v : ℕ) → In v (words (numbered ds)) → In v (words (names_of ds))
unfolding words
own_in [] v i = i
own_in (d ∷ ds) v i = by d.target i (own_in ds v)
  where
    by : (o : Option RawName) → In v (map (λ (n : RawName). n.number) (elim o as (λ o. List RawName) [ None ↦ d.name ∷ [] | Some m ↦ [] ] ++ numbered ds))
        → (In v (map (λ (n : RawName). n.number) (numbered ds)) → In v (map (λ (n : RawName). n.number) (names_of ds))) → In v (map (λ (n : RawName). n.number) (names_of (d ∷ ds)))
    by None (inl e) go = inl e
    by None (inr j) go = inr (go j)
    by (Some m) j go = inr (go j)

own_differ : (ds : List Def) → NoRepeats (names_of ds) → Different (words (numbered ds))
unfolding words
own_differ [] none = tt
own_differ (d ∷ ds) none = by d.target (own_differ ds (no_repeats_behind d.name (names_of ds) none)) (λ i. not_behind d.name (names_of ds) none (word_in (names_of ds) d.name.number (own_in ds d.name.number i)))
  where
    by : (o : Option RawName) → Different (map (λ (n : RawName). n.number) (numbered ds)) → (In d.name.number (map (λ (n : RawName). n.number) (numbered ds)) → ⊥)
        → Different (map (λ (n : RawName). n.number) (elim o as (λ o. List RawName) [ None ↦ d.name ∷ [] | Some m ↦ [] ] ++ numbered ds))
    by None rest out = (out, rest)
    by (Some m) rest out = rest

-- ---- sizes

lines_count : (ls : List Line) → (length ls ≤ total line_size ls) × (length (line_definitions ls) ≤ total line_size ls)
lines_count [] = (omega arith, omega arith)
lines_count (l ∷ ls) = let a = lines_count ls in let p = a.0 in let q = a.1 in (omega (arith, p), omega (arith, q, length-append l.results (line_definitions ls)))

insts_count : (bs : List Block) → instruction_count bs ≤ total block_size bs
insts_count [] = omega arith
insts_count (b ∷ bs) = let a = insts_count bs in let p = (lines_count b.lines).0 in omega (arith, a, p)

pub values_count : (bs : List Block) → length (defined_values bs) ≤ total block_size bs
values_count [] = omega arith
values_count (b ∷ bs) =
    let a = values_count bs in let p = (lines_count b.lines).1 in
    omega (arith, a, p, length-append b.params (line_definitions b.lines ++ defined_values bs), length-append (line_definitions b.lines) (defined_values bs))

small : (f : Function) → size_of f ≤ 262144 → length f.types ≡ length (defined_values f.blocks) → IsSmall f
small f le same = record {
  slots = omega (arith, le);
  sigs = let a = sigs_count f.sigs in omega (arith, le, a);
  callees = omega (arith, le);
  values = let a = values_count f.blocks in omega (arith, le, a, same);
  blocks = let a = blocks_count f.blocks in omega (arith, le, a);
  instructions = let a = insts_count f.blocks in omega (arith, le, a);
}

-- ---- the function that is meant

module _ (raw : RawFunction) (f : Function) (mf : FunctionMeans raw f)
    (used : (k : Kind) (u : RawName) → In u (uses raw k) → IsDefined (definitions raw k) u.number)
    (none : NoRepeats (names_of (value_defs raw))) (free : (spot : ℕ) → IsUntyped raw spot → ⊥) (le : raw_size raw ≤ 262144) (begins : raw.blocks ≢ []) where
  abbrev F : Function
  F = function_with raw mf.value f.types

  abbrev ts : List Ty
  ts = value_types raw mf.value f.types

  own : List RawName
  own = numbered (value_defs raw)

  value_count : length f.types ≡ length own
  unfolding own
  value_count = ap length mf.types ∙ length_numbered 0 ts ∙ counts raw mf.value f.types (steps raw)

  -- the values that are defined are those from 0 on
  values_in_order : defined_values F.blocks ≡ numbers_from 0 (words own)
  unfolding own words
  values_in_order =
      blocks_define raw mf.value f.types 0 raw.blocks
      ∙ map_on (λ (r : RawName). mf.value r.number) (λ (r : RawName). place_in own r.number) own (λ r i. own_place (value_defs raw) mf.value mf.numbering none r i)
      ∙ map_through own
      ∙ places [] (words own) (own_differ (value_defs raw) none)
    where
      map_through : (rs : List RawName) → map (λ (r : RawName). place_in own r.number) rs ≡ map (place_among (words own)) (words rs)
      map_through [] = refl
      map_through (r ∷ rs) = ap (λ xs. place_in own r.number ∷ xs) (map_through rs)

  own_long : length (words own) ≡ length f.types
  unfolding words
  own_long = length-map own (λ (n : RawName). n.number) ∙ sym value_count

  pub is_whole : IsWhole F
  is_whole = record {
    has_block = by raw.blocks begins;
    defined = λ v lt. subst (In v) (sym values_in_order) (from_in 0 (words own) v (omega arith) (omega (arith, lt, own_long)));
    once = subst Different (sym values_in_order) (from_differ 0 (words own));
  }
    where
      by : (bs : List RawBlock) → bs ≢ [] → 0 < length (map (block_with raw mf.value f.types) (enumerate_from 0 bs))
      by [] some = absurd (some refl)
      by (b ∷ bs) some = omega arith

  -- ---- ranges

  n : Counts
  n = counts_of F

  value_there : (u : RawName) → IsDefined (names_of (value_defs raw)) u.number → mf.value u.number < length f.types
  unfolding own
  value_there u h = let a = value_below (value_defs raw) mf.value mf.numbering u.number h in omega (arith, a, value_count)

  block_there : (u : RawName) → IsDefined (definitions raw Blocks) u.number → place_in (definitions raw Blocks) u.number < length F.blocks
  block_there u h = let a = place_below (definitions raw Blocks) u.number h in omega (arith, a, length-map raw.blocks (λ (b : RawBlock). b.block), numbered_long (block_with raw mf.value f.types) 0 raw.blocks)

  slot_there : (u : RawName) → IsDefined (definitions raw Slots) u.number → place_in (definitions raw Slots) u.number < length F.slots
  slot_there u h = let a = place_below (definitions raw Slots) u.number h in omega (arith, a, slots_long raw.decls)

  callee_there : (u : RawName) → IsDefined (definitions raw Callees) u.number → place_in (definitions raw Callees) u.number < length F.callees
  callee_there u h = let a = place_below (definitions raw Callees) u.number h in omega (arith, a, callees_long (numbers raw mf.value).sig 0 raw.decls)

  sig_there : (u : RawName) → IsDefined (definitions raw Sigs) u.number → (numbers raw mf.value).sig u.number < length F.sigs
  sig_there u h = let a = sig_below raw.decls u.number h in omega (arith, a, length-map (flat_map decl_sigs raw.decls) (λ s. s.1))

  line_used : (k : Kind) (l : RawLine) → In l (lines raw) → (u : RawName) → In u (line_uses k l) → IsDefined (definitions raw k) u.number
  line_used k l i u j = used k u (in_right u (flat_map (decl_uses k) raw.decls) (flat_map (line_uses k) (lines raw)) (in_flat_in (line_uses k) (lines raw) l u i j))

  words_there : (l : RawLine) → In l (lines raw) → WordsInRange n (numbers raw mf.value) l
  unfolding n
  words_there l i = record {
    values = each_by (λ (u : RawName). mf.value u.number < length f.types) (line_uses Values l) (λ u j. value_there u (line_used Values l i u j));
    blocks = each_by (λ (u : RawName). place_in (definitions raw Blocks) u.number < length F.blocks) (line_uses Blocks l) (λ u j. block_there u (line_used Blocks l i u j));
    slots = each_by (λ (u : RawName). place_in (definitions raw Slots) u.number < length F.slots) (line_uses Slots l) (λ u j. slot_there u (line_used Slots l i u j));
    callees = each_by (λ (u : RawName). place_in (definitions raw Callees) u.number < length F.callees) (line_uses Callees l) (λ u j. callee_there u (line_used Callees l i u j));
    sigs = each_by (λ (u : RawName). (numbers raw mf.value).sig u.number < length F.sigs) (line_uses Sigs l) (λ u j. sig_there u (line_used Sigs l i u j));
  }

  -- a definition of a step of a block is one of the function
  def_there : (b : RawBlock) → In b raw.blocks → (s : Step) → In s (block_steps b) → (d : Def) → In d (step_defs s) → mf.value d.name.number < length f.types
  def_there b i s j d k =
      value_there d.name (in_defined (names_of (value_defs raw)) d.name
      (in_map (λ (x : Def). x.name) d (value_defs raw) (in_flat_in step_defs (steps raw) s d (in_flat_in block_steps raw.blocks b s i j) k)))

  result_there : (b : RawBlock) → In b raw.blocks → (l : RawLine) → In l b.lines → (d : Def) → In d (line_defs l) → mf.value d.name.number < length f.types
  result_there b i l j d k = def_there b i (Written l) (in_right (Written l) (map Param b.params) (map Written b.lines) (in_map Written l b.lines j)) d k

  lines_there : (b : RawBlock) → In b raw.blocks → (ls : List RawLine) → ((l : RawLine) → In l ls → In l b.lines) → Each (LineInRange n) (flat_map (lines_with raw mf.value f.types) ls)
  unfolding n
  lines_there b i [] sub = tt
  lines_there b i (line.Alias location x y ∷ ls) sub = lines_there b i ls (λ l j. sub l (inr j))
  lines_there b i (line.Inst location tags results inst ∷ ls) sub = (
    line_in_range (counts_of F) (numbers raw mf.value) (inst_type raw mf.value f.types inst) location tags results inst
        (words_there (line.Inst location tags results inst) (in_flat_in (λ (x : RawBlock). x.lines) raw.blocks b (line.Inst location tags results inst) i (sub (line.Inst location tags results inst) (inl refl))))
        (each_by (λ (u : RawName). mf.value u.number < length f.types) results
        (λ u j. result_there b i (line.Inst location tags results inst) (sub (line.Inst location tags results inst) (inl refl)) (value_def u) (in_map value_def u results j))),
    lines_there b i ls (λ l j. sub l (inr j)),
  )

  params_there : (b : RawBlock) → In b raw.blocks → (ps : List RawBlockParam) → ((p : RawBlockParam) → In p ps → In p b.params) → Below (length f.types) (map (λ p. mf.value p.value.number) ps)
  params_there b i [] sub = tt
  params_there b i (p ∷ ps) sub = (
    def_there b i (Param p) (in_left (Param p) (map Param b.params) (map Written b.lines) (in_map Param p b.params (sub p (inl refl)))) (value_def p.value) (inl refl),
    params_there b i ps (λ q j. sub q (inr j)),
  )

  blocks_there : (k : ℕ) (bs : List RawBlock) → ((b : RawBlock) → In b bs → In b raw.blocks) → Each (BlockInRange n) (map (block_with raw mf.value f.types) (enumerate_from k bs))
  unfolding n
  blocks_there k [] sub = tt
  blocks_there k (b ∷ bs) sub = (
    record { params = params_there b (sub b (inl refl)) b.params (λ p i. i); lines = lines_there b (sub b (inl refl)) b.lines (λ l i. i) },
    blocks_there (k + 1) bs (λ c i. sub c (inr i)),
  )

  block_numbers_are : (k : ℕ) (bs : List RawBlock) → block_numbers (map (block_with raw mf.value f.types) (enumerate_from k bs)) ≡ numbers_from k bs
  unfolding numbers_from
  block_numbers_are k [] = refl
  block_numbers_are k (b ∷ bs) = ap (λ xs. k ∷ xs) (block_numbers_are (k + 1) bs)

  pub sound : IsSound F
  unfolding n
  sound = record {
    callees = callees_below (numbers raw mf.value).sig (length F.sigs) 0 raw.decls (omega (arith, length-map (flat_map decl_sigs raw.decls) (λ s. s.1)))
        (λ u i. sig_there u (used Sigs u (in_left u (flat_map (decl_uses Sigs) raw.decls) (flat_map (line_uses Sigs) (lines raw)) i)));
    blocks = blocks_there 0 raw.blocks (λ b i. i);
    numbered = mf.types ∙ ap (enumerate_from 0) (sym (types_numbered 0 ts)) ∙ ap (λ xs. enumerate_from 0 (map (λ typed. typed.1) xs)) (sym mf.types);
    defined_once = is_whole.once;
    block_range = subst (Below (length F.blocks)) (sym (block_numbers_are 0 raw.blocks)) (from_below 0 (length F.blocks) raw.blocks (omega (arith, numbered_long (block_with raw mf.value f.types) 0 raw.blocks)));
    blocks_differ = subst Different (sym (block_numbers_are 0 raw.blocks)) (from_differ 0 raw.blocks);
    small = small F (let a = same_size raw f mf in let b = ap size_of mf.function in omega (arith, le, a, b)) (let a = ap length values_in_order in omega (arith, a, own_long, from_long 0 (words own)));
  }

  pub meant_whole : WellFormed f
  meant_whole = subst WellFormed (sym mf.function) (whole_of F sound is_whole)

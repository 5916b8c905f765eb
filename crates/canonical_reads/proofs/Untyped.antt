-- In a raw function that says what a writable function's own one says each operand whose type is asked for stands for a
-- definition before it.
use Rattle.std.proofs.Common.{◌≡◌, ℕ, zero, suc, ◌+◌, ◌<◌, List, [], ◌∷◌, ◌++◌, map, length, slice_get, take, drop, Option, Some, None, sym, ap, subst, ◌∙◌, arith, length-append}
use Rattle.std.specs.Prelude.{flat_map}
use Rattle.std.specs.List.{range_with_len}
use Rattle.std.proofs.lemmas.Grind.{flat_map-append}
use Rattle.std.proofs.lemmas.List.{length-map, map-append, take-append-drop}
use Rattle.ir_core.specs.Lists.{Each}
use Rattle.ir_core.specs.Lookup.{line_definitions}
use Rattle.ir_core.specs.Module.{Line as CoreLine, Block, Function}
use Rattle.ir_core.specs.WellFormed.{WellFormed}
use Rattle.ir_text.specs.Numbering.{Numbering, numbering_of}
use Rattle.ir_text.specs.TextInstructions.{next_after}
use Rattle.ir_text.specs.Writable.{LineWritable, FunctionWritable}
use Rattle.clif_lex.specs.declared.faults.TextKind.TheVariants.{Untyped}
use Rattle.clif_insts.specs.declared.raw.RawInst.{RawInst}
use Rattle.token_reader.specs.declared.raw.RawName.{RawName}
use Rattle.clif_read.specs.declared.raw.RawFunction.{RawFunction}
use Rattle.clif_read.specs.declared.raw.RawLine.TheVariants as raw_lines
use Rattle.name_tables.specs.declared.firsts.Def.{Def}
use Rattle.name_tables.specs.Chains.{onward, Ends, chain, or_lost, look}
use Rattle.name_tables.specs.Definitions.{Values, Step, Param, Line, value_def, step_defs, block_steps, steps, defs_of, value_defs, names_of}
use Rattle.clif_names.specs.Faults.{FunctionFault}
use Rattle.clif_names.specs.Typing.{asks, step_inst}
use Rattle.text_read_back.specs.Bare as bare
use Rattle.text_read_back.specs.Defining.{number_of}
use Rattle.text_read_back.specs.RawOf as raws
use Rattle.canonical_reads.proofs.Lists.{Within, front_defined}
use Rattle.names_read_back.proofs.Names.{IsNoAlias, found_is}
use Rattle.names_read_back.proofs.Numbers.{def_at, params_defs, block_defs}
use Rattle.names_read_back.proofs.TextMeans.{bare_step, steps_bare, step_defs_bare, no_aliases}
use Rattle.canonical_reads.proofs.Spotless.{asks_bare}
use Rattle.canonical_reads.proofs.Counted.{count}
use Rattle.canonical_reads.proofs.Undefined.{counted_here}
use Rattle.canonical_reads.proofs.Typed.{listed, asks_within}

-- ---- steps of the text, where the next definition has the number next

-- the operand whose type is asked for
abbrev asked : Step → List RawName
asked (Param p) = []
asked (Line (raw_lines.Alias location x y)) = []
asked (Line (raw_lines.Inst location ts rs i)) = listed (asks i)

-- each has a number below that of the next definition
abbrev InOrder : ℕ → List Step → Type 0
InOrder next [] = Unit {0}
InOrder next (s ∷ ss) = Within next (asked s) × InOrder (next + length (step_defs s)) ss

join : (next : ℕ) (ss ts : List Step) → InOrder next ss → InOrder (next + length (defs_of ss)) ts → InOrder next (ss ++ ts)
join next [] ts h k = subst (λ (j : ℕ). InOrder j ts) (let e : next + 0 ≡ next = omega arith in e) k
join next (s ∷ ss) ts h k =
    let long = length-append (step_defs s) (defs_of ss) in
    let e : next + length (step_defs s ++ defs_of ss) ≡ next + length (step_defs s) + length (defs_of ss) = omega (arith, long) in
    (h.0, join (next + length (step_defs s)) ss ts h.1 (subst (λ (j : ℕ). InOrder j ts) e k))

asked_at : (next : ℕ) (ss : List Step) → InOrder next ss → (i : ℕ) (s : Step) → slice_get ss i ≡ Some s → Within (next + length (defs_of (take i ss))) (asked s)
asked_at next [] h i s e = absurd cc
asked_at next (x ∷ xs) h zero s e =
    let same : x ≡ s = cc in
    let none : next ≡ next + 0 = omega arith in
    subst (λ (y : Step). Within (next + 0) (asked y)) same (subst (λ (j : ℕ). Within j (asked x)) none h.0)
asked_at next (x ∷ xs) h (suc i) s e =
    let long = length-append (step_defs x) (defs_of (take i xs)) in
    let more : next + length (step_defs x) + length (defs_of (take i xs)) ≡ next + length (step_defs x ++ defs_of (take i xs)) = omega (arith, long) in
    subst (λ (j : ℕ). Within j (asked s)) more (asked_at (next + length (step_defs x)) xs h.1 i s e)

-- ---- spots don't matter

listed_bare : (bound : ℕ) (x : Option RawName) → Within bound (listed (bare.bare_option bare.bare_name x)) → Within bound (listed x)
listed_bare bound None h = h
listed_bare bound (Some x) h = h

asked_bare : (bound : ℕ) (s : Step) → Within bound (asked (bare_step s)) → Within bound (asked s)
asked_bare bound (Param p) h = h
asked_bare bound (Line (raw_lines.Alias location x y)) h = h
asked_bare bound (Line (raw_lines.Inst location ts rs i)) h = listed_bare bound (asks i) (subst (λ (x : Option RawName). Within bound (listed x)) (asks_bare i) h)

in_order_bare : (next : ℕ) (ss : List Step) → InOrder next (map bare_step ss) → InOrder next ss
in_order_bare next [] h = tt
in_order_bare next (s ∷ ss) h =
    let long : length (step_defs (bare_step s)) ≡ length (step_defs s) = ap length (step_defs_bare s) ∙ length-map (step_defs s) _ in
    (asked_bare next s h.0, in_order_bare (next + length (step_defs s)) ss (subst (λ (j : ℕ). InOrder (next + j) (map bare_step ss)) long h.1))

-- ---- the steps of a writable function

module _ (f : Function) where
  abbrev n : Numbering
  n = numbering_of f

  params_order : (next : ℕ) (vs : List ℕ) → InOrder next (map Param (map (raws.block_parameter f n) vs))
  params_order next [] = tt
  params_order next (v ∷ vs) = (tt, params_order (next + 1) vs)

  results_long : (vs : List ℕ) → length (map value_def (map (raws.value n) vs)) ≡ length vs
  results_long vs = length-map (map (raws.value n) vs) value_def ∙ length-map vs (raws.value n)

  lines_order : (next : ℕ) (ls : List CoreLine) → Each (LineWritable f) ls → InOrder next (map Line (raws.lines f n next ls))
  lines_order next [] h = tt
  lines_order next (l ∷ ls) h = (
    asks_within f n next l l.inst h.0.0,
    subst (λ (j : ℕ). InOrder (next + j) (map Line (raws.lines f n (next + length l.results) ls))) (sym (results_long l.results)) (lines_order (next + length l.results) ls h.1),
  )

  block_order : (next : ℕ) (b : Block) → Each (LineWritable f) b.lines → InOrder next (block_steps (raws.block f n next b))
  block_order next b h =
      let long : length (defs_of (map Param (map (raws.block_parameter f n) b.params))) ≡ length b.params = ap length (params_defs f n b.params) ∙ length-map b.params (def_at f n) in
      join next (map Param (map (raws.block_parameter f n) b.params)) (map Line (raws.lines f n (next + length b.params) b.lines)) (params_order next b.params)
      (subst (λ (j : ℕ). InOrder (next + j) (map Line (raws.lines f n (next + length b.params) b.lines))) (sym long) (lines_order (next + length b.params) b.lines h))

  blocks_order : (next : ℕ) (bs : List Block) → Each (λ (b : Block). Each (LineWritable f) b.lines) bs → InOrder next (flat_map block_steps (raws.blocks f n next bs))
  blocks_order next [] h = tt
  blocks_order next (b ∷ bs) h =
      let own = b.params ++ line_definitions b.lines in
      let long : length (defs_of (block_steps (raws.block f n next b))) ≡ length own = ap length (block_defs f n next b) ∙ length-map own (def_at f n) in
      let parts = length-append b.params (line_definitions b.lines) in
      let after : next_after next b ≡ next + length (defs_of (block_steps (raws.block f n next b))) = omega (arith, long, parts) in
      join next (block_steps (raws.block f n next b)) (flat_map block_steps (raws.blocks f n (next_after next b) bs)) (block_order next b h.0)
      (subst (λ (j : ℕ). InOrder j (flat_map block_steps (raws.blocks f n (next_after next b) bs))) after (blocks_order (next_after next b) bs h.1))

-- ---- a raw function that says the same

-- a chain that begins at no alias line ends there
end_is : (ds : List Def) (k : ℕ) (d e : Def) → IsNoAlias d → chain ds k d ≡ Some (Ends e) → d ≡ e
unfolding chain
end_is ds zero d e plain c = absurd cc
end_is ds (suc k) d e plain c = go d.target plain c
  where
    go : (t : Option RawName) → t ≡ None → onward t d (λ m. or_lost (look ds m.number) (chain ds k)) ≡ Some (Ends e) → d ≡ e
    go None s h = cc
    go (Some m) s h = absurd cc

asks_this : (bound : ℕ) (s : Step) (i : RawInst) (x : RawName) → step_inst s ≡ Some i → asks i ≡ Some x → Within bound (asked s) → x.number < bound
asks_this bound (Param p) i x e a h = absurd cc
asks_this bound (Line (raw_lines.Alias location y z)) i x e a h = absurd cc
asks_this bound (Line (raw_lines.Inst location ts rs j)) i x e a h =
    let same : j ≡ i = cc in
    let here = subst (λ (o : Option RawName). Within bound (listed o)) (ap asks same ∙ a) h in here.0

module _ (f : Function) (is : WellFormed f) (w : FunctionWritable f) (r : RawFunction) (says : bare.bare_function r ≡ raws.raw_function f) where
  in_order : InOrder 0 (steps r)
  in_order = in_order_bare 0 (steps r) (subst (InOrder 0) (sym (ap steps says) ∙ steps_bare r) (blocks_order f 0 f.blocks w.lines))

  -- the words that stand before a step, and those from it on
  split : (i : ℕ) → map number_of (names_of (defs_of (take i (steps r)))) ++ map number_of (names_of (defs_of (drop i (steps r)))) ≡ range_with_len 0 (count f Values)
  split i =
      let front = take i (steps r) in let back = drop i (steps r) in
      sym (map-append number_of (names_of (defs_of front)) (names_of (defs_of back)))
      ∙ ap (map number_of) (sym (map-append (λ (d : Def). d.name) (defs_of front) (defs_of back)))
      ∙ ap (λ (ds : List Def). map number_of (names_of ds)) (sym (flat_map-append step_defs front back))
      ∙ ap (λ (ss : List Step). map number_of (names_of (defs_of ss))) (take-append-drop i (steps r))
      ∙ counted_here f is w r says Values

  pub nothing_untyped : (spot : ℕ) → FunctionFault r Untyped spot → ⊥
  nothing_untyped spot (i, step, inst, x, e, at, has, here, asks, (d, found, (k, comes)), late) =
      let plain = found_is (value_defs r) x.number d (no_aliases f is w r says) found in
      let end = end_is (value_defs r) k d e plain.1 comes in
      let below = asks_this (0 + length (defs_of (take i (steps r)))) step inst x has asks (asked_at 0 (steps r) in_order i step at) in
      let named : e.name.number ≡ x.number = sym (ap (λ (y : Def). y.name.number) end) ∙ plain.0 in
      let long = length-map (defs_of (take i (steps r))) (λ (y : Def). y.name) in
      late (front_defined (names_of (defs_of (take i (steps r)))) (map number_of (names_of (defs_of (drop i (steps r))))) 0 (count f Values) e.name.number (split i) (omega arith) (omega (arith, below, named, long)))

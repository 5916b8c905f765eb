-- The numbers of defined words are below the numbers of entities.
use Rattle.std.proofs.Common.{◌≡◌, ℕ, zero, suc, ◌+◌, ◌<◌, ◌≤◌, inl, inr, List, [], ◌∷◌, ◌++◌, length, slice_get, Option, None, Some, map, refl, sym, ap, subst, ◌∙◌, arith, append_assoc}
use Rattle.std.specs.Prelude.{flat_map}
use Rattle.std.specs.List.{enumerate_from}
use Rattle.std.proofs.lemmas.Bool.Decides.{eqb_tells}
use Rattle.std.proofs.lemmas.List.{append-nil, map-append}
use Rattle.ir_core.specs.declared.signatures.Ty.{Ty}
use Rattle.ir_core.specs.declared.declarations.Callee.{Callee}
use Rattle.ir_core.specs.Lists.{In, Each}
use Rattle.ir_core.specs.Lookup.{definitions, line_definitions}
use Rattle.std.proofs.lemmas.Grind.{flat_map-append}
use Rattle.token_reader.specs.declared.raw.RawName.{RawName}
use Rattle.clif_read.specs.declared.raw.RawBlockParam.{RawBlockParam}
use Rattle.clif_read.specs.declared.raw.RawCalleeSig.TheVariants as callee_sig
use Rattle.clif_read.specs.declared.raw.RawDecl.{RawDecl}
use Rattle.clif_read.specs.declared.raw.RawDecl.TheVariants as decl
use Rattle.clif_read.specs.declared.raw.RawLine.{RawLine}
use Rattle.clif_read.specs.declared.raw.RawLine.TheVariants as line
use Rattle.clif_read.specs.declared.raw.RawBlock.{RawBlock}
use Rattle.clif_read.specs.declared.raw.RawFunction.{RawFunction}
use Rattle.name_tables.specs.declared.firsts.Def.{Def}
use Rattle.name_tables.specs.Definitions.{Sigs, Step, Param, Line, value_def, step_defs, block_steps, defs_of, names_of, slot_names, sig_names, callee_names}
use Rattle.name_tables.specs.Uses.{decl_uses}
use Rattle.name_tables.specs.Words.{IsDefined, place_in}
use Rattle.name_tables.specs.Chains.{Ends, look, chain, HasNumber, IsNumbering, numbered, own_name}
use Rattle.clif_meaning.specs.Meaning.{decl_slots, decl_sigs, sig_place, callees_from, block_with, lines_with}
use Rattle.name_tables.proofs.ChainLaws.{one_end, end_first}
use Rattle.name_tables.proofs.DefinedWords.{place_here, place_there, place_front, not_first, look_defined, NoRepeats, look_own}
use Rattle.clif_meaning.proofs.OneMeaning.{map_names}

-- ---- places

pub place_below : (ns : List RawName) (n : ℕ) → IsDefined ns n → place_in ns n < length ns
place_below [] n (i, d, at, same) = absurd cc
place_below (x ∷ xs) n h = elim (eqb_tells n x.number) [
  | inl t ↦ rw (place_here x xs n t.1) (omega arith)
  | inr f ↦ rw (place_there x xs n f.1) (let a = place_below xs n (not_first x xs n f.1 h) in omega (arith, a))
]

module _ (ds : List Def) (value : ℕ → ℕ) (numbering : IsNumbering ds value) where
  pub value_below : (n : ℕ) → IsDefined (names_of ds) n → value n < length (numbered ds)
  value_below n h = by (look_defined ds n h)
    where
      by : (d : Def) × (look ds n ≡ Some d) → value n < length (numbered ds)
      by (d, found) = below (subst (λ o. HasNumber ds o (value n)) found (numbering n))
        where
          below : HasNumber ds (Some d) (value n) → value n < length (numbered ds)
          below (e, (k, c), p) =
              let en = end_first ds k n d e found c in
              rw p (subst (λ xs. place_in (numbered xs) e.name.number < length (numbered ds)) (append-nil ds) (place_front ds [] e.name.number e en.0 en.1))

-- ---- declarations

pub slots_long : (ds : List RawDecl) → length (flat_map slot_names ds) ≡ length (flat_map decl_slots ds)
slots_long [] = refl
slots_long (decl.Slot n size align ∷ ds) = ap suc (slots_long ds)
slots_long (decl.Sig n signature ∷ ds) = slots_long ds
slots_long (decl.Callee colocated n sig name ∷ ds) = slots_long ds

pub callees_long : (sig : ℕ → ℕ) (k : ℕ) (ds : List RawDecl) → length (flat_map callee_names ds) ≡ length (callees_from sig k ds)
callees_long sig k [] = refl
callees_long sig k (decl.Slot n size align ∷ ds) = callees_long sig k ds
callees_long sig k (decl.Sig n signature ∷ ds) = callees_long sig (suc k) ds
callees_long sig k (decl.Callee colocated n (callee_sig.Declared s) name ∷ ds) = ap suc (callees_long sig k ds)
callees_long sig k (decl.Callee colocated n (callee_sig.Inline signature) name ∷ ds) = ap suc (callees_long sig (suc k) ds)

pub sig_below : (ds : List RawDecl) (n : ℕ) → IsDefined (flat_map sig_names ds) n → sig_place (flat_map decl_sigs ds) n < length (flat_map decl_sigs ds)
sig_below [] n (i, d, at, same) = absurd cc
sig_below (decl.Slot m size align ∷ ds) n h = sig_below ds n h
sig_below (decl.Sig m signature ∷ ds) n h = elim (eqb_tells n m.number) [
  | inl t ↦ rw t.0 (omega arith)
  | inr f ↦ rw f.0 (let a = sig_below ds n (not_first m (flat_map sig_names ds) n f.1 h) in omega (arith, a))
]
sig_below (decl.Callee colocated m (callee_sig.Declared s) name ∷ ds) n h = sig_below ds n h
sig_below (decl.Callee colocated m (callee_sig.Inline signature) name ∷ ds) n h = let a = sig_below ds n h in omega (arith, a)

pub callees_below : (sig : ℕ → ℕ) (most k : ℕ) (ds : List RawDecl) → k + length (flat_map decl_sigs ds) ≤ most
    → ((u : RawName) → In u (flat_map (decl_uses Sigs) ds) → sig u.number < most) → Each (λ (c : Callee). c.sig < most) (callees_from sig k ds)
callees_below sig most k [] le used = tt
callees_below sig most k (decl.Slot n size align ∷ ds) le used = callees_below sig most k ds le used
callees_below sig most k (decl.Sig n signature ∷ ds) le used = callees_below sig most (suc k) ds (omega (arith, le)) used
callees_below sig most k (decl.Callee colocated n (callee_sig.Declared s) name ∷ ds) le used = (used s (inl refl), callees_below sig most k ds le (λ u i. used u (inr i)))
callees_below sig most k (decl.Callee colocated n (callee_sig.Inline signature) name ∷ ds) le used = (omega (arith, le), callees_below sig most (suc k) ds (omega (arith, le)) used)

-- ---- values in order of definition

module _ (raw : RawFunction) (value : ℕ → ℕ) (types : List (ℕ × Ty)) where
  abbrev numbers_of : List RawName → List ℕ
  numbers_of ns = map (λ r. value r.number) ns

  abbrev own_numbers : List Step → List ℕ
  own_numbers ss = numbers_of (numbered (defs_of ss))

  own_more : (ss ts : List Step) → own_numbers (ss ++ ts) ≡ own_numbers ss ++ own_numbers ts
  own_more ss ts =
      ap (λ ds. map (λ r. value r.number) (numbered ds)) (flat_map-append step_defs ss ts)
      ∙ ap (map (λ r. value r.number)) (flat_map-append own_name (defs_of ss) (defs_of ts))
      ∙ map-append (λ r. value r.number) (numbered (defs_of ss)) (numbered (defs_of ts))

  params_define : (ps : List RawBlockParam) → map (λ p. value p.value.number) ps ≡ own_numbers (map Param ps)
  params_define [] = refl
  params_define (p ∷ ps) = ap (λ xs. value p.value.number ∷ xs) (params_define ps)

  lines_define : (ls : List RawLine) → line_definitions (flat_map (lines_with raw value types) ls) ≡ own_numbers (map Line ls)
  lines_define [] = refl
  lines_define (line.Alias location n m ∷ ls) = lines_define ls
  lines_define (line.Inst location tags results inst ∷ ls) =
      ap (λ xs. map (λ (r : RawName). value r.number) results ++ xs) (lines_define ls)
      ∙ ap (λ ns. map (λ (r : RawName). value r.number) ns ++ map (λ r. value r.number) (numbered (defs_of (map Line ls)))) (sym (map_names results))
      ∙ sym (map-append (λ r. value r.number) (numbered (map value_def results)) (numbered (defs_of (map Line ls))))
      ∙ ap (map (λ r. value r.number)) (sym (flat_map-append own_name (map value_def results) (defs_of (map Line ls))))

  pub blocks_define : (n : ℕ) (bs : List RawBlock) → definitions (map (block_with raw value types) (enumerate_from n bs)) ≡ own_numbers (flat_map block_steps bs)
  blocks_define n [] = refl
  blocks_define n (b ∷ bs) =
      ap (λ xs. xs ++ (line_definitions (flat_map (lines_with raw value types) b.lines) ++ definitions (map (block_with raw value types) (enumerate_from (n + 1) bs)))) (params_define b.params)
      ∙ ap (λ xs. own_numbers (map Param b.params) ++ (xs ++ definitions (map (block_with raw value types) (enumerate_from (n + 1) bs)))) (lines_define b.lines)
      ∙ ap (λ xs. own_numbers (map Param b.params) ++ (own_numbers (map Line b.lines) ++ xs)) (blocks_define (n + 1) bs)
      ∙ sym (append_assoc (own_numbers (map Param b.params)) (own_numbers (map Line b.lines)) (own_numbers (flat_map block_steps bs)))
      ∙ ap (λ xs. xs ++ own_numbers (flat_map block_steps bs)) (sym (own_more (map Param b.params) (map Line b.lines)))
      ∙ sym (own_more (map Param b.params ++ map Line b.lines) (flat_map block_steps bs))

-- ---- own definitions have their places for numbers

own_stands : (ds : List Def) (r : RawName) → In r (numbered ds) → (i : ℕ) × (d : Def) × (slice_get ds i ≡ Some d) × (d.name ≡ r) × (d.target ≡ None)
own_stands [] r h = absurd h
own_stands (x ∷ xs) r h = by x.target refl h (own_stands xs r)
  where
    more : (i : ℕ) × (d : Def) × (slice_get xs i ≡ Some d) × (d.name ≡ r) × (d.target ≡ None) → (i : ℕ) × (d : Def) × (slice_get (x ∷ xs) i ≡ Some d) × (d.name ≡ r) × (d.target ≡ None)
    more (i, d, at, e, t) = (suc i, d, at, e, t)

    by : (o : Option RawName) → x.target ≡ o → In r (elim o as (λ o. List RawName) [ None ↦ x.name ∷ [] | Some m ↦ [] ] ++ numbered xs)
        → (In r (numbered xs) → (i : ℕ) × (d : Def) × (slice_get xs i ≡ Some d) × (d.name ≡ r) × (d.target ≡ None))
        → (i : ℕ) × (d : Def) × (slice_get (x ∷ xs) i ≡ Some d) × (d.name ≡ r) × (d.target ≡ None)
    by None t (inl e) go = (zero, x, refl, sym e, t)
    by None t (inr g) go = more (go g)
    by (Some m) t g go = more (go g)

module _ (ds : List Def) (value : ℕ → ℕ) (numbering : IsNumbering ds value) (none : NoRepeats (names_of ds)) where
  pub own_place : (r : RawName) → In r (numbered ds) → value r.number ≡ place_in (numbered ds) r.number
  unfolding chain
  own_place r i =
      let (k, d, at, e, t) = own_stands ds r i in
      by d e t (look_own ds none k d at)
    where
      by : (d : Def) → d.name ≡ r → d.target ≡ None → look ds d.name.number ≡ Some d → value r.number ≡ place_in (numbered ds) r.number
      by d e t found = rw (sym e) (right d t (subst (λ o. HasNumber ds o (value d.name.number)) found (numbering d.name.number)))
        where
          right : (d : Def) → d.target ≡ None → HasNumber ds (Some d) (value d.name.number) → value d.name.number ≡ place_in (numbered ds) d.name.number
          right d t (x, (k, c), p) =
              let s = one_end ds k 1 d (Ends x) (Ends d) c (rw t refl) in
              let q : x ≡ d = cc in
              p ∙ ap (λ (y : Def). place_in (numbered ds) y.name.number) q

-- What keeps a function sound where instructions are put, taken away or moved.
use Rattle.std.proofs.Common.{◌≡◌, ℕ, ◌+◌, inl, inr, List, [], ◌∷◌, ◌++◌, length, take, drop, Bool, true, false, refl, sym, ap, ap₂, ◌∙◌, subst, arith, eq-eqb, ne_eqb, append_assoc, length-append}
use Rattle.std.specs.Prelude.{nat_eq, if◌then◌else◌}
use Rattle.std.proofs.lemmas.Bool.{cases_eq}
use Rattle.std.proofs.lemmas.List.{append-nil, take-append-drop}
use Rattle.ir_core.specs.Module.{Block, Line, Function}
use Rattle.ir_core.specs.Lookup.{definitions, line_definitions, block_numbers}
use Rattle.ir_core.specs.Lists.{In, Different, Each}
use Rattle.ir_core.specs.Sound.{Counts, counts_of, LineInRange, BlockInRange, instruction_count, CanAdd, IsSound}
use Rattle.ir_core.specs.Edits.{at_block, put_line, with_lines, lines_of}
use Rattle.ir_core.proofs.Members.{in_left, in_right, in_cases, different_join, different_left, different_right, different_apart, each_left, each_right, each_join}
use Rattle.ir_core.proofs.Splitting.{Split, split, block_definitions, line_definitions_join, definitions_split, count_split, length_split}
use Rattle.ir_core.proofs.Keeping.{with_blocks, sound_changed}

pub definitions_put : (b : Block) (l : Line) → block_definitions (put_line l b) ≡ block_definitions b ++ l.results
definitions_put b l =
    ap (λ r. b.params ++ r) (line_definitions_join b.lines (l ∷ []) ∙ ap (λ r. line_definitions b.lines ++ r) (append-nil l.results))
    ∙ sym (append_assoc b.params (line_definitions b.lines) l.results)

-- an instruction put at a block's end
pub sound_line : (f : Function) (a : ℕ) (l : Line) → IsSound f → In a (block_numbers f.blocks) → LineInRange (counts_of f) l → Different l.results → ((v : ℕ) → In v l.results → In v (definitions f.blocks) → ⊥) → CanAdd (instruction_count f.blocks) → IsSound (with_blocks f (at_block a (put_line l) f.blocks))
sound_line f a l sound there in_range differ undefined few =
    let s = split a f.blocks there sound.blocks_differ in
    let was : IsSound (with_blocks f (s.before ++ (s.here ∷ s.behind))) = subst (λ z. IsSound (with_blocks f z)) s.is sound in
    let n : Counts = counts_of (with_blocks f (s.before ++ (s.here ∷ s.behind))) in
    let range : LineInRange n l = subst (λ z. LineInRange (counts_of (with_blocks f z)) l) s.is in_range in
    let fresh : (v : ℕ) → In v l.results → In v (definitions (s.before ++ (s.here ∷ s.behind))) → ⊥ = λ v i j. undefined v i (subst (λ z. In v (definitions z)) (sym s.is) j) in
    let here : BlockInRange n s.here = (each_right (BlockInRange n) s.before (s.here ∷ s.behind) was.blocks).0 in
    let once : Different (block_definitions s.here) = different_left (block_definitions s.here) (definitions s.behind) (different_right (definitions s.before) (block_definitions s.here ++ definitions s.behind) (subst Different (definitions_split s.before s.behind s.here) was.defined_once)) in
    let held : (v : ℕ) → In v (block_definitions s.here) → In v (definitions (s.before ++ (s.here ∷ s.behind))) = λ v i. subst (In v) (sym (definitions_split s.before s.behind s.here)) (in_right v (definitions s.before) (block_definitions s.here ++ definitions s.behind) (in_left v (block_definitions s.here) (definitions s.behind) i)) in
    let count : instruction_count f.blocks ≡ instruction_count (s.before ++ (s.here ∷ s.behind)) = ap instruction_count s.is in
    subst (λ z. IsSound (with_blocks f z)) (sym (s.at (put_line l)))
    (sound_changed f s.before s.behind s.here (put_line l s.here) was refl
    (record { params = here.params; lines = each_join (LineInRange n) s.here.lines (l ∷ []) here.lines (range, tt) })
    (subst Different (sym (definitions_put s.here l)) (different_join (block_definitions s.here) l.results once differ (λ v i j. fresh v j (held v i))))
    (λ v i. elim (in_cases v (block_definitions s.here) l.results (subst (In v) (definitions_put s.here l) i)) [ inl q ↦ inl q | inr q ↦ inr (fresh v q) ])
    (omega (arith, few, count, count_split s.before s.behind s.here, count_split s.before s.behind (put_line l s.here), length-append s.here.lines (l ∷ []))))

-- its results are defined
pub length_line : (a : ℕ) (l : Line) (bs : List Block) → In a (block_numbers bs) → Different (block_numbers bs) → length (definitions (at_block a (put_line l) bs)) ≡ length (definitions bs) + length l.results
length_line a l bs there differ =
    let s = split a bs there differ in
    ap (λ z. length (definitions z)) (s.at (put_line l))
    ∙ (ap length (definitions_split s.before s.behind (put_line l s.here))
    ∙ (ap (λ z. length (definitions s.before ++ (z ++ definitions s.behind))) (definitions_put s.here l)
    ∙ (counted (definitions s.before) (block_definitions s.here) l.results (definitions s.behind)
    ∙ ap (λ z. z + length l.results) (sym (ap (λ z. length (definitions z)) s.is ∙ ap length (definitions_split s.before s.behind s.here))))))
  where
    counted : (p q r t : List ℕ) → length (p ++ ((q ++ r) ++ t)) ≡ length (p ++ (q ++ t)) + length r
    counted p q r t = omega (arith, length-append p ((q ++ r) ++ t), length-append (q ++ r) t, length-append q r, length-append p (q ++ t), length-append q t)

-- the last instruction taken away
pub sound_unline : (f : Function) (a : ℕ) (l : Line) (bs : List Block) → IsSound (with_blocks f (at_block a (put_line l) bs)) → In a (block_numbers bs) → Different (block_numbers bs) → IsSound (with_blocks f bs)
sound_unline f a l bs sound there differ =
    let s = split a bs there differ in
    let was : IsSound (with_blocks f (s.before ++ (put_line l s.here ∷ s.behind))) = subst (λ z. IsSound (with_blocks f z)) (s.at (put_line l)) sound in
    let n : Counts = counts_of (with_blocks f (s.before ++ (put_line l s.here ∷ s.behind))) in
    let here : BlockInRange n (put_line l s.here) = (each_right (BlockInRange n) s.before (put_line l s.here ∷ s.behind) was.blocks).0 in
    let once : Different (block_definitions (put_line l s.here)) = different_left (block_definitions (put_line l s.here)) (definitions s.behind) (different_right (definitions s.before) (block_definitions (put_line l s.here) ++ definitions s.behind) (subst Different (definitions_split s.before s.behind (put_line l s.here)) was.defined_once)) in
    subst (λ z. IsSound (with_blocks f z)) (sym s.is)
    (sound_changed f s.before s.behind (put_line l s.here) s.here was refl
    (record { params = here.params; lines = each_left (LineInRange n) s.here.lines (l ∷ []) here.lines })
    (different_left (block_definitions s.here) l.results (subst Different (definitions_put s.here l) once))
    (λ v i. inl (subst (In v) (sym (definitions_put s.here l)) (in_left v (block_definitions s.here) l.results i)))
    (omega (arith, was.small.instructions, count_split s.before s.behind s.here, count_split s.before s.behind (put_line l s.here), length-append s.here.lines (l ∷ []))))

-- the lines of another block
pub lines_other : (a c : ℕ) (ls : List Line) (bs : List Block) → (a ≡ c → ⊥) → lines_of c (at_block a (with_lines ls) bs) ≡ lines_of c bs
lines_other a c ls [] n = refl
lines_other a c ls (b ∷ bs) n =
    elim (cases_eq b.number a) [
      | inl e ↦
          let other : b.number ≡ c → ⊥ = λ q. n (sym e ∙ q) in
          ap (λ z. lines_of c ((if z then with_lines ls b else b) ∷ at_block a (with_lines ls) bs)) (eq-eqb b.number a e)
          ∙ (ap (λ z. if z then ls else lines_of c (at_block a (with_lines ls) bs)) (ne_eqb b.number c other)
          ∙ (lines_other a c ls bs n ∙ ap (λ z. if z then b.lines else lines_of c bs) (sym (ne_eqb b.number c other))))
      | inr e ↦
          ap (λ z. lines_of c ((if z then with_lines ls b else b) ∷ at_block a (with_lines ls) bs)) (ne_eqb b.number a e)
          ∙ ap (λ z. if nat_eq b.number c then b.lines else z) (lines_other a c ls bs n)
    ]

numbers_with : (a : ℕ) (ls : List Line) (bs : List Block) → block_numbers (at_block a (with_lines ls) bs) ≡ block_numbers bs
numbers_with a ls [] = refl
numbers_with a ls (b ∷ bs) = ap₂ (λ n ns. n ∷ ns) (same (nat_eq b.number a)) (numbers_with a ls bs)
  where
    same : (c : Bool) → (if c then with_lines ls b else b).number ≡ b.number
    same true = refl
    same false = refl

-- the instructions of a block from a place on moved to another
module _ (f : Function) (a c i : ℕ) (sound : IsSound f) (there : In a (block_numbers f.blocks)) (into : In c (block_numbers f.blocks)) (other : a ≡ c → ⊥) (empty : lines_of c f.blocks ≡ []) where
  abbrev kept : List Line
  kept = take i (lines_of a f.blocks)

  abbrev gone : List Line
  gone = drop i (lines_of a f.blocks)

  at_first : Split a f.blocks
  at_first = split a f.blocks there sound.blocks_differ

  abbrev first_blocks : List Block
  first_blocks = at_block a (with_lines kept) f.blocks

  joined_lines : kept ++ gone ≡ at_first.here.lines
  joined_lines = take-append-drop i (lines_of a f.blocks) ∙ at_first.lines

  was : IsSound (with_blocks f (at_first.before ++ (at_first.here ∷ at_first.behind)))
  was = subst (λ z. IsSound (with_blocks f z)) at_first.is sound

  abbrev counts : Counts
  counts = counts_of (with_blocks f (at_first.before ++ (at_first.here ∷ at_first.behind)))

  here : BlockInRange counts at_first.here
  here = (each_right (BlockInRange counts) at_first.before (at_first.here ∷ at_first.behind) was.blocks).0

  all_lines : Each (LineInRange counts) (kept ++ gone)
  all_lines = subst (Each (LineInRange counts)) (sym joined_lines) here.lines

  parts : block_definitions at_first.here ≡ block_definitions (with_lines kept at_first.here) ++ line_definitions gone
  parts =
      ap (λ r. at_first.here.params ++ line_definitions r) (sym joined_lines)
      ∙ (ap (λ r. at_first.here.params ++ r) (line_definitions_join kept gone) ∙ sym (append_assoc at_first.here.params (line_definitions kept) (line_definitions gone)))

  apart_all : Different (definitions at_first.before ++ ((block_definitions (with_lines kept at_first.here) ++ line_definitions gone) ++ definitions at_first.behind))
  apart_all = subst (λ z. Different (definitions at_first.before ++ (z ++ definitions at_first.behind))) parts (subst Different (definitions_split at_first.before at_first.behind at_first.here) was.defined_once)

  apart_behind : Different ((block_definitions (with_lines kept at_first.here) ++ line_definitions gone) ++ definitions at_first.behind)
  apart_behind = different_right (definitions at_first.before) ((block_definitions (with_lines kept at_first.here) ++ line_definitions gone) ++ definitions at_first.behind) apart_all

  apart_here : Different (block_definitions (with_lines kept at_first.here) ++ line_definitions gone)
  apart_here = different_left (block_definitions (with_lines kept at_first.here) ++ line_definitions gone) (definitions at_first.behind) apart_behind

  length_lines : length at_first.here.lines ≡ length kept + length gone
  length_lines = ap length (sym joined_lines) ∙ length-append kept gone

  count_first : instruction_count (at_first.before ++ (with_lines kept at_first.here ∷ at_first.behind)) + length gone ≡ instruction_count f.blocks
  count_first = omega (arith, ap instruction_count at_first.is, count_split at_first.before at_first.behind at_first.here, count_split at_first.before at_first.behind (with_lines kept at_first.here), length_lines)

  sound_first : IsSound (with_blocks f first_blocks)
  sound_first =
      subst (λ z. IsSound (with_blocks f z)) (sym (at_first.at (with_lines kept)))
      (sound_changed f at_first.before at_first.behind at_first.here (with_lines kept at_first.here) was refl
      (record { params = here.params; lines = each_left (LineInRange counts) kept gone all_lines })
      (different_left (block_definitions (with_lines kept at_first.here)) (line_definitions gone) apart_here)
      (λ v j. inl (subst (In v) (sym parts) (in_left v (block_definitions (with_lines kept at_first.here)) (line_definitions gone) j)))
      (omega (arith, count_first, sound.small.instructions)))

  first_definitions : definitions first_blocks ≡ definitions at_first.before ++ (block_definitions (with_lines kept at_first.here) ++ definitions at_first.behind)
  first_definitions = ap definitions (at_first.at (with_lines kept)) ∙ definitions_split at_first.before at_first.behind (with_lines kept at_first.here)

  gone_fresh : (v : ℕ) → In v (line_definitions gone) → In v (definitions first_blocks) → ⊥
  gone_fresh v g h =
      elim (in_cases v (definitions at_first.before) (block_definitions (with_lines kept at_first.here) ++ definitions at_first.behind) (subst (In v) first_definitions h)) [
        | inl q ↦ different_apart (definitions at_first.before) ((block_definitions (with_lines kept at_first.here) ++ line_definitions gone) ++ definitions at_first.behind) v apart_all q (in_left v (block_definitions (with_lines kept at_first.here) ++ line_definitions gone) (definitions at_first.behind) (in_right v (block_definitions (with_lines kept at_first.here)) (line_definitions gone) g))
        | inr q ↦ elim (in_cases v (block_definitions (with_lines kept at_first.here)) (definitions at_first.behind) q) [
          | inl r ↦ different_apart (block_definitions (with_lines kept at_first.here)) (line_definitions gone) v apart_here r g
          | inr r ↦ different_apart (block_definitions (with_lines kept at_first.here) ++ line_definitions gone) (definitions at_first.behind) v apart_behind (in_right v (block_definitions (with_lines kept at_first.here)) (line_definitions gone) g) r
        ]
      ]

  at_second : Split c first_blocks
  at_second = split c first_blocks (subst (In c) (sym (numbers_with a kept f.blocks)) into) sound_first.blocks_differ

  no_lines : at_second.here.lines ≡ []
  no_lines = sym at_second.lines ∙ (lines_other a c kept f.blocks other ∙ empty)

  was_second : IsSound (with_blocks f (at_second.before ++ (at_second.here ∷ at_second.behind)))
  was_second = subst (λ z. IsSound (with_blocks f z)) at_second.is sound_first

  abbrev counts_second : Counts
  counts_second = counts_of (with_blocks f (at_second.before ++ (at_second.here ∷ at_second.behind)))

  here_second : BlockInRange counts_second at_second.here
  here_second = (each_right (BlockInRange counts_second) at_second.before (at_second.here ∷ at_second.behind) was_second.blocks).0

  same_counts : counts ≡ counts_second
  same_counts =
      ap (λ n. record { values = length f.types; blocks = n; slots = length f.slots; sigs = length f.sigs; callees = length f.callees })
      (length_split at_first.before at_first.behind (with_lines kept at_first.here) at_first.here ∙ (ap length (sym (at_first.at (with_lines kept))) ∙ ap length at_second.is))

  defined_second : block_definitions at_second.here ≡ at_second.here.params
  defined_second = ap (λ r. at_second.here.params ++ line_definitions r) no_lines ∙ append-nil at_second.here.params

  params_once : Different at_second.here.params
  params_once = subst Different defined_second (different_left (block_definitions at_second.here) (definitions at_second.behind) (different_right (definitions at_second.before) (block_definitions at_second.here ++ definitions at_second.behind) (subst Different (definitions_split at_second.before at_second.behind at_second.here) was_second.defined_once)))

  held_second : (v : ℕ) → In v at_second.here.params → In v (definitions first_blocks)
  held_second v j = subst (λ z. In v (definitions z)) (sym at_second.is) (subst (In v) (sym (definitions_split at_second.before at_second.behind at_second.here)) (in_right v (definitions at_second.before) (block_definitions at_second.here ++ definitions at_second.behind) (in_left v (block_definitions at_second.here) (definitions at_second.behind) (subst (In v) (sym defined_second) j))))

  count_second : instruction_count (at_second.before ++ (with_lines gone at_second.here ∷ at_second.behind)) ≡ instruction_count f.blocks
  count_second = omega (arith, count_first, ap instruction_count (at_first.at (with_lines kept)), ap instruction_count at_second.is, count_split at_second.before at_second.behind at_second.here, count_split at_second.before at_second.behind (with_lines gone at_second.here), ap length no_lines)

  pub sound_cut : IsSound (with_blocks f (at_block c (with_lines gone) first_blocks))
  sound_cut =
      subst (λ z. IsSound (with_blocks f z)) (sym (at_second.at (with_lines gone)))
      (sound_changed f at_second.before at_second.behind at_second.here (with_lines gone at_second.here) was_second refl
      (record { params = here_second.params; lines = subst (λ n. Each (LineInRange n) gone) same_counts (each_right (LineInRange counts) kept gone all_lines) })
      (different_join at_second.here.params (line_definitions gone) params_once (different_right (block_definitions (with_lines kept at_first.here)) (line_definitions gone) apart_here) (λ v p q. gone_fresh v q (held_second v p)))
      (λ v j. elim (in_cases v at_second.here.params (line_definitions gone) j) [ inl q ↦ inl (subst (In v) (sym defined_second) q) | inr q ↦ inr (λ h. gone_fresh v q (subst (λ z. In v (definitions z)) (sym at_second.is) h)) ])
      (omega (arith, count_second, sound.small.instructions)))

  pub length_cut : length (definitions (at_block c (with_lines gone) first_blocks)) ≡ length (definitions f.blocks)
  length_cut =
      omega (
        arith,
        ap (λ z. length (definitions z)) (at_second.at (with_lines gone)),
        ap length (definitions_split at_second.before at_second.behind (with_lines gone at_second.here)),
        ap (λ z. length (definitions z)) at_second.is,
        ap length (definitions_split at_second.before at_second.behind at_second.here),
        ap length defined_second,
        ap length first_definitions,
        ap (λ z. length (definitions z)) at_first.is,
        ap length (definitions_split at_first.before at_first.behind at_first.here),
        ap length parts,
        length-append (definitions at_second.before) (block_definitions (with_lines gone at_second.here) ++ definitions at_second.behind),
        length-append (block_definitions (with_lines gone at_second.here)) (definitions at_second.behind),
        length-append at_second.here.params (line_definitions gone),
        length-append (definitions at_second.before) (block_definitions at_second.here ++ definitions at_second.behind),
        length-append (block_definitions at_second.here) (definitions at_second.behind),
        length-append (definitions at_first.before) (block_definitions (with_lines kept at_first.here) ++ definitions at_first.behind),
        length-append (block_definitions (with_lines kept at_first.here)) (definitions at_first.behind),
        length-append (definitions at_first.before) (block_definitions at_first.here ++ definitions at_first.behind),
        length-append (block_definitions at_first.here) (definitions at_first.behind),
        length-append (block_definitions (with_lines kept at_first.here)) (line_definitions gone),
      )

-- What a body defines: the callee's values under their numbers, and the new results.
use Rattle.std.proofs.Common.{◌≡◌, ℕ, zero, suc, ◌+◌, ◌*◌, ◌<◌, ◌≤◌, ◌⊎◌, inl, inr, List, [], ◌∷◌, ◌++◌, map, length, get_or, Bool, true, false, refl, sym, ap, ap₂, ◌∙◌, subst, arith, append-nil, length-append}
use Rattle.std.specs.Prelude.{if◌then◌else◌}
use Rattle.debug_tags.specs.declared.tags.Tag.{Tag}
use Rattle.ir_core.specs.Module.{Instruction, Plain, Branches, SequencePoint, Return, Call, ReturnCall, TryCall, Line, Block}
use Rattle.ir_core.specs.Lists.{In, Different, Each, Below}
use Rattle.ir_core.specs.Lookup.{block_numbers, definitions, line_definitions}
use Rattle.ir_core.specs.Sound.{Counts, LineInRange, BlockInRange, instruction_count}
use Rattle.ir_core.specs.Viewed.{line_of}
use Rattle.ir_core.proofs.Members.{in_left, in_right, in_cases, different_join, different_left, different_right, different_apart, each_join, below_join}
use Rattle.ir_core.proofs.Splitting.{line_definitions_join}
use Rattle.ir_semantics.specs.Splice.{from}
use Rattle.inline_body.specs.declared.names.Names.{Names}
use Rattle.inline_body.specs.declared.blocks.BlockLines.{BlockLines}
use Rattle.inline_body.specs.Named.{names_of}
use Rattle.inline_body.specs.Inlined.{inlined_line, inlined_lines, results_from, inlined_block, blocks_from}
use Rattle.inline_body.specs.WithBody.{all_of, lines_in, numbers_of}
use Rattle.inline_body.specs.Results.{is_tail_call, tail_calls, tail_calls_in, starts_along, OneTail}
use Rattle.ir_semantics.proofs.Ranges.{from_in, from_differ}

pub map_in : (h : ℕ → ℕ) (v : ℕ) (xs : List ℕ) → In v (map h xs) → (u : ℕ) × In u xs × (v ≡ h u)
map_in h v [] i = elim i [ ]
map_in h v (x ∷ xs) (inl e) = (x, inl refl, e)
map_in h v (x ∷ xs) (inr i) = let m = map_in h v xs i in (m.0, inr m.1, m.2)

pub shifted_differ : (base : ℕ) (xs : List ℕ) → Different xs → Different (map (λ v. base + v) xs)
shifted_differ base [] d = tt
shifted_differ base (x ∷ xs) d =
    (λ i. let m = map_in (λ v. base + v) (base + x) xs i in let e = m.2 in let q : m.0 ≡ x = omega (arith, e) in d.0 (subst (λ z. In z xs) q m.1), shifted_differ base xs d.1)

pub results_in : (s count v : ℕ) → In v (map (λ i. s + i) (from 0 count)) → (s ≤ v) × (v < s + count)
results_in s count v i = let m = map_in (λ j. s + j) v (from 0 count) i in let f = (from_in 0 count m.0 m.1).1 in let e = m.2 in (omega (arith, e), omega (arith, e, f))

-- how often a line counts that is of a kind, or is not
abbrev pub counted : Bool → ℕ
counted b = if b then 1 else 0

module _ (n : Names) (outer : List Tag) (after : ℕ) where
  abbrev up : ℕ → ℕ
  up v = n.values + v

  -- a line defines its own results, none, or the new ones
  abbrev OldOrNew : List ℕ → Line → Bool → List ℕ → Type 0
  OldOrNew rs l b X = ((b ≡ false) × ((X ≡ map up l.results) ⊎ (X ≡ []))) ⊎ ((b ≡ true) × (X ≡ rs))

  line_defines : (rs : List ℕ) (l : Line) (i : Instruction) → OldOrNew rs l (is_tail_call i) (line_definitions (inlined_line n outer after rs l i))
  line_defines rs l (Plain p) = inl (refl, inl (append-nil (map up l.results)))
  line_defines rs l (Branches b) = inl (refl, inl (append-nil (map up l.results)))
  line_defines rs l SequencePoint = inl (refl, inl (append-nil (map up l.results)))
  line_defines rs l (Return vs) = inl (refl, inr refl)
  line_defines rs l (Call t args) = inl (refl, inl (append-nil (map up l.results)))
  line_defines rs l (ReturnCall t args) = inr (refl, append-nil rs)
  line_defines rs l (TryCall t sig args normal table) = inl (refl, inl (append-nil (map up l.results)))

  abbrev Old : ℕ → List ℕ → Type 0
  Old v ds = (u : ℕ) × In u ds × (v ≡ up u)

  old_left : (v : ℕ) (xs ys : List ℕ) → Old v xs → Old v (xs ++ ys)
  old_left v xs ys m = (m.0, in_left m.0 xs ys m.1, m.2)

  old_right : (v : ℕ) (xs ys : List ℕ) → Old v ys → Old v (xs ++ ys)
  old_right v xs ys m = (m.0, in_right m.0 xs ys m.1, m.2)

  old_apart : (v : ℕ) (xs ys : List ℕ) → Different (xs ++ ys) → Old v xs → Old v ys → ⊥
  old_apart v xs ys d a b = let e = a.2 in let f = b.2 in let q : a.0 ≡ b.0 = omega (arith, e, f) in different_apart xs ys b.0 d (subst (λ z. In z xs) q a.1) b.1

  line_member : (rs : List ℕ) (l : Line) (b : Bool) (X : List ℕ) → OldOrNew rs l b X → (v : ℕ) → In v X → Old v l.results ⊎ (In v rs × (b ≡ true))
  line_member rs l b X (inl (f, inl e)) v i = inl (map_in up v l.results (subst (In v) e i))
  line_member rs l b X (inl (f, inr e)) v i = absurd (let z : In v [] = subst (In v) e i in z)
  line_member rs l b X (inr (t, e)) v i = inr (subst (In v) e i, t)

  line_differs : (rs : List ℕ) (l : Line) (b : Bool) (X : List ℕ) → OldOrNew rs l b X → Different rs → Different l.results → Different X
  line_differs rs l b X (inl (f, inl e)) dr dl = subst Different (sym e) (shifted_differ n.values l.results dl)
  line_differs rs l b X (inl (f, inr e)) dr dl = subst Different (sym e) tt
  line_differs rs l b X (inr (t, e)) dr dl = subst Different (sym e) dr

  pub lines_members : (rs : List ℕ) (ls : List Line) (v : ℕ) → In v (line_definitions (inlined_lines n outer after rs ls)) → Old v (line_definitions ls) ⊎ (In v rs × (0 < tail_calls ls))
  lines_members rs [] v i = elim i [ ]
  lines_members rs (l ∷ ls) v i =
      by (in_cases v (line_definitions (inlined_line n outer after rs l l.inst)) (line_definitions (inlined_lines n outer after rs ls)) (subst (In v) (line_definitions_join (inlined_line n outer after rs l l.inst) (inlined_lines n outer after rs ls)) i)) (lines_members rs ls v)
    where
      more : Old v (line_definitions ls) ⊎ (In v rs × (0 < tail_calls ls)) → Old v (l.results ++ line_definitions ls) ⊎ (In v rs × (0 < counted (is_tail_call l.inst) + tail_calls ls))
      more (inl o) = inl (old_right v l.results (line_definitions ls) o)
      more (inr (j, h)) = inr (j, omega (arith, h))

      first : Old v l.results ⊎ (In v rs × (is_tail_call l.inst ≡ true)) → Old v (l.results ++ line_definitions ls) ⊎ (In v rs × (0 < counted (is_tail_call l.inst) + tail_calls ls))
      first (inl o) = inl (old_left v l.results (line_definitions ls) o)
      first (inr (j, t)) = inr (j, let c : counted (is_tail_call l.inst) ≡ 1 = ap counted t in omega (arith, c))

      by : In v (line_definitions (inlined_line n outer after rs l l.inst)) ⊎ In v (line_definitions (inlined_lines n outer after rs ls)) → (In v (line_definitions (inlined_lines n outer after rs ls)) → Old v (line_definitions ls) ⊎ (In v rs × (0 < tail_calls ls))) → Old v (l.results ++ line_definitions ls) ⊎ (In v rs × (0 < counted (is_tail_call l.inst) + tail_calls ls))
      by (inl j) ih = first (line_member rs l (is_tail_call l.inst) (line_definitions (inlined_line n outer after rs l l.inst)) (line_defines rs l l.inst) v j)
      by (inr j) ih = more (ih j)

  pub lines_differ : (rs : List ℕ) → Different rs → (ls : List Line) → Different (line_definitions ls) → tail_calls ls ≤ 1 → ((v : ℕ) → Old v (line_definitions ls) → In v rs → ⊥) → Different (line_definitions (inlined_lines n outer after rs ls))
  lines_differ rs dr [] d o apart = tt
  lines_differ rs dr (l ∷ ls) d o apart =
      let A = line_definitions (inlined_line n outer after rs l l.inst) in
      let B = line_definitions (inlined_lines n outer after rs ls) in
      subst Different (sym (line_definitions_join (inlined_line n outer after rs l l.inst) (inlined_lines n outer after rs ls)))
      (different_join A B (line_differs rs l (is_tail_call l.inst) A (line_defines rs l l.inst) dr (different_left l.results (line_definitions ls) d))
      (lines_differ rs dr ls (different_right l.results (line_definitions ls) d) (omega (arith, o)) (λ v old j. apart v (old_right v l.results (line_definitions ls) old) j))
      (λ v i j. go v (line_member rs l (is_tail_call l.inst) A (line_defines rs l l.inst) v i) (lines_members rs ls v j)))
    where
      go : (v : ℕ) → Old v l.results ⊎ (In v rs × (is_tail_call l.inst ≡ true)) → Old v (line_definitions ls) ⊎ (In v rs × (0 < tail_calls ls)) → ⊥
      go v (inl a) (inl b) = old_apart v l.results (line_definitions ls) d a b
      go v (inl a) (inr (j, h)) = apart v (old_left v l.results (line_definitions ls) a) j
      go v (inr (i, t)) (inl b) = apart v (old_right v l.results (line_definitions ls) b) i
      go v (inr (i, t)) (inr (j, h)) = let c : counted (is_tail_call l.inst) ≡ 1 = ap counted t in omega (arith, c, h, o)

  module _ (starts : List ℕ) (count : ℕ) where
    abbrev inlined : List Block → List Block
    inlined bs = map (inlined_block n outer after starts count) bs

    abbrev New : ℕ → ℕ → List Block → Type 0
    New m v bs = (m ≤ v) × (v < m + count * tail_calls_in bs)

    one_tail : (t : ℕ) → t ≤ 1 → 0 < t → count * t ≡ count
    one_tail t a b = let q : t ≡ 1 = omega (arith, a, b) in ap (λ z. count * z) q ∙ omega arith

    pub blocks_members : (m : ℕ) (bs : List Block) → map (λ b. get_or starts b 0) (block_numbers bs) ≡ starts_along m count bs → OneTail bs → (v : ℕ) → In v (definitions (inlined bs)) → Old v (definitions bs) ⊎ New m v bs
    blocks_members m [] e o v i = elim i [ ]
    blocks_members m (b ∷ bs) e o v i =
        let first : get_or starts b.number 0 ≡ m = cc in
        let rest : map (λ k. get_or starts k 0) (block_numbers bs) ≡ starts_along (m + count * tail_calls b.lines) count bs = cc in
        by first (in_cases v (map up b.params) (line_definitions (inlined_lines n outer after (results_from starts count b.number) b.lines) ++ definitions (inlined bs)) i) (blocks_members (m + count * tail_calls b.lines) bs rest o.1 v)
      where
        line_case : get_or starts b.number 0 ≡ m → Old v (line_definitions b.lines) ⊎ (In v (results_from starts count b.number) × (0 < tail_calls b.lines)) → Old v (b.params ++ (line_definitions b.lines ++ definitions bs)) ⊎ New m v (b ∷ bs)
        line_case f (inl old) = inl (old_right v b.params (line_definitions b.lines ++ definitions bs) (old_left v (line_definitions b.lines) (definitions bs) old))
        line_case f (inr (j, h)) =
            let r = results_in (get_or starts b.number 0) count v j in
            let low = r.0 in
            let high = r.1 in
            let c = one_tail (tail_calls b.lines) o.0 h in
            inr (omega (arith, low, f), omega (arith, high, f, c))

        rest_case : Old v (definitions bs) ⊎ New (m + count * tail_calls b.lines) v bs → Old v (b.params ++ (line_definitions b.lines ++ definitions bs)) ⊎ New m v (b ∷ bs)
        rest_case (inl old) = inl (old_right v b.params (line_definitions b.lines ++ definitions bs) (old_right v (line_definitions b.lines) (definitions bs) old))
        rest_case (inr (low, high)) = inr (omega (arith, low), omega (arith, high))

        behind : get_or starts b.number 0 ≡ m → In v (line_definitions (inlined_lines n outer after (results_from starts count b.number) b.lines)) ⊎ In v (definitions (inlined bs)) → (In v (definitions (inlined bs)) → Old v (definitions bs) ⊎ New (m + count * tail_calls b.lines) v bs) → Old v (b.params ++ (line_definitions b.lines ++ definitions bs)) ⊎ New m v (b ∷ bs)
        behind f (inl j) ih = line_case f (lines_members (results_from starts count b.number) b.lines v j)
        behind f (inr j) ih = rest_case (ih j)

        by : get_or starts b.number 0 ≡ m → In v (map up b.params) ⊎ In v (line_definitions (inlined_lines n outer after (results_from starts count b.number) b.lines) ++ definitions (inlined bs)) → (In v (definitions (inlined bs)) → Old v (definitions bs) ⊎ New (m + count * tail_calls b.lines) v bs) → Old v (b.params ++ (line_definitions b.lines ++ definitions bs)) ⊎ New m v (b ∷ bs)
        by f (inl j) ih = inl (old_left v b.params (line_definitions b.lines ++ definitions bs) (map_in up v b.params j))
        by f (inr j) ih = behind f (in_cases v (line_definitions (inlined_lines n outer after (results_from starts count b.number) b.lines)) (definitions (inlined bs)) j) ih

    pub blocks_differ : (m : ℕ) (bs : List Block) → map (λ b. get_or starts b 0) (block_numbers bs) ≡ starts_along m count bs → OneTail bs → Different (definitions bs) → ((v : ℕ) → Old v (definitions bs) → v < m) → Different (definitions (inlined bs))
    blocks_differ m [] e o d low = tt
    blocks_differ m (b ∷ bs) e o d low =
        let first : get_or starts b.number 0 ≡ m = cc in
        let rest : map (λ k. get_or starts k 0) (block_numbers bs) ≡ starts_along (m + count * tail_calls b.lines) count bs = cc in
        let LD = line_definitions (inlined_lines n outer after (results_from starts count b.number) b.lines) in
        let RD = definitions (inlined bs) in
        let dr = different_right b.params (line_definitions b.lines ++ definitions bs) d in
        let members = blocks_members (m + count * tail_calls b.lines) bs rest o.1 in
        different_join (map up b.params) (LD ++ RD) (shifted_differ n.values b.params (different_left b.params (line_definitions b.lines ++ definitions bs) d))
        (different_join LD RD
        (lines_differ (results_from starts count b.number) (shifted_differ (get_or starts b.number 0) (from 0 count) (from_differ 0 count)) b.lines (different_left (line_definitions b.lines) (definitions bs) dr) o.0 (λ v old j. let r = (results_in (get_or starts b.number 0) count v j).0 in let l = low v (old_right v b.params (line_definitions b.lines ++ definitions bs) (old_left v (line_definitions b.lines) (definitions bs) old)) in omega (arith, r, first, l)))
        (blocks_differ (m + count * tail_calls b.lines) bs rest o.1 (different_right (line_definitions b.lines) (definitions bs) dr) (λ v old. let l = low v (old_right v b.params (line_definitions b.lines ++ definitions bs) (old_right v (line_definitions b.lines) (definitions bs) old)) in omega (arith, l)))
        (λ v i j. lines_rest first v (lines_members (results_from starts count b.number) b.lines v i) (members v j)))
        (λ v i j. params_rest first v (map_in up v b.params i) (in_cases v LD RD j) (lines_members (results_from starts count b.number) b.lines v) (members v))
      where
        old_low : (v : ℕ) → Old v (definitions bs) → v < m
        old_low v old = low v (old_right v b.params (line_definitions b.lines ++ definitions bs) (old_right v (line_definitions b.lines) (definitions bs) old))

        line_low : (v : ℕ) → Old v (line_definitions b.lines) → v < m
        line_low v old = low v (old_right v b.params (line_definitions b.lines ++ definitions bs) (old_left v (line_definitions b.lines) (definitions bs) old))

        lines_rest : get_or starts b.number 0 ≡ m → (v : ℕ) → Old v (line_definitions b.lines) ⊎ (In v (results_from starts count b.number) × (0 < tail_calls b.lines)) → Old v (definitions bs) ⊎ New (m + count * tail_calls b.lines) v bs → ⊥
        lines_rest f v (inl a) (inl c) = old_apart v (line_definitions b.lines) (definitions bs) (different_right b.params (line_definitions b.lines ++ definitions bs) d) a c
        lines_rest f v (inl a) (inr (lo, hi)) = let l = line_low v a in omega (arith, l, lo)
        lines_rest f v (inr (j, h)) (inl c) = let r = (results_in (get_or starts b.number 0) count v j).0 in let l = old_low v c in omega (arith, r, f, l)
        lines_rest f v (inr (j, h)) (inr (lo, hi)) = let r = (results_in (get_or starts b.number 0) count v j).1 in let c = one_tail (tail_calls b.lines) o.0 h in omega (arith, r, f, lo, c)

        old_params : (v : ℕ) → Old v b.params → v < m
        old_params v old = low v (old_left v b.params (line_definitions b.lines ++ definitions bs) old)

        params_rest : get_or starts b.number 0 ≡ m → (v : ℕ) → Old v b.params → In v (line_definitions (inlined_lines n outer after (results_from starts count b.number) b.lines)) ⊎ In v (definitions (inlined bs)) → (In v (line_definitions (inlined_lines n outer after (results_from starts count b.number) b.lines)) → Old v (line_definitions b.lines) ⊎ (In v (results_from starts count b.number) × (0 < tail_calls b.lines))) → (In v (definitions (inlined bs)) → Old v (definitions bs) ⊎ New (m + count * tail_calls b.lines) v bs) → ⊥
        params_rest f v a (inl j) lm rm = go (lm j)
          where
            go : Old v (line_definitions b.lines) ⊎ (In v (results_from starts count b.number) × (0 < tail_calls b.lines)) → ⊥
            go (inl c) = old_apart v b.params (line_definitions b.lines ++ definitions bs) d a (old_left v (line_definitions b.lines) (definitions bs) c)
            go (inr (i, h)) = let r = (results_in (get_or starts b.number 0) count v i).0 in let l = old_params v a in omega (arith, r, f, l)
        params_rest f v a (inr j) lm rm = go (rm j)
          where
            go : Old v (definitions bs) ⊎ New (m + count * tail_calls b.lines) v bs → ⊥
            go (inl c) = old_apart v b.params (line_definitions b.lines ++ definitions bs) d a (old_right v (line_definitions b.lines) (definitions bs) c)
            go (inr (lo, hi)) = let l = old_params v a in omega (arith, l, lo)

    line_length : (rs : List ℕ) (l : Line) (i : Instruction) → length (inlined_line n outer after rs l i) ≡ 1 + counted (is_tail_call i)
    line_length rs l (Plain p) = refl
    line_length rs l (Branches b) = refl
    line_length rs l SequencePoint = refl
    line_length rs l (Return vs) = refl
    line_length rs l (Call t args) = refl
    line_length rs l (ReturnCall t args) = refl
    line_length rs l (TryCall t sig args normal table) = refl

    lines_length : (rs : List ℕ) (ls : List Line) → length (inlined_lines n outer after rs ls) ≡ length ls + tail_calls ls
    lines_length rs [] = refl
    lines_length rs (l ∷ ls) = let a = length-append (inlined_line n outer after rs l l.inst) (inlined_lines n outer after rs ls) in let b = line_length rs l l.inst in let c = lines_length rs ls in omega (arith, a, b, c)

    pub blocks_count : (bs : List Block) → instruction_count (inlined bs) ≡ instruction_count bs + tail_calls_in bs
    blocks_count [] = refl
    blocks_count (b ∷ bs) = let a = lines_length (results_from starts count b.number) b.lines in let c = blocks_count bs in omega (arith, a, c)

-- ---- the parameters and the lines of blocks that are two lists

pub params_there : (pss : List (List ℕ)) (xs : List BlockLines) → length pss ≡ length xs → (v : ℕ) → In v (all_of pss) → In v (definitions (blocks_from pss xs))
params_there [] xs e v i = elim i [ ]
params_there (ps ∷ pss) [] e v i = absurd (omega (arith, e))
params_there (ps ∷ pss) (x ∷ xs) e v i = go (in_cases v ps (all_of pss) i) (params_there pss xs (omega (arith, e)) v)
  where
    go : In v ps ⊎ In v (all_of pss) → (In v (all_of pss) → In v (definitions (blocks_from pss xs))) → In v (ps ++ (line_definitions (map line_of x.lines) ++ definitions (blocks_from pss xs)))
    go (inl j) ih = in_left v ps (line_definitions (map line_of x.lines) ++ definitions (blocks_from pss xs)) j
    go (inr j) ih = in_right v ps (line_definitions (map line_of x.lines) ++ definitions (blocks_from pss xs)) (in_right v (line_definitions (map line_of x.lines)) (definitions (blocks_from pss xs)) (ih j))

pub lines_there : (pss : List (List ℕ)) (xs : List BlockLines) → length pss ≡ length xs → (v : ℕ) → In v (line_definitions (lines_in xs)) → In v (definitions (blocks_from pss xs))
lines_there pss [] e v i = elim i [ ]
lines_there [] (x ∷ xs) e v i = absurd (omega (arith, e))
lines_there (ps ∷ pss) (x ∷ xs) e v i = in_right v ps (line_definitions (map line_of x.lines) ++ definitions (blocks_from pss xs)) (go (in_cases v (line_definitions (map line_of x.lines)) (line_definitions (lines_in xs)) (subst (In v) (line_definitions_join (map line_of x.lines) (lines_in xs)) i)) (lines_there pss xs (omega (arith, e)) v))
  where
    go : In v (line_definitions (map line_of x.lines)) ⊎ In v (line_definitions (lines_in xs)) → (In v (line_definitions (lines_in xs)) → In v (definitions (blocks_from pss xs))) → In v (line_definitions (map line_of x.lines) ++ definitions (blocks_from pss xs))
    go (inl j) ih = in_left v (line_definitions (map line_of x.lines)) (definitions (blocks_from pss xs)) j
    go (inr j) ih = in_right v (line_definitions (map line_of x.lines)) (definitions (blocks_from pss xs)) (ih j)

pub params_differ : (pss : List (List ℕ)) (xs : List BlockLines) → length pss ≡ length xs → Different (definitions (blocks_from pss xs)) → Different (all_of pss)
params_differ [] xs e d = tt
params_differ (ps ∷ pss) [] e d = absurd (omega (arith, e))
params_differ (ps ∷ pss) (x ∷ xs) e d =
    let l : length pss ≡ length xs = omega (arith, e) in
    let LX = line_definitions (map line_of x.lines) in
    let D = definitions (blocks_from pss xs) in
    different_join ps (all_of pss) (different_left ps (LX ++ D) d) (params_differ pss xs l (different_right LX D (different_right ps (LX ++ D) d))) (λ v i j. different_apart ps (LX ++ D) v d i (in_right v LX D (params_there pss xs l v j)))

pub own_lines_differ : (pss : List (List ℕ)) (xs : List BlockLines) → length pss ≡ length xs → Different (definitions (blocks_from pss xs)) → Different (line_definitions (lines_in xs))
own_lines_differ pss [] e d = tt
own_lines_differ [] (x ∷ xs) e d = absurd (omega (arith, e))
own_lines_differ (ps ∷ pss) (x ∷ xs) e d =
    let l : length pss ≡ length xs = omega (arith, e) in
    let LX = line_definitions (map line_of x.lines) in
    let D = definitions (blocks_from pss xs) in
    let dr = different_right ps (LX ++ D) d in
    subst Different (sym (line_definitions_join (map line_of x.lines) (lines_in xs))) (different_join LX (line_definitions (lines_in xs)) (different_left LX D dr) (own_lines_differ pss xs l (different_right LX D dr)) (λ v i j. different_apart LX D v dr i (lines_there pss xs l v j)))

pub lines_apart : (pss : List (List ℕ)) (xs : List BlockLines) → length pss ≡ length xs → Different (definitions (blocks_from pss xs)) → (v : ℕ) → In v (line_definitions (lines_in xs)) → In v (all_of pss) → ⊥
lines_apart [] xs e d v i j = elim j [ ]
lines_apart (ps ∷ pss) [] e d v i j = elim i [ ]
lines_apart (ps ∷ pss) (x ∷ xs) e d v i j =
    let l : length pss ≡ length xs = omega (arith, e) in
    go l (in_cases v (line_definitions (map line_of x.lines)) (line_definitions (lines_in xs)) (subst (In v) (line_definitions_join (map line_of x.lines) (lines_in xs)) i)) (in_cases v ps (all_of pss) j) (lines_apart pss xs l (different_right (line_definitions (map line_of x.lines)) (definitions (blocks_from pss xs)) (different_right ps (line_definitions (map line_of x.lines) ++ definitions (blocks_from pss xs)) d)) v)
  where
    go : length pss ≡ length xs → In v (line_definitions (map line_of x.lines)) ⊎ In v (line_definitions (lines_in xs)) → In v ps ⊎ In v (all_of pss) → (In v (line_definitions (lines_in xs)) → In v (all_of pss) → ⊥) → ⊥
    go l (inl a) (inl b) ih = different_apart ps (line_definitions (map line_of x.lines) ++ definitions (blocks_from pss xs)) v d b (in_left v (line_definitions (map line_of x.lines)) (definitions (blocks_from pss xs)) a)
    go l (inl a) (inr b) ih = different_apart (line_definitions (map line_of x.lines)) (definitions (blocks_from pss xs)) v (different_right ps (line_definitions (map line_of x.lines) ++ definitions (blocks_from pss xs)) d) a (params_there pss xs l v b)
    go l (inr a) (inl b) ih = different_apart ps (line_definitions (map line_of x.lines) ++ definitions (blocks_from pss xs)) v d b (in_right v (line_definitions (map line_of x.lines)) (definitions (blocks_from pss xs)) (lines_there pss xs l v a))
    go l (inr a) (inr b) ih = ih a b

pub lines_ranged : (N : Counts) (pss : List (List ℕ)) (xs : List BlockLines) → length pss ≡ length xs → Each (BlockInRange N) (blocks_from pss xs) → Each (LineInRange N) (lines_in xs)
lines_ranged N pss [] e h = tt
lines_ranged N [] (x ∷ xs) e h = absurd (omega (arith, e))
lines_ranged N (ps ∷ pss) (x ∷ xs) e h = each_join (LineInRange N) (map line_of x.lines) (lines_in xs) (h.0).lines (lines_ranged N pss xs (omega (arith, e)) h.1)

pub params_ranged : (N : Counts) (pss : List (List ℕ)) (xs : List BlockLines) → length pss ≡ length xs → Each (BlockInRange N) (blocks_from pss xs) → Below N.values (all_of pss)
params_ranged N [] xs e h = tt
params_ranged N (ps ∷ pss) [] e h = absurd (omega (arith, e))
params_ranged N (ps ∷ pss) (x ∷ xs) e h = below_join N.values ps (all_of pss) (h.0).params (params_ranged N pss xs (omega (arith, e)) h.1)

pub lines_counted : (pss : List (List ℕ)) (xs : List BlockLines) → length pss ≡ length xs → length (lines_in xs) ≡ instruction_count (blocks_from pss xs)
lines_counted [] [] e = refl
lines_counted [] (x ∷ xs) e = absurd (omega (arith, e))
lines_counted (ps ∷ pss) [] e = absurd (omega (arith, e))
lines_counted (ps ∷ pss) (x ∷ xs) e = let a = length-append (map line_of x.lines) (lines_in xs) in let l : length pss ≡ length xs = omega (arith, e) in let b = lines_counted pss xs l in omega (arith, a, b)

pub numbers_listed : (pss : List (List ℕ)) (xs : List BlockLines) → length pss ≡ length xs → numbers_of xs ≡ block_numbers (blocks_from pss xs)
numbers_listed [] [] e = refl
numbers_listed [] (x ∷ xs) e = absurd (omega (arith, e))
numbers_listed (ps ∷ pss) [] e = absurd (omega (arith, e))
numbers_listed (ps ∷ pss) (x ∷ xs) e = ap (λ z. x.block ∷ z) (numbers_listed pss xs (omega (arith, e)))

pub blocks_listed : (pss : List (List ℕ)) (xs : List BlockLines) → length pss ≡ length xs → length (blocks_from pss xs) ≡ length pss
blocks_listed [] [] e = refl
blocks_listed [] (x ∷ xs) e = absurd (omega (arith, e))
blocks_listed (ps ∷ pss) [] e = absurd (omega (arith, e))
blocks_listed (ps ∷ pss) (x ∷ xs) e = ap suc (blocks_listed pss xs (omega (arith, e)))

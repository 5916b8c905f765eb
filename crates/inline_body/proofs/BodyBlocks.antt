-- The blocks of a caller as a body is put into it.
use Rattle.std.proofs.Common.{◌≡◌, ℕ, zero, suc, ◌+◌, ◌≤◌, ◌⊎◌, inl, inr, List, [], ◌∷◌, ◌++◌, map, length, take, drop, Some, refl, sym, ap, ap₂, ◌∙◌, subst, arith, eq-eqb, ne_eqb, append_assoc, length-append}
use Rattle.std.specs.Prelude.{if◌then◌else◌, slice_get}
use Rattle.ir_core.specs.Module.{Block, Line}
use Rattle.ir_core.specs.Lookup.{block_numbers, definitions, line_definitions}
use Rattle.ir_core.specs.Lists.{In, Different, Below}
use Rattle.ir_core.specs.Sound.{instruction_count}
use Rattle.ir_core.specs.Edits.{at_block, put_line, lines_of}
use Rattle.ir_core.specs.Viewed.{line_of}
use Rattle.ir_core.proofs.Members.{in_left, in_right, in_cases, below_in}
use Rattle.ir_core.proofs.Splitting.{Split, split, at_block_none, numbers_split, count_join, definitions_join, line_definitions_join}
use Rattle.inline_body.specs.Opened.{taken, parted, with_more}
use Rattle.inline_body.proofs.Found.{in_middle}
use Rattle.inline_body.proofs.SiteBlocks.{taken_at}
use Rattle.ir_core.proofs.Cutting.{cut_list}
use Rattle.ir_core.proofs.ByNumber.{numbers_join}
use Rattle.inline_body.specs.declared.blocks.BlockLines.{BlockLines}
use Rattle.inline_body.specs.Inlined.{blocks_from}
use Rattle.inline_body.specs.WithBody.{with_body, empty_from, behind, blocks_with_lines, all_of, numbers_of}

pub other_number : (b : Block) (P : List Block) (h : Block) (Q : List Block) → Different (block_numbers (b ∷ (P ++ (h ∷ Q)))) → b.number ≡ h.number → ⊥
other_number b P h Q d e = d.0 (subst (λ z. In z (block_numbers (P ++ (h ∷ Q)))) (sym e) (in_middle P h Q))

-- an edit of a block between others
pub at_here : (P : List Block) (h : Block) (Q : List Block) (g : Block → Block) → Different (block_numbers (P ++ (h ∷ Q))) → at_block h.number g (P ++ (h ∷ Q)) ≡ P ++ (g h ∷ Q)
at_here [] h Q g d = ap₂ (λ z zs. z ∷ zs) (ap (λ c. if c then g h else h) (eq-eqb h.number h.number refl)) (at_block_none h.number g Q d.0)
at_here (b ∷ P) h Q g d = ap₂ (λ z zs. z ∷ zs) (ap (λ c. if c then g b else b) (ne_eqb b.number h.number (other_number b P h Q d))) (at_here P h Q g d.1)

placed_here : (i : ℕ) (jump : Line) (body : List Block) (n : ℕ) (rs : List ℕ) (P : List Block) (h : Block) (Q : List Block) → Different (block_numbers (P ++ (h ∷ Q))) → with_body h.number i jump body n rs (P ++ (h ∷ Q)) ≡ P ++ (record h { lines = take i h.lines ++ (jump ∷ []) } ∷ (body ++ (record { number = n; params = rs; lines = drop (suc i) h.lines } ∷ Q)))
placed_here i jump body n rs [] h Q d = ap (λ c. if c then record h { lines = take i h.lines ++ (jump ∷ []) } ∷ (body ++ (record { number = n; params = rs; lines = drop (suc i) h.lines } ∷ Q)) else h ∷ with_body h.number i jump body n rs Q) (eq-eqb h.number h.number refl)
placed_here i jump body n rs (b ∷ P) h Q d =
    ap (λ c. if c then record b { lines = take i b.lines ++ (jump ∷ []) } ∷ (body ++ (record { number = n; params = rs; lines = drop (suc i) b.lines } ∷ (P ++ (h ∷ Q)))) else b ∷ with_body h.number i jump body n rs (P ++ (h ∷ Q))) (ne_eqb b.number h.number (other_number b P h Q d))
    ∙ ap (λ z. b ∷ z) (placed_here i jump body n rs P h Q d.1)

parted_two : (n m : ℕ) (rs : List ℕ) (P : List Block) (h f : Block) (Q : List Block) → f.number ≡ n → (In n (block_numbers P) → ⊥) → (h.number ≡ n → ⊥) → parted n m rs (P ++ (h ∷ (f ∷ Q))) ≡ P ++ (h ∷ (record f { lines = [] } ∷ (record { number = m; params = rs; lines = f.lines } ∷ Q)))
parted_two n m rs [] h f Q e off o =
    ap (λ c. if c then record h { lines = [] } ∷ (record { number = m; params = rs; lines = h.lines } ∷ (f ∷ Q)) else h ∷ parted n m rs (f ∷ Q)) (ne_eqb h.number n o)
    ∙ ap (λ c. h ∷ (if c then record f { lines = [] } ∷ (record { number = m; params = rs; lines = f.lines } ∷ Q) else f ∷ parted n m rs Q)) (eq-eqb f.number n e)
parted_two n m rs (b ∷ P) h f Q e off o =
    ap (λ c. if c then record b { lines = [] } ∷ (record { number = m; params = rs; lines = b.lines } ∷ (P ++ (h ∷ (f ∷ Q)))) else b ∷ parted n m rs (P ++ (h ∷ (f ∷ Q)))) (ne_eqb b.number n (λ q. off (inl (sym q))))
    ∙ ap (λ z. b ∷ z) (parted_two n m rs P h f Q e (λ j. off (inr j)) o)

pub behind_two : (n : ℕ) (more : List Block) (P : List Block) (h f : Block) (Q : List Block) → f.number ≡ n → (In n (block_numbers P) → ⊥) → (h.number ≡ n → ⊥) → behind n more (P ++ (h ∷ (f ∷ Q))) ≡ P ++ (h ∷ (f ∷ (more ++ Q)))
behind_two n more [] h f Q e off o = ap (λ c. if c then h ∷ (more ++ (f ∷ Q)) else h ∷ behind n more (f ∷ Q)) (ne_eqb h.number n o) ∙ ap (λ c. h ∷ (if c then f ∷ (more ++ Q) else f ∷ behind n more Q)) (eq-eqb f.number n e)
behind_two n more (b ∷ P) h f Q e off o = ap (λ c. if c then b ∷ (more ++ (P ++ (h ∷ (f ∷ Q)))) else b ∷ behind n more (P ++ (h ∷ (f ∷ Q)))) (ne_eqb b.number n (λ q. off (inl (sym q)))) ∙ ap (λ z. b ∷ z) (behind_two n more P h f Q e (λ j. off (inr j)) o)

-- ---- blocks blocks_with_lines

abbrev pub empties : List (List ℕ) → List BlockLines → List Block
empties [] xs = []
empties (ps ∷ pss) [] = []
empties (ps ∷ pss) (x ∷ xs) = record { number = x.block; params = ps; lines = [] } ∷ empties pss xs

pub empties_are : (m : ℕ) (pss : List (List ℕ)) (xs : List BlockLines) → numbers_of xs ≡ block_numbers (empty_from m pss) → empties pss xs ≡ empty_from m pss
empties_are m [] xs e = refl
empties_are m (ps ∷ pss) [] e = absurd (let q = ap length e in omega (arith, q))
empties_are m (ps ∷ pss) (x ∷ xs) e =
    let n : x.block ≡ m = cc in
    let r : numbers_of xs ≡ block_numbers (empty_from (m + 1) pss) = cc in
    ap₂ (λ (k : ℕ) (z : List Block). record { number = k; params = ps; lines = [] } ∷ z) n (empties_are (m + 1) pss xs r)

pub as_many_numbers : (m : ℕ) (pss : List (List ℕ)) (xs : List BlockLines) → numbers_of xs ≡ block_numbers (empty_from m pss) → length pss ≡ length xs
as_many_numbers m [] [] e = refl
as_many_numbers m [] (x ∷ xs) e = absurd (let q = ap length e in omega (arith, q))
as_many_numbers m (ps ∷ pss) [] e = absurd (let q = ap length e in omega (arith, q))
as_many_numbers m (ps ∷ pss) (x ∷ xs) e = let r : numbers_of xs ≡ block_numbers (empty_from (m + 1) pss) = cc in ap suc (as_many_numbers (m + 1) pss xs r)

pub filled_body : (P Q : List Block) (pss : List (List ℕ)) (xs : List BlockLines) → length pss ≡ length xs → Different (block_numbers (P ++ (empties pss xs ++ Q))) → blocks_with_lines xs (P ++ (empties pss xs ++ Q)) ≡ P ++ (blocks_from pss xs ++ Q)
filled_body P Q [] [] e d = refl
filled_body P Q [] (x ∷ xs) e d = absurd (omega (arith, e))
filled_body P Q (ps ∷ pss) [] e d = absurd (omega (arith, e))
filled_body P Q (ps ∷ pss) (x ∷ xs) e d =
    let ls = map line_of x.lines in
    let old : Block = record { number = x.block; params = ps; lines = [] } in
    let new : Block = record { number = x.block; params = ps; lines = ls } in
    let rest = empties pss xs ++ Q in
    let now : block_numbers ((P ++ (new ∷ [])) ++ rest) ≡ block_numbers (P ++ (old ∷ rest)) = ap block_numbers (append_assoc P (new ∷ []) rest) ∙ numbers_split P rest old new refl in
    let l : length pss ≡ length xs = omega (arith, e) in
    ap (blocks_with_lines xs) (at_here P old rest (with_more ls) d ∙ sym (append_assoc P (new ∷ []) rest))
    ∙ (filled_body (P ++ (new ∷ [])) Q pss xs l (subst Different (sym now) d)
    ∙ append_assoc P (new ∷ []) (blocks_from pss xs ++ Q))

-- ---- the site's blocks with a list of blocks E behind the body's first

abbrev pub front_of : ℕ → Block → Block
front_of i h = record h { lines = take i h.lines }

abbrev pub opened_with : ℕ → ℕ → ℕ → List ℕ → List ℕ → List Block → List Block → Block → List Block → List Block
opened_with i n m ps rs E P h Q = P ++ (front_of i h ∷ (record { number = n; params = ps; lines = [] } ∷ (E ++ (record { number = m; params = rs; lines = drop (suc i) h.lines } ∷ Q))))

pub empty_defines : (m : ℕ) (pss : List (List ℕ)) (v : ℕ) → In v (definitions (empty_from m pss)) → In v (all_of pss)
empty_defines m [] v j = j
empty_defines m (ps ∷ pss) v j = elim (in_cases v ps _ j) [ inl q ↦ in_left v ps (all_of pss) q | inr q ↦ in_right v ps (all_of pss) (empty_defines (m + 1) pss v q) ]

pub empty_count : (m : ℕ) (pss : List (List ℕ)) → instruction_count (empty_from m pss) ≡ 0
empty_count m [] = refl
empty_count m (ps ∷ pss) = let h = empty_count (m + 1) pss in omega (arith, h)

pub empty_length : (m : ℕ) (pss : List (List ℕ)) → length (empty_from m pss) ≡ length pss
empty_length m [] = refl
empty_length m (ps ∷ pss) = ap suc (empty_length (m + 1) pss)

shorter : (i : ℕ) (ls : List Line) → length (take i ls) + length (drop (suc i) ls) ≤ length ls
shorter zero [] = omega arith
shorter (suc i) [] = omega arith
shorter zero (l ∷ ls) = omega arith
shorter (suc i) (l ∷ ls) = let h = shorter i ls in omega (arith, h)

module _ (a i n m : ℕ) (ps rs : List ℕ) (bs : List Block) (there : In a (block_numbers bs)) (differ : Different (block_numbers bs)) (below : Below n (block_numbers bs)) where
  abbrev s : Split a bs
  s = split a bs there differ

  numbers_are : block_numbers bs ≡ block_numbers s.before ++ (s.here.number ∷ block_numbers s.behind)
  numbers_are = ap block_numbers s.is ∙ numbers_join s.before (s.here ∷ s.behind)

  off : In n (block_numbers bs) → ⊥
  off j = let h = below_in n (block_numbers bs) n below j in omega (arith, h)

  off_before : In n (block_numbers s.before) → ⊥
  off_before j = off (subst (In n) (sym numbers_are) (in_left n (block_numbers s.before) _ j))

  off_here : s.here.number ≡ n → ⊥
  off_here e = off (subst (In n) (sym numbers_are) (in_right n (block_numbers s.before) _ (inl (sym e))))

  pub opened_is : parted n m rs (taken a i n ps bs) ≡ opened_with i n m ps rs [] s.before s.here s.behind
  opened_is = ap (parted n m rs) (taken_at a n i ps bs there differ) ∙ parted_two n m rs s.before (front_of i s.here) (record { number = n; params = ps; lines = drop (suc i) s.here.lines }) s.behind refl off_before off_here

  pub inserted_is : (E : List Block) → behind n E (parted n m rs (taken a i n ps bs)) ≡ opened_with i n m ps rs E s.before s.here s.behind
  inserted_is E = ap (behind n E) opened_is ∙ behind_two n E s.before (front_of i s.here) (record { number = n; params = ps; lines = [] }) _ refl off_before off_here

  pub first_there : (E : List Block) → In n (block_numbers (opened_with i n m ps rs E s.before s.here s.behind))
  first_there E = subst (In n) (sym (numbers_join s.before _)) (in_right n (block_numbers s.before) _ (inr (inl refl)))

  pub site_there : (E : List Block) → In a (block_numbers (opened_with i n m ps rs E s.before s.here s.behind))
  site_there E = subst (In a) (sym (numbers_join s.before _)) (in_right a (block_numbers s.before) _ (inl (sym s.number)))

  pub long : (E : List Block) → length (opened_with i n m ps rs E s.before s.here s.behind) ≡ length bs + length E + 2
  long E =
      let now = length-append s.before (front_of i s.here ∷ (record { number = n; params = ps; lines = [] } ∷ (E ++ (record { number = m; params = rs; lines = drop (suc i) s.here.lines } ∷ s.behind)))) in
      let mid = length-append E (record { number = m; params = rs; lines = drop (suc i) s.here.lines } ∷ s.behind) in
      let was = ap length s.is ∙ length-append s.before (s.here ∷ s.behind) in
      omega (arith, now, mid, was)

  pub few : (E : List Block) → instruction_count E ≡ 0 → instruction_count (opened_with i n m ps rs E s.before s.here s.behind) ≤ instruction_count bs
  few E z =
      let now = count_join s.before (front_of i s.here ∷ (record { number = n; params = ps; lines = [] } ∷ (E ++ (record { number = m; params = rs; lines = drop (suc i) s.here.lines } ∷ s.behind)))) in
      let mid = count_join E (record { number = m; params = rs; lines = drop (suc i) s.here.lines } ∷ s.behind) in
      let was = ap instruction_count s.is ∙ count_join s.before (s.here ∷ s.behind) in
      let move_lines = shorter i s.here.lines in
      omega (arith, now, mid, was, move_lines, z)

  -- what is defined is a parameter of the first block, or defined by E, or was defined
  pub defined : (E : List Block) (l : Line) → slice_get (lines_of a bs) i ≡ Some l → rs ≡ l.results → (v : ℕ) → In v (definitions (opened_with i n m ps rs E s.before s.here s.behind)) → (In v ps ⊎ In v (definitions E)) ⊎ In v (definitions bs)
  defined E l get res v j =
      let lines : line_definitions s.here.lines ≡ line_definitions (take i s.here.lines) ++ (l.results ++ line_definitions (drop (suc i) s.here.lines)) =
      ap line_definitions (cut_list s.here.lines i l (ap (λ z. slice_get z i) (sym s.lines) ∙ get)) ∙ line_definitions_join (take i s.here.lines) (l ∷ drop (suc i) s.here.lines) in
      let were : definitions bs ≡ definitions s.before ++ (s.here.params ++ (line_definitions s.here.lines ++ definitions s.behind)) = ap definitions s.is ∙ definitions_join s.before (s.here ∷ s.behind) in
      let old : In v (definitions s.before ++ (s.here.params ++ (line_definitions s.here.lines ++ definitions s.behind))) → In v (definitions bs) = λ q. subst (In v) (sym were) q in
      let line : In v (line_definitions (take i s.here.lines) ++ (l.results ++ line_definitions (drop (suc i) s.here.lines))) → In v (definitions bs) = λ q. old (in_right v (definitions s.before) _ (in_right v s.here.params _ (in_left v (line_definitions s.here.lines) (definitions s.behind) (subst (In v) (sym lines) q)))) in
      elim (in_cases v (definitions s.before) _ (subst (In v) (definitions_join s.before _) j)) [
        | inl q ↦ inr (old (in_left v (definitions s.before) _ q))
        | inr q ↦ elim (in_cases v s.here.params _ q) [
          | inl x ↦ inr (old (in_right v (definitions s.before) _ (in_left v s.here.params _ x)))
          | inr x ↦ elim (in_cases v (line_definitions (take i s.here.lines)) _ x) [
            | inl y ↦ inr (line (in_left v (line_definitions (take i s.here.lines)) _ y))
            | inr y ↦ elim (in_cases v ps _ y) [
              | inl w ↦ inl (inl w)
              | inr w ↦ elim (in_cases v (definitions E) _ (subst (In v) (definitions_join E _) w)) [
                | inl u ↦ inl (inr u)
                | inr u ↦ elim (in_cases v rs _ u) [
                  | inl t ↦ inr (line (in_right v (line_definitions (take i s.here.lines)) _ (in_left v l.results _ (subst (In v) res t))))
                  | inr t ↦ elim (in_cases v (line_definitions (drop (suc i) s.here.lines)) _ t) [
                    | inl p ↦ inr (line (in_right v (line_definitions (take i s.here.lines)) _ (in_right v l.results _ p)))
                    | inr p ↦ inr (old (in_right v (definitions s.before) _ (in_right v s.here.params _ (in_right v (line_definitions s.here.lines) _ p))))
                  ]
                ]
              ]
            ]
          ]
        ]
      ]

  -- the jump put and the body blocks_with_lines
  pub all_is : (jump : Line) (pss : List (List ℕ)) (xs : List BlockLines) → numbers_of xs ≡ n ∷ block_numbers (empty_from (n + 2) pss) → Different (block_numbers (opened_with i n m ps rs (empty_from (n + 2) pss) s.before s.here s.behind)) → blocks_with_lines xs (at_block a (put_line jump) (opened_with i n m ps rs (empty_from (n + 2) pss) s.before s.here s.behind)) ≡ with_body a i jump (blocks_from (ps ∷ pss) xs) m rs bs
  all_is jump pss [] e d = absurd (let q = ap length e in omega (arith, q))
  all_is jump pss (x ∷ xs) e d =
      let k : x.block ≡ n = cc in
      let es : numbers_of xs ≡ block_numbers (empty_from (n + 2) pss) = cc in
      let A : Block = record { number = m; params = rs; lines = drop (suc i) s.here.lines } in
      let F : Block = record { number = n; params = ps; lines = [] } in
      let h : Block = record s.here { lines = take i s.here.lines ++ (jump ∷ []) } in
      let E = empty_from (n + 2) pss in
      let Q = A ∷ s.behind in
      let body : empties (ps ∷ pss) (x ∷ xs) ≡ F ∷ E = ap₂ (λ (y : ℕ) (z : List Block). record { number = y; params = ps; lines = [] } ∷ z) k (empties_are (n + 2) pss xs es) in
      let put : at_block a (put_line jump) (opened_with i n m ps rs E s.before s.here s.behind) ≡ s.before ++ (h ∷ ((F ∷ E) ++ Q)) =
      ap (λ (z : ℕ). at_block z (put_line jump) (opened_with i n m ps rs E s.before s.here s.behind)) (sym s.number) ∙ at_here s.before (front_of i s.here) ((F ∷ E) ++ Q) (put_line jump) d in
      let shape : s.before ++ (h ∷ ((F ∷ E) ++ Q)) ≡ (s.before ++ (h ∷ [])) ++ (empties (ps ∷ pss) (x ∷ xs) ++ Q) = sym (append_assoc s.before (h ∷ []) ((F ∷ E) ++ Q)) ∙ ap (λ (z : List Block). (s.before ++ (h ∷ [])) ++ (z ++ Q)) (sym body) in
      let numbers : block_numbers (s.before ++ (h ∷ ((F ∷ E) ++ Q))) ≡ block_numbers (s.before ++ (front_of i s.here ∷ ((F ∷ E) ++ Q))) = numbers_split s.before ((F ∷ E) ++ Q) (front_of i s.here) h refl in
      let diff : Different (block_numbers ((s.before ++ (h ∷ [])) ++ (empties (ps ∷ pss) (x ∷ xs) ++ Q))) = subst Different (ap block_numbers shape) (subst Different (sym numbers) d) in
      let here : with_body a i jump (blocks_from (ps ∷ pss) (x ∷ xs)) m rs bs ≡ s.before ++ (h ∷ (blocks_from (ps ∷ pss) (x ∷ xs) ++ Q)) =
      ap₂ (λ (y : ℕ) (z : List Block). with_body y i jump (blocks_from (ps ∷ pss) (x ∷ xs)) m rs z) (sym s.number) s.is ∙ placed_here i jump (blocks_from (ps ∷ pss) (x ∷ xs)) m rs s.before s.here s.behind (subst (λ (z : List Block). Different (block_numbers z)) s.is differ) in
      ap (blocks_with_lines (x ∷ xs)) (put ∙ shape)
      ∙ (filled_body (s.before ++ (h ∷ [])) Q (ps ∷ pss) (x ∷ xs) (ap suc (as_many_numbers (n + 2) pss xs es)) diff
      ∙ (append_assoc s.before (h ∷ []) (blocks_from (ps ∷ pss) (x ∷ xs) ++ Q) ∙ sym here))

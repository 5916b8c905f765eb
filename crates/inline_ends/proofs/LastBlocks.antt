-- The functions that a caller becomes as a body is put in the place of a call that ends its block.
use Rattle.std.proofs.Common.{◌≡◌, ℕ, suc, ◌+◌, ◌⊎◌, inl, inr, List, [], ◌∷◌, ◌++◌, length, take, Some, refl, sym, ap, ap₂, ◌∙◌, subst, arith, append_assoc, length-append, eq-eqb, ne_eqb}
use Rattle.std.specs.Prelude.{slice_get, if◌then◌else◌}
use Rattle.ir_core.specs.Module.{Block, Line, Function}
use Rattle.ir_core.specs.Lookup.{block_numbers, definitions, line_definitions}
use Rattle.ir_core.specs.Lists.{In, Different, Each}
use Rattle.ir_core.specs.Sound.{IsSound, counts_of, instruction_count}
use Rattle.ir_core.specs.Edits.{at_block, put_line, lines_of, insert_after}
use Rattle.ir_core.proofs.Members.{in_left, in_right, in_cases, below_in}
use Rattle.ir_core.proofs.Splitting.{Split, split, definitions_join, line_definitions_join, count_join, numbers_split, length_split}
use Rattle.ir_core.proofs.Sizing.{each_in}
use Rattle.ir_core.proofs.ByNumber.{numbers_join}
use Rattle.inline_body.specs.declared.blocks.BlockLines.{BlockLines}
use Rattle.inline_body.specs.Inlined.{blocks_from}
use Rattle.inline_ends.specs.Ending.{with_last_body}
use Rattle.inline_body.specs.WithBody.{empty_from, behind, blocks_with_lines, all_of, numbers_of, counts_with}
use Rattle.inline_body.proofs.Found.{found_at}
use Rattle.inline_body.proofs.Fills.{numbers_still, as_many, defined_now, counted}
use Rattle.inline_body.proofs.BodyBlocks.{at_here, empty_defines, empty_count, empty_length, other_number, behind_two}
use Rattle.inline_body.proofs.BodyBlocks.{empties, empties_are, as_many_numbers, filled_body}

-- ---- lists

lines_here : (P : List Block) (h : Block) (Q : List Block) → Different (block_numbers (P ++ (h ∷ Q))) → lines_of h.number (P ++ (h ∷ Q)) ≡ h.lines
lines_here P h Q d = ap (λ (z : Block). z.lines) (found_at (P ++ (h ∷ Q)) h d P Q refl)

end_at : (ls : List Line) (l : Line) → slice_get (ls ++ (l ∷ [])) (length ls) ≡ Some l
end_at [] l = refl
end_at (x ∷ ls) l = end_at ls l

take_end : (ls : List Line) (l : Line) → take (length ls) (ls ++ (l ∷ [])) ≡ ls
take_end [] l = refl
take_end (x ∷ ls) l = ap (λ z. x ∷ z) (take_end ls l)

last_here : (i : ℕ) (jump : Line) (body : List Block) (P : List Block) (h : Block) (Q : List Block) → Different (block_numbers (P ++ (h ∷ Q))) → with_last_body h.number i jump body (P ++ (h ∷ Q)) ≡ P ++ (record h { lines = take i h.lines ++ (jump ∷ []) } ∷ (body ++ Q))
last_here i jump body [] h Q d = ap (λ c. if c then record h { lines = take i h.lines ++ (jump ∷ []) } ∷ (body ++ Q) else h ∷ with_last_body h.number i jump body Q) (eq-eqb h.number h.number refl)
last_here i jump body (b ∷ P) h Q d =
    ap (λ c. if c then record b { lines = take i b.lines ++ (jump ∷ []) } ∷ (body ++ (P ++ (h ∷ Q))) else b ∷ with_last_body h.number i jump body (P ++ (h ∷ Q))) (ne_eqb b.number h.number (other_number b P h Q d))
    ∙ ap (λ z. b ∷ z) (last_here i jump body P h Q d.1)

-- the jump put and the body filled
filled_here : (P : List Block) (h : Block) (Q : List Block) (n m : ℕ) (ps : List ℕ) (pss : List (List ℕ)) (xs : List BlockLines) (jump : Line) → numbers_of xs ≡ n ∷ block_numbers (empty_from m pss) → Different (block_numbers (P ++ (h ∷ (record { number = n; params = ps; lines = [] } ∷ (empty_from m pss ++ Q)))))
    → blocks_with_lines xs (at_block h.number (put_line jump) (P ++ (h ∷ (record { number = n; params = ps; lines = [] } ∷ (empty_from m pss ++ Q))))) ≡ P ++ (put_line jump h ∷ (blocks_from (ps ∷ pss) xs ++ Q))
filled_here P h Q n m ps pss [] jump e d = absurd (let q = ap length e in omega (arith, q))
filled_here P h Q n m ps pss (x ∷ xs) jump e d =
    let k : x.block ≡ n = cc in
    let es : numbers_of xs ≡ block_numbers (empty_from m pss) = cc in
    let F : Block = record { number = n; params = ps; lines = [] } in
    let E = empty_from m pss in
    let new : Block = put_line jump h in
    let body : empties (ps ∷ pss) (x ∷ xs) ≡ F ∷ E = ap₂ (λ (y : ℕ) (z : List Block). record { number = y; params = ps; lines = [] } ∷ z) k (empties_are m pss xs es) in
    let put : at_block h.number (put_line jump) (P ++ (h ∷ ((F ∷ E) ++ Q))) ≡ P ++ (new ∷ ((F ∷ E) ++ Q)) = at_here P h ((F ∷ E) ++ Q) (put_line jump) d in
    let shape : P ++ (new ∷ ((F ∷ E) ++ Q)) ≡ (P ++ (new ∷ [])) ++ (empties (ps ∷ pss) (x ∷ xs) ++ Q) = sym (append_assoc P (new ∷ []) ((F ∷ E) ++ Q)) ∙ ap (λ (z : List Block). (P ++ (new ∷ [])) ++ (z ++ Q)) (sym body) in
    let numbers : block_numbers (P ++ (new ∷ ((F ∷ E) ++ Q))) ≡ block_numbers (P ++ (h ∷ ((F ∷ E) ++ Q))) = numbers_split P ((F ∷ E) ++ Q) h new refl in
    let diff : Different (block_numbers ((P ++ (new ∷ [])) ++ (empties (ps ∷ pss) (x ∷ xs) ++ Q))) = subst Different (ap block_numbers shape) (subst Different (sym numbers) d) in
    ap (blocks_with_lines (x ∷ xs)) (put ∙ shape)
    ∙ (filled_body (P ++ (new ∷ [])) Q (ps ∷ pss) (x ∷ xs) (ap suc (as_many_numbers m pss xs es)) diff
    ∙ append_assoc P (new ∷ []) (blocks_from (ps ∷ pss) (x ∷ xs) ++ Q))

-- only the blocks differ
only_blocks : (g h : Function) (X : List Block) → g ≡ record h { blocks = X } → g ≡ record h { blocks = g.blocks }
only_blocks g h X e = e ∙ ap (λ (z : List Block). record h { blocks = z }) (sym (ap (λ (z : Function). z.blocks) e))

-- ---- the call taken

pub numbers_left : (f f1 : Function) (a : ℕ) (l : Line) → f ≡ record f1 { blocks = at_block a (put_line l) f1.blocks } → block_numbers f.blocks ≡ block_numbers f1.blocks
numbers_left f f1 a l e = ap (λ (z : Function). block_numbers z.blocks) e ∙ numbers_still a (l ∷ []) f1.blocks

module _ (f f1 : Function) (a i : ℕ) (l : Line) (there : In a (block_numbers f.blocks)) (sound : IsSound f1) (e1 : f ≡ record f1 { blocks = at_block a (put_line l) f1.blocks }) (last : i + 1 ≡ length (lines_of a f.blocks)) where
  pub there1 : In a (block_numbers f1.blocks)
  there1 = subst (In a) (numbers_left f f1 a l e1) there

  abbrev s : Split a f1.blocks
  s = split a f1.blocks there1 sound.blocks_differ

  blocks_was : f.blocks ≡ s.before ++ (put_line l s.here ∷ s.behind)
  blocks_was = ap (λ (z : Function). z.blocks) e1 ∙ s.at (put_line l)

  differ_was : Different (block_numbers (s.before ++ (put_line l s.here ∷ s.behind)))
  differ_was = subst Different (sym (numbers_split s.before s.behind s.here (put_line l s.here) refl)) (subst (λ (z : List Block). Different (block_numbers z)) s.is sound.blocks_differ)

  lines_was : lines_of a f.blocks ≡ s.here.lines ++ (l ∷ [])
  lines_was = ap₂ (λ (x : ℕ) (z : List Block). lines_of x z) (sym s.number) blocks_was ∙ lines_here s.before (put_line l s.here) s.behind differ_was

  index_is : i ≡ length s.here.lines
  index_is = let a = ap length lines_was in let b = length-append s.here.lines (l ∷ []) in omega (arith, last, a, b)

  pub call_was : slice_get (lines_of a f.blocks) i ≡ Some l
  call_was = ap₂ (λ (x : List Line) (k : ℕ). slice_get x k) lines_was index_is ∙ end_at s.here.lines l

  pub long1 : length f1.blocks ≡ length f.blocks
  long1 = ap length s.is ∙ (sym (length_split s.before s.behind s.here (put_line l s.here)) ∙ sym (ap length blocks_was))

  pub types1 : length f1.types ≡ length f.types
  types1 = sym (ap (λ (z : Function). length z.types) e1)

  pub count1 : instruction_count f.blocks ≡ instruction_count f1.blocks + 1
  count1 = ap (λ (z : Function). instruction_count z.blocks) e1 ∙ counted a (l ∷ []) f1.blocks there1 sound.blocks_differ

  defined_were : definitions f1.blocks ≡ definitions s.before ++ (s.here.params ++ (line_definitions s.here.lines ++ definitions s.behind))
  defined_were = ap definitions s.is ∙ definitions_join s.before (s.here ∷ s.behind)

  pub defined1 : (v : ℕ) → In v (definitions f1.blocks) → In v (definitions f.blocks)
  defined1 v j =
      let now : definitions f.blocks ≡ definitions s.before ++ (s.here.params ++ (line_definitions (s.here.lines ++ (l ∷ [])) ++ definitions s.behind)) = ap definitions blocks_was ∙ definitions_join s.before (put_line l s.here ∷ s.behind) in
      let lines = line_definitions_join s.here.lines (l ∷ []) in
      subst (In v) (sym now) (elim (in_cases v (definitions s.before) _ (subst (In v) defined_were j)) [
        | inl q ↦ in_left v (definitions s.before) _ q
        | inr q ↦ in_right v (definitions s.before) _ (elim (in_cases v s.here.params _ q) [
          | inl x ↦ in_left v s.here.params _ x
          | inr x ↦ in_right v s.here.params _ (elim (in_cases v (line_definitions s.here.lines) _ x) [
            | inl y ↦ in_left v (line_definitions (s.here.lines ++ (l ∷ []))) (definitions s.behind) (subst (In v) (sym lines) (in_left v (line_definitions s.here.lines) _ y))
            | inr y ↦ in_right v (line_definitions (s.here.lines ++ (l ∷ []))) (definitions s.behind) y
          ])
        ])
      ])

  -- ---- the body's blocks put

  module _ (ps : List ℕ) where
    abbrev first_block : Block
    first_block = record { number = length f.blocks; params = ps; lines = [] }

    abbrev with_first : List Block → List Block
    with_first E = s.before ++ (s.here ∷ (first_block ∷ (E ++ s.behind)))

    numbers_are : block_numbers f1.blocks ≡ block_numbers s.before ++ (s.here.number ∷ block_numbers s.behind)
    numbers_are = ap block_numbers s.is ∙ numbers_join s.before (s.here ∷ s.behind)

    off : In (length f.blocks) (block_numbers f1.blocks) → ⊥
    off j = let h = below_in (length f1.blocks) (block_numbers f1.blocks) (length f.blocks) sound.block_range j in let e = long1 in omega (arith, h, e)

    off_before : In (length f.blocks) (block_numbers s.before) → ⊥
    off_before j = off (subst (In (length f.blocks)) (sym numbers_are) (in_left (length f.blocks) (block_numbers s.before) _ j))

    off_here : s.here.number ≡ length f.blocks → ⊥
    off_here e = off (subst (In (length f.blocks)) (sym numbers_are) (in_right (length f.blocks) (block_numbers s.before) _ (inl (sym e))))

    long : (E : List Block) → length (with_first E) ≡ length f.blocks + length E + 1
    long E =
        let now = length-append s.before (s.here ∷ (first_block ∷ (E ++ s.behind))) in
        let mid = length-append E s.behind in
        let was = ap length s.is ∙ length-append s.before (s.here ∷ s.behind) in
        let e = long1 in
        omega (arith, now, mid, was, e)

    few : (E : List Block) → instruction_count E ≡ 0 → instruction_count (with_first E) ≡ instruction_count f1.blocks
    few E z =
        let now = count_join s.before (s.here ∷ (first_block ∷ (E ++ s.behind))) in
        let mid = count_join E s.behind in
        let was = ap instruction_count s.is ∙ count_join s.before (s.here ∷ s.behind) in
        omega (arith, now, mid, was, z)

    defined : (E : List Block) (v : ℕ) → In v (definitions (with_first E)) → (In v ps ⊎ In v (definitions E)) ⊎ In v (definitions f1.blocks)
    defined E v j =
        let old : In v (definitions s.before ++ (s.here.params ++ (line_definitions s.here.lines ++ definitions s.behind))) → In v (definitions f1.blocks) = λ q. subst (In v) (sym defined_were) q in
        elim (in_cases v (definitions s.before) _ (subst (In v) (definitions_join s.before _) j)) [
          | inl q ↦ inr (old (in_left v (definitions s.before) _ q))
          | inr q ↦ elim (in_cases v s.here.params _ q) [
            | inl x ↦ inr (old (in_right v (definitions s.before) _ (in_left v s.here.params _ x)))
            | inr x ↦ elim (in_cases v (line_definitions s.here.lines) _ x) [
              | inl y ↦ inr (old (in_right v (definitions s.before) _ (in_right v s.here.params _ (in_left v (line_definitions s.here.lines) _ y))))
              | inr y ↦ elim (in_cases v ps _ y) [
                | inl w ↦ inl (inl w)
                | inr w ↦ elim (in_cases v (definitions E) _ (subst (In v) (definitions_join E _) w)) [
                  | inl u ↦ inl (inr u)
                  | inr u ↦ inr (old (in_right v (definitions s.before) _ (in_right v s.here.params _ (in_right v (line_definitions s.here.lines) _ u))))
                ]
              ]
            ]
          ]
        ]

    module _ (f2 : Function) (n : ℕ) (e2 : f2 ≡ record f1 { blocks = insert_after a (record { number = n; params = ps; lines = [] }) f1.blocks }) (number : n ≡ length f1.blocks) where
      number_is : n ≡ length f.blocks
      number_is = number ∙ long1

      blocks2 : f2.blocks ≡ with_first []
      blocks2 = ap (λ (z : Function). z.blocks) e2 ∙ (ap (λ (k : ℕ). insert_after a (record { number = k; params = ps; lines = [] }) f1.blocks) number_is ∙ s.insert first_block)

      pub there2 : In n (block_numbers f2.blocks)
      there2 = subst (λ (z : List Block). In n (block_numbers z)) (sym blocks2) (subst (In n) (sym (numbers_join s.before _)) (in_right n (block_numbers s.before) _ (inr (inl number_is))))

      pub long2 : length f2.blocks ≡ length f.blocks + 1
      long2 = ap length blocks2 ∙ let h = long [] in omega (arith, h)

      pub types2 : length f2.types ≡ length f.types
      types2 = ap (λ (z : Function). length z.types) e2 ∙ types1

      pub defined2 : (v : ℕ) → In v (definitions f2.blocks) → In v ps ⊎ In v (definitions f.blocks)
      defined2 v j =
          elim (defined [] v (subst (λ (z : List Block). In v (definitions z)) blocks2 j)) [
            | inl q ↦ elim q [ inl x ↦ inl x | inr x ↦ elim x [ ] ]
            | inr q ↦ inr (defined1 v q)
          ]

      module _ (f3 : Function) (pss : List (List ℕ)) (e3 : f3 ≡ record f2 { blocks = behind n (empty_from (length f2.blocks) pss) f2.blocks }) where
        abbrev pub more : List Block
        more = empty_from (length f.blocks + 1) pss

        blocks3 : f3.blocks ≡ with_first more
        blocks3 =
            ap (λ (z : Function). z.blocks) e3
            ∙ (ap₂ (λ (k m : ℕ). behind k (empty_from m pss) f2.blocks) number_is long2
            ∙ (ap (behind (length f.blocks) more) blocks2 ∙ behind_two (length f.blocks) more s.before s.here first_block s.behind refl off_before off_here))

        is3 : f3 ≡ record f { blocks = f3.blocks }
        is3 = only_blocks f3 f2 _ e3 ∙ (ap (λ (z : Function). record z { blocks = f3.blocks }) e2 ∙ sym (ap (λ (z : Function). record z { blocks = f3.blocks }) e1))

        pub there3 : In a (block_numbers f3.blocks)
        there3 = subst (λ (z : List Block). In a (block_numbers z)) (sym blocks3) (subst (In a) (sym (numbers_join s.before _)) (in_right a (block_numbers s.before) _ (inl (sym s.number))))

        pub long3 : length f3.blocks ≡ length f.blocks + (length pss + 1)
        long3 = ap length blocks3 ∙ let h = long more in let e = empty_length (length f.blocks + 1) pss in omega (arith, h, e)

        pub counts3 : counts_of f3 ≡ counts_with f (length pss + 1)
        counts3 = ap counts_of is3 ∙ ap (λ (k : ℕ). record (counts_of f) { blocks = k }) long3

        pub few3 : instruction_count f3.blocks + 1 ≡ instruction_count f.blocks
        few3 = let h = ap instruction_count blocks3 ∙ few more (empty_count (length f.blocks + 1) pss) in let g = count1 in omega (arith, h, g)

        pub defined3 : (v : ℕ) → In v (definitions f3.blocks) → In v (ps ++ all_of pss) ⊎ In v (definitions f.blocks)
        defined3 v j =
            elim (defined more v (subst (λ (z : List Block). In v (definitions z)) blocks3 j)) [
              | inl q ↦ elim q [ inl x ↦ inl (in_left v ps (all_of pss) x) | inr x ↦ inl (in_right v ps (all_of pss) (empty_defines (length f.blocks + 1) pss v x)) ]
              | inr q ↦ inr (defined1 v q)
            ]

        number_there : (v : ℕ) → In v (length f.blocks ∷ block_numbers more) → In v (block_numbers f3.blocks)
        number_there v j =
            subst (λ (z : List Block). In v (block_numbers z)) (sym blocks3) (subst (In v) (sym (numbers_join s.before _))
            (in_right v (block_numbers s.before) _ (elim j [ inl q ↦ inr (inl q) | inr q ↦ inr (inr (subst (In v) (sym (numbers_join more _)) (in_left v (block_numbers more) _ q))) ])))

        module _ (f4 : Function) (jump : Line) (no_results : jump.results ≡ []) (e4 : f4 ≡ record f3 { blocks = at_block a (put_line jump) f3.blocks }) (xs : List BlockLines) (numbers : numbers_of xs ≡ length f.blocks ∷ block_numbers more) where
          blocks4 : f4.blocks ≡ at_block a (put_line jump) f3.blocks
          blocks4 = ap (λ (z : Function). z.blocks) e4

          pub there4 : Each (λ k. In k (block_numbers f4.blocks)) (numbers_of xs)
          there4 = each_in (block_numbers f4.blocks) (numbers_of xs) (λ v j. subst (In v) (sym (ap block_numbers blocks4 ∙ numbers_still a (jump ∷ []) f3.blocks)) (number_there v (subst (In v) numbers j)))

          pub counts4 : counts_of f4 ≡ counts_with f (length pss + 1)
          counts4 = ap counts_of e4 ∙ (ap (λ (k : ℕ). record (counts_of f3) { blocks = k }) (as_many a (jump ∷ []) f3.blocks) ∙ counts3)

          pub few4 : Different (block_numbers f3.blocks) → instruction_count f4.blocks ≡ instruction_count f.blocks
          few4 d = let h = ap instruction_count blocks4 ∙ counted a (jump ∷ []) f3.blocks there3 d in let g = few3 in omega (arith, h, g)

          pub defined4 : (v : ℕ) → In v (definitions f4.blocks) → In v (ps ++ all_of pss) ⊎ In v (definitions f.blocks)
          defined4 v j = elim (defined_now a (jump ∷ []) f3.blocks v (subst (λ (z : List Block). In v (definitions z)) blocks4 j)) [ inl q ↦ elim (subst (λ (z : List ℕ). In v (z ++ [])) no_results q) [ ] | inr q ↦ defined3 v q ]

          pub all4 : (f5 : Function) → Different (block_numbers f3.blocks) → f5 ≡ record f4 { blocks = blocks_with_lines xs f4.blocks } → f5 ≡ record f { blocks = with_last_body a i jump (blocks_from (ps ∷ pss) xs) f.blocks }
          all4 f5 d e5 =
              let h' : Block = put_line l s.here in
              let front : take i (s.here.lines ++ (l ∷ [])) ≡ s.here.lines = ap (λ (k : ℕ). take k (s.here.lines ++ (l ∷ []))) index_is ∙ take_end s.here.lines l in
              let there : with_last_body a i jump (blocks_from (ps ∷ pss) xs) f.blocks ≡ s.before ++ (put_line jump s.here ∷ (blocks_from (ps ∷ pss) xs ++ s.behind)) =
              ap₂ (λ (x : ℕ) (z : List Block). with_last_body x i jump (blocks_from (ps ∷ pss) xs) z) (sym s.number) blocks_was
              ∙ (last_here i jump (blocks_from (ps ∷ pss) xs) s.before h' s.behind differ_was
              ∙ ap (λ (z : List Line). s.before ++ (record s.here { lines = z ++ (jump ∷ []) } ∷ (blocks_from (ps ∷ pss) xs ++ s.behind))) front) in
              let made : blocks_with_lines xs f4.blocks ≡ s.before ++ (put_line jump s.here ∷ (blocks_from (ps ∷ pss) xs ++ s.behind)) =
              ap (blocks_with_lines xs) (blocks4 ∙ ap₂ (λ (x : ℕ) (z : List Block). at_block x (put_line jump) z) (sym s.number) blocks3)
              ∙ filled_here s.before s.here s.behind (length f.blocks) (length f.blocks + 1) ps pss xs jump numbers (subst (λ (z : List Block). Different (block_numbers z)) blocks3 d) in
              let rest : record f4 { blocks = f.blocks } ≡ f = ap (λ (z : Function). record z { blocks = f.blocks }) e4 ∙ ap (λ (z : Function). record z { blocks = f.blocks }) is3 in
              e5 ∙ (ap (λ (z : List Block). record f4 { blocks = z }) (made ∙ sym there) ∙ ap (λ (z : Function). record z { blocks = with_last_body a i jump (blocks_from (ps ∷ pss) xs) f.blocks }) rest)

-- The blocks of a splice have different numbers.
use Rattle.std.proofs.Common.{◌≡◌, ℕ, suc, ◌≤◌, ◌⊎◌, inl, inr, List, [], ◌∷◌, ◌++◌, map, refl, sym, ap, ◌∙◌, subst, arith, eq-eqb, ne_eqb}
use Rattle.std.specs.Prelude.{if◌then◌else◌}
use Rattle.std.proofs.lemmas.Bool.{cases_eq}
use Rattle.ir_core.specs.Module.{Line, Block}
use Rattle.ir_core.specs.Lookup.{block_numbers}
use Rattle.ir_core.specs.Lists.{In, Different}
use Rattle.ir_core.proofs.ByNumber.{numbers_join}
use Rattle.ir_core.proofs.Members.{in_cases, different_join}
use Rattle.ir_semantics.specs.Renaming.{block_under}
use Rattle.ir_semantics.specs.Splice.{Kind, Last, Fragment, Splicing, Tries, Within, after_blocks, body, caller_names, cut_block, kind_of, fragment, fragment_by, spliced, spliced_blocks}
use Rattle.inline_outcomes.proofs.Related.{Distinct}
use Rattle.inline_acceptance.proofs.Points.{shape, Shape, one, two, cut}

module _ (S : Splicing) (names : Distinct S.naming) where
  more_numbers : (c s : ℕ) (ls : List Line) → Different (block_numbers (fragment S c s ls).more) × ((x : ℕ) → In x (block_numbers (fragment S c s ls).more) → (j : ℕ) × (s ≤ j) × (x ≡ S.naming.new_block c j))
  more_numbers c s [] = (tt, (λ x p. elim p [ ]))
  more_numbers c s (i ∷ is) = by (fragment_by S (kind_of S.site.inst) c s i (fragment S c (suc s) is)) (shape S names (kind_of S.site.inst) c s i (fragment S c (suc s) is)) (more_numbers c (suc s) is)
    where
      Good : List Block → Type 0
      Good bs = Different (block_numbers bs) × ((x : ℕ) → In x (block_numbers bs) → (j : ℕ) × (s ≤ j) × (x ≡ S.naming.new_block c j))

      lower : Different (block_numbers (fragment S c (suc s) is).more) × ((x : ℕ) → In x (block_numbers (fragment S c (suc s) is).more) → (j : ℕ) × (suc s ≤ j) × (x ≡ S.naming.new_block c j)) → Different (block_numbers (fragment S c (suc s) is).more) × ((x : ℕ) → In x (block_numbers (fragment S c (suc s) is).more) → (j : ℕ) × (s ≤ j) × (x ≡ S.naming.new_block c j))
      lower h = (h.0, (λ x p. let u = h.1 x p in let v = u.1 in (u.0, omega (arith, v), u.2)))

      by : (q : Fragment) → Shape S names (kind_of S.site.inst) c s i i.inst (fragment S c (suc s) is) q → Different (block_numbers (fragment S c (suc s) is).more) × ((x : ℕ) → In x (block_numbers (fragment S c (suc s) is).more) → (j : ℕ) × (suc s ≤ j) × (x ≡ S.naming.new_block c j)) → Different (block_numbers q.more) × ((x : ℕ) → In x (block_numbers q.more) → (j : ℕ) × (s ≤ j) × (x ≡ S.naming.new_block c j))
      by q (one y lines t a m) h = subst (λ z. Different (block_numbers z) × ((x : ℕ) → In x (block_numbers z) → (j : ℕ) × (s ≤ j) × (x ≡ S.naming.new_block c j))) (sym m) (lower h)
      by q (two y w tails lines t a m) h = subst (λ z. Different (block_numbers z) × ((x : ℕ) → In x (block_numbers z) → (j : ℕ) × (s ≤ j) × (x ≡ S.naming.new_block c j))) (sym m) (lower h)
      by q (cut y lines t a b m) h =
          let k = lower h in
          subst (λ z. Different (block_numbers z) × ((x : ℕ) → In x (block_numbers z) → (j : ℕ) × (s ≤ j) × (x ≡ S.naming.new_block c j))) (sym m) (((λ p. let u = h.1 (S.naming.new_block c s) p in let v = u.1 in let e = (names.new_block c s c u.0 u.2).1 in absurd (omega (arith, v, e))), k.0), (λ x p. elim p [ inl q2 ↦ (s, omega arith, q2) | inr q2 ↦ k.1 x q2 ]))

  abbrev GName : List Block → ℕ → Type 0
  GName gs x = (c : ℕ) × In c (block_numbers gs) × ((x ≡ S.naming.callee_block c) ⊎ ((j : ℕ) × (x ≡ S.naming.new_block c j)))

  body_numbers : (gs : List Block) → Different (block_numbers gs) → Different (block_numbers (body S gs)) × ((x : ℕ) → In x (block_numbers (body S gs)) → GName gs x)
  body_numbers [] d = (tt, (λ x p. elim p [ ]))
  body_numbers (b ∷ gs) d =
      let ih = body_numbers gs d.1 in
      let more = (fragment S b.number 0 b.lines).more in
      let mn = more_numbers b.number 0 b.lines in
      let e = numbers_join more (body S gs) in
      let tail : Different (block_numbers more ++ block_numbers (body S gs)) = different_join (block_numbers more) (block_numbers (body S gs)) mn.0 ih.0 (λ x p q. let u = mn.1 x p in let w = ih.1 x q in elim w.2 [ inl r ↦ names.callee_new w.0 b.number u.0 (sym r ∙ u.2) | inr r ↦ let z = (names.new_block b.number u.0 w.0 r.0 (sym u.2 ∙ r.1)).0 in d.0 (subst (λ y. In y (block_numbers gs)) (sym z) w.1) ]) in (
        (
          (λ p. elim (in_cases (S.naming.callee_block b.number) (block_numbers more) (block_numbers (body S gs)) (subst (In (S.naming.callee_block b.number)) e p)) [
            | inl q ↦ let u = mn.1 (S.naming.callee_block b.number) q in names.callee_new b.number b.number u.0 u.2
            | inr q ↦ let w = ih.1 (S.naming.callee_block b.number) q in elim w.2 [ inl r ↦ d.0 (subst (λ y. In y (block_numbers gs)) (sym (names.callee_block b.number w.0 r)) w.1) | inr r ↦ names.callee_new b.number w.0 r.0 r.1 ]
          ]),
          subst Different (sym e) tail,
        ),
        (λ x p.
            elim p [
              | inl q ↦ (b.number, inl refl, inl q)
              | inr q ↦
                  elim (in_cases x (block_numbers more) (block_numbers (body S gs)) (subst (In x) e q)) [
                    | inl r ↦ let u = mn.1 x r in (b.number, inl refl, inr (u.0, u.2))
                    | inr r ↦ let w = ih.1 x r in (w.0, inr w.1, w.2)
                  ]
            ]),
      )

  renamed_numbers : (bs : List Block) → Different (block_numbers bs) → Different (block_numbers (map (block_under (caller_names S)) bs)) × ((x : ℕ) → In x (block_numbers (map (block_under (caller_names S)) bs)) → (b : ℕ) × In b (block_numbers bs) × (x ≡ S.naming.caller_block b))
  renamed_numbers [] d = (tt, (λ x p. elim p [ ]))
  renamed_numbers (b ∷ bs) d =
      let ih = renamed_numbers bs d.1 in
      (((λ p. let u = ih.1 (S.naming.caller_block b.number) p in d.0 (subst (λ z. In z (block_numbers bs)) (sym (names.caller_block b.number u.0 u.2)) u.1)), ih.0), (λ x p. elim p [ inl q ↦ (b.number, inl refl, q) | inr q ↦ let u = ih.1 x q in (u.0, inr u.1, u.2) ]))

  after_numbers : (k : Kind) → Different (block_numbers (after_blocks S k)) × ((x : ℕ) → In x (block_numbers (after_blocks S k)) → x ≡ S.naming.after)
  after_numbers Within = (((λ p. p), tt), (λ x p. elim p [ inl q ↦ q | inr q ↦ elim q [ ] ]))
  after_numbers Last = (tt, (λ x p. elim p [ ]))
  after_numbers (Tries a b) = (tt, (λ x p. elim p [ ]))

  abbrev OName : List Block → ℕ → Type 0
  OName bs x = ((b : ℕ) × In b (block_numbers bs) × (x ≡ S.naming.caller_block b)) ⊎ (((c : ℕ) × (x ≡ S.naming.callee_block c)) ⊎ (((c : ℕ) × (j : ℕ) × (x ≡ S.naming.new_block c j)) ⊎ (x ≡ S.naming.after)))

  -- what stands between the cut and the rest
  middle : (bs : List Block) → Different (block_numbers bs) → Different (block_numbers S.callee.blocks) → Different (block_numbers (body S S.callee.blocks ++ (after_blocks S (kind_of S.site.inst) ++ map (block_under (caller_names S)) bs))) × ((x : ℕ) → In x (block_numbers (body S S.callee.blocks ++ (after_blocks S (kind_of S.site.inst) ++ map (block_under (caller_names S)) bs))) → OName bs x)
  middle bs d dg =
      let G = body S S.callee.blocks in
      let A = after_blocks S (kind_of S.site.inst) in
      let B = map (block_under (caller_names S)) bs in
      let gn = body_numbers S.callee.blocks dg in
      let an = after_numbers (kind_of S.site.inst) in
      let bn = renamed_numbers bs d in
      let e2 = numbers_join A B in
      let e1 = numbers_join G (A ++ B) in
      let ab : Different (block_numbers A ++ block_numbers B) = different_join (block_numbers A) (block_numbers B) an.0 bn.0 (λ x p q. let u = bn.1 x q in names.caller_after u.0 (sym u.2 ∙ an.1 x p)) in
      let all : Different (block_numbers G ++ block_numbers (A ++ B)) = different_join (block_numbers G) (block_numbers (A ++ B)) gn.0 (subst Different (sym e2) ab) (λ x p q. let w = gn.1 x p in elim (in_cases x (block_numbers A) (block_numbers B) (subst (In x) e2 q)) [ inl r ↦ elim w.2 [ inl z ↦ names.callee_after w.0 (sym z ∙ an.1 x r) | inr z ↦ names.new_after w.0 z.0 (sym z.1 ∙ an.1 x r) ] | inr r ↦ let u = bn.1 x r in elim w.2 [ inl z ↦ names.blocks u.0 w.0 (sym u.2 ∙ z) | inr z ↦ names.caller_new u.0 w.0 z.0 (sym u.2 ∙ z.1) ] ]) in (
        subst Different (sym e1) all,
        (λ x p.
            elim (in_cases x (block_numbers G) (block_numbers (A ++ B)) (subst (In x) e1 p)) [
              | inl q ↦ let w = gn.1 x q in elim w.2 [ inl z ↦ inr (inl (w.0, z)) | inr z ↦ inr (inr (inl (w.0, z.0, z.1))) ]
              | inr q ↦ elim (in_cases x (block_numbers A) (block_numbers B) (subst (In x) e2 q)) [ inl r ↦ inr (inr (inr (an.1 x r))) | inr r ↦ inl (bn.1 x r) ]
            ]),
      )

  out_numbers : (bs : List Block) → Different (block_numbers bs) → Different (block_numbers S.callee.blocks) → Different (block_numbers (spliced_blocks S bs)) × ((x : ℕ) → In x (block_numbers (spliced_blocks S bs)) → OName bs x)
  out_numbers [] d dg = (tt, (λ x p. elim p [ ]))
  out_numbers (b ∷ bs) d dg = elim (cases_eq b.number S.at) [ inl q ↦ subst (λ z. Different (block_numbers z) × ((x : ℕ) → In x (block_numbers z) → OName (b ∷ bs) x)) (sym (is_cut q)) (with_head (cut_block S b) refl _ (middle bs d.1 dg)) | inr q ↦ subst (λ z. Different (block_numbers z) × ((x : ℕ) → In x (block_numbers z) → OName (b ∷ bs) x)) (sym (is_whole q)) (with_head (block_under (caller_names S) b) refl _ (out_numbers bs d.1 dg)) ]
    where
      is_cut : b.number ≡ S.at → spliced_blocks S (b ∷ bs) ≡ cut_block S b ∷ (body S S.callee.blocks ++ (after_blocks S (kind_of S.site.inst) ++ map (block_under (caller_names S)) bs))
      is_cut q = ap (λ c. if c then cut_block S b ∷ (body S S.callee.blocks ++ (after_blocks S (kind_of S.site.inst) ++ map (block_under (caller_names S)) bs)) else block_under (caller_names S) b ∷ spliced_blocks S bs) (eq-eqb b.number S.at q)

      is_whole : (b.number ≡ S.at → ⊥) → spliced_blocks S (b ∷ bs) ≡ block_under (caller_names S) b ∷ spliced_blocks S bs
      is_whole q = ap (λ c. if c then cut_block S b ∷ (body S S.callee.blocks ++ (after_blocks S (kind_of S.site.inst) ++ map (block_under (caller_names S)) bs)) else block_under (caller_names S) b ∷ spliced_blocks S bs) (ne_eqb b.number S.at q)

      with_head : (h : Block) → h.number ≡ S.naming.caller_block b.number → (rest : List Block) → Different (block_numbers rest) × ((x : ℕ) → In x (block_numbers rest) → OName bs x) → Different (block_numbers (h ∷ rest)) × ((x : ℕ) → In x (block_numbers (h ∷ rest)) → OName (b ∷ bs) x)
      with_head h hn rest r = (
        (
          (λ p. elim (r.1 h.number p) [
            | inl u ↦ d.0 (subst (λ z. In z (block_numbers bs)) (sym (names.caller_block b.number u.0 (sym hn ∙ u.2))) u.1)
            | inr u ↦ elim u [ inl v ↦ names.blocks b.number v.0 (sym hn ∙ v.1) | inr v ↦ elim v [ inl w ↦ names.caller_new b.number w.0 w.1 (sym hn ∙ w.2) | inr w ↦ names.caller_after b.number (sym hn ∙ w) ] ]
          ]),
          r.0,
        ),
        (λ x p. elim p [ inl q ↦ inl (b.number, inl refl, q ∙ hn) | inr q ↦ elim (r.1 x q) [ inl u ↦ inl (u.0, inr u.1, u.2) | inr u ↦ inr u ] ]),
      )

  pub out_different : Different (block_numbers S.caller.blocks) → Different (block_numbers S.callee.blocks) → Different (block_numbers (spliced S).blocks)
  out_different d e = (out_numbers S.caller.blocks d e).0

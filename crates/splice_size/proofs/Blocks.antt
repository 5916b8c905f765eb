-- The size of the blocks of a splice.
use Rattle.std.specs.Prelude.{⊤, if◌then◌else◌}
use Rattle.std.proofs.Common.{◌≡◌, ℕ, ◌+◌, ◌≤◌, List, [], ◌∷◌, ◌++◌, length, map, Some, inl, inr, ap, ◌∙◌, sym, arith, eq-eqb, ne_eqb}
use Rattle.std.proofs.lemmas.Bool.{cases_eq}
use Rattle.ir_core.specs.declared.instructions.Arg.TheVariants as arg
use Rattle.ir_core.specs.Lists.{Each}
use Rattle.ir_core.specs.Lookup.{find_block}
use Rattle.ir_core.specs.Module.{Block}
use Rattle.ir_core.specs.Size.{block_size, line_size, total}
use Rattle.ir_core.proofs.Sizing.{total_join}
use Rattle.ir_core.proofs.Gets.{some_same}
use Rattle.ir_semantics.specs.Renaming.{block_under, line_under}
use Rattle.ir_semantics.specs.Splice.{Splicing, Kind, Within, Last, Tries, after_blocks, args_of, body, caller_names, cut_block, fragment, jump_in, kind_of, spliced_blocks}
use Rattle.splice_size.specs.declared.counts.Counts.{Counts}
use Rattle.splice_size.specs.Counts.{block_counts, counts_of, line_counts, none, summed}
use Rattle.splice_size.specs.SizeAfter.{after_size, body_size, put_size}
use Rattle.inline_outcomes.proofs.Places.{find_hit, find_skip}
use Rattle.inline_acceptance.proofs.KeptSizes.{block_same, line_same, total_map}
use Rattle.inline_acceptance.proofs.KeptLists.{length_map}
use Rattle.splice_size.proofs.Lines.{Fits}
use Rattle.splice_size.proofs.Steps as steps
use Rattle.splice_size.proofs.Steps.{lines_size}
use Rattle.splice_size.proofs.Sums.{body_alone, body_plus}

-- each line of each block
abbrev pub AllFit : List Block → Type 0
AllFit bs = Each (λ b. Each (λ l. Fits l l.inst) b.lines) bs

module _ (p : Splicing) where
  abbrev kind : Kind
  kind = kind_of p.site.inst

  abbrev of_body : Counts → ℕ
  of_body c = body_size kind (length p.site.tags) (length p.site.results) c

  body_total : (bs : List Block) → AllFit bs → total block_size (body p bs) ≡ of_body (summed block_counts bs)
  body_total [] f = steps.nothing p kind
  body_total (b ∷ bs) f =
      let q = fragment p b.number 0 b.lines in
      let n = 1 + length b.params in
      let e1 = length_map p.naming.callee_value b.params in
      let e2 : total line_size q.lines + total block_size q.more ≡ of_body (summed line_counts b.lines) = lines_size p b.number 0 b.lines f.0 in
      let e3 : total block_size (q.more ++ body p bs) ≡ total block_size q.more + total block_size (body p bs) = total_join block_size q.more (body p bs) in
      let e4 : total block_size (body p bs) ≡ of_body (summed block_counts bs) = body_total bs f.1 in
      let e5 : of_body (block_counts b) ≡ of_body (record none { blocks = n }) + of_body (summed line_counts b.lines) = body_plus kind (length p.site.tags) (length p.site.results) (record none { blocks = n }) (summed line_counts b.lines) in
      let e6 : of_body (record none { blocks = n }) ≡ n = body_alone kind (length p.site.tags) (length p.site.results) n in
      let e7 : of_body (summed block_counts (b ∷ bs)) ≡ of_body (block_counts b) + of_body (summed block_counts bs) = body_plus kind (length p.site.tags) (length p.site.results) (block_counts b) (summed block_counts bs) in
      joined (length b.params) (length (map p.naming.callee_value b.params)) (total line_size q.lines) (total block_size q.more) (total block_size (q.more ++ body p bs)) (total block_size (body p bs))
      (of_body (summed line_counts b.lines)) (of_body (record none { blocks = n })) (of_body (block_counts b)) (of_body (summed block_counts bs)) (of_body (summed block_counts (b ∷ bs)))
      e1 e2 e3 e4 e5 e6 e7
    where
      joined : (n n' ls ms rest tail ob oh oc os all : ℕ) → n' ≡ n → ls + ms ≡ ob → rest ≡ ms + tail → tail ≡ os → oc ≡ oh + ob → oh ≡ 1 + n → all ≡ oc + os → ((1 + n') + ls) + rest ≡ all
      joined n n' ls ms rest tail ob oh oc os all e1 e2 e3 e4 e5 e6 e7 = omega (arith, e1, e2, e3, e4, e5, e6, e7)

  -- ---- the caller's blocks

  -- what stands behind the site stands in the block behind the body, or nothing does
  abbrev pub Ends : Kind → Type 0
  Ends Within = ⊤
  Ends Last = p.behind ≡ []
  Ends (Tries normal table) = p.behind ≡ []

  after_total : (k : Kind) → Ends k → total block_size (after_blocks p k) ≡ after_size k (length p.site.results) + total line_size p.behind
  after_total Within e =
      let a = length_map p.naming.caller_value p.site.results in
      let b = total_map (line_under (caller_names p)) line_size line_size (line_same (caller_names p)) p.behind in omega (arith, a, b)
  after_total Last e = let a = ap (total line_size) e in omega (arith, a)
  after_total (Tries normal table) e = let a = ap (total line_size) e in omega (arith, a)

  jump_size : line_size (jump_in p) ≡ 1 + length (args_of p.site.inst)
  jump_size =
      let a = length_map arg.Value (map p.naming.caller_value (args_of p.site.inst)) in
      let b = length_map p.naming.caller_value (args_of p.site.inst) in omega (arith, a, b)

  cut_size : (b : Block) → block_size (cut_block p b) ≡ (1 + length b.params) + (total line_size p.before + (1 + length (args_of p.site.inst)))
  cut_size b =
      let a = length_map p.naming.caller_value b.params in
      let c = total_join line_size (map (line_under (caller_names p)) p.before) (jump_in p ∷ []) in
      let d = total_map (line_under (caller_names p)) line_size line_size (line_same (caller_names p)) p.before in omega (arith, a, c, d, jump_size)

  -- the block of the site
  site_size : (b : Block) → b.lines ≡ p.before ++ (p.site ∷ p.behind) → block_size b ≡ (1 + length b.params) + (total line_size p.before + (line_size p.site + total line_size p.behind))
  site_size b e = ap (λ n. (1 + length b.params) + n) (ap (total line_size) e ∙ total_join line_size p.before (p.site ∷ p.behind))

  abbrev further : List Block → List Block
  further bs = map (block_under (caller_names p)) bs

  further_size : (bs : List Block) → total block_size (further bs) ≡ total block_size bs
  further_size bs = total_map (block_under (caller_names p)) block_size block_size (block_same (caller_names p)) bs

  abbrev cut : Block → List Block → List Block
  cut b bs = cut_block p b ∷ (body p p.callee.blocks ++ (after_blocks p kind ++ further bs))

  module _ (fit : AllFit p.callee.blocks) (ends : Ends kind) where
    cut_total : (b : Block) (bs : List Block) → b.lines ≡ p.before ++ (p.site ∷ p.behind) → total block_size (cut b bs) + line_size p.site ≡ total block_size (b ∷ bs) + put_size p.site (counts_of p.callee)
    cut_total b bs e =
        let e1 : total block_size (body p p.callee.blocks ++ (after_blocks p kind ++ further bs)) ≡ total block_size (body p p.callee.blocks) + total block_size (after_blocks p kind ++ further bs) = total_join block_size (body p p.callee.blocks) (after_blocks p kind ++ further bs) in
        let e2 : total block_size (after_blocks p kind ++ further bs) ≡ total block_size (after_blocks p kind) + total block_size (further bs) = total_join block_size (after_blocks p kind) (further bs) in
        joined (block_size (cut_block p b)) (total block_size (body p p.callee.blocks ++ (after_blocks p kind ++ further bs))) (total block_size (body p p.callee.blocks)) (total block_size (after_blocks p kind ++ further bs)) (total block_size (after_blocks p kind)) (total block_size (further bs)) (total block_size bs) (block_size b)
        (1 + length b.params) (total line_size p.before) (1 + length (args_of p.site.inst)) (line_size p.site) (total line_size p.behind) (of_body (counts_of p.callee)) (after_size kind (length p.site.results))
        e1 e2 (further_size bs) (body_total p.callee.blocks fit) (after_total kind ends) (cut_size b) (site_size b e)
      where
        joined : (c rest bo ar af fu bt bb n be a si bh ob as' : ℕ) → rest ≡ bo + ar → ar ≡ af + fu → fu ≡ bt → bo ≡ ob → af ≡ as' + bh → c ≡ n + (be + a) → bb ≡ n + (be + (si + bh)) → (c + rest) + si ≡ (bb + bt) + (a + ob + as')
        joined c rest bo ar af fu bt bb n be a si bh ob as' e1 e2 e3 e4 e5 e6 e7 = omega (arith, e1, e2, e3, e4, e5, e6, e7)

    pub blocks_size : (bs : List Block) (b : Block) → find_block p.at bs ≡ Some b → b.lines ≡ p.before ++ (p.site ∷ p.behind) → total block_size (spliced_blocks p bs) + line_size p.site ≡ total block_size bs + put_size p.site (counts_of p.callee)
    blocks_size [] b found e = cc
    blocks_size (x ∷ bs) b found e =
        elim (cases_eq x.number p.at) [
          | inl q ↦
              let same : x ≡ b = some_same (sym (find_hit p.at x bs q) ∙ found) in
              let here : spliced_blocks p (x ∷ bs) ≡ cut x bs = ap (λ c. if c then cut x bs else block_under (caller_names p) x ∷ spliced_blocks p bs) (eq-eqb x.number p.at q) in
              ap (λ z. total block_size z + line_size p.site) here ∙ cut_total x bs (ap (λ (z : Block). z.lines) same ∙ e)
          | inr q ↦
              let below : total block_size (spliced_blocks p bs) + line_size p.site ≡ total block_size bs + put_size p.site (counts_of p.callee) = blocks_size bs b (sym (find_skip p.at x bs q) ∙ found) e in
              let here : spliced_blocks p (x ∷ bs) ≡ block_under (caller_names p) x ∷ spliced_blocks p bs = ap (λ c. if c then cut x bs else block_under (caller_names p) x ∷ spliced_blocks p bs) (ne_eqb x.number p.at q) in
              ap (λ z. total block_size z + line_size p.site) here
              ∙ passed (block_size (block_under (caller_names p) x)) (block_size x) (total block_size (spliced_blocks p bs)) (line_size p.site) (total block_size bs) (put_size p.site (counts_of p.callee)) (block_same (caller_names p) x) below
        ]
      where
        passed : (u x s l b q : ℕ) → u ≡ x → s + l ≡ b + q → (u + s) + l ≡ (x + b) + q
        passed u x s l b q e f = omega (arith, e, f)

  -- the site is a part of its block, and this one of the blocks
  pub site_within : (bs : List Block) (b : Block) → find_block p.at bs ≡ Some b → b.lines ≡ p.before ++ (p.site ∷ p.behind) → line_size p.site ≤ total block_size bs
  site_within [] b found e = cc
  site_within (x ∷ bs) b found e =
      elim (cases_eq x.number p.at) [
        | inl q ↦
            let same : x ≡ b = some_same (sym (find_hit p.at x bs q) ∙ found) in
            let s = site_size x (ap (λ (z : Block). z.lines) same ∙ e) in
            within (block_size x) (1 + length x.params) (total line_size p.before) (line_size p.site) (total line_size p.behind) (total block_size bs) s
        | inr q ↦ let i : line_size p.site ≤ total block_size bs = site_within bs b (sym (find_skip p.at x bs q) ∙ found) e in more (block_size x) (line_size p.site) (total block_size bs) i
      ]
    where
      within : (x n b s d t : ℕ) → x ≡ n + (b + (s + d)) → s ≤ x + t
      within x n b s d t e = omega (arith, e)

      more : (x s t : ℕ) → s ≤ t → s ≤ x + t
      more x s t h = omega (arith, h)

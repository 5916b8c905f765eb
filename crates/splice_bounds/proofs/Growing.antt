-- The blocks of a splice take the numbers of the caller's blocks and of the body.
use Rattle.std.proofs.Common.{◌≡◌, ℕ, zero, suc, ◌+◌, ◌*◌, ◌≤◌, inl, inr, List, [], ◌∷◌, ◌++◌, length, map, Some, refl}
use Rattle.std.proofs.Common.{sym, ap, ◌∙◌, subst, arith, eq-eqb, ne_eqb}
use Rattle.std.specs.Prelude.{if◌then◌else◌}
use Rattle.std.proofs.Math.Nat.{mul-add}
use Rattle.std.proofs.lemmas.Bool.{cases_eq}
use Rattle.std.proofs.lemmas.List.{length-map}
use Rattle.ir_core.specs.Lookup.{find_block}
use Rattle.ir_core.specs.Module.{Instruction, Plain, Branches, SequencePoint, Return, Call, ReturnCall, TryCall, Line}
use Rattle.ir_core.specs.Module.{Block}
use Rattle.ir_core.specs.Size.{total}
use Rattle.ir_core.proofs.Sizing.{total_join}
use Rattle.ir_core.proofs.Gets.{some_same}
use Rattle.ir_semantics.specs.Renaming.{line_under, block_under}
use Rattle.ir_semantics.specs.Splice.{Within, Fragment, Splicing, after_block, after_blocks, body, caller_names}
use Rattle.ir_semantics.specs.Splice.{cut_block, fragment, fragment_by, from, jump_in, kind_of, new_results}
use Rattle.ir_semantics.specs.Splice.{spliced_blocks, within_fragment}
use Rattle.inline_body.specs.Results.{is_tail_call, tail_calls, tail_calls_in}
use Rattle.inline_outcomes.proofs.Places.{find_hit, find_skip}
use Rattle.splice_bounds.proofs.Counts.{line_count, block_count, lines_under, block_same, blocks_under}
use Rattle.ir_semantics.proofs.Ranges.{length_from}

-- a block takes no more than all of them
pub found_within : (x : ℕ) (bs : List Block) (b : Block) → find_block x bs ≡ Some b
    → block_count b ≤ total block_count bs
found_within x [] b h = cc
found_within x (m ∷ bs) b h =
    elim (cases_eq m.number x) [
      | inl q ↦ let same = ap block_count (some_same (sym h ∙ find_hit x m bs q)) in omega (arith, same)
      | inr q ↦ let rest = found_within x bs b (sym (find_skip x m bs q) ∙ h) in omega (arith, rest)
    ]

module _ (p : Splicing) where
  -- ---- the body at a plain call: each tail call of the callee has as many results as the site

  new_length : (c : ℕ) → length (new_results p c) ≡ length p.site.results
  new_length c =
      let many = length p.site.results in length-map (from 0 many) (p.naming.new_value c) ∙ length_from 0 many

  line_tails : (c j : ℕ) (i : Line) (inst : Instruction) (q : Fragment)
      → length p.site.results * (if is_tail_call inst then 1 else 0) + total line_count q.lines
      ≤ total line_count (within_fragment p c j i inst q).lines
  line_tails c j i (ReturnCall t args) q = omega (arith, new_length c)
  line_tails c j i (Plain s) q = omega arith
  line_tails c j i (Branches b) q = omega arith
  line_tails c j i SequencePoint q = omega arith
  line_tails c j i (Return vs) q = omega arith
  line_tails c j i (Call t args) q = omega arith
  line_tails c j i (TryCall t sig args normal table) q = omega arith

  lines_tails : kind_of p.site.inst ≡ Within → (c j : ℕ) (ls : List Line)
      → length p.site.results * tail_calls ls ≤ total line_count (fragment p c j ls).lines
  lines_tails k c j [] = omega arith
  lines_tails k c j (i ∷ is) =
      let q = fragment p c (suc j) is in
      let by_kind = ap (λ z. total line_count (fragment_by p z c j i q).lines) k in
      let here = line_tails c j i i.inst q in
      let rest = lines_tails k c (suc j) is in
      let both = mul-add (length p.site.results) (if is_tail_call i.inst then 1 else 0) (tail_calls is) in
      omega (arith, by_kind, here, rest, both)

  pub body_tails : kind_of p.site.inst ≡ Within → (bs : List Block)
      → length p.site.results * tail_calls_in bs ≤ total block_count (body p bs)
  body_tails k [] = omega arith
  body_tails k (b ∷ bs) =
      let here = lines_tails k b.number 0 b.lines in
      let rest = body_tails k bs in
      let joined = total_join block_count (fragment p b.number 0 b.lines).more (body p bs) in
      let both = mul-add (length p.site.results) (tail_calls b.lines) (tail_calls_in bs) in
      omega (arith, here, rest, joined, both)

  -- ---- the caller's blocks

  -- what comes behind the body
  abbrev opened : List Block
  opened = after_blocks p (kind_of p.site.inst)

  -- it takes the numbers of the site's results and of what stands behind the site
  abbrev pub Stays : Type 0
  Stays = length p.site.results + total line_count p.behind ≤ total block_count opened

  pub stays_within : kind_of p.site.inst ≡ Within → Stays
  stays_within k =
      let e : total block_count opened ≡ block_count (after_block p) + 0 =
      ap (λ z. total block_count (after_blocks p z)) k
      in
      omega (arith, e, length-map p.site.results p.naming.caller_value, lines_under (caller_names p) p.behind)

  abbrev pub Cut : Block → Type 0
  Cut b = total line_count b.lines ≡ total line_count p.before + line_count p.site + total line_count p.behind

  cut_counted : (b : Block) → Cut b
      → block_count (cut_block p b) + length p.site.results + total line_count p.behind ≡ block_count b
  cut_counted b h =
      let joined = total_join line_count (map (line_under (caller_names p)) p.before) (jump_in p ∷ []) in
      omega (arith, h, joined, length-map b.params p.naming.caller_value, lines_under (caller_names p) p.before)

  abbrev renamed : List Block → List Block
  renamed bs = map (block_under (caller_names p)) bs

  abbrev cut_blocks : Block → List Block → List Block
  cut_blocks b bs = cut_block p b ∷ (body p p.callee.blocks ++ (opened ++ renamed bs))

  abbrev whole_blocks : Block → List Block → List Block
  whole_blocks b bs = block_under (caller_names p) b ∷ spliced_blocks p bs

  pub blocks_grow : (bs : List Block) (b : Block) → find_block p.at bs ≡ Some b → Cut b → Stays
      → total block_count bs + total block_count (body p p.callee.blocks) ≤ total block_count (spliced_blocks p bs)
  blocks_grow [] b found cut stays = cc
  blocks_grow (m ∷ bs) b found cut stays =
      elim (cases_eq m.number p.at) [
        | inl q ↦
            let same : b ≡ m = some_same (sym found ∙ find_hit p.at m bs q) in
            let is : spliced_blocks p (m ∷ bs) ≡ cut_blocks m bs =
            ap (λ c. if c then cut_blocks m bs else whole_blocks m bs) (eq-eqb m.number p.at q)
            in
            let size = ap (total block_count) is in
            let here = cut_counted m (subst Cut same cut) in
            let joined = total_join block_count (body p p.callee.blocks) (opened ++ renamed bs) in
            let behind = total_join block_count opened (renamed bs) in
            let rest = blocks_under (caller_names p) bs in
            omega (arith, stays, size, here, joined, behind, rest)
        | inr q ↦
            let is : spliced_blocks p (m ∷ bs) ≡ whole_blocks m bs =
            ap (λ c. if c then cut_blocks m bs else whole_blocks m bs) (ne_eqb m.number p.at q)
            in
            let size = ap (total block_count) is in
            let here = block_same (caller_names p) m in
            let rest = blocks_grow bs b (sym (find_skip p.at m bs q) ∙ found) cut stays in
            omega (arith, size, here, rest)
      ]

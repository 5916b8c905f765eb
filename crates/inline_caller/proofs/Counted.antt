-- How many blocks a function has after a splice.
use Rattle.std.proofs.Common.{◌≡◌, ℕ, suc, ◌+◌, inl, inr, List, [], ◌∷◌, ◌++◌, map, length, Bool, true, false, refl, sym, ap, ◌∙◌, subst, arith, eq-eqb, length-append}
use Rattle.std.specs.Prelude.{if◌then◌else◌, nat_eq}
use Rattle.std.proofs.lemmas.List.{length-map}
use Rattle.ir_core.specs.declared.places.Point.{Point}
use Rattle.ir_core.specs.Module.{Block, Function}
use Rattle.ir_core.specs.Lookup.{block_numbers}
use Rattle.ir_core.specs.Lists.{In}
use Rattle.ir_semantics.specs.Renaming.{block_under}
use Rattle.ir_semantics.specs.Splice.{Splicing, kind_of, caller_names, body, cut_block, after_blocks, spliced_blocks, spliced}
use Rattle.body_import.specs.declared.declarations.Import.{Import}
use Rattle.inline_body.specs.declared.blocks.BlockLines.{BlockLines}
use Rattle.inline_body.specs.declared.prepared.PreparedBody.{PreparedBody}
use Rattle.inline_body.specs.WithBody.{empty_from, numbers_of}
use Rattle.inline_body.specs.Prepared.{IsBodyOf, body_of}
use Rattle.inline_body.specs.PlainCall.{splicing_at, IsPrepared}
use Rattle.inline_ends.specs.LastBody.{IsLastBodyOf, IsLastPrepared}
use Rattle.inline_body.proofs.BodyBlocks.{as_many_numbers}
use Rattle.inline_body.proofs.BodyDefinitions.{blocks_listed}

-- in place of the site's block stand its front, the body and what follows it
spliced_count : (p : Splicing) (bs : List Block) → In p.at (block_numbers bs) → length (spliced_blocks p bs) ≡ length bs + (length (body p p.callee.blocks) + length (after_blocks p (kind_of p.site.inst)))
spliced_count p [] i = elim i [ ]
spliced_count p (b ∷ bs) i = go (nat_eq b.number p.at) refl i (λ j. spliced_count p bs j)
  where
    go : (c : Bool) → nat_eq b.number p.at ≡ c → In p.at (block_numbers (b ∷ bs))
        → (In p.at (block_numbers bs) → length (spliced_blocks p bs) ≡ length bs + (length (body p p.callee.blocks) + length (after_blocks p (kind_of p.site.inst))))
        → length (if c then cut_block p b ∷ (body p p.callee.blocks ++ (after_blocks p (kind_of p.site.inst) ++ map (block_under (caller_names p)) bs)) else block_under (caller_names p) b ∷ spliced_blocks p bs) ≡ length (b ∷ bs) + (length (body p p.callee.blocks) + length (after_blocks p (kind_of p.site.inst)))
    go true e i ih =
        let m = length-append (body p p.callee.blocks) (after_blocks p (kind_of p.site.inst) ++ map (block_under (caller_names p)) bs) in
        let n = length-append (after_blocks p (kind_of p.site.inst)) (map (block_under (caller_names p)) bs) in
        let k = length-map bs (block_under (caller_names p)) in
        omega (arith, m, n, k)
    go false e (inl q) ih = absurd (let t = eq-eqb b.number p.at (sym q) in let z : true ≡ false = sym t ∙ e in cc)
    go false e (inr j) ih = let r = ih j in omega (arith, r)

-- a body has one block more than there are lists of parameters behind the first block's
body_count : (q : PreparedBody) (n m : ℕ) → numbers_of q.block_lines ≡ n ∷ block_numbers (empty_from m q.block_params) → length (body_of q) ≡ length q.block_params + 1
body_count q n m e = by q.block_lines e
  where
    by : (xs : List BlockLines) → numbers_of xs ≡ n ∷ block_numbers (empty_from m q.block_params) → length (body_of (record q { block_lines = xs })) ≡ length q.block_params + 1
    by [] e = cc
    by (x ∷ xs) e =
        let r : numbers_of xs ≡ block_numbers (empty_from m q.block_params) = cc in
        let s = as_many_numbers m q.block_params xs r in
        let t = blocks_listed (q.first ∷ q.block_params) (x ∷ xs) (ap suc s) in
        omega (arith, t)

pub within_count : (f g h k : Function) (at : Point) (i : Import) (q : PreparedBody) → IsPrepared f g at i q → h ≡ f → ((p : Splicing) → IsBodyOf p h at q → k ≡ spliced p) → length k.blocks ≡ length f.blocks + length q.block_params + 2
within_count f g h k at i q made same put =
    let p : Splicing = splicing_at made.naming f g at made.line in
    let e : k ≡ spliced p = put p (subst (λ (z : Function). IsBodyOf p z at q) (sym same) made.is_body) in
    let all : length k.blocks ≡ length f.blocks + (length (body p g.blocks) + length (after_blocks p (kind_of made.line.inst))) = ap (λ (z : Function). length z.blocks) e ∙ spliced_count p f.blocks made.ready.there.0 in
    let made_blocks : length (body p g.blocks) ≡ length q.block_params + 1 = ap length made.is_body.body ∙ body_count q (length f.blocks) (length f.blocks + 2) made.ready.numbers in
    let behind : length (after_blocks p (kind_of made.line.inst)) ≡ 1 = ap (λ z. length (after_blocks p z)) made.is_body.kind in
    omega (arith, all, made_blocks, behind)

pub last_count : (f g h k : Function) (at : Point) (i : Import) (q : PreparedBody) → IsLastPrepared f g at i q → h ≡ f → ((p : Splicing) → IsLastBodyOf p h at q → k ≡ spliced p) → length k.blocks ≡ length f.blocks + length q.block_params + 1
last_count f g h k at i q made same put =
    let p : Splicing = splicing_at made.naming f g at made.line in
    let e : k ≡ spliced p = put p (subst (λ (z : Function). IsLastBodyOf p z at q) (sym same) made.is_body) in
    let all : length k.blocks ≡ length f.blocks + (length (body p g.blocks) + length (after_blocks p (kind_of made.line.inst))) = ap (λ (z : Function). length z.blocks) e ∙ spliced_count p f.blocks made.ready.there.0 in
    let made_blocks : length (body p g.blocks) ≡ length q.block_params + 1 = ap length made.is_body.body ∙ body_count q (length f.blocks) (length f.blocks + 1) made.ready.numbers in
    let behind : length (after_blocks p (kind_of made.line.inst)) ≡ 0 = ap length made.is_body.none_behind in
    omega (arith, all, made_blocks, behind)

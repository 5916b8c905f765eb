-- What is prepared for a call, and what comes of it.
use Rattle.std.proofs.Common.{◌≡◌, ◌+◌, ◌<◌, ◌^◌, length, refl, sym, ap, subst, arith}
use Rattle.ir_core.specs.declared.places.Point.{Point}
use Rattle.ir_core.specs.Module.{Function}
use Rattle.ir_semantics.specs.Splice.{Splicing, spliced}
use Rattle.inline_body.specs.declared.prepared.PreparedBody.{PreparedBody}
use Rattle.inline_body.specs.WithBody.{lines_in}
use Rattle.inline_body.specs.Prepared.{IsBodyOf}
use Rattle.inline_body.specs.PlainCall.{IsSplice}
use Rattle.inline_ends.specs.LastBody.{IsLastBodyOf}
use Rattle.inline_body.proofs.Preparing as within_proofs
use Rattle.inline_ends.proofs.LastReady as last_proofs
use Rattle.inline_caller.specs.declared.prepared.PlacedBody.{PlacedBody}
use Rattle.inline_caller.specs.declared.prepared.PlacedBody.TheVariants.{Within, Last}
use Rattle.inline_caller.specs.declared.prepared.PreparedCall.{PreparedCall}
use Rattle.inline_caller.specs.Prepared.{prepared_body, blocks_added, IsPlacedReady, CanPut, IsWithinFor, IsLastFor, IsBodyFor, IsPreparedFor}
use Rattle.inline_caller.proofs.Counted.{within_count, last_count}

pub placed_ready : (f g : Function) (at : Point) (b : PlacedBody) → IsBodyFor f g at b → IsPlacedReady f at b
placed_ready f g at (Within q) is = is.prepared.ready
placed_ready f g at (Last q) is = is.prepared.ready

pub can_put : (f g : Function) (at : Point) (p : PreparedCall) → IsPreparedFor f g at p → CanPut f p
can_put f g at p is = subst (λ (z : Point). IsPlacedReady f z p.body) (sym is.site) (placed_ready f g at p.body is.body)

-- ---- there are numbers for its blocks and lines

pub few_blocks : (f : Function) (at : Point) (b : PlacedBody) → IsPlacedReady f at b → length (prepared_body b).block_params + 2 < 2 ^ 32
few_blocks f at (Within q) ready = let h = ready.few_blocks in omega (arith, h)
few_blocks f at (Last q) ready = let h = ready.few_blocks in omega (arith, h)

pub few_lines : (f : Function) (at : Point) (b : PlacedBody) → IsPlacedReady f at b → length (lines_in (prepared_body b).block_lines) + 1 < 2 ^ 32
few_lines f at (Within q) ready = let h = ready.few_lines in omega (arith, h)
few_lines f at (Last q) ready = let h = ready.few_lines in omega (arith, h)

-- ---- once it is put

module _ (f g k : Function) (at : Point) (call : PreparedCall) (is : IsPreparedFor f g at call) (q : PreparedBody) where
  module _ (e : call.body ≡ Within q) (put : (p : Splicing) → IsBodyOf p f call.site q → k ≡ spliced p) where
    for_within : IsWithinFor f g at q
    for_within = subst (IsBodyFor f g at) e is.body

    put_there : (p : Splicing) → IsBodyOf p f at q → k ≡ spliced p
    put_there p there = put p (subst (λ (z : Point). IsBodyOf p f z q) (sym is.site) there)

    pub splice_within : IsSplice f g at k
    splice_within = within_proofs.is_splice f g f k at for_within.import q for_within.prepared refl put_there

    pub blocks_within : length k.blocks ≡ length f.blocks + blocks_added call.body
    blocks_within =
        let n = within_count f g f k at for_within.import q for_within.prepared refl put_there in
        let m = ap blocks_added e in
        omega (arith, n, m)

  module _ (e : call.body ≡ Last q) (put : (p : Splicing) → IsLastBodyOf p f call.site q → k ≡ spliced p) where
    for_last : IsLastFor f g at q
    for_last = subst (IsBodyFor f g at) e is.body

    put_last_there : (p : Splicing) → IsLastBodyOf p f at q → k ≡ spliced p
    put_last_there p there = put p (subst (λ (z : Point). IsLastBodyOf p f z q) (sym is.site) there)

    pub splice_last : IsSplice f g at k
    splice_last = last_proofs.is_splice f g f k at for_last.import q for_last.prepared refl put_last_there

    pub blocks_last : length k.blocks ≡ length f.blocks + blocks_added call.body
    blocks_last =
        let n = last_count f g f k at for_last.import q for_last.prepared refl put_last_there in
        let m = ap blocks_added e in
        omega (arith, n, m)

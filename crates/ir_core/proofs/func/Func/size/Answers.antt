use Rattle.std.proofs.Common.{arith, ◌≡◌, length, take, sym, ap, subst, ◌∙◌}
use Rattle.std.proofs.lemmas.List.{take_all}
use Rattle.ir_core.specs.Lookup.{block_numbers}
use Rattle.ir_core.specs.Lists.{In, Each}
use Rattle.ir_core.specs.Size.{total, sig_size, block_size, size_at}
use Rattle.ir_core.proofs.Sizing.{total_more, total_numbers, each_in}
use Rattle.ir_core.proofs.func.Func.size.Goals as goal

pub loop-sig-init : goal.loop-sig-init
loop-sig-init c = omega (arith, c.saturating_add-size.ensures, c.len.ensures, c.len-2.ensures, c.self.inside.slots.ok.0, c.self.inside.callees.ok.0, ap (λ z. length z.function.slots) c.self.view_is, ap (λ z. length z.function.callees) c.self.view_is)

pub loop-sig-preserved : goal.loop-sig-preserved
loop-sig-preserved c = omega (arith, c.saturating_add-size-in-loop-sig.ensures, c.size.ensures, c.loop-sig.invariant, ap sig_size c.sig-item.is, total_more sig_size c.deref-sig-items.result.now c.loop-sig.sig-index c.sig-item.result c.loop-sig-test.true)

pub loop-block-init : goal.loop-block-init
loop-block-init c =
    let numbers : c.into_iter-block-iterator.result ≡ block_numbers c.args.self.now.function.blocks = c.into_iter-block-iterator.ensures.into_iter_gives ∙ c.blocks-block-items.ensures.numbers in
    let sigs : total sig_size (take c.loop-sig.sig-index c.deref-sig-items.result.now) ≡ total sig_size c.args.self.now.function.sigs =
    ap (total sig_size) (take_all c.loop-sig.sig-index c.deref-sig-items.result.now c.loop-sig-test.false ∙ (c.deref-sig-items.ensures.value ∙ ap (λ z. z.function.sigs) c.self.view_is))
    in
    let blocks : total (size_at c.args.self.now.function.blocks) c.into_iter-block-iterator.result ≡ total block_size c.args.self.now.function.blocks =
    ap (total (size_at c.args.self.now.function.blocks)) numbers ∙ total_numbers c.args.self.now.function.blocks c.blocks-block-items.ensures.sound.blocks_differ
    in
    record {
      sum = omega (arith, sigs, blocks, c.loop-sig.invariant);
      there = subst (Each (λ n. In n (block_numbers c.args.self.now.function.blocks))) (sym numbers) (each_in (block_numbers c.args.self.now.function.blocks) (block_numbers c.args.self.now.function.blocks) (λ n i. i));
      small = omega (arith, c.loop-sig.invariant);
    }

pub block_size-requires : goal.block_size-requires
block_size-requires c = (subst (Each (λ n. In n (block_numbers c.args.self.now.function.blocks))) c.in-Some.ensures.steps c.loop-block.invariant.there).0

pub loop-block-preserved : goal.loop-block-preserved
loop-block-preserved c =
    record {
      sum = omega (arith, c.saturating_add-size-in-loop-block.ensures, c.block_size.ensures, c.loop-block.invariant.sum, ap (total (size_at c.args.self.now.function.blocks)) c.in-Some.ensures.steps);
      there = (subst (Each (λ n. In n (block_numbers c.args.self.now.function.blocks))) c.in-Some.ensures.steps c.loop-block.invariant.there).1;
      small = omega (arith, c.saturating_add-size-in-loop-block.ensures);
    }

pub returns : goal.returns
returns c = omega (arith, c.loop-block.invariant.sum, c.loop-block.invariant.small, ap (total (size_at c.args.self.now.function.blocks)) c.in-None.ensures.steps.0)

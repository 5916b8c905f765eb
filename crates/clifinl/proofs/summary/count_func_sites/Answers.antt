use Rattle.std.proofs.Common.{arith, ◌≡◌, ap, subst, sym, ◌∙◌}
use Rattle.std.specs.Prelude.{count_by}
use Rattle.ir_core.specs.Lists.{Each, In}
use Rattle.ir_core.specs.Lookup.{block_numbers}
use Rattle.ir_core.specs.Size.{total}
use Rattle.ir_core.proofs.Sizing.{each_in}
use Rattle.clifinl.specs.GenCommand.{calls_within}
use Rattle.clifinl.proofs.Measures.{few_sites, sites_at, total_sites}
use Rattle.clifinl.proofs.summary.count_func_sites.Goals as goal

pub loop-block-init : goal.loop-block-init
loop-block-init c =
    let m = c.args.module.now in let f = c.args.func.now.function in
    let numbers : c.into_iter-block-iterator.result ≡ block_numbers f.blocks =
    c.into_iter-block-iterator.ensures.into_iter_gives ∙ c.blocks-block-items.ensures.numbers in
    record {
      sum = omega (arith, ap (total (sites_at m f)) numbers ∙ total_sites m f c.blocks-block-items.ensures.sound.blocks_differ);
      there = subst (Each (λ n. In n (block_numbers f.blocks))) (sym numbers) (each_in (block_numbers f.blocks) (block_numbers f.blocks) (λ n i. i));
    }

pub overflow_add-sites : goal.overflow_add-sites
overflow_add-sites c =
    let m = c.args.module.now in let f = c.args.func.now.function in
    omega (
      arith,
      c.loop-block.invariant.sum,
      ap (total (sites_at m f)) c.in-Some.ensures.steps,
      c.count_line_sites.ensures ∙ ap (count_by (calls_within m f)) c.inst_slice.ensures,
      few_sites m f,
      c.requires,
    )

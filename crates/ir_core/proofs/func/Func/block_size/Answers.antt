use Rattle.std.proofs.Common.{arith, ◌+◌, length, sym, ap, ◌∙◌}
use Rattle.std.proofs.lemmas.List.{take_all}
use Rattle.ir_core.specs.Edits.{params_of}
use Rattle.ir_core.specs.Viewed.{line_of}
use Rattle.ir_core.specs.Size.{total, line_size, capped}
use Rattle.ir_core.proofs.Sizing.{total_more, total_map}
use Rattle.ir_core.proofs.func.Func.block_size.Goals as goal

pub loop-added-init : goal.loop-added-init
loop-added-init c = omega (arith, c.saturating_add-size.ensures, ap length c.params.ensures)

pub loop-added-preserved : goal.loop-added-preserved
loop-added-preserved c =
    omega (arith, c.saturating_add-size-in-loop-added.ensures, c.size.ensures, c.loop-added.invariant, ap (λ x. line_size (line_of x)) c.added-item.is, total_more (λ x. line_size (line_of x)) c.inst_slice-added-items.result.now c.loop-added.added-index c.added-item.result c.loop-added-test.true)

pub returns : goal.returns
returns c =
    c.loop-added.invariant
    ∙ ap (λ n. capped ((1 + length (params_of c.args.block c.args.self.now.function.blocks)) + n))
    (ap (total (λ x. line_size (line_of x))) (take_all c.loop-added.added-index c.inst_slice-added-items.result.now c.loop-added-test.false)
    ∙ (sym (total_map line_size line_of c.inst_slice-added-items.result.now) ∙ ap (total line_size) c.inst_slice-added-items.ensures))

use Rattle.std.proofs.Common.{arith, ◌≡◌, length, sym, subst, ◌∙◌}
use Rattle.std.proofs.lemmas.Bool.{eqb-true, eq-eqb}
use Rattle.ir_core.specs.Sound.{IsWhole}
use Rattle.ir_core.specs.Layout.{function_of, order}
use Rattle.ir_core.proofs.Keeping.{length_numbered}
use Rattle.ir_core.proofs.Laying.{length_seen}
use Rattle.ir_core.proofs.Counting.{whole_by_count, count_of_whole}
use Rattle.ir_core.proofs.Walking.{has_first}
use Rattle.ir_core.proofs.func.Func.whole.Goals as goal

pub returns-then-is_some : goal.returns-then-is_some
returns-then-is_some c =
    let count : length (function_of c.self.inside).types ≡ c.len.result = length_numbered 0 c.self.inside.types.items ∙ (sym c.self.inside.types.ok.0 ∙ sym c.len.ensures) in (
      λ e. subst (λ z. IsWhole z.function) c.self.view_is
          (whole_by_count (function_of c.self.inside) c.self.invariant.sound
          (omega (arith, length_seen c.self.inside.insts.items c.self.inside.blocks.items (order c.self.inside.blocks.items c.self.inside.first), has_first c.self.inside.blocks.items c.self.inside.first (order c.self.inside.blocks.items c.self.inside.first) c.self.invariant.laid.linked (sym c.is_some.ensures ∙ c.if-is_some.true)))
          (sym c.self.invariant.defined ∙ (eqb-true c.self.inside.defined c.len.result e ∙ sym count))),
      λ w. eq-eqb c.self.inside.defined c.len.result (c.self.invariant.defined ∙ (count_of_whole (function_of c.self.inside) c.self.invariant.sound (subst (λ z. IsWhole z.function) (sym c.self.view_is) w) ∙ count)),
    )

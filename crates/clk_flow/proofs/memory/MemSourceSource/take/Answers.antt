use Rattle.std.proofs.Common.{ap, arith}
use Rattle.clk_flow.specs.Memory.{SourceState}
use Rattle.clk_flow.proofs.Copying.{gives_front, is_over}
use Rattle.clk_flow.proofs.memory.MemSourceSource.take.Goals as goal

pub returns-clause-bytes : goal.returns-clause-bytes
returns-clause-bytes c =
    let same = c.deref-2.ensures.value in let copied = c.copy_from_slice.ensures in (
      gives_front _ c.self.inside.bytes.items _ c.copy_from_slice.new.self _ c.self.inside.start c.min-count.result same (ap (λ (s : SourceState). s.left) c.self.view_is) copied.after (omega (arith, c.min-count.ensures, c.min.ensures, c.self.invariant.1)),
      is_over _ c.self.inside.bytes.items c.copy_from_slice.new.self c.args.into.now c.self.inside.start c.min-count.result same copied.len (omega (arith, c.min-count.ensures, c.min.ensures, c.self.invariant.1))
          (λ room none. omega (arith, c.min-count.ensures, c.min.ensures, c.self.invariant.1, room, none)),
    )

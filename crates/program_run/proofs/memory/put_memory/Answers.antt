use Rattle.std.proofs.Common.{◌≤◌, ◌*◌, ℕ, List, length, subst, sym, add-one, arith}
use Rattle.ir_text.specs.TextTree.{spelled}
use Rattle.text_output.specs.Output.{Puts}
use Rattle.text_output.proofs.Puts.{◌▸◌}
use Rattle.program_run.specs.RunText.{group_line, groups_text}
use Rattle.program_run.proofs.Groups.{group_is}
use Rattle.program_run.proofs.memory.put_memory.Goals as goal

pub loop-i-preserved : goal.loop-i-preserved
loop-i-preserved g c =
    let holds = g.O.Output.holds in
    let memory = c.args.memory.now in
    let i = c.loop-i.i in
    let within : 16 * i ≤ length memory = omega (arith, c.div_ceil-i-end.ensures) in
    let group = group_is memory (16 * i) c.min.result within c.min.ensures in
    let line = subst (λ (bytes : List ℕ). Puts holds c.loop-i.out c.put_group.new.out (spelled (group_line (16 * i) bytes))) group c.put_group.ensures in
    subst (λ (n : ℕ). Puts holds c.args.out.now c.put_group.new.out (spelled (groups_text memory n))) (sym (add-one i)) (c.loop-i.invariant ▸ line)

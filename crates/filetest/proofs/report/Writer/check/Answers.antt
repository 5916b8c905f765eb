use Rattle.std.proofs.Common.{length, ap, arith}
use Rattle.filetest.specs.Telling.{Told}
use Rattle.filetest.proofs.Telling.{puts_both, room}
use Rattle.filetest.proofs.report.Writer.check.Goals as goal

pub invariant_of-self : goal.invariant_of-self
invariant_of-self c =
    let both = puts_both _ _ _ _ _ c.in_ok-put-in-None.ensures c.in_ok-put_check-in-None.ensures in
    let h = room _ _ _ both (omega arith) in
    let v = c.self.view_is in
    omega (arith, h, ap (λ (t : Told). t.passed) v, ap (λ (t : Told). t.failed) v, ap (λ (t : Told). t.skipped) v, ap (λ (t : Told). length t.text) v)

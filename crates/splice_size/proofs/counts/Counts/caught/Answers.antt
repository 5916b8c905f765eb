use Rattle.std.proofs.Common.{◌≡◌, ◌+◌, ◌*◌, arith, length, ap, ap₂, ◌∙◌}
use Rattle.ir_core.specs.Size.{capped}
use Rattle.splice_size.specs.SizeAfter.{any_calls, table_size}
use Rattle.splice_size.proofs.Caps.{capped_both, capped_times}
use Rattle.splice_size.proofs.counts.Counts.caught.Goals as goal

pub returns : goal.returns
returns c =
    let self = c.args.self.now in
    let jumps = self.returns + self.tail_calls in
    let args = length c.args.normal.now.args in
    let entries : c.saturating_mul-entries.result ≡ capped (any_calls self * table_size c.args.table.now) =
    c.saturating_mul-entries.ensures ∙ (ap₂ (λ x y. capped (x * y)) c.any_calls.ensures c.entries_size.ensures ∙ capped_both (any_calls self) (table_size c.args.table.now)) in
    let targets : c.saturating_mul-targets.result ≡ capped (jumps * args) =
    c.saturating_mul-targets.ensures ∙ (ap₂ (λ x y. capped (x * y)) c.saturating_add-jumps.ensures (ap length c.as_slice.ensures) ∙ capped_times jumps args) in
    omega (arith, entries, targets)

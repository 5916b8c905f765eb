use Rattle.std.proofs.Common.{◌≡◌, ◌+◌, ◌*◌, arith, ap, ◌∙◌}
use Rattle.ir_core.specs.Size.{capped}
use Rattle.splice_size.proofs.Caps.{capped_by}
use Rattle.splice_size.proofs.spliced.plain_call.Goals as goal

pub returns : goal.returns
returns c =
    let n = c.args.callee.now.tail_calls in
    let size = c.args.results + (1 + c.args.results) in
    let line : c.saturating_add-line.result ≡ capped size = omega arith in
    let calls : c.saturating_mul-calls.result ≡ capped (n * size) = c.saturating_mul-calls.ensures ∙ (ap (λ x. capped (n * x)) line ∙ capped_by n size) in
    omega (arith, calls)

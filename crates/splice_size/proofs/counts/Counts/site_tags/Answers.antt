use Rattle.std.proofs.Common.{◌≡◌, ◌*◌, arith, ap, ◌∙◌}
use Rattle.ir_core.specs.Size.{capped}
use Rattle.splice_size.specs.SizeAfter.{taking_tags}
use Rattle.splice_size.proofs.Caps.{capped_times}
use Rattle.splice_size.proofs.counts.Counts.site_tags.Goals as goal

pub returns : goal.returns
returns c =
    let e : c.saturating_add.result ≡ capped (taking_tags c.args.self.now) = omega arith in
    c.saturating_mul.ensures ∙ (ap (λ x. capped (x * c.args.tags)) e ∙ capped_times (taking_tags c.args.self.now) c.args.tags)

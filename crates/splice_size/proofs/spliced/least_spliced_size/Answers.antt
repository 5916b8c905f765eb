use Rattle.std.proofs.Common.{ap₂, arith, length, subst, ◌≤◌, ◌∙◌}
use Rattle.ir_core.specs.Size.{size_of}
use Rattle.ir_core.specs.Viewed.{line_of}
use Rattle.ir_semantics.specs.Splice.{spliced}
use Rattle.splice_size.specs.SizeAfter.{size_after}
use Rattle.splice_size.specs.Counts.{counts_of}
use Rattle.splice_size.proofs.SpliceSizes.{at_least}
use Rattle.splice_size.proofs.spliced.least_spliced_size.Goals as goal

pub returns-clause-least : goal.returns-clause-least
returns-clause-least c = λ p sited size site counts slots.
    let same =
    ap₂ (λ n l. size_after n l (counts_of p.callee) (length p.callee.slots)) size site
    ∙ ap₂ (λ k n. size_after c.args.caller_size (line_of c.args.site.now) k n) counts slots in
    let least = subst (λ n. n ≤ size_of (spliced p)) same (at_least p sited) in
    let number = c.size_with.ensures in
    omega (arith, least, number)

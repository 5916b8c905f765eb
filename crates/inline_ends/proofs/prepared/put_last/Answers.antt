use Rattle.std.proofs.Common.{ap, sym, subst, ◌∙◌}
use Rattle.ir_core.specs.Module.{Function}
use Rattle.ir_core.specs.Lookup.{definitions}
use Rattle.ir_core.specs.Lists.{In}
use Rattle.ir_core.specs.Viewed.{line_of}
use Rattle.inline_body.specs.Prepared.{body_of}
use Rattle.inline_ends.specs.Ending.{with_last_body}
use Rattle.inline_ends.proofs.LastSpliced.{splice_is}
use Rattle.inline_ends.proofs.prepared.put_last.Goals as goal

pub put_last_body-requires-clause-undefined : goal.put_last_body-requires-clause-undefined
put_last_body-requires-clause-undefined c = λ v i j. c.requires.ready.undefined v i (subst (λ (z : Function). In v (definitions z.blocks)) c.append.ensures.body j)

pub put_last_body-requires-clause-lines_undefined : goal.put_last_body-requires-clause-lines_undefined
put_last_body-requires-clause-lines_undefined c = λ v i j. c.requires.ready.lines_undefined v i (subst (λ (z : Function). In v (definitions z.blocks)) c.append.ensures.body j)

pub returns-clause-spliced : goal.returns-clause-spliced
returns-clause-spliced c = λ p is.
    let q = c.args.body in
    c.put_last_body.ensures.body
    ∙ (ap (λ (z : Function). record z { blocks = with_last_body c.args.site.block c.args.site.index (line_of q.jump) (body_of q) z.blocks }) c.append.ensures.body
    ∙ sym (splice_is p c.args.caller.now.function c.args.site q is))

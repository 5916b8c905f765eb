use Rattle.std.proofs.Common.{◌≡◌, ◌∙◌, length, arith, rules}
use Rattle.interp.proofs.Programs.{linked}
use Rattle.interp.proofs.link.link.Goals as goal

pub returns-clause-linked : goal.returns-clause-linked
returns-clause-linked c =
    let e : c.funcs.i ≡ length c.args.module.now = search rules in
    linked (record { «module» = c.args.module; links = c.funcs.links }) (c.funcs.invariant.count ∙ e)
    (λ k lt. c.funcs.invariant.sound k (omega (arith, e, lt)))
    (λ k d lt. c.funcs.invariant.found k d (omega (arith, e, lt)))
    c.requires

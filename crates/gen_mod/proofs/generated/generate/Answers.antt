use Rattle.std.proofs.Common.{sym, ap, subst, arith}
use Rattle.ir_core.specs.Sound.{IsWhole}
use Rattle.ir_semantics.specs.Accepted.{Accepted}
use Rattle.gen_mod.specs.Generated.{Made}
use Rattle.gen_mod.proofs.ShapesWhole.{function_whole}
use Rattle.gen_mod.proofs.Making.{new_name, makes_more, makes_all}
use Rattle.gen_mod.proofs.Acceptance.{generated_accepted}
use Rattle.gen_mod.proofs.generated.generate.Goals as goal

pub push-requires-clause-whole : goal.push-requires-clause-whole
push-requires-clause-whole c =
    subst IsWhole (ap (λ (m : Made). m.0) (sym c.in_ok-function.ensures)) (function_whole c.made.i c.made.state)

pub push-requires-clause-new : goal.push-requires-clause-new
push-requires-clause-new c =
    new_name c.args.number c.args.functions c.made.i c.made.state c.function.new.state c.made.module
    c.in_ok-function.field-0.function (omega (arith, c.made-test.true, c.ranges.functions.fits))
    c.in_ok-function.ensures c.made.invariant

pub made-preserved : goal.made-preserved
made-preserved c =
    rw c.in_ok-push.ensures.ok
    (makes_more c.args.number c.args.functions c.made.i c.made.state c.function.new.state c.made.module
    c.in_ok-function.field-0.function c.made-test.true c.in_ok-function.ensures c.made.invariant)

pub returns-clause-module : goal.returns-clause-module
returns-clause-module c =
    makes_all c.args.number c.args.functions c.made.i c.made.state c.made.module (omega (arith, c.made-test.false))
    c.made.invariant

pub returns-clause-accepted : goal.returns-clause-accepted
returns-clause-accepted c =
    subst Accepted
    (sym (makes_all c.args.number c.args.functions c.made.i c.made.state c.made.module
    (omega (arith, c.made-test.false)) c.made.invariant)) (generated_accepted c.args.number c.args.functions)

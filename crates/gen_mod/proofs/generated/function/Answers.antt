use Rattle.std.proofs.lemmas.Result.{IfOk-weaker}
use Rattle.gen_mod.proofs.Making.{first_made, other_made}
use Rattle.gen_mod.proofs.generated.function.Goals as goal

pub returns-then-number-eq0 : goal.returns-then-number-eq0
returns-then-number-eq0 c =
    IfOk-weaker c.adding.result _ _
    (λ func is. first_made c.args.number c.args.state.now c.draw-constant.result c.draw-constant.new.state func.function
    c.if-number-eq0.true c.draw-constant.ensures.state c.draw-constant.ensures.number is) c.adding.ensures

pub returns : goal.returns
returns c =
    IfOk-weaker c.shaped.result _ _
    (λ func is. other_made c.args.number c.args.state.now c.draw-shape.result c.draw-shape.new.state
    c.shaped.new.state func.function c.if-number-eq0.false c.draw-shape.ensures.state c.draw-shape.ensures.number is)
    c.shaped.ensures

use Rattle.std.proofs.Common.{◌<◌, [], ◌∷◌, ◌++◌, length, ap, sym, ◌∙◌, arith}
use Rattle.ir_core.specs.Lookup.{type_of}
use Rattle.body_import.proofs.Applied.{next_type}
use Rattle.body_import.proofs.importing.value_types.Goals as goal

pub loop-value-preserved : goal.loop-value-preserved
loop-value-preserved c =
    let f = c.args.callee.now.function in
    let v = c.loop-value.value in
    let test = c.loop-value-test.true in
    let end = c.values-value-end.ensures.count in
    let below : v < length f.types = omega (arith, test, end) in
    c.in_ok-push.ensures.items ∙ (ap (λ z. z ++ (c.ty.result ∷ [])) c.loop-value.invariant ∙ sym (next_type f v c.ty.result c.values.ensures.sound below (ap (type_of f) (sym c.new.ensures) ∙ c.ty.ensures)))

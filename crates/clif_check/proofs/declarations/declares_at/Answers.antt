use Rattle.std.proofs.Common.{◌≡◌, ◌+◌, [], ◌∷◌, ◌++◌, take, refl, sym, subst, ◌∙◌}
use Rattle.std.proofs.lemmas.List.{take_all, take_more}
use Rattle.ir_core.specs.Lists.{Each}
use Rattle.ir_core.proofs.Members.{each_join}
use Rattle.ir_semantics.specs.CallRules.{Declared}
use Rattle.clif_check.proofs.HeadLaws.{declares_there}
use Rattle.clif_check.proofs.declarations.declares_at.Goals as goal

pub loop-callee-preserved : goal.loop-callee-preserved
loop-callee-preserved g c =
    let m = g.N.Named.functions c.args.all.now in
    let f = c.func_at-func.result.now.function in
    let callees = c.callees-callee-items.result.now in
    let i = c.loop-callee.callee-index in
    let callee = c.callee-item.result in
    let next : take (i + 1) callees ≡ take i callees ++ callee ∷ [] = rw (take_more callees i callee c.loop-callee-test.true, ← c.callee-item.is) refl in
    subst (Each (Declared m f)) (sym next)
    (each_join (Declared m f) (take i callees) (callee ∷ []) c.loop-callee.invariant (c.declares.ensures c.if-not-declares.false, tt))

pub returns : goal.returns
returns g c = λ yes.
    let m = g.N.Named.functions c.args.all.now in
    let f = c.func_at-func.result.now.function in
    let callees = c.callees-callee-items.result.now in
    let all : Each (Declared m f) f.callees =
    subst (Each (Declared m f)) (take_all c.loop-callee.callee-index callees c.loop-callee-test.false ∙ c.callees-callee-items.ensures) c.loop-callee.invariant in
    declares_there m c.args.place f c.func_at-func.ensures all

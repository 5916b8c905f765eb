use Rattle.std.proofs.Common.{arith, ◌∙◌, ℕ, ◌<◌, length, sym, subst}
use Rattle.std.proofs.lemmas.Grind.{get_or_default_zero}
use Rattle.ir_core.proofs.Members.{below_at}
use Rattle.avail_flow.proofs.Noting.{noted_more}
use Rattle.avail_flow.proofs.definitions.note.Goals as goal

pub loop-value-preserved : goal.loop-value-preserved
loop-value-preserved c =
    let is = c.number-v.ensures ∙ (c.value-item.is ∙ get_or_default_zero _ _ _ c.loop-value-test.true) in
    let inside : c.number-v.result < length c.args.home.now = subst (λ (k : ℕ). k < length c.args.home.now) (sym is) (below_at (length c.args.home.now) c.args.values.now c.loop-value.value-index c.requires.inside c.loop-value-test.true) in
    noted_more c.args.values.now c.loop-value.value-index c.number-v.result c.args.block c.args.line c.args.home.now c.args.place.now c.loop-value.home c.loop-value.place
    c.loop-value-test.true is (omega arith) (let e = c.requires.same in omega arith) c.loop-value.invariant

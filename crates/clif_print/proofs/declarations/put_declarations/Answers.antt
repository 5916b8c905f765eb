use Rattle.std.proofs.Common.{◌∷◌, suc, ℕ, List, drop, ap, sym, ◌∙◌, drop-cons, add-one}
use Rattle.ir_text.specs.TextTree.{spelled}
use Rattle.ir_text.specs.TextDeclarations.{declarations}
use Rattle.text_output.proofs.Puts.{goes}
use Rattle.clif_print.proofs.declarations.put_declarations.Goals as goal

pub loop-i-preserved : goal.loop-i-preserved
loop-i-preserved g c =
    let split = drop-cons c.args.items.now c.loop-i.i c.index-items-i.result c.loop-i-test.true ∙ ap (λ (x : g.row.T.Denot). x ∷ drop (suc c.loop-i.i) c.args.items.now) (sym c.index-items-i.is)
    ∙ ap (λ (k : ℕ). c.index-items-i.result ∷ drop k c.args.items.now) (sym (add-one c.loop-i.i)) in
    goes _ c.loop-i.invariant (ap (λ (l : List g.row.T.Denot). spelled (declarations g.T.Declared.line c.loop-i.i l)) split) c.put_line.ensures

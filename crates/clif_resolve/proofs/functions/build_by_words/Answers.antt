use Rattle.std.proofs.Common.{◌<◌, ◌-◌, ◌^◌, List, length, sym, ap, subst, ◌∙◌}
use Rattle.ir_core.specs.declared.signatures.Ty.{Ty}
use Rattle.ir_core.specs.Module.{Function}
use Rattle.clif_lines.specs.WordRenaming.{renaming}
use Rattle.clif_resolve.proofs.DeclaredLaws.{few_values, types_found, valued_by}
use Rattle.clif_resolve.proofs.ReadyLaws.{means_with, ready_with, whole_with}
use Rattle.clif_resolve.proofs.functions.build_by_words.Goals as goal

pub take_values-requires-clause-none : goal.take_values-requires-clause-none
take_values-requires-clause-none c = ap (λ (f : Function). f.types) c.in_ok-declare.ensures

pub take_values-requires-clause-few : goal.take_values-requires-clause-few
take_values-requires-clause-few c =
    let raw = c.args.raw.now in
    let at = renaming c.args.words.now in
    let are = c.from_vec.ensures ∙ types_found raw at _ _ _ c.in_ok-types.ensures c.as_slice.ensures c.in_ok-declare.ensures in
    subst (λ (ts : List Ty). length ts < 2 ^ 32 - 1) (sym are)
    (few_values raw at (ready_with raw c.requires.free c.requires.begins at c.requires.words c.requires.numbering))

pub complete-requires-clause-ready : goal.complete-requires-clause-ready
complete-requires-clause-ready c =
    ready_with c.args.raw.now c.requires.free c.requires.begins (renaming c.args.words.now) c.requires.words c.requires.numbering

pub complete-requires-clause-values : goal.complete-requires-clause-values
complete-requires-clause-values c =
    let raw = c.args.raw.now in
    let at = renaming c.args.words.now in
    let are = c.from_vec.ensures ∙ types_found raw at _ _ _ c.in_ok-types.ensures c.as_slice.ensures c.in_ok-declare.ensures in
    valued_by raw at _ _ _ are c.in_ok-declare.ensures c.take_values.ensures

pub returns-clause-meant : goal.returns-clause-meant
returns-clause-meant c =
    means_with c.args.raw.now c.requires.free c.requires.begins (renaming c.args.words.now) c.requires.words c.requires.numbering
    c.complete.new.func.function c.in_ok-complete.ensures

pub returns-clause-whole : goal.returns-clause-whole
returns-clause-whole c =
    whole_with c.args.raw.now c.requires.free c.requires.begins (renaming c.args.words.now) c.requires.words c.requires.numbering
    c.complete.new.func.function c.in_ok-complete.ensures

use Rattle.std.proofs.Common.{ℕ, ◌<◌, length, get_or, sym, ap, subst, ◌∙◌}
use Rattle.ir_core.specs.declared.signatures.Ty.TheVariants.{I8}
use Rattle.ir_core.specs.Edits.{at_block, put_param}
use Rattle.ir_core.specs.Lists.{In}
use Rattle.ir_core.specs.Lookup.{block_numbers, definitions}
use Rattle.ir_core.specs.Module.{Function}
use Rattle.clif_read.specs.declared.raw.RawBlockParam.{RawBlockParam}
use Rattle.clif_lines.specs.WordRenaming.{renaming}
use Rattle.clif_resolve.specs.Filling.{meant, opened}
use Rattle.clif_resolve.proofs.FillingLaws.{param_declared, param_fresh, param_step, read_copy, stands}
use Rattle.clif_resolve.proofs.filling.Filling.add_param.Goals as goal

abbrev none : RawBlockParam
none = record { value = record { number = 0; spot = 0 }; ty = I8 }

pub add_param-requires-clause-there : goal.add_param-requires-clause-there
add_param-requires-clause-there c =
    subst (λ (f : Function). In c.args.number (block_numbers f.blocks)) (sym c.requires.before)
    (stands c.args.self.now.raw.now (renaming c.args.self.now.words.now) c.args.number c.args.block.now c.requires.at c.args.index 0)

pub add_param-requires-clause-declared : goal.add_param-requires-clause-declared
add_param-requires-clause-declared c =
    let raw = c.args.self.now.raw.now in
    let at = renaming c.args.self.now.words.now in
    let here = read_copy c.as_slice.result.now c.args.block.now.params c.args.index none c.as_slice.ensures c.requires.there in
    subst (λ (f : Function). c.value.result < length f.types) (sym c.requires.before)
    (subst (λ (v : ℕ). v < length (meant raw at).types) (sym c.value.ensures)
    (param_declared raw at c.args.number c.args.block.now c.requires.at c.requires.ready c.args.index (get_or c.as_slice.result.now c.args.index none) here))

pub add_param-requires-clause-undefined : goal.add_param-requires-clause-undefined
add_param-requires-clause-undefined c = λ i. (
    let raw = c.args.self.now.raw.now in
    let at = renaming c.args.self.now.words.now in
    let here = read_copy c.as_slice.result.now c.args.block.now.params c.args.index none c.as_slice.ensures c.requires.there in
    param_fresh raw at c.args.number c.args.block.now c.requires.at c.requires.ready c.args.index (get_or c.as_slice.result.now c.args.index none) here
    (subst (λ (v : ℕ). In v (definitions (opened raw at c.args.number c.args.index 0).blocks)) c.value.ensures
    (subst (λ (f : Function). In c.value.result (definitions f.blocks)) c.requires.before i)))

pub returns : goal.returns
returns c =
    let raw = c.args.self.now.raw.now in
    let at = renaming c.args.self.now.words.now in
    let here = read_copy c.as_slice.result.now c.args.block.now.params c.args.index none c.as_slice.ensures c.requires.there in
    c.in_ok-add_param.ensures.ok
    ∙ ap (λ (f : Function). record f { blocks = at_block c.args.number (put_param c.value.result) f.blocks }) c.requires.before
    ∙ ap (λ (v : ℕ). record (meant raw at) { blocks = at_block c.args.number (put_param v) (opened raw at c.args.number c.args.index 0).blocks }) c.value.ensures
    ∙ param_step raw at c.args.number c.args.block.now c.requires.at c.requires.ready c.args.index (get_or c.as_slice.result.now c.args.index none) here

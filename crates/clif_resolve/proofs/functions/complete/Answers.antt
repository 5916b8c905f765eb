use Rattle.std.proofs.Common.{◌<◌, ◌-◌, ◌^◌, List, length, sym, ap, subst, arith}
use Rattle.ir_core.specs.Module.{Function}
use Rattle.clif_read.specs.declared.raw.RawBlock.{RawBlock}
use Rattle.clif_lines.specs.WordRenaming.{renaming}
use Rattle.clif_resolve.proofs.DeclaredLaws.{begun_by, few_blocks}
use Rattle.clif_resolve.proofs.functions.complete.Goals as goal

pub add_blocks-requires-clause-none : goal.add_blocks-requires-clause-none
add_blocks-requires-clause-none c = ap (λ (f : Function). f.blocks) c.requires.values

pub add_blocks-requires-clause-few : goal.add_blocks-requires-clause-few
add_blocks-requires-clause-few c =
    subst (λ (bs : List RawBlock). length bs < 2 ^ 32 - 1) (sym c.as_slice.ensures)
    (few_blocks c.args.filling.now.raw.now (renaming c.args.filling.now.words.now) c.requires.ready)

pub fill-requires-clause-few : goal.fill-requires-clause-few
fill-requires-clause-few c =
    let few = few_blocks c.args.filling.now.raw.now (renaming c.args.filling.now.words.now) c.requires.ready in
    omega (arith, few)

pub fill-requires-clause-empty : goal.fill-requires-clause-empty
fill-requires-clause-empty c =
    begun_by c.args.filling.now.raw.now (renaming c.args.filling.now.words.now) _ _ _ c.as_slice.ensures c.requires.values c.in_ok-add_blocks.ensures

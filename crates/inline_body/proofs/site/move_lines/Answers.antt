use Rattle.std.proofs.Common.{ap, sym, subst, ◌∙◌}
use Rattle.ir_core.specs.Lookup.{block_numbers}
use Rattle.ir_core.specs.Lists.{In}
use Rattle.ir_core.specs.Edits.{lines_of}
use Rattle.inline_body.proofs.SiteBlocks.{still_there, new_there, new_empty, first_blocks, parted_body}
use Rattle.inline_body.proofs.site.move_lines.Goals as goal

pub cut-requires-clause-there : goal.cut-requires-clause-there
cut-requires-clause-there c =
    let f = c.args.caller.now.function in
    let n = c.insert_block-after in
    subst (λ z. In c.args.block (block_numbers z)) (sym (first_blocks c.args.block n.result c.args.params f n.new.self.function n.ensures.body)) (still_there c.args.block n.result c.args.params f.blocks c.requires.there n.ensures.blocks_differ n.ensures.fresh)

pub cut-requires-clause-into_there : goal.cut-requires-clause-into_there
cut-requires-clause-into_there c =
    let f = c.args.caller.now.function in
    let n = c.insert_block-after in
    subst (λ z. In n.result (block_numbers z)) (sym (first_blocks c.args.block n.result c.args.params f n.new.self.function n.ensures.body)) (new_there c.args.block n.result c.args.params f.blocks c.requires.there n.ensures.blocks_differ n.ensures.fresh)

pub cut-requires-clause-empty : goal.cut-requires-clause-empty
cut-requires-clause-empty c =
    let f = c.args.caller.now.function in
    let n = c.insert_block-after in
    ap (lines_of n.result) (first_blocks c.args.block n.result c.args.params f n.new.self.function n.ensures.body) ∙ new_empty c.args.block n.result c.args.params f.blocks c.requires.there n.ensures.blocks_differ n.ensures.fresh

pub returns-clause-body : goal.returns-clause-body
returns-clause-body c =
    let f = c.args.caller.now.function in
    let n = c.insert_block-after in
    parted_body c.args.block n.result c.args.params f n.new.self.function c.cut.new.self.function c.requires.there n.ensures.blocks_differ n.ensures.fresh n.ensures.body c.cut.ensures.body

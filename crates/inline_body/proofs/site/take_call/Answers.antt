use Rattle.std.proofs.Common.{◌≡◌, suc, ◌+◌, length, ap, sym, subst, ◌∙◌, arith}
use Rattle.ir_core.specs.Lookup.{block_numbers}
use Rattle.ir_core.specs.Lists.{In}
use Rattle.ir_core.specs.Edits.{lines_of}
use Rattle.ir_core.specs.Viewed.{line_of}
use Rattle.inline_body.proofs.SiteBlocks.{still_there, new_there, new_empty, lines_still, first_blocks, second_blocks, cut_there, not_empty, taken_body}
use Rattle.inline_body.proofs.site.take_call.Goals as goal

pub cut-requires-clause-there : goal.cut-requires-clause-there
cut-requires-clause-there c =
    let f = c.args.caller.now.function in
    let n = c.insert_block-first in
    subst (λ z. In c.args.site.block (block_numbers z)) (sym (first_blocks c.args.site.block n.result c.args.params f n.new.self.function n.ensures.body)) (still_there c.args.site.block n.result c.args.params f.blocks c.requires.there.0 n.ensures.blocks_differ n.ensures.fresh)

pub cut-requires-clause-into_there : goal.cut-requires-clause-into_there
cut-requires-clause-into_there c =
    let f = c.args.caller.now.function in
    let n = c.insert_block-first in
    subst (λ z. In n.result (block_numbers z)) (sym (first_blocks c.args.site.block n.result c.args.params f n.new.self.function n.ensures.body)) (new_there c.args.site.block n.result c.args.params f.blocks c.requires.there.0 n.ensures.blocks_differ n.ensures.fresh)

pub cut-requires-clause-within : goal.cut-requires-clause-within
cut-requires-clause-within c =
    let f = c.args.caller.now.function in
    let n = c.insert_block-first in
    let e = ap length (ap (lines_of c.args.site.block) (first_blocks c.args.site.block n.result c.args.params f n.new.self.function n.ensures.body) ∙ lines_still c.args.site.block n.result c.args.params f.blocks c.requires.there.0 n.ensures.blocks_differ n.ensures.fresh) in
    omega (arith, e, c.requires.there.1)

pub cut-requires-clause-empty : goal.cut-requires-clause-empty
cut-requires-clause-empty c =
    let f = c.args.caller.now.function in
    let n = c.insert_block-first in
    ap (lines_of n.result) (first_blocks c.args.site.block n.result c.args.params f n.new.self.function n.ensures.body) ∙ new_empty c.args.site.block n.result c.args.params f.blocks c.requires.there.0 n.ensures.blocks_differ n.ensures.fresh

pub take_last-call-requires-clause-there : goal.take_last-call-requires-clause-there
take_last-call-requires-clause-there c =
    let f = c.args.caller.now.function in
    let n = c.insert_block-first in
    subst (λ z. In c.args.site.block (block_numbers z)) (sym (second_blocks c.args.site.block n.result (c.args.site.index + 1) c.args.params f n.new.self.function c.cut.new.self.function n.ensures.body c.cut.ensures.body)) (cut_there c.args.site.block n.result c.args.params f.blocks c.requires.there.0 n.ensures.blocks_differ n.ensures.fresh (c.args.site.index + 1))

pub take_last-call-requires-clause-some : goal.take_last-call-requires-clause-some
take_last-call-requires-clause-some c =
    let f = c.args.caller.now.function in
    let n = c.insert_block-first in
    let m : c.args.site.index + 1 ≡ suc c.args.site.index = omega arith in
    not_empty c.args.site.block n.result c.args.site.index (c.args.site.index + 1) c.args.params f.blocks c.cut.new.self.function.blocks m c.requires.there.0 n.ensures.blocks_differ n.ensures.fresh c.requires.there.1 (second_blocks c.args.site.block n.result (c.args.site.index + 1) c.args.params f n.new.self.function c.cut.new.self.function n.ensures.body c.cut.ensures.body)

pub returns-clause-body : goal.returns-clause-body
returns-clause-body c =
    let f = c.args.caller.now.function in
    let n = c.insert_block-first in
    let m : c.args.site.index + 1 ≡ suc c.args.site.index = omega arith in
    (taken_body c.args.site.block n.result c.args.site.index (c.args.site.index + 1) c.args.params f n.new.self.function c.cut.new.self.function c.take_last-call.new.self.function (line_of c.take_last-call.result) m c.requires.there.0 n.ensures.blocks_differ n.ensures.fresh c.requires.there.1 n.ensures.body c.cut.ensures.body c.take_last-call.ensures.body).0

pub returns-clause-call : goal.returns-clause-call
returns-clause-call c =
    let f = c.args.caller.now.function in
    let n = c.insert_block-first in
    let m : c.args.site.index + 1 ≡ suc c.args.site.index = omega arith in
    (taken_body c.args.site.block n.result c.args.site.index (c.args.site.index + 1) c.args.params f n.new.self.function c.cut.new.self.function c.take_last-call.new.self.function (line_of c.take_last-call.result) m c.requires.there.0 n.ensures.blocks_differ n.ensures.fresh c.requires.there.1 n.ensures.body c.cut.ensures.body c.take_last-call.ensures.body).1

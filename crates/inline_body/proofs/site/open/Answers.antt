use Rattle.std.proofs.Common.{◌≡◌, List, length, ap, sym, subst, ◌∙◌, arith}
use Rattle.ir_core.specs.Module.{Function, Block}
use Rattle.ir_core.specs.Lookup.{block_numbers, definitions}
use Rattle.ir_core.specs.Lists.{In, Different, Below}
use Rattle.ir_core.specs.Viewed.{line_of}
use Rattle.inline_body.proofs.SiteOpening.{results_differ, results_below, results_free, first_there, one_longer, sound_below}
use Rattle.inline_body.proofs.site.open.Goals as goal

blocks_are : (f g : Function) (bs : List Block) → g ≡ record f { blocks = bs } → g.blocks ≡ bs
blocks_are f g bs e = ap (λ (z : Function). z.blocks) e

pub move_lines-after-requires-clause-there : goal.move_lines-after-requires-clause-there
move_lines-after-requires-clause-there c =
    let f = c.args.caller.now.function in
    let t = c.take_call-call in
    subst (λ z. In t.result.1 (block_numbers z)) (sym (blocks_are f t.new.caller.function _ t.ensures.body)) (first_there c.args.site.block t.result.1 c.args.site.index c.args.params f.blocks (line_of t.result.0) c.requires.there.0 c.values.ensures.sound.blocks_differ t.ensures.call c.values.ensures.sound.defined_once)

pub move_lines-after-requires-clause-few : goal.move_lines-after-requires-clause-few
move_lines-after-requires-clause-few c =
    let f = c.args.caller.now.function in
    let t = c.take_call-call in
    let e = ap length (blocks_are f t.new.caller.function _ t.ensures.body) ∙ one_longer c.args.site.block t.result.1 c.args.site.index c.args.params f.blocks (line_of t.result.0) c.requires.there.0 c.values.ensures.sound.blocks_differ t.ensures.call c.values.ensures.sound.defined_once in
    let r = c.requires.few in
    omega (arith, e, r)

pub move_lines-after-requires-clause-declared : goal.move_lines-after-requires-clause-declared
move_lines-after-requires-clause-declared c =
    let f = c.args.caller.now.function in
    let t = c.take_call-call in
    let types : length t.new.caller.function.types ≡ length f.types = ap (λ (z : Function). length z.types) t.ensures.body in
    subst (λ n. Below n c.args.results) (sym types) (subst (Below (length f.types)) (sym (c.requires.are_results (line_of t.result.0) t.ensures.call))
    (results_below c.args.site.block t.result.1 c.args.site.index c.args.params f.blocks (line_of t.result.0) c.requires.there.0 c.values.ensures.sound.blocks_differ t.ensures.call c.values.ensures.sound.defined_once (length f.types) (sound_below f c.values.ensures.sound)))

pub move_lines-after-requires-clause-different : goal.move_lines-after-requires-clause-different
move_lines-after-requires-clause-different c =
    let f = c.args.caller.now.function in
    let t = c.take_call-call in
    subst Different (sym (c.requires.are_results (line_of t.result.0) t.ensures.call)) (results_differ c.args.site.block t.result.1 c.args.site.index c.args.params f.blocks (line_of t.result.0) c.requires.there.0 c.values.ensures.sound.blocks_differ t.ensures.call c.values.ensures.sound.defined_once)

pub move_lines-after-requires-clause-undefined : goal.move_lines-after-requires-clause-undefined
move_lines-after-requires-clause-undefined c = λ v i j.
    let f = c.args.caller.now.function in
    let t = c.take_call-call in
    results_free c.args.site.block t.result.1 c.args.site.index c.args.params f.blocks (line_of t.result.0) c.requires.there.0 c.values.ensures.sound.blocks_differ t.ensures.call c.values.ensures.sound.defined_once c.requires.undefined v (subst (In v) (c.requires.are_results (line_of t.result.0) t.ensures.call) i) (subst (λ z. In v (definitions z)) (blocks_are f t.new.caller.function _ t.ensures.body) j)

pub returns-clause-after : goal.returns-clause-after
returns-clause-after c =
    let f = c.args.caller.now.function in
    let t = c.take_call-call in
    c.move_lines-after.ensures.number ∙ (ap length (blocks_are f t.new.caller.function _ t.ensures.body) ∙ one_longer c.args.site.block t.result.1 c.args.site.index c.args.params f.blocks (line_of t.result.0) c.requires.there.0 c.values.ensures.sound.blocks_differ t.ensures.call c.values.ensures.sound.defined_once)

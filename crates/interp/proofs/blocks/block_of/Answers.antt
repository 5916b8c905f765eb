use Rattle.std.proofs.Common.{◌≡◌, ◌∙◌, ap, ◌<◌, length, map, rules}
use Rattle.ir_core.specs.Viewed.{line_of}
use Rattle.interp.specs.State.{function_at}
use Rattle.interp.specs.declared.state.Links.{Links}
use Rattle.interp.proofs.Entering.{none_past, none_above, entered, sound_there}
use Rattle.interp.proofs.blocks.block_of.Goals as goal

pub returns-then-at-len : goal.returns-then-at-len
returns-then-at-len c = none_past c.args.program.now.module.now c.args.at c.args.block (search rules)

pub returns-then-number-index : goal.returns-then-number-index
returns-then-number-index c =
    let lt : c.args.at < length c.args.program.now.module.now = search rules in
    let n : c.index.result.now.blocks ≡ length (function_at c.args.program.now.module.now c.args.at).blocks = ap (λ (l : Links). l.blocks) c.index.ensures ∙ c.requires.linked.blocks c.args.at c.index.result.now lt in
    none_above (function_at c.args.program.now.module.now c.args.at) c.index.result.now.blocks c.args.block (c.requires.linked.sound c.args.at lt) n (search rules)

pub params-params-requires : goal.params-params-requires
params-params-requires c =
    let lt : c.args.at < length c.args.program.now.module.now = search rules in
    let n : c.index.result.now.blocks ≡ length (function_at c.args.program.now.module.now c.args.at).blocks = ap (λ (l : Links). l.blocks) c.index.ensures ∙ c.requires.linked.blocks c.args.at c.index.result.now lt in
    sound_there c.args.program.now.module.now c.args.at c.func-func.result.now.function c.index.result.now.blocks c.args.block c.func-func.ensures.at (c.requires.linked.sound c.args.at lt) n (search rules)

pub inst_slice-lines-requires : goal.inst_slice-lines-requires
inst_slice-lines-requires c =
    let lt : c.args.at < length c.args.program.now.module.now = search rules in
    let n : c.index.result.now.blocks ≡ length (function_at c.args.program.now.module.now c.args.at).blocks = ap (λ (l : Links). l.blocks) c.index.ensures ∙ c.requires.linked.blocks c.args.at c.index.result.now lt in
    sound_there c.args.program.now.module.now c.args.at c.func-func.result.now.function c.index.result.now.blocks c.args.block c.func-func.ensures.at (c.requires.linked.sound c.args.at lt) n (search rules)

pub returns : goal.returns
returns c =
    let lt : c.args.at < length c.args.program.now.module.now = search rules in
    let n : c.index.result.now.blocks ≡ length (function_at c.args.program.now.module.now c.args.at).blocks = ap (λ (l : Links). l.blocks) c.index.ensures ∙ c.requires.linked.blocks c.args.at c.index.result.now lt in
    entered c.args.program.now.module.now c.args.at c.args.block c.func-func.result.now.function c.params-params.result.now c.inst_slice-lines.result.now c.func-func.ensures.at (sound_there c.args.program.now.module.now c.args.at c.func-func.result.now.function c.index.result.now.blocks c.args.block c.func-func.ensures.at (c.requires.linked.sound c.args.at lt) n (search rules)) c.params-params.ensures c.inst_slice-lines.ensures

pub invariant_of-result : goal.invariant_of-result
invariant_of-result c =
    let lt : c.args.at < length c.args.program.now.module.now = search rules in
    let n : c.index.result.now.blocks ≡ length (function_at c.args.program.now.module.now c.args.at).blocks = ap (λ (l : Links). l.blocks) c.index.ensures ∙ c.requires.linked.blocks c.args.at c.index.result.now lt in
    record { fit = c.requires.linked.fit c.args.at c.args.block (record { number = c.args.block; params = c.params-params.result.now; lines = map line_of c.inst_slice-lines.result.now }) lt (entered c.args.program.now.module.now c.args.at c.args.block c.func-func.result.now.function c.params-params.result.now c.inst_slice-lines.result.now c.func-func.ensures.at (sound_there c.args.program.now.module.now c.args.at c.func-func.result.now.function c.index.result.now.blocks c.args.block c.func-func.ensures.at (c.requires.linked.sound c.args.at lt) n (search rules)) c.params-params.ensures c.inst_slice-lines.ensures) }

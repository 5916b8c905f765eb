use Rattle.std.proofs.Common.{◌≡◌, ◌+◌, ◌<◌, map, length, get_or, ap, ap₂, sym, subst, ◌∙◌, refl, arith}
use Rattle.ir_core.specs.Lookup.{block_numbers}
use Rattle.ir_core.specs.Viewed.{instruction_of, line_of}
use Rattle.ir_semantics.specs.Splice.{args_of}
use Rattle.inline_body.specs.declared.names.Names.{Names}
use Rattle.inline_body.specs.Dense.{numbers_along}
use Rattle.inline_body.specs.Inlined.{inlined_block, blocks_from}
use Rattle.inline_body.specs.Named.{names_in}
use Rattle.inline_body.proofs.Preparing.{listed, results_declared, blocks_reached, body_prepared}
use Rattle.inline_body.proofs.prepare.prepare_body.Goals as goal

pub site_parts-requires : goal.site_parts-requires
site_parts-requires c = results_declared c.args.caller.now.function c.args.callee.now.function c.args.site c.values-count.ensures.sound c.values-count-2.ensures.sound c.requires.can (line_of c.inst-call.result.now) c.inst-call.ensures c.as_slice-results.result.now c.as_slice-results.ensures

pub inline_blocks-requires : goal.inline_blocks-requires
inline_blocks-requires c =
    let is : c.of_import-names.result.names ≡ names_in c.args.caller.now.function c.in_ok-blocks.blocks c.args.import = c.of_import-names.ensures.names in
    blocks_reached c.args.caller.now.function c.args.callee.now.function c.args.site c.values-count.ensures.sound c.values-count-2.ensures.sound c.requires.can (line_of c.inst-call.result.now) c.inst-call.ensures c.as_slice-results.result.now c.as_slice-results.ensures
    c.args.import c.requires.imported c.of_import-names.result.names
    (ap (λ (n : Names). n.values) is) (ap (λ (n : Names). n.slots) is) (ap (λ (n : Names). length n.blocks) is ∙ c.in_ok-blocks.ensures.as_many) (ap (λ (n : Names). n.sigs) is) (ap (λ (n : Names). n.callees) is)
    (c.values.result + c.values-2.result) (ap₂ (λ x y. x + y) c.values.ensures.count c.values-2.ensures.count)
    c.as_slice.result.now c.in_ok-new_results.new_results.starts.items c.as_slice.ensures.value c.in_ok-new_results.ensures.as_many c.in_ok-new_results.ensures.starts

pub of_parts-requires : goal.of_parts-requires
of_parts-requires c =
    let body = c.in_ok-body.body in
    let many : length body.block_params ≡ length c.args.callee.now.function.blocks = listed (inlined_block c.of_import-names.result.names c.inst-call.result.now.tags c.new.result c.as_slice.result.now (length c.as_slice-results.result.now)) body.block_params body.block_lines c.args.callee.now.function.blocks c.in_ok-body.ensures.as_many c.in_ok-body.ensures.blocks in
    let h = c.requires.can.has_block in
    omega (arith, many, h)

pub returns : goal.returns
returns c =
    let n = c.of_import-names.result.names in
    let is : n ≡ names_in c.args.caller.now.function c.in_ok-blocks.blocks c.args.import = c.of_import-names.ensures.names in
    let body = c.in_ok-body.body in
    let types = c.in_ok-parts.ensures.types in
    let made = c.of_parts.ensures in
    body_prepared c.args.caller.now.function c.args.callee.now.function c.args.site c.values-count.ensures.sound c.values-count-2.ensures.sound c.requires.can (line_of c.inst-call.result.now) c.inst-call.ensures c.as_slice-results.result.now c.as_slice-results.ensures
    c.args.import c.requires.imported n
    (ap (λ (n : Names). n.values) is) (ap (λ (n : Names). n.slots) is) (ap (λ (n : Names). length n.blocks) is ∙ c.in_ok-blocks.ensures.as_many) (ap (λ (n : Names). n.sigs) is) (ap (λ (n : Names). n.callees) is)
    (c.values.result + c.values-2.result) (ap₂ (λ x y. x + y) c.values.ensures.count c.values-2.ensures.count)
    c.as_slice.result.now c.in_ok-new_results.new_results.starts.items c.as_slice.ensures.value c.in_ok-new_results.ensures.as_many c.in_ok-new_results.ensures.starts
    c.args.block_count c.args.block_count c.new.result c.requires.counted refl c.new.ensures
    (subst (λ (z : Names). map (λ b. get_or z.blocks b 0) (block_numbers c.args.callee.now.function.blocks) ≡ numbers_along c.args.block_count c.args.block_count (block_numbers c.args.callee.now.function.blocks)) (sym is) c.in_ok-blocks.ensures.numbers)
    (ap (λ (n : Names). n.sig_count) is)
    (ap (λ (n : Names). n.callee_count) is)
    types.0 types.0 types.1 refl
    c.in_ok-new_results.new_results.tail_calls c.in_ok-new_results.ensures.tail_calls
    c.of_parts.result (made.slots ∙ c.in_ok-parts.ensures.slots) (made.sigs ∙ c.of_import-names.ensures.sigs) (made.callees ∙ c.of_import-names.ensures.callees) (made.types ∙ types.2)
    (args_of (instruction_of c.inst-call.result.now.inst)) refl (ap line_of made.jump ∙ c.in_ok-parts.ensures.jump)
    (made.results ∙ c.in_ok-parts.ensures.results)
    body.block_params made.params
    (ap (blocks_from body.block_params) made.lines ∙ c.in_ok-body.ensures.blocks) (c.in_ok-body.ensures.as_many ∙ sym (ap length made.lines))

use Rattle.std.proofs.Common.{◌≡◌, ℕ, ◌<◌, map, length, get_or, ap, ap₂, sym, subst, ◌∙◌, arith, append-nil}
use Rattle.ir_core.specs.Lookup.{block_numbers}
use Rattle.ir_core.specs.Viewed.{line_of}
use Rattle.ir_semantics.specs.Splice.{args_of}
use Rattle.inline_body.specs.declared.names.Names.{Names}
use Rattle.inline_body.specs.Inlined.{jump_line, blocks_from}
use Rattle.inline_body.specs.Named.{names_in}
use Rattle.inline_body.proofs.Preparing.{listed}
use Rattle.inline_ends.specs.Copied.{copied_block}
use Rattle.inline_ends.specs.Ending.{numbered}
use Rattle.inline_ends.proofs.TailPrepared.{blocks_reached, tail_prepared}
use Rattle.inline_ends.proofs.prepare.prepare_tail.Goals as goal

pub copy_blocks-requires : goal.copy_blocks-requires
copy_blocks-requires c =
    let is : c.of_import-names.result.names ≡ names_in c.args.caller.now.function c.in_ok-blocks.blocks c.args.import = c.of_import-names.ensures.names in
    blocks_reached c.args.caller.now.function c.args.callee.now.function c.args.site c.values.ensures.sound c.values-2.ensures.sound c.requires.can (line_of c.inst-call.result.now) c.inst-call.ensures
    c.args.import c.requires.imported c.of_import-names.result.names
    (ap (λ (n : Names). n.values) is) (ap (λ (n : Names). n.slots) is) (ap (λ (n : Names). length n.blocks) is ∙ c.in_ok-blocks.ensures.as_many) (ap (λ (n : Names). n.sigs) is) (ap (λ (n : Names). n.callees) is)

pub of_parts-requires : goal.of_parts-requires
of_parts-requires c =
    let g = c.args.callee.now.function in
    let body = c.in_ok-body.body in
    let many : length body.block_params ≡ length g.blocks = listed (copied_block c.of_import-names.result.names c.inst-call.result.now.tags) body.block_params body.block_lines g.blocks c.in_ok-body.ensures.as_many c.in_ok-body.ensures.blocks in
    let h = c.requires.can.has_block in
    omega (arith, many, h)

pub returns : goal.returns
returns c =
    let f = c.args.caller.now.function in
    let g = c.args.callee.now.function in
    let l = line_of c.inst-call.result.now in
    let n = c.of_import-names.result.names in
    let is : n ≡ names_in f c.in_ok-blocks.blocks c.args.import = c.of_import-names.ensures.names in
    let made = c.of_parts.ensures in
    tail_prepared f g c.args.site c.values.ensures.sound c.values-2.ensures.sound c.requires.can l c.inst-call.ensures
    c.args.import c.requires.imported n
    (ap (λ (n : Names). n.values) is) (ap (λ (n : Names). n.slots) is) (ap (λ (n : Names). length n.blocks) is ∙ c.in_ok-blocks.ensures.as_many) (ap (λ (n : Names). n.sigs) is) (ap (λ (n : Names). n.callees) is)
    (subst (λ (z : Names). map (λ b. get_or z.blocks b 0) (block_numbers g.blocks) ≡ numbered (length f.blocks) (block_numbers g.blocks)) (sym is)
    (c.in_ok-blocks.ensures.numbers ∙ ap (λ (z : ℕ). numbered z (block_numbers g.blocks)) c.requires.counted))
    c.of_parts.result
    (record {
      values = ap (λ (n : Names). n.values) is;
      slots = ap (λ (n : Names). n.slots) is;
      sigs = ap (λ (n : Names). n.sigs) is;
      sig_count = ap (λ (n : Names). n.sig_count) is;
      callees = ap (λ (n : Names). n.callees) is;
      callee_count = ap (λ (n : Names). n.callee_count) is;
      piece_slots = made.slots ∙ c.in_ok-parts.ensures.slots;
      piece_sigs = made.sigs ∙ c.of_import-names.ensures.sigs;
      piece_callees = made.callees ∙ c.of_import-names.ensures.callees;
      piece_types = let types = c.in_ok-parts.ensures.types in made.types ∙ (types.2 ∙ append-nil (map (λ t. t.1) g.types));
      jump = ap line_of made.jump ∙ (c.in_ok-parts.ensures.jump ∙ ap (λ (b : ℕ). jump_line b (args_of l.inst)) c.requires.counted);
      body = ap₂ blocks_from made.params made.lines ∙ c.in_ok-body.ensures.blocks;
      as_many = ap length made.params ∙ (c.in_ok-body.ensures.as_many ∙ sym (ap length made.lines));
    })

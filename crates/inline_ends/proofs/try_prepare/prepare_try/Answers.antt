use Rattle.std.proofs.Common.{◌≡◌, ℕ, ◌<◌, ◌++◌, map, length, get_or, ap, ap₂, sym, subst, ◌∙◌, arith, append-nil}
use Rattle.ir_core.specs.Lookup.{block_numbers}
use Rattle.ir_core.specs.Viewed.{line_of}
use Rattle.ir_semantics.specs.Splice.{args_of}
use Rattle.inline_body.specs.declared.names.Names.{Names}
use Rattle.inline_body.specs.Inlined.{jump_line, blocks_from}
use Rattle.inline_body.specs.Named.{names_in}
use Rattle.inline_body.proofs.BodyDefinitions.{blocks_listed}
use Rattle.inline_ends.specs.Tried.{numbered_with_calls, tried_blocks}
use Rattle.inline_ends.proofs.TriedShape.{tried_length}
use Rattle.inline_ends.proofs.TryPrepared.{is_tries, blocks_reached, called, try_prepared}
use Rattle.inline_ends.proofs.try_prepare.prepare_try.Goals as goal

pub site_of-outer-requires : goal.site_of-outer-requires
site_of-outer-requires c = is_tries c.args.caller.now.function c.args.callee.now.function c.args.site c.requires.can (line_of c.inst-call.result.now) c.inst-call.ensures

pub try_blocks-requires-clause-can : goal.try_blocks-requires-clause-can
try_blocks-requires-clause-can c =
    let g = c.args.callee.now.function in
    let is : c.of_import-names.result.names ≡ names_in c.args.caller.now.function c.in_ok-blocks.blocks c.args.import = c.of_import-names.ensures.names in
    blocks_reached c.args.caller.now.function g c.args.site c.values.ensures.sound c.values-2.ensures.sound c.requires.can (line_of c.inst-call.result.now) c.inst-call.ensures
    c.args.import c.requires.imported c.of_import-names.result.names
    (ap (λ (n : Names). n.values) is) (ap (λ (n : Names). n.slots) is) (ap (λ (n : Names). length n.blocks) is ∙ c.in_ok-blocks.ensures.as_many) (ap (λ (n : Names). n.sigs) is) (ap (λ (n : Names). n.callees) is)
    (subst (λ (z : Names). map (λ b. get_or z.blocks b 0) (block_numbers g.blocks) ≡ numbered_with_calls (length c.args.caller.now.function.blocks) g.blocks) (sym is)
    (c.in_ok-blocks.ensures.numbers ∙ ap (λ (z : ℕ). numbered_with_calls z g.blocks) c.requires.counted))

pub try_blocks-requires-clause-called : goal.try_blocks-requires-clause-called
try_blocks-requires-clause-called c =
    let g = c.args.callee.now.function in
    let is : c.of_import-names.result.names ≡ names_in c.args.caller.now.function c.in_ok-blocks.blocks c.args.import = c.of_import-names.ensures.names in
    called c.args.caller.now.function g c.args.site c.values.ensures.sound c.values-2.ensures.sound c.requires.can (line_of c.inst-call.result.now) c.inst-call.ensures
    c.args.import c.requires.imported c.of_import-names.result.names
    (ap (λ (n : Names). n.values) is) (ap (λ (n : Names). n.slots) is) (ap (λ (n : Names). length n.blocks) is ∙ c.in_ok-blocks.ensures.as_many) (ap (λ (n : Names). n.sigs) is) (ap (λ (n : Names). n.callees) is)
    (subst (λ (z : Names). map (λ b. get_or z.blocks b 0) (block_numbers g.blocks) ≡ numbered_with_calls (length c.args.caller.now.function.blocks) g.blocks) (sym is)
    (c.in_ok-blocks.ensures.numbers ∙ ap (λ (z : ℕ). numbered_with_calls z g.blocks) c.requires.counted))
    c.site_of-outer.result (c.site_of-outer.ensures.callees ∙ ap₂ (λ x y. x ++ y) c.callees.ensures (c.as_slice.ensures ∙ c.of_import-names.ensures.callees))

pub of_parts-requires : goal.of_parts-requires
of_parts-requires c =
    let g = c.args.callee.now.function in
    let n = c.of_import-names.result.names in
    let body = c.in_ok-body.body in
    let many : length body.block_params ≡ length (tried_blocks n c.site_of-outer.result g.blocks) = sym (blocks_listed body.block_params body.block_lines c.in_ok-body.ensures.as_many) ∙ ap length c.in_ok-body.ensures.blocks in
    let long = tried_length n c.site_of-outer.result g.blocks in
    let h = c.requires.can.has_block in
    omega (arith, many, long, h)

pub returns : goal.returns
returns c =
    let f = c.args.caller.now.function in
    let g = c.args.callee.now.function in
    let l = line_of c.inst-call.result.now in
    let s = c.site_of-outer.result in
    let n = c.of_import-names.result.names in
    let is : n ≡ names_in f c.in_ok-blocks.blocks c.args.import = c.of_import-names.ensures.names in
    let made = c.of_parts.ensures in
    try_prepared f g c.args.site c.values.ensures.sound c.values-2.ensures.sound c.requires.can l c.inst-call.ensures
    c.args.import c.requires.imported n
    (ap (λ (n : Names). n.values) is) (ap (λ (n : Names). n.slots) is) (ap (λ (n : Names). length n.blocks) is ∙ c.in_ok-blocks.ensures.as_many) (ap (λ (n : Names). n.sigs) is) (ap (λ (n : Names). n.callees) is)
    (subst (λ (z : Names). map (λ b. get_or z.blocks b 0) (block_numbers g.blocks) ≡ numbered_with_calls (length f.blocks) g.blocks) (sym is)
    (c.in_ok-blocks.ensures.numbers ∙ ap (λ (z : ℕ). numbered_with_calls z g.blocks) c.requires.counted))
    s c.site_of-outer.ensures.kind c.site_of-outer.ensures.tags (c.site_of-outer.ensures.callees ∙ ap₂ (λ x y. x ++ y) c.callees.ensures (c.as_slice.ensures ∙ c.of_import-names.ensures.callees))
    c.of_parts.result
    (record {
      values = ap (λ (n : Names). n.values) is;
      slots = ap (λ (n : Names). n.slots) is;
      sigs = ap (λ (n : Names). n.sigs) is;
      sig_count = ap (λ (n : Names). n.sig_count) is;
      callees = ap (λ (n : Names). n.callees) is;
      callee_count = ap (λ (n : Names). n.callee_count) is;
      piece_slots = made.slots ∙ c.in_ok-parts.ensures.slots;
      piece_sigs = made.sigs ∙ c.of_import-names.ensures.sigs;
      piece_callees = made.callees ∙ c.of_import-names.ensures.callees;
      piece_types = let types = c.in_ok-parts.ensures.types in made.types ∙ (types.2 ∙ append-nil (map (λ t. t.1) g.types));
      jump = ap line_of made.jump ∙ (c.in_ok-parts.ensures.jump ∙ ap (λ (b : ℕ). jump_line b (args_of l.inst)) c.requires.counted);
      body = ap₂ blocks_from made.params made.lines ∙ c.in_ok-body.ensures.blocks;
      as_many = ap length made.params ∙ (c.in_ok-body.ensures.as_many ∙ sym (ap length made.lines));
    })

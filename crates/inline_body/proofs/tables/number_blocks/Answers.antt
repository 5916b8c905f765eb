use Rattle.std.proofs.Common.{◌≡◌, ℕ, List, length, map, get_or, ap, sym, subst, ◌∙◌, arith}
use Rattle.ir_core.specs.Lookup.{block_numbers}
use Rattle.ir_core.specs.Lists.{Below}
use Rattle.inline_body.specs.Dense.{numbers_along}
use Rattle.inline_body.specs.Results.{with_values}
use Rattle.inline_body.proofs.Along.{along_length}
use Rattle.inline_body.proofs.ResultTypes.{values_at}
use Rattle.inline_body.proofs.tables.number_blocks.Goals as goal

pub returns-clause-numbers : goal.returns-clause-numbers
returns-clause-numbers c =
    let ks = block_numbers c.args.callee.now.function.blocks in
    let sound = c.blocks-block-items.ensures.sound in
    let long : length c.in_ok-table.table.items ≡ length c.args.callee.now.function.blocks = omega (arith, c.in_ok-table.ensures.len, c.in_ok-table.table.ok.0, c.block_count.ensures) in
    let vs = numbers_along c.args.first c.args.first ks in
    let is : c.written.table.items ≡ with_values c.in_ok-table.table.items ks vs =
    ap (λ (z : List ℕ). with_values c.written.table.items z (numbers_along c.args.first c.written.number z))
    (sym c.in-None.ensures.steps.0)
    ∙ c.written.invariant.left in
    ap (λ (z : List ℕ). map (λ b. get_or z b 0) ks) (c.from_vec.ensures ∙ is)
    ∙ values_at c.in_ok-table.table.items ks vs (sym (along_length c.args.first c.args.first ks)) sound.blocks_differ
    (subst (λ (n : ℕ). Below n ks) (sym long) sound.block_range)

use Rattle.std.proofs.Common.{arith, ◌≡◌, ◌+◌, ◌-◌, ◌≤◌, [], length, take, drop, sym, ap, subst, ◌∙◌}
use Rattle.std.proofs.Math.ListN.{set}
use Rattle.std.proofs.lemmas.Option.{slice_get_read}
use Rattle.ir_core.specs.Lookup.{block_numbers, definitions}
use Rattle.ir_core.specs.Lists.{In}
use Rattle.ir_core.specs.Sound.{IsSound}
use Rattle.ir_core.specs.Edits.{at_block, with_lines, lines_of}
use Rattle.ir_core.specs.Layout.{function_of, blocks_in}
use Rattle.ir_core.proofs.Laying.{length_set}
use Rattle.ir_core.proofs.Keeping.{with_blocks}
use Rattle.ir_core.proofs.Changing.{found, below, named, present, lines_seen, length_range, cut_laid, cut_blocks}
use Rattle.ir_core.proofs.Writing.{sound_cut, length_cut}
use Rattle.ir_core.proofs.func.Func.cut.Goals as goal

pub index_mut-entry-requires : goal.index_mut-entry-requires
index_mut-entry-requires c = omega (arith, below c.self.inside c.args.self.now c.number.result c.self.invariant c.self.view_is (named c.args.self.now c.number.result c.args.block c.number.ensures c.requires.there), c.self.inside.blocks.ok.0)

pub index_mut-entry-requires-2 : goal.index_mut-entry-requires-2
index_mut-entry-requires-2 c = omega (arith, below c.self.inside c.args.self.now c.number-2.result c.self.invariant c.self.view_is (named c.args.self.now c.number-2.result c.args.into c.number-2.ensures c.requires.into_there), c.self.inside.blocks.ok.0)

pub overflow_sub-len : goal.overflow_sub-len
overflow_sub-len c = (omega (arith, c.requires.within, ap length (ap (λ z. lines_of z c.args.self.now.function.blocks) (sym c.number.ensures) ∙ lines_seen c.self.inside c.args.self.now c.number.result c.index_mut-entry.result.now c.self.invariant c.self.view_is (named c.args.self.now c.number.result c.args.block c.number.ensures c.requires.there) (found c.self.inside c.args.self.now c.number.result c.index_mut-entry.result.now c.self.invariant c.self.view_is (named c.args.self.now c.number.result c.args.block c.number.ensures c.requires.there) c.index_mut-entry.ensures.value)), (length_range c.self.inside.insts.items c.index_mut-entry.result.now (omega (arith, (c.self.invariant.laid.short c.number.result c.index_mut-entry.result.now (found c.self.inside c.args.self.now c.number.result c.index_mut-entry.result.now c.self.invariant c.self.view_is (named c.args.self.now c.number.result c.args.block c.number.ensures c.requires.there) c.index_mut-entry.ensures.value)), (c.self.invariant.laid.within c.number.result c.index_mut-entry.result.now (found c.self.inside c.args.self.now c.number.result c.index_mut-entry.result.now c.self.invariant c.self.view_is (named c.args.self.now c.number.result c.args.block c.number.ensures c.requires.there) c.index_mut-entry.ensures.value)))))))

pub overflow_sub-cap : goal.overflow_sub-cap
overflow_sub-cap c = let i : c.args.index ≤ c.index_mut-entry.result.now.len = (omega (arith, c.requires.within, ap length (ap (λ z. lines_of z c.args.self.now.function.blocks) (sym c.number.ensures) ∙ lines_seen c.self.inside c.args.self.now c.number.result c.index_mut-entry.result.now c.self.invariant c.self.view_is (named c.args.self.now c.number.result c.args.block c.number.ensures c.requires.there) (found c.self.inside c.args.self.now c.number.result c.index_mut-entry.result.now c.self.invariant c.self.view_is (named c.args.self.now c.number.result c.args.block c.number.ensures c.requires.there) c.index_mut-entry.ensures.value)), (length_range c.self.inside.insts.items c.index_mut-entry.result.now (omega (arith, (c.self.invariant.laid.short c.number.result c.index_mut-entry.result.now (found c.self.inside c.args.self.now c.number.result c.index_mut-entry.result.now c.self.invariant c.self.view_is (named c.args.self.now c.number.result c.args.block c.number.ensures c.requires.there) c.index_mut-entry.ensures.value)), (c.self.invariant.laid.within c.number.result c.index_mut-entry.result.now (found c.self.inside c.args.self.now c.number.result c.index_mut-entry.result.now c.self.invariant c.self.view_is (named c.args.self.now c.number.result c.args.block c.number.ensures c.requires.there) c.index_mut-entry.ensures.value))))))) in omega (arith, i, (c.self.invariant.laid.short c.number.result c.index_mut-entry.result.now (found c.self.inside c.args.self.now c.number.result c.index_mut-entry.result.now c.self.invariant c.self.view_is (named c.args.self.now c.number.result c.args.block c.number.ensures c.requires.there) c.index_mut-entry.ensures.value)))

pub overflow_add-start : goal.overflow_add-start
overflow_add-start c = let i : c.args.index ≤ c.index_mut-entry.result.now.len = (omega (arith, c.requires.within, ap length (ap (λ z. lines_of z c.args.self.now.function.blocks) (sym c.number.ensures) ∙ lines_seen c.self.inside c.args.self.now c.number.result c.index_mut-entry.result.now c.self.invariant c.self.view_is (named c.args.self.now c.number.result c.args.block c.number.ensures c.requires.there) (found c.self.inside c.args.self.now c.number.result c.index_mut-entry.result.now c.self.invariant c.self.view_is (named c.args.self.now c.number.result c.args.block c.number.ensures c.requires.there) c.index_mut-entry.ensures.value)), (length_range c.self.inside.insts.items c.index_mut-entry.result.now (omega (arith, (c.self.invariant.laid.short c.number.result c.index_mut-entry.result.now (found c.self.inside c.args.self.now c.number.result c.index_mut-entry.result.now c.self.invariant c.self.view_is (named c.args.self.now c.number.result c.args.block c.number.ensures c.requires.there) c.index_mut-entry.ensures.value)), (c.self.invariant.laid.within c.number.result c.index_mut-entry.result.now (found c.self.inside c.args.self.now c.number.result c.index_mut-entry.result.now c.self.invariant c.self.view_is (named c.args.self.now c.number.result c.args.block c.number.ensures c.requires.there) c.index_mut-entry.ensures.value))))))) in omega (arith, i, (c.self.invariant.laid.short c.number.result c.index_mut-entry.result.now (found c.self.inside c.args.self.now c.number.result c.index_mut-entry.result.now c.self.invariant c.self.view_is (named c.args.self.now c.number.result c.args.block c.number.ensures c.requires.there) c.index_mut-entry.ensures.value)), (c.self.invariant.laid.within c.number.result c.index_mut-entry.result.now (found c.self.inside c.args.self.now c.number.result c.index_mut-entry.result.now c.self.invariant c.self.view_is (named c.args.self.now c.number.result c.args.block c.number.ensures c.requires.there) c.index_mut-entry.ensures.value)), c.self.inside.insts.ok.0, c.self.inside.insts.ok.1)

-- the blocks of the fields after the cut
cut_in : (c : goal.After-self-2-1) → blocks_in c.self.inside.insts.items (set (set c.self.inside.blocks.items c.number.result (record c.index_mut-entry.result.now { len = c.args.index; cap = c.args.index })) c.number-2.result (record c.index_mut-entry-2.result.now { start = c.index_mut-entry.result.now.start + c.args.index; len = c.index_mut-entry.result.now.len - c.args.index; cap = c.index_mut-entry.result.now.cap - c.args.index })) c.self.inside.first ≡ at_block c.number-2.result (with_lines (drop c.args.index (lines_of c.number.result (function_of c.self.inside).blocks))) (at_block c.number.result (with_lines (take c.args.index (lines_of c.number.result (function_of c.self.inside).blocks))) (function_of c.self.inside).blocks)
cut_in c =
    cut_blocks c.self.inside.insts.items c.self.inside.blocks.items c.self.inside.first c.self.inside.last c.number.result c.number-2.result c.args.index c.index_mut-entry.result.now c.index_mut-entry-2.result.now c.self.invariant.laid (present c.self.inside c.args.self.now c.number.result c.self.invariant c.self.view_is (named c.args.self.now c.number.result c.args.block c.number.ensures c.requires.there)) (found c.self.inside c.args.self.now c.number.result c.index_mut-entry.result.now c.self.invariant c.self.view_is (named c.args.self.now c.number.result c.args.block c.number.ensures c.requires.there) c.index_mut-entry.ensures.value) (λ e. c.requires.other (sym c.number.ensures ∙ (e ∙ c.number-2.ensures))) (omega (arith, c.requires.within, ap length (ap (λ z. lines_of z c.args.self.now.function.blocks) (sym c.number.ensures) ∙ lines_seen c.self.inside c.args.self.now c.number.result c.index_mut-entry.result.now c.self.invariant c.self.view_is (named c.args.self.now c.number.result c.args.block c.number.ensures c.requires.there) (found c.self.inside c.args.self.now c.number.result c.index_mut-entry.result.now c.self.invariant c.self.view_is (named c.args.self.now c.number.result c.args.block c.number.ensures c.requires.there) c.index_mut-entry.ensures.value)), (length_range c.self.inside.insts.items c.index_mut-entry.result.now (omega (arith, (c.self.invariant.laid.short c.number.result c.index_mut-entry.result.now (found c.self.inside c.args.self.now c.number.result c.index_mut-entry.result.now c.self.invariant c.self.view_is (named c.args.self.now c.number.result c.args.block c.number.ensures c.requires.there) c.index_mut-entry.ensures.value)), (c.self.invariant.laid.within c.number.result c.index_mut-entry.result.now (found c.self.inside c.args.self.now c.number.result c.index_mut-entry.result.now c.self.invariant c.self.view_is (named c.args.self.now c.number.result c.args.block c.number.ensures c.requires.there) c.index_mut-entry.ensures.value))))))) (slice_get_read (set c.self.inside.blocks.items c.number.result (record c.index_mut-entry.result.now { len = c.args.index; cap = c.args.index })) (length c.self.inside.blocks.items) c.number-2.result c.index_mut-entry-2.result.now (sym (length_set c.self.inside.blocks.items c.number.result (record c.index_mut-entry.result.now { len = c.args.index; cap = c.args.index }))) (below c.self.inside c.args.self.now c.number-2.result c.self.invariant c.self.view_is (named c.args.self.now c.number-2.result c.args.into c.number-2.ensures c.requires.into_there)) c.index_mut-entry-2.ensures.value)
    ∙ ap (λ ls. at_block c.number-2.result (with_lines (drop c.args.index ls)) (at_block c.number.result (with_lines (take c.args.index ls)) (function_of c.self.inside).blocks)) (sym (lines_seen c.self.inside c.args.self.now c.number.result c.index_mut-entry.result.now c.self.invariant c.self.view_is (named c.args.self.now c.number.result c.args.block c.number.ensures c.requires.there) (found c.self.inside c.args.self.now c.number.result c.index_mut-entry.result.now c.self.invariant c.self.view_is (named c.args.self.now c.number.result c.args.block c.number.ensures c.requires.there) c.index_mut-entry.ensures.value)) ∙ ap (λ z. lines_of c.number.result z.function.blocks) (sym c.self.view_is))

there : (c : goal.After-self-2-1) → In c.number.result (block_numbers (function_of c.self.inside).blocks)
there c = subst (λ z. In c.number.result (block_numbers z.function.blocks)) (sym c.self.view_is) (named c.args.self.now c.number.result c.args.block c.number.ensures c.requires.there)

into : (c : goal.After-self-2-1) → In c.number-2.result (block_numbers (function_of c.self.inside).blocks)
into c = subst (λ z. In c.number-2.result (block_numbers z.function.blocks)) (sym c.self.view_is) (named c.args.self.now c.number-2.result c.args.into c.number-2.ensures c.requires.into_there)

empty : (c : goal.After-self-2-1) → lines_of c.number-2.result (function_of c.self.inside).blocks ≡ []
empty c = ap (λ z. lines_of c.number-2.result z.function.blocks) c.self.view_is ∙ (ap (λ z. lines_of z c.args.self.now.function.blocks) c.number-2.ensures ∙ c.requires.empty)

pub invariant_of-self : goal.invariant_of-self
invariant_of-self c =
    record {
      laid = cut_laid c.self.inside.insts.items c.self.inside.blocks.items c.self.inside.first c.self.inside.last c.number.result c.number-2.result c.args.index c.index_mut-entry.result.now c.index_mut-entry-2.result.now c.self.invariant.laid (present c.self.inside c.args.self.now c.number.result c.self.invariant c.self.view_is (named c.args.self.now c.number.result c.args.block c.number.ensures c.requires.there)) (found c.self.inside c.args.self.now c.number.result c.index_mut-entry.result.now c.self.invariant c.self.view_is (named c.args.self.now c.number.result c.args.block c.number.ensures c.requires.there) c.index_mut-entry.ensures.value) (λ e. c.requires.other (sym c.number.ensures ∙ (e ∙ c.number-2.ensures))) (omega (arith, c.requires.within, ap length (ap (λ z. lines_of z c.args.self.now.function.blocks) (sym c.number.ensures) ∙ lines_seen c.self.inside c.args.self.now c.number.result c.index_mut-entry.result.now c.self.invariant c.self.view_is (named c.args.self.now c.number.result c.args.block c.number.ensures c.requires.there) (found c.self.inside c.args.self.now c.number.result c.index_mut-entry.result.now c.self.invariant c.self.view_is (named c.args.self.now c.number.result c.args.block c.number.ensures c.requires.there) c.index_mut-entry.ensures.value)), (length_range c.self.inside.insts.items c.index_mut-entry.result.now (omega (arith, (c.self.invariant.laid.short c.number.result c.index_mut-entry.result.now (found c.self.inside c.args.self.now c.number.result c.index_mut-entry.result.now c.self.invariant c.self.view_is (named c.args.self.now c.number.result c.args.block c.number.ensures c.requires.there) c.index_mut-entry.ensures.value)), (c.self.invariant.laid.within c.number.result c.index_mut-entry.result.now (found c.self.inside c.args.self.now c.number.result c.index_mut-entry.result.now c.self.invariant c.self.view_is (named c.args.self.now c.number.result c.args.block c.number.ensures c.requires.there) c.index_mut-entry.ensures.value))))))) (slice_get_read (set c.self.inside.blocks.items c.number.result (record c.index_mut-entry.result.now { len = c.args.index; cap = c.args.index })) (length c.self.inside.blocks.items) c.number-2.result c.index_mut-entry-2.result.now (sym (length_set c.self.inside.blocks.items c.number.result (record c.index_mut-entry.result.now { len = c.args.index; cap = c.args.index }))) (below c.self.inside c.args.self.now c.number-2.result c.self.invariant c.self.view_is (named c.args.self.now c.number-2.result c.args.into c.number-2.ensures c.requires.into_there)) c.index_mut-entry-2.ensures.value);
      defined = c.self.invariant.defined ∙ (sym (length_cut (function_of c.self.inside) c.number.result c.number-2.result c.args.index c.self.invariant.sound (there c) (into c) (λ e. c.requires.other (sym c.number.ensures ∙ (e ∙ c.number-2.ensures))) (empty c)) ∙ ap (λ z. length (definitions z)) (sym (cut_in c)));
      sound = subst (λ z. IsSound (with_blocks (function_of c.self.inside) z)) (sym (cut_in c)) (sound_cut (function_of c.self.inside) c.number.result c.number-2.result c.args.index c.self.invariant.sound (there c) (into c) (λ e. c.requires.other (sym c.number.ensures ∙ (e ∙ c.number-2.ensures))) (empty c));
    }

pub returns-clause-body : goal.returns-clause-body
returns-clause-body c =
    ap (with_blocks (function_of c.self.inside)) (cut_in c)
    ∙ (ap (λ z. with_blocks z.function (at_block c.number-2.result (with_lines (drop c.args.index (lines_of c.number.result z.function.blocks))) (at_block c.number.result (with_lines (take c.args.index (lines_of c.number.result z.function.blocks))) z.function.blocks))) c.self.view_is
    ∙ (ap (λ n. with_blocks c.args.self.now.function (at_block c.number-2.result (with_lines (drop c.args.index (lines_of n c.args.self.now.function.blocks))) (at_block n (with_lines (take c.args.index (lines_of n c.args.self.now.function.blocks))) c.args.self.now.function.blocks))) c.number.ensures
    ∙ ap (λ n. with_blocks c.args.self.now.function (at_block n (with_lines (drop c.args.index (lines_of c.args.block c.args.self.now.function.blocks))) (at_block c.args.block (with_lines (take c.args.index (lines_of c.args.block c.args.self.now.function.blocks))) c.args.self.now.function.blocks))) c.number-2.ensures))

use Rattle.std.proofs.Common.{arith, ◌+◌, ◌-◌, length, refl, sym, ap, ◌∙◌}
use Rattle.std.proofs.lemmas.Option.{slice_get_read}
use Rattle.ir_core.specs.Edits.{lines_of}
use Rattle.ir_core.proofs.Changing.{found, below, named, inside_arena, lines_seen, some_len, less_laid, less_blocks}
use Rattle.ir_core.proofs.Putting.{taken_sound, taken_defined, taken_function}
use Rattle.ir_core.proofs.func.Func.take_last.Goals as goal

pub index_mut-entry-requires : goal.index_mut-entry-requires
index_mut-entry-requires c = omega (arith, below c.self.inside c.args.self.now c.number.result c.self.invariant c.self.view_is (named c.args.self.now c.number.result c.args.block c.number.ensures c.requires.there), c.self.inside.blocks.ok.0)

pub overflow_sub-entry : goal.overflow_sub-entry
overflow_sub-entry c = omega (arith, (some_len c.self.inside.insts.items c.index_mut-entry.result.now (λ e. c.requires.some (ap (λ z. lines_of z c.args.self.now.function.blocks) (sym c.number.ensures) ∙ (lines_seen c.self.inside c.args.self.now c.number.result c.index_mut-entry.result.now c.self.invariant c.self.view_is (named c.args.self.now c.number.result c.args.block c.number.ensures c.requires.there) (found c.self.inside c.args.self.now c.number.result c.index_mut-entry.result.now c.self.invariant c.self.view_is (named c.args.self.now c.number.result c.args.block c.number.ensures c.requires.there) c.index_mut-entry.ensures.value) ∙ e)))))

pub overflow_add-last : goal.overflow_add-last
overflow_add-last c = omega (arith, (some_len c.self.inside.insts.items c.index_mut-entry.result.now (λ e. c.requires.some (ap (λ z. lines_of z c.args.self.now.function.blocks) (sym c.number.ensures) ∙ (lines_seen c.self.inside c.args.self.now c.number.result c.index_mut-entry.result.now c.self.invariant c.self.view_is (named c.args.self.now c.number.result c.args.block c.number.ensures c.requires.there) (found c.self.inside c.args.self.now c.number.result c.index_mut-entry.result.now c.self.invariant c.self.view_is (named c.args.self.now c.number.result c.args.block c.number.ensures c.requires.there) c.index_mut-entry.ensures.value) ∙ e)))), (inside_arena c.self.inside c.args.self.now c.number.result c.index_mut-entry.result.now c.self.invariant c.self.view_is (named c.args.self.now c.number.result c.args.block c.number.ensures c.requires.there) c.index_mut-entry.ensures.value), c.self.inside.insts.ok.0, c.self.inside.insts.ok.1)

pub index_mut-requires : goal.index_mut-requires
index_mut-requires c = omega (arith, (some_len c.self.inside.insts.items c.index_mut-entry.result.now (λ e. c.requires.some (ap (λ z. lines_of z c.args.self.now.function.blocks) (sym c.number.ensures) ∙ (lines_seen c.self.inside c.args.self.now c.number.result c.index_mut-entry.result.now c.self.invariant c.self.view_is (named c.args.self.now c.number.result c.args.block c.number.ensures c.requires.there) (found c.self.inside c.args.self.now c.number.result c.index_mut-entry.result.now c.self.invariant c.self.view_is (named c.args.self.now c.number.result c.args.block c.number.ensures c.requires.there) c.index_mut-entry.ensures.value) ∙ e)))), (inside_arena c.self.inside c.args.self.now c.number.result c.index_mut-entry.result.now c.self.invariant c.self.view_is (named c.args.self.now c.number.result c.args.block c.number.ensures c.requires.there) c.index_mut-entry.ensures.value), c.self.inside.insts.ok.0, c.self.inside.insts.ok.1)

pub overflow_sub-self : goal.overflow_sub-self
overflow_sub-self c = omega (arith, ap length (c.as_slice.ensures ∙ ap (λ z. z.results) c.replace-taken.ensures.value), taken_defined c.self.inside c.args.self.now c.self.invariant c.self.view_is c.number.result c.index_mut.result.now (named c.args.self.now c.number.result c.args.block c.number.ensures c.requires.there) _ (less_blocks c.self.inside.insts.items c.self.inside.blocks.items c.self.inside.first c.self.inside.last c.number.result c.index_mut-entry.result.now c.index_mut.result.now c.self.invariant.laid (found c.self.inside c.args.self.now c.number.result c.index_mut-entry.result.now c.self.invariant c.self.view_is (named c.args.self.now c.number.result c.args.block c.number.ensures c.requires.there) c.index_mut-entry.ensures.value) c.replace-taken.new.dest (some_len c.self.inside.insts.items c.index_mut-entry.result.now (λ e. c.requires.some (ap (λ z. lines_of z c.args.self.now.function.blocks) (sym c.number.ensures) ∙ (lines_seen c.self.inside c.args.self.now c.number.result c.index_mut-entry.result.now c.self.invariant c.self.view_is (named c.args.self.now c.number.result c.args.block c.number.ensures c.requires.there) (found c.self.inside c.args.self.now c.number.result c.index_mut-entry.result.now c.self.invariant c.self.view_is (named c.args.self.now c.number.result c.args.block c.number.ensures c.requires.there) c.index_mut-entry.ensures.value) ∙ e)))) (slice_get_read c.self.inside.insts.items (length c.self.inside.insts.items) (c.index_mut-entry.result.now.start + (c.index_mut-entry.result.now.len - 1)) c.index_mut.result.now refl (omega (arith, (some_len c.self.inside.insts.items c.index_mut-entry.result.now (λ e. c.requires.some (ap (λ z. lines_of z c.args.self.now.function.blocks) (sym c.number.ensures) ∙ (lines_seen c.self.inside c.args.self.now c.number.result c.index_mut-entry.result.now c.self.invariant c.self.view_is (named c.args.self.now c.number.result c.args.block c.number.ensures c.requires.there) (found c.self.inside c.args.self.now c.number.result c.index_mut-entry.result.now c.self.invariant c.self.view_is (named c.args.self.now c.number.result c.args.block c.number.ensures c.requires.there) c.index_mut-entry.ensures.value) ∙ e)))), (inside_arena c.self.inside c.args.self.now c.number.result c.index_mut-entry.result.now c.self.invariant c.self.view_is (named c.args.self.now c.number.result c.args.block c.number.ensures c.requires.there) c.index_mut-entry.ensures.value))) c.index_mut.ensures.value)))

pub invariant_of-self : goal.invariant_of-self
invariant_of-self c =
    record {
      laid = less_laid c.self.inside.insts.items c.self.inside.blocks.items c.self.inside.first c.self.inside.last c.number.result c.index_mut-entry.result.now c.index_mut.result.now c.self.invariant.laid (found c.self.inside c.args.self.now c.number.result c.index_mut-entry.result.now c.self.invariant c.self.view_is (named c.args.self.now c.number.result c.args.block c.number.ensures c.requires.there) c.index_mut-entry.ensures.value) c.replace-taken.new.dest (some_len c.self.inside.insts.items c.index_mut-entry.result.now (λ e. c.requires.some (ap (λ z. lines_of z c.args.self.now.function.blocks) (sym c.number.ensures) ∙ (lines_seen c.self.inside c.args.self.now c.number.result c.index_mut-entry.result.now c.self.invariant c.self.view_is (named c.args.self.now c.number.result c.args.block c.number.ensures c.requires.there) (found c.self.inside c.args.self.now c.number.result c.index_mut-entry.result.now c.self.invariant c.self.view_is (named c.args.self.now c.number.result c.args.block c.number.ensures c.requires.there) c.index_mut-entry.ensures.value) ∙ e)))) (slice_get_read c.self.inside.insts.items (length c.self.inside.insts.items) (c.index_mut-entry.result.now.start + (c.index_mut-entry.result.now.len - 1)) c.index_mut.result.now refl (omega (arith, (some_len c.self.inside.insts.items c.index_mut-entry.result.now (λ e. c.requires.some (ap (λ z. lines_of z c.args.self.now.function.blocks) (sym c.number.ensures) ∙ (lines_seen c.self.inside c.args.self.now c.number.result c.index_mut-entry.result.now c.self.invariant c.self.view_is (named c.args.self.now c.number.result c.args.block c.number.ensures c.requires.there) (found c.self.inside c.args.self.now c.number.result c.index_mut-entry.result.now c.self.invariant c.self.view_is (named c.args.self.now c.number.result c.args.block c.number.ensures c.requires.there) c.index_mut-entry.ensures.value) ∙ e)))), (inside_arena c.self.inside c.args.self.now c.number.result c.index_mut-entry.result.now c.self.invariant c.self.view_is (named c.args.self.now c.number.result c.args.block c.number.ensures c.requires.there) c.index_mut-entry.ensures.value))) c.index_mut.ensures.value);
      defined = omega (arith, ap length (c.as_slice.ensures ∙ ap (λ z. z.results) c.replace-taken.ensures.value), taken_defined c.self.inside c.args.self.now c.self.invariant c.self.view_is c.number.result c.index_mut.result.now (named c.args.self.now c.number.result c.args.block c.number.ensures c.requires.there) _ (less_blocks c.self.inside.insts.items c.self.inside.blocks.items c.self.inside.first c.self.inside.last c.number.result c.index_mut-entry.result.now c.index_mut.result.now c.self.invariant.laid (found c.self.inside c.args.self.now c.number.result c.index_mut-entry.result.now c.self.invariant c.self.view_is (named c.args.self.now c.number.result c.args.block c.number.ensures c.requires.there) c.index_mut-entry.ensures.value) c.replace-taken.new.dest (some_len c.self.inside.insts.items c.index_mut-entry.result.now (λ e. c.requires.some (ap (λ z. lines_of z c.args.self.now.function.blocks) (sym c.number.ensures) ∙ (lines_seen c.self.inside c.args.self.now c.number.result c.index_mut-entry.result.now c.self.invariant c.self.view_is (named c.args.self.now c.number.result c.args.block c.number.ensures c.requires.there) (found c.self.inside c.args.self.now c.number.result c.index_mut-entry.result.now c.self.invariant c.self.view_is (named c.args.self.now c.number.result c.args.block c.number.ensures c.requires.there) c.index_mut-entry.ensures.value) ∙ e)))) (slice_get_read c.self.inside.insts.items (length c.self.inside.insts.items) (c.index_mut-entry.result.now.start + (c.index_mut-entry.result.now.len - 1)) c.index_mut.result.now refl (omega (arith, (some_len c.self.inside.insts.items c.index_mut-entry.result.now (λ e. c.requires.some (ap (λ z. lines_of z c.args.self.now.function.blocks) (sym c.number.ensures) ∙ (lines_seen c.self.inside c.args.self.now c.number.result c.index_mut-entry.result.now c.self.invariant c.self.view_is (named c.args.self.now c.number.result c.args.block c.number.ensures c.requires.there) (found c.self.inside c.args.self.now c.number.result c.index_mut-entry.result.now c.self.invariant c.self.view_is (named c.args.self.now c.number.result c.args.block c.number.ensures c.requires.there) c.index_mut-entry.ensures.value) ∙ e)))), (inside_arena c.self.inside c.args.self.now c.number.result c.index_mut-entry.result.now c.self.invariant c.self.view_is (named c.args.self.now c.number.result c.args.block c.number.ensures c.requires.there) c.index_mut-entry.ensures.value))) c.index_mut.ensures.value)));
      sound = taken_sound c.self.inside c.args.self.now c.self.invariant c.self.view_is c.number.result c.index_mut.result.now (named c.args.self.now c.number.result c.args.block c.number.ensures c.requires.there) _ (less_blocks c.self.inside.insts.items c.self.inside.blocks.items c.self.inside.first c.self.inside.last c.number.result c.index_mut-entry.result.now c.index_mut.result.now c.self.invariant.laid (found c.self.inside c.args.self.now c.number.result c.index_mut-entry.result.now c.self.invariant c.self.view_is (named c.args.self.now c.number.result c.args.block c.number.ensures c.requires.there) c.index_mut-entry.ensures.value) c.replace-taken.new.dest (some_len c.self.inside.insts.items c.index_mut-entry.result.now (λ e. c.requires.some (ap (λ z. lines_of z c.args.self.now.function.blocks) (sym c.number.ensures) ∙ (lines_seen c.self.inside c.args.self.now c.number.result c.index_mut-entry.result.now c.self.invariant c.self.view_is (named c.args.self.now c.number.result c.args.block c.number.ensures c.requires.there) (found c.self.inside c.args.self.now c.number.result c.index_mut-entry.result.now c.self.invariant c.self.view_is (named c.args.self.now c.number.result c.args.block c.number.ensures c.requires.there) c.index_mut-entry.ensures.value) ∙ e)))) (slice_get_read c.self.inside.insts.items (length c.self.inside.insts.items) (c.index_mut-entry.result.now.start + (c.index_mut-entry.result.now.len - 1)) c.index_mut.result.now refl (omega (arith, (some_len c.self.inside.insts.items c.index_mut-entry.result.now (λ e. c.requires.some (ap (λ z. lines_of z c.args.self.now.function.blocks) (sym c.number.ensures) ∙ (lines_seen c.self.inside c.args.self.now c.number.result c.index_mut-entry.result.now c.self.invariant c.self.view_is (named c.args.self.now c.number.result c.args.block c.number.ensures c.requires.there) (found c.self.inside c.args.self.now c.number.result c.index_mut-entry.result.now c.self.invariant c.self.view_is (named c.args.self.now c.number.result c.args.block c.number.ensures c.requires.there) c.index_mut-entry.ensures.value) ∙ e)))), (inside_arena c.self.inside c.args.self.now c.number.result c.index_mut-entry.result.now c.self.invariant c.self.view_is (named c.args.self.now c.number.result c.args.block c.number.ensures c.requires.there) c.index_mut-entry.ensures.value))) c.index_mut.ensures.value));
    }

pub returns-clause-body : goal.returns-clause-body
returns-clause-body c = taken_function c.self.inside c.args.self.now c.self.invariant c.self.view_is c.number.result c.index_mut.result.now (named c.args.self.now c.number.result c.args.block c.number.ensures c.requires.there) _ (less_blocks c.self.inside.insts.items c.self.inside.blocks.items c.self.inside.first c.self.inside.last c.number.result c.index_mut-entry.result.now c.index_mut.result.now c.self.invariant.laid (found c.self.inside c.args.self.now c.number.result c.index_mut-entry.result.now c.self.invariant c.self.view_is (named c.args.self.now c.number.result c.args.block c.number.ensures c.requires.there) c.index_mut-entry.ensures.value) c.replace-taken.new.dest (some_len c.self.inside.insts.items c.index_mut-entry.result.now (λ e. c.requires.some (ap (λ z. lines_of z c.args.self.now.function.blocks) (sym c.number.ensures) ∙ (lines_seen c.self.inside c.args.self.now c.number.result c.index_mut-entry.result.now c.self.invariant c.self.view_is (named c.args.self.now c.number.result c.args.block c.number.ensures c.requires.there) (found c.self.inside c.args.self.now c.number.result c.index_mut-entry.result.now c.self.invariant c.self.view_is (named c.args.self.now c.number.result c.args.block c.number.ensures c.requires.there) c.index_mut-entry.ensures.value) ∙ e)))) (slice_get_read c.self.inside.insts.items (length c.self.inside.insts.items) (c.index_mut-entry.result.now.start + (c.index_mut-entry.result.now.len - 1)) c.index_mut.result.now refl (omega (arith, (some_len c.self.inside.insts.items c.index_mut-entry.result.now (λ e. c.requires.some (ap (λ z. lines_of z c.args.self.now.function.blocks) (sym c.number.ensures) ∙ (lines_seen c.self.inside c.args.self.now c.number.result c.index_mut-entry.result.now c.self.invariant c.self.view_is (named c.args.self.now c.number.result c.args.block c.number.ensures c.requires.there) (found c.self.inside c.args.self.now c.number.result c.index_mut-entry.result.now c.self.invariant c.self.view_is (named c.args.self.now c.number.result c.args.block c.number.ensures c.requires.there) c.index_mut-entry.ensures.value) ∙ e)))), (inside_arena c.self.inside c.args.self.now c.number.result c.index_mut-entry.result.now c.self.invariant c.self.view_is (named c.args.self.now c.number.result c.args.block c.number.ensures c.requires.there) c.index_mut-entry.ensures.value))) c.index_mut.ensures.value)) c.args.block c.replace-taken.result c.number.ensures (sym c.replace-taken.ensures.value)

use Rattle.std.proofs.Common.{arith, ◌≡◌, ◌+◌, length, map, get_or, refl, sym, ap, ap₂, subst, ◌∙◌}
use Rattle.std.specs.Prelude.{insert}
use Rattle.std.specs.Vec.{with_item, with_items}
use Rattle.std.proofs.Math.ListN.{set}
use Rattle.std.proofs.lemmas.List.{with_items_is}
use Rattle.ir_core.specs.Shift.{shifted}
use Rattle.ir_core.specs.Layout.{Laid, blocks_in}
use Rattle.ir_core.proofs.Laying.{length_set}
use Rattle.ir_core.proofs.Changing.{found, below, named, inside_arena, gap_laid, gap_blocks, first_laid, first_blocks, end_laid, end_blocks}
use Rattle.ir_core.proofs.Shifting.{moved_laid, moved_blocks, length_shifted, starts_within}
use Rattle.ir_core.proofs.Putting.{put_fits, put_sound, put_defined, put_function}
use Rattle.ir_core.proofs.func.Func.put_inst.Goals as goal

pub overflow_add-self : goal.overflow_add-self
overflow_add-self c = omega (arith, (ap length c.as_slice.ensures), put_fits c.self.inside c.args.self.now c.self.invariant c.self.view_is c.args.block c.args.added c.requires.there c.requires.in_range c.requires.different c.requires.undefined c.requires.few)

pub index_mut-entry-requires : goal.index_mut-entry-requires
index_mut-entry-requires c = omega (arith, below c.self.inside c.args.self.now c.number.result c.self.invariant c.self.view_is (named c.args.self.now c.number.result c.args.block c.number.ensures c.requires.there), c.self.inside.blocks.ok.0)

pub overflow_add-end : goal.overflow_add-end
overflow_add-end c = omega (arith, (inside_arena c.self.inside c.args.self.now c.number.result c.index_mut-entry.result.now c.self.invariant c.self.view_is (named c.args.self.now c.number.result c.args.block c.number.ensures c.requires.there) c.index_mut-entry.ensures.value), c.self.inside.insts.ok.0, c.self.inside.insts.ok.1)

pub overflow_add-entry : goal.overflow_add-entry
overflow_add-entry c = omega (arith, (c.self.invariant.laid.within c.number.result c.index_mut-entry.result.now (found c.self.inside c.args.self.now c.number.result c.index_mut-entry.result.now c.self.invariant c.self.view_is (named c.args.self.now c.number.result c.args.block c.number.ensures c.requires.there) c.index_mut-entry.ensures.value)), c.if-entry.true, c.self.inside.insts.ok.0, c.self.inside.insts.ok.1)

pub index_mut-requires : goal.index_mut-requires
index_mut-requires c = omega (arith, (c.self.invariant.laid.within c.number.result c.index_mut-entry.result.now (found c.self.inside c.args.self.now c.number.result c.index_mut-entry.result.now c.self.invariant c.self.view_is (named c.args.self.now c.number.result c.args.block c.number.ensures c.requires.there) c.index_mut-entry.ensures.value)), c.if-entry.true, c.self.inside.insts.ok.0, c.self.inside.insts.ok.1)

pub invariant_of-self : goal.invariant_of-self
invariant_of-self c =
    let put = ap (λ z. blocks_in (set c.self.inside.insts.items (c.index_mut-entry.result.now.start + c.index_mut-entry.result.now.len) z) (set c.self.inside.blocks.items c.number.result (record c.index_mut-entry.result.now { len = c.index_mut-entry.result.now.len + 1 })) c.self.inside.first) c.overwrite.ensures ∙ gap_blocks c.self.inside.insts.items c.self.inside.blocks.items c.self.inside.first c.self.inside.last c.number.result c.index_mut-entry.result.now c.args.added c.self.invariant.laid (found c.self.inside c.args.self.now c.number.result c.index_mut-entry.result.now c.self.invariant c.self.view_is (named c.args.self.now c.number.result c.args.block c.number.ensures c.requires.there) c.index_mut-entry.ensures.value) c.if-entry.true in
    record {
      laid = subst (λ z. Laid (set c.self.inside.insts.items (c.index_mut-entry.result.now.start + c.index_mut-entry.result.now.len) z) (set c.self.inside.blocks.items c.number.result (record c.index_mut-entry.result.now { len = c.index_mut-entry.result.now.len + 1 })) c.self.inside.first c.self.inside.last) (sym c.overwrite.ensures) (gap_laid c.self.inside.insts.items c.self.inside.blocks.items c.self.inside.first c.self.inside.last c.number.result c.index_mut-entry.result.now c.args.added c.self.invariant.laid (found c.self.inside c.args.self.now c.number.result c.index_mut-entry.result.now c.self.invariant c.self.view_is (named c.args.self.now c.number.result c.args.block c.number.ensures c.requires.there) c.index_mut-entry.ensures.value) c.if-entry.true);
      defined = ap (λ z. c.self.inside.defined + z) (ap length c.as_slice.ensures) ∙ put_defined c.self.inside c.args.self.now c.self.invariant c.self.view_is c.number.result c.args.added (named c.args.self.now c.number.result c.args.block c.number.ensures c.requires.there) c.requires.in_range c.requires.different c.requires.undefined c.requires.few _ put;
      sound = put_sound c.self.inside c.args.self.now c.self.invariant c.self.view_is c.number.result c.args.added (named c.args.self.now c.number.result c.args.block c.number.ensures c.requires.there) c.requires.in_range c.requires.different c.requires.undefined c.requires.few _ put;
    }

pub returns-then-entry-clause-body : goal.returns-then-entry-clause-body
returns-then-entry-clause-body c = put_function c.self.inside c.args.self.now c.self.invariant c.self.view_is c.number.result c.args.added (named c.args.self.now c.number.result c.args.block c.number.ensures c.requires.there) c.requires.in_range c.requires.different c.requires.undefined c.requires.few _ (ap (λ z. blocks_in (set c.self.inside.insts.items (c.index_mut-entry.result.now.start + c.index_mut-entry.result.now.len) z) (set c.self.inside.blocks.items c.number.result (record c.index_mut-entry.result.now { len = c.index_mut-entry.result.now.len + 1 })) c.self.inside.first) c.overwrite.ensures ∙ gap_blocks c.self.inside.insts.items c.self.inside.blocks.items c.self.inside.first c.self.inside.last c.number.result c.index_mut-entry.result.now c.args.added c.self.invariant.laid (found c.self.inside c.args.self.now c.number.result c.index_mut-entry.result.now c.self.invariant c.self.view_is (named c.args.self.now c.number.result c.args.block c.number.ensures c.requires.there) c.index_mut-entry.ensures.value) c.if-entry.true) c.args.block c.number.ensures

pub overflow_add-entry-2 : goal.overflow_add-entry-2
overflow_add-entry-2 c = omega (arith, (c.self.invariant.laid.within c.number.result c.index_mut-entry.result.now (found c.self.inside c.args.self.now c.number.result c.index_mut-entry.result.now c.self.invariant c.self.view_is (named c.args.self.now c.number.result c.args.block c.number.ensures c.requires.there) c.index_mut-entry.ensures.value)), (c.self.invariant.laid.short c.number.result c.index_mut-entry.result.now (found c.self.inside c.args.self.now c.number.result c.index_mut-entry.result.now c.self.invariant c.self.view_is (named c.args.self.now c.number.result c.args.block c.number.ensures c.requires.there) c.index_mut-entry.ensures.value)), c.self.inside.insts.ok.0, c.self.inside.insts.ok.1, c.requires.room, ap (λ z. z.room.insts) c.self.view_is)

pub overflow_add-entry-3 : goal.overflow_add-entry-3
overflow_add-entry-3 c = omega (arith, (c.self.invariant.laid.within c.number.result c.index_mut-entry.result.now (found c.self.inside c.args.self.now c.number.result c.index_mut-entry.result.now c.self.invariant c.self.view_is (named c.args.self.now c.number.result c.args.block c.number.ensures c.requires.there) c.index_mut-entry.ensures.value)), (c.self.invariant.laid.short c.number.result c.index_mut-entry.result.now (found c.self.inside c.args.self.now c.number.result c.index_mut-entry.result.now c.self.invariant c.self.view_is (named c.args.self.now c.number.result c.args.block c.number.ensures c.requires.there) c.index_mut-entry.ensures.value)), c.self.inside.insts.ok.0, c.self.inside.insts.ok.1, c.requires.room, ap (λ z. z.room.insts) c.self.view_is)

pub invariant_of-self-then-entry-eq1 : goal.invariant_of-self-then-entry-eq1
invariant_of-self-then-entry-eq1 c =
    let put = ap (λ z. blocks_in z (set c.self.inside.blocks.items c.number.result (record c.index_mut-entry.result.now { start = c.len-entry.result; len = c.index_mut-entry.result.now.len + 1; cap = c.index_mut-entry.result.now.cap + 1 })) c.self.inside.first) c.push_reserved.ensures.items ∙ first_blocks c.self.inside.insts.items c.self.inside.blocks.items c.self.inside.first c.self.inside.last c.number.result c.index_mut-entry.result.now c.args.added c.self.invariant.laid (found c.self.inside c.args.self.now c.number.result c.index_mut-entry.result.now c.self.invariant c.self.view_is (named c.args.self.now c.number.result c.args.block c.number.ensures c.requires.there) c.index_mut-entry.ensures.value) (omega (arith, c.if-entry-eq1.true)) (record c.index_mut-entry.result.now { start = c.len-entry.result; len = c.index_mut-entry.result.now.len + 1; cap = c.index_mut-entry.result.now.cap + 1 }) refl refl (c.len-entry.ensures ∙ c.self.inside.insts.ok.0) (omega (arith, c.if-entry-eq1.true, (c.self.invariant.laid.short c.number.result c.index_mut-entry.result.now (found c.self.inside c.args.self.now c.number.result c.index_mut-entry.result.now c.self.invariant c.self.view_is (named c.args.self.now c.number.result c.args.block c.number.ensures c.requires.there) c.index_mut-entry.ensures.value)))) (omega (arith, c.if-entry-eq1.true)) in
    record {
      laid = subst (λ z. Laid z (set c.self.inside.blocks.items c.number.result (record c.index_mut-entry.result.now { start = c.len-entry.result; len = c.index_mut-entry.result.now.len + 1; cap = c.index_mut-entry.result.now.cap + 1 })) c.self.inside.first c.self.inside.last) (sym c.push_reserved.ensures.items) (first_laid c.self.inside.insts.items c.self.inside.blocks.items c.self.inside.first c.self.inside.last c.number.result c.index_mut-entry.result.now c.args.added c.self.invariant.laid (found c.self.inside c.args.self.now c.number.result c.index_mut-entry.result.now c.self.invariant c.self.view_is (named c.args.self.now c.number.result c.args.block c.number.ensures c.requires.there) c.index_mut-entry.ensures.value) (omega (arith, c.if-entry-eq1.true)) (record c.index_mut-entry.result.now { start = c.len-entry.result; len = c.index_mut-entry.result.now.len + 1; cap = c.index_mut-entry.result.now.cap + 1 }) refl refl (c.len-entry.ensures ∙ c.self.inside.insts.ok.0) (omega (arith, c.if-entry-eq1.true, (c.self.invariant.laid.short c.number.result c.index_mut-entry.result.now (found c.self.inside c.args.self.now c.number.result c.index_mut-entry.result.now c.self.invariant c.self.view_is (named c.args.self.now c.number.result c.args.block c.number.ensures c.requires.there) c.index_mut-entry.ensures.value)))) (omega (arith, c.if-entry-eq1.true)));
      defined = ap (λ z. c.self.inside.defined + z) (ap length c.as_slice.ensures) ∙ put_defined c.self.inside c.args.self.now c.self.invariant c.self.view_is c.number.result c.args.added (named c.args.self.now c.number.result c.args.block c.number.ensures c.requires.there) c.requires.in_range c.requires.different c.requires.undefined c.requires.few _ put;
      sound = put_sound c.self.inside c.args.self.now c.self.invariant c.self.view_is c.number.result c.args.added (named c.args.self.now c.number.result c.args.block c.number.ensures c.requires.there) c.requires.in_range c.requires.different c.requires.undefined c.requires.few _ put;
    }

pub returns-then-entry-eq1-clause-body : goal.returns-then-entry-eq1-clause-body
returns-then-entry-eq1-clause-body c =
    put_function c.self.inside c.args.self.now c.self.invariant c.self.view_is c.number.result c.args.added (named c.args.self.now c.number.result c.args.block c.number.ensures c.requires.there) c.requires.in_range c.requires.different c.requires.undefined c.requires.few _
    (ap (λ z. blocks_in z (set c.self.inside.blocks.items c.number.result (record c.index_mut-entry.result.now { start = c.len-entry.result; len = c.index_mut-entry.result.now.len + 1; cap = c.index_mut-entry.result.now.cap + 1 })) c.self.inside.first) c.push_reserved.ensures.items ∙ first_blocks c.self.inside.insts.items c.self.inside.blocks.items c.self.inside.first c.self.inside.last c.number.result c.index_mut-entry.result.now c.args.added c.self.invariant.laid (found c.self.inside c.args.self.now c.number.result c.index_mut-entry.result.now c.self.invariant c.self.view_is (named c.args.self.now c.number.result c.args.block c.number.ensures c.requires.there) c.index_mut-entry.ensures.value) (omega (arith, c.if-entry-eq1.true)) (record c.index_mut-entry.result.now { start = c.len-entry.result; len = c.index_mut-entry.result.now.len + 1; cap = c.index_mut-entry.result.now.cap + 1 }) refl refl (c.len-entry.ensures ∙ c.self.inside.insts.ok.0) (omega (arith, c.if-entry-eq1.true, (c.self.invariant.laid.short c.number.result c.index_mut-entry.result.now (found c.self.inside c.args.self.now c.number.result c.index_mut-entry.result.now c.self.invariant c.self.view_is (named c.args.self.now c.number.result c.args.block c.number.ensures c.requires.there) c.index_mut-entry.ensures.value)))) (omega (arith, c.if-entry-eq1.true)))
    c.args.block c.number.ensures

pub invariant_of-self-then-end-len : goal.invariant_of-self-then-end-len
invariant_of-self-then-end-len c =
    let put = ap (λ z. blocks_in z (set c.self.inside.blocks.items c.number.result (record c.index_mut-entry.result.now { len = c.index_mut-entry.result.now.len + 1; cap = c.index_mut-entry.result.now.cap + 1 })) c.self.inside.first) c.push_reserved-then-end-len.ensures.items ∙ end_blocks c.self.inside.insts.items c.self.inside.blocks.items c.self.inside.first c.self.inside.last c.number.result c.index_mut-entry.result.now c.args.added c.self.invariant.laid (found c.self.inside c.args.self.now c.number.result c.index_mut-entry.result.now c.self.invariant c.self.view_is (named c.args.self.now c.number.result c.args.block c.number.ensures c.requires.there) c.index_mut-entry.ensures.value) (omega (arith, c.if-entry.false, (c.self.invariant.laid.short c.number.result c.index_mut-entry.result.now (found c.self.inside c.args.self.now c.number.result c.index_mut-entry.result.now c.self.invariant c.self.view_is (named c.args.self.now c.number.result c.args.block c.number.ensures c.requires.there) c.index_mut-entry.ensures.value)))) (omega (arith, c.if-end-len.true, c.if-entry.false, (c.self.invariant.laid.short c.number.result c.index_mut-entry.result.now (found c.self.inside c.args.self.now c.number.result c.index_mut-entry.result.now c.self.invariant c.self.view_is (named c.args.self.now c.number.result c.args.block c.number.ensures c.requires.there) c.index_mut-entry.ensures.value)), c.len.ensures, c.self.inside.insts.ok.0, c.self.inside.insts.ok.1)) in
    record {
      laid = subst (λ z. Laid z (set c.self.inside.blocks.items c.number.result (record c.index_mut-entry.result.now { len = c.index_mut-entry.result.now.len + 1; cap = c.index_mut-entry.result.now.cap + 1 })) c.self.inside.first c.self.inside.last) (sym c.push_reserved-then-end-len.ensures.items) (end_laid c.self.inside.insts.items c.self.inside.blocks.items c.self.inside.first c.self.inside.last c.number.result c.index_mut-entry.result.now c.args.added c.self.invariant.laid (found c.self.inside c.args.self.now c.number.result c.index_mut-entry.result.now c.self.invariant c.self.view_is (named c.args.self.now c.number.result c.args.block c.number.ensures c.requires.there) c.index_mut-entry.ensures.value) (omega (arith, c.if-entry.false, (c.self.invariant.laid.short c.number.result c.index_mut-entry.result.now (found c.self.inside c.args.self.now c.number.result c.index_mut-entry.result.now c.self.invariant c.self.view_is (named c.args.self.now c.number.result c.args.block c.number.ensures c.requires.there) c.index_mut-entry.ensures.value)))) (omega (arith, c.if-end-len.true, c.if-entry.false, (c.self.invariant.laid.short c.number.result c.index_mut-entry.result.now (found c.self.inside c.args.self.now c.number.result c.index_mut-entry.result.now c.self.invariant c.self.view_is (named c.args.self.now c.number.result c.args.block c.number.ensures c.requires.there) c.index_mut-entry.ensures.value)), c.len.ensures, c.self.inside.insts.ok.0, c.self.inside.insts.ok.1)));
      defined = ap (λ z. c.self.inside.defined + z) (ap length c.as_slice.ensures) ∙ put_defined c.self.inside c.args.self.now c.self.invariant c.self.view_is c.number.result c.args.added (named c.args.self.now c.number.result c.args.block c.number.ensures c.requires.there) c.requires.in_range c.requires.different c.requires.undefined c.requires.few _ put;
      sound = put_sound c.self.inside c.args.self.now c.self.invariant c.self.view_is c.number.result c.args.added (named c.args.self.now c.number.result c.args.block c.number.ensures c.requires.there) c.requires.in_range c.requires.different c.requires.undefined c.requires.few _ put;
    }

pub returns-then-end-len-clause-body : goal.returns-then-end-len-clause-body
returns-then-end-len-clause-body c =
    put_function c.self.inside c.args.self.now c.self.invariant c.self.view_is c.number.result c.args.added (named c.args.self.now c.number.result c.args.block c.number.ensures c.requires.there) c.requires.in_range c.requires.different c.requires.undefined c.requires.few _
    (ap (λ z. blocks_in z (set c.self.inside.blocks.items c.number.result (record c.index_mut-entry.result.now { len = c.index_mut-entry.result.now.len + 1; cap = c.index_mut-entry.result.now.cap + 1 })) c.self.inside.first) c.push_reserved-then-end-len.ensures.items ∙ end_blocks c.self.inside.insts.items c.self.inside.blocks.items c.self.inside.first c.self.inside.last c.number.result c.index_mut-entry.result.now c.args.added c.self.invariant.laid (found c.self.inside c.args.self.now c.number.result c.index_mut-entry.result.now c.self.invariant c.self.view_is (named c.args.self.now c.number.result c.args.block c.number.ensures c.requires.there) c.index_mut-entry.ensures.value) (omega (arith, c.if-entry.false, (c.self.invariant.laid.short c.number.result c.index_mut-entry.result.now (found c.self.inside c.args.self.now c.number.result c.index_mut-entry.result.now c.self.invariant c.self.view_is (named c.args.self.now c.number.result c.args.block c.number.ensures c.requires.there) c.index_mut-entry.ensures.value)))) (omega (arith, c.if-end-len.true, c.if-entry.false, (c.self.invariant.laid.short c.number.result c.index_mut-entry.result.now (found c.self.inside c.args.self.now c.number.result c.index_mut-entry.result.now c.self.invariant c.self.view_is (named c.args.self.now c.number.result c.args.block c.number.ensures c.requires.there) c.index_mut-entry.ensures.value)), c.len.ensures, c.self.inside.insts.ok.0, c.self.inside.insts.ok.1)))
    c.args.block c.number.ensures

pub move_starts-requires : goal.move_starts-requires
move_starts-requires c k d h =
    let long : length c.as_mut_slice.result.now ≡ length c.self.inside.blocks.items = ap length c.as_mut_slice.ensures.value ∙ length_set c.self.inside.blocks.items c.number.result (record c.index_mut-entry.result.now { len = c.index_mut-entry.result.now.len + 1; cap = c.index_mut-entry.result.now.cap + 1 }) in
    omega (arith, ap (λ z. (get_or z k d).start) c.as_mut_slice.ensures.value, starts_within c.self.inside.insts.items c.self.inside.blocks.items c.self.inside.first c.self.inside.last c.number.result c.index_mut-entry.result.now (record c.index_mut-entry.result.now { len = c.index_mut-entry.result.now.len + 1; cap = c.index_mut-entry.result.now.cap + 1 }) c.self.invariant.laid (found c.self.inside c.args.self.now c.number.result c.index_mut-entry.result.now c.self.invariant c.self.view_is (named c.args.self.now c.number.result c.args.block c.number.ensures c.requires.there) c.index_mut-entry.ensures.value) refl k d (omega (arith, h, long)), c.self.inside.insts.ok.0, c.self.inside.insts.ok.1, c.requires.room, ap (λ z. z.room.insts) c.self.view_is)

pub put_between-requires : goal.put_between-requires
put_between-requires c =
    let there = named c.args.self.now c.number.result c.args.block c.number.ensures c.requires.there in
    record {
      room = omega (arith, c.self.inside.insts.ok.0, c.self.inside.insts.ok.1, c.requires.room, ap (λ z. z.room.insts) c.self.view_is);
      within = omega (arith, inside_arena c.self.inside c.args.self.now c.number.result c.index_mut-entry.result.now c.self.invariant c.self.view_is there c.index_mut-entry.ensures.value, c.self.inside.insts.ok.0, c.self.inside.insts.ok.1);
    }

moved : (c : goal.After-put_between) → (with_items (with_item c.self.inside.blocks c.number.result (record c.index_mut-entry.result.now { len = c.index_mut-entry.result.now.len + 1; cap = c.index_mut-entry.result.now.cap + 1 })) c.move_starts.new.blocks).items ≡ map (shifted (c.index_mut-entry.result.now.start + c.index_mut-entry.result.now.len)) (set c.self.inside.blocks.items c.number.result (record c.index_mut-entry.result.now { len = c.index_mut-entry.result.now.len + 1; cap = c.index_mut-entry.result.now.cap + 1 }))
moved c =
    let is : c.move_starts.new.blocks ≡ map (shifted (c.index_mut-entry.result.now.start + c.index_mut-entry.result.now.len)) (set c.self.inside.blocks.items c.number.result (record c.index_mut-entry.result.now { len = c.index_mut-entry.result.now.len + 1; cap = c.index_mut-entry.result.now.cap + 1 })) = c.move_starts.ensures ∙ ap (map (shifted (c.index_mut-entry.result.now.start + c.index_mut-entry.result.now.len))) c.as_mut_slice.ensures.value in
    with_items_is (with_item c.self.inside.blocks c.number.result (record c.index_mut-entry.result.now { len = c.index_mut-entry.result.now.len + 1; cap = c.index_mut-entry.result.now.cap + 1 })) c.move_starts.new.blocks (ap length is ∙ (length_shifted (c.index_mut-entry.result.now.start + c.index_mut-entry.result.now.len) (set c.self.inside.blocks.items c.number.result (record c.index_mut-entry.result.now { len = c.index_mut-entry.result.now.len + 1; cap = c.index_mut-entry.result.now.cap + 1 })) ∙ (length_set c.self.inside.blocks.items c.number.result (record c.index_mut-entry.result.now { len = c.index_mut-entry.result.now.len + 1; cap = c.index_mut-entry.result.now.cap + 1 }) ∙ sym c.self.inside.blocks.ok.0))) ∙ is

pub invariant_of-self-2 : goal.invariant_of-self-2
invariant_of-self-2 c =
    let put = ap₂ (λ xs ks. blocks_in xs ks c.self.inside.first) c.put_between.ensures.items (moved c) ∙ moved_blocks c.self.inside.insts.items c.self.inside.blocks.items c.self.inside.first c.self.inside.last c.number.result c.index_mut-entry.result.now c.args.added c.self.invariant.laid (found c.self.inside c.args.self.now c.number.result c.index_mut-entry.result.now c.self.invariant c.self.view_is (named c.args.self.now c.number.result c.args.block c.number.ensures c.requires.there) c.index_mut-entry.ensures.value) (omega (arith, c.if-entry.false, (c.self.invariant.laid.short c.number.result c.index_mut-entry.result.now (found c.self.inside c.args.self.now c.number.result c.index_mut-entry.result.now c.self.invariant c.self.view_is (named c.args.self.now c.number.result c.args.block c.number.ensures c.requires.there) c.index_mut-entry.ensures.value)))) (omega (arith, c.if-entry-eq1.false)) (c.index_mut-entry.result.now.start + c.index_mut-entry.result.now.len) refl in
    record {
      laid =
          subst (λ z. Laid z (with_items (with_item c.self.inside.blocks c.number.result (record c.index_mut-entry.result.now { len = c.index_mut-entry.result.now.len + 1; cap = c.index_mut-entry.result.now.cap + 1 })) c.move_starts.new.blocks).items c.self.inside.first c.self.inside.last) (sym c.put_between.ensures.items)
          (subst (λ z. Laid (insert c.self.inside.insts.items (c.index_mut-entry.result.now.start + c.index_mut-entry.result.now.len) c.args.added) z c.self.inside.first c.self.inside.last) (sym (moved c)) (moved_laid c.self.inside.insts.items c.self.inside.blocks.items c.self.inside.first c.self.inside.last c.number.result c.index_mut-entry.result.now c.args.added c.self.invariant.laid (found c.self.inside c.args.self.now c.number.result c.index_mut-entry.result.now c.self.invariant c.self.view_is (named c.args.self.now c.number.result c.args.block c.number.ensures c.requires.there) c.index_mut-entry.ensures.value) (omega (arith, c.if-entry.false, (c.self.invariant.laid.short c.number.result c.index_mut-entry.result.now (found c.self.inside c.args.self.now c.number.result c.index_mut-entry.result.now c.self.invariant c.self.view_is (named c.args.self.now c.number.result c.args.block c.number.ensures c.requires.there) c.index_mut-entry.ensures.value)))) (omega (arith, c.if-entry-eq1.false)) (c.index_mut-entry.result.now.start + c.index_mut-entry.result.now.len) refl));
      defined = ap (λ z. c.self.inside.defined + z) (ap length c.as_slice.ensures) ∙ put_defined c.self.inside c.args.self.now c.self.invariant c.self.view_is c.number.result c.args.added (named c.args.self.now c.number.result c.args.block c.number.ensures c.requires.there) c.requires.in_range c.requires.different c.requires.undefined c.requires.few _ put;
      sound = put_sound c.self.inside c.args.self.now c.self.invariant c.self.view_is c.number.result c.args.added (named c.args.self.now c.number.result c.args.block c.number.ensures c.requires.there) c.requires.in_range c.requires.different c.requires.undefined c.requires.few _ put;
    }

pub returns-clause-body : goal.returns-clause-body
returns-clause-body c = put_function c.self.inside c.args.self.now c.self.invariant c.self.view_is c.number.result c.args.added (named c.args.self.now c.number.result c.args.block c.number.ensures c.requires.there) c.requires.in_range c.requires.different c.requires.undefined c.requires.few _ (ap₂ (λ xs ks. blocks_in xs ks c.self.inside.first) c.put_between.ensures.items (moved c) ∙ moved_blocks c.self.inside.insts.items c.self.inside.blocks.items c.self.inside.first c.self.inside.last c.number.result c.index_mut-entry.result.now c.args.added c.self.invariant.laid (found c.self.inside c.args.self.now c.number.result c.index_mut-entry.result.now c.self.invariant c.self.view_is (named c.args.self.now c.number.result c.args.block c.number.ensures c.requires.there) c.index_mut-entry.ensures.value) (omega (arith, c.if-entry.false, (c.self.invariant.laid.short c.number.result c.index_mut-entry.result.now (found c.self.inside c.args.self.now c.number.result c.index_mut-entry.result.now c.self.invariant c.self.view_is (named c.args.self.now c.number.result c.args.block c.number.ensures c.requires.there) c.index_mut-entry.ensures.value)))) (omega (arith, c.if-entry-eq1.false)) (c.index_mut-entry.result.now.start + c.index_mut-entry.result.now.len) refl) c.args.block c.number.ensures

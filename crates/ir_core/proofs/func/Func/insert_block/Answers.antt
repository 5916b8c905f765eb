use Rattle.std.proofs.Common.{arith, ◌+◌, [], length, Some, refl, ap, ◌∙◌}
use Rattle.std.specs.Prelude.{not}
use Rattle.ir_core.specs.Edits.{insert_after}
use Rattle.ir_core.specs.Layout.{function_of}
use Rattle.ir_core.proofs.Keeping.{with_blocks}
use Rattle.ir_core.proofs.Changing.{below, named}
use Rattle.ir_core.proofs.Inserting.{linked_laid, linked_blocks, linked_sound, linked_defined, insert_fits, last_linked, last_kept, if_none, fresh_number}
use Rattle.ir_core.proofs.func.Func.insert_block.Goals as goal

pub overflow_add-self : goal.overflow_add-self
overflow_add-self c = omega (arith, (ap length c.as_slice.ensures), insert_fits c.self.inside c.args.self.now c.self.invariant c.self.view_is c.args.after c.args.params c.requires.there c.requires.few c.requires.declared c.requires.different c.requires.undefined)

pub index-requires : goal.index-requires
index-requires c = omega (arith, below c.self.inside c.args.self.now c.number-place.result c.self.invariant c.self.view_is (named c.args.self.now c.number-place.result c.args.after c.number-place.ensures c.requires.there), c.self.inside.blocks.ok.0)

pub index_mut-requires : goal.index_mut-requires
index_mut-requires c = omega (arith, below c.self.inside c.args.self.now c.number-place.result c.self.invariant c.self.view_is (named c.args.self.now c.number-place.result c.args.after c.number-place.ensures c.requires.there), c.self.inside.blocks.ok.0, c.push_reserved.ensures.len)

pub invariant_of-self : goal.invariant_of-self
invariant_of-self c =
    record {
      laid = linked_laid c.self.inside c.args.self.now c.self.invariant c.self.view_is c.number-place.result c.new-number.result c.index.result.now c.index_mut.result.now (record { params = c.args.params; start = c.len-start.result; len = 0; cap = 0; next = c.index.result.now.next }) c.push_reserved.new.self.items c.args.params (named c.args.self.now c.number-place.result c.args.after c.number-place.ensures c.requires.there) c.index.ensures c.index_mut.ensures.value c.push_reserved.ensures.items refl (c.len-start.ensures ∙ c.self.inside.insts.ok.0) refl refl (c.new-number.ensures ∙ (c.len.ensures ∙ c.self.inside.blocks.ok.0)) refl (Some c.new-number.result) (last_linked c.self.inside c.args.self.now c.self.invariant c.self.view_is c.number-place.result c.new-number.result c.index.result.now c.index_mut.result.now (record { params = c.args.params; start = c.len-start.result; len = 0; cap = 0; next = c.index.result.now.next }) c.push_reserved.new.self.items c.args.params (named c.args.self.now c.number-place.result c.args.after c.number-place.ensures c.requires.there) c.index.ensures c.index_mut.ensures.value c.push_reserved.ensures.items refl (c.len-start.ensures ∙ c.self.inside.insts.ok.0) refl refl (c.new-number.ensures ∙ (c.len.ensures ∙ c.self.inside.blocks.ok.0)) refl (if_none c.index.result.now.next (c.is_none.ensures ∙ ap not c.if-is_none.true)));
      defined = ap (λ z. c.self.inside.defined + z) (ap length c.as_slice.ensures) ∙ linked_defined c.self.inside c.args.self.now c.self.invariant c.self.view_is c.number-place.result c.new-number.result c.index.result.now c.index_mut.result.now (record { params = c.args.params; start = c.len-start.result; len = 0; cap = 0; next = c.index.result.now.next }) c.push_reserved.new.self.items c.args.params (named c.args.self.now c.number-place.result c.args.after c.number-place.ensures c.requires.there) c.index.ensures c.index_mut.ensures.value c.push_reserved.ensures.items refl (c.len-start.ensures ∙ c.self.inside.insts.ok.0) refl refl (c.new-number.ensures ∙ (c.len.ensures ∙ c.self.inside.blocks.ok.0)) refl c.requires.few c.requires.declared c.requires.different c.requires.undefined;
      sound = linked_sound c.self.inside c.args.self.now c.self.invariant c.self.view_is c.number-place.result c.new-number.result c.index.result.now c.index_mut.result.now (record { params = c.args.params; start = c.len-start.result; len = 0; cap = 0; next = c.index.result.now.next }) c.push_reserved.new.self.items c.args.params (named c.args.self.now c.number-place.result c.args.after c.number-place.ensures c.requires.there) c.index.ensures c.index_mut.ensures.value c.push_reserved.ensures.items refl (c.len-start.ensures ∙ c.self.inside.insts.ok.0) refl refl (c.new-number.ensures ∙ (c.len.ensures ∙ c.self.inside.blocks.ok.0)) refl c.requires.few c.requires.declared c.requires.different c.requires.undefined;
    }

pub invariant_of-self-else-is_none : goal.invariant_of-self-else-is_none
invariant_of-self-else-is_none c =
    record {
      laid = linked_laid c.self.inside c.args.self.now c.self.invariant c.self.view_is c.number-place.result c.new-number.result c.index.result.now c.index_mut.result.now (record { params = c.args.params; start = c.len-start.result; len = 0; cap = 0; next = c.index.result.now.next }) c.push_reserved.new.self.items c.args.params (named c.args.self.now c.number-place.result c.args.after c.number-place.ensures c.requires.there) c.index.ensures c.index_mut.ensures.value c.push_reserved.ensures.items refl (c.len-start.ensures ∙ c.self.inside.insts.ok.0) refl refl (c.new-number.ensures ∙ (c.len.ensures ∙ c.self.inside.blocks.ok.0)) refl c.self.inside.last (last_kept c.self.inside c.args.self.now c.self.invariant c.self.view_is c.number-place.result c.new-number.result c.index.result.now c.index_mut.result.now (record { params = c.args.params; start = c.len-start.result; len = 0; cap = 0; next = c.index.result.now.next }) c.push_reserved.new.self.items c.args.params (named c.args.self.now c.number-place.result c.args.after c.number-place.ensures c.requires.there) c.index.ensures c.index_mut.ensures.value c.push_reserved.ensures.items refl (c.len-start.ensures ∙ c.self.inside.insts.ok.0) refl refl (c.new-number.ensures ∙ (c.len.ensures ∙ c.self.inside.blocks.ok.0)) refl c.index.result.now.next refl (c.is_none.ensures ∙ ap not c.if-is_none.false));
      defined = ap (λ z. c.self.inside.defined + z) (ap length c.as_slice.ensures) ∙ linked_defined c.self.inside c.args.self.now c.self.invariant c.self.view_is c.number-place.result c.new-number.result c.index.result.now c.index_mut.result.now (record { params = c.args.params; start = c.len-start.result; len = 0; cap = 0; next = c.index.result.now.next }) c.push_reserved.new.self.items c.args.params (named c.args.self.now c.number-place.result c.args.after c.number-place.ensures c.requires.there) c.index.ensures c.index_mut.ensures.value c.push_reserved.ensures.items refl (c.len-start.ensures ∙ c.self.inside.insts.ok.0) refl refl (c.new-number.ensures ∙ (c.len.ensures ∙ c.self.inside.blocks.ok.0)) refl c.requires.few c.requires.declared c.requires.different c.requires.undefined;
      sound = linked_sound c.self.inside c.args.self.now c.self.invariant c.self.view_is c.number-place.result c.new-number.result c.index.result.now c.index_mut.result.now (record { params = c.args.params; start = c.len-start.result; len = 0; cap = 0; next = c.index.result.now.next }) c.push_reserved.new.self.items c.args.params (named c.args.self.now c.number-place.result c.args.after c.number-place.ensures c.requires.there) c.index.ensures c.index_mut.ensures.value c.push_reserved.ensures.items refl (c.len-start.ensures ∙ c.self.inside.insts.ok.0) refl refl (c.new-number.ensures ∙ (c.len.ensures ∙ c.self.inside.blocks.ok.0)) refl c.requires.few c.requires.declared c.requires.different c.requires.undefined;
    }

pub returns-then-is_none-clause-body : goal.returns-then-is_none-clause-body
returns-then-is_none-clause-body c =
    ap (with_blocks (function_of c.self.inside)) (linked_blocks c.self.inside c.args.self.now c.self.invariant c.self.view_is c.number-place.result c.new-number.result c.index.result.now c.index_mut.result.now (record { params = c.args.params; start = c.len-start.result; len = 0; cap = 0; next = c.index.result.now.next }) c.push_reserved.new.self.items c.args.params (named c.args.self.now c.number-place.result c.args.after c.number-place.ensures c.requires.there) c.index.ensures c.index_mut.ensures.value c.push_reserved.ensures.items refl (c.len-start.ensures ∙ c.self.inside.insts.ok.0) refl refl (c.new-number.ensures ∙ (c.len.ensures ∙ c.self.inside.blocks.ok.0)) refl)
    ∙ (ap (λ z. with_blocks z.function (insert_after c.number-place.result (record { number = c.new-number.result; params = c.args.params; lines = [] }) z.function.blocks)) c.self.view_is
    ∙ ap (λ z. with_blocks c.args.self.now.function (insert_after z (record { number = c.new-number.result; params = c.args.params; lines = [] }) c.args.self.now.function.blocks)) c.number-place.ensures)

pub returns-then-is_none-clause-fresh : goal.returns-then-is_none-clause-fresh
returns-then-is_none-clause-fresh c i = fresh_number c.self.inside c.args.self.now c.new-number.result c.self.invariant c.self.view_is (c.new-number.ensures ∙ (c.len.ensures ∙ c.self.inside.blocks.ok.0)) i

pub returns-else-is_none-clause-body : goal.returns-else-is_none-clause-body
returns-else-is_none-clause-body c =
    ap (with_blocks (function_of c.self.inside)) (linked_blocks c.self.inside c.args.self.now c.self.invariant c.self.view_is c.number-place.result c.new-number.result c.index.result.now c.index_mut.result.now (record { params = c.args.params; start = c.len-start.result; len = 0; cap = 0; next = c.index.result.now.next }) c.push_reserved.new.self.items c.args.params (named c.args.self.now c.number-place.result c.args.after c.number-place.ensures c.requires.there) c.index.ensures c.index_mut.ensures.value c.push_reserved.ensures.items refl (c.len-start.ensures ∙ c.self.inside.insts.ok.0) refl refl (c.new-number.ensures ∙ (c.len.ensures ∙ c.self.inside.blocks.ok.0)) refl)
    ∙ (ap (λ z. with_blocks z.function (insert_after c.number-place.result (record { number = c.new-number.result; params = c.args.params; lines = [] }) z.function.blocks)) c.self.view_is
    ∙ ap (λ z. with_blocks c.args.self.now.function (insert_after z (record { number = c.new-number.result; params = c.args.params; lines = [] }) c.args.self.now.function.blocks)) c.number-place.ensures)

pub returns-else-is_none-clause-fresh : goal.returns-else-is_none-clause-fresh
returns-else-is_none-clause-fresh c i = fresh_number c.self.inside c.args.self.now c.new-number.result c.self.invariant c.self.view_is (c.new-number.ensures ∙ (c.len.ensures ∙ c.self.inside.blocks.ok.0)) i

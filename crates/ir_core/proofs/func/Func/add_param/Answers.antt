use Rattle.std.proofs.Common.{arith, length, refl, sym, ap, subst, ◌∙◌}
use Rattle.ir_core.specs.Lookup.{block_numbers, definitions}
use Rattle.ir_core.specs.Lists.{In}
use Rattle.ir_core.specs.Sound.{IsSound}
use Rattle.ir_core.specs.Edits.{at_block, put_param}
use Rattle.ir_core.specs.Layout.{function_of}
use Rattle.ir_core.proofs.Changing.{below}
use Rattle.ir_core.proofs.Counting.{defined_bound}
use Rattle.ir_core.proofs.Keeping.{with_blocks}
use Rattle.ir_core.proofs.Adding.{on_err, held_invariant, param_put, param_laid_out, param_defined, param_sound}
use Rattle.ir_core.proofs.func.Func.add_param.Goals as goal

pub index_mut-requires : goal.index_mut-requires
index_mut-requires c =
    let there : In c.number.result (block_numbers c.args.self.now.function.blocks) = subst (λ z. In z (block_numbers c.args.self.now.function.blocks)) (sym c.number.ensures) c.requires.there in
    omega (arith, below c.self.inside c.args.self.now c.number.result c.self.invariant c.self.view_is there, c.self.inside.blocks.ok.0)

pub invariant_of-self : goal.invariant_of-self
invariant_of-self c =
    let there : In c.number.result (block_numbers c.args.self.now.function.blocks) = subst (λ z. In z (block_numbers c.args.self.now.function.blocks)) (sym c.number.ensures) c.requires.there in
    let held = held_invariant c.self.inside c.args.self.now c.self.invariant c.self.view_is c.number.result c.args.value c.index_mut.result.now (record c.index_mut.result.now { params = c.push.new.self }) there c.index_mut.ensures.value refl refl refl refl c.in_err-push.ensures.err _ refl in
    record {
      laid = held.0;
      defined = c.self.invariant.defined ∙ ap (λ z. length (definitions z)) (sym held.1);
      sound = subst (λ z. IsSound (with_blocks (function_of c.self.inside) z)) (sym held.1) c.self.invariant.sound;
    }

pub returns-in_err-push-clause-err : goal.returns-in_err-push-clause-err
returns-in_err-push-clause-err c =
    let there : In c.number.result (block_numbers c.args.self.now.function.blocks) = subst (λ z. In z (block_numbers c.args.self.now.function.blocks)) (sym c.number.ensures) c.requires.there in
    let held = held_invariant c.self.inside c.args.self.now c.self.invariant c.self.view_is c.number.result c.args.value c.index_mut.result.now (record c.index_mut.result.now { params = c.push.new.self }) there c.index_mut.ensures.value refl refl refl refl c.in_err-push.ensures.err _ refl in
    on_err c.from_residual.result _ (ap (with_blocks (function_of c.self.inside)) held.1 ∙ ap (λ z. z.function) c.self.view_is)

pub overflow_add-self : goal.overflow_add-self
overflow_add-self c = omega (arith, defined_bound (function_of c.self.inside) c.self.invariant.sound, c.self.invariant.defined, c.self.invariant.sound.small.values)

pub invariant_of-self-2 : goal.invariant_of-self-2
invariant_of-self-2 c =
    let there : In c.number.result (block_numbers c.args.self.now.function.blocks) = subst (λ z. In z (block_numbers c.args.self.now.function.blocks)) (sym c.number.ensures) c.requires.there in
    record {
      laid = param_laid_out c.self.inside c.args.self.now c.self.invariant c.self.view_is c.number.result c.args.value c.index_mut.result.now (record c.index_mut.result.now { params = c.push.new.self }) there c.index_mut.ensures.value refl refl refl refl c.in_ok-push.ensures.ok c.requires.declared c.requires.undefined;
      defined = param_defined c.self.inside c.args.self.now c.self.invariant c.self.view_is c.number.result c.args.value c.index_mut.result.now (record c.index_mut.result.now { params = c.push.new.self }) there c.index_mut.ensures.value refl refl refl refl c.in_ok-push.ensures.ok c.requires.declared c.requires.undefined;
      sound = param_sound c.self.inside c.args.self.now c.self.invariant c.self.view_is c.number.result c.args.value c.index_mut.result.now (record c.index_mut.result.now { params = c.push.new.self }) there c.index_mut.ensures.value refl refl refl refl c.in_ok-push.ensures.ok c.requires.declared c.requires.undefined;
    }

pub returns-clause-ok : goal.returns-clause-ok
returns-clause-ok c =
    let there : In c.number.result (block_numbers c.args.self.now.function.blocks) = subst (λ z. In z (block_numbers c.args.self.now.function.blocks)) (sym c.number.ensures) c.requires.there in
    ap (with_blocks (function_of c.self.inside)) (param_put c.self.inside c.args.self.now c.self.invariant c.self.view_is c.number.result c.args.value c.index_mut.result.now (record c.index_mut.result.now { params = c.push.new.self }) there c.index_mut.ensures.value refl refl refl refl c.in_ok-push.ensures.ok c.requires.declared c.requires.undefined)
    ∙ (ap (λ z. with_blocks z.function (at_block c.number.result (put_param c.args.value) z.function.blocks)) c.self.view_is
    ∙ ap (λ z. with_blocks c.args.self.now.function (at_block z (put_param c.args.value) c.args.self.now.function.blocks)) c.number.ensures)

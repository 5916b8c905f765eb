use Rattle.std.proofs.Common.{List, ◌≡◌, ℕ, Some, IfSome, slice_get, refl, sym, ap, ◌∙◌, subst, arith}
use Rattle.ir_core.specs.Module.{Function, Module}
use Rattle.ir_core.specs.Size.{size_of}
use Rattle.ir_core.specs.WellFormed.{IsModule}
use Rattle.ir_core.proofs.Gets.{get_in}
use Rattle.ir_semantics.specs.Accepted.{Accepted}
use Rattle.ir_semantics.specs.Canon.{SameFunction}
use Rattle.inline_pass.specs.Finished.{finished}
use Rattle.inline_finish.specs.Bodies.{HasCallees}
use Rattle.inline_finish.specs.Building.{policy_of, IsLimited, IsBuilt}
use Rattle.inline_finish.specs.Midway.{IsReady}
use Rattle.inline_finish.specs.declared.bodies.Built.{Built}
use Rattle.inline_finish.specs.declared.bodies.Policy.{Policy}
use Rattle.inline_finish.specs.declared.lines.Progress.{Progress}
use Rattle.inline_finish.proofs.Sizes.{same_counts}
use Rattle.inline_finish.proofs.Steps.{begins_between, ends_finished}
use Rattle.inline_finish.proofs.finishing.finish_body.Goals as goal

-- the function there, of the module that is read
there : (m n : Module) (k : ℕ) (f : Function) → n ≡ m → slice_get n k ≡ Some f → slice_get m k ≡ Some f
there m n k f same at = ap (λ (x : Module). slice_get x k) (sym same) ∙ at

-- n is the module that is read, and m the one that the bodies are of
ready : (p : Policy) (m n : Module) (k : ℕ) (f : Function) → IsLimited p → n ≡ m → IsModule n → Accepted n → slice_get n k ≡ Some f → IsReady (policy_of p) m f
ready p m n k f limited same functions accepted at =
    record {
      functions = subst IsModule same functions;
      accepted = subst Accepted same accepted;
      there = get_in m k f (there m n k f same at);
      callee_size = limited.callee_size;
      caller_size = limited.caller_size;
    }

pub finish_blocks-requires-clause-ready : goal.finish_blocks-requires-clause-ready
finish_blocks-requires-clause-ready g c =
    let n : Module = c.module-functions.result.now in
    let f : Function = c.func-own.result.now.function in
    let m : Module = g.B.Bodies.functions c.args.bodies.now in
    ready c.args.policy m n c.args.func f c.requires.limited (c.module-functions.ensures.same ∙ sym c.requires.functions)
    c.module-functions.ensures.functions c.module-functions.ensures.accepted c.func-own.ensures.at

pub finish_blocks-requires-clause-has : goal.finish_blocks-requires-clause-has
finish_blocks-requires-clause-has g c =
    let n : Module = c.module-functions.result.now in
    let f : Function = c.func-own.result.now.function in
    let at = there c.args.«module».now n c.args.func f c.module-functions.ensures.same c.func-own.ensures.at in
    let names : List ℕ = g.B.Bodies.has c.args.bodies.now in
    let has = subst (λ o. IfSome o (λ (f : Function). HasCallees c.args.«module».now f names)) at c.requires.has in
    subst (λ (m : Module). HasCallees m f names) (sym c.requires.functions) has

pub finish_blocks-requires-clause-between : goal.finish_blocks-requires-clause-between
finish_blocks-requires-clause-between g c =
    let f : Function = c.func-own.result.now.function in
    let m : Module = g.B.Bodies.functions c.args.bodies.now in
    let whole = finish_blocks-requires-clause-ready g c in
    let size = c.size-size.ensures in
    let less = c.if-size.false in
    let exact : c.size-size.result ≡ size_of f = omega (arith, size, less) in
    record {
      between = begins_between (policy_of c.args.policy) m f whole c.in_ok-new.field-0 c.in_ok-new.ensures 0 refl;
      size = exact ∙ ap size_of (sym c.in_ok-new.ensures);
    }

pub returns-clause-built : goal.returns-clause-built
returns-clause-built g c =
    let n : Module = c.module-functions.result.now in
    let f : Function = c.func-own.result.now.function in
    let m : Module = g.B.Bodies.functions c.args.bodies.now in
    let at = there c.args.«module».now n c.args.func f c.module-functions.ensures.same c.func-own.ensures.at in
    let p = policy_of c.args.policy in
    let whole =
    ready c.args.policy m n c.args.func f c.requires.limited (c.module-functions.ensures.same ∙ sym c.requires.functions)
    c.module-functions.ensures.functions c.module-functions.ensures.accepted c.func-own.ensures.at in
    let progress : Progress = c.finish_blocks.new.progress in
    let ends = ends_finished p m f whole progress.caller progress.inlined c.in_ok-finish_blocks.ensures.between.between in
    let same : SameFunction (finished p m f) c.into_func-func.result.function = subst (SameFunction (finished p m f)) (sym c.into_func-func.ensures) ends.0 in
    let built : Built = record { func = c.into_func-func.result; inlined = progress.inlined; counts = c.count_within-counts.result } in
    let counts = same_counts p c.into_func-func.result.function (finished p m f) (same.1, same.0, sym same.2) c.count_within-counts.result c.count_within-counts.ensures in
    let is : IsBuilt p m f built = (same, ends.1, counts) in
    subst (λ o. IfSome o (λ (f : Function). IsBuilt p c.args.«module».now f built)) (sym at)
    (subst (λ (m : Module). IsBuilt p m f built) c.requires.functions is)

use Rattle.std.proofs.Common.{◌≡◌, ◌∙◌, ap, sym, subst, Some, refl, slice_get}
use Rattle.ir_core.specs.declared.signatures.Sig.{Sig}
use Rattle.ir_core.specs.Lookup.{find_function, param_types}
use Rattle.clk_num.specs.Views.{data_of_all}
use Rattle.ir_semantics.specs.Values.{values_for}
use Rattle.ir_semantics.specs.Runs.{shows, outcome}
use Rattle.interp.specs.declared.outcome.Outcome.{Outcome}
use Rattle.interp.specs.State.{some_if, world_of, stop_of}
use Rattle.interp_run.specs.Answers.{first_world, IsRunOf}
use Rattle.interp_run.proofs.Running.{the_outcome, entered_values, not_stuck, told, from_code}
use Rattle.interp_run.proofs.linked.LinkedModule.run.Goals as goal

pub end_of_run-requires : goal.end_of_run-requires
end_of_run-requires c =
    let m = c.self.inside.program.module.now in
    let xs = c.fit_values.new.out.items in
    let f = c.func.result.now.function in
    let done = c.in_ok-done.done in
    let found : find_function c.args.entry.now m ≡ slice_get m c.in-Some.at = c.in-Some.ensures.cases.1 in
    let fit : Some (data_of_all xs) ≡ values_for (param_types c.as_slice-params.result.now) c.args.args.now = ap (λ b. some_if b (data_of_all xs)) (sym c.if-not-branch.false) ∙ c.in_ok-fit_values.ensures in
    let values = entered_values m c.args.entry.now c.in-Some.at f c.as_slice-params.result.now c.args.args.now xs found c.func.ensures.at (c.as_slice-params.ensures ∙ ap (λ (s : Sig). s.params) c.sig.ensures) fit in
    let ran = from_code m m c.in-Some.at c.args.steps c.deref.result.now xs c.as_slice-replies.result.now c.args.script.now c.args.memory (shows (world_of done.world) (stop_of done.stop)) c.in_ok-done.ensures refl c.deref.ensures.value c.as_slice-replies.ensures in
    let total = the_outcome m c.args.entry.now c.in-Some.at f (data_of_all xs) (first_world c.args.script.now c.args.memory) c.args.steps (shows (world_of done.world) (stop_of done.stop)) found c.func.ensures.at ran in
    not_stuck m c.args.entry.now c.args.args.now (data_of_all xs) (first_world c.args.script.now c.args.memory) (world_of done.world) c.args.steps (stop_of done.stop) c.len-count.ensures.functions c.self.invariant.accepted values total

pub returns-clause-outcome : goal.returns-clause-outcome
returns-clause-outcome c =
    let m = c.self.inside.program.module.now in
    let xs = c.fit_values.new.out.items in
    let f = c.func.result.now.function in
    let done = c.in_ok-done.done in
    let found : find_function c.args.entry.now m ≡ slice_get m c.in-Some.at = c.in-Some.ensures.cases.1 in
    let fit : Some (data_of_all xs) ≡ values_for (param_types c.as_slice-params.result.now) c.args.args.now = ap (λ b. some_if b (data_of_all xs)) (sym c.if-not-branch.false) ∙ c.in_ok-fit_values.ensures in
    let values = entered_values m c.args.entry.now c.in-Some.at f c.as_slice-params.result.now c.args.args.now xs found c.func.ensures.at (c.as_slice-params.ensures ∙ ap (λ (s : Sig). s.params) c.sig.ensures) fit in
    let ran = from_code m m c.in-Some.at c.args.steps c.deref.result.now xs c.as_slice-replies.result.now c.args.script.now c.args.memory (shows (world_of done.world) (stop_of done.stop)) c.in_ok-done.ensures refl c.deref.ensures.value c.as_slice-replies.ensures in
    let total = the_outcome m c.args.entry.now c.in-Some.at f (data_of_all xs) (first_world c.args.script.now c.args.memory) c.args.steps (shows (world_of done.world) (stop_of done.stop)) found c.func.ensures.at ran in
    let o : Outcome = record { events = c.from_vec.result; memory = done.world.memory; end = c.end_of_run.result } in
    let is = told o done.world done.stop (outcome m c.args.entry.now (data_of_all xs) (first_world c.args.script.now c.args.memory) c.args.steps) c.from_vec.ensures refl c.end_of_run.ensures total in
    subst (λ k. IsRunOf k c.args.entry.now c.args.args.now c.args.script.now c.args.memory c.args.steps o) c.self.view_is (data_of_all xs, values, is)

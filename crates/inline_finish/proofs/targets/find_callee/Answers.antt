use Rattle.std.proofs.Common.{◌≡◌, true, sym, ap, ◌∙◌}
use Rattle.ir_core.specs.Lookup.{same_name}
use Rattle.ir_core.proofs.Indexing.{place_cases}
use Rattle.inline_finish.proofs.Naming.{named_number}
use Rattle.inline_finish.proofs.targets.find_callee.Goals as goal

pub returns-then-is-clause-place : goal.returns-then-is-clause-place
returns-then-is-clause-place c =
    let same : true ≡ same_name c.func.result.now.function.name c.args.name.now =
    sym c.if-is.true ∙ (c.is.ensures ∙ ap (λ n. same_name n c.args.name.now) c.name.ensures.value) in
    named_number c.args.«module».now c.in-Some.likely c.func.result.now.function c.args.name.now
    c.len.ensures.functions.names c.func.ensures.at same

pub returns-then-is-clause-cases : goal.returns-then-is-clause-cases
returns-then-is-clause-cases c = place_cases c.args.name.now c.args.«module».now _ (returns-then-is-clause-place c)

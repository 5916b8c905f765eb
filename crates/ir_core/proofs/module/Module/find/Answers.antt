use Rattle.std.proofs.Common.{ap, ◌∙◌}
use Rattle.ir_core.specs.Named.{functions_in, place_of}
use Rattle.ir_core.proofs.Indexing.{place_cases}
use Rattle.ir_core.proofs.module.Module.find.Goals as goal

pub returns-clause-place : goal.returns-clause-place
returns-clause-place c = c.find.ensures ∙ ap (place_of c.args.name.now) (ap functions_in c.as_slice.ensures.value ∙ c.self.view_is)

pub returns-clause-cases : goal.returns-clause-cases
returns-clause-cases c = place_cases c.args.name.now c.args.self.now c.find.result (returns-clause-place c)

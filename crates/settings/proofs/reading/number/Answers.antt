use Rattle.std.proofs.Common.{◌∙◌, ap, List, Option, ℕ}
use Rattle.settings.specs.Options.{given, number_of}
use Rattle.settings.proofs.reading.number.Goals as goal

pub returns-in_err-value-clause-value : goal.returns-in_err-value-clause-value
returns-in_err-value-clause-value c = c.from_residual.ensures ∙ ap (λ (t : Option (List ℕ)). given t (number_of c.args.option.least c.args.option.most)) c.in_err-value.ensures

pub returns-clause-value : goal.returns-clause-value
returns-clause-value c = c.parse_number.ensures.value ∙ ap (λ (t : Option (List ℕ)). given t (number_of c.args.option.least c.args.option.most)) c.in_ok-value.ensures

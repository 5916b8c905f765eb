use Rattle.std.proofs.Common.{sym, ap, ◌∙◌}
use Rattle.std.specs.Prelude.{unwrap_or}
use Rattle.std.proofs.lemmas.Option.{unwrap_or-slice_get}
use Rattle.name_tables.specs.declared.links.End.TheVariants.{Nowhere}
use Rattle.clif_names.specs.FunctionNames.{end_at}
use Rattle.clif_names.proofs.function.FunctionNames.end.Goals as goal

pub returns-in-None-get : goal.returns-in-None-get
returns-in-None-get c =
    let ends = c.args.self.now.ends in
    sym (ap (end_at ends) (sym c.place.ensures.place ∙ c.in-Some.is)
    ∙ sym (unwrap_or-slice_get ends c.in-Some.place Nowhere)
    ∙ ap (λ o. unwrap_or o Nowhere) (sym c.get.ensures ∙ c.in-None-get.is))

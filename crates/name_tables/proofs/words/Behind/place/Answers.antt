use Rattle.std.proofs.Common.{nat_eq, ap, sym, ◌∙◌, subst}
use Rattle.std.specs.Prelude.{position}
use Rattle.name_tables.specs.Dense.{IsIncreasing}
use Rattle.name_tables.proofs.Searching.{found}
use Rattle.name_tables.proofs.words.Behind.place.Goals as goal

pub returns-in-None-far-clause-place : goal.returns-in-None-far-clause-place
returns-in-None-far-clause-place c =
    let listed = c.deref-in-None-far.ensures.value in
    let increasing = subst IsIncreasing (sym listed) (c.self.invariant.0 c.in-None-far.is) in
    let is = found c.deref-in-None-far.result.now c.args.word c.binary_search.result c.binary_search.ensures.position increasing in
    c.ok.ensures.value ∙ is ∙ ap (position (nat_eq c.args.word)) (listed ∙ c.self.view_is)

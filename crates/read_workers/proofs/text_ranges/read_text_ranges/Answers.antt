use Rattle.std.proofs.Common.{[], sym, subst}
use Rattle.std.proofs.lemmas.Option.{IfSome_then}
use Rattle.clif_read.specs.Texts.{IsModuleText}
use Rattle.read_workers.proofs.RangeLaws.{no_functions, whole_text}
use Rattle.read_workers.proofs.text_ranges.read_text_ranges.Goals as goal

pub returns : goal.returns
returns g c =
    let text = c.args.text.now in
    let «end» = c.find_front_end-end.result in
    let rest = c.in_ok-rest.ensures «end» [] (no_functions text «end» c.find_front_end-end.ensures) in
    IfSome_then c.add_functions.result c.add_functions.ensures
    (λ found e. subst (IsModuleText text) (sym e)
    (whole_text text «end» c.in_ok-front.front c.in_ok-rest.rest.items c.find_front_end-end.ensures c.in_ok-front.ensures rest))

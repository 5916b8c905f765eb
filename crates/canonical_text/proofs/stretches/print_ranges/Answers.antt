use Rattle.std.proofs.Common.{List, sym, subst}
use Rattle.std.proofs.lemmas.Option.{IfSome_then}
use Rattle.clif_check.proofs.MeantLaws.{front_has_blocks}
use Rattle.canonical_text.specs.declared.stretches.Stretch.{Stretch}
use Rattle.canonical_text.specs.Printed.{ArePrinted}
use Rattle.canonical_text.specs.Stretches.{PrintedOfText, heads_in, text_in}
use Rattle.canonical_text.proofs.StretchLaws.{one_stretch, text_printed}
use Rattle.canonical_text.proofs.stretches.print_ranges.Goals as goal

pub print_all_meant-requires : goal.print_all_meant-requires
print_all_meant-requires g c = rw c.as_slice.ensures (front_has_blocks c.args.text.now c.find_front_end-end.result c.in_ok-front.front c.in_ok-front.ensures)

pub returns : goal.returns
returns g c =
    let text = c.args.text.now in
    let front = c.in_ok-front.front in
    let first = c.in_ok-first.first.items in
    let printed = subst (λ (ss : List Stretch). ArePrinted front.functions (heads_in ss) (text_in ss)) (sym c.in_ok-first.ensures)
    (one_stretch front.functions c.in_ok-stretch.stretch (rw c.as_slice.ensures at c.in_ok-stretch.ensures)) in
    IfSome_then c.join_items.result c.join_items.ensures
    (λ all joined. subst (PrintedOfText text) (sym joined)
    (text_printed text c.find_front_end-end.result front first c.in_ok-rest.rest.items c.find_front_end-end.ensures c.in_ok-front.ensures printed c.in_ok-rest.ensures))

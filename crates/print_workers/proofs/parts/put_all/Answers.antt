use Rattle.std.proofs.Common.{ap}
use Rattle.std.specs.List.{flat_map}
use Rattle.text_output.proofs.Puts.{goes}
use Rattle.print_workers.proofs.parts.put_all.Goals as goal

pub texts-preserved : goal.texts-preserved
texts-preserved g c =
    let put = rw c.as_slice.ensures.value at c.put.ensures in
    goes _ c.texts.invariant (ap (λ l. flat_map (λ text. text.items) l) c.in-Some.ensures.cases.0) put

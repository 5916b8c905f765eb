use Rattle.std.proofs.Common.{length, sym, subst, ap, arith}
use Rattle.std.proofs.lemmas.List.{length_push}
use Rattle.clif_meaning.specs.Reads.{alone}
use Rattle.filetest.specs.FaultLines.{IsFaultSpot}
use Rattle.filetest.proofs.FaultLaws.{spots_more}
use Rattle.filetest.proofs.verifying.fault_spots.Goals as goal

pub loop-func-preserved : goal.loop-func-preserved
loop-func-preserved c =
    let raw = c.args.raw.now in
    let spots = c.loop-func.spots.items in
    let s = c.in_ok-fault_spot.field-0 in
    record {
      count = omega (arith, ap length c.in_ok-push.ensures.items, length_push spots s, c.loop-func.invariant.count);
      each = rw c.in_ok-push.ensures.items (spots_more raw spots s
          (subst (λ i. IsFaultSpot (alone raw i) s) (sym c.loop-func.invariant.count) c.in_ok-fault_spot.ensures.spot) c.loop-func.invariant.each);
    }

pub returns-clause-spots : goal.returns-clause-spots
returns-clause-spots c = record { count = omega (arith, c.loop-func.invariant.count, ap length c.as_slice-func-end.ensures); each = c.loop-func.invariant.each }

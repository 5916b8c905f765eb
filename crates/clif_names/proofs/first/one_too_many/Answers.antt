use Rattle.std.proofs.Common.{◌<◌, ◌≤◌, length, arith}
use Rattle.std.proofs.lemmas.List.{take_all}
use Rattle.clif_names.proofs.NameSetLaws.{many_next, few_next}
use Rattle.clif_names.proofs.first.one_too_many.Goals as goal
use Rattle.clif_names.proofs.first.one_too_many.Goals.{then-place-ge-MOST_FUNCTIONS, else-place-ge-MOST_FUNCTIONS}

pub loop-place-preserved : goal.loop-place-preserved
loop-place-preserved c =
    let fs = c.args.functions.now in
    let f = c.index-functions-place.result in
    let i = c.loop-place.place in
    elim c.if-place-ge-MOST_FUNCTIONS.branch [
      | then-place-ge-MOST_FUNCTIONS w ↦
          (let le : 65536 ≤ i = omega arith in
          rw (w.least-is, w.earlier_spot-least.ensures, w.spot.ensures) (many_next fs i f f c.loop-place-test.true c.index-functions-place.is c.loop-place.least le c.loop-place.invariant))
      | else-place-ge-MOST_FUNCTIONS w ↦
          (let lt : i < 65536 = omega arith in
          rw w.least-is (few_next fs i f f c.loop-place-test.true c.index-functions-place.is c.loop-place.least lt c.loop-place.invariant))
    ]

pub returns : goal.returns
returns c =
    let all : length c.args.functions.now ≤ c.loop-place.place = omega arith in
    rw (take_all c.loop-place.place c.args.functions.now all) at c.loop-place.invariant

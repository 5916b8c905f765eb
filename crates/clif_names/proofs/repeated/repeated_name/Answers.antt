use Rattle.std.proofs.Common.{◌≤◌, length, arith}
use Rattle.std.proofs.lemmas.List.{take_all}
use Rattle.clif_names.proofs.NameSetLaws.{names_more, repeated_more, repeated_same, when_new, when_old}
use Rattle.clif_names.proofs.repeated.repeated_name.Goals as goal
use Rattle.clif_names.proofs.repeated.repeated_name.Goals.{then-not-branch, else-not-branch}

pub loop-func-preserved : goal.loop-func-preserved
loop-func-preserved c =
    let fs = c.args.functions.now in
    let f = c.func-item.result in
    let i = c.loop-func.func-index in
    let old = c.loop-func.names in
    let told = c.in_ok-insert.ensures.added in
    record {
      names = names_more fs i f f c.loop-func-test.true c.func-item.is old c.insert.new.self c.loop-func.invariant.names c.in_ok-insert.ensures.names;
      least = elim c.if-not-branch.branch [
        | then-not-branch w ↦
            (let has = when_old _ _ _ told w.if-not-branch.true in
            rw (w.least-is, w.earlier_spot-least.ensures, w.spot.ensures)
            (repeated_more fs i f f c.loop-func-test.true c.func-item.is old c.loop-func.least c.loop-func.invariant.names has c.loop-func.invariant.least))
        | else-not-branch w ↦
            (let none = when_new _ _ _ told w.if-not-branch.false in
            rw w.least-is (repeated_same fs i f f c.loop-func-test.true c.func-item.is old c.loop-func.least c.loop-func.invariant.names none c.loop-func.invariant.least))
      ];
    }

pub returns : goal.returns
returns c =
    let all : length c.args.functions.now ≤ c.loop-func.func-index = omega arith in
    rw (take_all c.loop-func.func-index c.args.functions.now all) at c.loop-func.invariant.least

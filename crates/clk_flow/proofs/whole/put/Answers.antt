use Rattle.std.proofs.Common.{◌++◌, take, arith}
use Rattle.std.proofs.KnownBytes.{Appends-trans}
use Rattle.clk_flow.proofs.Writing.{split_further}
use Rattle.clk_flow.proofs.whole.put.Goals as goal

pub loop-rest-preserved : goal.loop-rest-preserved
loop-rest-preserved g c =
    let given = c.loop-rest.invariant.given in let count = c.in_ok-count.count in record {
      given = (
        given.0 ++ take count c.loop-rest.rest.now,
        split_further c.args.piece.now given.0 c.loop-rest.rest.now count given.1,
        Appends-trans _ _ _ given.0 (take count c.loop-rest.rest.now) given.2 c.in_ok-count.ensures.bytes,
      );
      later = omega (arith, c.loop-rest.invariant.later, c.in_ok-count.ensures.cause.later);
    }

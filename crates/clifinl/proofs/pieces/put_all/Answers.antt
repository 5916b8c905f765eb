use Rattle.std.proofs.Common.{◌++◌, ℕ, suc, List, [], take, drop, flat_map, add-one, arith}
use Rattle.std.proofs.KnownBytes.{Appends-trans}
use Rattle.clifinl.proofs.PieceLaws.{one_piece_more, pieces_around, cut_within, on_err}
use Rattle.clifinl.proofs.pieces.put_all.Goals as goal

pub loop-piece-preserved : goal.loop-piece-preserved
loop-piece-preserved g c =
    let pieces = c.args.pieces.now in let i = c.loop-piece.piece-index in record {
      given = rw (add-one i, one_piece_more (λ piece. piece.now) pieces i (record { ref_ptr = (0, 0); now = [] }) c.loop-piece-test.true)
          (Appends-trans _ _ _ _ _ c.loop-piece.invariant.given c.in_ok-put.ensures.whole);
      later = omega (arith, c.loop-piece.invariant.later, c.in_ok-put.ensures.cause.later);
    }

pub returns-in_err-put-clause-part : goal.returns-in_err-put-clause-part
returns-in_err-put-clause-part g c =
    let pieces = c.args.pieces.now in let i = c.loop-piece.piece-index in
    let part = c.in_err-put.ensures.part in
    let before : List ℕ = flat_map (λ piece. piece.now) (take i pieces) in
    let after : List ℕ = flat_map (λ piece. piece.now) (drop (suc i) pieces) in
    on_err c.from_residual.result (
      before ++ part.0,
      part.1 ++ after,
      cut_within _ before _ part.0 part.1 after (pieces_around (λ piece. piece.now) pieces i (record { ref_ptr = (0, 0); now = [] }) c.loop-piece-test.true) part.2,
      Appends-trans _ _ _ _ _ c.loop-piece.invariant.given part.3,
    )

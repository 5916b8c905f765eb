use Rattle.std.proofs.Common.{◌≡◌, ℕ, List, [], ◌∷◌, ◌++◌, ap, ◌∙◌}
use Rattle.call_graph.specs.Calls.{calls_in}
use Rattle.graph_workers.proofs.RangeLaws.{calls_more}
use Rattle.graph_workers.proofs.ranges.find_range_calls.Goals as goal

pub loop-i-preserved : goal.loop-i-preserved
loop-i-preserved c =
    let m = c.args.«module».now in
    let f = c.func.result.now.function in
    let grown : c.push.new.self.items ≡ c.loop-i.calls.items ++ calls_in m f ∷ [] =
    c.in_ok-push.ensures.items ∙ ap (λ (called : List ℕ). c.loop-i.calls.items ++ called ∷ []) (c.from_vec.ensures ∙ c.in_ok-called.ensures.calls) in
    record {
      are = rw grown (calls_more m c.args.from c.loop-i.i f c.loop-i.calls.items c.func.ensures.at c.loop-i.invariant.are);
      fresh = c.in_ok-called.ensures.stale;
      long = c.in_ok-called.ensures.long;
    }

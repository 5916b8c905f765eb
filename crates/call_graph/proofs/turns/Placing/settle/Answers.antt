use Rattle.std.proofs.Common.{◌≡◌, ◌<◌, arith}
use Rattle.call_graph.proofs.Settling.{top_in}
use Rattle.call_graph.proofs.turns.Placing.settle.Goals as goal

pub index_mut-requires-in-Some : goal.index_mut-requires-in-Some
index_mut-requires-in-Some c =
    let i =
    top_in c.args.self.now.callees.items c.args.piece c.deref.result.now c.index_mut.result.now c.skip_placed.new.callees c.index.result.now c.in-Some.callee c.requires.there c.index_mut.ensures.value
    c.skip_placed.ensures c.index.ensures c.in-Some.ensures in
    let l = c.requires.within c.in-Some.callee i in
    let e = c.args.self.now.waiting.ok.0 in
    omega (arith, l, e)

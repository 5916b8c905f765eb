use Rattle.std.proofs.Common.{◌≡◌, sym, subst, ◌∙◌}
use Rattle.call_graph.specs.Calls.{graph_of, InRange}
use Rattle.call_graph.proofs.Numbers.{graph_in_range}
use Rattle.graph_workers.proofs.RangeLaws.{calls_of_all}
use Rattle.graph_workers.proofs.making.graph_by_workers.Goals as goal

pub of_calls-requires : goal.of_calls-requires
of_calls-requires g c =
    let m = c.args.«module».now in
    let all : c.in-Some.calls.items ≡ graph_of m = calls_of_all m c.len-count.result c.in-Some.calls.items c.len-count.ensures.count c.in-Some.ensures in
    subst InRange (sym all) (graph_in_range m)

pub returns-in-Some : goal.returns-in-Some
returns-in-Some g c =
    let m = c.args.«module».now in
    c.of_calls.ensures ∙ calls_of_all m c.len-count.result c.in-Some.calls.items c.len-count.ensures.count c.in-Some.ensures

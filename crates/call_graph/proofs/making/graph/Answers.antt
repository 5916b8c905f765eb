use Rattle.std.proofs.lemmas.List.{append-nil, drop_all}
use Rattle.std.proofs.Common.{subst, arith, ◌≡◌, ◌+◌, ◌∷◌, ◌++◌, [], ℕ, List, map, drop, ap, sym, ◌∙◌, append_assoc}
use Rattle.ir_core.specs.Module.{Function}
use Rattle.ir_core.proofs.Gets.{next_left}
use Rattle.call_graph.specs.Calls.{calls_in, graph_of, InRange}
use Rattle.call_graph.proofs.Numbers.{graph_in_range}
use Rattle.call_graph.proofs.making.graph.Goals as goal

pub loop-i-preserved : goal.loop-i-preserved
loop-i-preserved c =
    let next = next_left c.args.module.now c.loop-i.i c.func.result.now.function c.func.ensures.at in
    let grown : c.push.new.self.items ≡ c.loop-i.calls.items ++ calls_in c.args.module.now c.func.result.now.function ∷ [] = c.in_ok-push.ensures.items ∙ ap (λ (n : List ℕ). c.loop-i.calls.items ++ n ∷ []) (c.from_vec.ensures ∙ c.in_ok-called.ensures.calls) in
    record {
      left =
          ap (λ (l : List (List ℕ)). l ++ map (calls_in c.args.module.now) (drop (c.loop-i.i + 1) c.args.module.now)) grown ∙ append_assoc c.loop-i.calls.items (calls_in c.args.module.now c.func.result.now.function ∷ []) (map (calls_in c.args.module.now) (drop (c.loop-i.i + 1) c.args.module.now))
          ∙ ap (λ (l : List Function). c.loop-i.calls.items ++ map (calls_in c.args.module.now) l) (sym next) ∙ c.loop-i.invariant.left;
      fresh = c.in_ok-called.ensures.stale;
      long = c.in_ok-called.ensures.long;
    }

pub invariant_of-result : goal.invariant_of-result
invariant_of-result c =
    let all : c.loop-i.calls.items ≡ graph_of c.args.module.now =
    sym (append-nil c.loop-i.calls.items)
    ∙ ap (λ (l : List Function). c.loop-i.calls.items ++ map (calls_in c.args.module.now) l) (sym (drop_all c.loop-i.i c.args.module.now (let e = c.len-i-end.ensures.count in let f = c.loop-i-test.false in omega (arith, e, f))))
    ∙ c.loop-i.invariant.left in
    subst InRange (sym all) (graph_in_range c.args.module.now)

-- The calls of ranges, one behind the other, are those of the module.
use Rattle.std.proofs.Common.{◌≡◌, ℕ, ◌+◌, List, [], ◌∷◌, ◌++◌, drop, length, map, Some, refl, sym, ap, ◌∙◌, append_assoc, arith}
use Rattle.std.specs.Prelude.{slice_get}
use Rattle.std.proofs.lemmas.List.{append-nil, drop_all}
use Rattle.ir_core.specs.Module.{Function, Module}
use Rattle.ir_core.proofs.Gets.{next_left}
use Rattle.range_workers.specs.Follow.{Follow}
use Rattle.call_graph.specs.Calls.{calls_in, graph_of}
use Rattle.graph_workers.specs.Ranges.{AreCalls}

-- the calls of one function more
pub calls_more : (m : Module) (from i : ℕ) (f : Function) (calls : List (List ℕ)) → slice_get m i ≡ Some f → AreCalls m from i calls → AreCalls m from (i + 1) (calls ++ calls_in m f ∷ [])
calls_more m from i f calls at are =
    append_assoc calls (calls_in m f ∷ []) (map (calls_in m) (drop (i + 1) m))
    ∙ (ap (λ (fs : List Function). calls ++ map (calls_in m) fs) (sym (next_left m i f at)) ∙ are)

-- the calls of the range of all functions
pub calls_of_all : (m : Module) (count : ℕ) (calls : List (List ℕ)) → count ≡ length m → Follow (AreCalls m) 0 count calls → calls ≡ graph_of m
calls_of_all m count calls whole follow =
    sym (append-nil calls)
    ∙ (ap (λ (fs : List Function). calls ++ map (calls_in m) fs) (sym (drop_all count m (omega (arith, whole)))) ∙ follow 0 [] refl)

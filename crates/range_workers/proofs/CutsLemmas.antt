-- What stands in all parts of a range between its cuts.
use Rattle.std.proofs.Common.{◌≡◌, ℕ, suc, ◌+◌, ◌<◌, List, [], ◌∷◌, ◌++◌, Option, Some, IfSome, length, map, get_or, sym, ap, subst, ◌∙◌, arith, add-one, append_assoc}
use Rattle.std.proofs.lemmas.List.{append-nil, length-map, get_or-map}
use Rattle.std.specs.List.{flat_map}
use Rattle.std.specs.Prelude.{slice_index}
use Rattle.range_workers.specs.Follow.{Follow, ArePartEnds}

-- lists each of which leads from one place of a row to the next
follow_all : {T V : Type 0} (stand : ℕ → ℕ → List T → Type 0) (view : V → List T) (row : ℕ → ℕ) (lists : List V)
    → ((i : ℕ) (d : V) → i < length lists → Follow stand (row i) (row (suc i)) (view (get_or lists i d))) → Follow stand (row 0) (row (length lists)) (flat_map view lists)
follow_all {T} stand view row [] each = λ start before h. subst (stand start (row 0)) (sym (append-nil before)) h
follow_all {T} stand view row (v ∷ vs) each = λ start before h.
    subst (stand start (row (suc (length vs)))) (append_assoc before (view v) (flat_map view vs))
    (follow_all stand view (λ i. row (suc i)) vs (λ i d l. each (suc i) d (omega arith)) start (before ++ view v) (each 0 v (omega arith) start before h))

pub whole_range : {T V : Type 0} (range : ℕ → ℕ → Type 0) (stand : ℕ → ℕ → List T → Type 0) (view : V → List T) (from to : ℕ) (cuts : List ℕ) (answers : List (Option V)) (lists : List V)
    → ArePartEnds range from to cuts → answers ≡ map (λ v. Some v) lists → length answers + 1 ≡ length cuts
    → ((i : ℕ) (d : Option V) → i + 1 < length cuts → IfSome (get_or answers i d) (λ v. Follow stand (slice_index cuts i) (slice_index cuts (i + 1)) (view v))) → Follow stand from to (flat_map view lists)
whole_range {T} {V} range stand view from to cuts answers lists are is number each =
    let count : length lists ≡ length answers = sym (length-map lists (λ (v : V). Some v)) ∙ ap length (sym is) in
    let step : (i : ℕ) (d : V) → i < length lists → Follow stand (slice_index cuts i) (slice_index cuts (suc i)) (view (get_or lists i d)) = λ i d l.
    let at : get_or answers i (Some d) ≡ Some (get_or lists i d) = ap (λ (os : List (Option V)). get_or os i (Some d)) is ∙ get_or-map (λ (v : V). Some v) lists i d (Some d) l in
    let one : Follow stand (slice_index cuts i) (slice_index cuts (i + 1)) (view (get_or lists i d)) =
    subst (λ (o : Option V). IfSome o (λ v. Follow stand (slice_index cuts i) (slice_index cuts (i + 1)) (view v))) at (each i (Some d) (omega (arith, number, count))) in
    subst (λ (k : ℕ). Follow stand (slice_index cuts i) (slice_index cuts k) (view (get_or lists i d))) (add-one i) one in
    let end : slice_index cuts (length lists) ≡ to = ap (λ (k : ℕ). slice_index cuts k) (omega (arith, number, count)) ∙ are.last in
    subst (λ (k : ℕ). Follow stand k to (flat_map view lists)) are.first
    (subst (λ (k : ℕ). Follow stand (slice_index cuts 0) k (flat_map view lists)) end (follow_all stand view (λ i. slice_index cuts i) lists step))

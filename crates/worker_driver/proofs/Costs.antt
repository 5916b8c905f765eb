-- What all tickets cost is what all functions cost.
use Rattle.std.proofs.Common.{◌≡◌, ℕ, ◌+◌, ◌<◌, length, get_or, Option, Some, None, sym, ap, ◌∙◌, subst, arith}
use Rattle.std.proofs.lemmas.Option.{slice_get-get_or}
use Rattle.ir_core.specs.Module.{Function, Module}
use Rattle.ir_core.specs.WellFormed.{DifferentNames}
use Rattle.inline_pass.specs.Inlined.{inlined, all_inlined}
use Rattle.inline_finish.specs.declared.bodies.Policy.{Policy}
use Rattle.inline_finish.specs.Building.{policy_of}
use Rattle.publish_table.specs.Rule.{below}
use Rattle.worker_driver.specs.Turns.{inlined_at}
use Rattle.worker_driver.proofs.Orders.{list_of, many, all_below, once, at_ticket}
use Rattle.worker_driver.proofs.Sums.{below_plus, below_same, below_ones, below_places, below_weights, weight_at, total_all}

module _ (p : Policy) (m : Module) (d : DifferentNames m) where
  abbrev weight : ℕ → ℕ
  weight = weight_at (inlined (policy_of p) m) m

  at_place : (t : ℕ) → t < length m → inlined_at p m t ≡ weight (get_or (list_of m) t 0)
  at_place t l =
      let k : ℕ = get_or (list_of m) t 0 in
      let r = at_ticket m d t k (slice_get-get_or (list_of m) t 0 (subst (λ (n : ℕ). t < n) (sym (many m d)) l)) in
      ap (λ (o : Option Function). elim o as (λ z. ℕ) [ None ↦ 0 | Some f ↦ inlined (policy_of p) m f ]) (r.3 ∙ sym r.1)

  sites : below (inlined_at p m) (length m) ≡ all_inlined (policy_of p) m
  sites =
      below_same (inlined_at p m) (λ t. weight (get_or (list_of m) t 0)) (length m) at_place
      ∙ (ap (below (λ t. weight (get_or (list_of m) t 0))) (sym (many m d))
      ∙ (below_places weight (list_of m)
      ∙ (total_all weight (length m) (list_of m) (all_below m d) (once m d)
      ∙ below_weights (inlined (policy_of p) m) m)))

  pub cost_all : below (λ t. 1 + inlined_at p m t) (length m) ≡ length m + all_inlined (policy_of p) m
  cost_all = let a = below_plus (λ t. 1) (inlined_at p m) (length m) in let b = below_ones (length m) in let c = sites in omega arith

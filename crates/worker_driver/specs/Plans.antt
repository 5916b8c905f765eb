-- How tickets and functions stand to each other: ticket t is the function list[t] of the order.
use Rattle.std.specs.Prelude.{◌≡◌, ℕ, ◌<◌, List, length, slice_get, Some}
use Rattle.ir_core.specs.Module.{Module}
use Rattle.ir_core.specs.WellFormed.{DifferentNames}
use Rattle.call_graph.specs.Calls.{graph_of}
use Rattle.call_graph.specs.Orders.{IsOrderOf}
use Rattle.worker_driver.specs.declared.plan.Plan.{Plan}

-- each number in the list is below its length, and stands there once
pub record IsListing (list : List ℕ) : Type 0 where
  pub below : (t k : ℕ) → slice_get list t ≡ Some k → k < length list
  pub once : (s t k : ℕ) → slice_get list s ≡ Some k → slice_get list t ≡ Some k → s ≡ t

-- for each number in the list the place where it stands
pub record IsInverse (list places : List ℕ) : Type 0 where
  pub long : length places ≡ length list
  pub place : (t k : ℕ) → slice_get list t ≡ Some k → slice_get places k ≡ Some t

-- a plan of a module, whose functions have different names
pub record IsPlanOf (m : Module) (plan : Plan) : Type 0 where
  pub names : DifferentNames m
  pub graph : plan.graph ≡ graph_of m
  pub order : IsOrderOf m plan.order
  pub tickets : IsInverse plan.order.list plan.tickets.items

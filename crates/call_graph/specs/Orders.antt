-- Pieces and the order in use, by the numbers of functions.
use Rattle.std.specs.Prelude.{◌≡◌, map}
use Rattle.ir_core.specs.Module.{Module}
use Rattle.call_graph.specs.declared.ordering.Order.{Order}
use Rattle.call_graph.specs.Calls.{numbers_of}
use Rattle.call_graph.specs.Order.{bottom_up, piece_number}

-- `piece` has the piece number of each function, and `list` the functions in the order in use
pub record IsOrderOf (m : Module) (order : Order) : Type 0 where
  pub piece : order.piece ≡ map (λ f. piece_number m f.name) m
  pub list : order.list ≡ numbers_of m (bottom_up m)

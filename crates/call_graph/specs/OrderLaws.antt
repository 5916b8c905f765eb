-- The law of the order in use.
use Rattle.ir_core.specs.Module.{Module}
use Rattle.ir_core.specs.WellFormed.{DifferentNames}
use Rattle.call_graph.specs.Order.{BottomUp, bottom_up}

-- it has each function of the module once, behind those in other pieces that it calls
abbrev pub OrderIsBottomUp : Type 0
OrderIsBottomUp = (m : Module) → DifferentNames m → BottomUp m (bottom_up m)

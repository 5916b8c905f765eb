-- The values of a list, however it keeps them.
use Rattle.std.specs.Prelude.{ℕ, List, []}
use Rattle.ir_core.specs.declared.values.Items.{Items}
use Rattle.ir_core.specs.declared.values.Items.TheVariants as kept

abbrev pub items_of : Items → List ℕ
items_of kept.None = []
items_of (kept.One values) = values
items_of (kept.Two values) = values
items_of (kept.Three values) = values
items_of (kept.Many values) = values.value.items

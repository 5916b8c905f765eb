-- The items of a list, however it keeps them.
use Rattle.std.specs.Prelude.{List}
use Rattle.containers.specs.declared.few.OneOrMany.{OneOrMany}
use Rattle.containers.specs.declared.few.OneOrMany.TheVariants as form

abbrev pub items_of : {T : Type 0} → OneOrMany T → List T
items_of (form.One items) = items
items_of (form.Many items) = items.items

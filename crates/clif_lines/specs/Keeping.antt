-- Numbers of the text that keep their limits.
use Rattle.std.specs.Prelude.{List, IsTrue}
use Rattle.ir_core.specs.Lists.{Each}
use Rattle.clif_names.specs.declared.limits.Limited.{Limited}
use Rattle.clif_names.specs.Limits.{keeps}

abbrev pub Keeps : Limited → Type 0
Keeps n = IsTrue (keeps n.limit n.value)

abbrev pub AllKeep : List Limited → Type 0
AllKeep ns = Each Keeps ns

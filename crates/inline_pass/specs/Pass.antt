-- The pass as it is carried out: the functions in an order, each with the bodies that its callees have by then.
use Rattle.std.specs.Prelude.{List, [], ◌∷◌, Some, None}
use Rattle.ir_core.specs.declared.names.FuncName.{FuncName}
use Rattle.ir_core.specs.Module.{Function, Module}
use Rattle.ir_core.specs.Lookup.{find_function}
use Rattle.ir_semantics.specs.Splice.{replace}
use Rattle.inline_pass.specs.Policy.{Policy}
use Rattle.inline_pass.specs.Finished.{body_of, finish_by}

abbrev pub finish : Policy → Module → Module → Function → Function
finish p pieces m f = finish_by (body_of pieces m f.name) p f

abbrev pub pass_by : Policy → Module → List FuncName → Module → Module
pass_by p pieces [] m = m
pass_by p pieces (x ∷ xs) m =
    elim (find_function x m) [
      | None ↦ pass_by p pieces xs m
      | Some f ↦ pass_by p pieces xs (replace (finish p pieces m f) m)
    ]

abbrev pub pass : Policy → List FuncName → Module → Module
pass p order m = pass_by p m order m

use Rattle.std.proofs.Common.{◌≡◌, arith, ◌<◌, length, refl, sym, ap, Some, ◌∙◌}
use Rattle.std.specs.Prelude.{slice_get}
use Rattle.std.proofs.lemmas.List.{length-map}
use Rattle.std.proofs.lemmas.Option.{slice_get_read}
use Rattle.ir_core.specs.Sound.{IsWhole}
use Rattle.ir_core.specs.WellFormed.{WellFormed}
use Rattle.ir_core.specs.Named.{function_in}
use Rattle.ir_core.proofs.Indexing.{each_mapped}
use Rattle.ir_core.proofs.module.Module.func.Goals as goal
use Rattle.ir_core.proofs.module.Module.func.Goals.{After-get}

place : (c : After-get) → slice_get c.self.inside.funcs.items c.args.i ≡ Some c.get.result.now
place c =
    let within : c.args.i < length c.self.inside.funcs.items = omega (arith, c.requires, ap length c.self.view_is, length-map c.self.inside.funcs.items function_in) in
    slice_get_read c.self.inside.funcs.items (length c.self.inside.funcs.items) c.args.i c.index.result.now refl within c.index.ensures ∙ ap Some (sym c.get.ensures)

pub returns-clause-whole : goal.returns-clause-whole
returns-clause-whole c = each_mapped WellFormed function_in c.self.inside.funcs.items c.args.i c.get.result.now c.self.invariant.functions.whole (place c)

pub returns-clause-defined : goal.returns-clause-defined
returns-clause-defined c = each_mapped IsWhole function_in c.self.inside.funcs.items c.args.i c.get.result.now c.self.invariant.defined (place c)

use Rattle.std.proofs.Common.{◌≡◌, ◌<◌, List, length, Some, refl, sym, ap, ◌∙◌, subst, arith}
use Rattle.std.specs.Prelude.{slice_get}
use Rattle.std.specs.declared.sync.Arc.{Arc}
use Rattle.std.specs.declared.alloc.Global.{Global}
use Rattle.std.proofs.lemmas.List.{length-map}
use Rattle.std.proofs.lemmas.Option.{slice_get_read}
use Rattle.ir_core.specs.Module.{Function}
use Rattle.ir_core.specs.WellFormed.{WellFormed}
use Rattle.ir_core.proofs.Indexing.{each_mapped}
use Rattle.inline_pass.proofs.Gathering.{whole_of}
use Rattle.inline_finish.specs.declared.bodies.Built.{Built}
use Rattle.worker_driver.specs.Gathered.{function_in}
use Rattle.worker_driver.proofs.Gathered.{function_at}
use Rattle.worker_driver.proofs.finished.Finished.func.Goals.{After-values-count}
use Rattle.worker_driver.proofs.finished.Finished.func.Goals as goal

stands : (c : After-values-count) → slice_get c.self.inside.bodies.items c.args.place ≡ Some c.index.result.now
stands c =
    let bodies : List (Arc Built Global) = c.self.inside.bodies.items in
    let within : c.args.place < length bodies = omega (arith, c.requires, ap length c.self.view_is, length-map bodies function_in) in
    slice_get_read bodies (length bodies) c.args.place c.index.result.now refl within c.index.ensures

pub returns-clause-same : goal.returns-clause-same
returns-clause-same c =
    ap (λ (fs : List Function). slice_get fs c.args.place) (sym c.self.view_is)
    ∙ (function_at c.self.inside.bodies.items c.args.place c.index.result.now (stands c) ∙ ap (λ (b : Built). Some b.func.function) (sym c.deref.ensures))

pub returns-clause-whole : goal.returns-clause-whole
returns-clause-whole c =
    let formed : WellFormed (function_in c.index.result.now) =
    each_mapped WellFormed function_in c.self.inside.bodies.items c.args.place c.index.result.now c.self.invariant (stands c) in
    whole_of c.deref.result.now.func.function c.values-count.ensures.sound (subst (λ (b : Built). WellFormed b.func.function) (sym c.deref.ensures) formed)

use Rattle.std.proofs.Common.{arith, ◌<◌, length, refl, sym, ap, ◌∙◌}
use Rattle.std.specs.List.{enumerate_from}
use Rattle.std.proofs.lemmas.Option.{slice_get_read}
use Rattle.ir_core.specs.Lookup.{type_of, type_in}
use Rattle.ir_core.proofs.Keeping.{length_numbered}
use Rattle.ir_core.proofs.Walking.{type_found}
use Rattle.ir_core.proofs.func.Func.ty.Goals as goal

pub index-requires : goal.index-requires
index-requires c = omega (arith, c.requires, c.number.ensures, ap (λ z. length z.function.types) c.self.view_is, length_numbered 0 c.self.inside.types.items, c.self.inside.types.ok.0)

pub returns : goal.returns
returns c =
    let within : c.number.result < length c.self.inside.types.items = omega (arith, c.requires, c.number.ensures, ap (λ z. length z.function.types) c.self.view_is, length_numbered 0 c.self.inside.types.items) in
    ap (λ z. type_of z.function c.args.value) (sym c.self.view_is)
    ∙ (ap (type_in (enumerate_from 0 c.self.inside.types.items)) (sym c.number.ensures)
    ∙ (type_found 0 c.number.result c.number.result c.self.inside.types.items (omega arith)
    ∙ slice_get_read c.self.inside.types.items (length c.self.inside.types.items) c.number.result c.index.result.now refl within c.index.ensures))

use Rattle.std.proofs.Common.{List, ◌≡◌, Some, sym, ap, subst, ◌∙◌}
use Rattle.std.specs.Prelude.{slice_get}
use Rattle.ir_core.specs.Module.{Function}
use Rattle.sig_numbers.specs.declared.tables.SigEntry.{SigEntry}
use Rattle.sig_numbers.specs.Known.{module_of}
use Rattle.sig_numbers.specs.Tables.{AreEntries}
use Rattle.sig_numbers.proofs.Tabled.{table_at}
use Rattle.sig_numbers.proofs.sigs.ModuleSigs.func.Goals as goal

pub invariant_of-result : goal.invariant_of-result
invariant_of-result c =
    let stands : slice_get c.args.self.now c.args.i ≡ Some c.func.result.now.function = sym (ap (λ (z : List Function). slice_get z c.args.i) c.self.view_is) ∙ c.func.ensures.at in
    record {
      number = c.self.invariant.number;
      tells = c.self.invariant.tells;
      entries = subst (λ (es : List SigEntry). AreEntries c.self.invariant.number c.func.result.now.function es) (sym c.as_slice.ensures.value) (table_at (module_of c.self.inside) c.args.self.now c.self.inside.tables.items c.self.invariant c.self.view_is c.args.i c.requires c.index.result.now c.index.ensures c.func.result.now.function stands).entries;
    }

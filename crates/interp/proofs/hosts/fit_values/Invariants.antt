use Rattle.std.proofs.Common.{◌≡◌, Some, drop}
use Rattle.clk_num.specs.Views.{data_of_all}
use Rattle.ir_core.specs.Lookup.{param_types}
use Rattle.ir_semantics.specs.Values.{join, values_for}
use Rattle.interp.proofs.hosts.fit_values.Given as goal

abbrev pub invariant-params : goal.invariant-params
invariant-params l = join (Some (data_of_all l.out.items)) (values_for (param_types (drop l.i l.params)) (drop l.i l.numbers)) ≡ values_for (param_types l.params) l.numbers

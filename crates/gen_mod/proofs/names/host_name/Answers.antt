use Rattle.std.proofs.Common.{◌∙◌, ap}
use Rattle.ir_core.specs.declared.names.FuncName.TheVariants.{Text}
use Rattle.gen_mod.proofs.names.host_name.Goals as goal

pub returns : goal.returns
returns c = ap Text (c.in_ok-from_slice.ensures ∙ c.as_slice.ensures)

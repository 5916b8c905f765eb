use Rattle.std.proofs.Common.{sym, ap, arith}
use Rattle.clif_meaning.specs.Instructions.{known}
use Rattle.clif_resolve.proofs.TypesAlong.{none_past}
use Rattle.clif_resolve.proofs.types.find_type.Goals as goal

pub returns-else-number-values : goal.returns-else-number-values
returns-else-number-values c = ap known (sym (none_past c.args.func.now.function c.values.ensures.sound c.args.value (omega arith)))

use Rattle.std.proofs.Common.{ℕ, List, length, sym, subst}
use Rattle.ir_core.specs.Lists.{Below}
use Rattle.avail_flow.proofs.Defining.{params_below}
use Rattle.ir_check.proofs.early.has_entry_types.Goals as goal

pub have_param_types-requires : goal.have_param_types-requires
have_param_types-requires c = record { inside = subst (λ (z : List ℕ). Below (length c.args.func.now.function.types) z) (sym c.params.ensures) (params_below c.args.func.now.function c.requires.sound c.args.block c.requires.there) }

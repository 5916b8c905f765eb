use Rattle.clif_meaning.proofs.LimitLaws.{name_kept}
use Rattle.clif_resolve.proofs.DeclaredLaws.{undeclared_by}
use Rattle.clif_resolve.proofs.functions.undeclared.Goals as goal

pub func_name-requires : goal.func_name-requires
func_name-requires c = name_kept c.args.raw.now c.requires

pub returns : goal.returns
returns c = undeclared_by c.args.raw.now _ _ _ c.in_ok-name.ensures c.in_ok-sig.ensures c.in_ok-func.ensures

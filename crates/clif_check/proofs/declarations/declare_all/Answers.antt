use Rattle.std.proofs.Common.{sym, ◌∙◌}
use Rattle.clif_check.proofs.HeadLaws.{all_declare}
use Rattle.clif_check.proofs.declarations.declare_all.Goals as goal

pub returns-clause-declared : goal.returns-clause-declared
returns-clause-declared g c =
    λ yes. all_declare c.read_by_workers.result (λ v. v.items) (g.N.Named.functions c.args.all.now) c.count.result c.count.ensures.count
    c.read_by_workers.ensures (sym c.is_some.ensures ∙ yes)

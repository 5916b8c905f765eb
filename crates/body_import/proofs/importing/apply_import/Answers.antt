use Rattle.std.proofs.Common.{length, ap, refl, ◌∙◌}
use Rattle.body_import.proofs.Applied.{appended, maps_are}
use Rattle.body_import.proofs.importing.apply_import.Goals as goal

pub returns-clause-imported : goal.returns-clause-imported
returns-clause-imported c = λ g is. c.append.ensures.body ∙ appended c.args.caller.now.function g c.args.plan c.args.slots c.args.values is

pub returns-clause-maps : goal.returns-clause-maps
returns-clause-maps c = λ g is. maps_are c.args.caller.now.function g c.args.plan c.args.slots c.args.values is _ (ap length c.slots.ensures) c.values-value_base.ensures.count refl refl

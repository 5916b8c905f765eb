use Rattle.clif_check.proofs.MeantLaws.{text_kept}
use Rattle.clif_check.proofs.stretches.read_parts.Goals as goal

pub returns-clause-kept : goal.returns-clause-kept
returns-clause-kept g c = text_kept c.args.part c.args.text.now c.in_ok-kept.kept.items c.in_ok-kept.ensures

use Rattle.body_import.proofs.Planned.{indexed}
use Rattle.body_import.proofs.declarations.key_declarations.Goals as goal

pub returns : goal.returns
returns c = indexed c.args.func.now.function c.in_ok-sigs.sigs c.in_ok-callees.callees c.sigs.result.now c.sigs-2.result.now c.callees.result.now c.in_ok-first.first c.as_slice.result.now c.sigs.ensures c.sigs-2.ensures c.callees.ensures c.as_slice.ensures c.values.ensures.sound.callees c.in_ok-sigs.ensures c.in_ok-first.ensures.places c.in_ok-callees.ensures

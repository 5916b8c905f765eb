use Rattle.clif_resolve.proofs.BlockWords.{text_has_blocks}
use Rattle.clif_check.proofs.Stages.{accepted_text, fault_of_text, unread_is_fault}
use Rattle.clif_check.proofs.checking.check_text_alone.Goals as goal

pub check_raw-requires : goal.check_raw-requires
check_raw-requires c = text_has_blocks _ (c.args.text.now, c.in-Ok.ensures.found)

pub returns-in-Ok-clause-accepted : goal.returns-in-Ok-clause-accepted
returns-in-Ok-clause-accepted c = accepted_text c.args.text.now _ c.check_raw.result c.in-Ok.ensures.found c.check_raw.ensures.accepted

pub returns-in-Ok-clause-fault : goal.returns-in-Ok-clause-fault
returns-in-Ok-clause-fault c = fault_of_text c.args.text.now _ c.check_raw.result c.in-Ok.ensures.found c.check_raw.ensures.fault

pub returns-in-Err-clause-fault : goal.returns-in-Err-clause-fault
returns-in-Err-clause-fault c = unread_is_fault c.args.text.now _ c.in-Err.ensures.fault

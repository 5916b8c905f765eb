use Rattle.clif_insts.proofs.Choice.{at_end}
use Rattle.clif_insts.proofs.forms.read_inst.Goals as goal

pub returns-in-None-clause-is : goal.returns-in-None-clause-is
returns-in-None-clause-is c = at_end c.args.opening c.next_class.result c.args.reader.now c.in-None.is c.next_class.ensures

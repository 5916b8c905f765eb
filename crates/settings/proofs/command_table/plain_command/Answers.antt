use Rattle.std.proofs.Common.{ap}
use Rattle.clap.specs.Words.{App}
use Rattle.settings.proofs.command_table.plain_command.Goals as goal

pub returns : goal.returns
returns c = (ap (λ (a : App). a.top) c.new_command.ensures.0, c.new_command.ensures.1)

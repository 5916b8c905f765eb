use Rattle.std.proofs.Common.{arith}
use Rattle.avail_flow.proofs.Blocks.{stands}
use Rattle.avail_flow.proofs.definitions.read_definitions.Goals as goal

pub note_block-requires-clause-there : goal.note_block-requires-clause-there
note_block-requires-clause-there c = stands c.args.func.now.function c.args.first c.loop-p.p c.requires.sound c.requires.first (omega arith)

use Rattle.clif_words.specs.declared.opcodes.OpcodeRow.{OpcodeRow}
use Rattle.clif_words.specs.Opcodes.{word, with_immediate}
use Rattle.clif_words.specs.OpcodeForms.{form}
use Rattle.clif_words.proofs.OpcodePlaces.{row_at}
use Rattle.clif_words.proofs.opcodes.Opcode.row.Goals as goal

pub returns-clause-spelling : goal.returns-clause-spelling
returns-clause-spelling c = row_at (λ (row : OpcodeRow). row.0.now) word c.list_opcode_rows.result.now _ c.args.self _ c.place.ensures c.list_opcode_rows.ensures.spelled

pub returns-clause-form : goal.returns-clause-form
returns-clause-form c = row_at (λ (row : OpcodeRow). row.2) form c.list_opcode_rows.result.now _ c.args.self _ c.place.ensures c.list_opcode_rows.ensures.forms

pub returns-clause-immediate : goal.returns-clause-immediate
returns-clause-immediate c = row_at (λ (row : OpcodeRow). row.3) with_immediate c.list_opcode_rows.result.now _ c.args.self _ c.place.ensures c.list_opcode_rows.ensures.immediates

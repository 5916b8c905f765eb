use Rattle.text_output.proofs.Puts.{◌▸◌}
use Rattle.clif_words.proofs.Printed.{value_word}
use Rattle.clif_print.proofs.instructions.put_pure.Goals as goal

pub returns : goal.returns
returns g c =
    rw (value_word c.args.op, ← c.of.ensures)
    (c.put_opcode.ensures ▸ c.put_op_suffix.ensures ▸ c.put_condition.ensures ▸ c.put_operands.ensures)

use Rattle.text_output.proofs.Puts.{◌▸◌}
use Rattle.clif_words.proofs.Printed.{value_word}
use Rattle.clif_print.proofs.instructions.put_pure_imm.Goals as goal

pub returns : goal.returns
returns g c =
    rw (value_word c.args.op, ← c.of.ensures)
    ((c.put_opcode.ensures ▸ c.put.ensures) ▸ c.put_suffix_if.ensures ▸ c.put_condition.ensures ▸ c.put-2.ensures ▸ c.put_value.ensures ▸ c.put-3.ensures ▸ c.put_constant.ensures)

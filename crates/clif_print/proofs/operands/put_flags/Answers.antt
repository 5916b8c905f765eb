use Rattle.text_output.proofs.Puts.{◌▸◌}
use Rattle.clif_print.proofs.operands.put_flags.Goals as goal

pub returns : goal.returns
returns g c =
    c.put_flag.ensures ▸ c.put_flag-2.ensures ▸ c.put_flag-3.ensures ▸ c.put_flag-4.ensures ▸ c.put_flag-5.ensures ▸ c.put_flag-6.ensures ▸ c.put_flag-7.ensures ▸ c.put_flag-8.ensures
    ▸ c.put_flag-9.ensures

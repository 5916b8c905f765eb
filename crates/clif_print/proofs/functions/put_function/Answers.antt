use Rattle.std.proofs.Common.{subst}
use Rattle.ir_text.specs.Numbering.{Numbering}
use Rattle.ir_text.specs.TextTree.{spelled}
use Rattle.ir_text.specs.Text.{blocks}
use Rattle.text_output.specs.Output.{Puts}
use Rattle.text_output.proofs.Puts.{◌▸◌}
use Rattle.clif_print.proofs.functions.put_function.Goals as goal

pub returns : goal.returns
returns g c =
    let name = rw c.name.ensures.value at c.put_name.ensures in
    let sig = rw c.sig.ensures at c.put_signature.ensures in
    let slots = rw c.slots.ensures at c.put_declarations.ensures in
    let sigs = rw c.sigs.ensures at c.put_declarations-2.ensures in
    let callees = rw c.callees.ensures at c.put_declarations-3.ensures in
    let last =
    subst (λ (n : Numbering). Puts g.O.Output.holds c.put_gap.new.out c.put_blocks.new.out (spelled (blocks c.args.func.now.function n c.args.func.now.function.blocks))) c.requires
    c.put_blocks.ensures in
    c.put.ensures ▸ name ▸ sig ▸ c.put-2.ensures ▸ slots ▸ sigs ▸ callees ▸ c.put_gap.ensures ▸ last ▸ c.put-3.ensures

use Rattle.canonical_text.proofs.PrintedLaws.{puts_found}
use Rattle.canonical_text.proofs.functions.put_meant.Goals as goal

pub put_checked-requires : goal.put_checked-requires
put_checked-requires g c = rw c.in-Ok-Some.field-0-is at c.in-Ok-Some.ensures.whole

pub returns : goal.returns
returns g c =
    puts_found g.O.Output.holds c.args.out.now c.put_checked.new.out c.args.raw.now c.in-Ok-Some.func.function c.put_checked.result (rw c.in-Ok-Some.field-0-is at c.in-Ok-Some.ensures.free)
    (rw c.in-Ok-Some.field-0-is at c.in-Ok-Some.ensures.meant) (rw c.in-Ok-Some.field-0-is at c.in-Ok-Some.ensures.whole)
    c.put_checked.ensures.own c.put_checked.ensures.head c.put_checked.ensures.text

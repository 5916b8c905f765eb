use Rattle.clif_check.proofs.MeantLaws.{kept_found}
use Rattle.clif_check.proofs.parts.keep_function.Goals as goal

pub returns : goal.returns
returns c =
    kept_found c.args.part c.args.raw.now c.in-Ok-Some.func.function c.keep_part.result (rw c.in-Ok-Some.field-0-is at c.in-Ok-Some.ensures.free)
    (rw c.in-Ok-Some.field-0-is at c.in-Ok-Some.ensures.meant) (rw c.in-Ok-Some.field-0-is at c.in-Ok-Some.ensures.whole)
    c.keep_part.ensures.own c.keep_part.ensures.kept

pub keep_part-requires : goal.keep_part-requires
keep_part-requires c = rw c.in-Ok-Some.field-0-is at c.in-Ok-Some.ensures.whole

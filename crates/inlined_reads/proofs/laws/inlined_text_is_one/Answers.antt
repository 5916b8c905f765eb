-- inlined_text_is_one
use Rattle.std.proofs.Common.{sym}
use Rattle.inline_pass.specs.Finished.{passed}
use Rattle.inlined_reads.proofs.laws.inlined_text_is_one.Goals as goal

pub returns : goal.returns
returns c = λ p m r same. sym (c.numbering_keeps_text.ensures (passed p m) r same)

-- canonical_keeps_text
use Rattle.std.proofs.Common.{sym}
use Rattle.ir_semantics.specs.Canon.{canonical_module}
use Rattle.printed_reads.proofs.laws.canonical_keeps_text.Goals as goal

pub returns : goal.returns
returns c = λ m is. sym (c.numbering_keeps_text.ensures m (canonical_module m) (c.canonical_module_is_same.ensures m is.whole))

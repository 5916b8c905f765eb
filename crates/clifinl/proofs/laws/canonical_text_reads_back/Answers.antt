-- canonical_text_reads_back
use Rattle.ir_semantics.specs.Canon.{canonical_module}
use Rattle.clifinl.proofs.laws.canonical_text_reads_back.Goals as goal

pub returns : goal.returns
returns c = λ m is writable accepted. record {
  reads = c.canonical_text_reads_as_canonical.ensures m is writable;
  nothing_else = c.canonical_text_reads_as_nothing_else.ensures m is writable;
  accepted = (c.numbering_keeps_acceptance.ensures m (canonical_module m) (c.canonical_module_is_same.ensures m is.whole) is accepted).1;
}

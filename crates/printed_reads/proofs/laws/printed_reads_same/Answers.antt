-- printed_reads_same
use Rattle.std.proofs.Common.{sym, subst}
use Rattle.ir_semantics.specs.Canon.{SameUpToNumbering}
use Rattle.printed_reads.proofs.laws.printed_reads_same.Goals as goal

pub returns : goal.returns
returns c = λ text m n read again.
    let is = c.read_is_module.ensures text m read in
    let canonical = c.canonical_text_reads_as_nothing_else.ensures m is (c.read_is_writable.ensures text m read) n again in
    subst (SameUpToNumbering m) (sym canonical) (c.canonical_module_is_same.ensures m is.whole)

-- inlined_text_is_kept
use Rattle.ir_semantics.specs.Canon.{canonical_module, SameUpToNumbering}
use Rattle.inline_pass.specs.Finished.{passed}
use Rattle.inlined_reads.proofs.laws.inlined_text_is_kept.Goals as goal

pub returns : goal.returns
returns c = λ p small text m read accepted.
    let is = c.read_is_module.ensures text m read in
    let writable = c.read_is_writable.ensures text m read in
    let finished = c.finished_stay_accepted.ensures p m is accepted in
    let kept = c.finished_stay_writable.ensures p small m is accepted writable in
    let same = c.canonical_module_is_same.ensures (passed p m) finished.0.whole in
    record {
      reads = c.canonical_text_reads_as_canonical.ensures (passed p m) finished.0 kept;
      nothing_else = c.canonical_text_reads_as_nothing_else.ensures (passed p m) finished.0 kept;
      accepted = (c.renumbered_finished_stay_accepted.ensures p m (canonical_module (passed p m)) is accepted same).1;
      same = c.finished_keep.ensures p m is accepted;
      read_same = c.renumbered_finished_keep.ensures p m (canonical_module (passed p m)) is accepted same;
    }

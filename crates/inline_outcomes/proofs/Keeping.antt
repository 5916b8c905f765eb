-- The laws, from the parts.
use Rattle.std.proofs.Common.{sym, subst}
use Rattle.ir_core.specs.Module.{Module}
use Rattle.ir_semantics.specs.Same.{Same}
use Rattle.ir_core.specs.WellFormed.{IsModule}
use Rattle.ir_semantics.specs.Accepted.{Accepted}
use Rattle.ir_semantics.specs.NeverStuck.{NeverStuck}
use Rattle.inline_outcomes.specs.Laws.{RunsKept, SpliceKeepsRuns, SpliceKeeps, NumberingKeeps}
use Rattle.inline_outcomes.proofs.Related.{Distinct}
use Rattle.inline_outcomes.proofs.Linking.{distinct_sides, splice_runs}
use Rattle.inline_outcomes.proofs.Numbering.{numbering_keeps_runs}

pub splice_keeps_runs : SpliceKeepsRuns
splice_keeps_runs m p named site entry args w safe written =
    let s = splice_runs m p (subst Distinct (sym named) distinct_sides) site entry args w safe written in
    (s.forth, s.back)

-- ---- from runs that lack nothing to entry calls of accepted modules

pub same_of : NeverStuck → (m r : Module) → IsModule m → Accepted m → RunsKept m r → Same m r
same_of never m r whole accepted kept =
    record {
      forth = λ entry args w is written. (kept entry args w (never m whole accepted entry args w is) written).0;
      back = λ entry args w is written. (kept entry args w (never m whole accepted entry args w is) written).1;
    }

pub splice_keeps : NeverStuck → SpliceKeeps
splice_keeps never m whole accepted p named site =
    record {
      forth = λ entry args w is written. (splice_keeps_runs m p named site entry args w (never m whole accepted entry args w is) written).0;
      back = λ entry args w is written. (splice_keeps_runs m p named site entry args w (never m whole accepted entry args w is) written).1;
    }

pub numbering_keeps : NeverStuck → NumberingKeeps
numbering_keeps never m r whole accepted same = same_of never m r whole accepted (numbering_keeps_runs m r same)

use Rattle.std.proofs.Common.{List, ℕ, ap}
use Rattle.ir_text.specs.TextTree.{spelled}
use Rattle.text_output.proofs.Puts.{goes, ◌▸◌}
use Rattle.program_run.specs.RunText.{more_bytes}
use Rattle.program_run.proofs.bytes.put_more_bytes.Goals as goal

pub bytes-preserved : goal.bytes-preserved
bytes-preserved g c = goes _ c.bytes.invariant (ap (λ (l : List ℕ). spelled (more_bytes l)) c.in-Some.ensures.cases.0) (c.put.ensures ▸ c.put_byte.ensures)

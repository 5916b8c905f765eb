-- The pass and finished bodies stay accepted and writable, since a splice does.
use Rattle.std.proofs.Common.{◌≤◌, List}
use Rattle.ir_core.specs.declared.names.FuncName.{FuncName}
use Rattle.ir_core.specs.Module.{Module}
use Rattle.ir_core.specs.WellFormed.{IsModule}
use Rattle.ir_semantics.specs.Accepted.{Accepted}
use Rattle.ir_text.specs.Writable.{Writable}
use Rattle.inline_acceptance.proofs.KeptModules.{splice_accepted}
use Rattle.inline_acceptance.proofs.KeptWritable.{splice_writable}
use Rattle.inline_acceptance.proofs.KeptCanon.{numbering_accepted}
use Rattle.inline_acceptance.proofs.KeptSizes.{numbering_writable}
use Rattle.inline_pass.specs.Finished.{passed}
use Rattle.inline_pass.specs.Pass.{pass}
use Rattle.inline_pass.specs.FinishedAcceptance.{FinishedAccepted, FinishedWritable, RenumberedFinishedAccepted, RenumberedFinishedWritable}
use Rattle.inline_pass.specs.Policy.{Policy}
use Rattle.inline_pass.proofs.Holding as holding

pub pass_accepted : (p : Policy) (order : List FuncName) (m : Module) → IsModule m → Accepted m → IsModule (pass p order m) × Accepted (pass p order m)
pass_accepted = holding.pass_accepted splice_accepted

pub pass_writable : (p : Policy) → p.caller_size ≤ 262144 → (order : List FuncName) (m : Module) → IsModule m → Accepted m → Writable m → Writable (pass p order m)
pass_writable = holding.pass_writable splice_accepted splice_writable

pub finished_accepted : FinishedAccepted
finished_accepted = holding.finished_accepted splice_accepted

pub renumbered_finished_accepted : RenumberedFinishedAccepted
renumbered_finished_accepted p m r whole accepted same =
    let a = finished_accepted p m whole accepted in
    numbering_accepted (passed p m) r same a.0 a.1

pub finished_writable : FinishedWritable
finished_writable = holding.finished_writable splice_accepted splice_writable

pub renumbered_finished_writable : RenumberedFinishedWritable
renumbered_finished_writable p limit m r whole accepted written same = numbering_writable (passed p m) r same (finished_writable p limit m whole accepted written)

-- A declared signature is the same as itself.
use Rattle.std.proofs.Common.{◌≡◌, Option, Some, None, true, refl}
use Rattle.ir_core.specs.declared.signatures.Sig.{Sig}
use Rattle.ir_core.proofs.Equal.{sig_same}
use Rattle.ir_semantics.specs.Import.{same_sigs}

pub same_sigs_self : (o : Option Sig) → same_sigs o o ≡ true
same_sigs_self None = refl
same_sigs_self (Some s) = sig_same s

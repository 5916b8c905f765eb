use Rattle.std.proofs.Common.{◌≡◌, ℕ, List, Option, length, sym, ap, ◌∙◌}
use Rattle.std.proofs.lemmas.List.{length-map}
use Rattle.ir_core.specs.Edits.{head_of}
use Rattle.ir_core.specs.Module.{Function, Module}
use Rattle.clif_check.specs.Faults.{IsAccepted}
use Rattle.clif_check.specs.Heads.{IsAcceptedHeads}
use Rattle.clifinl.specs.Runs.{Took}
use Rattle.clifinl.proofs.Runs.{honest, stopped, written}
use Rattle.clifinl.proofs.commands.check.Goals as goal

-- where heads were taken, a module with as many functions was
took_module : (before after : Option (List ℕ)) (heads : Module) → Took IsAcceptedHeads before after heads → (m : Module) × Took IsAccepted before after m × (length m ≡ length heads)
took_module before after heads took =
    let (m, accepted, headed) = took.takes in
    let long : length m ≡ length heads = sym (length-map m head_of) ∙ (sym (ap (λ (fs : List Function). length fs) headed) ∙ length-map heads head_of) in
    (m, record { bytes = took.bytes; whole = took.whole; takes = accepted }, long)

pub returns-in-Ok-clause-run : goal.returns-in-Ok-clause-run
returns-in-Ok-clause-run g c =
    let (m, took, long) = took_module _ _ c.in-Ok.heads c.in-Ok.ensures.read in
    let count : length c.funcs.result.now ≡ length m = sym (length-map c.funcs.result.now (λ b. b.function)) ∙ (ap (λ (fs : List Function). length fs) c.funcs.ensures.functions ∙ sym long) in
    written _ _ _ _ _ _ _ took (rw count at c.write_count-status.ensures.wrote)

pub returns-in-Err-clause-run : goal.returns-in-Err-clause-run
returns-in-Err-clause-run g c = stopped _ _ _ _ _ honest _ c.in-Err.ensures.stopped

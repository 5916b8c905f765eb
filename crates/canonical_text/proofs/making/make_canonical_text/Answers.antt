use Rattle.std.proofs.Common.{◌≡◌, ℕ, List, Result, Ok, Err, sym, ap, subst, ◌∙◌}
use Rattle.std.specs.Prelude.{IfErr}
use Rattle.clif_lex.specs.declared.faults.TextErr.{TextErr}
use Rattle.clif_lex.specs.declared.faults.TextErr.TheVariants as errors
use Rattle.ir_text.specs.Text.{text_of}
use Rattle.clif_check.specs.Faults.{IsFault}
use Rattle.std.proofs.lemmas.Result.{IfOk-weaker}
use Rattle.canonical_text.proofs.making.make_canonical_text.Goals as goal

-- want of memory is no fault of the text
memory_is_fault : {T : Type 0} (text : List ℕ) (r : Result T TextErr) → IfErr r (λ e. e ≡ errors.NoMemory) → IfErr r (λ e. IsFault text e)
memory_is_fault text (Ok v) h = tt
memory_is_fault text (Err e) h = subst (IsFault text) (sym h) tt

pub returns-in-Ok-clause-accepted : goal.returns-in-Ok-clause-accepted
returns-in-Ok-clause-accepted g c =
    IfOk-weaker c.print_alone.result _ _ (λ written is. (c.in-Ok.checked, c.in-Ok.ensures.accepted, is ∙ ap text_of c.module.ensures.same)) c.print_alone.ensures.text

pub returns-in-Ok-clause-fault : goal.returns-in-Ok-clause-fault
returns-in-Ok-clause-fault g c = memory_is_fault c.args.text.now c.print_alone.result c.print_alone.ensures.memory

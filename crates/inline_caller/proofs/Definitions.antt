-- A splice under the code's numbers is that of the definition up to numbering.
use Rattle.std.proofs.Common.{◌≡◌, sym, ◌∙◌, subst}
use Rattle.ir_core.specs.Module.{Function}
use Rattle.ir_core.specs.Sound.{IsSound, IsWhole}
use Rattle.ir_core.specs.Edits.{lines_of}
use Rattle.ir_semantics.specs.Canon.{SameFunction}
use Rattle.ir_semantics.specs.Splice.{Splicing, sides, spliced}
use Rattle.avail_flow.proofs.Blocks.{line_found, found_parts}
use Rattle.inline_acceptance.specs.Alone.{CallSite, AloneParts}
use Rattle.inline_numbering.proofs.AnyNumbers.{splice_of_any_numbers}
use Rattle.inline_body.specs.PlainCall.{splicing_at}
use Rattle.inline_body.proofs.Ready.{spliced_at}
use Rattle.ir_core.proofs.Cutting.{cut_list}
use Rattle.inline_caller.specs.Laws.{SpliceIsDefinitions}

pub splice_is_definitions : SpliceIsDefinitions
splice_is_definitions f g h at calls wf wg af ag is sound =
    let q : Splicing = splicing_at is.naming f g at calls.line in
    let b = line_found at.block f.blocks at.index calls.line calls.found in
    let lines : lines_of at.block f.blocks ≡ b.0.lines = (found_parts at.block f.blocks b.0 b.1).1 in
    let e : h ≡ spliced q = is.is ∙ sym (spliced_at is.naming f g at calls.line calls.there.0 calls.found) in
    let site : CallSite q = record {
      block = b.0;
      block_found = b.1;
      lines = sym lines ∙ cut_list (lines_of at.block f.blocks) at.index calls.line calls.found;
      callee = calls.callee;
      is_call = calls.is_call;
      declared = calls.declared;
      declared_found = calls.declared_found;
      signature = calls.signature;
    } in
    let parts : AloneParts q = record { caller_whole = wf; callee_whole = wg; caller_accepted = af; callee_accepted = ag } in
    let r = splice_of_any_numbers q site parts (subst IsSound e sound) in
    (subst IsWhole (sym e) r.0, subst (λ (z : Function). SameFunction z h) (spliced_at sides f g at calls.line calls.there.0 calls.found) (subst (λ (z : Function). SameFunction (spliced (splicing_at sides f g at calls.line)) z) (sym e) r.1))

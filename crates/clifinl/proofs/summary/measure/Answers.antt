use Rattle.std.proofs.Common.{arith, ◌≡◌, ◌∙◌, ◌+◌, length, sym, ap, ap₂}
use Rattle.ir_core.specs.Size.{size_of, total}
use Rattle.inline_pass.specs.Finished.{passed}
use Rattle.inline_pass.specs.Inlined.{all_inlined}
use Rattle.inline_pass.specs.Policy.{Policy}
use Rattle.settings.specs.Shown.{inline_shown}
use Rattle.clifinl.specs.GenCommand.{sites_in}
use Rattle.clifinl.specs.InlineCommand.{policy_of}
use Rattle.clifinl.proofs.Bounds.{few_inlined}
use Rattle.clifinl.proofs.Measures.{one_summary, one_total}
use Rattle.clifinl.proofs.summary.measure.Goals as goal

pub overflow_add-summary : goal.overflow_add-summary
overflow_add-summary g c =
    let m = c.args.checked.now in
    omega (
      arith,
      c.in_ok-passed.ensures.inlined,
      few_inlined (policy_of (inline_shown c.args.options.now)) m c.requires.functions,
      c.requires.count,
      c.len-2.ensures.count ∙ ap length c.module-module.ensures.same,
    )

pub returns-clause-summary : goal.returns-clause-summary
returns-clause-summary g c =
    let p : Policy = policy_of (inline_shown c.args.options.now) in let m = c.args.checked.now in
    let after : c.total_size-2.result ≡ total size_of (passed p m) =
    c.total_size-2.ensures ∙ (ap (total size_of) c.module.ensures.same
    ∙ sym (one_total c.same_is_renamed.ensures c.renamed_keeps_size.ensures (passed p m) _ c.in_ok-passed.ensures.finished)) in
    let steps : c.len-2.result + c.in_ok-passed.passed.inlined ≡ length m + all_inlined p m =
    ap₂ (λ x y. x + y) (c.len-2.ensures.count ∙ ap length c.module-module.ensures.same) c.in_ok-passed.ensures.inlined in
    one_summary (c.len.ensures.count ∙ ap length c.module-module.ensures.same) (c.count_sites.ensures ∙ ap sites_in c.module-module.ensures.same)
    c.in_ok-passed.ensures.inlined (c.total_size.ensures ∙ ap (total size_of) c.module-module.ensures.same) after steps

use Rattle.std.proofs.Common.{ℕ, List, ◌++◌, length, take, sym, ap, ◌∙◌}
use Rattle.ir_core.specs.declared.signatures.Sig.{Sig}
use Rattle.clif_resolve.specs.Parts.{own_sigs}
use Rattle.clif_lines.specs.WordNumbers.{own_sig_numbers, sig_numbers}
use Rattle.clif_resolve.proofs.DeclaringLaws.{numbers_more}
use Rattle.clif_lines.proofs.Parting.{flat_more}
use Rattle.clif_resolve.proofs.declarations.Sigs.of.Goals as goal

pub loop-decl-preserved : goal.loop-decl-preserved
loop-decl-preserved c = record {
  list =
      c.in_ok-push_decl.ensures.list
      ∙ ap (λ (xs : List Sig). xs ++ own_sigs c.decl-item.result) c.loop-decl.invariant.list
      ∙ sym (flat_more own_sigs c.args.decls.now c.loop-decl.decl-index c.decl-item.result c.loop-decl-test.true c.decl-item.is);
  numbers =
      c.in_ok-push_decl.ensures.numbers
      ∙ ap (λ (ns : List ℕ). ns ++ own_sig_numbers (length c.loop-decl.sigs.list.items) c.decl-item.result) c.loop-decl.invariant.numbers
      ∙ ap (λ (xs : List Sig). sig_numbers 0 (take c.loop-decl.decl-index c.args.decls.now) ++ own_sig_numbers (length xs) c.decl-item.result) c.loop-decl.invariant.list
      ∙ sym (numbers_more c.args.decls.now c.loop-decl.decl-index c.decl-item.result c.loop-decl-test.true c.decl-item.is);
}

use Rattle.std.proofs.Common.{◌+◌, ℕ, List, ◌∷◌, [], ◌++◌, length, take, sym, ap, ◌∙◌, arith, length-append}
use Rattle.std.specs.Prelude.{flat_map}
use Rattle.ir_core.specs.declared.declarations.Callee.{Callee}
use Rattle.clif_names.specs.Limits.{decl_limits}
use Rattle.clif_lines.specs.Keeping.{Keeps}
use Rattle.clif_meaning.specs.Meaning.{callees_from, decl_sigs}
use Rattle.clif_lines.specs.WordRenaming.{renaming}
use Rattle.clif_resolve.proofs.DeclaringLaws.{callees_more, part_short}
use Rattle.clif_lines.proofs.Parting.{each_part, flat_more, got}
use Rattle.clif_resolve.proofs.declarations.callees.Goals as goal

pub push_callee-requires-clause-limits : goal.push_callee-requires-clause-limits
push_callee-requires-clause-limits c =
    each_part Keeps decl_limits c.args.decls.now c.loop-decl.decl-index c.decl-item.result c.requires.limits
    (got c.args.decls.now c.loop-decl.decl-index c.decl-item.result c.loop-decl-test.true c.decl-item.is)

pub push_callee-requires-clause-small : goal.push_callee-requires-clause-small
push_callee-requires-clause-small c =
    let a = part_short decl_sigs c.args.decls.now c.loop-decl.decl-index in
    let b = c.loop-decl.invariant.count in
    let f = c.requires.few in
    omega (arith, a, b, f)

pub overflow_add-count : goal.overflow_add-count
overflow_add-count c =
    let a = part_short decl_sigs c.args.decls.now (c.loop-decl.decl-index + 1) in
    let e = ap length (flat_more decl_sigs c.args.decls.now c.loop-decl.decl-index c.decl-item.result c.loop-decl-test.true c.decl-item.is) in
    let g = length-append (flat_map decl_sigs (take c.loop-decl.decl-index c.args.decls.now)) (decl_sigs c.decl-item.result) in
    let b = c.loop-decl.invariant.count in
    let s = c.sig_count-count.ensures in
    let f = c.requires.few in
    omega (arith, a, b, e, g, s, f)

pub loop-decl-preserved : goal.loop-decl-preserved
loop-decl-preserved c = record {
  list =
      c.in_ok-push_callee.ensures
      ∙ ap (λ (xs : List Callee). xs ++ callees_from (renaming c.args.words.now).sig c.loop-decl.count (c.decl-item.result ∷ [])) c.loop-decl.invariant.list
      ∙ ap (λ (n : ℕ). callees_from (renaming c.args.words.now).sig 0 (take c.loop-decl.decl-index c.args.decls.now) ++ callees_from (renaming c.args.words.now).sig n (c.decl-item.result ∷ [])) c.loop-decl.invariant.count
      ∙ sym (callees_more (renaming c.args.words.now).sig c.args.decls.now c.loop-decl.decl-index c.decl-item.result c.loop-decl-test.true c.decl-item.is);
  count =
      let e = ap length (flat_more decl_sigs c.args.decls.now c.loop-decl.decl-index c.decl-item.result c.loop-decl-test.true c.decl-item.is) in
      let g = length-append (flat_map decl_sigs (take c.loop-decl.decl-index c.args.decls.now)) (decl_sigs c.decl-item.result) in
      let b = c.loop-decl.invariant.count in
      let s = c.sig_count-count.ensures in
      omega (arith, b, e, g, s);
}

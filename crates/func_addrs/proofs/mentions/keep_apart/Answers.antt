use Rattle.std.proofs.Common.{◌∙◌, ◌++◌, ap, sym, drop, ◌+◌}
use Rattle.std.specs.Prelude.{Vec}
use Rattle.ir_semantics.specs.Names.{in_order}
use Rattle.func_addrs.specs.Mentions.{names_of}
use Rattle.func_addrs.proofs.Mentioning.{names_push, kept_next, left_out}
use Rattle.func_addrs.proofs.mentions.keep_apart.Goals as goal
use Rattle.func_addrs.proofs.mentions.keep_apart.Goals.{then-is_apart+in_ok-push, else-is_apart}

pub names-preserved : goal.names-preserved
names-preserved c =
    elim c.if-is_apart.branch [
      | then-is_apart+in_ok-push w ↦
          kept_next c.args.sorted.now c.names.i w.index-sorted-i.result (names_of c.names.kept.items) (names_of c.if-is_apart.kept.items) (in_order (names_of c.args.sorted.now)) c.names-test.true c.requires (sym c.is_apart.ensures ∙ w.if-is_apart.true) w.index-sorted-i.is
          (ap (λ v. names_of v.items) w.kept-is ∙ (ap names_of w.in_ok-push.ensures.items ∙ names_push c.names.kept.items w.index-sorted-i.result)) c.names.invariant
      | else-is_apart w ↦
          ap (λ v. names_of v.items ++ in_order (names_of (drop (c.names.i + 1) c.args.sorted.now))) w.kept-is
          ∙ left_out c.args.sorted.now c.names.i (names_of c.names.kept.items) (in_order (names_of c.args.sorted.now)) c.names-test.true c.requires (sym c.is_apart.ensures ∙ w.if-is_apart.false) c.names.invariant
    ]

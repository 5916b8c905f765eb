use Rattle.std.proofs.Common.{◌∷◌, [], ◌++◌, ◌+◌, length, subst, map, drop, ap, ◌∙◌}
use Rattle.ir_core.specs.declared.instructions.BlockCall.{BlockCall}
use Rattle.ir_core.specs.Lists.{Each, Below}
use Rattle.ir_semantics.specs.Renaming.{entry_under}
use Rattle.ir_core.specs.Uses.{arg_values_used, targets_used, table_targets}
use Rattle.ir_core.proofs.Members.{each_left, each_right}
use Rattle.inline_body.specs.Named.{names_of, Moves, blocks_of}
use Rattle.body_import.proofs.Walks.{next_is, grown}
use Rattle.inline_body.proofs.names.Names.entries.Goals as goal

pub target-requires-clause-values : goal.target-requires-clause-values
target-requires-clause-values c =
    let t = c.entry-item.result in
    let rest = drop (c.loop-entry.entry-index + 1) c.args.entries.now in
    each_left (Moves c.args.self.now.values) (arg_values_used t.target.args) (targets_used (table_targets rest)) (subst (λ z. Each (Moves c.args.self.now.values) (targets_used (table_targets z))) (next_is c.args.entries.now c.loop-entry.entry-index t c.loop-entry-test.true c.entry-item.is) c.loop-entry.invariant.1)

pub loop-entry-preserved : goal.loop-entry-preserved
loop-entry-preserved c =
    let t = c.entry-item.result in
    let ts = c.args.entries.now in
    let i = c.loop-entry.entry-index in
    let rest = drop (i + 1) ts in
    let e = next_is ts i t c.loop-entry-test.true c.entry-item.is in (
      grown (entry_under (names_of c.args.self.now)) (map (entry_under (names_of c.args.self.now)) ts) c.loop-entry.list.items c.push.new.self.items ts i t c.loop-entry-test.true c.entry-item.is (c.in_ok-push.ensures.items ∙ ap (λ (z : BlockCall). c.loop-entry.list.items ++ (record { tag = t.tag; target = z } ∷ [])) c.in_ok-target.ensures) c.loop-entry.invariant.0,
      each_right (Moves c.args.self.now.values) (arg_values_used t.target.args) (targets_used (table_targets rest)) (subst (λ z. Each (Moves c.args.self.now.values) (targets_used (table_targets z))) e c.loop-entry.invariant.1),
      (subst (λ z. Below (length c.args.self.now.blocks) (blocks_of (table_targets z))) e c.loop-entry.invariant.2).1,
    )

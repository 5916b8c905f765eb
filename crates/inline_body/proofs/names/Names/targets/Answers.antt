use Rattle.std.proofs.Common.{◌∷◌, [], ◌++◌, ◌+◌, length, subst, map, drop, ap, ◌∙◌}
use Rattle.ir_core.specs.Lists.{Each, Below}
use Rattle.ir_semantics.specs.Renaming.{target_under}
use Rattle.ir_core.specs.Uses.{arg_values_used, targets_used}
use Rattle.ir_core.proofs.Members.{each_left, each_right}
use Rattle.inline_body.specs.Named.{names_of, Moves, blocks_of}
use Rattle.body_import.proofs.Walks.{next_is, grown}
use Rattle.inline_body.proofs.names.Names.targets.Goals as goal

pub target-requires-clause-values : goal.target-requires-clause-values
target-requires-clause-values c =
    let t = c.target-item.result in
    let rest = drop (c.loop-target.target-index + 1) c.args.targets.now in
    each_left (Moves c.args.self.now.values) (arg_values_used t.args) (targets_used rest) (subst (λ z. Each (Moves c.args.self.now.values) (targets_used z)) (next_is c.args.targets.now c.loop-target.target-index t c.loop-target-test.true c.target-item.is) c.loop-target.invariant.1)

pub loop-target-preserved : goal.loop-target-preserved
loop-target-preserved c =
    let t = c.target-item.result in
    let ts = c.args.targets.now in
    let i = c.loop-target.target-index in
    let rest = drop (i + 1) ts in
    let e = next_is ts i t c.loop-target-test.true c.target-item.is in (
      grown (target_under (names_of c.args.self.now)) (map (target_under (names_of c.args.self.now)) ts) c.loop-target.list.items c.push.new.self.items ts i t c.loop-target-test.true c.target-item.is (c.in_ok-push.ensures.items ∙ ap (λ z. c.loop-target.list.items ++ (z ∷ [])) c.in_ok-target.ensures) c.loop-target.invariant.0,
      each_right (Moves c.args.self.now.values) (arg_values_used t.args) (targets_used rest) (subst (λ z. Each (Moves c.args.self.now.values) (targets_used z)) e c.loop-target.invariant.1),
      (subst (λ z. Below (length c.args.self.now.blocks) (blocks_of z)) e c.loop-target.invariant.2).1,
    )

use Rattle.std.proofs.Common.{List, ℕ, ap, sym, ◌∙◌, ◌⊎◌, ◌≡◌, subst, inl, inr}
use Rattle.std.specs.Ordering.{nat_cmp}
use Rattle.std.specs.BTreeSet.{insert_key}
use Rattle.ir_core.specs.Lists.{In}
use Rattle.call_graph.proofs.Keys.{key_in, key_kept, key_from}
use Rattle.call_graph.proofs.ready.Ready.insert.Goals as goal

pub returns-clause-there : goal.returns-clause-there
returns-clause-there c = subst (In c.args.piece) (sym c.in_ok-insert.ensures.keys) (key_in c.args.piece c.self.inside.set.keys)

pub returns-clause-kept : goal.returns-clause-kept
returns-clause-kept c = λ k i. subst (In k) (sym c.in_ok-insert.ensures.keys) (key_kept c.args.piece c.self.inside.set.keys k (subst (In k) (sym c.self.view_is) i))

pub returns-clause-from : goal.returns-clause-from
returns-clause-from c = λ k i. elim (key_from c.args.piece c.self.inside.set.keys k (subst (In k) c.in_ok-insert.ensures.keys i)) [ inl e ↦ inl e | inr j ↦ inr (subst (In k) c.self.view_is j) ]

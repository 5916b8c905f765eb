use Rattle.std.proofs.Common.{Option, Some, sym, ap, ◌∙◌, subst, arith}
use Rattle.std.proofs.lemmas.Option.{slice_get_within}
use Rattle.inline_finish.specs.declared.bodies.Built.{Built}
use Rattle.inline_finish.specs.Bodies.{AreCountsOf}
use Rattle.inline_finish.specs.Building.{policy_of}
use Rattle.module_pass.specs.Places.{Table, IsFilled}
use Rattle.module_pass.proofs.Filled.{is_filled, read_filled, counts_of_built}
use Rattle.module_pass.proofs.places.PlacesBodies.counts.Goals as goal

pub index-requires : goal.index-requires
index-requires c =
    let k = c.args.func in let there = is_filled c.args.self.now.built k c.requires in
    let f = subst (λ (t : Table). IsFilled t.built k) (sym c.self.view_is) there in
    let l = slice_get_within c.self.inside.built.items k (Some f.0) f.1 in
    let o = c.self.inside.built.ok in omega arith

pub unreachable-requires : goal.unreachable-requires
unreachable-requires c =
    let k = c.args.func in let there = is_filled c.args.self.now.built k c.requires in
    let f = subst (λ (t : Table). IsFilled t.built k) (sym c.self.view_is) there in
    let e = read_filled c.self.inside.built.items k c.index.result.now f c.index.ensures in
    let some = f.1 in let none = c.in-None.is in cc

pub returns : goal.returns
returns c =
    let p = c.self.inside in let k = c.args.func in let b : Built = c.in-Some.built in
    let there = is_filled c.args.self.now.built k c.requires in
    let f = subst (λ (t : Table). IsFilled t.built k) (sym c.self.view_is) there in
    let e = read_filled p.built.items k c.index.result.now f c.index.ensures in
    let is = c.self.invariant.each k b (e ∙ ap (λ (o : Option Built). Some o) c.in-Some.is) in
    subst (λ (t : Table). AreCountsOf (policy_of t.policy) t.functions k b.counts) c.self.view_is
    (counts_of_built p.policy p.functions.value k b is)

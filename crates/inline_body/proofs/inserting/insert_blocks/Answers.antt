use Rattle.std.proofs.Common.{◌≡◌, ℕ, ◌+◌, List, [], ◌∷◌, length, ap, sym, subst, ◌∙◌, refl, arith, rules}
use Rattle.ir_core.specs.declared.room.Room.{Room}
use Rattle.ir_core.specs.Lists.{Below}
use Rattle.ir_core.specs.Module.{Function}
use Rattle.ir_core.proofs.Members.{below_left, different_left, in_left}
use Rattle.inline_body.specs.WithBody.{all_of}
use Rattle.inline_body.proofs.Behind.{Inserting, insert_step, insert_end}
use Rattle.inline_body.proofs.inserting.insert_blocks.Goals as goal

none_left : (xs : List (List ℕ)) (n : ℕ) → n ≡ 0 → n ≡ length xs → xs ≡ []
none_left [] n z e = refl
none_left (x ∷ xs) n z e = absurd (omega (arith, z, e))

pub loop-params-init : goal.loop-params-init
loop-params-init c =
    let e : c.into_iter-params-iterator.result.rest.items ≡ c.args.block_params = search rules in
    let f = c.args.caller.now.function in
    let few = c.requires.few in (
      subst (λ xs. Inserting c.args.first c.args.first f f c.args.block_params xs) (sym e) (record { left = refl; others = refl; there = c.requires.there; declared = c.requires.declared; different = c.requires.different; undefined = c.requires.undefined; few = few }),
      refl,
      let k = ap length e in omega (arith, k),
    )

room_step : (r0 r1 r2 : Room) → r1 ≡ record r0 { blocks = r1.blocks } → r1 ≡ record r2 { blocks = r2.blocks + 1 } → r2 ≡ record r0 { blocks = r2.blocks }
room_step r0 r1 r2 e g = ap (λ (r : Room). record r { blocks = r2.blocks }) (sym g) ∙ ap (λ (r : Room). record r { blocks = r2.blocks }) e

pub insert_block-at-requires-clause-declared : goal.insert_block-at-requires-clause-declared
insert_block-at-requires-clause-declared c =
    let p = subst (Inserting c.args.first c.loop-params.at c.args.caller.now.function c.loop-params.caller.function c.args.block_params) c.in-Some.ensures.steps.0 c.loop-params.invariant.0 in
    subst (λ n. Below n c.in-Some.params) (sym (ap (λ (z : Function). length z.types) p.others)) (below_left _ c.in-Some.params (all_of c.next.new.self.rest.items) p.declared)

pub insert_block-at-requires-clause-different : goal.insert_block-at-requires-clause-different
insert_block-at-requires-clause-different c =
    let p = subst (Inserting c.args.first c.loop-params.at c.args.caller.now.function c.loop-params.caller.function c.args.block_params) c.in-Some.ensures.steps.0 c.loop-params.invariant.0 in
    different_left c.in-Some.params (all_of c.next.new.self.rest.items) p.different

pub insert_block-at-requires-clause-undefined : goal.insert_block-at-requires-clause-undefined
insert_block-at-requires-clause-undefined c = λ v i j.
    let p = subst (Inserting c.args.first c.loop-params.at c.args.caller.now.function c.loop-params.caller.function c.args.block_params) c.in-Some.ensures.steps.0 c.loop-params.invariant.0 in
    p.undefined v (in_left v c.in-Some.params (all_of c.next.new.self.rest.items) i) j

pub loop-params-preserved : goal.loop-params-preserved
loop-params-preserved c =
    let p = subst (Inserting c.args.first c.loop-params.at c.args.caller.now.function c.loop-params.caller.function c.args.block_params) c.in-Some.ensures.steps.0 c.loop-params.invariant.0 in
    let n = c.insert_block-at in (
      insert_step c.args.first c.loop-params.at n.result c.args.caller.now.function c.loop-params.caller.function n.new.self.function c.args.block_params c.next.new.self.rest.items c.in-Some.params p n.ensures.number n.ensures.fresh n.ensures.body,
      room_step c.args.caller.now.room c.loop-params.caller.room n.new.self.room c.loop-params.invariant.1 n.ensures.room,
      let k = ap length c.in-Some.ensures.steps.0 in let r = ap (λ (z : Room). z.blocks) n.ensures.room in let i = c.loop-params.invariant.2 in omega (arith, k, r, i),
    )

pub returns-clause-body : goal.returns-clause-body
returns-clause-body c =
    insert_end c.args.first c.loop-params.at c.args.caller.now.function c.loop-params.caller.function c.args.block_params
    (subst (λ xs. Inserting c.args.first c.loop-params.at c.args.caller.now.function c.loop-params.caller.function c.args.block_params xs) (none_left c.loop-params.params-iterator.rest.items c.loop-params.params-iterator.rest.len c.in-None.ensures.steps.0 c.loop-params.params-iterator.rest.ok.0) c.loop-params.invariant.0)

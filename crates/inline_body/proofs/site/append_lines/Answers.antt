use Rattle.std.proofs.Common.{◌≡◌, ℕ, List, [], ◌∷◌, length, map, ap, sym, subst, ◌∙◌, refl, arith, rules}
use Rattle.ir_core.specs.declared.instructions.InstData.{InstData}
use Rattle.ir_core.specs.declared.room.Room.{Room}
use Rattle.ir_core.specs.Viewed.{line_of}
use Rattle.inline_body.proofs.Putting.{Putting, put_start, put_step, put_end, line_different, line_undefined}
use Rattle.inline_body.proofs.site.append_lines.Goals as goal

length_lines : (xs : List InstData) → length (map line_of xs) ≡ length xs
length_lines [] = refl
length_lines (x ∷ xs) = let h = length_lines xs in omega (arith, h)

none_left : (xs : List InstData) (n : ℕ) → n ≡ 0 → n ≡ length xs → xs ≡ []
none_left [] n z e = refl
none_left (x ∷ xs) n z e = absurd (omega (arith, z, e))

pub loop-line-init : goal.loop-line-init
loop-line-init c =
    let e : c.into_iter-line-iterator.result.rest.items ≡ c.args.added = search rules in
    let f = c.args.caller.now.function in
    let few = c.requires.few in
    let n = length_lines c.args.added in (
      subst (λ xs. Putting c.args.block f f (map line_of c.args.added) (map line_of xs)) (sym e) (put_start c.args.block f (map line_of c.args.added) c.requires.there c.values.ensures.sound.blocks_differ c.requires.in_range c.requires.different c.requires.undefined (omega (arith, few, n))),
      refl,
      let k = ap length e in omega (arith, k),
    )

pub put_inst-requires-clause-different : goal.put_inst-requires-clause-different
put_inst-requires-clause-different c =
    let p = subst (Putting c.args.block c.args.caller.now.function c.loop-line.caller.function (map line_of c.args.added)) (ap (map line_of) c.in-Some.ensures.steps.0) c.loop-line.invariant.0 in
    line_different c.args.block c.args.caller.now.function c.loop-line.caller.function (map line_of c.args.added) (map line_of c.next.new.self.rest.items) (line_of c.in-Some.line) p

pub put_inst-requires-clause-undefined : goal.put_inst-requires-clause-undefined
put_inst-requires-clause-undefined c =
    let p = subst (Putting c.args.block c.args.caller.now.function c.loop-line.caller.function (map line_of c.args.added)) (ap (map line_of) c.in-Some.ensures.steps.0) c.loop-line.invariant.0 in
    line_undefined c.args.block c.args.caller.now.function c.loop-line.caller.function (map line_of c.args.added) (map line_of c.next.new.self.rest.items) (line_of c.in-Some.line) p

pub loop-line-preserved : goal.loop-line-preserved
loop-line-preserved c =
    let p = subst (Putting c.args.block c.args.caller.now.function c.loop-line.caller.function (map line_of c.args.added)) (ap (map line_of) c.in-Some.ensures.steps.0) c.loop-line.invariant.0 in (
      put_step c.args.block c.args.caller.now.function c.loop-line.caller.function (map line_of c.args.added) (map line_of c.next.new.self.rest.items) (line_of c.in-Some.line) p c.put_inst.new.self.function c.put_inst.ensures.body,
      c.put_inst.ensures.room ∙ ap (λ (r : Room). record r { insts = c.put_inst.new.self.room.insts }) c.loop-line.invariant.1,
      let k = ap length c.in-Some.ensures.steps.0 in let r = c.put_inst.ensures.room_insts in let i = c.loop-line.invariant.2 in omega (arith, k, r, i),
    )

pub returns-clause-body : goal.returns-clause-body
returns-clause-body c =
    put_end c.args.block c.args.caller.now.function c.loop-line.caller.function (map line_of c.args.added) (subst (λ xs. Putting c.args.block c.args.caller.now.function c.loop-line.caller.function (map line_of c.args.added) (map line_of xs)) (none_left c.loop-line.line-iterator.rest.items c.loop-line.line-iterator.rest.len c.in-None.ensures.steps.0 c.loop-line.line-iterator.rest.ok.0) c.loop-line.invariant.0)

use Rattle.std.proofs.Common.{◌≡◌, ℕ, List, [], ◌∷◌, length, map, ap, sym, subst, ◌∙◌, refl, arith, rules, length-append}
use Rattle.std.proofs.lemmas.List.{length-map}
use Rattle.ir_core.specs.declared.room.Room.{Room}
use Rattle.ir_core.specs.Lists.{In, Different, Each}
use Rattle.ir_core.specs.Lookup.{line_definitions}
use Rattle.ir_core.specs.Sound.{LineInRange, Counts}
use Rattle.ir_core.specs.Viewed.{line_of}
use Rattle.ir_core.proofs.Members.{each_left, different_left, in_left}
use Rattle.ir_core.proofs.Splitting.{line_definitions_join}
use Rattle.inline_body.specs.declared.blocks.BlockLines.{BlockLines}
use Rattle.inline_body.specs.WithBody.{lines_in}
use Rattle.inline_body.proofs.Fills.{Fills, fill_step, fill_end}
use Rattle.inline_body.proofs.appending.append_to_blocks.Goals as goal

none_left : (xs : List BlockLines) (n : ℕ) → n ≡ 0 → n ≡ length xs → xs ≡ []
none_left [] n z e = refl
none_left (x ∷ xs) n z e = absurd (omega (arith, z, e))

pub loop-lines_of_block-init : goal.loop-lines_of_block-init
loop-lines_of_block-init c =
    let e : c.into_iter-lines_of_block-iterator.result.rest.items ≡ c.args.block_lines = search rules in
    let f = c.args.caller.now.function in (
      subst (λ xs. Fills f f c.args.block_lines xs) (sym e) (record { left = refl; others = refl; numbers = refl; counts = refl; there = c.requires.there; differ = c.values.ensures.sound.blocks_differ; range = c.requires.in_range; different = c.requires.different; undefined = c.requires.undefined; few = c.requires.few }),
      refl,
      let k = ap (λ (z : List BlockLines). length (lines_in z)) e in omega (arith, k),
    )

pub append_lines-requires-clause-there : goal.append_lines-requires-clause-there
append_lines-requires-clause-there c =
    let p = subst (Fills c.args.caller.now.function c.loop-lines_of_block.caller.function c.args.block_lines) c.in-Some.ensures.steps.0 c.loop-lines_of_block.invariant.0 in
    subst (In c.in-Some.lines_of_block.block) (sym p.numbers) p.there.0

pub append_lines-requires-clause-in_range : goal.append_lines-requires-clause-in_range
append_lines-requires-clause-in_range c =
    let p = subst (Fills c.args.caller.now.function c.loop-lines_of_block.caller.function c.args.block_lines) c.in-Some.ensures.steps.0 c.loop-lines_of_block.invariant.0 in
    subst (λ (n : Counts). Each (LineInRange n) (map line_of c.in-Some.lines_of_block.lines)) (sym p.counts) (each_left _ (map line_of c.in-Some.lines_of_block.lines) (lines_in c.next.new.self.rest.items) p.range)

pub append_lines-requires-clause-different : goal.append_lines-requires-clause-different
append_lines-requires-clause-different c =
    let p = subst (Fills c.args.caller.now.function c.loop-lines_of_block.caller.function c.args.block_lines) c.in-Some.ensures.steps.0 c.loop-lines_of_block.invariant.0 in
    let ls = map line_of c.in-Some.lines_of_block.lines in
    different_left (line_definitions ls) (line_definitions (lines_in c.next.new.self.rest.items)) (subst Different (line_definitions_join ls (lines_in c.next.new.self.rest.items)) p.different)

pub append_lines-requires-clause-undefined : goal.append_lines-requires-clause-undefined
append_lines-requires-clause-undefined c = λ v i j.
    let p = subst (Fills c.args.caller.now.function c.loop-lines_of_block.caller.function c.args.block_lines) c.in-Some.ensures.steps.0 c.loop-lines_of_block.invariant.0 in
    let ls = map line_of c.in-Some.lines_of_block.lines in
    p.undefined v (subst (In v) (sym (line_definitions_join ls (lines_in c.next.new.self.rest.items))) (in_left v (line_definitions ls) (line_definitions (lines_in c.next.new.self.rest.items)) i)) j

pub append_lines-requires-clause-few : goal.append_lines-requires-clause-few
append_lines-requires-clause-few c =
    let p = subst (Fills c.args.caller.now.function c.loop-lines_of_block.caller.function c.args.block_lines) c.in-Some.ensures.steps.0 c.loop-lines_of_block.invariant.0 in
    let few = p.few in
    let m = length-append (map line_of c.in-Some.lines_of_block.lines) (lines_in c.next.new.self.rest.items) in
    let n = length-map c.in-Some.lines_of_block.lines line_of in
    omega (arith, few, m, n)

pub append_lines-requires-clause-room : goal.append_lines-requires-clause-room
append_lines-requires-clause-room c =
    let k = ap (λ (z : List BlockLines). length (lines_in z)) c.in-Some.ensures.steps.0 in
    let m = length-append (map line_of c.in-Some.lines_of_block.lines) (lines_in c.next.new.self.rest.items) in
    let n = length-map c.in-Some.lines_of_block.lines line_of in
    let i = c.loop-lines_of_block.invariant.2 in
    let r = c.requires.room in
    omega (arith, k, m, n, i, r)

pub loop-lines_of_block-preserved : goal.loop-lines_of_block-preserved
loop-lines_of_block-preserved c =
    let p = subst (Fills c.args.caller.now.function c.loop-lines_of_block.caller.function c.args.block_lines) c.in-Some.ensures.steps.0 c.loop-lines_of_block.invariant.0 in (
      fill_step c.args.caller.now.function c.loop-lines_of_block.caller.function c.append_lines.new.caller.function c.args.block_lines c.next.new.self.rest.items c.in-Some.lines_of_block p c.append_lines.ensures.body,
      c.append_lines.ensures.room ∙ ap (λ (r : Room). record r { insts = c.append_lines.new.caller.room.insts }) c.loop-lines_of_block.invariant.1,
      let k = ap (λ (z : List BlockLines). length (lines_in z)) c.in-Some.ensures.steps.0 in
          let m = length-append (map line_of c.in-Some.lines_of_block.lines) (lines_in c.next.new.self.rest.items) in
          let n = length-map c.in-Some.lines_of_block.lines line_of in
          let r = c.append_lines.ensures.room_insts in
          let i = c.loop-lines_of_block.invariant.2 in omega (arith, k, m, n, r, i),
    )

pub returns-clause-body : goal.returns-clause-body
returns-clause-body c =
    fill_end c.args.caller.now.function c.loop-lines_of_block.caller.function c.args.block_lines
    (subst (λ xs. Fills c.args.caller.now.function c.loop-lines_of_block.caller.function c.args.block_lines xs) (none_left c.loop-lines_of_block.lines_of_block-iterator.rest.items c.loop-lines_of_block.lines_of_block-iterator.rest.len c.in-None.ensures.steps.0 c.loop-lines_of_block.lines_of_block-iterator.rest.ok.0) c.loop-lines_of_block.invariant.0)

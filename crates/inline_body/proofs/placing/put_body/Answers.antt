use Rattle.std.proofs.Common.{ℕ, List, inl, inr, sym, subst, arith}
use Rattle.ir_core.specs.Lists.{In, Below, Each}
use Rattle.ir_core.specs.Sound.{LineInRange, Counts}
use Rattle.ir_core.specs.Viewed.{line_of}
use Rattle.ir_core.proofs.Members.{below_left, below_right, different_left, different_right, different_apart, in_left, in_right}
use Rattle.inline_body.specs.WithBody.{all_of, lines_in, numbers_of}
use Rattle.inline_body.proofs.Steps.{there1, long1, types1, defined1, there2, counts2, few2, defined2, there3, numbers3, counts3, few3, defined3, all3}
use Rattle.inline_body.proofs.placing.put_body.Goals as goal

pub open-call-requires-clause-declared : goal.open-call-requires-clause-declared
open-call-requires-clause-declared c = below_left _ c.args.first (all_of c.args.block_params) c.requires.declared

pub open-call-requires-clause-different : goal.open-call-requires-clause-different
open-call-requires-clause-different c = different_left c.args.first (all_of c.args.block_params) c.requires.different

pub open-call-requires-clause-undefined : goal.open-call-requires-clause-undefined
open-call-requires-clause-undefined c = λ v i j. c.requires.undefined v (in_left v c.args.first (all_of c.args.block_params) i) j

pub insert_blocks-requires-clause-there : goal.insert_blocks-requires-clause-there
insert_blocks-requires-clause-there c = there1 c.args.caller.now.function c.open-call.new.caller.function c.args.site.block c.args.site.index c.open-call.result.first c.open-call.result.after c.args.first c.args.results c.requires.there.0 c.values.ensures.sound c.open-call.ensures.body c.open-call.ensures.first c.open-call.ensures.after

pub insert_blocks-requires-clause-few : goal.insert_blocks-requires-clause-few
insert_blocks-requires-clause-few c = let h = long1 c.args.caller.now.function c.open-call.new.caller.function c.args.site.block c.args.site.index c.open-call.result.first c.open-call.result.after c.args.first c.args.results c.requires.there.0 c.values.ensures.sound c.open-call.ensures.body c.open-call.ensures.first c.open-call.ensures.after in let r = c.requires.few_blocks in omega (arith, h, r)

pub insert_blocks-requires-clause-declared : goal.insert_blocks-requires-clause-declared
insert_blocks-requires-clause-declared c = subst (λ (n : ℕ). Below n (all_of c.args.block_params)) (sym (types1 c.args.caller.now.function c.open-call.new.caller.function c.args.site.block c.args.site.index c.open-call.result.first c.open-call.result.after c.args.first c.args.results c.requires.there.0 c.values.ensures.sound c.open-call.ensures.body c.open-call.ensures.first c.open-call.ensures.after)) (below_right _ c.args.first (all_of c.args.block_params) c.requires.declared)

pub insert_blocks-requires-clause-different : goal.insert_blocks-requires-clause-different
insert_blocks-requires-clause-different c = different_right c.args.first (all_of c.args.block_params) c.requires.different

pub insert_blocks-requires-clause-undefined : goal.insert_blocks-requires-clause-undefined
insert_blocks-requires-clause-undefined c = λ v i j.
    elim (defined1 c.args.caller.now.function c.open-call.new.caller.function c.args.site.block c.args.site.index c.open-call.result.first c.open-call.result.after c.args.first c.args.results c.requires.there.0 c.values.ensures.sound c.open-call.ensures.body c.open-call.ensures.first c.open-call.ensures.after (line_of c.open-call.result.call) c.open-call.ensures.call (c.requires.are_results (line_of c.open-call.result.call) c.open-call.ensures.call) v j) [
      | inl q ↦ different_apart c.args.first (all_of c.args.block_params) v c.requires.different q i
      | inr q ↦ c.requires.undefined v (in_right v c.args.first (all_of c.args.block_params) i) q
    ]

pub put_inst-requires-clause-there : goal.put_inst-requires-clause-there
put_inst-requires-clause-there c = there2 c.args.caller.now.function c.open-call.new.caller.function c.args.site.block c.args.site.index c.open-call.result.first c.open-call.result.after c.args.first c.args.results c.requires.there.0 c.values.ensures.sound c.open-call.ensures.body c.open-call.ensures.first c.open-call.ensures.after c.insert_blocks.new.caller.function c.args.block_params c.insert_blocks.ensures.body

pub put_inst-requires-clause-in_range : goal.put_inst-requires-clause-in_range
put_inst-requires-clause-in_range c = subst (λ (n : Counts). LineInRange n (line_of c.args.jump)) (sym (counts2 c.args.caller.now.function c.open-call.new.caller.function c.args.site.block c.args.site.index c.open-call.result.first c.open-call.result.after c.args.first c.args.results c.requires.there.0 c.values.ensures.sound c.open-call.ensures.body c.open-call.ensures.first c.open-call.ensures.after c.insert_blocks.new.caller.function c.args.block_params c.insert_blocks.ensures.body)) c.requires.jump

pub put_inst-requires-clause-few : goal.put_inst-requires-clause-few
put_inst-requires-clause-few c = let h = few2 c.args.caller.now.function c.open-call.new.caller.function c.args.site.block c.args.site.index c.open-call.result.first c.open-call.result.after c.args.first c.args.results c.requires.there.0 c.values.ensures.sound c.open-call.ensures.body c.open-call.ensures.first c.open-call.ensures.after c.insert_blocks.new.caller.function c.args.block_params c.insert_blocks.ensures.body in let r = c.requires.few_lines in omega (arith, h, r)

pub append_to_blocks-requires-clause-there : goal.append_to_blocks-requires-clause-there
append_to_blocks-requires-clause-there c = subst (λ (z : List ℕ). Each (λ n. In n z) (numbers_of c.args.block_lines)) (sym (numbers3 c.args.caller.now.function c.open-call.new.caller.function c.args.site.block c.args.site.index c.open-call.result.first c.open-call.result.after c.args.first c.args.results c.requires.there.0 c.values.ensures.sound c.open-call.ensures.body c.open-call.ensures.first c.open-call.ensures.after c.insert_blocks.new.caller.function c.args.block_params c.insert_blocks.ensures.body c.put_inst.new.self.function (line_of c.args.jump) c.requires.jump_results c.put_inst.ensures.body c.args.block_lines c.requires.numbers)) (there3 c.args.caller.now.function c.open-call.new.caller.function c.args.site.block c.args.site.index c.open-call.result.first c.open-call.result.after c.args.first c.args.results c.requires.there.0 c.values.ensures.sound c.open-call.ensures.body c.open-call.ensures.first c.open-call.ensures.after c.insert_blocks.new.caller.function c.args.block_params c.insert_blocks.ensures.body c.args.block_lines c.requires.numbers)

pub append_to_blocks-requires-clause-in_range : goal.append_to_blocks-requires-clause-in_range
append_to_blocks-requires-clause-in_range c = subst (λ (n : Counts). Each (LineInRange n) (lines_in c.args.block_lines)) (sym (counts3 c.args.caller.now.function c.open-call.new.caller.function c.args.site.block c.args.site.index c.open-call.result.first c.open-call.result.after c.args.first c.args.results c.requires.there.0 c.values.ensures.sound c.open-call.ensures.body c.open-call.ensures.first c.open-call.ensures.after c.insert_blocks.new.caller.function c.args.block_params c.insert_blocks.ensures.body c.put_inst.new.self.function (line_of c.args.jump) c.requires.jump_results c.put_inst.ensures.body c.args.block_lines c.requires.numbers)) c.requires.lines

pub append_to_blocks-requires-clause-undefined : goal.append_to_blocks-requires-clause-undefined
append_to_blocks-requires-clause-undefined c = λ v i j.
    elim (defined2 c.args.caller.now.function c.open-call.new.caller.function c.args.site.block c.args.site.index c.open-call.result.first c.open-call.result.after c.args.first c.args.results c.requires.there.0 c.values.ensures.sound c.open-call.ensures.body c.open-call.ensures.first c.open-call.ensures.after c.insert_blocks.new.caller.function c.args.block_params c.insert_blocks.ensures.body (line_of c.open-call.result.call) c.open-call.ensures.call (c.requires.are_results (line_of c.open-call.result.call) c.open-call.ensures.call) v (defined3 c.args.caller.now.function c.open-call.new.caller.function c.args.site.block c.args.site.index c.open-call.result.first c.open-call.result.after c.args.first c.args.results c.requires.there.0 c.values.ensures.sound c.open-call.ensures.body c.open-call.ensures.first c.open-call.ensures.after c.insert_blocks.new.caller.function c.args.block_params c.insert_blocks.ensures.body c.put_inst.new.self.function (line_of c.args.jump) c.requires.jump_results c.put_inst.ensures.body c.args.block_lines c.requires.numbers v j)) [
      | inl q ↦ c.requires.apart v i q
      | inr q ↦ c.requires.lines_undefined v i q
    ]

pub append_to_blocks-requires-clause-few : goal.append_to_blocks-requires-clause-few
append_to_blocks-requires-clause-few c = let h = few3 c.args.caller.now.function c.open-call.new.caller.function c.args.site.block c.args.site.index c.open-call.result.first c.open-call.result.after c.args.first c.args.results c.requires.there.0 c.values.ensures.sound c.open-call.ensures.body c.open-call.ensures.first c.open-call.ensures.after c.insert_blocks.new.caller.function c.args.block_params c.insert_blocks.ensures.body c.put_inst.new.self.function (line_of c.args.jump) c.requires.jump_results c.put_inst.ensures.body c.args.block_lines c.requires.numbers c.values-2.ensures.sound.blocks_differ in let r = c.requires.few_lines in omega (arith, h, r)

pub returns-clause-body : goal.returns-clause-body
returns-clause-body c = all3 c.args.caller.now.function c.open-call.new.caller.function c.args.site.block c.args.site.index c.open-call.result.first c.open-call.result.after c.args.first c.args.results c.requires.there.0 c.values.ensures.sound c.open-call.ensures.body c.open-call.ensures.first c.open-call.ensures.after c.insert_blocks.new.caller.function c.args.block_params c.insert_blocks.ensures.body c.put_inst.new.self.function (line_of c.args.jump) c.requires.jump_results c.put_inst.ensures.body c.args.block_lines c.requires.numbers c.append_to_blocks.new.caller.function c.values-2.ensures.sound.blocks_differ c.append_to_blocks.ensures.body

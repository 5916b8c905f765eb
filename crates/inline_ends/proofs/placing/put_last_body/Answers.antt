use Rattle.std.proofs.Common.{ℕ, length, inl, inr, ap, sym, subst, arith}
use Rattle.ir_core.specs.Lists.{Below, Each}
use Rattle.ir_core.specs.Sound.{LineInRange, Counts}
use Rattle.ir_core.specs.Viewed.{line_of}
use Rattle.ir_core.proofs.Members.{below_left, below_right, different_left, different_right, different_apart, in_left, in_right}
use Rattle.inline_body.specs.WithBody.{all_of, lines_in}
use Rattle.inline_ends.proofs.LastBlocks.{there1, long1, types1, defined1, call_was, there2, long2, types2, defined2, there3, counts3, few3, there4, counts4, few4, defined4, all4}
use Rattle.inline_ends.proofs.placing.put_last_body.Goals as goal

pub take_last-call-requires-clause-some : goal.take_last-call-requires-clause-some
take_last-call-requires-clause-some c = λ e. let h = ap length e in let r = c.requires.there.1 in omega (arith, h, r)

pub insert_block-body-requires-clause-there : goal.insert_block-body-requires-clause-there
insert_block-body-requires-clause-there c = there1 c.args.caller.now.function c.take_last-call.new.self.function c.args.site.block c.args.site.index (line_of c.take_last-call.result) c.requires.there.0 c.values-2.ensures.sound c.take_last-call.ensures.body c.requires.last

pub insert_block-body-requires-clause-few : goal.insert_block-body-requires-clause-few
insert_block-body-requires-clause-few c = let h = long1 c.args.caller.now.function c.take_last-call.new.self.function c.args.site.block c.args.site.index (line_of c.take_last-call.result) c.requires.there.0 c.values-2.ensures.sound c.take_last-call.ensures.body c.requires.last in let r = c.requires.few_blocks in omega (arith, h, r)

pub insert_block-body-requires-clause-declared : goal.insert_block-body-requires-clause-declared
insert_block-body-requires-clause-declared c = subst (λ (n : ℕ). Below n c.args.first) (sym (types1 c.args.caller.now.function c.take_last-call.new.self.function c.args.site.block c.args.site.index (line_of c.take_last-call.result) c.requires.there.0 c.values-2.ensures.sound c.take_last-call.ensures.body c.requires.last)) (below_left _ c.args.first (all_of c.args.block_params) c.requires.declared)

pub insert_block-body-requires-clause-different : goal.insert_block-body-requires-clause-different
insert_block-body-requires-clause-different c = different_left c.args.first (all_of c.args.block_params) c.requires.different

pub insert_block-body-requires-clause-undefined : goal.insert_block-body-requires-clause-undefined
insert_block-body-requires-clause-undefined c = λ v i j. c.requires.undefined v (in_left v c.args.first (all_of c.args.block_params) i) (defined1 c.args.caller.now.function c.take_last-call.new.self.function c.args.site.block c.args.site.index (line_of c.take_last-call.result) c.requires.there.0 c.values-2.ensures.sound c.take_last-call.ensures.body c.requires.last v j)

pub insert_blocks-requires-clause-there : goal.insert_blocks-requires-clause-there
insert_blocks-requires-clause-there c = there2 c.args.caller.now.function c.take_last-call.new.self.function c.args.site.block c.args.site.index (line_of c.take_last-call.result) c.requires.there.0 c.values-2.ensures.sound c.take_last-call.ensures.body c.requires.last c.args.first c.insert_block-body.new.self.function c.insert_block-body.result c.insert_block-body.ensures.body c.insert_block-body.ensures.number

pub insert_blocks-requires-clause-few : goal.insert_blocks-requires-clause-few
insert_blocks-requires-clause-few c = let h = long2 c.args.caller.now.function c.take_last-call.new.self.function c.args.site.block c.args.site.index (line_of c.take_last-call.result) c.requires.there.0 c.values-2.ensures.sound c.take_last-call.ensures.body c.requires.last c.args.first c.insert_block-body.new.self.function c.insert_block-body.result c.insert_block-body.ensures.body c.insert_block-body.ensures.number in let r = c.requires.few_blocks in omega (arith, h, r)

pub insert_blocks-requires-clause-declared : goal.insert_blocks-requires-clause-declared
insert_blocks-requires-clause-declared c = subst (λ (n : ℕ). Below n (all_of c.args.block_params)) (sym (types2 c.args.caller.now.function c.take_last-call.new.self.function c.args.site.block c.args.site.index (line_of c.take_last-call.result) c.requires.there.0 c.values-2.ensures.sound c.take_last-call.ensures.body c.requires.last c.args.first c.insert_block-body.new.self.function c.insert_block-body.result c.insert_block-body.ensures.body c.insert_block-body.ensures.number)) (below_right _ c.args.first (all_of c.args.block_params) c.requires.declared)

pub insert_blocks-requires-clause-different : goal.insert_blocks-requires-clause-different
insert_blocks-requires-clause-different c = different_right c.args.first (all_of c.args.block_params) c.requires.different

pub insert_blocks-requires-clause-undefined : goal.insert_blocks-requires-clause-undefined
insert_blocks-requires-clause-undefined c = λ v i j.
    elim (defined2 c.args.caller.now.function c.take_last-call.new.self.function c.args.site.block c.args.site.index (line_of c.take_last-call.result) c.requires.there.0 c.values-2.ensures.sound c.take_last-call.ensures.body c.requires.last c.args.first c.insert_block-body.new.self.function c.insert_block-body.result c.insert_block-body.ensures.body c.insert_block-body.ensures.number v j) [
      | inl q ↦ different_apart c.args.first (all_of c.args.block_params) v c.requires.different q i
      | inr q ↦ c.requires.undefined v (in_right v c.args.first (all_of c.args.block_params) i) q
    ]

pub put_inst-requires-clause-there : goal.put_inst-requires-clause-there
put_inst-requires-clause-there c = there3 c.args.caller.now.function c.take_last-call.new.self.function c.args.site.block c.args.site.index (line_of c.take_last-call.result) c.requires.there.0 c.values-2.ensures.sound c.take_last-call.ensures.body c.requires.last c.args.first c.insert_block-body.new.self.function c.insert_block-body.result c.insert_block-body.ensures.body c.insert_block-body.ensures.number c.insert_blocks.new.caller.function c.args.block_params c.insert_blocks.ensures.body

pub put_inst-requires-clause-in_range : goal.put_inst-requires-clause-in_range
put_inst-requires-clause-in_range c = subst (λ (n : Counts). LineInRange n (line_of c.args.jump)) (sym (counts3 c.args.caller.now.function c.take_last-call.new.self.function c.args.site.block c.args.site.index (line_of c.take_last-call.result) c.requires.there.0 c.values-2.ensures.sound c.take_last-call.ensures.body c.requires.last c.args.first c.insert_block-body.new.self.function c.insert_block-body.result c.insert_block-body.ensures.body c.insert_block-body.ensures.number c.insert_blocks.new.caller.function c.args.block_params c.insert_blocks.ensures.body)) c.requires.jump

pub put_inst-requires-clause-few : goal.put_inst-requires-clause-few
put_inst-requires-clause-few c = let h = few3 c.args.caller.now.function c.take_last-call.new.self.function c.args.site.block c.args.site.index (line_of c.take_last-call.result) c.requires.there.0 c.values-2.ensures.sound c.take_last-call.ensures.body c.requires.last c.args.first c.insert_block-body.new.self.function c.insert_block-body.result c.insert_block-body.ensures.body c.insert_block-body.ensures.number c.insert_blocks.new.caller.function c.args.block_params c.insert_blocks.ensures.body in let r = c.requires.few_lines in omega (arith, h, r)

pub append_to_blocks-requires-clause-there : goal.append_to_blocks-requires-clause-there
append_to_blocks-requires-clause-there c = there4 c.args.caller.now.function c.take_last-call.new.self.function c.args.site.block c.args.site.index (line_of c.take_last-call.result) c.requires.there.0 c.values-2.ensures.sound c.take_last-call.ensures.body c.requires.last c.args.first c.insert_block-body.new.self.function c.insert_block-body.result c.insert_block-body.ensures.body c.insert_block-body.ensures.number c.insert_blocks.new.caller.function c.args.block_params c.insert_blocks.ensures.body c.put_inst.new.self.function (line_of c.args.jump) c.requires.jump_results c.put_inst.ensures.body c.args.block_lines c.requires.numbers

pub append_to_blocks-requires-clause-in_range : goal.append_to_blocks-requires-clause-in_range
append_to_blocks-requires-clause-in_range c = subst (λ (n : Counts). Each (LineInRange n) (lines_in c.args.block_lines)) (sym (counts4 c.args.caller.now.function c.take_last-call.new.self.function c.args.site.block c.args.site.index (line_of c.take_last-call.result) c.requires.there.0 c.values-2.ensures.sound c.take_last-call.ensures.body c.requires.last c.args.first c.insert_block-body.new.self.function c.insert_block-body.result c.insert_block-body.ensures.body c.insert_block-body.ensures.number c.insert_blocks.new.caller.function c.args.block_params c.insert_blocks.ensures.body c.put_inst.new.self.function (line_of c.args.jump) c.requires.jump_results c.put_inst.ensures.body c.args.block_lines c.requires.numbers)) c.requires.lines

pub append_to_blocks-requires-clause-undefined : goal.append_to_blocks-requires-clause-undefined
append_to_blocks-requires-clause-undefined c = λ v i j.
    elim (defined4 c.args.caller.now.function c.take_last-call.new.self.function c.args.site.block c.args.site.index (line_of c.take_last-call.result) c.requires.there.0 c.values-2.ensures.sound c.take_last-call.ensures.body c.requires.last c.args.first c.insert_block-body.new.self.function c.insert_block-body.result c.insert_block-body.ensures.body c.insert_block-body.ensures.number c.insert_blocks.new.caller.function c.args.block_params c.insert_blocks.ensures.body c.put_inst.new.self.function (line_of c.args.jump) c.requires.jump_results c.put_inst.ensures.body c.args.block_lines c.requires.numbers v j) [
      | inl q ↦ c.requires.apart v i q
      | inr q ↦ c.requires.lines_undefined v i q
    ]

pub append_to_blocks-requires-clause-few : goal.append_to_blocks-requires-clause-few
append_to_blocks-requires-clause-few c = let h = few4 c.args.caller.now.function c.take_last-call.new.self.function c.args.site.block c.args.site.index (line_of c.take_last-call.result) c.requires.there.0 c.values-2.ensures.sound c.take_last-call.ensures.body c.requires.last c.args.first c.insert_block-body.new.self.function c.insert_block-body.result c.insert_block-body.ensures.body c.insert_block-body.ensures.number c.insert_blocks.new.caller.function c.args.block_params c.insert_blocks.ensures.body c.put_inst.new.self.function (line_of c.args.jump) c.requires.jump_results c.put_inst.ensures.body c.args.block_lines c.requires.numbers c.values-3.ensures.sound.blocks_differ in let r = c.requires.few_lines in omega (arith, h, r)

pub returns-clause-body : goal.returns-clause-body
returns-clause-body c = all4 c.args.caller.now.function c.take_last-call.new.self.function c.args.site.block c.args.site.index (line_of c.take_last-call.result) c.requires.there.0 c.values-2.ensures.sound c.take_last-call.ensures.body c.requires.last c.args.first c.insert_block-body.new.self.function c.insert_block-body.result c.insert_block-body.ensures.body c.insert_block-body.ensures.number c.insert_blocks.new.caller.function c.args.block_params c.insert_blocks.ensures.body c.put_inst.new.self.function (line_of c.args.jump) c.requires.jump_results c.put_inst.ensures.body c.args.block_lines c.requires.numbers c.append_to_blocks.new.caller.function c.values-3.ensures.sound.blocks_differ c.append_to_blocks.ensures.body

pub returns-clause-call : goal.returns-clause-call
returns-clause-call c = call_was c.args.caller.now.function c.take_last-call.new.self.function c.args.site.block c.args.site.index (line_of c.take_last-call.result) c.requires.there.0 c.values-2.ensures.sound c.take_last-call.ensures.body c.requires.last

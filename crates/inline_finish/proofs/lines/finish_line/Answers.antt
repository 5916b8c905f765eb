use Rattle.std.proofs.Common.{◌≡◌, ◌+◌, ◌<◌, ◌^◌, ℕ, List, Option, Some, None, length, map, sym, ap, ◌∙◌, subst, arith}
use Rattle.ir_core.specs.Module.{Line, Function, Module}
use Rattle.ir_core.specs.Size.{size_of}
use Rattle.ir_core.specs.Sound.{IsSound}
use Rattle.ir_core.specs.Viewed.{line_of}
use Rattle.inline_pass.specs.Policy.{Policy}
use Rattle.inline_pass.specs.Going.{finishing}
use Rattle.inline_finish.specs.Bodies.{IsBodyOf, AreCountsOf}
use Rattle.inline_finish.specs.Building.{policy_of}
use Rattle.inline_finish.specs.Deciding.{IsDecided}
use Rattle.inline_finish.specs.Midway.{Left, Behind, IsBehind, left_in}
use Rattle.call_graph.specs.Marks.{target_by}
use Rattle.inline_finish.specs.Targets.{targets_in}
use Rattle.inline_finish.proofs.Counts.{count_fits}
use Rattle.inline_finish.proofs.Sizes.{counts_there}
use Rattle.inline_finish.proofs.Steps.{point_there, still}
use Rattle.inline_finish.proofs.Taking.{has_target, refused_none, body_there, site_there, refused_some, can_replace, new_is, taken}
use Rattle.inline_finish.proofs.lines.finish_line.Goals as goal

-- what the line calls by the targets that are at hand
named : (m : Module) (f : Function) (l : Line) (targets : List (Option ℕ)) (found : Option ℕ) → targets ≡ targets_in m f → found ≡ target_by targets l → target_by (targets_in m f) l ≡ found
named m f l targets found same is = ap (λ ts. target_by ts l) (sym same) ∙ sym is

pub pass_line-requires : goal.pass_line-requires
pass_line-requires g c =
    let p : Policy = policy_of c.args.policy in
    let m : Module = g.B.Bodies.functions c.args.bodies.now in
    let f : Function = c.args.own.now.function in
    let l : Line = line_of c.args.line.now in
    let left : Left = left_in f c.args.block (map line_of c.args.after.now) in
    point_there (finishing p m f) l left.lines left.rest c.args.progress.now.caller c.args.progress.now.at c.args.progress.now.inlined c.requires.midway.midway

pub returns-in-None-clause-behind : goal.returns-in-None-clause-behind
returns-in-None-clause-behind g c =
    let p : Policy = policy_of c.args.policy in
    let m : Module = g.B.Bodies.functions c.args.bodies.now in
    let f : Function = c.args.own.now.function in
    let l : Line = line_of c.args.line.now in
    let left : Left = left_in f c.args.block (map line_of c.args.after.now) in
    let code : Function = c.args.progress.now.caller in
    let at = c.args.progress.now.at in
    let n = c.args.progress.now.inlined in
    let mid = c.requires.midway.midway in
    let none = named m f l c.args.targets.now None c.requires.targets c.in-None.ensures in
    subst (IsBehind (finishing p m f) left) (sym c.pass_line.ensures)
    (still (finishing p m f) l left.lines left.rest c.args.progress.now c.requires.midway (refused_none p m f c.requires.ready c.args.block l c.requires.own left code at n mid none))

pub body-body-requires : goal.body-body-requires
body-body-requires g c =
    let p : Policy = policy_of c.args.policy in
    let m : Module = g.B.Bodies.functions c.args.bodies.now in
    let f : Function = c.args.own.now.function in
    let l : Line = line_of c.args.line.now in
    let is = named m f l c.args.targets.now (Some c.in-Some.callee) c.requires.targets c.in-Some.ensures in
    has_target p m f c.requires.ready c.args.block l c.requires.own c.in-Some.callee (g.B.Bodies.has c.args.bodies.now) is c.requires.has

pub counts-counts-requires : goal.counts-counts-requires
counts-counts-requires g c =
    let p : Policy = policy_of c.args.policy in
    let m : Module = g.B.Bodies.functions c.args.bodies.now in
    let f : Function = c.args.own.now.function in
    let l : Line = line_of c.args.line.now in
    let is = named m f l c.args.targets.now (Some c.in-Some.callee) c.requires.targets c.in-Some.ensures in
    has_target p m f c.requires.ready c.args.block l c.requires.own c.in-Some.callee (g.B.Bodies.has c.args.bodies.now) is c.requires.has

pub decide-requires-clause-site : goal.decide-requires-clause-site
decide-requires-clause-site g c =
    let p : Policy = policy_of c.args.policy in
    let m : Module = g.B.Bodies.functions c.args.bodies.now in
    let f : Function = c.args.own.now.function in
    let l : Line = line_of c.args.line.now in
    let left : Left = left_in f c.args.block (map line_of c.args.after.now) in
    let code : Function = c.args.progress.now.caller in
    let at = c.args.progress.now.at in
    let n = c.args.progress.now.inlined in
    let mid = c.requires.midway.midway in
    let h : Function = c.body-body.result.now.function in
    let is = named m f l c.args.targets.now (Some c.in-Some.callee) c.requires.targets c.in-Some.ensures in
    let body = subst (λ q. IsBodyOf q m c.in-Some.callee h) c.requires.policy c.body-body.ensures in
    let there = body_there p m f c.requires.ready c.args.block l c.requires.own left code at n mid c.in-Some.callee h is body in
    site_there p m f c.requires.ready c.args.block l c.requires.own left code at n mid mid.whole h there

pub decide-requires-clause-counts : goal.decide-requires-clause-counts
decide-requires-clause-counts g c =
    let p : Policy = policy_of c.args.policy in
    let m : Module = g.B.Bodies.functions c.args.bodies.now in
    let h : Function = c.body-body.result.now.function in
    let body = subst (λ q. IsBodyOf q m c.in-Some.callee h) c.requires.policy c.body-body.ensures in
    let counts = subst (λ q. AreCountsOf q m c.in-Some.callee c.counts-counts.result) c.requires.policy c.counts-counts.ensures in
    counts_there p m c.in-Some.callee h c.counts-counts.result body counts

pub pass_line-requires-in-None-decided : goal.pass_line-requires-in-None-decided
pass_line-requires-in-None-decided g c =
    let p : Policy = policy_of c.args.policy in
    let m : Module = g.B.Bodies.functions c.args.bodies.now in
    let f : Function = c.args.own.now.function in
    let l : Line = line_of c.args.line.now in
    let left : Left = left_in f c.args.block (map line_of c.args.after.now) in
    point_there (finishing p m f) l left.lines left.rest c.args.progress.now.caller c.args.progress.now.at c.args.progress.now.inlined c.requires.midway.midway

pub returns-in-None-decided-clause-behind : goal.returns-in-None-decided-clause-behind
returns-in-None-decided-clause-behind g c =
    let p : Policy = policy_of c.args.policy in
    let m : Module = g.B.Bodies.functions c.args.bodies.now in
    let f : Function = c.args.own.now.function in
    let l : Line = line_of c.args.line.now in
    let left : Left = left_in f c.args.block (map line_of c.args.after.now) in
    let code : Function = c.args.progress.now.caller in
    let at = c.args.progress.now.at in
    let n = c.args.progress.now.inlined in
    let mid = c.requires.midway.midway in
    let h : Function = c.body-body.result.now.function in
    let is = named m f l c.args.targets.now (Some c.in-Some.callee) c.requires.targets c.in-Some.ensures in
    let body = subst (λ q. IsBodyOf q m c.in-Some.callee h) c.requires.policy c.body-body.ensures in
    let there = body_there p m f c.requires.ready c.args.block l c.requires.own left code at n mid c.in-Some.callee h is body in
    let decided = subst (IsDecided p code h at l) c.in-None-decided.is c.in_ok-decided.ensures in
    subst (IsBehind (finishing p m f) left) (sym c.pass_line-in-None-decided.ensures)
    (still (finishing p m f) l left.lines left.rest c.args.progress.now c.requires.midway
    (λ s. refused_some p m f c.requires.ready c.args.block l c.requires.own left code at n mid mid.whole h there c.splice_size_under.ensures decided))

pub splice-requires-clause-can : goal.splice-requires-clause-can
splice-requires-clause-can g c =
    let p : Policy = policy_of c.args.policy in
    let m : Module = g.B.Bodies.functions c.args.bodies.now in
    let f : Function = c.args.own.now.function in
    let l : Line = line_of c.args.line.now in
    let left : Left = left_in f c.args.block (map line_of c.args.after.now) in
    let code : Function = c.args.progress.now.caller in
    let at = c.args.progress.now.at in
    let n = c.args.progress.now.inlined in
    let mid = c.requires.midway.midway in
    let h : Function = c.body-body.result.now.function in
    let is = named m f l c.args.targets.now (Some c.in-Some.callee) c.requires.targets c.in-Some.ensures in
    let body = subst (λ q. IsBodyOf q m c.in-Some.callee h) c.requires.policy c.body-body.ensures in
    let there = body_there p m f c.requires.ready c.args.block l c.requires.own left code at n mid c.in-Some.callee h is body in
    let decided = subst (IsDecided p code h at l) c.in-Some-decided.is c.in_ok-decided.ensures in
    can_replace p m f c.requires.ready c.args.block l c.requires.own left code at n mid mid.whole h there c.splice_size_under.ensures c.in-Some-decided.taken decided
    c.plain_call_has_numbers.ensures c.tail_call_has_numbers.ensures c.try_call_has_numbers.ensures

pub overflow_add-progress : goal.overflow_add-progress
overflow_add-progress g c =
    let p : Policy = policy_of c.args.policy in
    let m : Module = g.B.Bodies.functions c.args.bodies.now in
    let f : Function = c.args.own.now.function in
    let l : Line = line_of c.args.line.now in
    let left : Left = left_in f c.args.block (map line_of c.args.after.now) in
    let code : Function = c.args.progress.now.caller in
    let at = c.args.progress.now.at in
    let n = c.args.progress.now.inlined in
    let mid = c.requires.midway.midway in
    let h : Function = c.body-body.result.now.function in
    let is = named m f l c.args.targets.now (Some c.in-Some.callee) c.requires.targets c.in-Some.ensures in
    let body = subst (λ q. IsBodyOf q m c.in-Some.callee h) c.requires.policy c.body-body.ensures in
    let there = body_there p m f c.requires.ready c.args.block l c.requires.own left code at n mid c.in-Some.callee h is body in
    let decided = subst (IsDecided p code h at l) c.in-Some-decided.is c.in_ok-decided.ensures in
    let can =
    can_replace p m f c.requires.ready c.args.block l c.requires.own left code at n mid mid.whole h there c.splice_size_under.ensures c.in-Some-decided.taken decided
    c.plain_call_has_numbers.ensures c.tail_call_has_numbers.ensures c.try_call_has_numbers.ensures in
    let after = subst IsSound c.func.ensures c.values-count.ensures.sound in
    let behind = taken p m f c.requires.ready c.args.block l c.requires.own left code at n mid mid.whole h there c.splice_size_under.ensures c.in-Some-decided.taken decided
    can c.block_behind.ensures.sound c.splice.new.self c.in_ok-splice.ensures.ok after in
    let few : n + 1 < 2 ^ 32 =
    count_fits (finishing p m f) left c.splice.new.self (record { block = length code.blocks + 1; index = 0 }) (n + 1) behind c.values-size.ensures.sound in
    omega (arith, few)

pub returns-clause-behind : goal.returns-clause-behind
returns-clause-behind g c =
    let p : Policy = policy_of c.args.policy in
    let m : Module = g.B.Bodies.functions c.args.bodies.now in
    let f : Function = c.args.own.now.function in
    let l : Line = line_of c.args.line.now in
    let left : Left = left_in f c.args.block (map line_of c.args.after.now) in
    let code : Function = c.args.progress.now.caller in
    let at = c.args.progress.now.at in
    let n = c.args.progress.now.inlined in
    let mid = c.requires.midway.midway in
    let h : Function = c.body-body.result.now.function in
    let is = named m f l c.args.targets.now (Some c.in-Some.callee) c.requires.targets c.in-Some.ensures in
    let body = subst (λ q. IsBodyOf q m c.in-Some.callee h) c.requires.policy c.body-body.ensures in
    let there = body_there p m f c.requires.ready c.args.block l c.requires.own left code at n mid c.in-Some.callee h is body in
    let decided = subst (IsDecided p code h at l) c.in-Some-decided.is c.in_ok-decided.ensures in
    let can =
    can_replace p m f c.requires.ready c.args.block l c.requires.own left code at n mid mid.whole h there c.splice_size_under.ensures c.in-Some-decided.taken decided
    c.plain_call_has_numbers.ensures c.tail_call_has_numbers.ensures c.try_call_has_numbers.ensures in
    let after = subst IsSound c.func.ensures c.values-count.ensures.sound in
    let behind = taken p m f c.requires.ready c.args.block l c.requires.own left code at n mid mid.whole h there c.splice_size_under.ensures c.in-Some-decided.taken decided
    can c.block_behind.ensures.sound c.splice.new.self c.in_ok-splice.ensures.ok after in
    let new = new_is p m f c.requires.ready c.args.block l c.requires.own left code at n mid mid.whole h there c.splice_size_under.ensures c.in-Some-decided.taken decided
    can c.block_behind.ensures.sound c.splice.new.self c.in_ok-splice.ensures.ok after in
    record {
      behind = subst (λ b. Behind (finishing p m f) left c.splice.new.self (record { block = b; index = 0 }) (n + 1)) (sym c.block_behind.ensures.number) behind;
      size = decided.2 c.in_ok-splice.ensures.ok.naming ∙ ap size_of (sym new);
    }

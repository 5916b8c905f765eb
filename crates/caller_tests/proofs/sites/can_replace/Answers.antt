use Rattle.std.proofs.Common.{◌≤◌, sym, arith}
use Rattle.std.proofs.lemmas.Bool.{leb-true}
use Rattle.ir_core.specs.Module.{Line, Function}
use Rattle.ir_core.specs.Size.{size_of}
use Rattle.ir_core.specs.Viewed.{line_of}
use Rattle.ir_semantics.specs.Splice.{sides, splice_with}
use Rattle.inline_finish.proofs.Replaceable.{replaceable}
use Rattle.caller_tests.proofs.Limits.{within}
use Rattle.caller_tests.proofs.sites.can_replace.Goals as goal

pub returns : goal.returns
returns c = λ is.
    let f : Function = c.args.caller.now.function in
    let g : Function = c.args.callee.now.function in
    let at = c.args.site in
    let l : Line = line_of c.inst.result.now in
    let size = c.in_ok-size.ensures sides in
    let small = leb-true c.in_ok-size.size 262144 is in
    let fits : size_of (splice_with sides f at.block at.index g) ≤ 262144 = omega (arith, size, small) in
    let limit = within f g at l c.requires.whole c.requires.accepted c.inst.ensures (c.is_small-2.ensures.size c.if-not-is_small-2.false) fits in
    replaceable f g at l c.plain_call_has_numbers.ensures c.tail_call_has_numbers.ensures c.try_call_has_numbers.ensures _ (sym c.in-Some.ensures) limit

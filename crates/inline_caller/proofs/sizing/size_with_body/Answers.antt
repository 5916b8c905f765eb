use Rattle.std.proofs.Common.{◌≡◌, length, refl, sym, ap, ◌∙◌, arith}
use Rattle.ir_core.specs.Module.{Line, Function}
use Rattle.ir_core.specs.Size.{size_of, capped}
use Rattle.ir_core.specs.Viewed.{line_of}
use Rattle.inline_body.specs.PlainCall.{splicing_at}
use Rattle.inline_body.proofs.Ready.{spliced_at}
use Rattle.inline_caller.proofs.Sited.{sited_at}
use Rattle.inline_caller.proofs.sizing.size_with_body.Goals as goal

pub returns : goal.returns
returns c = λ n.
    let f : Function = c.args.caller.now.function in
    let g : Function = c.args.callee.now.function in
    let l : Line = line_of c.inst-line.result.now in
    let sited = sited_at f g c.args.site l c.inst-line.ensures n c.requires.accepted.0 c.requires.accepted.1 c.values.ensures.sound.blocks_differ in
    let size = c.size-size.ensures in
    let less = c.if-size.false in
    let exact : size_of f ≡ c.size-size.result = omega (arith, size, less) in
    c.spliced_size.ensures.splice (splicing_at n f g c.args.site l) sited exact refl (sym c.in-Some.ensures.1) (sym (ap length c.slots-slots.ensures)) c.in_ok-import.ensures
    ∙ ap (λ (z : Function). capped (size_of z)) (spliced_at n f g c.args.site l c.requires.there.0 c.inst-line.ensures)

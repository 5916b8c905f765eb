use Rattle.std.proofs.Common.{ap, ◌∙◌}
use Rattle.gen_mod.specs.Shapes.{iconst, icmp_ult, brif, call, returned}
use Rattle.gen_mod.proofs.Building.{line_added, by_three}
use Rattle.gen_mod.proofs.shapes.fill_choosing.Goals as goal

pub returns : goal.returns
returns c =
    let entry = c.new-entry.ensures in
    let below = c.new-below.ensures in
    let other = c.new-other.ensures in
    let arg = c.new-arg.ensures in
    let limit = c.new-limit.ensures in
    let test = c.new-test.ensures in
    let constant = line_added c.requires.blocks entry (c.iconst.ensures ∙ ap (λ v. iconst v c.args.constant) limit) c.in_ok-add_inst.ensures.ok in
    let compared = line_added constant entry (c.icmp_ult.ensures ∙ by_three icmp_ult test arg limit) c.in_ok-add_inst-2.ensures.ok in
    let chosen = line_added compared entry (c.in_ok-brif.ensures ∙ by_three brif test below other) c.in_ok-add_inst-3.ensures.ok in
    let called = line_added chosen below (c.call.ensures ∙ by_three call c.new.ensures c.new-2.ensures arg) c.in_ok-add_inst-4.ensures.ok in
    let back = line_added called below (c.returned.ensures ∙ ap returned c.new-3.ensures) c.in_ok-add_inst-5.ensures.ok in
    let host = line_added back other (c.call-2.ensures ∙ by_three call c.new-4.ensures c.new-5.ensures arg) c.in_ok-add_inst-6.ensures.ok in
    line_added host other (c.returned-2.ensures ∙ ap returned c.new-6.ensures) c.in_ok-add_inst-7.ensures.ok

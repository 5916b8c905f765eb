use Rattle.std.proofs.Common.{map, sym, ◌∙◌}
use Rattle.body_import.specs.SigKeys.{sig_key}
use Rattle.body_import.proofs.Planned.{place_known, place_unknown}
use Rattle.body_import.proofs.declarations.place_of_sig.Goals as goal

pub returns-in-Some : goal.returns-in-Some
returns-in-Some c = λ sigs k knows at. c.new.ensures ∙ place_known sigs c.args.sig.now c.in_ok-key.key.items c.as_slice.result.now c.in-Some.place c.in_ok-key.ensures c.as_slice.ensures.value (sym (c.in-Some.ensures 0 (map sig_key sigs) knows))

pub returns : goal.returns
returns c = λ sigs k knows at. absurd (place_unknown sigs k c.args.sig.now c.in_ok-key.key.items c.as_slice.result.now at c.in_ok-key.ensures c.as_slice.ensures.value (sym (c.in-None.ensures 0 (map sig_key sigs) knows)))

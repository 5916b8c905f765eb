use Rattle.std.proofs.Common.{map, length, sym, ap, ◌∙◌}
use Rattle.std.proofs.lemmas.List.{length-map}
use Rattle.body_import.specs.SigKeys.{sig_key}
use Rattle.body_import.specs.CalleeKeys.{key_among}
use Rattle.body_import.proofs.Extended.{extended}
use Rattle.body_import.proofs.extending.extend_keyed.Goals as goal

pub returns : goal.returns
returns c = λ keyed can.
    let f = c.args.func.now.function in
    extended f (record { sigs = c.add_sigs.new.places; callees = c.add_callees.new.places }) c.args.sigs.now c.args.callees.now can (c.in_ok-add_sigs.ensures (map sig_key f.sigs) keyed.sigs (ap length c.sigs.ensures ∙ sym (length-map f.sigs sig_key))) (c.in_ok-add_callees.ensures (map (key_among f.sigs) f.callees) keyed.callees (ap length c.callees.ensures ∙ sym (length-map f.callees (key_among f.sigs))))

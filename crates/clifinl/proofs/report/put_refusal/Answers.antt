use Rattle.std.proofs.lemmas.Grind.{common_steps}
use Rattle.std.proofs.Common.{arith, ◌≡◌, ℕ, List, subst, OnOk, OnErr}
use Rattle.std.specs.Io.KnownBytes.{Appends}
use Rattle.clk_flow.specs.Whole.{AppendsPrefix}
use Rattle.clifinl.specs.Lines.{refusal_line}
use Rattle.clifinl.proofs.report.put_refusal.Goals as goal

pub returns-in-Text-clause-part : goal.returns-in-Text-clause-part
returns-in-Text-clause-part g c =
    let Told : List ℕ → Type 0 = λ bytes. OnErr c.put_all.result (AppendsPrefix (g.K.Sink.written c.args.sink.now) (g.K.Sink.written c.put_all.new.sink) bytes) in
    let told : (bytes : List ℕ) → Told bytes → bytes ≡ refusal_line c.args.refusal → Told (refusal_line c.args.refusal) =
    λ bytes part same. subst Told same part in
    told _ c.put_all.ensures.part (grind (arith, common_steps))

pub returns-in-BadDirective-clause-whole : goal.returns-in-BadDirective-clause-whole
returns-in-BadDirective-clause-whole g c =
    let Told : List ℕ → Type 0 = λ bytes. OnOk c.put_numbered-in-BadDirective.result (Appends (g.K.Sink.written c.args.sink.now) (g.K.Sink.written c.put_numbered-in-BadDirective.new.sink) bytes) in
    let told : (bytes : List ℕ) → Told bytes → bytes ≡ refusal_line c.args.refusal → Told (refusal_line c.args.refusal) =
    λ bytes whole same. subst Told same whole in
    told _ c.put_numbered-in-BadDirective.ensures.whole (grind (arith, common_steps))

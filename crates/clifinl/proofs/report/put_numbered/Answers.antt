use Rattle.std.proofs.lemmas.Grind.{common_steps}
use Rattle.std.proofs.Common.{arith, ◌≡◌, ◌++◌, ℕ, List, codes, decimal, subst, OnOk, OnErr}
use Rattle.std.specs.Io.KnownBytes.{Appends}
use Rattle.clk_flow.specs.Whole.{AppendsPrefix}
use Rattle.clifinl.proofs.report.put_numbered.Goals as goal

pub returns-clause-whole : goal.returns-clause-whole
returns-clause-whole g c =
    let line : List ℕ = c.args.front.now ++ decimal c.args.number ++ codes "\n" in
    let Told : List ℕ → Type 0 = λ bytes. OnOk c.put_all.result (Appends (g.K.Sink.written c.args.sink.now) (g.K.Sink.written c.put_all.new.sink) bytes) in
    let told : (bytes : List ℕ) → Told bytes → bytes ≡ line → Told line = λ bytes whole same. subst Told same whole in
    told _ c.put_all.ensures.whole (grind (arith, common_steps))

pub returns-clause-part : goal.returns-clause-part
returns-clause-part g c =
    let line : List ℕ = c.args.front.now ++ decimal c.args.number ++ codes "\n" in
    let Told : List ℕ → Type 0 = λ bytes. OnErr c.put_all.result (AppendsPrefix (g.K.Sink.written c.args.sink.now) (g.K.Sink.written c.put_all.new.sink) bytes) in
    let told : (bytes : List ℕ) → Told bytes → bytes ≡ line → Told line = λ bytes part same. subst Told same part in
    told _ c.put_all.ensures.part (grind (arith, common_steps))

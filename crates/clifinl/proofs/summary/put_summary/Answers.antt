use Rattle.std.proofs.Common.{◌≡◌, ◌∙◌, [], ◌∷◌, ℕ, List, ap, ap₂, subst, flat_map, OnOk, OnErr, codes, decimal}
use Rattle.std.specs.Io.KnownBytes.{Appends}
use Rattle.clk_flow.specs.Whole.{AppendsPrefix}
use Rattle.clifinl.specs.GenCommand.{Summary, summary_text}
use Rattle.clifinl.specs.Measured.{measured}
use Rattle.clifinl.proofs.PieceLaws.{joined_is}
use Rattle.clifinl.proofs.summary.put_summary.Goals as goal

-- the pieces behind the first name
abbrev behind : Summary → List (List ℕ)
behind s =
    decimal s.functions ∷ codes "\nsites " ∷ decimal s.sites ∷ codes "\ninlined " ∷ decimal s.inlined ∷ codes "\nsize before " ∷ decimal s.size_before ∷ codes "\nsize after " ∷ decimal s.size_after ∷ codes "\nsteps " ∷ decimal s.steps ∷ codes "\n" ∷ []

joins : (s : Summary) → flat_map (λ piece. piece) (codes "functions " ∷ behind s) ≡ summary_text s
joins s = joined_is (codes "functions ") (behind s)

pub returns-clause-whole : goal.returns-clause-whole
returns-clause-whole g c =
    let s : Summary = measured c.args.summary.now in
    let Told : List ℕ → Type 0 = λ bytes. OnOk c.put_all.result (Appends (g.K.Sink.written c.args.sink.now) (g.K.Sink.written c.put_all.new.sink) bytes) in
    let told : (bytes : List ℕ) → Told bytes → bytes ≡ summary_text s → Told (summary_text s) = λ bytes whole same. subst Told same whole in
    told _ c.put_all.ensures.whole (ap (flat_map (λ (piece : List ℕ). piece)) (
    ap₂ (λ x xs. x ∷ xs) c.as_slice.ensures (ap₂ (λ x xs. x ∷ xs) (c.as_bytes.ensures.value ∙ c.format.ensures.text) (
    ap₂ (λ x xs. x ∷ xs) c.as_slice-2.ensures (ap₂ (λ x xs. x ∷ xs) (c.as_bytes-2.ensures.value ∙ c.format-2.ensures.text) (
    ap₂ (λ x xs. x ∷ xs) c.as_slice-3.ensures (ap₂ (λ x xs. x ∷ xs) (c.as_bytes-3.ensures.value ∙ c.format-3.ensures.text) (
    ap₂ (λ x xs. x ∷ xs) c.as_slice-4.ensures (ap₂ (λ x xs. x ∷ xs) (c.as_bytes-4.ensures.value ∙ c.format-4.ensures.text) (
    ap₂ (λ x xs. x ∷ xs) c.as_slice-5.ensures (ap₂ (λ x xs. x ∷ xs) (c.as_bytes-5.ensures.value ∙ c.format-5.ensures.text) (
    ap₂ (λ x xs. x ∷ xs) c.as_slice-6.ensures (ap₂ (λ x xs. x ∷ xs) (c.as_bytes-6.ensures.value ∙ c.format-6.ensures.text) (
    ap (λ x. x ∷ []) c.as_slice-7.ensures))))))))))))) ∙ joins s)

pub returns-clause-part : goal.returns-clause-part
returns-clause-part g c =
    let s : Summary = measured c.args.summary.now in
    let Told : List ℕ → Type 0 = λ bytes. OnErr c.put_all.result (AppendsPrefix (g.K.Sink.written c.args.sink.now) (g.K.Sink.written c.put_all.new.sink) bytes) in
    let told : (bytes : List ℕ) → Told bytes → bytes ≡ summary_text s → Told (summary_text s) = λ bytes part same. subst Told same part in
    told _ c.put_all.ensures.part (ap (flat_map (λ (piece : List ℕ). piece)) (
    ap₂ (λ x xs. x ∷ xs) c.as_slice.ensures (ap₂ (λ x xs. x ∷ xs) (c.as_bytes.ensures.value ∙ c.format.ensures.text) (
    ap₂ (λ x xs. x ∷ xs) c.as_slice-2.ensures (ap₂ (λ x xs. x ∷ xs) (c.as_bytes-2.ensures.value ∙ c.format-2.ensures.text) (
    ap₂ (λ x xs. x ∷ xs) c.as_slice-3.ensures (ap₂ (λ x xs. x ∷ xs) (c.as_bytes-3.ensures.value ∙ c.format-3.ensures.text) (
    ap₂ (λ x xs. x ∷ xs) c.as_slice-4.ensures (ap₂ (λ x xs. x ∷ xs) (c.as_bytes-4.ensures.value ∙ c.format-4.ensures.text) (
    ap₂ (λ x xs. x ∷ xs) c.as_slice-5.ensures (ap₂ (λ x xs. x ∷ xs) (c.as_bytes-5.ensures.value ∙ c.format-5.ensures.text) (
    ap₂ (λ x xs. x ∷ xs) c.as_slice-6.ensures (ap₂ (λ x xs. x ∷ xs) (c.as_bytes-6.ensures.value ∙ c.format-6.ensures.text) (
    ap (λ x. x ∷ []) c.as_slice-7.ensures))))))))))))) ∙ joins s)

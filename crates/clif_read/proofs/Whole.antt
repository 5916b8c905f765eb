-- The whole of a text, in the words of the grammar.
use Rattle.std.proofs.Common.{◌≡◌, ℕ, cond, List, [], ◌∷◌, ◌++◌, Ok, Err, refl, sym, ap, subst, ◌∙◌}
use Rattle.std.proofs.lemmas.List.{append-nil}
use Rattle.grammar.specs.Rules.{Lexeme, Kind, Syntax, UnknownOpcode, Unsupported, Tree, Answers, Out, read, read_all, heads_any, ◌>>=◌}
use Rattle.grammar.proofs.Exactness.{complete}
use Rattle.grammar.proofs.Exact.{exact}
use Rattle.token_reader.specs.declared.stop.Stop.{Stop}
use Rattle.token_reader.specs.declared.stop.Stop.TheVariants as stops
use Rattle.token_reader.specs.Reading.{Stops}
use Rattle.token_reader.specs.Next.{spot_or}
use Rattle.token_reader.specs.Values.{seen}
use Rattle.clif_read.specs.declared.raw.RawModule.{RawModule}
use Rattle.clif_read.specs.ModuleGrammar.{module_rule}
use Rattle.clif_read.specs.ModuleValues.{module_value}
use Rattle.clif_read.specs.Modules.{whole_module_at}
use Rattle.clif_read.specs.Texts.{IsModule, NoModule, Broken, Stopped, error_at}
use Rattle.clif_read.proofs.ModuleLaws.{module_is}

abbrev to_end : Out (Tree module_rule) → Out (Tree module_rule)
to_end o = o >>= λ x. cond (heads_any x.1) (Err (Syntax, x.1)) (Ok x)

ok_err : (v : Tree module_rule) (e : Kind × List Lexeme) → (let o : Out (Tree module_rule) = Ok (v, []) in o) ≡ Err e → ⊥
ok_err v e h = absurd cc

no_module : (ts : List Lexeme) (e : Kind × List Lexeme) → to_end (read module_rule ts) ≡ Err e → NoModule ts
no_module ts e h = λ v d.
    let whole : read module_rule (ts ++ []) ≡ Ok (v, []) = complete module_rule refl ts v [] d refl in
    let same : read module_rule ts ≡ Ok (v, []) = ap (read module_rule) (sym (append-nil ts)) ∙ whole in
    ok_err v e (sym (ap to_end same) ∙ h)

answer : (ts : List Lexeme) (e : Kind × List Lexeme) → read_all module_rule ts ≡ Err e → Answers module_rule ts (Err e)
answer ts e h = subst (Answers module_rule ts) h (exact module_rule refl ts)

broken : (ts : List Lexeme) (end : ℕ) (e : Kind × List Lexeme) → to_end (read module_rule ts) ≡ Err e → read_all module_rule ts ≡ Err e → Broken ts end e.0 (spot_or end e.1)
broken ts end e h all =
    let a = answer ts e all in
    (no_module ts e h, (a.0, a.1, a.2, (a.3.1, a.3.2, sym (ap (spot_or end) a.3.0))))

abbrev Says : List Lexeme → ℕ → Out RawModule → Type 0
Says ts end (Ok x) = IsModule ts x.0
Says ts end (Err e) = Broken ts end e.0 (spot_or end e.1)

abbrev whole : Out RawModule → Out RawModule
whole o = o >>= λ m. cond (heads_any m.1) (Err (Syntax, m.1)) (Ok m)

says_read : (ts : List Lexeme) (end : ℕ) (o : Out (Tree module_rule)) → read module_rule ts ≡ o → Says ts end (whole (seen module_value o))
says_read ts end (Ok (v, [])) h =
    let all : read_all module_rule ts ≡ Ok v = rw h refl in
    let a = subst (Answers module_rule ts) all (exact module_rule refl ts) in
    (v, a.0, refl, a.1)
says_read ts end (Ok (v, x ∷ rest)) h = broken ts end (Syntax, x ∷ rest) (rw h refl) (rw h refl)
says_read ts end (Err e) h = broken ts end e (rw h refl) (rw h refl)

says : (ts : List Lexeme) (end : ℕ) → Says ts end (whole_module_at ts)
unfolding whole_module_at
says ts end = subst (Says ts end) (sym (ap whole (module_is.same ts))) (says_read ts end (read module_rule ts) refl)

-- ---- what the call answers

pub found_at : (ts given rest : List Lexeme) (end : ℕ) (m : RawModule) → given ≡ ts → whole_module_at given ≡ Ok (m, rest) → IsModule ts m
found_at ts given rest end m e h = subst (Says ts end) (sym (ap whole_module_at e) ∙ h) (says ts end)

broken_at : (ts given rest : List Lexeme) (end size spot : ℕ) (kind : Kind) → given ≡ ts → size ≡ end → spot ≡ spot_or size rest → whole_module_at given ≡ Err (kind, rest) → Broken ts end kind spot
broken_at ts given rest end size spot kind e f g h =
    let b : Broken ts end kind (spot_or end rest) = subst (Says ts end) (sym (ap whole_module_at e) ∙ h) (says ts end) in
    subst (Broken ts end kind) (sym (g ∙ ap (λ n. spot_or n rest) f)) b

pub stopped_at : (ts given rest : List Lexeme) (end size spot : ℕ) (stop : Stop) → given ≡ ts → size ≡ end → spot ≡ spot_or size rest → Stops rest stop (whole_module_at given) → Stopped ts end (error_at stop spot)
stopped_at ts given rest end size spot stops.Syntax e f g h = broken_at ts given rest end size spot Syntax e f g h
stopped_at ts given rest end size spot stops.UnknownOpcode e f g h = broken_at ts given rest end size spot UnknownOpcode e f g h
stopped_at ts given rest end size spot stops.Unsupported e f g h = broken_at ts given rest end size spot Unsupported e f g h
stopped_at ts given rest end size spot stops.NoMemory e f g h = tt

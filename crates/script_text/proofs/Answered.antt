-- What reading all tokens from left to right gives is the text's one reading, or the first place where no text goes on.
use Rattle.std.proofs.Common.{◌≡◌, ℕ, true, cond, List, [], ◌∷◌, length, Result, Ok, Err, refl, sym, ap, subst, ◌∙◌}
use Rattle.grammar.specs.Rules.{Lexeme, Kind, Syntax, UnknownOpcode, Unsupported, Rule, Tree, Out, Cut, Begins, GoesNoFurther, Answers, good, heads_any, read, ◌>>=◌}
use Rattle.grammar.proofs.Binds.{ok_is}
use Rattle.grammar.proofs.Exact.{exact}
use Rattle.grammar.proofs.OneStop.{no_further}
use Rattle.token_reader.specs.declared.stop.Stop.{Stop}
use Rattle.token_reader.specs.declared.stop.Stop.TheVariants as stops
use Rattle.token_reader.specs.Next.{spot_or}
use Rattle.token_reader.specs.Reading.{Stops}
use Rattle.token_reader.specs.Values.{seen}
use Rattle.token_reader.proofs.Seen.{Is}
use Rattle.script_text.specs.Lexed.{lexed}
use Rattle.script_text.specs.Reading.{finish_at, whole}
use Rattle.script_text.specs.Scripts.{Reads, StopsIn, Refuses, error_at}

-- what stands behind what was read ends it
abbrev all_of : {A : Type 0} → Out A → Out A
all_of o = o >>= λ x. finish_at x.1 >>= λ e. Ok (x.0, e.1)

abbrev all_tree : {A : Type 0} → Out A → Result A (Kind × List Lexeme)
all_tree o = o >>= λ x. cond (heads_any x.1) (Err (Syntax, x.1)) (Ok x.0)

ok_part : {A T : Type 0} (f : T → A) (o : Out T) (x : A) (now : List Lexeme) → all_of (seen f o) ≡ Ok (x, now) → (v : T) × (all_tree o ≡ Ok v) × (x ≡ f v)
unfolding finish_at
ok_part f (Ok (v, [])) x now e = (v, refl, sym (ap (λ z. z.0) (ok_is (f v, []) (x, now) e)))
ok_part f (Ok (v, t ∷ ts)) x now e = absurd cc
ok_part f (Err d) x now e = absurd cc

err_part : {A T : Type 0} (f : T → A) (o : Out T) (d : Kind × List Lexeme) → all_of (seen f o) ≡ Err d → all_tree o ≡ Err d
unfolding finish_at
err_part f (Ok (v, [])) d e = absurd cc
err_part f (Ok (v, t ∷ ts)) d e = ap (λ z. Err z) (let h : (Syntax, t ∷ ts) ≡ d = cc in h)
err_part f (Err c) d e = ap (λ z. Err z) (let h : c ≡ d = cc in h)

seen_whole : {A : Type 0} {r : Rule} {f : Tree r → A} {p : List Lexeme → Out A} → Is r f p → (ts : List Lexeme) → whole p ts ≡ all_of (seen f (read r ts))
unfolding whole
seen_whole is ts = ap all_of (is.same ts)

pub reads : {A : Type 0} {r : Rule} {f : Tree r → A} {p : List Lexeme → Out A} → Is r f p → good r ≡ true
    → (text : List ℕ) (x : A) (now : List Lexeme) → whole p (lexed text) ≡ Ok (x, now) → Reads r f text x
reads {A} {r} {f} is right text x now e =
    let got = ok_part f (read r (lexed text)) x now (sym (seen_whole is (lexed text)) ∙ e) in
    let answer = subst (Answers r (lexed text)) got.1 (exact r right (lexed text)) in
    (got.0, answer.0, got.2, answer.1)

stopped_at : (r : Rule) (ts : List Lexeme) (n : ℕ) (k : Kind) (now : List Lexeme) → Answers r ts (Err (k, now))
    → Cut ts (λ us rest. Begins r us × GoesNoFurther r us rest × (spot_or n now ≡ spot_or n rest))
stopped_at r ts n k now (us, rest, cut, (same, begins, stop)) = (us, rest, cut, (begins, no_further r us rest k stop, ap (spot_or n) (sym same)))

stops_in : {A : Type 0} {r : Rule} {f : Tree r → A} {p : List Lexeme → Out A} → Is r f p → good r ≡ true
    → (text : List ℕ) (k : Kind) (now : List Lexeme) → whole p (lexed text) ≡ Err (k, now) → StopsIn r text (spot_or (length text) now)
stops_in {A} {r} {f} is right text k now e =
    let got = err_part f (read r (lexed text)) (k, now) (sym (seen_whole is (lexed text)) ∙ e) in
    stopped_at r (lexed text) (length text) k now (subst (Answers r (lexed text)) got (exact r right (lexed text)))

pub refuses : {A : Type 0} {r : Rule} {f : Tree r → A} {p : List Lexeme → Out A} → Is r f p → good r ≡ true
    → (text : List ℕ) (stop : Stop) (now : List Lexeme) → Stops now stop (whole p (lexed text)) → Refuses r text (error_at stop (spot_or (length text) now))
refuses is right text stops.NoMemory now e = tt
refuses is right text stops.Syntax now e = stops_in is right text Syntax now e
refuses is right text stops.UnknownOpcode now e = stops_in is right text UnknownOpcode now e
refuses is right text stops.Unsupported now e = stops_in is right text Unsupported now e

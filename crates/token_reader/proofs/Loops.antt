-- A loop that reads as long as the next token is of one of the classes.
use Rattle.std.proofs.Common.{◌≡◌, ℕ, zero, suc, ◌≤◌, ◌<◌, true, false, List, [], ◌∷◌, ◌++◌, length, Ok, Err, refl, sym, ap, ◌∙◌, arith, append_assoc}
use Rattle.std.proofs.lemmas.List.{append-nil}
use Rattle.grammar.specs.Rules.{Lexeme, Kind, Syntax, UnknownOpcode, Unsupported, Out, heads, ◌>>=◌}
use Rattle.grammar.proofs.Sets.{heads_some}
use Rattle.token_reader.specs.declared.stop.Stop.{Stop}
use Rattle.token_reader.specs.declared.stop.Stop.TheVariants as stops
use Rattle.token_reader.specs.Reading.{Stops, each, with_front}

regroup : {A : Type 0} (front : List A) (a : A) (given : Out (List A)) → with_front front (given >>= λ y. Ok (a ∷ y.0, y.1)) ≡ with_front (front ++ a ∷ []) given
regroup {A} front a (Ok x) = ap (λ (l : List A). Ok (l, x.1)) (simp append_assoc)
regroup front a (Err f) = refl

-- What the loop keeps: what was read, and what is still read, are what is read in all. Enough turns are left.
abbrev pub Keeps : {A : Type 0} → (List Lexeme → Out A) → List ℕ → List A → List Lexeme → Out (List A) → Type 0
Keeps p cs front ts total = (n : ℕ) × (length ts ≤ n) × (with_front front (each p cs n ts) ≡ total)

pub goes_on : {A : Type 0} (p : List Lexeme → Out A) (cs : List ℕ) (front : List A) (ts after : List Lexeme) (a : A) (total : Out (List A))
    → heads cs ts ≡ true → p ts ≡ Ok (a, after) → length after < length ts → Keeps p cs front ts total → Keeps p cs (front ++ a ∷ []) after total
unfolding each
goes_on {A} p cs front ts after a total h e less (zero, le, so_far) = absurd (let k = heads_some cs ts h in omega arith)
goes_on {A} p cs front ts after a total h e less (suc n, le, so_far) =
    let one : with_front front (each p cs (suc n) ts) ≡ with_front (front ++ a ∷ []) (each p cs n after) = rw (h, e) (regroup front a (each p cs n after)) in
    (n, omega arith, sym one ∙ so_far)

fails_as : {A : Type 0} (p : List Lexeme → Out A) (cs : List ℕ) (front : List A) (ts now : List Lexeme) (k : Kind) (total : Out (List A))
    → heads cs ts ≡ true → p ts ≡ Err (k, now) → Keeps p cs front ts total → total ≡ Err (k, now)
unfolding each
fails_as p cs front ts now k total h e (zero, le, so_far) = absurd (let s = heads_some cs ts h in omega arith)
fails_as {A} p cs front ts now k total h e (suc n, le, so_far) =
    let one : with_front front (each p cs (suc n) ts) ≡ Err (k, now) = rw (h, e) refl in
    sym so_far ∙ one

pub fails : {A : Type 0} (p : List Lexeme → Out A) (cs : List ℕ) (front : List A) (ts now : List Lexeme) (stop : Stop) (total : Out (List A))
    → heads cs ts ≡ true → Stops now stop (p ts) → Keeps p cs front ts total → Stops now stop total
fails p cs front ts now stops.NoMemory total h e k = tt
fails p cs front ts now stops.Syntax total h e k = fails_as p cs front ts now Syntax total h e k
fails p cs front ts now stops.UnknownOpcode total h e k = fails_as p cs front ts now UnknownOpcode total h e k
fails p cs front ts now stops.Unsupported total h e k = fails_as p cs front ts now Unsupported total h e k

pub is_done : {A : Type 0} (p : List Lexeme → Out A) (cs : List ℕ) (front : List A) (ts : List Lexeme) (total : Out (List A))
    → heads cs ts ≡ false → Keeps p cs front ts total → total ≡ Ok (front, ts)
unfolding each
is_done {A} p cs front ts total h (zero, le, so_far) = sym so_far ∙ ap (λ (l : List A). Ok (l, ts)) (append-nil front)
is_done {A} p cs front ts total h (suc n, le, so_far) =
    let one : with_front front (each p cs (suc n) ts) ≡ Ok (front, ts) = rw h (ap (λ (l : List A). Ok (l, ts)) (append-nil front)) in
    sym so_far ∙ one

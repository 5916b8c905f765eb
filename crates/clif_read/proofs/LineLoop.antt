-- The loop over the lines of a block.
use Rattle.std.proofs.Common.{◌≡◌, ℕ, zero, suc, ◌+◌, ◌≤◌, ◌<◌, Bool, true, false, List, [], ◌∷◌, length, Ok, Err, slice_index_or, slice_set, ap, sym, ◌∙◌, arith, refl}
use Rattle.grammar.specs.Rules.{Lexeme, Kind, Syntax, UnknownOpcode, Unsupported, Out, heads, firsts, ◌>>=◌}
use Rattle.grammar.proofs.Sets.{heads_some}
use Rattle.token_reader.specs.declared.stop.Stop.{Stop}
use Rattle.token_reader.specs.declared.stop.Stop.TheVariants as stops
use Rattle.token_reader.specs.Reading.{Stops}
use Rattle.token_reader.specs.declared.raw.RawName.{RawName}
use Rattle.clif_read.specs.declared.raw.RawLine.{RawLine}
use Rattle.clif_read.specs.ModuleGrammar.{line}
use Rattle.clif_read.specs.LineValues.{LinePart, with_values}
use Rattle.clif_read.specs.Lines.{line_at, is_return, to_last, add_part, adding, more_lines_at}

-- What the loop keeps: the lines so far, and what is still read, are what is read in all. Enough turns are left.
abbrev pub KeepsLines : List RawLine → Bool → List Lexeme → Out (List RawLine) → Type 0
KeepsLines before after_return ts total = (n : ℕ) × (length ts ≤ n) × (more_lines_at n before after_return ts ≡ total)

-- the lines behind a part
abbrev behind : ℕ → (List RawLine × Bool) × List Lexeme → Out (List RawLine)
behind n x = more_lines_at n x.0.0 x.0.1 x.1

one_by_one : (n : ℕ) (before : List RawLine) (o : Out LinePart) → (o >>= λ part. more_lines_at n (add_part before part.0) (is_return part.0) part.1) ≡ (adding before o >>= behind n)
one_by_one n before (Ok x) = refl
one_by_one n before (Err e) = refl

pub goes_on : (before now : List RawLine) (after_return next : Bool) (ts after : List Lexeme) (total : Out (List RawLine))
    → heads (firsts line) ts ≡ true → adding before (line_at after_return ts) ≡ Ok ((now, next), after) → length after < length ts
    → KeepsLines before after_return ts total → KeepsLines now next after total
unfolding more_lines_at
goes_on before now after_return next ts after total h e less (zero, le, so_far) = absurd (let k = heads_some (firsts line) ts h in omega arith)
goes_on before now after_return next ts after total h e less (suc n, le, so_far) =
    let one : more_lines_at (suc n) before after_return ts ≡ more_lines_at n now next after = rw h (one_by_one n before (line_at after_return ts) ∙ ap (λ o. o >>= behind n) e) in
    (n, omega arith, sym one ∙ so_far)

fails_as : (before : List RawLine) (after_return : Bool) (ts now : List Lexeme) (k : Kind) (total : Out (List RawLine))
    → heads (firsts line) ts ≡ true → adding before (line_at after_return ts) ≡ Err (k, now) → KeepsLines before after_return ts total → total ≡ Err (k, now)
unfolding more_lines_at
fails_as before after_return ts now k total h e (zero, le, so_far) = absurd (let s = heads_some (firsts line) ts h in omega arith)
fails_as before after_return ts now k total h e (suc n, le, so_far) =
    let one : more_lines_at (suc n) before after_return ts ≡ Err (k, now) = rw h (one_by_one n before (line_at after_return ts) ∙ ap (λ o. o >>= behind n) e) in
    sym so_far ∙ one

pub fails : (before : List RawLine) (after_return : Bool) (ts now : List Lexeme) (stop : Stop) (total : Out (List RawLine))
    → heads (firsts line) ts ≡ true → Stops now stop (adding before (line_at after_return ts)) → KeepsLines before after_return ts total → Stops now stop total
fails before after_return ts now stops.NoMemory total h e k = tt
fails before after_return ts now stops.Syntax total h e k = fails_as before after_return ts now Syntax total h e k
fails before after_return ts now stops.UnknownOpcode total h e k = fails_as before after_return ts now UnknownOpcode total h e k
fails before after_return ts now stops.Unsupported total h e k = fails_as before after_return ts now Unsupported total h e k

pub is_done : (before : List RawLine) (after_return : Bool) (ts : List Lexeme) (total : Out (List RawLine))
    → heads (firsts line) ts ≡ false → KeepsLines before after_return ts total → total ≡ Ok (before, ts)
unfolding more_lines_at
is_done before after_return ts total h (zero, le, so_far) = sym so_far
is_done before after_return ts total h (suc n, le, so_far) =
    let one : more_lines_at (suc n) before after_return ts ≡ Ok (before, ts) = rw h refl in
    sym so_far ∙ one

-- the last line, with its values
pub last_set : (n : ℕ) (lines : List RawLine) (old new : RawLine) (values : List RawName) → n + 1 ≡ length lines → old ≡ slice_index_or lines n old → new ≡ with_values values old → slice_set lines n new ≡ to_last values lines
last_set n [] old new values h e f = absurd (omega arith)
last_set zero (l ∷ []) old new values h e f = rw (f, e) refl
last_set (suc n) (l ∷ []) old new values h e f = absurd (omega arith)
last_set zero (l ∷ next ∷ more) old new values h e f = absurd (omega arith)
last_set (suc n) (l ∷ next ∷ more) old new values h e f = ap (λ (ls : List RawLine). l ∷ ls) (last_set n (next ∷ more) old new values (omega arith) e f)

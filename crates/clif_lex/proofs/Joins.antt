-- What stands behind a line's end makes no difference to the tokens before it.
use Rattle.std.proofs.Common.{◌≡◌, ℕ, zero, suc, ◌+◌, ◌-◌, ◌≤◌, ◌<◌, Bool, true, false, not, ◌&&◌, ◌==◌, cond, List, [], ◌∷◌, ◌++◌, length, drop, Result, Ok, Err, refl, sym, ◌∙◌, ap, arith}
use Rattle.std.proofs.lemmas.Bool.{and_parts}
use Rattle.std.proofs.lemmas.List.{length-drop, take-append-le}
use Rattle.std.proofs.lemmas.List.Sums.{prefix_len-le-length}
use Rattle.std.specs.Char.{is_ascii_hexdigit}
use Rattle.std.specs.List.{prefix_len}
use Rattle.clif_lex.specs.declared.spans.Token.{Token}
use Rattle.clif_lex.specs.declared.faults.LexErr.{LexErr}
use Rattle.clif_lex.specs.Bytes.{is_blank, is_letter, is_word_byte, is_no_line_feed, is_decimal_byte, is_hex_byte, first}
use Rattle.clif_lex.specs.Numbers.{sign_len, unsigned, is_hex, digits_len, number_len, lacks_digits}
use Rattle.clif_lex.specs.Lexing.{◌>>=◌, is_preamble, number_at, word_at, token_at, tokens_from}
use Rattle.clif_lex.specs.Spelling.{Stands}
use Rattle.clif_lex.specs.Stretches.{preamble_after}
use Rattle.clif_lex.proofs.Runs.{at_blank, at_token, at_fault}
use Rattle.clif_lex.proofs.Longest.{stands}
use Rattle.clif_lex.proofs.Plain.{sign_within}

-- a run goes no further than the line
run_in_line : (p : ℕ → Bool) (line more : List ℕ) → p 10 ≡ false → prefix_len p (line ++ (10 ∷ more)) ≡ prefix_len p line
run_in_line p [] more stop = rw stop refl
run_in_line p (c ∷ cs) more stop = rw (run_in_line p cs more stop) refl

-- nor does what is dropped of it
drop_in_line : (n : ℕ) (line more : List ℕ) → n ≤ length line → drop n (line ++ (10 ∷ more)) ≡ drop n line ++ (10 ∷ more)
drop_in_line zero line more h = refl
drop_in_line (suc n) [] more h = absurd (omega arith)
drop_in_line (suc n) (c ∷ cs) more h = drop_in_line n cs more (omega arith)

-- a line feed is in no set that the end of the text is not in
front_in_line : (p : ℕ → Bool) (line more : List ℕ) → p 10 ≡ p 0 → p (first (line ++ (10 ∷ more))) ≡ p (first line)
front_in_line p [] more same = same
front_in_line p (c ∷ cs) more same = refl

-- words

word_in_line : (preamble : Bool) (at : ℕ) (line more : List ℕ) → word_at preamble at (line ++ (10 ∷ more)) ≡ word_at preamble at line
unfolding word_at
word_in_line preamble at line more =
    let run = run_in_line is_word_byte line more refl in
    let taken = take-append-le (prefix_len is_word_byte line) line (10 ∷ more) (prefix_len-le-length is_word_byte line) in
    let rest = run_in_line is_no_line_feed line more refl in
    rw (run, taken, rest) refl

-- numbers

sign_in_line : (line more : List ℕ) → sign_len (line ++ (10 ∷ more)) ≡ sign_len line
sign_in_line [] more = refl
sign_in_line (c ∷ cs) more = refl

rest_in_line : (line more : List ℕ) → drop (sign_len line) (line ++ (10 ∷ more)) ≡ unsigned line ++ (10 ∷ more)
rest_in_line line more = drop_in_line (sign_len line) line more (sign_within line)

hex_in_line : (line more : List ℕ) → is_hex (line ++ (10 ∷ more)) ≡ is_hex line
hex_in_line [] more = refl
hex_in_line (c ∷ []) more = refl
hex_in_line (c ∷ d ∷ ds) more = refl

hex_len : (line : List ℕ) → is_hex line ≡ true → 2 ≤ length line
hex_len [] h = absurd cc
hex_len (c ∷ []) h = absurd (let parts = and_parts (c == 48) (0 == 120) h in let e : false ≡ true = parts.1 in cc)
hex_len (c ∷ d ∷ ds) h = omega arith

digits_in_line : (line more : List ℕ) → digits_len (line ++ (10 ∷ more)) ≡ digits_len line
digits_in_line line more = rw (hex_in_line line more) (go (is_hex line) refl)
  where
    go : (b : Bool) → is_hex line ≡ b
        → cond b (2 + prefix_len is_hex_byte (drop 2 (line ++ (10 ∷ more)))) (prefix_len is_decimal_byte (line ++ (10 ∷ more)))
        ≡ cond b (2 + prefix_len is_hex_byte (drop 2 line)) (prefix_len is_decimal_byte line)
    go true e = ap (λ k. 2 + k) (ap (prefix_len is_hex_byte) (drop_in_line 2 line more (hex_len line e)) ∙ run_in_line is_hex_byte (drop 2 line) more refl)
    go false e = run_in_line is_decimal_byte line more refl

digits_within : (line : List ℕ) → digits_len line ≤ length line
digits_within line = go (is_hex line) refl
  where
    go : (b : Bool) → is_hex line ≡ b → cond b (2 + prefix_len is_hex_byte (drop 2 line)) (prefix_len is_decimal_byte line) ≤ length line
    go true e = omega (arith, hex_len line e, length-drop 2 line, prefix_len-le-length is_hex_byte (drop 2 line))
    go false e = prefix_len-le-length is_decimal_byte line

number_len_in_line : (line more : List ℕ) → number_len (line ++ (10 ∷ more)) ≡ number_len line
number_len_in_line line more = rw (sign_in_line line more, rest_in_line line more, digits_in_line (unsigned line) more) refl

number_within : (line : List ℕ) → number_len line ≤ length line
number_within line = omega (arith, sign_within line, digits_within (unsigned line), length-drop (sign_len line) line)

lacks_in_line : (line more : List ℕ) → lacks_digits (line ++ (10 ∷ more)) ≡ lacks_digits line
lacks_in_line line more = rw (sign_in_line line more, rest_in_line line more, hex_in_line (unsigned line) more) (go (is_hex (unsigned line)) refl)
  where
    go : (b : Bool) → is_hex (unsigned line) ≡ b
        → (b && not (is_ascii_hexdigit (first (drop 2 (unsigned line ++ (10 ∷ more)))))) ≡ (b && not (is_ascii_hexdigit (first (drop 2 (unsigned line)))))
    go true e = rw (drop_in_line 2 (unsigned line) more (hex_len (unsigned line) e)) (ap not (front_in_line is_ascii_hexdigit (drop 2 (unsigned line)) more refl))
    go false e = refl

number_in_line : (at : ℕ) (line more : List ℕ) → number_at at (line ++ (10 ∷ more)) ≡ number_at at line
unfolding number_at
number_in_line at line more =
    let len = number_len_in_line line more in
    let lacks = lacks_in_line line more in
    let taken = take-append-le (number_len line) line (10 ∷ more) (number_within line) in
    let dropped = drop_in_line (number_len line) line more (number_within line) in
    let letter = front_in_line is_letter (drop (number_len line) line) more refl in
    rw (len, lacks, taken, dropped, letter) refl

-- the token that begins a line is the same whatever follows the line
token_in_line : (preamble : Bool) (at : ℕ) (line more : List ℕ) → token_at preamble at (line ++ (10 ∷ more)) ≡ token_at preamble at line
unfolding token_at
token_in_line preamble at [] more = refl
token_in_line preamble at (c ∷ []) more = rw (word_in_line preamble at (c ∷ []) more, number_in_line at (c ∷ []) more) refl
token_in_line preamble at (c ∷ d ∷ ds) more =
    rw (word_in_line preamble at (c ∷ d ∷ ds) more, number_in_line at (c ∷ d ∷ ds) more, run_in_line is_word_byte ds more refl, run_in_line is_ascii_hexdigit ds more refl, run_in_line is_no_line_feed ds more refl) refl

-- lines, and what follows them

-- the tokens that were read, and then those of what follows
abbrev pub then_tokens : Bool → ℕ → List ℕ → List Token → Result (List Token) LexErr
then_tokens preamble at more ts = tokens_from (preamble_after preamble ts) 0 at more >>= λ us. Ok (ts ++ us)

pub none_before : (preamble : Bool) (at : ℕ) (more : List ℕ) → then_tokens preamble at more [] ≡ tokens_from preamble 0 at more
none_before true at more = same (tokens_from true 0 at more)
  where
    same : (read : Result (List Token) LexErr) → (read >>= λ us. Ok us) ≡ read
    same (Ok us) = refl
    same (Err e) = refl
none_before false at more = same (tokens_from false 0 at more)
  where
    same : (read : Result (List Token) LexErr) → (read >>= λ us. Ok us) ≡ read
    same (Ok us) = refl
    same (Err e) = refl

one_before : (preamble : Bool) (at : ℕ) (more : List ℕ) (t : Token) (read : Result (List Token) LexErr)
    → (read >>= then_tokens (preamble && is_preamble t.kind) at more >>= λ ts. Ok (t ∷ ts)) ≡ ((read >>= λ ts. Ok (t ∷ ts)) >>= then_tokens preamble at more)
one_before preamble at more t (Err e) = refl
one_before preamble at more t (Ok ts) = go preamble
  where
    behind : (read : Result (List Token) LexErr) → ((read >>= λ us. Ok (ts ++ us)) >>= λ us. Ok (t ∷ us)) ≡ (read >>= λ us. Ok (t ∷ ts ++ us))
    behind (Ok us) = refl
    behind (Err e) = refl

    go : (p : Bool) → (then_tokens (p && is_preamble t.kind) at more ts >>= λ us. Ok (t ∷ us)) ≡ then_tokens p at more (t ∷ ts)
    go true = behind (tokens_from (preamble_after (is_preamble t.kind) ts) 0 at more)
    go false = behind (tokens_from false 0 at more)

lines_before : (n : ℕ) (preamble : Bool) (at : ℕ) (line more : List ℕ) → length line ≤ n
    → tokens_from preamble 0 at (line ++ (10 ∷ more)) ≡ (tokens_from preamble 0 at line >>= then_tokens preamble (at + length line + 1) more)
unfolding tokens_from
lines_before n preamble at [] more h =
    let e : at + 0 + 1 ≡ at + 1 = omega arith in
    at_blank preamble at 10 more refl ∙ sym (rw e (none_before preamble (at + 1) more))
lines_before zero preamble at (c ∷ cs) more h = absurd (omega arith)
lines_before (suc n) preamble at (c ∷ cs) more h =
    step (lines_before n preamble (at + 1) cs more (omega arith)) (λ p k rest g. lines_before n p k rest more g) (is_blank c) refl (token_at preamble at (c ∷ cs)) refl (stands preamble at (c ∷ cs))
  where
    step : tokens_from preamble 0 (at + 1) (cs ++ (10 ∷ more)) ≡ (tokens_from preamble 0 (at + 1) cs >>= then_tokens preamble (at + 1 + length cs + 1) more)
        → ((p : Bool) (k : ℕ) (rest : List ℕ) → length rest ≤ n → tokens_from p 0 k (rest ++ (10 ∷ more)) ≡ (tokens_from p 0 k rest >>= then_tokens p (k + length rest + 1) more))
        → (b : Bool) → is_blank c ≡ b → (r : Result Token LexErr) → token_at preamble at (c ∷ cs) ≡ r → Stands preamble at (c ∷ cs) r
        → tokens_from preamble 0 at (c ∷ (cs ++ (10 ∷ more))) ≡ (tokens_from preamble 0 at (c ∷ cs) >>= then_tokens preamble (at + suc (length cs) + 1) more)
    step next further true blank r e s =
        let i : at + 1 + length cs + 1 ≡ at + suc (length cs) + 1 = omega arith in
        rw (at_blank preamble at c cs blank, at_blank preamble at c (cs ++ (10 ∷ more)) blank) (rw i at next)
    step next further false blank (Err fault) e s =
        rw (at_fault preamble at c cs fault blank e, at_fault preamble at c (cs ++ (10 ∷ more)) fault blank (token_in_line preamble at (c ∷ cs) more ∙ e)) refl
    step next further false blank (Ok t) e s =
        let some : at < t.end = s.1 in
        let within : t.end - at ≤ length (c ∷ cs) = s.2.within in
        let p = preamble && is_preamble t.kind in
        let rest = drop (t.end - at) (c ∷ cs) in
        let shorter : length rest ≤ n = omega (arith, length-drop (t.end - at) (c ∷ cs)) in
        let i : t.end + length rest + 1 ≡ at + suc (length cs) + 1 = omega (arith, length-drop (t.end - at) (c ∷ cs)) in
        let here = at_token preamble at c cs t blank e some in
        let there = at_token preamble at c (cs ++ (10 ∷ more)) t blank (token_in_line preamble at (c ∷ cs) more ∙ e) some in
        let left : drop (t.end - at) (c ∷ (cs ++ (10 ∷ more))) ≡ rest ++ (10 ∷ more) = drop_in_line (t.end - at) (c ∷ cs) more within in
        let ih : tokens_from p 0 t.end (rest ++ (10 ∷ more)) ≡ (tokens_from p 0 t.end rest >>= then_tokens p (at + suc (length cs) + 1) more) = rw i at (further p t.end rest shorter) in
        there
        ∙ ap (λ r. tokens_from p 0 t.end r >>= λ ts. Ok (t ∷ ts)) left
        ∙ ap (λ (r : Result (List Token) LexErr). r >>= λ ts. Ok (t ∷ ts)) ih
        ∙ one_before preamble (at + suc (length cs) + 1) more t (tokens_from p 0 t.end rest)
        ∙ sym (ap (λ (r : Result (List Token) LexErr). r >>= then_tokens preamble (at + suc (length cs) + 1) more) here)

-- The tokens of lines and of what follows them are those of the lines, and then those of what follows. A fault of the lines is one of the whole.
pub lines_join : (preamble : Bool) (at : ℕ) (line more : List ℕ) → tokens_from preamble 0 at (line ++ (10 ∷ more)) ≡ (tokens_from preamble 0 at line >>= then_tokens preamble (at + length line + 1) more)
lines_join preamble at line more = lines_before (length line) preamble at line more (omega arith)

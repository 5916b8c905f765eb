-- Going on from a token.
use Rattle.std.proofs.Common.{◌≡◌, ℕ, zero, suc, ◌+◌, ◌-◌, ◌≤◌, ◌<◌, Bool, true, false, ◌&&◌, nat_lt, cond, List, [], ◌∷◌, ◌++◌, length, drop, get_or, Result, Ok, Err, refl, sym, ap, ◌∙◌, arith, append_assoc}
use Rattle.std.proofs.lemmas.List.{length-drop, append-nil, nil_from_length, drop_more, drop-drop}
use Rattle.std.proofs.lemmas.Bool.Decides.{nat_tests}
use Rattle.clif_lex.specs.declared.spans.Token.{Token}
use Rattle.clif_lex.specs.declared.faults.LexErr.{LexErr}
use Rattle.clif_lex.specs.declared.faults.LexErr.TheVariants.{BadChar, BadNumber, NoMemory}
use Rattle.clif_lex.specs.Bytes.{is_blank, first}
use Rattle.clif_lex.specs.Lexing.{◌>>=◌, is_preamble, token_at, tokens_from, Gives}

-- what was read before, and what is still read
abbrev pub with_front : List Token → Result (List Token) LexErr → Result (List Token) LexErr
with_front front read = read >>= λ ts. Ok (front ++ ts)

-- a token that ended before these bytes makes no difference
ended : (preamble : Bool) (past at : ℕ) (text : List ℕ) → past ≤ at → tokens_from preamble past at text ≡ tokens_from preamble 0 at text
unfolding tokens_from
ended preamble past at [] h = refl
ended preamble past at (c ∷ cs) h =
    let here : nat_lt at past ≡ false = grind (arith, nat_tests) in
    let none : nat_lt at 0 ≡ false = grind (arith, nat_tests) in
    rw (here, none) (elim (is_blank c) as (λ (b : Bool).
    cond b (tokens_from preamble past (at + 1) cs) (token_at preamble at (c ∷ cs) >>= λ t. tokens_from (preamble && is_preamble t.kind) t.end (at + 1) cs >>= λ ts. Ok (t ∷ ts))
    ≡ cond b (tokens_from preamble 0 (at + 1) cs) (token_at preamble at (c ∷ cs) >>= λ t. tokens_from (preamble && is_preamble t.kind) t.end (at + 1) cs >>= λ ts. Ok (t ∷ ts))) [
      | true ↦ ended preamble past (at + 1) cs (omega arith)
      | false ↦ refl
    ])

-- the bytes of a token that was taken are passed over
inside : (preamble : Bool) (n at : ℕ) (text : List ℕ) → tokens_from preamble (at + n) at text ≡ tokens_from preamble 0 (at + n) (drop n text)
unfolding tokens_from
inside preamble zero at text = rw (let e : at + 0 ≡ at = omega arith in e) (ended preamble at at text (omega arith))
inside preamble (suc n) at [] = refl
inside preamble (suc n) at (c ∷ cs) =
    let here : nat_lt at (at + suc n) ≡ true = grind (arith, nat_tests) in
    let e : at + suc n ≡ at + 1 + n = omega arith in
    rw (here, e) (inside preamble n (at + 1) cs)

regroup : (front : List Token) (t : Token) (read : Result (List Token) LexErr) → with_front front (read >>= λ ts. Ok (t ∷ ts)) ≡ with_front (front ++ t ∷ []) read
regroup front t (Ok ts) = ap (λ (x : List Token). Ok x) (simp append_assoc)
regroup front t (Err e) = refl

-- a blank is passed over
pub at_blank : (preamble : Bool) (at c : ℕ) (cs : List ℕ) → is_blank c ≡ true → tokens_from preamble 0 at (c ∷ cs) ≡ tokens_from preamble 0 (at + 1) cs
unfolding tokens_from
at_blank preamble at c cs h =
    let none : nat_lt at 0 ≡ false = grind (arith, nat_tests) in
    rw (none, h) refl

-- a token is taken, and reading goes on behind it
pub at_token : (preamble : Bool) (at c : ℕ) (cs : List ℕ) (t : Token) → is_blank c ≡ false → token_at preamble at (c ∷ cs) ≡ Ok t → at < t.end
    → tokens_from preamble 0 at (c ∷ cs) ≡ (tokens_from (preamble && is_preamble t.kind) 0 t.end (drop (t.end - at) (c ∷ cs)) >>= λ ts. Ok (t ∷ ts))
unfolding tokens_from
at_token preamble at c cs t blank h some =
    let none : nat_lt at 0 ≡ false = grind (arith, nat_tests) in
    let n = t.end - (at + 1) in
    let e : at + 1 + n ≡ t.end = omega arith in
    let k : t.end - at ≡ suc n = omega arith in
    let p = inside (preamble && is_preamble t.kind) n (at + 1) cs in
    let q : tokens_from (preamble && is_preamble t.kind) t.end (at + 1) cs ≡ tokens_from (preamble && is_preamble t.kind) 0 t.end (drop n cs) = rw e at p in
    rw (none, blank, h, k, q) refl

-- no token begins here
pub at_fault : (preamble : Bool) (at c : ℕ) (cs : List ℕ) (e : LexErr) → is_blank c ≡ false → token_at preamble at (c ∷ cs) ≡ Err e → tokens_from preamble 0 at (c ∷ cs) ≡ Err e
unfolding tokens_from
at_fault preamble at c cs e blank h =
    let none : nat_lt at 0 ≡ false = grind (arith, nat_tests) in
    rw (none, blank, h) refl

-- the same in a loop over the text, in which the byte at `at` is read next
pub passes_blank : (preamble : Bool) (at : ℕ) (text : List ℕ) → at < length text → is_blank (first (drop at text)) ≡ true
    → tokens_from preamble 0 (at + 1) (drop (at + 1) text) ≡ tokens_from preamble 0 at (drop at text)
passes_blank preamble at text below blank =
    let split = drop_more text at 0 below in
    sym (ap (tokens_from preamble 0 at) split ∙ at_blank preamble at (get_or text at 0) (drop (at + 1) text) (rw split at blank))

pub takes_token : (preamble : Bool) (front : List Token) (at : ℕ) (text : List ℕ) (t : Token) (total : Result (List Token) LexErr) → at < length text → is_blank (first (drop at text)) ≡ false
    → token_at preamble at (drop at text) ≡ Ok t → at < t.end
    → with_front front (tokens_from preamble 0 at (drop at text)) ≡ total → with_front (front ++ t ∷ []) (tokens_from (preamble && is_preamble t.kind) 0 t.end (drop t.end text)) ≡ total
takes_token preamble front at text t total below blank h some so_far =
    let split = drop_more text at 0 below in
    let end : drop (t.end - at) (drop at text) ≡ drop t.end text = drop-drop (t.end - at) at text ∙ ap (λ (i : ℕ). drop i text) (omega arith) in
    let one : tokens_from preamble 0 at (drop at text) ≡ (tokens_from (preamble && is_preamble t.kind) 0 t.end (drop t.end text) >>= λ ts. Ok (t ∷ ts)) =
    rw (sym end, split) (at_token preamble at (get_or text at 0) (drop (at + 1) text) t (rw split at blank) (rw split at h) some) in
    sym (ap (with_front front) one ∙ regroup front t (tokens_from (preamble && is_preamble t.kind) 0 t.end (drop t.end text))) ∙ so_far

pub meets_fault : (preamble : Bool) (front : List Token) (at : ℕ) (text : List ℕ) (e : LexErr) (total : Result (List Token) LexErr) → at < length text → is_blank (first (drop at text)) ≡ false
    → token_at preamble at (drop at text) ≡ Err e → with_front front (tokens_from preamble 0 at (drop at text)) ≡ total → total ≡ Err e
meets_fault preamble front at text e total below blank h so_far =
    let split = drop_more text at 0 below in
    let one : tokens_from preamble 0 at (drop at text) ≡ Err e = rw split (at_fault preamble at (get_or text at 0) (drop (at + 1) text) e (rw split at blank) (rw split at h)) in
    sym so_far ∙ ap (with_front front) one

pub ends : (preamble : Bool) (front : List Token) (at : ℕ) (text : List ℕ) (total : Result (List Token) LexErr) → length text ≤ at
    → with_front front (tokens_from preamble 0 at (drop at text)) ≡ total → total ≡ Ok front
unfolding tokens_from
ends preamble front at text total e so_far =
    let none : drop at text ≡ [] = nil_from_length (drop at text) (omega (arith, length-drop at text)) in
    sym so_far ∙ ap (with_front front) (ap (tokens_from preamble 0 at) none) ∙ ap (λ (x : List Token). Ok x) (append-nil front)

-- what stops the reading is what the definition gives
pub gives_fault : (e : LexErr) (total : Result (List Token) LexErr) → total ≡ Err e → Gives (Err e) total
gives_fault e total h = elim e as (λ (x : LexErr). total ≡ Err x → Gives (Err x) total) [ BadChar at ↦ λ g. g | BadNumber at ↦ λ g. g | NoMemory ↦ λ g. tt ] h

-- The tokens of a text are its one reading.
use Rattle.std.proofs.Common.{◌≡◌, ℕ, zero, suc, ◌+◌, ◌-◌, ◌≤◌, ◌<◌, Bool, true, false, not, ◌&&◌, List, [], ◌∷◌, length, take, drop, slice_get, Option, Some, None, IfSome, Result, Ok, Err, refl, ◌∙◌, ap, subst, arith}
use Rattle.std.proofs.lemmas.Bool.{and_from, or_parts, not-false}
use Rattle.std.proofs.lemmas.List.{length-drop, drop-drop}
use Rattle.std.specs.List.{list_all}
use Rattle.clif_lex.specs.declared.spans.Token.{Token}
use Rattle.clif_lex.specs.declared.faults.LexErr.{LexErr}
use Rattle.clif_lex.specs.declared.faults.LexErr.TheVariants.{BadChar, BadNumber, NoMemory}
use Rattle.clif_lex.specs.Bytes.{is_blank, is_letter, first}
use Rattle.clif_lex.specs.Numbers.{is_in_range}
use Rattle.clif_lex.specs.Spans.{spelling}
use Rattle.clif_lex.specs.Lexing.{◌>>=◌, is_preamble, token_at, tokens_from, tokens_of}
use Rattle.clif_lex.specs.Spelling.{Stands, AfterBlanks, IsDivided, IsAtEnd, IsAtFault, IsReadFrom, IsReading, IsFaultIn, IsTokenIn, StandFrom, spells}
use Rattle.clif_lex.proofs.Runs.{at_blank, at_token, at_fault}
use Rattle.clif_lex.proofs.Longest.{stands}

-- with no blank
here : (P : ℕ → List ℕ → Type 0) (at : ℕ) (text : List ℕ) → P at text → AfterBlanks P at text
here P at text p = (0, omega arith, refl, subst (λ (k : ℕ). P k text) (let e : at ≡ at + 0 = omega arith in e) p)

-- with one blank more
behind : (P : ℕ → List ℕ → Type 0) (at c : ℕ) (cs : List ℕ) → is_blank c ≡ true → AfterBlanks P (at + 1) cs → AfterBlanks P at (c ∷ cs)
behind P at c cs blank (n, within, all, p) =
    (suc n, omega arith, and_from (is_blank c) (list_all is_blank (take n cs)) blank all, subst (λ (k : ℕ). P k (drop n cs)) (let e : at + 1 + n ≡ at + suc n = omega arith in e) p)

divided_behind : (last : Bool → ℕ → List ℕ → Type 0) (preamble : Bool) (at c : ℕ) (cs : List ℕ) (ts : List Token) → is_blank c ≡ true → IsDivided last preamble (at + 1) cs ts → IsDivided last preamble at (c ∷ cs) ts
divided_behind last preamble at c cs [] blank d = behind (last preamble) at c cs blank d
divided_behind last preamble at c cs (t ∷ ts) blank d =
    behind (λ start rest. Stands preamble start rest (Ok t) × IsDivided last (preamble && is_preamble t.kind) t.end (drop (t.end - start) rest) ts) at c cs blank d

read_behind : (preamble : Bool) (at c : ℕ) (cs : List ℕ) (read : Result (List Token) LexErr) → is_blank c ≡ true → IsReadFrom preamble (at + 1) cs read → IsReadFrom preamble at (c ∷ cs) read
read_behind preamble at c cs (Ok ts) blank d = divided_behind IsAtEnd preamble at c cs ts blank d
read_behind preamble at c cs (Err e) blank (ts, d) = (ts, divided_behind (IsAtFault e) preamble at c cs ts blank d)

-- with a token in front
divided_from : (last : Bool → ℕ → List ℕ → Type 0) (preamble : Bool) (at : ℕ) (text : List ℕ) (t : Token) (ts : List Token) → Stands preamble at text (Ok t)
    → IsDivided last (preamble && is_preamble t.kind) t.end (drop (t.end - at) text) ts → IsDivided last preamble at text (t ∷ ts)
divided_from last preamble at text t ts s d =
    here (λ start rest. Stands preamble start rest (Ok t) × IsDivided last (preamble && is_preamble t.kind) t.end (drop (t.end - start) rest) ts) at text (s, d)

read_from : (preamble : Bool) (at : ℕ) (text : List ℕ) (t : Token) (read : Result (List Token) LexErr) → Stands preamble at text (Ok t)
    → IsReadFrom (preamble && is_preamble t.kind) t.end (drop (t.end - at) text) read → IsReadFrom preamble at text (read >>= λ ts. Ok (t ∷ ts))
read_from preamble at text t (Ok ts) s d = divided_from IsAtEnd preamble at text t ts s d
read_from preamble at text t (Err e) s (ts, d) = (t ∷ ts, divided_from (IsAtFault e) preamble at text t ts s d)

read_none : (preamble : Bool) (at : ℕ) → IsReadFrom preamble at [] (tokens_from preamble 0 at [])
unfolding tokens_from
read_none preamble at = here (IsAtEnd preamble) at [] refl

pub reads : (n : ℕ) (preamble : Bool) (at : ℕ) (text : List ℕ) → length text ≤ n → IsReadFrom preamble at text (tokens_from preamble 0 at text)
reads n preamble at [] h = read_none preamble at
reads zero preamble at (c ∷ cs) h = absurd (omega arith)
reads (suc n) preamble at (c ∷ cs) h =
    step (reads n preamble (at + 1) cs (omega arith)) (λ p k rest g. reads n p k rest g) (is_blank c) refl (token_at preamble at (c ∷ cs)) refl (stands preamble at (c ∷ cs))
  where
    step : IsReadFrom preamble (at + 1) cs (tokens_from preamble 0 (at + 1) cs)
        → ((p : Bool) (k : ℕ) (rest : List ℕ) → length rest ≤ n → IsReadFrom p k rest (tokens_from p 0 k rest))
        → (b : Bool) → is_blank c ≡ b → (r : Result Token LexErr) → token_at preamble at (c ∷ cs) ≡ r → Stands preamble at (c ∷ cs) r
        → IsReadFrom preamble at (c ∷ cs) (tokens_from preamble 0 at (c ∷ cs))
    step next further true blank r e s = rw (at_blank preamble at c cs blank) (read_behind preamble at c cs (tokens_from preamble 0 (at + 1) cs) blank next)
    step next further false blank (Err fault) e s = rw (at_fault preamble at c cs fault blank e) ([], here (IsAtFault fault preamble) at (c ∷ cs) (omega arith, blank, s))
    step next further false blank (Ok t) e s =
        let some : at < t.end = s.1 in
        let k : t.end - at ≡ suc (t.end - at - 1) = omega arith in
        let shorter : length (drop (t.end - at) (c ∷ cs)) ≤ n = omega (arith, length-drop (t.end - at) (c ∷ cs)) in
        rw (at_token preamble at c cs t blank e some)
        (read_from preamble at (c ∷ cs) t (tokens_from (preamble && is_preamble t.kind) 0 t.end (drop (t.end - at) (c ∷ cs))) s (further (preamble && is_preamble t.kind) t.end (drop (t.end - at) (c ∷ cs)) shorter))

pub reading : (text : List ℕ) → IsReading text (tokens_of text)
reading text = reads (length text) true 0 text (omega arith)

-- what is known of each token by itself

token_inside : (whole : List ℕ) (preamble : Bool) (at : ℕ) (t : Token) → at ≤ length whole → Stands preamble at (drop at whole) (Ok t) → IsTokenIn whole t
token_inside whole preamble at t inside (start, some, longest, good) =
    let rest_len = length-drop at whole in
    let within = longest.within in
    record {
      some = omega arith;
      within = omega arith;
      in_range = λ number. rw start (not-false (is_in_range (take (t.end - at) (drop at whole))) (or_parts (is_letter (first (drop (t.end - at) (drop at whole)))) (not (is_in_range (take (t.end - at) (drop at whole)))) (good number)).1);
    }

pub tokens_inside : (whole : List ℕ) (last : Bool → ℕ → List ℕ → Type 0) (preamble : Bool) (at : ℕ) (text : List ℕ) (ts : List Token) → at ≤ length whole → text ≡ drop at whole → IsDivided last preamble at text ts
    → (i : ℕ) (t : Token) → slice_get ts i ≡ Some t → IsTokenIn whole t
tokens_inside whole last preamble at text [] inside e d i t found = absurd cc
tokens_inside whole last preamble at text (x ∷ xs) inside e (n, within, all, stand) i t found =
    go (tokens_inside whole last (preamble && is_preamble x.kind) x.end (drop (x.end - (at + n)) (drop n text)) xs token.within past stand.1) i found
  where
    start_inside : at + n ≤ length whole
    start_inside = let k : length text ≡ length whole - at = ap length e ∙ length-drop at whole in omega arith

    rest : drop n text ≡ drop (at + n) whole
    rest = ap (drop n) e ∙ drop-drop n at whole

    token : IsTokenIn whole x
    token = token_inside whole preamble (at + n) x start_inside (subst (λ (r : List ℕ). Stands preamble (at + n) r (Ok x)) rest stand.0)

    past : drop (x.end - (at + n)) (drop n text) ≡ drop x.end whole
    past =
        let some : at + n < x.end = stand.0.1 in
        ap (drop (x.end - (at + n))) rest ∙ drop-drop (x.end - (at + n)) (at + n) whole ∙ ap (λ (k : ℕ). drop k whole) (omega arith)

    go : ((j : ℕ) (u : Token) → slice_get xs j ≡ Some u → IsTokenIn whole u) → (i : ℕ) → slice_get (x ∷ xs) i ≡ Some t → IsTokenIn whole t
    go others zero f = let same : x ≡ t = cc in subst (IsTokenIn whole) same token
    go others (suc k) f = others k t f

pub token_inside_text : (text : List ℕ) (ts : List Token) → tokens_of text ≡ Ok ts → (i : ℕ) (t : Token) → slice_get ts i ≡ Some t → IsTokenIn text t
token_inside_text text ts e =
    let d : IsReading text (Ok ts) = subst (IsReading text) e (reading text) in
    tokens_inside text IsAtEnd true 0 text ts (omega arith) refl d

-- they stand one behind the other

token_spelled : (whole : List ℕ) (preamble : Bool) (at : ℕ) (t : Token) → Stands preamble at (drop at whole) (Ok t) → spells preamble t.kind (spelling whole t) ≡ true
token_spelled whole preamble at t (start, some, longest, good) = rw start longest.spelled

stand_from : (whole : List ℕ) (last : Bool → ℕ → List ℕ → Type 0) (preamble : Bool) (at : ℕ) (text : List ℕ) (ts : List Token) → at ≤ length whole → text ≡ drop at whole → IsDivided last preamble at text ts
    → StandFrom whole at ts
stand_from whole last preamble at text [] inside e d = tt
stand_from whole last preamble at text (x ∷ xs) inside e (n, within, all, stand) =
    let standing = subst (λ (r : List ℕ). Stands preamble (at + n) r (Ok x)) rest stand.0 in
    let token = token_inside whole preamble (at + n) x start_inside standing in
    let start : x.start ≡ at + n = stand.0.0 in (
      omega arith,
      token,
      (preamble, token_spelled whole preamble (at + n) x standing),
      stand_from whole last (preamble && is_preamble x.kind) x.end (drop (x.end - (at + n)) (drop n text)) xs token.within past stand.1,
    )
  where
    start_inside : at + n ≤ length whole
    start_inside = let k : length text ≡ length whole - at = ap length e ∙ length-drop at whole in omega arith

    rest : drop n text ≡ drop (at + n) whole
    rest = ap (drop n) e ∙ drop-drop n at whole

    past : drop (x.end - (at + n)) (drop n text) ≡ drop x.end whole
    past =
        let some : at + n < x.end = stand.0.1 in
        ap (drop (x.end - (at + n))) rest ∙ drop-drop (x.end - (at + n)) (at + n) whole ∙ ap (λ (k : ℕ). drop k whole) (omega arith)

pub tokens_stand : (text : List ℕ) (ts : List Token) → tokens_of text ≡ Ok ts → StandFrom text 0 ts
tokens_stand text ts e =
    let d : IsReading text (Ok ts) = subst (IsReading text) e (reading text) in
    stand_from text IsAtEnd true 0 text ts (omega arith) refl d

-- where a fault stands

fault_inside : (fault : LexErr) (preamble : Bool) (at : ℕ) (rest whole : List ℕ) → at + length rest ≡ length whole → IsAtFault fault preamble at rest → IsFaultIn whole fault
fault_inside (BadChar spot) preamble at rest whole e (some, blank, s) = let k = s.0 in omega arith
fault_inside (BadNumber spot) preamble at rest whole e (some, blank, s) = let k = s.0 in omega arith
fault_inside NoMemory preamble at rest whole e f = tt

pub faults_inside : (fault : LexErr) (whole : List ℕ) (preamble : Bool) (at : ℕ) (text : List ℕ) (ts : List Token) → at + length text ≡ length whole → IsDivided (IsAtFault fault) preamble at text ts → IsFaultIn whole fault
faults_inside fault whole preamble at text [] e (n, within, all, last) =
    fault_inside fault preamble (at + n) (drop n text) whole (omega (arith, length-drop n text)) last
faults_inside fault whole preamble at text (t ∷ ts) e (n, within, all, stand) =
    let some : at + n < t.end = stand.0.1 in
    let inside : t.end - (at + n) ≤ length (drop n text) = stand.0.2.within in
    faults_inside fault whole (preamble && is_preamble t.kind) t.end (drop (t.end - (at + n)) (drop n text)) ts
    (omega (arith, length-drop n text, length-drop (t.end - (at + n)) (drop n text))) stand.1

pub fault_inside_text : (text : List ℕ) (fault : LexErr) → tokens_of text ≡ Err fault → IsFaultIn text fault
fault_inside_text text fault e =
    let d : IsReading text (Err fault) = subst (IsReading text) e (reading text) in
    faults_inside fault text true 0 text d.0 (omega arith) d.1

-- want of memory stands nowhere in a text
no_want : (preamble : Bool) (at : ℕ) (text : List ℕ) (ts : List Token) → IsDivided (IsAtFault NoMemory) preamble at text ts → ⊥
no_want preamble at text [] (n, within, blank, (some, no_blank, here)) = here
no_want preamble at text (t ∷ ts) (n, within, blank, (stand, behind)) =
    no_want (preamble && is_preamble t.kind) t.end (drop (t.end - (at + n)) (drop n text)) ts behind

pub never_want : (text : List ℕ) → tokens_of text ≡ Err NoMemory → ⊥
never_want text e = let read : IsReading text (Err NoMemory) = subst (IsReading text) e (reading text) in no_want true 0 text read.0 read.1

pub if_token_in_text : (text : List ℕ) (ts : List Token) → tokens_of text ≡ Ok ts → (i : ℕ) → IfSome (slice_get ts i) (IsTokenIn text)
if_token_in_text text ts whole i = go (slice_get ts i) refl
  where
    go : (o : Option Token) → slice_get ts i ≡ o → IfSome o (IsTokenIn text)
    go None e = tt
    go (Some t) e = token_inside_text text ts whole i t e

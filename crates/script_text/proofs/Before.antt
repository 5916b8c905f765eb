-- The tokens of a text before a place where none stands are the longest that stand in the whole text up to there.
use Rattle.std.proofs.Common.{◌≡◌, ℕ, ◌+◌, ◌-◌, ◌≤◌, ◌<◌, Bool, true, false, ◌||◌, ◌&&◌, List, [], ◌∷◌, length, take, drop, Ok, Err, refl, sym, ap, subst, ◌∙◌, arith, length-take}
use Rattle.std.proofs.lemmas.List.{drop-take}
use Rattle.std.specs.List.{list_all}
use Rattle.clif_lex.specs.declared.spans.TokenKind.{TokenKind}
use Rattle.clif_lex.specs.declared.spans.Token.{Token}
use Rattle.clif_lex.specs.declared.faults.LexErr.{LexErr}
use Rattle.clif_lex.specs.declared.faults.LexErr.TheVariants.{BadChar, BadNumber, NoMemory}
use Rattle.clif_lex.specs.Bytes.{is_blank, is_letter, first}
use Rattle.clif_lex.specs.Lexing.{is_preamble, tokens_of}
use Rattle.clif_lex.specs.Spelling.{IsLongest, is_bad, Stands, IsDivided, IsAtEnd, IsAtFault, IsReading}
use Rattle.clif_lex.proofs.Spelled.{take_of_take, first_take}
use Rattle.clif_lex.proofs.OneReading.{only_reading}
use Rattle.clif_lex.proofs.Readings.{reading, never_want}
use Rattle.clif_lex.proofs.Stretches.{nothing_between}
use Rattle.script_text.specs.Lexed.{AreBefore, TokensBefore}

-- ---- a token that ends before a cut stands before it

longest_cut : (preamble : Bool) (kind : TokenKind) (len m : ℕ) (text : List ℕ) → len ≤ m → IsLongest preamble kind len text → IsLongest preamble kind len (take m text)
longest_cut preamble kind len m text le l =
    let within = l.within in
    let size = length-take m text in
    let same : take len (take m text) ≡ take len text = take_of_take len m text le in
    record {
      within = omega arith;
      spelled = rw same l.spelled;
      longest = λ n other in_cut spelled.
          let below : n ≤ m = omega arith in
          l.longest n other (omega arith) (rw (take_of_take n m text below) at spelled);
      only = λ other spelled. l.only other (rw same at spelled);
    }

bad_or : (a c b : Bool) → (c ≡ true → a ≡ true) → (a || b) ≡ false → (c || b) ≡ false
bad_or true c b h e = absurd cc
bad_or false true b h e = absurd (let g = h refl in cc)
bad_or false false b h e = e

drop_cut : (n m : ℕ) (text : List ℕ) → n ≤ m → drop n (take m text) ≡ take (m - n) (drop n text)
drop_cut n m text le =
    let sum : m ≡ n + (m - n) = omega arith in
    ap (λ k. drop n (take k text)) sum ∙ drop-take n (m - n) text

bad_cut : (len m : ℕ) (text : List ℕ) → len ≤ m → is_bad len text ≡ false → is_bad len (take m text) ≡ false
bad_cut len m text le good =
    rw (drop_cut len m text le, take_of_take len m text le)
    (bad_or (is_letter (first (drop len text))) (is_letter (first (take (m - len) (drop len text)))) _ (first_take is_letter (m - len) (drop len text) refl) good)

stands_cut : (preamble : Bool) (at m : ℕ) (text : List ℕ) (t : Token) → t.end - at ≤ m → Stands preamble at text (Ok t) → Stands preamble at (take m text) (Ok t)
stands_cut preamble at m text t le (start, some, longest, good) =
    (start, some, longest_cut preamble t.kind (t.end - at) m text le longest, λ number. bad_cut (t.end - at) m text le (good number))

-- ---- all tokens before the cut

-- a fault that stands at this place stands at no other
abbrev StandsAt : LexErr → ℕ → Type 0
StandsAt fault s = (preamble : Bool) (at : ℕ) (rest : List ℕ) → IsAtFault fault preamble at rest → at ≡ s

blanks_cut : (n m : ℕ) (text : List ℕ) → n ≤ m → n ≤ length text → list_all is_blank (take n text) ≡ true → (n ≤ length (take m text)) × (list_all is_blank (take n (take m text)) ≡ true)
blanks_cut n m text le within blank =
    let size = length-take m text in
    (omega arith, rw (take_of_take n m text le) blank)

divided_cut : (fault : LexErr) (s : ℕ) → StandsAt fault s → (preamble : Bool) (at : ℕ) (text : List ℕ) (ts : List Token) → IsDivided (IsAtFault fault) preamble at text ts
    → (at ≤ s) × IsDivided IsAtEnd preamble at (take (s - at) text) ts
divided_cut fault s stands preamble at text [] (n, within, blank, here) =
    let e : at + n ≡ s = stands preamble (at + n) (drop n text) here in
    let m : s - at ≡ n = omega arith in
    let b = blanks_cut n n text (omega arith) within blank in
    (omega arith, subst (λ k. IsDivided IsAtEnd preamble at (take k text) []) (sym m) (n, b.0, b.1, nothing_between text n))
divided_cut fault s stands preamble at text (t ∷ ts) (n, within, blank, (here, behind)) =
    let some : at + n < t.end = here.1 in
    let rest = drop n text in
    let ih = divided_cut fault s stands (preamble && is_preamble t.kind) t.end (drop (t.end - (at + n)) rest) ts behind in
    let below : t.end ≤ s = ih.0 in
    let b = blanks_cut n (s - at) text (omega arith) within blank in
    let k : s - at - n ≡ s - (at + n) = omega arith in
    let cut : drop n (take (s - at) text) ≡ take (s - (at + n)) rest = drop_cut n (s - at) text (omega arith) ∙ ap (λ j. take j rest) k in
    let j : s - (at + n) - (t.end - (at + n)) ≡ s - t.end = omega arith in
    let left : drop (t.end - (at + n)) (take (s - (at + n)) rest) ≡ take (s - t.end) (drop (t.end - (at + n)) rest)
    = drop_cut (t.end - (at + n)) (s - (at + n)) rest (omega arith) ∙ ap (λ i. take i (drop (t.end - (at + n)) rest)) j in (
      omega arith,
      (
        n,
        b.0,
        b.1,
        (
          subst (λ xs. Stands preamble (at + n) xs (Ok t)) (sym cut) (stands_cut preamble (at + n) (s - (at + n)) rest t (omega arith) here),
          subst (λ xs. IsDivided IsAtEnd (preamble && is_preamble t.kind) t.end (drop (t.end - (at + n)) xs) ts) (sym cut)
              (subst (λ xs. IsDivided IsAtEnd (preamble && is_preamble t.kind) t.end xs ts) (sym left) ih.1),
        ),
      ),
    )

before_fault : (fault : LexErr) (s : ℕ) → StandsAt fault s → (text : List ℕ) → tokens_of text ≡ Err fault → AreBefore text fault s
before_fault fault s stands text e =
    let read : IsReading text (Err fault) = subst (IsReading text) e (reading text) in
    let ts = read.0 in
    let cut = divided_cut fault s stands true 0 text ts read.1 in
    let whole : s - 0 ≡ s = omega arith in
    (ts, sym (only_reading (take s text) (Ok ts) (subst (λ k. IsDivided IsAtEnd true 0 (take k text) ts) whole cut.1)), read.1)

char_stands : (s : ℕ) → StandsAt (BadChar s) s
char_stands s preamble at rest (some, blank, here) = sym here.0

number_stands : (s : ℕ) → StandsAt (BadNumber s) s
number_stands s preamble at rest (some, blank, here) = sym here.0

pub tokens_before : (text : List ℕ) (fault : LexErr) → tokens_of text ≡ Err fault → TokensBefore text fault
tokens_before text (BadChar s) e = before_fault (BadChar s) s (char_stands s) text e
tokens_before text (BadNumber s) e = before_fault (BadNumber s) s (number_stands s) text e
tokens_before text NoMemory e = never_want text e

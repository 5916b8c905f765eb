-- A text has no reading but its tokens.
use Rattle.std.proofs.Common.{◌≡◌, ℕ, zero, suc, ◌+◌, ◌-◌, ◌≤◌, ◌<◌, Bool, true, false, ◌||◌, ◌&&◌, ◌==◌, ◌⊎◌, List, [], ◌∷◌, length, take, drop, Result, Ok, Err, refl, sym, ◌∙◌, ap, subst, arith, inl, inr}
use Rattle.std.proofs.lemmas.Bool.{and_parts, or_cases, eqb-true, false_from_ne_true, both_ways}
use Rattle.std.specs.List.{prefix_len, list_all}
use Rattle.clif_lex.specs.declared.spans.TokenKind.{TokenKind}
use Rattle.clif_lex.specs.declared.spans.TokenKind.TheVariants.{Number}
use Rattle.clif_lex.specs.declared.spans.Token.{Token}
use Rattle.clif_lex.specs.declared.faults.LexErr.{LexErr}
use Rattle.clif_lex.specs.declared.faults.LexErr.TheVariants.{BadChar, BadNumber, NoMemory}
use Rattle.clif_lex.specs.Bytes.{is_blank, first}
use Rattle.clif_lex.specs.Lexing.{is_preamble, tokens_of}
use Rattle.clif_lex.specs.Spelling.{spells, IsLongest, IsNone, is_bad, Stands, IsDivided, IsAtEnd, IsAtFault, IsReadFrom, IsReading}
use Rattle.clif_lex.proofs.Spelled.{nothing, begun, spelled_begun}
use Rattle.clif_lex.proofs.Longest.{not_nothing}
use Rattle.clif_lex.proofs.Readings.{reading}

abbrev taken : Token → Result Token LexErr
taken t = Ok t

abbrev failed : LexErr → Result Token LexErr
failed e = Err e

abbrev unread : LexErr → Result (List Token) LexErr
unread e = Err e

-- one thing stands at a place

same_token : (a b : Token) → a.kind ≡ b.kind → a.start ≡ b.start → a.end ≡ b.end → a ≡ b
same_token a b kind start end =
    let with : TokenKind → ℕ → ℕ → Token = λ k s e. record { kind = k; start = s; end = e } in
    ap (λ k. with k a.start a.end) kind ∙ ap (λ s. with b.kind s a.end) start ∙ ap (λ e. with b.kind b.start e) end

longest_or_none : (preamble : Bool) (kind : TokenKind) (len : ℕ) (text : List ℕ) → IsLongest preamble kind len text → IsNone preamble text → ⊥
longest_or_none preamble kind len text longest none = both_ways (spells preamble kind (take len text)) (none len kind longest.within) longest.spelled

same_len : (preamble : Bool) (kind other : TokenKind) (m n : ℕ) (text : List ℕ) → IsLongest preamble kind m text → IsLongest preamble other n text → m ≡ n
same_len preamble kind other m n text a b = omega (arith, a.longest n other b.within b.spelled, b.longest m kind a.within a.spelled)

same_kind : (preamble : Bool) (kind other : TokenKind) (m n : ℕ) (text : List ℕ) → IsLongest preamble kind m text → IsLongest preamble other n text → kind ≡ other
same_kind preamble kind other m n text a b =
    let e = same_len preamble kind other m n text a b in
    b.only kind (rw e at a.spelled)

good_or_bad : (preamble : Bool) (at : ℕ) (text : List ℕ) (t : Token) (len : ℕ) → Stands preamble at text (Ok t) → IsLongest preamble Number len text → is_bad len text ≡ true → ⊥
good_or_bad preamble at text t len (start, some, longest, good) l bad =
    let e = same_len preamble t.kind Number (t.end - at) len text longest l in
    let number = same_kind preamble t.kind Number (t.end - at) len text longest l in
    both_ways (is_bad len text) (rw e at (good number)) bad

token_or_bad : (preamble : Bool) (at spot : ℕ) (text : List ℕ) (t : Token) → Stands preamble at text (Ok t) → Stands preamble at text (Err (BadNumber spot)) → ⊥
token_or_bad preamble at spot text t a (e, inl b) = longest_or_none preamble t.kind (t.end - at) text a.2 b.1
token_or_bad preamble at spot text t a (e, inr (len, l, bad)) = good_or_bad preamble at text t len a l bad

number_or_char : (preamble : Bool) (at spot other : ℕ) (text : List ℕ) → Stands preamble at text (Err (BadNumber spot)) → Stands preamble at text (Err (BadChar other)) → ⊥
number_or_char preamble at spot other text (e, inl a) (f, none, no_at) = no_at a.0
number_or_char preamble at spot other text (e, inr (len, l, bad)) (f, none, no_at) = longest_or_none preamble Number len text l none

one_stands : (preamble : Bool) (at : ℕ) (text : List ℕ) (r s : Result Token LexErr) → Stands preamble at text r → Stands preamble at text s → r ≡ s
one_stands preamble at text (Ok t) (Ok u) a b =
    let len = same_len preamble t.kind u.kind (t.end - at) (u.end - at) text a.2 b.2 in
    let kind = same_kind preamble t.kind u.kind (t.end - at) (u.end - at) text a.2 b.2 in
    let some : at < t.end = a.1 in
    let other_some : at < u.end = b.1 in
    ap (λ x. Ok x) (same_token t u kind (a.0 ∙ sym b.0) (omega arith))
one_stands preamble at text (Ok t) (Err (BadNumber spot)) a b = absurd (token_or_bad preamble at spot text t a b)
one_stands preamble at text (Ok t) (Err (BadChar spot)) a b = absurd (longest_or_none preamble t.kind (t.end - at) text a.2 b.1)
one_stands preamble at text (Err (BadNumber spot)) (Ok u) a b = absurd (token_or_bad preamble at spot text u b a)
one_stands preamble at text (Err (BadChar spot)) (Ok u) a b = absurd (longest_or_none preamble u.kind (u.end - at) text b.2 a.1)
one_stands preamble at text (Err (BadNumber spot)) (Err (BadNumber other)) a b = ap (λ k. Err (BadNumber k)) (a.0 ∙ sym b.0)
one_stands preamble at text (Err (BadNumber spot)) (Err (BadChar other)) a b = absurd (number_or_char preamble at spot other text a b)
one_stands preamble at text (Err (BadChar spot)) (Err (BadNumber other)) a b = absurd (number_or_char preamble at other spot text b a)
one_stands preamble at text (Err (BadChar spot)) (Err (BadChar other)) a b = ap (λ k. Err (BadChar k)) (a.0 ∙ sym b.0)
one_stands preamble at text (Err NoMemory) s a b = absurd a
one_stands preamble at text r (Err NoMemory) a b = absurd b

-- the blanks before it are all that there are

blank_begins_nothing : (text : List ℕ) → is_blank (first text) ≡ true → begun text ≡ nothing
blank_begins_nothing text h = go (or_cases _ _ h)
  where
    at : (c : ℕ) → (first text == c) ≡ true → first text ≡ c
    at c e = eqb-true (first text) c e

    go : (((first text == 32 || first text == 10) || first text == 9) ≡ true) ⊎ ((first text == 13) ≡ true) → begun text ≡ nothing
    go (inr e) = rw (at 13 e) refl
    go (inl e) = elim (or_cases (first text == 32 || first text == 10) (first text == 9) e) [
      | inr f ↦ rw (at 9 f) refl
      | inl f ↦ elim (or_cases (first text == 32) (first text == 10) f) [ inl g ↦ rw (at 32 g) refl | inr g ↦ rw (at 10 g) refl ]
    ]

token_no_blank : (preamble : Bool) (at : ℕ) (text : List ℕ) (t : Token) → Stands preamble at text (Ok t) → is_blank (first text) ≡ false
token_no_blank preamble at text t s =
    let longest = s.2 in
    let b = spelled_begun preamble t.kind (t.end - at) text longest.within longest.spelled in
    false_from_ne_true (is_blank (first text)) (λ blank. not_nothing t.kind (sym (blank_begins_nothing text blank) ∙ b.0))

blanks_end : (n : ℕ) (text : List ℕ) → n ≤ length text → list_all is_blank (take n text) ≡ true → is_blank (first (drop n text)) ≡ false → n ≡ prefix_len is_blank text
blanks_end zero [] within all stop = refl
blanks_end zero (c ∷ cs) within all stop = rw stop refl
blanks_end (suc n) [] within all stop = absurd (omega arith)
blanks_end (suc n) (c ∷ cs) within all stop =
    let parts = and_parts (is_blank c) (list_all is_blank (take n cs)) all in
    rw parts.0 (omega (arith, blanks_end n cs (omega arith) parts.1 stop))

same_blanks : (m n : ℕ) (text : List ℕ) → m ≤ length text → n ≤ length text → list_all is_blank (take m text) ≡ true → list_all is_blank (take n text) ≡ true
    → is_blank (first (drop m text)) ≡ false → is_blank (first (drop n text)) ≡ false → m ≡ n
same_blanks m n text hm hn am an sm sn = blanks_end m text hm am sm ∙ sym (blanks_end n text hn an sn)

-- a reading ends where no token stands, and no blank
record Ends (last : Bool → ℕ → List ℕ → Type 0) : Type 1 where
  no_blank : (preamble : Bool) (at : ℕ) (rest : List ℕ) → last preamble at rest → is_blank (first rest) ≡ false
  no_token : (preamble : Bool) (at : ℕ) (rest : List ℕ) (t : Token) → last preamble at rest → Stands preamble at rest (Ok t) → ⊥

ends_at_end : Ends IsAtEnd
ends_at_end = record {
  no_blank = λ preamble at rest e. rw e refl;
  no_token = λ preamble at rest t e s.
      let some : at < t.end = s.1 in
      let within : t.end - at ≤ length rest = s.2.within in
      let none : length rest ≡ 0 = ap length e in
      omega arith;
}

ends_at_fault : (fault : LexErr) → Ends (IsAtFault fault)
ends_at_fault fault = record {
  no_blank = λ preamble at rest e. e.1;
  no_token = λ preamble at rest t e s. let same : failed fault ≡ taken t = one_stands preamble at rest (Err fault) (Ok t) e.2 s in cc;
}

abbrev BothEnd : (Bool → ℕ → List ℕ → Type 0) → (Bool → ℕ → List ℕ → Type 0) → Type 0
BothEnd last other = (preamble : Bool) × ((at : ℕ) × ((rest : List ℕ) × (last preamble at rest × other preamble at rest)))

one_division : (last other : Bool → ℕ → List ℕ → Type 0) → Ends last → Ends other → (preamble : Bool) (at : ℕ) (text : List ℕ) (ts us : List Token)
    → IsDivided last preamble at text ts → IsDivided other preamble at text us → (ts ≡ us) × BothEnd last other
one_division last other l o preamble at text [] [] (m, hm, am, e) (n, hn, an, f) =
    let k = same_blanks m n text hm hn am an (l.no_blank preamble (at + m) (drop m text) e) (o.no_blank preamble (at + n) (drop n text) f) in
    (refl, (preamble, (at + n, (drop n text, (subst (λ (i : ℕ). last preamble (at + i) (drop i text)) k e, f)))))
one_division last other l o preamble at text [] (u ∷ us) (m, hm, am, e) (n, hn, an, f) =
    let k = same_blanks m n text hm hn am an (l.no_blank preamble (at + m) (drop m text) e) (token_no_blank preamble (at + n) (drop n text) u f.0) in
    absurd (l.no_token preamble (at + n) (drop n text) u (subst (λ (i : ℕ). last preamble (at + i) (drop i text)) k e) f.0)
one_division last other l o preamble at text (t ∷ ts) [] (m, hm, am, e) (n, hn, an, f) =
    let k = same_blanks m n text hm hn am an (token_no_blank preamble (at + m) (drop m text) t e.0) (o.no_blank preamble (at + n) (drop n text) f) in
    absurd (o.no_token preamble (at + n) (drop n text) t f (subst (λ (i : ℕ). Stands preamble (at + i) (drop i text) (Ok t)) k e.0))
one_division last other l o preamble at text (t ∷ ts) (u ∷ us) (m, hm, am, e) (n, hn, an, f) =
    let k = same_blanks m n text hm hn am an (token_no_blank preamble (at + m) (drop m text) t e.0) (token_no_blank preamble (at + n) (drop n text) u f.0) in
    let s = subst (λ (i : ℕ). Stands preamble (at + i) (drop i text) (Ok t)) k e.0 in
    let d = subst (λ (i : ℕ). IsDivided last (preamble && is_preamble t.kind) t.end (drop (t.end - (at + i)) (drop i text)) ts) k e.1 in
    let same_ok : taken t ≡ taken u = one_stands preamble (at + n) (drop n text) (Ok t) (Ok u) s f.0 in
    let same : t ≡ u = cc in
    let d' = subst (λ (x : Token). IsDivided last (preamble && is_preamble x.kind) x.end (drop (x.end - (at + n)) (drop n text)) ts) same d in
    let more = one_division last other l o (preamble && is_preamble u.kind) u.end (drop (u.end - (at + n)) (drop n text)) ts us d' f.1 in
    (ap (λ x. x ∷ ts) same ∙ ap (λ xs. u ∷ xs) more.0, more.1)

no_end_at_fault : (fault : LexErr) → BothEnd IsAtEnd (IsAtFault fault) → ⊥
no_end_at_fault fault (preamble, (at, (rest, (e, f)))) =
    let none : length rest ≡ 0 = ap length e in
    let some : 0 < length rest = f.0 in
    omega arith

one_read : (preamble : Bool) (at : ℕ) (text : List ℕ) (r s : Result (List Token) LexErr) → IsReadFrom preamble at text r → IsReadFrom preamble at text s → r ≡ s
one_read preamble at text (Ok ts) (Ok us) a b = ap (λ xs. Ok xs) (one_division IsAtEnd IsAtEnd ends_at_end ends_at_end preamble at text ts us a b).0
one_read preamble at text (Ok ts) (Err e) a (us, b) = absurd (no_end_at_fault e (one_division IsAtEnd (IsAtFault e) ends_at_end (ends_at_fault e) preamble at text ts us a b).1)
one_read preamble at text (Err e) (Ok us) (ts, a) b = absurd (no_end_at_fault e (one_division IsAtEnd (IsAtFault e) ends_at_end (ends_at_fault e) preamble at text us ts b a).1)
one_read preamble at text (Err e) (Err f) (ts, a) (us, b) = same (one_division (IsAtFault e) (IsAtFault f) (ends_at_fault e) (ends_at_fault f) preamble at text ts us a b).1
  where
    same : BothEnd (IsAtFault e) (IsAtFault f) → unread e ≡ unread f
    same (q, (k, (rest, (x, y)))) =
        let g : failed e ≡ failed f = one_stands q k rest (Err e) (Err f) x.2 y.2 in
        let h : e ≡ f = cc in
        ap (λ z. Err z) h

pub only_reading : (text : List ℕ) (read : Result (List Token) LexErr) → IsReading text read → read ≡ tokens_of text
only_reading text read h = one_read true 0 text read (tokens_of text) h (reading text)

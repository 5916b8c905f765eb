-- One token after the other: headers that are still to be read, comments that were read, and lines.
use Rattle.std.proofs.Common.{◌≡◌, ℕ, zero, suc, ◌+◌, ◌-◌, ◌≤◌, ◌==◌, Bool, true, false, cond, List, [], ◌∷◌, ◌++◌, take, drop, map, slice_get, Option, Some, None, refl, ap, subst, ◌∙◌, arith, count_by}
use Rattle.std.specs.List.{filter}
use Rattle.std.proofs.Math.Seq.{take-add}
use Rattle.std.proofs.lemmas.List.{map-append}
use Rattle.std.proofs.lemmas.List.Elements.{filter-append}
use Rattle.std.proofs.lemmas.List.Sums.{sum_by-append}
use Rattle.clif_lex.specs.Bytes.{line_feed}
use Rattle.clif_lex.specs.declared.spans.Token.{Token}
use Rattle.clif_lex.specs.Places.{line_at}
use Rattle.clif_lex.specs.Spelling.{StandFrom, IsTokenIn}
use Rattle.ir_core.proofs.Gets.{next_left}
use Rattle.test_directives.specs.Commands as command
use Rattle.test_directives.specs.Commands.{command_of}
use Rattle.clif_words.specs.Lexemes.{is_comment}
use Rattle.test_directives.specs.Tests.{Placed, placed, is_header, headers, comments, commands, bad_header}

pub take_next : {A : Type 0} (xs : List A) (i : ℕ) (x : A) → slice_get xs i ≡ Some x → take (i + 1) xs ≡ take i xs ++ x ∷ []
take_next [] i x e = absurd cc
take_next (y ∷ ys) zero x e = let q : y ≡ x = cc in ap (λ z. z ∷ []) q
take_next (y ∷ ys) (suc i) x e =
    let more : suc i + 1 ≡ suc (i + 1) = omega arith in
    ap (λ (k : ℕ). take k (y ∷ ys)) more ∙ ap (λ zs. y ∷ zs) (take_next ys i x e)

-- ---- headers

headers_first : (text : List ℕ) (t : Token) (ts : List Token) (b : Bool) → is_header t.kind ≡ b → headers text (t ∷ ts) ≡ cond b (placed text t ∷ headers text ts) (headers text ts)
headers_first text t ts b e = ap (λ (d : Bool). map (placed text) (cond d (t ∷ filter (λ u. is_header u.kind) ts) (filter (λ u. is_header u.kind) ts))) e ∙ go b
  where
    go : (d : Bool) → map (placed text) (cond d (t ∷ filter (λ u. is_header u.kind) ts) (filter (λ u. is_header u.kind) ts)) ≡ cond d (placed text t ∷ headers text ts) (headers text ts)
    go true = refl
    go false = refl

pub headers_next : (text : List ℕ) (ts : List Token) (i : ℕ) (t : Token) (b : Bool) → slice_get ts i ≡ Some t → is_header t.kind ≡ b
    → headers text (drop i ts) ≡ cond b (placed text t ∷ headers text (drop (i + 1) ts)) (headers text (drop (i + 1) ts))
headers_next text ts i t b at e = ap (headers text) (next_left ts i t at) ∙ headers_first text t (drop (i + 1) ts) b e

abbrev commands_by : Option (Option command.Command) → List command.Command → List command.Command
commands_by None rest = rest
commands_by (Some None) rest = rest
commands_by (Some (Some c)) rest = c ∷ rest

abbrev bad_by : Option (Option command.Command) → ℕ → Option ℕ → Option ℕ
bad_by None line rest = rest
bad_by (Some None) line rest = Some line
bad_by (Some (Some c)) line rest = rest

pub commands_next : (h : Placed) (hs : List Placed) (o : Option (Option command.Command)) → command_of h.text ≡ o → commands (h ∷ hs) ≡ commands_by o (commands hs)
commands_next h hs o e = go (command_of h.text) ∙ ap (λ (p : Option (Option command.Command)). commands_by p (commands hs)) e
  where
    go : (p : Option (Option command.Command)) → (elim p as (λ q. List command.Command) [
      | None ↦ commands hs
      | Some reading ↦ elim reading as (λ q. List command.Command) [ None ↦ commands hs | Some c ↦ c ∷ commands hs ]
    ]) ≡ commands_by p (commands hs)
    go None = refl
    go (Some None) = refl
    go (Some (Some c)) = refl

pub bad_next : (h : Placed) (hs : List Placed) (o : Option (Option command.Command)) → command_of h.text ≡ o → bad_header (h ∷ hs) ≡ bad_by o h.line (bad_header hs)
bad_next h hs o e = go (command_of h.text) ∙ ap (λ (p : Option (Option command.Command)). bad_by p h.line (bad_header hs)) e
  where
    go : (p : Option (Option command.Command)) → (elim p as (λ q. Option ℕ) [
      | None ↦ bad_header hs
      | Some reading ↦ elim reading as (λ q. Option ℕ) [ None ↦ Some h.line | Some c ↦ bad_header hs ]
    ]) ≡ bad_by p h.line (bad_header hs)
    go None = refl
    go (Some None) = refl
    go (Some (Some c)) = refl

-- ---- comments

comments_last : (text : List ℕ) (ts : List Token) (t : Token) (b : Bool) → is_comment t.kind ≡ b → comments text (ts ++ t ∷ []) ≡ comments text ts ++ cond b (placed text t ∷ []) []
comments_last text ts t b e =
    ap (map (placed text)) (filter-append (λ u. is_comment u.kind) ts (t ∷ []))
    ∙ (map-append (placed text) (filter (λ u. is_comment u.kind) ts) (filter (λ u. is_comment u.kind) (t ∷ []))
    ∙ ap (λ (cs : List Placed). comments text ts ++ cs) (ap (λ (d : Bool). map (placed text) (cond d (t ∷ []) [])) e ∙ go b))
  where
    go : (d : Bool) → map (placed text) (cond d (t ∷ []) []) ≡ cond d (placed text t ∷ []) []
    go true = refl
    go false = refl

pub comments_next : (text : List ℕ) (ts : List Token) (i : ℕ) (t : Token) (b : Bool) → slice_get ts i ≡ Some t → is_comment t.kind ≡ b
    → comments text (take (i + 1) ts) ≡ comments text (take i ts) ++ cond b (placed text t ∷ []) []
comments_next text ts i t b at e = ap (comments text) (take_next ts i t at) ∙ comments_last text (take i ts) t b e

stand_weaker : (text : List ℕ) (m n : ℕ) (ts : List Token) → m ≤ n → StandFrom text n ts → StandFrom text m ts
stand_weaker text m n [] le s = tt
stand_weaker text m n (t ∷ ts) le s = let a = s.0 in (omega arith, s.1, s.2, s.3)

-- the next token stands behind what was counted, and the others behind it
pub stand_next : (text : List ℕ) (ts : List Token) (i from : ℕ) (t : Token) → slice_get ts i ≡ Some t → StandFrom text from (drop i ts)
    → (from ≤ t.start) × IsTokenIn text t × StandFrom text t.start (drop (i + 1) ts) × StandFrom text from (drop (i + 1) ts)
stand_next text ts i from t at s =
    let here : StandFrom text from (t ∷ drop (i + 1) ts) = subst (StandFrom text from) (next_left ts i t at) s in
    let a = here.0 in
    let some = here.1.some in
    (here.0, here.1, stand_weaker text t.start t.end (drop (i + 1) ts) (omega arith) here.3, stand_weaker text from t.end (drop (i + 1) ts) (omega arith) here.3)

-- ---- lines

abbrev feeds : List ℕ → ℕ
feeds bytes = count_by (λ c. c == line_feed) bytes

pub line_on : (text : List ℕ) (at spot : ℕ) → at ≤ spot → line_at text spot ≡ line_at text at + feeds (take (spot - at) (drop at text))
line_on text at spot le =
    let sum : spot ≡ at + (spot - at) = omega arith in
    let e : feeds (take spot text) ≡ feeds (take at text) + feeds (take (spot - at) (drop at text)) =
    ap (λ (k : ℕ). feeds (take k text)) sum ∙ (ap feeds (take-add at (spot - at) text) ∙ sum_by-append (λ c. cond (c == line_feed) 1 0) (take at text) (take (spot - at) (drop at text))) in
    omega (arith, e)

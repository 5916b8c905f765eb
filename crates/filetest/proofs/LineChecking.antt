-- Tests of lines, one after another.
use Rattle.std.proofs.Common.{◌≡◌, ℕ, zero, suc, ◌+◌, ◌-◌, ◌<◌, ◌≤◌, Bool, true, false, if◌then◌else◌, List, [], ◌∷◌, ◌++◌, length, take, drop, map, get_or, slice_range, Option, Some, None, refl, sym, ap, subst, ◌∙◌, arith, length-drop}
use borrow.Author.Count.{below_more}
use denote.Ref.{Bor}
use Rattle.test_directives.specs.declared.directives.LineTest.{LineTest as DirectiveTest}
use Rattle.std.proofs.lemmas.List.{drop_more, take_more, get_or-drop, get_or-map, length-map, drop-map, map_push}
use Rattle.test_directives.specs.declared.directives.LineCheck.{LineCheck}
use Rattle.test_directives.specs.declared.directives.LineCheck.TheVariants as line_check
use Rattle.test_directives.specs.Views.{line_test_by, line_test_of}
use Rattle.filetest.specs.declared.report.Pair.{Pair as CodePair}
use Rattle.filetest.specs.Views.{seen_lines, texts_of, pair_of}
use Rattle.test_directives.specs.Directives.{LineTest, Check, Nextln, Not}
use Rattle.test_directives.specs.Tests.{or_else}
use Rattle.filetest.specs.LineTests.{Line, Pair, pair, contains, line_with, next_line_with, found, found_any, failure, first_or_end, end}
use Rattle.filetest.specs.Taking.{is_not, text_of, NoneHas, IsPlaceWith, IsTaken, parts_at, taken, line_looked_at}

-- ---- the first line with a text

first_has : (text : Line) (lines : List Line) (i : ℕ) → i < length lines → contains text (get_or lines i []) ≡ true
    → NoneHas text lines i → line_with text lines ≡ Some (parts_at lines i)
first_has text [] i l h n = absurd (omega arith)
first_has text (x ∷ xs) zero l h n = ap (λ b. if b then Some ([], xs) else elim (line_with text xs) [ None ↦ None | Some parts ↦ Some (x ∷ parts.0, parts.1) ]) h
first_has text (x ∷ xs) (suc i) l h n =
    let below : i < length xs = omega arith in
    ap (λ b. if b then Some ([], xs) else elim (line_with text xs) [ None ↦ None | Some parts ↦ Some (x ∷ parts.0, parts.1) ]) (n zero (omega arith))
    ∙ ap (λ (o : Option (List Line × List Line)). elim o [ None ↦ None | Some parts ↦ Some (x ∷ parts.0, parts.1) ]) (first_has text xs i below h (λ k m. n (suc k) (omega arith)))

none_has : (text : Line) (lines : List Line) → NoneHas text lines (length lines) → line_with text lines ≡ None
none_has text [] n = refl
none_has text (x ∷ xs) n =
    ap (λ b. if b then Some ([], xs) else elim (line_with text xs) [ None ↦ None | Some parts ↦ Some (x ∷ parts.0, parts.1) ]) (n zero (omega arith))
    ∙ ap (λ (o : Option (List Line × List Line)). elim o [ None ↦ None | Some parts ↦ Some (x ∷ parts.0, parts.1) ]) (none_has text xs (λ k m. n (suc k) (omega arith)))

-- the place of a line with the text is where a `check:` takes one
pub check_takes : (text : Line) (left : List Line) (r : Option ℕ) → IsPlaceWith text left r → IsTaken (Check text) left r
check_takes text left None h = none_has text left h
check_takes text left (Some i) h = (h.0, first_has text left i h.0 h.1 h.2)

-- ---- `not:`

found_at : (text : Line) (lines : List Line) (i : ℕ) → i < length lines → contains text (get_or lines i []) ≡ true
    → NoneHas text lines i → found text lines ≡ Some (pair text (get_or lines i []))
found_at text [] i l h n = absurd (omega arith)
found_at text (x ∷ xs) zero l h n = ap (λ b. if b then Some (pair text x) else found text xs) h
found_at text (x ∷ xs) (suc i) l h n =
    let below : i < length xs = omega arith in
    ap (λ b. if b then Some (pair text x) else found text xs) (n zero (omega arith)) ∙ found_at text xs i below h (λ k m. n (suc k) (omega arith))

found_nowhere : (text : Line) (lines : List Line) → NoneHas text lines (length lines) → found text lines ≡ None
found_nowhere text [] n = refl
found_nowhere text (x ∷ xs) n =
    ap (λ b. if b then Some (pair text x) else found text xs) (n zero (omega arith)) ∙ found_nowhere text xs (λ k m. n (suc k) (omega arith))

-- a text of the rest is found
pub any_here : (nots range : List Line) (i at : ℕ) → i < length nots → IsPlaceWith (get_or nots i []) range (Some at)
    → Some (pair (get_or nots i []) (get_or range at [])) ≡ found_any (drop i nots) range
any_here nots range i at l h =
    sym (ap (λ xs. found_any xs range) (drop_more nots i [] l)
    ∙ ap (λ o. or_else o (found_any (drop (i + 1) nots) range)) (found_at (get_or nots i []) range at h.0 h.1 h.2))

-- the first text of the rest is not
pub any_later : (nots range : List Line) (i : ℕ) → i < length nots → IsPlaceWith (get_or nots i []) range None
    → found_any (drop (i + 1) nots) range ≡ found_any (drop i nots) range
any_later nots range i l h =
    sym (ap (λ xs. found_any xs range) (drop_more nots i [] l)
    ∙ ap (λ o. or_else o (found_any (drop (i + 1) nots) range)) (found_nowhere (get_or nots i []) range h))

-- ---- a `check:` or `nextln:`

abbrev after_taken : (nots left : List Line) → LineTest → List LineTest → Option (List Line × List Line) → Option Pair
after_taken nots left t ts None = or_else (found_any nots left) (Some (pair (text_of t) (line_looked_at t left)))
after_taken nots left t ts (Some parts) = or_else (found_any nots parts.0) (failure [] parts.1 ts)

failure_by : (nots left : List Line) (t : LineTest) (ts : List LineTest) → is_not t ≡ false
    → failure nots left (t ∷ ts) ≡ after_taken nots left t ts (taken t left)
failure_by nots left (Not text) ts h = cc
failure_by nots left (Check text) ts h = go (line_with text left) refl
  where
    go : (o : Option (List Line × List Line)) → line_with text left ≡ o → failure nots left (Check text ∷ ts) ≡ after_taken nots left (Check text) ts o
    go None e = ap (λ (p : Option (List Line × List Line)). elim p [ None ↦ or_else (found_any nots left) (Some (pair text end)) | Some parts ↦ or_else (found_any nots parts.0) (failure [] parts.1 ts) ]) e
    go (Some q) e = ap (λ (p : Option (List Line × List Line)). elim p [ None ↦ or_else (found_any nots left) (Some (pair text end)) | Some parts ↦ or_else (found_any nots parts.0) (failure [] parts.1 ts) ]) e
failure_by nots left (Nextln text) ts h = go (next_line_with text left) refl
  where
    go : (o : Option (List Line × List Line)) → next_line_with text left ≡ o → failure nots left (Nextln text ∷ ts) ≡ after_taken nots left (Nextln text) ts o
    go None e = ap (λ (p : Option (List Line × List Line)). elim p [ None ↦ or_else (found_any nots left) (Some (pair text (first_or_end left))) | Some parts ↦ or_else (found_any nots parts.0) (failure [] parts.1 ts) ]) e
    go (Some q) e = ap (λ (p : Option (List Line × List Line)). elim p [ None ↦ or_else (found_any nots left) (Some (pair text (first_or_end left))) | Some parts ↦ or_else (found_any nots parts.0) (failure [] parts.1 ts) ]) e

pub takes : (nots left : List Line) (t : LineTest) (at : ℕ) → is_not t ≡ false → taken t left ≡ Some (parts_at left at)
    → None ≡ found_any nots (take at left)
    → (ts : List LineTest) → failure nots left (t ∷ ts) ≡ failure [] (drop (suc at) left) ts
takes nots left t at h e f ts =
    failure_by nots left t ts h ∙ (ap (after_taken nots left t ts) e ∙ ap (λ o. or_else o (failure [] (drop (suc at) left) ts)) (sym f))

pub fails_before : (nots left : List Line) (t : LineTest) (at : ℕ) (p : Pair) → is_not t ≡ false → taken t left ≡ Some (parts_at left at)
    → Some p ≡ found_any nots (take at left)
    → (ts : List LineTest) → failure nots left (t ∷ ts) ≡ Some p
fails_before nots left t at p h e f ts =
    failure_by nots left t ts h ∙ (ap (after_taken nots left t ts) e ∙ ap (λ o. or_else o (failure [] (drop (suc at) left) ts)) (sym f))

-- a `not:` waits
pub waits : (nots left : List Line) (t : LineTest) (ts : List LineTest) → is_not t ≡ true → failure nots left (t ∷ ts) ≡ failure (nots ++ text_of t ∷ []) left ts
waits nots left (Not text) ts h = refl
waits nots left (Check text) ts h = cc
waits nots left (Nextln text) ts h = cc

-- one more of a list's stretch
pub stretch_more : {A : Type 0} (xs : List A) (from i : ℕ) (d : A) → from ≤ i → i < length xs
    → slice_range xs from (i + 1) ≡ slice_range xs from i ++ get_or xs i d ∷ []
stretch_more xs from i d s l =
    let e : (i + 1) - from ≡ (i - from) + 1 = omega arith in
    let n : i - from < length (drop from xs) = omega (arith, length-drop from xs) in
    let m : from + (i - from) ≡ i = omega arith in
    ap (λ k. take k (drop from xs)) e
    ∙ (take_more (drop from xs) (i - from) d n
    ∙ ap (λ x. take (i - from) (drop from xs) ++ x ∷ []) (get_or-drop from xs (i - from) d ∙ ap (λ k. get_or xs k d) m))

-- ---- as the code reads lists

pub read_line : (lines : List (Bor Line)) (i : ℕ) (d : Bor Line) → i < length lines → (get_or lines i d).now ≡ get_or (seen_lines lines) i []
read_line lines i d l = sym (get_or-map (λ x. x.now) lines i d [] l)

-- one line more does not contain the text
pub none_more : (text : Line) (lines : List (Bor Line)) (i : ℕ) (d : Bor Line) (b : Bool) → i < length lines
    → b ≡ contains text (get_or lines i d).now → b ≡ false → NoneHas text (seen_lines lines) i → NoneHas text (seen_lines lines) (i + 1)
none_more text lines i d b l e f n =
    below_more (λ k. contains text (get_or (seen_lines lines) k []) ≡ false) i n (ap (contains text) (sym (read_line lines i d l)) ∙ (sym e ∙ f))

pub text_is : (tests : List DirectiveTest) (i : ℕ) (t : DirectiveTest) → i < length tests → t ≡ get_or tests i t → t.text ≡ get_or (texts_of tests) i []
text_is tests i t l e = ap (λ (x : DirectiveTest). x.text) e ∙ sym (get_or-map (λ (x : DirectiveTest). x.text) tests i t [] l)

read_text : (tests : List DirectiveTest) (i : ℕ) (e : DirectiveTest) → i < length tests → (get_or tests i e).text ≡ get_or (texts_of tests) i []
read_text tests i e l = sym (get_or-map (λ (x : DirectiveTest). x.text) tests i e [] l)

-- the text of a test is found in a line
pub finds_text : (tests : List DirectiveTest) (range : List (Bor Line)) (i at : ℕ) (d : Bor Line) (e : DirectiveTest) (x : Line) (p : CodePair)
    → i < length tests → x ≡ (get_or tests i e).text → IsPlaceWith x (seen_lines range) (Some at)
    → p.expected.items ≡ x → p.got.items ≡ (get_or range at d).now
    → Some (pair_of p) ≡ found_any (drop i (texts_of tests)) (seen_lines range)
finds_text tests range i at d e x p l h has a b =
    let nots = texts_of tests in
    let ex : x ≡ get_or nots i [] = h ∙ read_text tests i e l in
    let place : IsPlaceWith (get_or nots i []) (seen_lines range) (Some at) = subst (λ y. IsPlaceWith y (seen_lines range) (Some at)) ex has in
    let m : at < length range = omega (arith, has.0, length-map range (λ (z : Bor Line). z.now)) in
    let n : i < length nots = omega (arith, length-map tests (λ (z : DirectiveTest). z.text)) in
    ap (λ z. Some (pair z p.got.items)) (a ∙ ex)
    ∙ (ap (λ z. Some (pair (get_or nots i []) z)) (b ∙ read_line range at d m) ∙ any_here nots (seen_lines range) i at n place)

-- the text of a test is in no line
pub lacks_text : (tests : List DirectiveTest) (range : List (Bor Line)) (i : ℕ) (e : DirectiveTest) (x : Line)
    → i < length tests → x ≡ (get_or tests i e).text → IsPlaceWith x (seen_lines range) None
    → found_any (drop (i + 1) (texts_of tests)) (seen_lines range) ≡ found_any (drop i (texts_of tests)) (seen_lines range)
lacks_text tests range i e x l h has =
    let nots = texts_of tests in
    let ex : x ≡ get_or nots i [] = h ∙ read_text tests i e l in
    let place : IsPlaceWith (get_or nots i []) (seen_lines range) None = subst (λ y. IsPlaceWith y (seen_lines range) None) ex has in
    let n : i < length nots = omega (arith, length-map tests (λ (z : DirectiveTest). z.text)) in
    any_later nots (seen_lines range) i n place

-- what is no `nextln:` and no `not:` takes the first line with its text
pub other_takes : (check : LineCheck) (text : Line) (left : List Line) (r : Option ℕ) → (check ≡ line_check.Nextln → ⊥)
    → is_not (line_test_by check text) ≡ false → IsPlaceWith text left r → IsTaken (line_test_by check text) left r
other_takes line_check.Check text left r n h p = check_takes text left r p
other_takes line_check.Nextln text left r n h p = absurd (n refl)
other_takes line_check.Not text left r n h p = cc

-- ---- the tests of a function in turn

-- behind the test that takes a line
pub after_take : (tests : List DirectiveTest) (left : List (Bor Line)) (i at : ℕ) (t : DirectiveTest) (nots : List Line) (total : Option Pair)
    → i < length tests → t ≡ get_or tests i t
    → ((ts : List LineTest) → failure nots (seen_lines left) (line_test_of t ∷ ts) ≡ failure [] (drop (suc at) (seen_lines left)) ts)
    → failure nots (seen_lines left) (map line_test_of (drop i tests)) ≡ total
    → failure (texts_of (slice_range tests (i + 1) (i + 1))) (seen_lines (drop (at + 1) left)) (map line_test_of (drop (i + 1) tests)) ≡ total
after_take tests left i at t nots total l e f so =
    let ts = map line_test_of (drop (i + 1) tests) in
    let whole : map line_test_of (drop i tests) ≡ line_test_of t ∷ ts =
    ap (map line_test_of) (drop_more tests i t l) ∙ ap (λ x. line_test_of x ∷ ts) (sym e) in
    let z : (i + 1) - (i + 1) ≡ 0 = omega arith in
    let n : at + 1 ≡ suc at = omega arith in
    let dropped : seen_lines (drop (at + 1) left) ≡ drop (suc at) (seen_lines left) =
    sym (drop-map (λ (x : Bor Line). x.now) (at + 1) left) ∙ ap (λ k. drop k (seen_lines left)) n in
    ap (λ k. failure (texts_of (take k (drop (i + 1) tests))) (seen_lines (drop (at + 1) left)) ts) z
    ∙ (ap (λ ls. failure [] ls ts) dropped ∙ (sym (f ts) ∙ (ap (failure nots (seen_lines left)) (sym whole) ∙ so)))

text_by : (check : LineCheck) (text : Line) → text_of (line_test_by check text) ≡ text
text_by line_check.Check text = refl
text_by line_check.Nextln text = refl
text_by line_check.Not text = refl

-- behind a `not:`
pub after_not : (tests : List DirectiveTest) (left : List Line) (judged i : ℕ) (t : DirectiveTest) (total : Option Pair)
    → judged ≤ i → i < length tests → t ≡ get_or tests i t → is_not (line_test_of t) ≡ true
    → failure (texts_of (slice_range tests judged i)) left (map line_test_of (drop i tests)) ≡ total
    → failure (texts_of (slice_range tests judged (i + 1))) left (map line_test_of (drop (i + 1) tests)) ≡ total
after_not tests left judged i t total s l e h so =
    let ts = map line_test_of (drop (i + 1) tests) in
    let nots = texts_of (slice_range tests judged i) in
    let whole : map line_test_of (drop i tests) ≡ line_test_of t ∷ ts =
    ap (map line_test_of) (drop_more tests i t l) ∙ ap (λ x. line_test_of x ∷ ts) (sym e) in
    let more : texts_of (slice_range tests judged (i + 1)) ≡ nots ++ text_of (line_test_of t) ∷ [] =
    ap texts_of (stretch_more tests judged i t s l)
    ∙ (map_push (λ (x : DirectiveTest). x.text) (slice_range tests judged i) (get_or tests i t)
    ∙ ap (λ x. nots ++ x ∷ []) (ap (λ (x : DirectiveTest). x.text) (sym e) ∙ sym (text_by t.check t.text))) in
    ap (λ xs. failure xs left ts) more ∙ (sym (waits nots left (line_test_of t) ts h) ∙ (ap (failure nots left) (sym whole) ∙ so))

pub after_take_as : (tests : List DirectiveTest) (left left' : List (Bor Line)) (i at judged : ℕ) (t : DirectiveTest) (nots : List Line) (total : Option Pair)
    → judged ≡ i + 1 → left' ≡ drop (at + 1) left
    → i < length tests → t ≡ get_or tests i t
    → ((ts : List LineTest) → failure nots (seen_lines left) (line_test_of t ∷ ts) ≡ failure [] (drop (suc at) (seen_lines left)) ts)
    → failure nots (seen_lines left) (map line_test_of (drop i tests)) ≡ total
    → failure (texts_of (slice_range tests judged (i + 1))) (seen_lines left') (map line_test_of (drop (i + 1) tests)) ≡ total
after_take_as tests left left' i at judged t nots total j k l e f so =
    ap (λ n. failure (texts_of (slice_range tests n (i + 1))) (seen_lines left') (map line_test_of (drop (i + 1) tests))) j
    ∙ (ap (λ ls. failure (texts_of (slice_range tests (i + 1) (i + 1))) (seen_lines ls) (map line_test_of (drop (i + 1) tests))) k
    ∙ after_take tests left i at t nots total l e f so)

pub after_not_as : (tests : List DirectiveTest) (left left' : List (Bor Line)) (judged judged' i : ℕ) (t : DirectiveTest) (total : Option Pair)
    → judged' ≡ judged → left' ≡ left
    → judged ≤ i → i < length tests → t ≡ get_or tests i t → is_not (line_test_of t) ≡ true
    → failure (texts_of (slice_range tests judged i)) (seen_lines left) (map line_test_of (drop i tests)) ≡ total
    → failure (texts_of (slice_range tests judged' (i + 1))) (seen_lines left') (map line_test_of (drop (i + 1) tests)) ≡ total
after_not_as tests left left' judged judged' i t total j k s l e h so =
    ap (λ n. failure (texts_of (slice_range tests n (i + 1))) (seen_lines left') (map line_test_of (drop (i + 1) tests))) j
    ∙ (ap (λ ls. failure (texts_of (slice_range tests judged (i + 1))) (seen_lines ls) (map line_test_of (drop (i + 1) tests))) k
    ∙ after_not tests (seen_lines left) judged i t total s l e h so)

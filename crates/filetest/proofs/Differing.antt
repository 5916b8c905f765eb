-- The first difference of two lists of lines.
use Rattle.std.proofs.Common.{◌≡◌, ℕ, ◌+◌, ◌<◌, ◌≤◌, Bool, true, false, if◌then◌else◌, List, [], ◌∷◌, length, drop, get_or, Some, sym, ap, ◌∙◌, arith}
use Rattle.std.specs.Str.{bytes_eq}
use Rattle.std.proofs.lemmas.List.{drop_more, drop_all}
use Rattle.std.proofs.Common.{not}
use Rattle.std.proofs.lemmas.List.{length-map}
use Rattle.std.proofs.lemmas.Bool.{not-true, not-false}
use denote.Ref.{Bor}
use Rattle.filetest.specs.declared.report.Pair.{Pair as CodePair}
use Rattle.filetest.specs.Views.{pair_of, seen_lines}
use Rattle.filetest.proofs.LineChecking.{read_line}
use Rattle.filetest.specs.LineTests.{Line, pair, end, difference}

both_more : (expected got : List Line) (i : ℕ) → i < length expected → i < length got
    → difference (drop i expected) (drop i got)
    ≡ (if bytes_eq (get_or expected i []) (get_or got i []) then difference (drop (i + 1) expected) (drop (i + 1) got)
    else Some (pair (get_or expected i []) (get_or got i [])))
both_more expected got i l m = ap (λ xs. difference xs (drop i got)) (drop_more expected i [] l) ∙ ap (difference (get_or expected i [] ∷ drop (i + 1) expected)) (drop_more got i [] m)

pub same_line : (expected got : List Line) (i : ℕ) → i < length expected → i < length got
    → bytes_eq (get_or expected i []) (get_or got i []) ≡ true
    → difference (drop (i + 1) expected) (drop (i + 1) got) ≡ difference (drop i expected) (drop i got)
same_line expected got i l m e = sym (both_more expected got i l m ∙ ap (λ b. if b then difference (drop (i + 1) expected) (drop (i + 1) got) else Some (pair (get_or expected i []) (get_or got i []))) e)

pub other_line : (expected got : List Line) (i : ℕ) → i < length expected → i < length got
    → bytes_eq (get_or expected i []) (get_or got i []) ≡ false
    → Some (pair (get_or expected i []) (get_or got i [])) ≡ difference (drop i expected) (drop i got)
other_line expected got i l m e = sym (both_more expected got i l m ∙ ap (λ b. if b then difference (drop (i + 1) expected) (drop (i + 1) got) else Some (pair (get_or expected i []) (get_or got i []))) e)

pub expected_ends : (expected got : List Line) (i : ℕ) → length expected ≤ i → i < length got
    → Some (pair end (get_or got i [])) ≡ difference (drop i expected) (drop i got)
expected_ends expected got i l m = sym (ap (λ xs. difference xs (drop i got)) (drop_all i expected l) ∙ ap (difference []) (drop_more got i [] m))

-- ---- as the code reads lists

pub first_differs : (expected : List Line) (got : List (Bor Line)) (i : ℕ) (d : Bor Line) (x : Line) (t : Bool) (p : CodePair)
    → i < length expected → i < length got → x ≡ get_or expected i []
    → t ≡ not (bytes_eq x (get_or got i d).now) → t ≡ true
    → p.expected.items ≡ x → p.got.items ≡ (get_or got i d).now
    → Some (pair_of p) ≡ difference (drop i expected) (drop i (seen_lines got))
first_differs expected got i d x t p l m ex et h a b =
    let y = (get_or got i d).now in
    let ey : y ≡ get_or (seen_lines got) i [] = read_line got i d m in
    let m2 : i < length (seen_lines got) = omega (arith, length-map got (λ (z : Bor Line). z.now)) in
    let f : bytes_eq (get_or expected i []) (get_or (seen_lines got) i []) ≡ false =
    ap (λ z. bytes_eq z (get_or (seen_lines got) i [])) (sym ex) ∙ (ap (bytes_eq x) (sym ey) ∙ not-true (bytes_eq x y) (sym et ∙ h)) in
    ap (λ z. Some (pair z p.got.items)) (a ∙ ex) ∙ (ap (λ z. Some (pair (get_or expected i []) z)) (b ∙ ey) ∙ other_line expected (seen_lines got) i l m2 f)

pub line_is_same : (expected : List Line) (got : List (Bor Line)) (i : ℕ) (d : Bor Line) (x : Line) (t : Bool)
    → i < length expected → i < length got → x ≡ get_or expected i []
    → t ≡ not (bytes_eq x (get_or got i d).now) → t ≡ false
    → difference (drop (i + 1) expected) (drop (i + 1) (seen_lines got)) ≡ difference (drop i expected) (drop i (seen_lines got))
line_is_same expected got i d x t l m ex et h =
    let y = (get_or got i d).now in
    let ey : y ≡ get_or (seen_lines got) i [] = read_line got i d m in
    let m2 : i < length (seen_lines got) = omega (arith, length-map got (λ (z : Bor Line). z.now)) in
    same_line expected (seen_lines got) i l m2 (ap (λ z. bytes_eq z (get_or (seen_lines got) i [])) (sym ex) ∙ (ap (bytes_eq x) (sym ey) ∙ not-false (bytes_eq x y) (sym et ∙ h)))

pub got_has_more : (expected : List Line) (got : List (Bor Line)) (i : ℕ) (d : Bor Line) (p : CodePair)
    → length expected ≤ i → i < length got
    → p.expected.items ≡ end → p.got.items ≡ (get_or got i d).now
    → Some (pair_of p) ≡ difference (drop i expected) (drop i (seen_lines got))
got_has_more expected got i d p l m a b =
    let m2 : i < length (seen_lines got) = omega (arith, length-map got (λ (z : Bor Line). z.now)) in
    ap (λ z. Some (pair z p.got.items)) a ∙ (ap (λ z. Some (pair end z)) (b ∙ read_line got i d m) ∙ expected_ends expected (seen_lines got) i l m2)

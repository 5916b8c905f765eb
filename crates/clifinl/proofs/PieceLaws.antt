-- Pieces of a text, one behind the other.
use Rattle.std.specs.Prelude.{Result, Ok, Err, OnErr}
use Rattle.std.proofs.Common.{◌≡◌, ℕ, zero, suc, ◌<◌, List, [], ◌∷◌, ◌++◌, length, take, drop, get_or, flat_map, ap, sym, ◌∙◌, append_assoc, append-nil, take-append-drop, arith}
use Rattle.std.proofs.lemmas.Grind.{flat_map-append}

-- the first pieces and the next one are one piece more
pub one_piece_more : {X A : Type 0} (f : X → List A) (xs : List X) (i : ℕ) (d : X) → i < length xs → flat_map f (take (suc i) xs) ≡ flat_map f (take i xs) ++ f (get_or xs i d)
one_piece_more f [] i d below = absurd (omega arith)
one_piece_more f (x ∷ xs) zero d below = append-nil (f x)
one_piece_more f (x ∷ xs) (suc i) d below =
    ap (λ l. f x ++ l) (one_piece_more f xs i d (omega arith)) ∙ sym (append_assoc (f x) (flat_map f (take i xs)) (f (get_or xs i d)))

-- all pieces are the first ones, the next one and the others
pub pieces_around : {X A : Type 0} (f : X → List A) (xs : List X) (i : ℕ) (d : X) → i < length xs → flat_map f xs ≡ (flat_map f (take i xs) ++ f (get_or xs i d)) ++ flat_map f (drop (suc i) xs)
pieces_around f xs i d below =
    ap (flat_map f) (sym (take-append-drop (suc i) xs)) ∙ flat_map-append f (take (suc i) xs) (drop (suc i) xs)
    ∙ ap (λ l. l ++ flat_map f (drop (suc i) xs)) (one_piece_more f xs i d below)

-- where a piece is cut, all before the cut is a beginning of the whole
pub cut_within : {A : Type 0} (whole before piece front rest after : List A) → whole ≡ (before ++ piece) ++ after → piece ≡ front ++ rest → whole ≡ (before ++ front) ++ (rest ++ after)
cut_within whole before piece front rest after around cut =
    around ∙ ap (λ p. (before ++ p) ++ after) cut ∙ ap (λ l. l ++ after) (sym (append_assoc before front rest)) ∙ append_assoc (before ++ front) rest after

pub on_err : {T E P : Type 0} (r : Result T E) → P → OnErr r P
on_err (Ok v) p = tt
on_err (Err e) p = p

-- ---- pieces joined from the left

abbrev pub joined : List ℕ → List (List ℕ) → List ℕ
joined front [] = front
joined front (piece ∷ pieces) = joined (front ++ piece) pieces

pub joined_is : (front : List ℕ) (pieces : List (List ℕ)) → front ++ flat_map (λ piece. piece) pieces ≡ joined front pieces
joined_is front [] = append-nil front
joined_is front (piece ∷ pieces) = sym (append_assoc front piece (flat_map (λ piece. piece) pieces)) ∙ joined_is (front ++ piece) pieces

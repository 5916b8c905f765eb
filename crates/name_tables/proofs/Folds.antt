-- Loops that fold a walk over the parts of a list.
use Rattle.std.proofs.Common.{◌≡◌, ℕ, ◌+◌, ◌<◌, List, [], ◌∷◌, ◌++◌, length, get_or, take, map, refl}
use Rattle.std.specs.Prelude.{fold, flat_map}
use Rattle.std.proofs.lemmas.Grind.{fold-append, flat_map-append}
use Rattle.std.proofs.lemmas.List.{append-nil, take_more, map_push}

-- one more part
pub fold_more : {X A B : Type 0} (f : B → A → B) (g : X → List A) (s : B) (xs : List X) (i : ℕ) (x : X) → i < length xs → x ≡ get_or xs i x
    → fold f s (flat_map g (take (i + 1) xs)) ≡ fold f (fold f s (flat_map g (take i xs))) (g x)
fold_more f g s xs i x h e =
    rw (take_more xs i x h, flat_map-append g (take i xs) (get_or xs i x ∷ []), append-nil (g (get_or xs i x)), fold-append f s (flat_map g (take i xs)) (g (get_or xs i x)), ← e) refl

pub fold_one : {X B : Type 0} (f : B → X → B) (s : B) (xs : List X) (i : ℕ) (x : X) → i < length xs → x ≡ get_or xs i x
    → fold f s (take (i + 1) xs) ≡ f (fold f s (take i xs)) x
fold_one f s xs i x h e = rw (take_more xs i x h, fold-append f s (take i xs) (get_or xs i x ∷ []), ← e) refl

pub map_more : {X Y : Type 0} (f : X → Y) (xs : List X) (i : ℕ) (x : X) → i < length xs → x ≡ get_or xs i x → map f (take (i + 1) xs) ≡ map f (take i xs) ++ f x ∷ []
map_more f xs i x h e = rw (take_more xs i x h, map_push f (take i xs) (get_or xs i x), ← e) refl

-- one more part, where each element has one
pub fold_map_more : {X A B : Type 0} (f : B → A → B) (g : X → A) (s : B) (xs : List X) (i : ℕ) (x : X) → i < length xs → x ≡ get_or xs i x
    → fold f s (map g (take (i + 1) xs)) ≡ f (fold f s (map g (take i xs))) (g x)
fold_map_more f g s xs i x h e = rw (take_more xs i x h, map_push g (take i xs) (get_or xs i x), fold-append f s (map g (take i xs)) (g (get_or xs i x) ∷ []), ← e) refl

-- Lists of what the code has, as lists of what the definitions have.
use Rattle.std.proofs.Common.{◌≡◌, List, [], ◌∷◌, map, refl, ap}
use Rattle.ir_text.specs.TextTree.{Text, ◌▹◌, comma, more, separated}

more_map : {A B : Type 0} (view : B → A) (text : A → Text) (ys : List B) → more (λ y. text (view y)) ys ≡ more text (map view ys)
more_map view text [] = refl
more_map view text (y ∷ ys) = ap (λ t. comma ▹ text (view y) ▹ t) (more_map view text ys)

pub separated_map : {A B : Type 0} (view : B → A) (text : A → Text) (ys : List B) → separated (λ y. text (view y)) ys ≡ separated text (map view ys)
separated_map view text [] = refl
separated_map view text (y ∷ ys) = ap (λ t. text (view y) ▹ t) (more_map view text ys)

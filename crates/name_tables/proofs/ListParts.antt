-- Lists made of the parts of elements.
use Rattle.std.proofs.Common.{◌≡◌, List, [], ◌∷◌, ◌++◌, map, refl, ap, ◌∙◌}
use Rattle.std.specs.Prelude.{fold, flat_map}
use Rattle.std.proofs.lemmas.Grind.{fold-append, flat_map-append}
use Rattle.std.proofs.lemmas.List.{map-append}

pub flat_none : {X A : Type 0} (xs : List X) → flat_map (λ (x : X). let none : List A = [] in none) xs ≡ []
flat_none [] = refl
flat_none (x ∷ xs) = flat_none xs

pub flat_map_map : {X Y A : Type 0} (f : Y → List A) (g : X → Y) (xs : List X) → flat_map f (map g xs) ≡ flat_map (λ x. f (g x)) xs
flat_map_map f g [] = refl
flat_map_map f g (x ∷ xs) = ap (λ (l : List _). f (g x) ++ l) (flat_map_map f g xs)

pub flat_flat : {X Y A : Type 0} (f : Y → List A) (g : X → List Y) (xs : List X) → flat_map f (flat_map g xs) ≡ flat_map (λ x. flat_map f (g x)) xs
flat_flat f g [] = refl
flat_flat f g (x ∷ xs) = flat_map-append f (g x) (flat_map g xs) ∙ ap (λ (l : List _). flat_map f (g x) ++ l) (flat_flat f g xs)

pub map_flat : {X Y A : Type 0} (f : Y → A) (g : X → List Y) (xs : List X) → map f (flat_map g xs) ≡ flat_map (λ x. map f (g x)) xs
map_flat f g [] = refl
map_flat f g (x ∷ xs) = map-append f (g x) (flat_map g xs) ∙ ap (λ (l : List _). map f (g x) ++ l) (map_flat f g xs)

pub flat_same : {X A : Type 0} (f g : X → List A) → ((x : X) → f x ≡ g x) → (xs : List X) → flat_map f xs ≡ flat_map g xs
flat_same f g same [] = refl
flat_same f g same (x ∷ xs) = ap (λ (l : List _). l ++ flat_map f xs) (same x) ∙ ap (λ (l : List _). g x ++ l) (flat_same f g same xs)

pub fold_map : {X Y S : Type 0} (f : S → Y → S) (g : X → Y) (s : S) (xs : List X) → fold f s (map g xs) ≡ fold (λ s x. f s (g x)) s xs
fold_map f g s [] = refl
fold_map f g s (x ∷ xs) = fold_map f g (f s (g x)) xs

pub fold_flat : {X Y S : Type 0} (f : S → Y → S) (g : X → List Y) (s : S) (xs : List X) → fold f s (flat_map g xs) ≡ fold (λ s x. fold f s (g x)) s xs
fold_flat f g s [] = refl
fold_flat f g s (x ∷ xs) = fold-append f s (g x) (flat_map g xs) ∙ fold_flat f g (fold f s (g x)) xs

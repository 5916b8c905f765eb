-- Sums that stop at the greatest number, and the sizes of parts.
use Rattle.std.proofs.Common.{◌≡◌, ℕ, ◌+◌, ◌<◌, ◌≤◌, List, [], ◌∷◌, ◌++◌, map, length, take, get_or, refl, sym, ap, ap₂, ◌∙◌, subst, arith, eq-eqb, ne_eqb, append_assoc, inl, inr}
use Rattle.std.specs.Prelude.{if◌then◌else◌}
use Rattle.std.proofs.lemmas.List.{take_more}
use Rattle.exn_tables.specs.declared.table.Entry.{Entry}
use Rattle.ir_core.specs.declared.instructions.BlockCall.{BlockCall}
use Rattle.ir_core.specs.declared.signatures.Sig.{Sig}
use Rattle.ir_core.specs.Module.{Block}
use Rattle.ir_core.specs.Lookup.{block_numbers}
use Rattle.ir_core.specs.Lists.{In, Different, Each}
use Rattle.ir_core.specs.Edits.{params_of, lines_of}
use Rattle.ir_core.specs.Uses.{table_targets}
use Rattle.ir_core.specs.Size.{total, argument_count, line_size, block_size, sig_size, size_at, capped}

pub capped_both : (a b : ℕ) → capped (capped a + capped b) ≡ capped (a + b)
capped_both a b = omega arith

pub total_join : {A : Type 0} (f : A → ℕ) (xs ys : List A) → total f (xs ++ ys) ≡ total f xs + total f ys
total_join f [] ys = omega arith
total_join f (x ∷ xs) ys = omega (arith, total_join f xs ys)

pub total_map : {A B : Type 0} (f : B → ℕ) (g : A → B) (xs : List A) → total f (map g xs) ≡ total (λ x. f (g x)) xs
total_map f g [] = refl
total_map f g (x ∷ xs) = ap (λ n. f (g x) + n) (total_map f g xs)

pub total_targets : (es : List (Entry BlockCall)) → total argument_count (table_targets es) ≡ total (λ e. argument_count e.target) es
total_targets [] = refl
total_targets (e ∷ es) = ap (λ n. argument_count e.target + n) (total_targets es)

pub total_more : {A : Type 0} (f : A → ℕ) (xs : List A) (i : ℕ) (d : A) → i < length xs → total f (take (i + 1) xs) ≡ total f (take i xs) + f (get_or xs i d)
total_more f xs i d h = ap (total f) (take_more xs i d h) ∙ (total_join f (take i xs) (get_or xs i d ∷ []) ∙ omega arith)

-- blocks by their numbers

pub found_here : (bs : List Block) (b : Block) → Different (block_numbers bs) → (pre : List Block) (post : List Block) → bs ≡ pre ++ (b ∷ post) → size_at bs b.number ≡ block_size b
found_here bs b d pre post e = ap (λ z. size_at z b.number) e ∙ go pre (subst (λ z. Different (block_numbers z)) e d)
  where
    in_behind : (pre : List Block) → In b.number (block_numbers (pre ++ (b ∷ post)))
    in_behind [] = inl refl
    in_behind (x ∷ pre) = inr (in_behind pre)

    go : (pre : List Block) → Different (block_numbers (pre ++ (b ∷ post))) → size_at (pre ++ (b ∷ post)) b.number ≡ block_size b
    go [] d = ap₂ (λ p q. (1 + length p) + total line_size q) (ap (λ c. if c then b.params else params_of b.number post) (eq-eqb b.number b.number refl)) (ap (λ c. if c then b.lines else lines_of b.number post) (eq-eqb b.number b.number refl))
    go (x ∷ pre) d =
        let other : x.number ≡ b.number → ⊥ = λ q. d.0 (subst (λ z. In z (block_numbers (pre ++ (b ∷ post)))) (sym q) (in_behind pre)) in
        ap₂ (λ p q. (1 + length p) + total line_size q) (ap (λ c. if c then x.params else params_of b.number (pre ++ (b ∷ post))) (ne_eqb x.number b.number other)) (ap (λ c. if c then x.lines else lines_of b.number (pre ++ (b ∷ post))) (ne_eqb x.number b.number other))
        ∙ go pre d.1

-- the sum over the numbers is the sum over the blocks
pub total_numbers : (bs : List Block) → Different (block_numbers bs) → total (size_at bs) (block_numbers bs) ≡ total block_size bs
total_numbers bs d = go [] bs refl
  where
    go : (pre post : List Block) → bs ≡ pre ++ post → total (size_at bs) (block_numbers post) ≡ total block_size post
    go pre [] e = refl
    go pre (b ∷ post) e = ap₂ (λ m n. m + n) (found_here bs b d pre post e) (go (pre ++ (b ∷ [])) post (e ∙ sym (append_assoc pre (b ∷ []) post)))

pub each_in : {A : Type 0} (xs ys : List A) → ((x : A) → In x ys → In x xs) → Each (λ x. In x xs) ys
each_in xs [] h = tt
each_in xs (y ∷ ys) h = (h y (inl refl), each_in xs ys (λ x i. h x (inr i)))

pub sigs_count : (ss : List Sig) → length ss ≤ total sig_size ss
sigs_count [] = omega arith
sigs_count (s ∷ ss) = let a = sigs_count ss in omega (arith, a)

pub blocks_count : (bs : List Block) → length bs ≤ total block_size bs
blocks_count [] = omega arith
blocks_count (b ∷ bs) = let a = blocks_count bs in omega (arith, a)

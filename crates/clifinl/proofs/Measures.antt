-- Sizes and sites of modules.
use Rattle.std.proofs.Common.{◌≡◌, ℕ, ◌+◌, take, length, Some, ◌≤◌, List, [], ◌∷◌, ◌++◌, map, sym, refl, ap, ap₂, subst, ◌∙◌, append_assoc, eq-eqb, ne_eqb, inl, inr, arith}
use Rattle.std.specs.Prelude.{count_by, slice_get, if◌then◌else◌}
use Rattle.std.proofs.lemmas.List.Sums.{count_by-le-length}
use Rattle.std.proofs.lemmas.Option.{get_or_from_slice_get, slice_get_within}
use Rattle.ir_core.proofs.Sizing.{total_more}
use Rattle.ir_core.specs.Edits.{lines_of}
use Rattle.ir_core.specs.Lists.{Different, In}
use Rattle.ir_core.specs.Lookup.{block_numbers}
use Rattle.ir_core.specs.Module.{Block, Function, Line, Module}
use Rattle.ir_core.specs.Size.{block_size, line_size, size_of, total}
use Rattle.ir_semantics.specs.Canon.{SameFunction, SameUpToNumbering, canonical}
use Rattle.inline_numbering.specs.Renamed.{RenamedKeepsSize, SameIsRenamed}
use Rattle.clifinl.specs.GenCommand.{Summary, block_sites, calls_within, function_sites}

-- functions that are the same up to numbering have one size
one_size : SameIsRenamed → RenamedKeepsSize → (f g : Function) → SameFunction f g → size_of f ≡ size_of g
one_size renamed keeps f g same = let by = renamed f g same in sym (keeps by.0 f g by.1)

-- and so have modules
pub one_total : SameIsRenamed → RenamedKeepsSize → (m r : Module) → SameUpToNumbering m r → total size_of m ≡ total size_of r
one_total renamed keeps [] [] same = refl
one_total renamed keeps [] (g ∷ r) same = let e = same.2 in absurd cc
one_total renamed keeps (f ∷ m) [] same = let e = same.2 in absurd cc
one_total renamed keeps (f ∷ m) (g ∷ r) same =
    let e = same.2 in
    let first : canonical f ≡ canonical g = cc in
    let others : map canonical m ≡ map canonical r = cc in
    ap₂ (λ x y. x + y) (one_size renamed keeps f g (same.0.0, same.1.0, first)) (one_total renamed keeps m r (same.0.1, same.1.1, others))

-- summaries of the same numbers are one
pub one_summary : {functions sites inlined before after steps functions' sites' inlined' before' after' steps' : ℕ} → functions ≡ functions' → sites ≡ sites' → inlined ≡ inlined' → before ≡ before' → after ≡ after' → steps ≡ steps'
    → ◌≡◌ {A = Summary} (record { functions = functions; sites = sites; inlined = inlined; size_before = before; size_after = after; steps = steps })
    (record { functions = functions'; sites = sites'; inlined = inlined'; size_before = before'; size_after = after'; steps = steps' })
one_summary functions sites inlined before after steps = rw (functions, sites, inlined, before, after, steps) refl

-- ---- a place of a list

-- a sum over one element more
pub one_more : {A : Type 0} (h : A → ℕ) (xs : List A) (i : ℕ) (x : A) → slice_get xs i ≡ Some x → total h (take (i + 1) xs) ≡ total h (take i xs) + h x
one_more h xs i x e = total_more h xs i x (slice_get_within xs i x e) ∙ ap (λ y. total h (take i xs) + h y) (get_or_from_slice_get xs i x x e)

-- ---- by the numbers of blocks

-- what is said of the lines of the block that stands here
lines_here : (bs : List Block) (b : Block) → Different (block_numbers bs) → (pre post : List Block) → bs ≡ pre ++ (b ∷ post) → lines_of b.number bs ≡ b.lines
lines_here bs b d pre post e = ap (λ z. lines_of b.number z) e ∙ go pre (subst (λ z. Different (block_numbers z)) e d)
  where
    in_behind : (pre : List Block) → In b.number (block_numbers (pre ++ (b ∷ post)))
    in_behind [] = inl refl
    in_behind (x ∷ pre) = inr (in_behind pre)

    go : (pre : List Block) → Different (block_numbers (pre ++ (b ∷ post))) → lines_of b.number (pre ++ (b ∷ post)) ≡ b.lines
    go [] d = ap (λ c. if c then b.lines else lines_of b.number post) (eq-eqb b.number b.number refl)
    go (x ∷ pre) d =
        let other : x.number ≡ b.number → ⊥ = λ q. d.0 (subst (λ z. In z (block_numbers (pre ++ (b ∷ post)))) (sym q) (in_behind pre)) in
        ap (λ c. if c then x.lines else lines_of b.number (pre ++ (b ∷ post))) (ne_eqb x.number b.number other) ∙ go pre d.1

-- how many sites the block of the number has
abbrev pub sites_at : Module → Function → ℕ → ℕ
sites_at m f n = count_by (calls_within m f) (lines_of n f.blocks)

-- the sum over the numbers is the sum over the blocks
pub total_sites : (m : Module) (f : Function) → Different (block_numbers f.blocks) → total (sites_at m f) (block_numbers f.blocks) ≡ function_sites m f
total_sites m f d = go [] f.blocks refl
  where
    go : (pre post : List Block) → f.blocks ≡ pre ++ post → total (sites_at m f) (block_numbers post) ≡ total (block_sites m f) post
    go pre [] e = refl
    go pre (b ∷ post) e =
        ap₂ (λ x y. x + y) (ap (count_by (calls_within m f)) (lines_here f.blocks b d pre post e)) (go (pre ++ (b ∷ [])) post (e ∙ sym (append_assoc pre (b ∷ []) post)))

-- ---- no function has more sites than parts

pub length_few : (ls : List Line) → length ls ≤ total line_size ls
length_few [] = omega arith
length_few (l ∷ ls) = omega (arith, length_few ls)

lines_few : (m : Module) (f : Function) (ls : List Line) → count_by (calls_within m f) ls ≤ total line_size ls
lines_few m f ls = omega (arith, count_by-le-length (calls_within m f) ls, length_few ls)

blocks_few : (m : Module) (f : Function) (bs : List Block) → total (block_sites m f) bs ≤ total block_size bs
blocks_few m f [] = omega arith
blocks_few m f (b ∷ bs) = omega (arith, lines_few m f b.lines, blocks_few m f bs)

pub few_sites : (m : Module) (f : Function) → function_sites m f ≤ size_of f
few_sites m f = omega (arith, blocks_few m f f.blocks)

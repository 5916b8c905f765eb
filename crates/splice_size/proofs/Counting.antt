-- Sums of counts: by parts, and no less than each thing that counts.
use Rattle.std.specs.Prelude.{if◌then◌else◌}
use Rattle.std.proofs.Common.{◌≡◌, ℕ, ◌+◌, ◌<◌, ◌≤◌, List, [], ◌∷◌, ◌++◌, map, length, take, get_or, inl, inr, refl, sym, subst, ap, ap₂, ◌∙◌, arith, append_assoc, eq-eqb, ne_eqb}
use Rattle.std.proofs.lemmas.List.{take_more}
use Rattle.ir_core.specs.Edits.{params_of, lines_of}
use Rattle.ir_core.specs.Lists.{In, Different}
use Rattle.ir_core.specs.Lookup.{block_numbers}
use Rattle.ir_core.specs.Module.{Instruction, Plain, Branches, SequencePoint, Return, Call, ReturnCall, TryCall, Line, Block}
use Rattle.ir_core.specs.Size.{block_size, line_size, size_at, total}
use Rattle.ir_core.proofs.Sizing.{total_numbers}
use Rattle.splice_size.specs.declared.counts.Counts.{Counts}
use Rattle.splice_size.specs.Counts.{block_counts, counts_at, counts_by, line_counts, none, of_size, plus, sum_size, summed, IsSmall}
use Rattle.splice_size.proofs.Lines.{whole}

counts_same : (a b c d e f g h a' b' c' d' e' f' g' h' : ℕ) → a ≡ a' → b ≡ b' → c ≡ c' → d ≡ d' → e ≡ e' → f ≡ f' → g ≡ g' → h ≡ h' → (let x : Counts = record { blocks = a; returned = b; returns = c; calls = d; results = e; tail_calls = f; try_calls = g; sequence_points = h } in x) ≡ record { blocks = a'; returned = b'; returns = c'; calls = d'; results = e'; tail_calls = f'; try_calls = g'; sequence_points = h' }
counts_same a b c d e f g h a' b' c' d' e' f' g' h' p q r s t u v w = cc

pub plus_assoc : (x y z : Counts) → plus (plus x y) z ≡ plus x (plus y z)
plus_assoc x y z =
    counts_same _ _ _ _ _ _ _ _ _ _ _ _ _ _ _ _
    (sums x.blocks y.blocks z.blocks) (sums x.returned y.returned z.returned) (sums x.returns y.returns z.returns) (sums x.calls y.calls z.calls)
    (sums x.results y.results z.results) (sums x.tail_calls y.tail_calls z.tail_calls) (sums x.try_calls y.try_calls z.try_calls) (sums x.sequence_points y.sequence_points z.sequence_points)
  where
    sums : (a b c : ℕ) → (a + b) + c ≡ a + (b + c)
    sums a b c = omega arith

pub plus_none : (x : Counts) → plus x none ≡ x
plus_none x =
    counts_same _ _ _ _ _ _ _ _ _ _ _ _ _ _ _ _ (nought x.blocks) (nought x.returned) (nought x.returns) (nought x.calls) (nought x.results) (nought x.tail_calls) (nought x.try_calls) (nought x.sequence_points)
  where
    nought : (a : ℕ) → a + 0 ≡ a
    nought a = omega arith

pub none_plus : (x : Counts) → plus none x ≡ x
none_plus x =
    counts_same _ _ _ _ _ _ _ _ _ _ _ _ _ _ _ _ (nought x.blocks) (nought x.returned) (nought x.returns) (nought x.calls) (nought x.results) (nought x.tail_calls) (nought x.try_calls) (nought x.sequence_points)
  where
    nought : (a : ℕ) → 0 + a ≡ a
    nought a = omega arith

summed_join : {A : Type 0} (f : A → Counts) (xs ys : List A) → summed f (xs ++ ys) ≡ plus (summed f xs) (summed f ys)
summed_join f [] ys = sym (none_plus (summed f ys))
summed_join f (x ∷ xs) ys = ap (plus (f x)) (summed_join f xs ys) ∙ sym (plus_assoc (f x) (summed f xs) (summed f ys))

pub summed_more : {A : Type 0} (f : A → Counts) (xs : List A) (i : ℕ) (d : A) → i < length xs → summed f (take (i + 1) xs) ≡ plus (summed f (take i xs)) (f (get_or xs i d))
summed_more f xs i d h =
    ap (summed f) (take_more xs i d h) ∙ (summed_join f (take i xs) (get_or xs i d ∷ []) ∙ ap (plus (summed f (take i xs))) (plus_none (f (get_or xs i d))))

pub summed_map : {A B : Type 0} (f : B → Counts) (g : A → B) (xs : List A) → summed f (map g xs) ≡ summed (λ x. f (g x)) xs
summed_map f g [] = refl
summed_map f g (x ∷ xs) = ap (plus (f (g x))) (summed_map f g xs)

-- ---- sizes

pub plus_size : (a b : Counts) → sum_size (plus a b) ≡ sum_size a + sum_size b
plus_size a b = omega arith

pub sizes_summed : {A : Type 0} (f : A → Counts) (g : A → ℕ) → ((x : A) → sum_size (f x) ≡ g x) → (xs : List A) → sum_size (summed f xs) ≡ total g xs
sizes_summed f g e [] = omega arith
sizes_summed f g e (x ∷ xs) = joined (f x) (summed f xs) (g x) (total g xs) (e x) (sizes_summed f g e xs)
  where
    joined : (a b : Counts) (m n : ℕ) → sum_size a ≡ m → sum_size b ≡ n → sum_size (plus a b) ≡ m + n
    joined a b m n p q = omega (arith, p, q)

-- ---- what counts has a size

small_by : (l : Line) (i : Instruction) → IsSmall (counts_by l i)
small_by l SequencePoint = omega arith
small_by l (Return vs) = omega arith
small_by l (Call t args) = omega arith
small_by l (ReturnCall t args) = omega arith
small_by l (TryCall t sig args normal table) = omega arith
small_by l (Plain x) = omega arith
small_by l (Branches x) = omega arith

pub line_small : (l : Line) → IsSmall (line_counts l)
line_small l = small_by l l.inst

pub plus_small : (a b : Counts) → IsSmall a → IsSmall b → IsSmall (plus a b)
plus_small a b h k = omega (arith, h, k)

pub summed_small : {A : Type 0} (f : A → Counts) → ((x : A) → IsSmall (f x)) → (xs : List A) → IsSmall (summed f xs)
summed_small f h [] = omega arith
summed_small f h (x ∷ xs) = plus_small (f x) (summed f xs) (h x) (summed_small f h xs)

pub of_size_small : (n : ℕ) → IsSmall (of_size n)
of_size_small n = omega arith

pub at_small : (bs : List Block) (n : ℕ) → IsSmall (counts_at bs n)
at_small bs n = plus_small (of_size (1 + length (params_of n bs))) (summed line_counts (lines_of n bs)) (of_size_small (1 + length (params_of n bs))) (summed_small line_counts line_small (lines_of n bs))

-- ---- blocks by their numbers

found_here : (bs : List Block) (b : Block) → Different (block_numbers bs) → (pre post : List Block) → bs ≡ pre ++ (b ∷ post) → counts_at bs b.number ≡ block_counts b
found_here bs b d pre post e = ap (λ z. counts_at z b.number) e ∙ go pre (subst (λ z. Different (block_numbers z)) e d)
  where
    in_behind : (pre : List Block) → In b.number (block_numbers (pre ++ (b ∷ post)))
    in_behind [] = inl refl
    in_behind (x ∷ pre) = inr (in_behind pre)

    go : (pre : List Block) → Different (block_numbers (pre ++ (b ∷ post))) → counts_at (pre ++ (b ∷ post)) b.number ≡ block_counts b
    go [] d = ap₂ (λ p q. plus (of_size (1 + length p)) (summed line_counts q)) (ap (λ c. if c then b.params else params_of b.number post) (eq-eqb b.number b.number refl)) (ap (λ c. if c then b.lines else lines_of b.number post) (eq-eqb b.number b.number refl))
    go (x ∷ pre) d =
        let other : x.number ≡ b.number → ⊥ = λ q. d.0 (subst (λ z. In z (block_numbers (pre ++ (b ∷ post)))) (sym q) (in_behind pre)) in
        ap₂ (λ p q. plus (of_size (1 + length p)) (summed line_counts q)) (ap (λ c. if c then x.params else params_of b.number (pre ++ (b ∷ post))) (ne_eqb x.number b.number other)) (ap (λ c. if c then x.lines else lines_of b.number (pre ++ (b ∷ post))) (ne_eqb x.number b.number other))
        ∙ go pre d.1

-- the counts by the numbers are those of the blocks
pub counts_by_number : (bs : List Block) → Different (block_numbers bs) → summed (counts_at bs) (block_numbers bs) ≡ summed block_counts bs
counts_by_number bs d = go [] bs refl
  where
    go : (pre post : List Block) → bs ≡ pre ++ post → summed (counts_at bs) (block_numbers post) ≡ summed block_counts post
    go pre [] e = refl
    go pre (b ∷ post) e = ap₂ plus (found_here bs b d pre post e) (go (pre ++ (b ∷ [])) post (e ∙ sym (append_assoc pre (b ∷ []) post)))

-- the sizes by the numbers
pub at_size : (bs : List Block) (n : ℕ) → sum_size (counts_at bs n) ≡ size_at bs n
at_size bs n =
    let e : sum_size (summed line_counts (lines_of n bs)) ≡ total line_size (lines_of n bs) = sizes_summed line_counts line_size (λ l. whole l l.inst refl) (lines_of n bs) in
    joined (length (params_of n bs)) (summed line_counts (lines_of n bs)) (total line_size (lines_of n bs)) e
  where
    joined : (k : ℕ) (c : Counts) (m : ℕ) → sum_size c ≡ m → sum_size (plus (of_size (1 + k)) c) ≡ (1 + k) + m
    joined k c m e = omega (arith, e)

-- counts so far, those of a block and those of what is left: no more than those of all, as sizes
pub all_size : (bs : List Block) → Different (block_numbers bs) → sum_size (summed (counts_at bs) (block_numbers bs)) ≡ total block_size bs
all_size bs d = sizes_summed (counts_at bs) (size_at bs) (at_size bs) (block_numbers bs) ∙ total_numbers bs d

-- a block with those before it has no greater size than all
pub part_of_all : (bs : List Block) → Different (block_numbers bs) → (c : Counts) (left next : List ℕ) (n : ℕ) → plus c (summed (counts_at bs) left) ≡ summed (counts_at bs) (block_numbers bs) → left ≡ n ∷ next → sum_size c + size_at bs n ≤ total block_size bs
part_of_all bs d c left next n e g =
    let a : sum_size (plus c (plus (counts_at bs n) (summed (counts_at bs) next))) ≡ sum_size (summed (counts_at bs) (block_numbers bs)) = ap sum_size (ap (λ (z : List ℕ). plus c (summed (counts_at bs) z)) (sym g) ∙ e) in
    joined c (counts_at bs n) (summed (counts_at bs) next) (sum_size (summed (counts_at bs) (block_numbers bs))) (size_at bs n) (total block_size bs) a (all_size bs d) (at_size bs n)
  where
    joined : (x y z : Counts) (m k t : ℕ) → sum_size (plus x (plus y z)) ≡ m → m ≡ t → sum_size y ≡ k → sum_size x + k ≤ t
    joined x y z m k t e f g = omega (arith, e, f, g)

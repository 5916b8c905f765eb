-- How many numbers blocks take: one for each block, each of its parameters, each line and each of its results. They are
-- no more than the size.
use Rattle.std.proofs.Common.{◌≡◌, ℕ, zero, suc, ◌+◌, ◌≤◌, ◌<◌, List, [], ◌∷◌, ◌++◌, length, map, get_or, take, drop}
use Rattle.std.proofs.Common.{Some, Bool, true, false, ap, arith, length-append}
use Rattle.std.specs.Prelude.{if◌then◌else◌, slice_get}
use Rattle.std.proofs.lemmas.List.{length-map}
use Rattle.std.proofs.lemmas.Option.{slice_get_within, slice_get-get_or}
use Rattle.ir_core.specs.Lookup.{definitions, line_definitions}
use Rattle.ir_core.specs.Module.{Line, Block, Function}
use Rattle.ir_core.specs.Size.{total, line_size, block_size, sig_size}
use Rattle.ir_core.specs.Sound.{instruction_count}
use Rattle.ir_core.specs.WellFormed.{WellFormed, declared}
use Rattle.ir_core.proofs.Counting.{subset_length}
use Rattle.ir_core.proofs.Gets.{some_same}
use Rattle.ir_semantics.specs.Import.{sigs_after, callees_after}
use Rattle.ir_semantics.specs.Renaming.{Renaming, line_under, block_under}
use Rattle.inline_body.specs.Results.{is_tail_call, tail_calls, tail_calls_in}
use Rattle.inline_ends.specs.Tried.{is_plain_call, plain_calls, plain_calls_in}
use Rattle.inline_outcomes.proofs.Merging.{own_sig, own_callee}
use Rattle.inline_acceptance.proofs.KeptSizes.{total_map}

abbrev pub line_count : Line → ℕ
line_count l = 1 + length l.results

abbrev pub block_count : Block → ℕ
block_count b = (1 + length b.params) + total line_count b.lines

-- ---- sums

total_within : {A : Type 0} (f g : A → ℕ) → ((a : A) → f a ≤ g a) → (xs : List A) → total f xs ≤ total g xs
total_within f g h [] = omega arith
total_within f g h (x ∷ xs) = omega (arith, h x, total_within f g h xs)

-- each one counts
length_within : {A : Type 0} (f : A → ℕ) → ((a : A) → 1 ≤ f a) → (xs : List A) → length xs ≤ total f xs
length_within f h [] = omega arith
length_within f h (x ∷ xs) = omega (arith, h x, length_within f h xs)

-- what stands before a place, there and behind it
pub total_cut : {A : Type 0} (f : A → ℕ) (xs : List A) (i : ℕ) (x : A) → slice_get xs i ≡ Some x
    → total f xs ≡ total f (take i xs) + f x + total f (drop (suc i) xs)
total_cut f [] i x h = cc
total_cut f (y ∷ xs) zero x h = let e = ap f (some_same h) in omega (arith, e)
total_cut f (y ∷ xs) (suc i) x h = let e = total_cut f xs i x h in omega (arith, e)

-- ---- numbers and sizes

counted_lines : (ls : List Line) → total line_count ls ≡ length ls + length (line_definitions ls)
counted_lines [] = omega arith
counted_lines (l ∷ ls) = omega (arith, counted_lines ls, length-append l.results (line_definitions ls))

pub counted : (bs : List Block) → total block_count bs ≡ length bs + instruction_count bs + length (definitions bs)
counted [] = omega arith
counted (b ∷ bs) =
    let behind = length-append (line_definitions b.lines) (definitions bs) in
    let all = length-append b.params (line_definitions b.lines ++ definitions bs) in
    omega (arith, counted bs, counted_lines b.lines, behind, all)

lines_sized : (ls : List Line) → total line_count ls ≤ total line_size ls
lines_sized ls = total_within line_count line_size (λ l. omega arith) ls

pub blocks_sized : (bs : List Block) → total block_count bs ≤ total block_size bs
blocks_sized bs = total_within block_count block_size (λ b. omega (arith, lines_sized b.lines)) bs

pub sigs_sized : (f : Function) → length f.sigs ≤ total sig_size f.sigs
sigs_sized f = length_within sig_size (λ s. omega arith) f.sigs

-- each declared value is defined
pub types_counted : (f : Function) → WellFormed f → length f.types ≤ length (definitions f.blocks)
types_counted f w =
    let few = subset_length (declared f) (definitions f.blocks) w.declared_once w.defined in
    omega (arith, few, length-map f.types (λ x. x.0))

-- ---- calls among lines

tail_calls_few : (ls : List Line) → tail_calls ls ≤ length ls
tail_calls_few [] = omega arith
tail_calls_few (l ∷ ls) = by (is_tail_call l.inst) (tail_calls_few ls)
  where
    by : (b : Bool) → tail_calls ls ≤ length ls → (if b then 1 else 0) + tail_calls ls ≤ suc (length ls)
    by true h = omega (arith, h)
    by false h = omega (arith, h)

pub tail_calls_counted : (bs : List Block) → tail_calls_in bs ≤ instruction_count bs
tail_calls_counted [] = omega arith
tail_calls_counted (b ∷ bs) = omega (arith, tail_calls_few b.lines, tail_calls_counted bs)

plain_calls_few : (ls : List Line) → plain_calls ls ≤ length ls
plain_calls_few [] = omega arith
plain_calls_few (l ∷ ls) = by (is_plain_call l.inst) (plain_calls_few ls)
  where
    by : (b : Bool) → plain_calls ls ≤ length ls → (if b then 1 else 0) + plain_calls ls ≤ suc (length ls)
    by true h = omega (arith, h)
    by false h = omega (arith, h)

pub plain_calls_counted : (bs : List Block) → plain_calls_in bs ≤ instruction_count bs
plain_calls_counted [] = omega arith
plain_calls_counted (b ∷ bs) = omega (arith, plain_calls_few b.lines, plain_calls_counted bs)

-- ---- under other numbers

pub lines_under : (r : Renaming) (ls : List Line) → total line_count (map (line_under r) ls) ≡ total line_count ls
lines_under r ls = total_map (line_under r) line_count line_count (λ l. omega (arith, length-map l.results r.value)) ls

pub block_same : (r : Renaming) (b : Block) → block_count (block_under r b) ≡ block_count b
block_same r b = omega (arith, length-map b.params r.value, lines_under r b.lines)

pub blocks_under : (r : Renaming) (bs : List Block) → total block_count (map (block_under r) bs) ≡ total block_count bs
blocks_under r bs = total_map (block_under r) block_count block_count (block_same r) bs

-- ---- declarations of both functions

stays_longer : {A : Type 0} (ys zs : List A) → ((k : ℕ) (a : A) → slice_get ys k ≡ Some a → slice_get zs k ≡ Some a)
    → length ys ≤ length zs
stays_longer [] zs h = omega arith
stays_longer (y ∷ ys) zs h =
    let last = get_or (y ∷ ys) (length ys) y in
    let low : length ys < length (y ∷ ys) = omega arith in
    let there = h (length ys) last (slice_get-get_or (y ∷ ys) (length ys) y low) in
    omega (arith, slice_get_within zs (length ys) last there)

pub sigs_longer : (f g : Function) → length f.sigs ≤ length (sigs_after f g)
sigs_longer f g = stays_longer f.sigs (sigs_after f g) (own_sig f g)

pub callees_longer : (f g : Function) → length f.callees ≤ length (callees_after f g)
callees_longer f g = stays_longer f.callees (callees_after f g) (own_callee f g)

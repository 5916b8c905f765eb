-- The rows of the table of operations, as the code's choice of an operation meets them.
use Rattle.std.proofs.Common.{◌≡◌, ◌≤◌, ◌<◌, Bool, true, false, cond, refl, sym, ◌∙◌, ap, subst, arith, Option, Some, None, List, [], ◌∷◌, length, get_or, ltb}
use Rattle.std.specs.Prelude.{IsSome, is_some}
use Rattle.std.proofs.Common.{◌&&◌}
use Rattle.std.proofs.lemmas.Bool.{false≢true}
use Rattle.std.proofs.lemmas.Bool.Decides.{nat_tests}
use Rattle.clk_num.specs.declared.op.Op.{Op}
use Rattle.clk_num.specs.declared.op.Op.TheVariants.{Iadd, Isub, Imul, Band, Bor, Bxor, Smin, Smax, Umin, Umax, Umulhi, Smulhi, Udiv, Urem, Sdiv, Srem, Ineg, Bnot, Iabs, Clz, Ctz, Popcnt, Bitrev, Bswap, Ishl, Ushr, Sshr, Rotl, Rotr, Icmp, Select, Uextend, Sextend, Ireduce, UaddOverflow, SaddOverflow, UsubOverflow, SsubOverflow, Iconcat, Isplit}
use Rattle.clk_num.specs.declared.width.Width.{Width}
use Rattle.clk_num.specs.declared.width.Width.TheVariants.{W8, W16, W32, W64, W128}
use Rattle.clk_num.specs.Width.{bits_of, same}
use Rattle.clk_num.specs.Rows.{Fits, row, of_one, of_two, any, up_to_64, from_16}
use Rattle.clk_num.specs.Operations.{DataValue, Evaluation, Values, widths, within, operation, meaning}

-- two types of one width are one
pub same_width : (t u : Width) → same t u ≡ true → t ≡ u
same_width W8 W8 h = refl
same_width W8 W16 h = absurd (false≢true h)
same_width W8 W32 h = absurd (false≢true h)
same_width W8 W64 h = absurd (false≢true h)
same_width W8 W128 h = absurd (false≢true h)
same_width W16 W8 h = absurd (false≢true h)
same_width W16 W16 h = refl
same_width W16 W32 h = absurd (false≢true h)
same_width W16 W64 h = absurd (false≢true h)
same_width W16 W128 h = absurd (false≢true h)
same_width W32 W8 h = absurd (false≢true h)
same_width W32 W16 h = absurd (false≢true h)
same_width W32 W32 h = refl
same_width W32 W64 h = absurd (false≢true h)
same_width W32 W128 h = absurd (false≢true h)
same_width W64 W8 h = absurd (false≢true h)
same_width W64 W16 h = absurd (false≢true h)
same_width W64 W32 h = absurd (false≢true h)
same_width W64 W64 h = refl
same_width W64 W128 h = absurd (false≢true h)
same_width W128 W8 h = absurd (false≢true h)
same_width W128 W16 h = absurd (false≢true h)
same_width W128 W32 h = absurd (false≢true h)
same_width W128 W64 h = absurd (false≢true h)
same_width W128 W128 h = refl

-- what a row of two asks
pub fits_two : (has : Width → Bool) (results : Width → List Width) (t u : Width) → IsSome (of_two has results (t ∷ u ∷ []))
    → (t ≡ u) × (has t ≡ true)
fits_two has results t u h = go (same t u) (has t) refl refl h
  where
    go : (a b : Bool) → same t u ≡ a → has t ≡ b → IsSome (cond a (cond b (Some (results t)) None) None) → (t ≡ u) × (has t ≡ true)
    go true true e d h = (same_width t u e, d)
    go true false e d h = absurd (false≢true h)
    go false b e d h = absurd (false≢true h)

-- what a row of one asks
pub fits_one : (has : Width → Bool) (results : Width → List Width) (t : Width) → IsSome (of_one has results (t ∷ [])) → has t ≡ true
fits_one has results t h = go (has t) refl h
  where
    go : (b : Bool) → has t ≡ b → IsSome (cond b (Some (results t)) None) → has t ≡ true
    go true d h = d
    go false d h = absurd (false≢true h)

pub narrow_is : (t : Width) → up_to_64 t ≡ true → bits_of t ≤ 64
narrow_is t h = grind (arith, nat_tests)

pub wide_is : (t : Width) → from_16 t ≡ true → 16 ≤ bits_of t
wide_is t h = grind (arith, nat_tests)

pub narrower_is : (t u : Width) → ltb (bits_of t) (bits_of u) ≡ true → bits_of t < bits_of u
narrower_is t u h = grind (arith, nat_tests)

-- ---- the opcode that is given

pub fits_at : (op known : Op) (ts : List Width) → op ≡ known → Fits op ts → Fits known ts
fits_at op known ts e h = subst (λ (op : Op). Fits op ts) e h

pub means : (op known : Op) (xs : List DataValue) (e : Evaluation) → op ≡ known → e ≡ meaning known xs → e ≡ meaning op xs
means op known xs e d h = h ∙ ap (λ (op : Op). meaning op xs) (sym d)

pub single : (v u : DataValue) → v ≡ u → Values (v ∷ []) ≡ Values (u ∷ [])
single v u e = ap (λ (v : DataValue). Values (v ∷ [])) e

pub pair : (v u w x : DataValue) → v ≡ u → w ≡ x → Values (v ∷ w ∷ []) ≡ Values (u ∷ x ∷ [])
pair v u w x e d = cc

-- ---- which opcodes have a row of how many operands

abbrev pub is_unary : Op → Bool
is_unary Ineg = true
is_unary Bnot = true
is_unary Iabs = true
is_unary Clz = true
is_unary Ctz = true
is_unary Popcnt = true
is_unary Bitrev = true
is_unary Bswap = true
is_unary (Uextend target) = true
is_unary (Sextend target) = true
is_unary (Ireduce target) = true
is_unary Isplit = true
is_unary _ = false

abbrev pub is_binary : Op → Bool
is_binary Iadd = true
is_binary Isub = true
is_binary Imul = true
is_binary Band = true
is_binary Bor = true
is_binary Bxor = true
is_binary Smin = true
is_binary Smax = true
is_binary Umin = true
is_binary Umax = true
is_binary Umulhi = true
is_binary Smulhi = true
is_binary Udiv = true
is_binary Urem = true
is_binary Sdiv = true
is_binary Srem = true
is_binary Ishl = true
is_binary Ushr = true
is_binary Sshr = true
is_binary Rotl = true
is_binary Rotr = true
is_binary (Icmp condition) = true
is_binary UaddOverflow = true
is_binary SaddOverflow = true
is_binary UsubOverflow = true
is_binary SsubOverflow = true
is_binary Iconcat = true
is_binary _ = false

unary_row : (op : Op) (t : Width) → Fits op (t ∷ []) → is_unary op ≡ true
unfolding row
unary_row Ineg t h = refl
unary_row Bnot t h = refl
unary_row Iabs t h = refl
unary_row Clz t h = refl
unary_row Ctz t h = refl
unary_row Popcnt t h = refl
unary_row Bitrev t h = refl
unary_row Bswap t h = refl
unary_row (Uextend target) t h = refl
unary_row (Sextend target) t h = refl
unary_row (Ireduce target) t h = refl
unary_row Isplit t h = refl
unary_row _ t h = absurd (false≢true h)

binary_row : (op : Op) (t u : Width) → Fits op (t ∷ u ∷ []) → is_binary op ≡ true
unfolding row
binary_row Iadd t u h = refl
binary_row Isub t u h = refl
binary_row Imul t u h = refl
binary_row Band t u h = refl
binary_row Bor t u h = refl
binary_row Bxor t u h = refl
binary_row Smin t u h = refl
binary_row Smax t u h = refl
binary_row Umin t u h = refl
binary_row Umax t u h = refl
binary_row Umulhi t u h = refl
binary_row Smulhi t u h = refl
binary_row Udiv t u h = refl
binary_row Urem t u h = refl
binary_row Sdiv t u h = refl
binary_row Srem t u h = refl
binary_row Ishl t u h = refl
binary_row Ushr t u h = refl
binary_row Sshr t u h = refl
binary_row Rotl t u h = refl
binary_row Rotr t u h = refl
binary_row (Icmp condition) t u h = refl
binary_row UaddOverflow t u h = refl
binary_row SaddOverflow t u h = refl
binary_row UsubOverflow t u h = refl
binary_row SsubOverflow t u h = refl
binary_row Iconcat t u h = refl
binary_row _ t u h = absurd (false≢true h)

pub unary_arm : (op : Op) (t : Width) → Fits op (t ∷ []) → ((o : Op) → is_unary o ≡ true → op ≡ o → ⊥) → ⊥
unary_arm op t h none = none op (unary_row op t h) refl

pub binary_arm : (op : Op) (t u : Width) → Fits op (t ∷ u ∷ []) → ((o : Op) → is_binary o ≡ true → op ≡ o → ⊥) → ⊥
binary_arm op t u h none = none op (binary_row op t u h) refl

-- three operands are those of a choice
pub ternary_row : (op : Op) (c t u : Width) → Fits op (c ∷ t ∷ u ∷ []) → (op ≡ Select) × (t ≡ u)
unfolding row
ternary_row Select c t u h = (refl, go (same t u) refl h)
  where
    go : (b : Bool) → same t u ≡ b → IsSome (cond b (Some (t ∷ [])) None) → t ≡ u
    go true e h = same_width t u e
    go false e h = absurd (false≢true h)
ternary_row _ c t u h = absurd (false≢true h)

-- no row has none, or four or more
empty_row : (op : Op) → Fits op [] → ⊥
unfolding row
empty_row Iadd h = false≢true h
empty_row _ h = false≢true h

long_row : (op : Op) (c t u v : Width) (ts : List Width) → Fits op (c ∷ t ∷ u ∷ v ∷ ts) → ⊥
unfolding row
long_row Iadd c t u v ts h = false≢true h
long_row _ c t u v ts h = false≢true h

pub count_of : (op : Op) (xs : List DataValue) → Fits op (widths xs) → (1 ≤ length xs) × (length xs ≤ 3)
count_of op [] h = absurd (empty_row op h)
count_of op (x ∷ []) h = (omega arith, omega arith)
count_of op (x ∷ y ∷ []) h = (omega arith, omega arith)
count_of op (x ∷ y ∷ z ∷ []) h = (omega arith, omega arith)
count_of op (x ∷ y ∷ z ∷ w ∷ xs) h = absurd (long_row op _ _ _ _ _ h)

-- on operands of its row an operation is its meaning
pub operation_is : (op : Op) (xs : List DataValue) → Fits op (widths xs) → operation op xs ≡ meaning op xs
unfolding operation
operation_is op xs h = go (row op (widths xs)) h
  where
    go : (o : Option (List Width)) → IsSome o → within o (meaning op xs) ≡ meaning op xs
    go None h = absurd (false≢true h)
    go (Some ts) h = refl

-- ---- the code's lists of one, two and three

pub list_of_one : {A : Type 0} (xs : List A) (a : A) → 1 ≤ length xs → length xs < 2 → a ≡ get_or xs 0 a → xs ≡ a ∷ []
list_of_one [] a h k e = absurd (omega arith)
list_of_one {A} (x ∷ []) a h k e = ap (λ (x : A). x ∷ []) (sym e)
list_of_one (x ∷ y ∷ xs) a h k e = absurd (omega arith)

pub list_of_two : {A : Type 0} (xs : List A) (a b : A) → 2 ≤ length xs → length xs < 3 → a ≡ get_or xs 0 a → b ≡ get_or xs 1 b → xs ≡ a ∷ b ∷ []
list_of_two [] a b h k e d = absurd (omega arith)
list_of_two (x ∷ []) a b h k e d = absurd (omega arith)
list_of_two (x ∷ y ∷ []) a b h k e d = cc
list_of_two (x ∷ y ∷ z ∷ xs) a b h k e d = absurd (omega arith)

pub list_of_three : {A : Type 0} (xs : List A) (a b c : A) → 3 ≤ length xs → length xs < 4 → a ≡ get_or xs 0 a → b ≡ get_or xs 1 b → c ≡ get_or xs 2 c
    → xs ≡ a ∷ b ∷ c ∷ []
list_of_three [] a b c h k e d f = absurd (omega arith)
list_of_three (x ∷ []) a b c h k e d f = absurd (omega arith)
list_of_three (x ∷ y ∷ []) a b c h k e d f = absurd (omega arith)
list_of_three (x ∷ y ∷ z ∷ []) a b c h k e d f = cc
list_of_three (x ∷ y ∷ z ∷ w ∷ xs) a b c h k e d f = absurd (omega arith)

-- ---- the code's test of the operands

pub row_at : (op known : Op) (ts : List Width) (b : Bool) → op ≡ known → b ≡ is_some (row known ts) → b ≡ is_some (row op ts)
row_at op known ts b e h = h ∙ ap (λ (op : Op). is_some (row op ts)) (sym e)

pub one_has : (has : Width → Bool) (results : Width → List Width) (t : Width) (b : Bool) → b ≡ has t → b ≡ is_some (of_one has results (t ∷ []))
one_has has results t b e = e ∙ go (has t)
  where
    go : (b : Bool) → b ≡ is_some {T = List Width} (cond b (Some (results t)) None)
    go true = refl
    go false = refl

pub two_have : (results : Width → List Width) (t u : Width) (b : Bool) → b ≡ same t u → b ≡ is_some (of_two any results (t ∷ u ∷ []))
two_have results t u b e = e ∙ go (same t u)
  where
    go : (b : Bool) → b ≡ is_some {T = List Width} (cond b (Some (results t)) None)
    go true = refl
    go false = refl

pub two_narrow_have : (results : Width → List Width) (t u : Width) (b : Bool) → b ≡ (same t u && up_to_64 t)
    → b ≡ is_some (of_two up_to_64 results (t ∷ u ∷ []))
two_narrow_have results t u b e = e ∙ go (same t u) (up_to_64 t)
  where
    go : (a b : Bool) → (a && b) ≡ is_some {T = List Width} (cond a (cond b (Some (results t)) None) None)
    go true true = refl
    go true false = refl
    go false b = refl

pub three_have : (t u : Width) (b : Bool) → b ≡ same t u → b ≡ is_some {T = List Width} (cond (same t u) (Some (t ∷ [])) None)
three_have t u b e = e ∙ go (same t u)
  where
    go : (b : Bool) → b ≡ is_some {T = List Width} (cond b (Some (t ∷ [])) None)
    go true = refl
    go false = refl

-- where the opcode has no such row
pub without_row : (op : Op) (ts : List Width) → (Fits op ts → ⊥) → false ≡ is_some (row op ts)
without_row op ts none = go (is_some (row op ts)) refl
  where
    go : (b : Bool) → is_some (row op ts) ≡ b → false ≡ is_some (row op ts)
    go true e = absurd (none e)
    go false e = sym e

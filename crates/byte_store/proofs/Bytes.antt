-- Numbers and their bytes, in memory and in slots.
use Rattle.std.proofs.Common.{◌≡◌, ℕ, zero, suc, ◌+◌, ◌*◌, ◌^◌, ◌/◌, ◌%◌, ◌-◌, ◌<◌, ◌≤◌, List, [], ◌∷◌, ◌++◌, length, take, drop, reverse, get_or, set, refl, arith, ap, ◌∙◌, sym, subst, append_assoc, append-nil, pow_mono, Option, Some, None, if◌then◌else◌, Bool, true, false, drop-cons, sub-one, add-one, length-drop, pow-add, Fits, w8, inl, inr}
use Rattle.std.proofs.lemmas.List.{take_more_set, get_or-drop, get_or-reverse, length-reverse, get_or_past, drop-drop, drop_all, take_all, length-take-le, length-append, length-set}
use Rattle.std.proofs.lemmas.Bool.{le-leb, lt-leb, cases_lt}
use Rattle.std.proofs.Math.Seq.{drop-length, take-length}
use Rattle.std.proofs.Math.Facts.{Fits-of_lt}
use Rattle.ir_semantics.specs.Values.{cons_some, join, number_of, bytes_of, bytes_from, by_endian, memory_read, memory_write, put_byte, put_bytes, Slots}
use Rattle.byte_store.specs.Bytes.{number_at, number_by}

pub number_cons : (b : ℕ) (bs : List ℕ) → number_of (b ∷ bs) ≡ b + 256 * number_of bs
unfolding number_of
number_cons b bs = refl

pub number_none : number_of [] ≡ 0
unfolding number_of
number_none = refl

pub bytes_none : (x : ℕ) → bytes_of 0 x ≡ []
unfolding bytes_of
bytes_none x = refl

pub bytes_length : (n x : ℕ) → length (bytes_of n x) ≡ n
unfolding bytes_of
bytes_length zero x = refl
bytes_length (suc n) x = ap suc (bytes_length n (x / 256))

pub bytes_next : (n x : ℕ) → 0 < n → bytes_of n x ≡ (x % 256) ∷ bytes_of (n - 1) (x / 256)
unfolding bytes_of
bytes_next zero x h = absurd (omega arith)
bytes_next (suc n) x h = let e : suc n - 1 ≡ n = omega arith in ap (λ k. (x % 256) ∷ bytes_of k (x / 256)) (sym e)

-- ---- in memory

pub endian_length : (big : Bool) (bs : List ℕ) → length (by_endian big bs) ≡ length bs
endian_length true bs = length-reverse bs
endian_length false bs = refl

pub read_out : (m : List ℕ) (a n : ℕ) → length m < a + n → None ≡ memory_read m a n
unfolding memory_read
read_out m a n h = sym (ap (λ c. if c then Some (take n (drop a m)) else None) (lt-leb (a + n) (length m) h))

pub read_in : (big : Bool) (m : List ℕ) (a n : ℕ) → a + n ≤ length m → Some (number_of (by_endian big (take n (drop a m)))) ≡ number_by big (memory_read m a n)
unfolding memory_read
read_in big m a n h = sym (ap (λ c. number_by big (if c then Some (take n (drop a m)) else None)) (le-leb (a + n) (length m) h))

pub write_out : (m : List ℕ) (a n : ℕ) (bs : List ℕ) → length bs ≡ n → length m < a + n → None ≡ memory_write m a bs
unfolding memory_write
write_out m a n bs e h = let lt : length m < a + length bs = omega arith in sym (ap (λ c. if c then Some (take a m ++ (bs ++ drop (a + length bs) m)) else None) (lt-leb (a + length bs) (length m) lt))

pub write_in : (m : List ℕ) (a n : ℕ) (bs : List ℕ) → length bs ≡ n → a + n ≤ length m → Some (take a m ++ (bs ++ drop (a + n) m)) ≡ memory_write m a bs
unfolding memory_write
write_in m a n bs e h =
    let le : a + length bs ≤ length m = omega arith in
    ap (λ k. Some (take a m ++ (bs ++ drop (a + k) m))) (sym e) ∙ sym (ap (λ c. if c then Some (take a m ++ (bs ++ drop (a + length bs) m)) else None) (le-leb (a + length bs) (length m) le))

number_below : (bs : List ℕ) → ((k : ℕ) → Fits w8 (get_or bs k 0)) → number_of bs < 2 ^ (8 * length bs)
number_below [] s = rw number_none (omega arith)
number_below (b ∷ bs) s =
    let h : number_of bs < 2 ^ (8 * length bs) = number_below bs (λ k. s (suc k)) in
    let hb : Fits w8 b = s 0 in
    let hc : b < 256 = omega arith in
    let e : 8 * length (b ∷ bs) ≡ 8 * length bs + 8 = omega arith in
    let p : 2 ^ (8 * length bs + 8) ≡ 2 ^ (8 * length bs) * 256 = pow-add 2 (8 * length bs) 8 in
    rw (number_cons b bs, e, p) (omega arith)

number_fits : (bs : List ℕ) → ((k : ℕ) → Fits w8 (get_or bs k 0)) → length bs ≤ 16 → (i : ℕ) → number_of (drop i bs) < 2 ^ 128
number_fits bs s h i =
    let e : length (drop i bs) ≡ length bs - i = length-drop i bs in
    let below : number_of (drop i bs) < 2 ^ (8 * length (drop i bs)) = number_below (drop i bs) (λ k. rw (get_or-drop i bs k 0) (s (i + k))) in
    let more : 2 ^ (8 * length (drop i bs)) ≤ 2 ^ 128 = pow_mono {i = 8 * length (drop i bs)} {j = 128} (let le : 8 * length (drop i bs) ≤ 128 = omega arith in le) in
    omega arith

number_step : (bs : List ℕ) (i : ℕ) → 0 < i → i ≤ length bs → number_of (drop (i - 1) bs) ≡ get_or bs (i - 1) 0 + 256 * number_of (drop i bs)
number_step bs zero p h = absurd (omega arith)
number_step bs (suc i) p h = rw (sub-one (suc i), drop-cons bs i 0 h, number_cons (get_or bs i 0) (drop (suc i) bs)) refl

none_fits : (x : ℕ) → x ≡ 0 → Fits w8 x
none_fits x e = let lt : x < 2 ^ 8 = omega arith in Fits-of_lt {w = w8} lt

reversed_fits : (bs : List ℕ) → ((k : ℕ) → Fits w8 (get_or bs k 0)) → (k : ℕ) → Fits w8 (get_or (reverse bs) k 0)
reversed_fits bs s k =
    elim (cases_lt k (length bs)) [
      | inl h ↦ subst (λ x. Fits w8 x) (sym (get_or-reverse bs k 0 h)) (s (length bs - 1 - k))
      | inr h ↦ let le : length (reverse bs) ≤ k = rw (length-reverse bs) h in none_fits (get_or (reverse bs) k 0) (get_or_past (reverse bs) k 0 le)
    ]

endian_fits : (big : Bool) (bs : List ℕ) → ((k : ℕ) → Fits w8 (get_or bs k 0)) → (k : ℕ) → Fits w8 (get_or (by_endian big bs) k 0)
endian_fits true bs s = reversed_fits bs s
endian_fits false bs s = s

endian_at : (big : Bool) (bs : List ℕ) (i : ℕ) → i < length bs → get_or (by_endian big bs) (length bs - i - 1) 0 ≡ get_or bs (if big then i else length bs - 1 - i) 0
endian_at true bs i h =
    let lt : length bs - i - 1 < length bs = omega arith in
    let e : length bs - 1 - (length bs - i - 1) ≡ i = omega arith in
    get_or-reverse bs (length bs - i - 1) 0 lt ∙ ap (λ k. get_or bs k 0) e
endian_at false bs i h = let e : length bs - i - 1 ≡ length bs - 1 - i = omega arith in ap (λ k. get_or bs k 0) e

pub number_small : (big : Bool) (bs : List ℕ) (n : ℕ) → ((k : ℕ) → Fits w8 (get_or bs k 0)) → n ≡ number_of (by_endian big bs) → n < 2 ^ (8 * length bs)
number_small big bs n s e =
    let below : number_of (by_endian big bs) < 2 ^ (8 * length (by_endian big bs)) = number_below (by_endian big bs) (endian_fits big bs s) in
    rw e (subst (λ k. number_of (by_endian big bs) < 2 ^ (8 * k)) (endian_length big bs) below)

-- the number of the bytes but the i highest ones, and of one more
pub higher_fits : (big : Bool) (bs : List ℕ) (i : ℕ) → ((k : ℕ) → Fits w8 (get_or bs k 0)) → length bs ≤ 16 → number_of (drop (length bs - i) (by_endian big bs)) < 2 ^ 128
higher_fits big bs i s h = number_fits (by_endian big bs) (endian_fits big bs s) (let le : length (by_endian big bs) ≤ 16 = rw (endian_length big bs) h in le) (length bs - i)

pub higher_next : (big : Bool) (bs : List ℕ) (i : ℕ) → i < length bs → number_of (drop (length bs - (i + 1)) (by_endian big bs)) ≡ get_or bs (if big then i else length bs - 1 - i) 0 + 256 * number_of (drop (length bs - i) (by_endian big bs))
higher_next big bs i h =
    let p : 0 < length bs - i = omega arith in
    let le : length bs - i ≤ length (by_endian big bs) = rw (endian_length big bs) (omega arith) in
    let e : length bs - (i + 1) ≡ length bs - i - 1 = omega arith in
    ap (λ k. number_of (drop k (by_endian big bs))) e ∙ (number_step (by_endian big bs) (length bs - i) p le ∙ ap (λ b. b + 256 * number_of (drop (length bs - i) (by_endian big bs))) (endian_at big bs i h))

pub higher_none : (big : Bool) (bs : List ℕ) → number_of (drop (length bs - 0) (by_endian big bs)) ≡ 0
higher_none big bs =
    let e : length bs - 0 ≡ length (by_endian big bs) = rw (endian_length big bs) (omega arith) in
    ap (λ k. number_of (drop k (by_endian big bs))) e ∙ (ap number_of (drop-length (by_endian big bs)) ∙ number_none)

pub higher_all : (big : Bool) (bs : List ℕ) (i : ℕ) → i ≡ length bs → number_of (drop (length bs - i) (by_endian big bs)) ≡ number_of (by_endian big bs)
higher_all big bs i e = let z : length bs - i ≡ 0 = omega arith in ap (λ k. number_of (drop k (by_endian big bs))) z

-- a range filled up to a place, and one byte more
pub fill_next : (r : List ℕ) (i x : ℕ) → i < length r → take (i + 1) (set r i (x % 256)) ++ bytes_of (length r - (i + 1)) (x / 256) ≡ take i r ++ bytes_of (length r - i) x
fill_next r i x h =
    let p : 0 < length r - i = omega arith in
    let e : length r - i - 1 ≡ length r - (i + 1) = omega arith in
    rw (take_more_set r i (x % 256) h, bytes_next (length r - i) x p, e, append_assoc (take i r) (x % 256 ∷ []) (bytes_of (length r - (i + 1)) (x / 256))) refl

pub fill_end : (r : List ℕ) (i x : ℕ) → i ≡ length r → r ≡ take i r ++ bytes_of (length r - i) x
fill_end r i x e =
    let z : length r - i ≡ 0 = omega arith in
    rw (z, bytes_none x, append-nil (take i r), e) (sym (take-length r))

pub fill_step : (r : List ℕ) (i x number : ℕ) → i < length r → take i r ++ bytes_of (length r - i) x ≡ bytes_of (length r) number → take (i + 1) (set r i (x % 256)) ++ bytes_of (length (set r i (x % 256)) - (i + 1)) (x / 256) ≡ bytes_of (length (set r i (x % 256))) number
fill_step r i x number h inv = let e : length (set r i (x % 256)) ≡ length r = length-set r i (x % 256) in rw e (fill_next r i x h ∙ inv)

-- ---- in slots

pub from_next : (s : ℕ → Option ℕ) (o n b x : ℕ) → Some b ≡ s o → Some x ≡ number_at (bytes_from s (o + 1) n) → Some (b + 256 * x) ≡ number_at (bytes_from s o (n + 1))
from_next s o n b x eb ex =
    go (bytes_from s (suc o) n) (ex ∙ ap (λ k. number_at (bytes_from s k n)) (add-one o)) ∙ (ap (λ c. number_at (cons_some c (bytes_from s (suc o) n))) eb ∙ ap (λ k. number_at (bytes_from s o k)) (sym (add-one n)))
  where
    go : (r : Option (List ℕ)) → Some x ≡ number_at r → Some (b + 256 * x) ≡ number_at (cons_some (Some b) r)
    go None h = cc h
    go (Some bs) h = let e : x ≡ number_of bs = cc h in ap Some (ap (λ k. b + 256 * k) e ∙ sym (number_cons b bs))

pub from_start : (s : ℕ → Option ℕ) (o : ℕ) → Some 0 ≡ number_at (bytes_from s o 0)
from_start s o = ap Some (sym number_none)

cons_none : (o : Option ℕ) → cons_some o None ≡ None
cons_none None = refl
cons_none (Some b) = refl

pub from_lacks : (s : ℕ → Option ℕ) (o n k : ℕ) → k < n → None ≡ s (o + k) → None ≡ bytes_from s o n
from_lacks s o zero k h e = absurd (omega arith)
from_lacks s o (suc n) zero h e = let z : o + 0 ≡ o = omega arith in ap (λ c. cons_some c (bytes_from s (suc o) n)) (e ∙ ap s z)
from_lacks s o (suc n) (suc k) h e =
    let z : o + suc k ≡ suc o + k = omega arith in
    sym (cons_none (s o)) ∙ ap (cons_some (s o)) (from_lacks s (suc o) n k (omega arith) (e ∙ ap s z))

pub put_next : (s : Slots) (k o b : ℕ) (bs : List ℕ) → put_bytes (put_byte s k o b) k (o + 1) bs ≡ put_bytes s k o (b ∷ bs)
put_next s k o b bs = ap (λ n. put_bytes (put_byte s k o b) k n bs) (add-one o)

next_some : (out : List ℕ) (x : ℕ) (o : Option (List ℕ)) → join (Some out) (cons_some (Some x) o) ≡ join (Some (out ++ x ∷ [])) o
next_some out x None = refl
next_some out x (Some ys) = ap Some (sym (append_assoc out (x ∷ []) ys))

pub shown_next : (s : ℕ → Option ℕ) (i n b : ℕ) (out : List ℕ) → i < n → Some b ≡ s i → join (Some (out ++ b ∷ [])) (bytes_from s (i + 1) (n - (i + 1))) ≡ join (Some out) (bytes_from s i (n - i))
shown_next s i n b out h e =
    let z : n - i ≡ suc (n - (i + 1)) = omega arith in
    ap (λ k. join (Some (out ++ b ∷ [])) (bytes_from s k (n - (i + 1)))) (add-one i)
    ∙ (sym (next_some out b (bytes_from s (suc i) (n - (i + 1))))
    ∙ (ap (λ c. join (Some out) (cons_some c (bytes_from s (suc i) (n - (i + 1))))) e
    ∙ ap (λ k. join (Some out) (bytes_from s i k)) (sym z)))

pub below_next : (x b i : ℕ) → x < 2 ^ (8 * i) → b < 256 → x * 256 + b < 2 ^ (8 * (i + 1))
below_next x b i h hb =
    let e : 8 * (i + 1) ≡ 8 * i + 8 = omega arith in
    let p : 2 ^ (8 * i + 8) ≡ 2 ^ (8 * i) * 256 = pow-add 2 (8 * i) 8 in
    rw (e, p) (omega arith)

pub below_fits : (x i : ℕ) → x < 2 ^ (8 * i) → i ≤ 16 → x < 2 ^ 128
below_fits x i h le =
    let more : 2 ^ (8 * i) ≤ 2 ^ 128 = pow_mono {i = 8 * i} {j = 128} (let k : 8 * i ≤ 128 = omega arith in k) in
    omega arith

-- a memory of which a range was written
pub splice_back : (m r : List ℕ) (a n k : ℕ) → k ≡ length m → length r ≡ n → a + n ≤ length m → take k ((take a m ++ (r ++ drop (a + n - a) (drop a m))) ++ drop (length (take a m ++ (r ++ drop (a + n - a) (drop a m)))) m) ≡ take a m ++ (r ++ drop (a + n) m)
splice_back m r a n k ek er h =
    let e : a + n - a ≡ n = omega arith in
    let ed : drop (a + n - a) (drop a m) ≡ drop (a + n) m = rw e (drop-drop n a m) in
    rw ed (whole (take a m ++ (r ++ drop (a + n) m)) same)
  where
    same : length (take a m ++ (r ++ drop (a + n) m)) ≡ length m
    same =
        let lt : length (take a m) ≡ a = length-take-le a m (omega arith) in
        let ld : length (drop (a + n) m) ≡ length m - (a + n) = length-drop (a + n) m in
        rw (length-append (take a m) (r ++ drop (a + n) m), length-append r (drop (a + n) m), lt, ld, er) (omega arith)

    whole : (w : List ℕ) → length w ≡ length m → take k (w ++ drop (length w) m) ≡ w
    whole w e =
        let dr : drop (length w) m ≡ [] = drop_all (length w) m (omega arith) in
        rw (dr, append-nil w) (take_all k w (omega arith))

pub range_length : (m : List ℕ) (a n : ℕ) → a + n ≤ length m → length (take (a + n - a) (drop a m)) ≡ n
range_length m a n h =
    let e : a + n - a ≡ n = omega arith in
    let ld : length (drop a m) ≡ length m - a = length-drop a m in
    rw e (length-take-le n (drop a m) (omega arith))

-- the same as code finds it
pub splice_written : (m m' r bs : List ℕ) (a n k : ℕ) → m' ≡ m → r ≡ bs → k ≡ length m → length bs ≡ n → a + n ≤ length m → take k ((take a m' ++ (r ++ drop (a + n - a) (drop a m'))) ++ drop (length (take a m' ++ (r ++ drop (a + n - a) (drop a m')))) m) ≡ take a m ++ (bs ++ drop (a + n) m)
splice_written m m' r bs a n k em er ek en h = rw (em, er) (splice_back m bs a n k ek en h)

-- What the instructions of a frame read and write: values by their numbers, the bytes of the slots, of which some may
-- be unwritten, and the memory. Numbers stand in slots little-endian, and in memory little-endian or, with the flag
-- `big`, big-endian.
use Rattle.std.specs.Prelude.{ℕ, zero, suc, ◌+◌, ◌*◌, ◌/◌, ◌%◌, List, [], ◌∷◌, ◌++◌, length, reverse, take, drop}
use Rattle.std.specs.Prelude.{Option, Some, None, Bool, ◌&&◌, nat_eq, nat_le, if◌then◌else◌, slice_get, ℤ, pos, negsuc}
use Rattle.std.specs.Prelude.{◌+ℤ◌}
use Rattle.clk_num.specs.declared.width.Width.{Width}
use Rattle.clk_num.specs.declared.width.Width.TheVariants.{W8, W16, W32, W64, W128}
use Rattle.clk_num.specs.Width.{bits_of}
use Rattle.clk_num.specs.Numbers.{wrapped, fits}
use Rattle.clk_num.specs.Operations.{DataValue, sextend}
use Rattle.ir_core.specs.declared.signatures.Ty.{Ty}
use Rattle.ir_core.specs.declared.instructions.Access.{Access}
use Rattle.ir_core.specs.declared.instructions.Access.TheVariants.{Full, Uload, Sload}
use Rattle.ir_core.specs.Module.{Function}
use Rattle.ir_core.specs.Lookup.{and_then, width_of}

-- ---- parts that may be missing

abbrev pub cons_some : {A : Type 0} → Option A → Option (List A) → Option (List A)
cons_some None o = None
cons_some (Some x) None = None
cons_some (Some x) (Some xs) = Some (x ∷ xs)

-- what each element has, where all have it
abbrev pub all_of : {A B : Type 0} → (A → Option B) → List A → Option (List B)
all_of get [] = Some []
all_of get (a ∷ as') = cons_some (get a) (all_of get as')

abbrev pub join : {A : Type 0} → Option (List A) → Option (List A) → Option (List A)
join None o = None
join (Some xs) None = None
join (Some xs) (Some ys) = Some (xs ++ ys)

-- ---- values

-- the values of a frame, by their numbers
abbrev pub Env : Type 0
Env = ℕ → Option DataValue

abbrev pub no_values : Env
no_values v = None

abbrev pub put : Env → ℕ → DataValue → Env
put e v x w = if nat_eq w v then Some x else e w

-- each number gets its value, where there are as many
abbrev pub bind : List ℕ → List DataValue → Env → Option Env
bind [] [] e = Some e
bind (v ∷ vs) (x ∷ xs) e = bind vs xs (put e v x)
bind [] (x ∷ xs) e = None
bind (v ∷ vs) [] e = None

-- an i64
abbrev pub i64 : ℕ → DataValue
i64 n = record { width = W64; value = n }

-- a whole number as a value of a type, where it fits as signed or as unsigned
abbrev pub value_for : Ty → ℤ → Option DataValue
value_for t z =
    if fits (bits_of (width_of t)) z
    then Some (record { width = width_of t; value = wrapped (bits_of (width_of t)) z }) else None

-- whole numbers as values of the types, where there are as many and each fits
abbrev pub values_for : List Ty → List ℤ → Option (List DataValue)
values_for [] [] = Some []
values_for (t ∷ ts) (z ∷ zs) = cons_some (value_for t z) (values_for ts zs)
values_for [] (z ∷ zs) = None
values_for (t ∷ ts) [] = None

-- ---- bytes

abbrev pub bytes_in : Width → ℕ
bytes_in W8 = 1
bytes_in W16 = 2
bytes_in W32 = 4
bytes_in W64 = 8
bytes_in W128 = 16

-- the number of some bytes, the lowest first
unfoldable pub number_of : List ℕ → ℕ
number_of [] = 0
number_of (b ∷ bs) = b + 256 * number_of bs

-- the n lowest bytes of a number, the lowest first
unfoldable pub bytes_of : ℕ → ℕ → List ℕ
bytes_of zero x = []
bytes_of (suc n) x = x % 256 ∷ bytes_of n (x / 256)

-- ---- slots

-- a byte for each slot and offset, where it is written
abbrev pub Slots : Type 0
Slots = ℕ → ℕ → Option ℕ

abbrev pub unwritten : Slots
unwritten k o = None

-- n bytes of one slot from an offset
abbrev pub bytes_from : (ℕ → Option ℕ) → ℕ → ℕ → Option (List ℕ)
bytes_from s o zero = Some []
bytes_from s o (suc n) = cons_some (s o) (bytes_from s (suc o) n)

abbrev pub put_byte : Slots → ℕ → ℕ → ℕ → Slots
put_byte s k o b j p = if nat_eq j k && nat_eq p o then Some b else s j p

abbrev pub put_bytes : Slots → ℕ → ℕ → List ℕ → Slots
put_bytes s k o [] = s
put_bytes s k o (b ∷ bs) = put_bytes (put_byte s k o b) k (suc o) bs

-- an offset of n bytes that lie in a slot of this size
abbrev pub place_in : ℕ → ℤ → ℕ → Option ℕ
place_in size (pos o) n = if nat_le (o + n) size then Some o else None
place_in size (negsuc o) n = None

abbrev pub slot_place : Function → ℕ → ℤ → ℕ → Option ℕ
slot_place f k offset n = and_then (slice_get f.slots k) (λ d. place_in d.size offset n)

-- ---- memory

-- its bytes, from address 0
abbrev pub Memory : Type 0
Memory = List ℕ

-- n bytes from an address, where all are in the memory
unfoldable pub memory_read : Memory → ℕ → ℕ → Option (List ℕ)
memory_read m a n = if nat_le (a + n) (length m) then Some (take n (drop a m)) else None

unfoldable pub memory_write : Memory → ℕ → List ℕ → Option Memory
memory_write m a bs =
    if nat_le (a + length bs) (length m) then Some (take a m ++ (bs ++ drop (a + length bs) m)) else None

-- an address plus an offset, modulo 2^64
unfoldable pub address_at : ℕ → ℤ → ℕ
address_at a offset = wrapped 64 (pos a +ℤ offset)

-- bytes with the lowest first, as they stand in memory, and back
abbrev pub by_endian : Bool → List ℕ → List ℕ
by_endian big bs = if big then reverse bs else bs

-- the bytes that an access reads
abbrev pub bytes_read : Access → ℕ
bytes_read (Full t) = bytes_in (width_of t)
bytes_read (Uload t n) = n
bytes_read (Sload t n) = n

-- their value: the number itself, extended by zeros, or by the sign
abbrev pub loaded : Access → ℕ → DataValue
loaded (Full t) x = record { width = width_of t; value = x }
loaded (Uload t n) x = record { width = width_of t; value = x }
loaded (Sload t n) x = record { width = width_of t; value = sextend (bits_of (width_of t)) (8 * n) x }

-- the bytes that a store writes
abbrev pub bytes_stored : Option ℕ → Width → ℕ
bytes_stored None w = bytes_in w
bytes_stored (Some n) w = n

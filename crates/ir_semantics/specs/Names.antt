-- The names of a module and their addresses. The names are those of its functions and of all their callee declarations,
-- each once, in order: names with `%` first, by their bytes, then names with `u`, by their two numbers. The address of
-- a name is 2^32 plus 16 times its place in that list, counted from 0.
use Rattle.std.specs.Prelude.{ℕ, suc, ◌+◌, ◌*◌, ◌^◌, List, [], ◌∷◌, ◌++◌, map, Bool, true, false, ◌&&◌, ◌||◌, Option}
use Rattle.std.specs.Prelude.{Some, None, nat_eq, nat_lt, ◌==◌, if◌then◌else◌}
use Rattle.ir_core.specs.declared.names.FuncName.{FuncName}
use Rattle.ir_core.specs.declared.names.FuncName.TheVariants as name
use Rattle.ir_core.specs.Module.{Module}
use Rattle.ir_core.specs.Lookup.{same_name}

-- as words stand in a dictionary: a word before those that it begins
abbrev pub bytes_before : List ℕ → List ℕ → Bool
bytes_before [] [] = false
bytes_before [] (b ∷ bs) = true
bytes_before (a ∷ as') [] = false
bytes_before (a ∷ as') (b ∷ bs) = nat_lt a b || (nat_eq a b && bytes_before as' bs)

abbrev pub name_before : FuncName → FuncName → Bool
name_before (name.Text a) (name.Text b) = bytes_before a b
name_before (name.Text a) (name.User b j) = true
name_before (name.User a i) (name.Text b) = false
name_before (name.User a i) (name.User b j) = nat_lt a b || (nat_eq a b && nat_lt i j)

-- a name in its place of a list in order, where it is not there yet
abbrev pub with_name : FuncName → List FuncName → List FuncName
with_name n [] = n ∷ []
with_name n (x ∷ xs) = if same_name n x then x ∷ xs else (if name_before n x then n ∷ x ∷ xs else x ∷ with_name n xs)

abbrev pub in_order : List FuncName → List FuncName
in_order [] = []
in_order (n ∷ ns) = with_name n (in_order ns)

-- the names that a module speaks of, as they stand in it
abbrev pub mentioned : Module → List FuncName
mentioned [] = []
mentioned (f ∷ fs) = f.name ∷ (map (λ c. c.name) f.callees ++ mentioned fs)

unfoldable pub names : Module → List FuncName
names m = in_order (mentioned m)

abbrev pub address : ℕ → ℕ
address place = 2 ^ 32 + 16 * place

-- the address of a name in the list, whose first place is i
abbrev pub address_from : ℕ → List FuncName → FuncName → Option ℕ
address_from i [] n = None
address_from i (x ∷ xs) n = if same_name x n then Some (address i) else address_from (suc i) xs n

abbrev pub address_of : List FuncName → FuncName → Option ℕ
address_of xs n = address_from 0 xs n

-- the name that has an address, in the list whose first place is i
abbrev pub name_from : ℕ → List FuncName → ℕ → Option FuncName
name_from i [] a = None
name_from i (x ∷ xs) a = if a == address i then Some x else name_from (suc i) xs a

abbrev pub name_at : List FuncName → ℕ → Option FuncName
name_at xs a = name_from 0 xs a

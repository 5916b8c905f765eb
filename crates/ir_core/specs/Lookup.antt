-- Where the parts of a module are found by their names and numbers.
use Rattle.std.specs.Prelude.{ℕ, suc, List, [], ◌∷◌, ◌++◌, Bool, true, false, ◌&&◌, Option, Some, None, nat_eq}
use Rattle.std.specs.Prelude.{if◌then◌else◌, slice_get, map}
use Rattle.clk_num.specs.declared.width.Width.{Width}
use Rattle.clk_num.specs.declared.width.Width.TheVariants.{W8, W16, W32, W64, W128}
use Rattle.ir_core.specs.declared.signatures.Ty.{Ty}
use Rattle.ir_core.specs.declared.signatures.Ty.TheVariants as ty
use Rattle.ir_core.specs.declared.signatures.Sig.{Sig}
use Rattle.ir_core.specs.declared.signatures.Param.{Param}
use Rattle.ir_core.specs.declared.names.FuncName.{FuncName}
use Rattle.ir_core.specs.declared.names.FuncName.TheVariants as name
use Rattle.ir_core.specs.Module.{CallTarget, Direct, Indirect, Line, Block, Function, Module}

abbrev pub and_then : {A B : Type 0} → Option A → (A → Option B) → Option B
and_then None go = None
and_then (Some a) go = go a

abbrev pub same_bytes : List ℕ → List ℕ → Bool
same_bytes [] [] = true
same_bytes (a ∷ as') (b ∷ bs) = nat_eq a b && same_bytes as' bs
same_bytes [] (b ∷ bs) = false
same_bytes (a ∷ as') [] = false

abbrev pub same_name : FuncName → FuncName → Bool
same_name (name.Text a) (name.Text b) = same_bytes a b
same_name (name.User a i) (name.User b j) = nat_eq a b && nat_eq i j
same_name (name.Text a) (name.User b j) = false
same_name (name.User a i) (name.Text b) = false

-- the function of a module that has the name: a callee of this name means it
abbrev pub find_function : FuncName → Module → Option Function
find_function n [] = None
find_function n (f ∷ fs) = if same_name f.name n then Some f else find_function n fs

abbrev pub find_block : ℕ → List Block → Option Block
find_block n [] = None
find_block n (b ∷ bs) = if nat_eq b.number n then Some b else find_block n bs

-- the type that a list of typed values has for a value
abbrev pub type_in : List (ℕ × Ty) → ℕ → Option Ty
type_in [] v = None
type_in (x ∷ xs) v = if nat_eq x.0 v then Some x.1 else type_in xs v

abbrev pub type_of : Function → ℕ → Option Ty
type_of f v = type_in f.types v

-- the signature by which a call goes: of its callee, or the one that it names
abbrev pub signature_number : Function → CallTarget → Option ℕ
signature_number f (Direct k) = and_then (slice_get f.callees k) (λ c. Some c.sig)
signature_number f (Indirect s address) = Some s

abbrev pub signature_of : Function → CallTarget → Option Sig
signature_of f t = and_then (signature_number f t) (slice_get f.sigs)

abbrev pub param_types : List Param → List Ty
param_types ps = map (λ p. p.ty) ps

-- values in order of definition in the text: a block's parameters, then the results of its instructions

abbrev pub line_definitions : List Line → List ℕ
line_definitions [] = []
line_definitions (l ∷ ls) = l.results ++ line_definitions ls

abbrev pub definitions : List Block → List ℕ
definitions [] = []
definitions (b ∷ bs) = b.params ++ (line_definitions b.lines ++ definitions bs)

abbrev pub block_numbers : List Block → List ℕ
block_numbers bs = map (λ b. b.number) bs

-- the canonical number of a value or a block: its place in the list of all. What is not in the list comes behind
-- all that is, each under a number of its own.
abbrev pub number_in : List ℕ → ℕ → ℕ
number_in [] v = v
number_in (x ∷ xs) v = if nat_eq x v then 0 else suc (number_in xs v)

-- the width of a type, as clk_num has it
abbrev pub width_of : Ty → Width
width_of ty.I8 = W8
width_of ty.I16 = W16
width_of ty.I32 = W32
width_of ty.I64 = W64
width_of ty.I128 = W128

-- the type of a width
abbrev pub ty_of : Width → Ty
ty_of W8 = ty.I8
ty_of W16 = ty.I16
ty_of W32 = ty.I32
ty_of W64 = ty.I64
ty_of W128 = ty.I128

-- A callee declaration as a list of numbers: two are the same where the numbers are. The first is the first place of
-- its signature.
use Rattle.std.specs.Prelude.{◌≡◌, ℕ, List, [], ◌∷◌, get_or, Bool, true, false, slice_get}
use Rattle.ir_core.specs.declared.names.FuncName.{FuncName}
use Rattle.ir_core.specs.declared.names.FuncName.TheVariants as name
use Rattle.ir_core.specs.declared.signatures.Sig.{Sig}
use Rattle.ir_core.specs.declared.declarations.Callee.{Callee}
use Rattle.ir_core.specs.Lists.{Each}
use Rattle.ir_core.specs.Signatures.{same_sig}
use Rattle.ir_semantics.specs.Import.{new_place}

abbrev pub colocated_number : Bool → ℕ
colocated_number false = 0
colocated_number true = 1

abbrev pub name_key : FuncName → List ℕ
name_key (name.Text text) = 0 ∷ text
name_key (name.User first second) = 1 ∷ first ∷ second ∷ []

abbrev pub callee_key : ℕ → Callee → List ℕ
callee_key sig c = sig ∷ colocated_number c.colocated ∷ name_key c.name

-- the first place of the signature that stands at k
abbrev pub first_sig : List Sig → ℕ → ℕ
first_sig sigs k = new_place same_sig sigs (slice_get sigs k)

-- the key of a declaration whose signature stands in the list
abbrev pub key_among : List Sig → Callee → List ℕ
key_among sigs c = callee_key (first_sig sigs c.sig) c

-- the key of a declaration whose signature's number is its first place
abbrev pub own_key : Callee → List ℕ
own_key c = callee_key c.sig c

-- a declaration under a number of its signature
abbrev pub numbered : ℕ → Callee → Callee
numbered sig c = record { name = c.name; colocated = c.colocated; sig = sig }

-- a declaration under new numbers of signatures
abbrev pub renumbered : List ℕ → Callee → Callee
renumbered table c = numbered (get_or table c.sig 0) c

-- each number is the first place of its signature
abbrev pub AreFirst : List Sig → List ℕ → Type 0
AreFirst sigs table = Each (λ n. first_sig sigs n ≡ n) table

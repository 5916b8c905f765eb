-- A function under other numbers of values and blocks.
use Rattle.std.specs.Prelude.{◌≡◌, ℕ, map}
use Rattle.ir_core.specs.Module.{Function, Module}
use Rattle.ir_core.specs.Lookup.{type_of, definitions}
use Rattle.ir_core.specs.Lists.{In, Each}
use Rattle.ir_core.specs.Size.{size_of}
use Rattle.ir_semantics.specs.Renaming.{Renaming, block_under}
use Rattle.ir_core.specs.WellFormed.{WellFormed}
use Rattle.ir_text.specs.Text.{text_of}
use Rattle.ir_semantics.specs.Canon.{canonical, canonical_module, SameFunction, SameUpToNumbering}

-- g is f under the numbers r; nothing is asked of numbers that f does not have
pub record Renamed (r : Renaming) (f g : Function) : Type 0 where
  pub name : g.name ≡ f.name
  pub sig : g.sig ≡ f.sig
  pub slots : g.slots ≡ f.slots
  pub sigs : g.sigs ≡ f.sigs
  pub callees : g.callees ≡ f.callees
  pub blocks : g.blocks ≡ map (block_under r) f.blocks
  pub typed : (v : ℕ) → In v (definitions f.blocks) → type_of g (r.value v) ≡ type_of f v
  pub slot : (k : ℕ) → r.slot k ≡ k
  pub signature : (k : ℕ) → r.sig k ≡ k
  pub callee : (k : ℕ) → r.callee k ≡ k

abbrev pub RenamedIsSame : Type 0
RenamedIsSame =
    (r : Renaming) (f g : Function) → WellFormed f → WellFormed g → Renamed r f g → canonical g ≡ canonical f

-- and the same size
abbrev pub RenamedKeepsSize : Type 0
RenamedKeepsSize = (r : Renaming) (f g : Function) → Renamed r f g → size_of g ≡ size_of f

-- the other way round, for functions that are the same up to numbering
abbrev pub SameIsRenamed : Type 0
SameIsRenamed = (f g : Function) → SameFunction f g → (r : Renaming) × Renamed r f g

-- the canonical text does not depend on the numbers of values and blocks
abbrev pub NumberingKeepsText : Type 0
NumberingKeepsText = (m r : Module) → SameUpToNumbering m r → text_of m ≡ text_of r

-- a well-formed function is the same as its canonical form, and so is a module
abbrev pub CanonicalIsSame : Type 0
CanonicalIsSame = (f : Function) → WellFormed f → SameFunction f (canonical f)

abbrev pub CanonicalModuleIsSame : Type 0
CanonicalModuleIsSame = (m : Module) → Each WellFormed m → SameUpToNumbering m (canonical_module m)

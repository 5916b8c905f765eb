-- Uses that the numbers of values show to be of available values.
use Rattle.std.specs.Prelude.{◌≡◌, ◌<◌, ℕ, List, Bool, true, ◌&&◌, ◌||◌, nat_eq, nat_lt, nat_le, Some, slice_get}
use Rattle.std.specs.List.{list_all}
use Rattle.ir_core.specs.declared.instructions.Arg.{Arg}
use Rattle.ir_core.specs.declared.instructions.Arg.TheVariants as arg
use Rattle.ir_core.specs.declared.instructions.BlockCall.{BlockCall}
use Rattle.ir_core.specs.Edits.{lines_of}
use Rattle.ir_core.specs.Module.{Instruction, Line, Function}
use Rattle.ir_core.specs.Lookup.{block_numbers}
use Rattle.ir_core.specs.Lists.{In, Different}
use Rattle.ir_core.specs.Uses.{operands, targets}
use Rattle.ir_semantics.specs.Accepted.{UsesAvailable}
use Rattle.ir_semantics.specs.Available.{Reach, Available}
use Rattle.ir_semantics.specs.Splice.{first_number}
use Rattle.used_values.specs.declared.nearby.Chain.{Chain}
use Rattle.used_values.specs.declared.nearby.Known.{Known}

-- ---- the tests

abbrev pub knows : Known → ℕ → Bool
knows known v = nat_lt v known.early || (nat_le known.start v && nat_lt v known.end)

abbrev pub knows_arg : Known → Arg → Bool
knows_arg known (arg.Value v) = knows known v
knows_arg known (arg.Ret i) = true
knows_arg known (arg.Exn i) = true

abbrev pub knows_target : Known → BlockCall → Bool
knows_target known t = list_all (knows_arg known) t.args

-- each value that the instruction uses
abbrev pub knows_used : Known → Instruction → Bool
knows_used known i = list_all (knows known) (operands i) && list_all (knows_target known) (targets i)

-- ---- what they show

-- each value that an instruction of the block uses is available there
abbrev pub UsesAvailableIn : Function → ℕ → Type 0
UsesAvailableIn f b = (i : ℕ) (l : Line) → slice_get (lines_of b f.blocks) i ≡ Some l → UsesAvailable f b i l

abbrev pub AllUsesAvailable : Function → Type 0
AllUsesAvailable f = (b : ℕ) → In b (block_numbers f.blocks) → UsesAvailableIn f b

-- each path that leads out of the block has passed the value
abbrev pub IsPassed : Function → ℕ → ℕ → Type 0
IsPassed f b v =
    (i : ℕ) (defs : List ℕ) (l : Line) (t : BlockCall) → Reach f b i defs → slice_get (lines_of b f.blocks) i ≡ Some l
    → In t (targets l.inst) → In v defs

-- ---- the first blocks, of which each but the last leads to the next one alone

abbrev pub leads_to : ℕ → BlockCall → Bool
leads_to b t = nat_eq t.block b

abbrev pub LeadsOnlyTo : Function → ℕ → ℕ → Type 0
LeadsOnlyTo f a b =
    (i : ℕ) (l : Line) (t : BlockCall) → slice_get (lines_of a f.blocks) i ≡ Some l → In t (targets l.inst)
    → t.block ≡ b

-- the blocks that are left are entered from others by a alone
abbrev pub EnteredBy : Function → List ℕ → ℕ → Type 0
EnteredBy f left a =
    (p i : ℕ) (l : Line) (t : BlockCall) → slice_get (lines_of p f.blocks) i ≡ Some l → In t (targets l.inst)
    → In t.block left → (In p left → ⊥) → p ≡ a

-- these blocks are left behind the chain
pub record IsChain (f : Function) (chain : Chain) (left : List ℕ) : Type 0 where
  pub begun : In (first_number f.blocks) left → ⊥
  pub differ : Different left
  pub early : (v b i : ℕ) → v < chain.early → In b left → Available f b i v
  pub last : (a : ℕ) → chain.last ≡ Some a → EnteredBy f left a

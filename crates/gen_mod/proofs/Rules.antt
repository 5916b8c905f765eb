-- The rules at a function's parts, put together: what holds at each callee declaration, block and line holds at all
-- places.
use Rattle.std.proofs.Common.{◌≡◌, ℕ, zero, suc, List, [], ◌∷◌, Some, subst}
use Rattle.std.proofs.Common.{eq-eqb, ne_eqb}
use Rattle.std.specs.Prelude.{⊤, slice_get}
use Rattle.ir_core.specs.declared.declarations.Callee.{Callee}
use Rattle.ir_core.specs.declared.places.Item.TheVariants as item
use Rattle.ir_core.specs.Module.{Line, Block, Function, Module}
use Rattle.ir_core.specs.Lists.{Each}
use Rattle.ir_core.proofs.Gets.{some_same, get_in}
use Rattle.ir_core.proofs.Members.{each_in}
use Rattle.ir_core.proofs.ByNumber.{found_is}
use Rattle.ir_semantics.specs.Accepted.{Rule, no_terminator, entry_target, count_mismatch, type_mismatch, convention}
use Rattle.ir_semantics.specs.Accepted.{signature_mismatch, slot_range, tag_place, not_available, HoldsAtLine}
use Rattle.ir_semantics.specs.Accepted.{HoldsAtBlock, HoldsAtCallee, IsFirst, RulesHold, UsesAvailable}
use Rattle.ir_semantics.specs.EndRules.{Filled, Terminated, EntryIsNoTarget}
use Rattle.ir_semantics.specs.CountRules.{Counts, EntryCounts}
use Rattle.ir_semantics.specs.TypeRules.{Types, EntryTypes}
use Rattle.ir_semantics.specs.CallRules.{Convention, Declared, Signature, TagPlace}
use Rattle.ir_semantics.specs.SlotRules.{SlotRange}
use Rattle.ir_semantics.proofs.SafetyPlaces.{block_in}

-- ---- lists

-- P holds of each by its place
abbrev pub EachPlace : {A : Type 0} → (ℕ → A → Type 0) → List A → Type 0
EachPlace P [] = ⊤
EachPlace P (x ∷ xs) = P 0 x × EachPlace (λ i. P (suc i)) xs

at_place : {A : Type 0} (P : ℕ → A → Type 0) (xs : List A) → EachPlace P xs → (i : ℕ) (x : A) → slice_get xs i ≡ Some x
    → P i x
at_place P [] each i x q = cc
at_place P (y ∷ xs) each zero x q = subst (P 0) (some_same q) each.0
at_place P (y ∷ xs) each (suc i) x q = at_place (λ i. P (suc i)) xs each.1 i x q

-- ---- one part

-- all rules at the line i of the block that has the number b
pub record LineKeeps (f : Function) (b : ℕ) (block : Block) (i : ℕ) (l : Line) : Type 0 where
  pub ends : Terminated block i l
  pub targets : EntryIsNoTarget f l
  pub counts : Counts f l
  pub types : Types f l
  pub conventions : Convention f l
  pub signatures : Signature f l
  pub slots : SlotRange f l
  pub tags : TagPlace l
  pub uses : UsesAvailable f b i l

line_keeps : (f : Function) (b : ℕ) (block : Block) (i : ℕ) (l : Line) → LineKeeps f b block i l → (rule : Rule)
    → HoldsAtLine f b block i l rule
line_keeps f b block i l keeps no_terminator = keeps.ends
line_keeps f b block i l keeps entry_target = keeps.targets
line_keeps f b block i l keeps count_mismatch = keeps.counts
line_keeps f b block i l keeps type_mismatch = keeps.types
line_keeps f b block i l keeps convention = keeps.conventions
line_keeps f b block i l keeps signature_mismatch = keeps.signatures
line_keeps f b block i l keeps slot_range = keeps.slots
line_keeps f b block i l keeps tag_place = keeps.tags
line_keeps f b block i l keeps not_available = keeps.uses

-- all rules at a block and at its lines
pub record Keeps (f : Function) (block : Block) : Type 0 where
  pub filled : Filled block
  pub counts : IsFirst f block.number → EntryCounts f block
  pub types : IsFirst f block.number → EntryTypes f block
  pub lines : EachPlace (LineKeeps f block.number block) block.lines

block_keeps : (f : Function) (block : Block) → Keeps f block → (rule : Rule) → HoldsAtBlock f block.number block rule
block_keeps f block keeps no_terminator = keeps.filled
block_keeps f block keeps entry_target = tt
block_keeps f block keeps count_mismatch = keeps.counts
block_keeps f block keeps type_mismatch = keeps.types
block_keeps f block keeps convention = tt
block_keeps f block keeps signature_mismatch = tt
block_keeps f block keeps slot_range = tt
block_keeps f block keeps tag_place = tt
block_keeps f block keeps not_available = tt

callee_keeps : (m : Module) (f : Function) (c : Callee) → Declared m f c → (rule : Rule) → HoldsAtCallee m f c rule
callee_keeps m f c declared no_terminator = tt
callee_keeps m f c declared entry_target = tt
callee_keeps m f c declared count_mismatch = tt
callee_keeps m f c declared type_mismatch = tt
callee_keeps m f c declared convention = tt
callee_keeps m f c declared signature_mismatch = declared
callee_keeps m f c declared slot_range = tt
callee_keeps m f c declared tag_place = tt
callee_keeps m f c declared not_available = tt

-- ---- all parts

pub rules_hold : (m : Module) (f : Function) → Each (Declared m f) f.callees → Each (Keeps f) f.blocks → RulesHold m f
rules_hold m f callees blocks item.Whole rule = tt
rules_hold m f callees blocks (item.Callee k) rule = λ c q.
    callee_keeps m f c (each_in (Declared m f) f.callees callees c (get_in f.callees k c q)) rule
rules_hold m f callees blocks (item.Block b) rule = λ block q.
    let keeps = each_in (Keeps f) f.blocks blocks block (block_in b f.blocks block q) in
    subst (λ n. HoldsAtBlock f n block rule) (found_is b f.blocks block q) (block_keeps f block keeps rule)
rules_hold m f callees blocks (item.Inst at) rule = λ block l q g.
    let keeps = each_in (Keeps f) f.blocks blocks block (block_in at.block f.blocks block q) in
    subst (λ n. HoldsAtLine f n block at.index l rule) (found_is at.block f.blocks block q)
    (line_keeps f block.number block at.index l
    (at_place (LineKeeps f block.number block) block.lines keeps.lines at.index l g) rule)

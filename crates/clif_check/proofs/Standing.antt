-- A part of a meant module that breaks a rule stands in the text.
use Rattle.std.proofs.Common.{◌≡◌, ℕ, zero, suc, ◌+◌, List, [], ◌∷◌, length, slice_get, Option, None, Some, map, refl, sym, ap, subst, ◌∙◌, arith, inl, inr}
use Rattle.std.specs.Prelude.{flat_map, IsSome, is_some, Bool, if◌then◌else◌}
use Rattle.std.specs.List.{enumerate_from}
use Rattle.std.proofs.lemmas.Bool.Decides.{eqb_tells}
use Rattle.std.proofs.lemmas.List.{length-map}
use Rattle.ir_core.specs.declared.signatures.Ty.{Ty}
use Rattle.ir_core.specs.declared.places.Item.{Item}
use Rattle.ir_core.specs.declared.places.Item.TheVariants as item
use Rattle.ir_core.specs.Module.{Line, Block, Function, Module}
use Rattle.ir_core.specs.Lookup.{find_block}
use Rattle.ir_semantics.specs.Accepted.{Rule, Holds, HoldsAtCallee, HoldsAtBlock, HoldsAtLine}
use Rattle.ir_core.specs.declared.declarations.Callee.{Callee}
use Rattle.ir_core.proofs.Gets.{some_same, get_mapped}
use Rattle.ir_check.specs.Faults.{FirstFault}
use Rattle.ir_check.proofs.Firsts.{fault_is_real}
use Rattle.token_reader.specs.declared.raw.RawName.{RawName}
use Rattle.clif_read.specs.declared.raw.RawLine.{RawLine}
use Rattle.clif_read.specs.declared.raw.RawLine.TheVariants as line
use Rattle.clif_read.specs.declared.raw.RawBlock.{RawBlock}
use Rattle.clif_read.specs.declared.raw.RawFunction.{RawFunction}
use Rattle.clif_read.specs.declared.raw.RawModule.{RawModule}
use Rattle.name_tables.specs.Definitions.{Callees, Blocks, definitions, callee_names}
use Rattle.clif_meaning.specs.Meaning.{numbers, lines_with, block_with, callees_from, FunctionMeans, FunctionsMean, Means}
use Rattle.clif_meaning.specs.Spots.{line_spots, word_spots, function_spots, spots, item_spot, spot_of}
use Rattle.clif_meaning.proofs.BoundLaws.{callees_long}

-- ---- lists

-- what one list has at a place, another as long as it has there too
as_long : {A B : Type 0} (xs : List A) (ys : List B) (k : ℕ) (x : A) → length xs ≡ length ys → slice_get xs k ≡ Some x → (y : B) × (slice_get ys k ≡ Some y)
as_long [] ys k x l e = absurd cc
as_long (x' ∷ xs) [] k x l e = absurd (omega (arith, l))
as_long (x' ∷ xs) (y ∷ ys) zero x l e = (y, refl)
as_long (x' ∷ xs) (y ∷ ys) (suc k) x l e = as_long xs ys k x (omega (arith, l)) e

-- where not all that stands there is good, something stands there
there : {A : Type 0} (Good : A → Type 0) (o : Option A) → (((a : A) → o ≡ Some a → Good a) → ⊥) → (a : A) × (o ≡ Some a)
there Good None bad = absurd (bad (λ a e. absurd cc))
there Good (Some a) bad = (a, refl)

-- ---- parts of a function

function_at : (rs : List RawFunction) (fs : List Function) (n : ℕ) (f : Function) → FunctionsMean rs fs → slice_get fs n ≡ Some f
    → (r : RawFunction) × (slice_get rs n ≡ Some r) × FunctionMeans r f
function_at [] [] n f means e = absurd cc
function_at [] (g ∷ fs) n f means e = absurd means
function_at (r ∷ rs) [] n f means e = absurd means
function_at (r ∷ rs) (g ∷ fs) zero f means e = let same : g ≡ f = cc in (r, refl, subst (λ (h : Function). FunctionMeans r h) same means.0)
function_at (r ∷ rs) (g ∷ fs) (suc n) f means e = function_at rs fs n f means.1 e

-- the block of a number is the raw block of that place
block_there : (make : ℕ × RawBlock → Block) → ((p : ℕ × RawBlock) → (make p).number ≡ p.0) → (from : ℕ) (bs : List RawBlock) (n : ℕ) (found : Block)
    → find_block n (map make (enumerate_from from bs)) ≡ Some found → (i : ℕ) × (b : RawBlock) × (n ≡ from + i) × (slice_get bs i ≡ Some b) × (found ≡ make (n, b))
block_there make numbered from [] n found e = absurd cc
block_there make numbered from (b ∷ bs) n found e = elim (eqb_tells (make (from, b)).number n) [
  | inl t ↦ (
      let here : n ≡ from = sym t.1 ∙ numbered (from, b) in
      let first : Some (make (from, b)) ≡ Some found = sym (ap (λ (c : Bool). if c then Some (make (from, b)) else find_block n (map make (enumerate_from (from + 1) bs))) t.0) ∙ e in
      let is : make (from, b) ≡ found = cc in
      (0, b, omega (arith, here), refl, sym is ∙ ap (λ (k : ℕ). make (k, b)) (sym here)))
  | inr f ↦ (
      let later : find_block n (map make (enumerate_from (from + 1) bs)) ≡ Some found =
      sym (ap (λ (c : Bool). if c then Some (make (from, b)) else find_block n (map make (enumerate_from (from + 1) bs))) f.0) ∙ e in
      let rest = block_there make numbered (from + 1) bs n found later in
      (suc rest.0, rest.1, omega (arith, rest.2), rest.3, rest.4))
]

lines_long : (raw : RawFunction) (value : ℕ → ℕ) (types : List (ℕ × Ty)) (ls : List RawLine) → length (flat_map (lines_with raw value types) ls) ≡ length (flat_map line_spots ls)
lines_long raw value types [] = refl
lines_long raw value types (line.Alias location n m ∷ ls) = lines_long raw value types ls
lines_long raw value types (line.Inst location tags results inst ∷ ls) = ap suc (lines_long raw value types ls)

module _ (m : Module) (r : RawFunction) (f : Function) (means : FunctionMeans r f) where
  callees_are : f.callees ≡ callees_from (numbers r means.value).sig 0 r.decls
  callees_are = ap (λ (g : Function). g.callees) means.function

  blocks_are : f.blocks ≡ map (block_with r means.value f.types) (enumerate_from 0 r.blocks)
  blocks_are = ap (λ (g : Function). g.blocks) means.function

  found_at : (n : ℕ) (found : Block) → find_block n f.blocks ≡ Some found
      → (b : RawBlock) × (slice_get r.blocks n ≡ Some b) × (found ≡ block_with r means.value f.types (n, b))
  found_at n found e =
      let at = block_there (block_with r means.value f.types) (λ p. refl) 0 r.blocks n found (sym (ap (find_block n) blocks_are) ∙ e) in
      let same : at.0 ≡ n = omega (arith, at.2) in
      (at.1, subst (λ (k : ℕ). slice_get r.blocks k ≡ Some at.1) same at.3, at.4)

  -- a part that breaks a rule stands somewhere
  part_stands : (place : Item) (rule : Rule) → (Holds m f place rule → ⊥) → (spot : ℕ) × (item_spot place (function_spots r) ≡ Some spot)
  part_stands item.Whole rule bad = absurd (bad tt)
  part_stands (item.Callee k) rule bad =
      let c = there (λ (c : Callee). HoldsAtCallee m f c rule) (slice_get f.callees k) bad in
      let long : length f.callees ≡ length (word_spots (definitions r Callees)) =
      ap length callees_are ∙ sym (callees_long (numbers r means.value).sig 0 r.decls) ∙ sym (length-map (flat_map callee_names r.decls) (λ (n : RawName). n.spot)) in
      as_long f.callees (word_spots (definitions r Callees)) k c.0 long c.1
  part_stands (item.Block b) rule bad =
      let found = there (λ (block : Block). HoldsAtBlock f b block rule) (find_block b f.blocks) bad in
      let raw = found_at b found.0 found.1 in
      (raw.0.block.spot, get_mapped (λ (n : RawName). n.spot) (definitions r Blocks) b raw.0.block (get_mapped (λ (x : RawBlock). x.block) r.blocks b raw.0 raw.1))
  part_stands (item.Inst at) rule bad =
      let found = there (λ (block : Block). (l : Line) → slice_get block.lines at.index ≡ Some l → HoldsAtLine f at.block block at.index l rule) (find_block at.block f.blocks)
      (λ good. bad (λ block l e d. good block e l d)) in
      let l = there (λ (l : Line). HoldsAtLine f at.block found.0 at.index l rule) (slice_get found.0.lines at.index)
      (λ good. bad (λ block l e d.
      let same : found.0 ≡ block = some_same (sym found.1 ∙ e) in
      subst (λ (x : Block). (l : Line) → slice_get x.lines at.index ≡ Some l → HoldsAtLine f at.block x at.index l rule) same good l d)) in
      let raw = found_at at.block found.0 found.1 in
      let own : slice_get (flat_map (lines_with r means.value f.types) raw.0.lines) at.index ≡ Some l.0 = subst (λ (x : Block). slice_get x.lines at.index ≡ Some l.0) raw.2 l.1 in
      let stands = as_long (flat_map (lines_with r means.value f.types) raw.0.lines) (flat_map line_spots raw.0.lines) at.index l.0 (lines_long r means.value f.types raw.0.lines) own in
      let block : slice_get (map (λ (b : RawBlock). flat_map line_spots b.lines) r.blocks) at.block ≡ Some (flat_map line_spots raw.0.lines) = get_mapped (λ (b : RawBlock). flat_map line_spots b.lines) r.blocks at.block raw.0 raw.1 in
      (stands.0, rw block stands.1)

-- ---- in a module

pub fault_stands : (raw : RawModule) (m : Module) (n : ℕ) (place : Item) (rule : Rule) → Means raw m → FirstFault m n place rule → (spot : ℕ) × (spot_of (spots raw) n place ≡ Some spot)
fault_stands raw m n place rule means first =
    let real = fault_is_real m n place rule first in
    let at = function_at raw.functions m n real.0 means real.1 in
    let part = part_stands m at.0 real.0 at.2 place rule real.2 in
    (part.0, rw (get_mapped function_spots raw.functions n at.0 at.1) part.1)

pub some_there : {A : Type 0} (o : Option A) (a : A) → o ≡ Some a → IsSome o
some_there o a e = ap is_some e

-- A whole function and its canonical form are the same up to numbering.
use Rattle.std.proofs.Common.{◌≡◌, ◌≢◌, ℕ, ◌<◌, inl, inr, List, [], ◌∷◌, ◌++◌, map, length, Some, Option, refl, sym, ap, ap₂, ◌∙◌, subst}
use Rattle.debug_tags.specs.declared.tags.Tag.{Tag}
use Rattle.debug_tags.specs.declared.tags.Tag.TheVariants as tag
use Rattle.ir_core.specs.declared.signatures.Ty.{Ty}
use Rattle.ir_core.specs.Module.{Nop, Const, Pure, PureImm, Load, Store, StackLoad, StackStore, FuncAddr, Trap, Trapz, Trapnz, Direct, Indirect, TryDirect, TryIndirect, Instruction, Plain, Branches, SequencePoint, Return, Call, ReturnCall, TryCall, Line, Block, Function, Module}
use Rattle.ir_core.specs.Module.{Jump, Brif, BrTable}
use Rattle.ir_core.specs.Lookup.{type_in, definitions, block_numbers}
use Rattle.ir_core.specs.Lists.{In, Each, Different}
use Rattle.ir_semantics.specs.Renaming.{Renaming, instruction_under, tag_under, entry_under, target_under, line_under, block_under}
use Rattle.ir_semantics.specs.Splice.{with_type}
use Rattle.exn_tables.specs.declared.table.Entry.{Entry}
use Rattle.ir_core.specs.declared.instructions.BlockCall.{BlockCall}
use Rattle.ir_core.specs.Uses.{values_used, slots_used, slots_shown, callees_used, sigs_used, blocks_used, table_targets}
use Rattle.ir_semantics.specs.Canon.{canonical_names, types_in_order, canonical, canonical_module}
use Rattle.ir_semantics.proofs.SafetyPlaces.{has_type}
use Rattle.ir_core.specs.WellFormed.{declared, LineWellFormed, BlockWellFormed, WellFormed}
use Rattle.ir_core.proofs.Members.{in_map}
use Rattle.inline_outcomes.proofs.Numbering.{place_injective}
use Rattle.inline_acceptance.proofs.KeptNumbers.{canonical_typed}
use Rattle.inline_acceptance.proofs.KeptRules.{used_under}
use Rattle.inline_acceptance.proofs.KeptCounts.{blocks_under}
use Rattle.inline_numbering.specs.Renamed.{Renamed, CanonicalIsSame, CanonicalModuleIsSame}
use Rattle.inline_numbering.proofs.Same.{blocks_number, renamed_is_same}

from_map : (f : ℕ → ℕ) → ((a b : ℕ) → f a ≡ f b → a ≡ b) → (v : ℕ) (xs : List ℕ) → In (f v) (map f xs) → In v xs
from_map f inj v [] i = elim i [ ]
from_map f inj v (x ∷ xs) (inl e) = inl (inj v x e)
from_map f inj v (x ∷ xs) (inr i) = inr (from_map f inj v xs i)

different_map : (f : ℕ → ℕ) → ((a b : ℕ) → f a ≡ f b → a ≡ b) → (xs : List ℕ) → Different xs → Different (map f xs)
different_map f inj [] d = tt
different_map f inj (x ∷ xs) d = ((λ i. d.0 (from_map f inj x xs i)), different_map f inj xs d.1)

each_mapped : (f : ℕ → ℕ) (P Q : ℕ → Type 0) → ((v : ℕ) → P v → Q (f v)) → (xs : List ℕ) → Each P xs → Each Q (map f xs)
each_mapped f P Q h [] a = tt
each_mapped f P Q h (x ∷ xs) a = (h x a.0, each_mapped f P Q h xs a.1)

-- ---- what a line uses

targets_at : (r : Renaming) (i : Instruction) → blocks_used (instruction_under r i) ≡ map r.block (blocks_used i)
targets_at r (Plain p) = refl
targets_at r (Branches (Jump t)) = refl
targets_at r (Branches (Brif v t u)) = refl
targets_at r (Branches (BrTable v d ts)) = ap (λ z. r.block d.block ∷ z) (many ts)
  where
    many : (us : List BlockCall) → map (λ t. t.block) (map (target_under r) us) ≡ map r.block (map (λ t. t.block) us)
    many [] = refl
    many (u ∷ us) = ap (λ z. r.block u.block ∷ z) (many us)
targets_at r SequencePoint = refl
targets_at r (Return vs) = refl
targets_at r (Call t args) = refl
targets_at r (ReturnCall t args) = refl
targets_at r (TryCall t s args n u) = ap (λ z. r.block n.block ∷ z) (many u)
  where
    many : (es : List (Entry BlockCall)) → map (λ t. t.block) (table_targets (map (entry_under r) es)) ≡ map r.block (map (λ t. t.block) (table_targets es))
    many [] = refl
    many (e ∷ es) = ap (λ z. r.block e.target.block ∷ z) (many es)

module _ (f : Function) (w : WellFormed f) where
  abbrev r : Renaming
  r = canonical_names f

  slots_at : (i : Instruction) → slots_used (instruction_under r i) ≡ slots_used i
  slots_at (Plain Nop) = refl
  slots_at (Plain (Const a)) = refl
  slots_at (Plain (Pure a b)) = refl
  slots_at (Plain (PureImm a b c)) = refl
  slots_at (Plain (Load a b c d)) = refl
  slots_at (Plain (Store a b c d e)) = refl
  slots_at (Plain (StackLoad a b c)) = refl
  slots_at (Plain (StackStore a b c)) = refl
  slots_at (Plain (FuncAddr a)) = refl
  slots_at (Plain (Trap a)) = refl
  slots_at (Plain (Trapz a b)) = refl
  slots_at (Plain (Trapnz a b)) = refl
  slots_at (Branches c) = refl
  slots_at SequencePoint = refl
  slots_at (Return a) = refl
  slots_at (Call t a) = refl
  slots_at (ReturnCall t a) = refl
  slots_at (TryCall t a b c d) = refl

  callees_at : (i : Instruction) → callees_used (instruction_under r i) ≡ callees_used i
  callees_at (Plain Nop) = refl
  callees_at (Plain (Const a)) = refl
  callees_at (Plain (Pure a b)) = refl
  callees_at (Plain (PureImm a b c)) = refl
  callees_at (Plain (Load a b c d)) = refl
  callees_at (Plain (Store a b c d e)) = refl
  callees_at (Plain (StackLoad a b c)) = refl
  callees_at (Plain (StackStore a b c)) = refl
  callees_at (Plain (FuncAddr a)) = refl
  callees_at (Plain (Trap a)) = refl
  callees_at (Plain (Trapz a b)) = refl
  callees_at (Plain (Trapnz a b)) = refl
  callees_at (Branches c) = refl
  callees_at SequencePoint = refl
  callees_at (Return a) = refl
  callees_at (Call (Direct k) a) = refl
  callees_at (Call (Indirect s v) a) = refl
  callees_at (ReturnCall (Direct k) a) = refl
  callees_at (ReturnCall (Indirect s v) a) = refl
  callees_at (TryCall (TryDirect k) a b c d) = refl
  callees_at (TryCall (TryIndirect v) a b c d) = refl

  sigs_at : (i : Instruction) → sigs_used (instruction_under r i) ≡ sigs_used i
  sigs_at (Plain a) = refl
  sigs_at (Branches c) = refl
  sigs_at SequencePoint = refl
  sigs_at (Return a) = refl
  sigs_at (Call (Direct k) a) = refl
  sigs_at (Call (Indirect s v) a) = refl
  sigs_at (ReturnCall (Direct k) a) = refl
  sigs_at (ReturnCall (Indirect s v) a) = refl
  sigs_at (TryCall t a b c d) = refl

  shown_at : (ts : List Tag) → slots_shown (map (tag_under r) ts) ≡ slots_shown ts
  shown_at [] = refl
  shown_at (tag.User n ∷ ts) = shown_at ts
  shown_at (tag.Slot k ∷ ts) = ap (λ z. k ∷ z) (shown_at ts)

  -- ---- declared values

  declared_of : (new : ℕ → ℕ) (ts : List (ℕ × Ty)) (vs : List ℕ) → ((v : ℕ) → In v vs → In v (map (λ x. x.0) ts)) → map (λ x. x.0) (types_in_order new ts vs) ≡ map new vs
  declared_of new ts [] h = refl
  declared_of new ts (v ∷ vs) h = go (has_type ts v (h v (inl refl))) (declared_of new ts vs (λ u i. h u (inr i)))
    where
      go : (t : Ty) × (type_in ts v ≡ Some t) → map (λ x. x.0) (types_in_order new ts vs) ≡ map new vs → map (λ x. x.0) (with_type (new v) (type_in ts v) ++ types_in_order new ts vs) ≡ new v ∷ map new vs
      go (t, e) ih = ap (λ (o : Option Ty). map (λ x. x.0) (with_type (new v) o ++ types_in_order new ts vs)) e ∙ ap (λ z. new v ∷ z) ih

  declared_is : declared (canonical f) ≡ map r.value (definitions f.blocks)
  declared_is = declared_of r.value f.types (definitions f.blocks) w.definitions_declared

  defined_is : definitions (canonical f).blocks ≡ map r.value (definitions f.blocks)
  defined_is = blocks_under r f.blocks

  numbers_are : block_numbers (canonical f).blocks ≡ map r.block (block_numbers f.blocks)
  numbers_are = blocks_number r f.blocks

  line_at : (l : Line) → LineWellFormed f l → LineWellFormed (canonical f) (line_under r l)
  line_at l h =
      record {
        values = subst (Each (λ v. In v (declared (canonical f)))) (sym (used_under r l.inst)) (each_mapped r.value (λ v. In v (declared f)) (λ v. In v (declared (canonical f))) (λ v i. subst (In (r.value v)) (sym declared_is) (in_map r.value v (definitions f.blocks) (w.defined v i))) (values_used l.inst) h.values);
        blocks = subst (Each (λ b. In b (block_numbers (canonical f).blocks))) (sym (targets_at r l.inst)) (each_mapped r.block (λ b. In b (block_numbers f.blocks)) (λ b. In b (block_numbers (canonical f).blocks)) (λ b i. subst (In (r.block b)) (sym numbers_are) (in_map r.block b (block_numbers f.blocks) i)) (blocks_used l.inst) h.blocks);
        slots = subst (Each (λ k. k < length f.slots)) (sym (slots_at l.inst)) h.slots;
        shown = subst (Each (λ k. k < length f.slots)) (sym (shown_at l.tags)) h.shown;
        callees = subst (Each (λ k. k < length f.callees)) (sym (callees_at l.inst)) h.callees;
        sigs = subst (Each (λ s. s < length f.sigs)) (sym (sigs_at l.inst)) h.sigs;
      }

  lines_at : (ls : List Line) → Each (LineWellFormed f) ls → Each (LineWellFormed (canonical f)) (map (line_under r) ls)
  lines_at [] h = tt
  lines_at (l ∷ ls) h = (line_at l h.0, lines_at ls h.1)

  blocks_at : (bs : List Block) → Each (BlockWellFormed f) bs → Each (BlockWellFormed (canonical f)) (map (block_under r) bs)
  blocks_at [] h = tt
  blocks_at (b ∷ bs) h = (lines_at b.lines h.0, blocks_at bs h.1)

  some_block : (bs : List Block) → bs ≢ [] → map (block_under r) bs ≢ []
  some_block [] h e = h refl
  some_block (b ∷ bs) h e = cc

  pub canonical_whole : WellFormed (canonical f)
  canonical_whole =
      record {
        begins = some_block f.blocks w.begins;
        blocks = subst Different (sym numbers_are) (different_map r.block (place_injective (block_numbers f.blocks)) (block_numbers f.blocks) w.blocks);
        declared_once = subst Different (sym declared_is) (different_map r.value (place_injective (definitions f.blocks)) (definitions f.blocks) w.defined_once);
        defined_once = subst Different (sym defined_is) (different_map r.value (place_injective (definitions f.blocks)) (definitions f.blocks) w.defined_once);
        defined = λ v i. subst (In v) (declared_is ∙ sym defined_is) i;
        definitions_declared = λ v i. subst (In v) (defined_is ∙ sym declared_is) i;
        callees = w.callees;
        lines = blocks_at f.blocks w.lines;
      }

  canonical_renamed : Renamed r f (canonical f)
  canonical_renamed = record { name = refl; sig = refl; slots = refl; sigs = refl; callees = refl; blocks = refl; typed = λ v i. canonical_typed f w v; slot = λ k. refl; signature = λ k. refl; callee = λ k. refl }

pub canonical_is_same : CanonicalIsSame
canonical_is_same f w = (w, canonical_whole f w, sym (renamed_is_same (canonical_names f) f (canonical f) w (canonical_whole f w) (canonical_renamed f w)))

pub canonical_module_is_same : CanonicalModuleIsSame
canonical_module_is_same m w = (w, wholes m w, same m w)
  where
    wholes : (fs : Module) → Each WellFormed fs → Each WellFormed (canonical_module fs)
    wholes [] h = tt
    wholes (f ∷ fs) h = (canonical_whole f h.0, wholes fs h.1)

    same : (fs : Module) → Each WellFormed fs → canonical_module fs ≡ canonical_module (canonical_module fs)
    same [] h = refl
    same (f ∷ fs) h = ap₂ (λ (x : Function) (xs : Module). x ∷ xs) (canonical_is_same f h.0).2 (same fs h.1)

-- A function that keeps what every function keeps, and is whole in its values and blocks, is whole as the definitions of
-- meaning say it; and a function that a module gets after others leaves the names different.
use Rattle.std.proofs.Common.{◌≡◌, ℕ, suc, ◌+◌, ◌<◌, ◌≤◌, inl, inr, List, [], ◌∷◌, ◌++◌, map, length, refl, sym, ap, ap₂, subst, ◌∙◌, Bool, true, false, cond, Option, Some, None, arith}
use Rattle.std.specs.Prelude.{◌&&◌}
use Rattle.std.specs.List.{enumerate_from}
use Rattle.std.proofs.lemmas.Bool.{cases_eq}
use Rattle.ir_core.specs.declared.signatures.Ty.{Ty}
use Rattle.ir_core.specs.declared.names.FuncName.{FuncName}
use Rattle.ir_core.specs.declared.names.FuncName.TheVariants as name
use Rattle.ir_core.specs.Module.{Line, Block, Function, Module}
use Rattle.ir_core.specs.Lookup.{same_name, find_function, definitions, block_numbers}
use Rattle.ir_core.specs.Lists.{In, Different}
use Rattle.ir_core.specs.Sound.{counts_of, LineInRange, BlockInRange, IsSound, IsWhole}
use Rattle.ir_core.specs.WellFormed.{declared, LineWellFormed, BlockWellFormed, WellFormed, DifferentNames}
use Rattle.ir_core.proofs.Members.{each_more, below_in}
use Rattle.ir_core.proofs.Counting.{definitions_below, all_in}
use Rattle.ir_core.proofs.Equal.{number_flip, bytes_flip}
use Rattle.ir_core.proofs.Keeping.{length_numbered}

-- ---- the numbers of declared values

abbrev numbers_from : ℕ → List Ty → List ℕ
numbers_from k ts = map (λ x. x.0) (enumerate_from k ts)

numbered_range : (k : ℕ) (ts : List Ty) (v : ℕ) → In v (numbers_from k ts) → (k ≤ v) × (v < k + length ts)
numbered_range k [] v i = elim i [ ]
numbered_range k (t ∷ ts) v i =
    elim i [
      | inl e ↦ (omega (arith, e), omega (arith, e))
      | inr r ↦ (let q = numbered_range (k + 1) ts v r in (omega (arith, q.0), omega (arith, q.1)))
    ]

in_numbered : (k : ℕ) (ts : List Ty) (v : ℕ) → k ≤ v → v < k + length ts → In v (numbers_from k ts)
in_numbered k [] v low high = absurd (omega (arith, low, high))
in_numbered k (t ∷ ts) v low high = elim (cases_eq v k) [ inl e ↦ inl e | inr e ↦ inr (in_numbered (k + 1) ts v (omega (arith, low, e)) (omega (arith, high))) ]

numbers_differ : (k : ℕ) (ts : List Ty) → Different (numbers_from k ts)
numbers_differ k [] = tt
numbers_differ k (t ∷ ts) = ((λ i. (let q = numbered_range (k + 1) ts k i in absurd (omega (arith, q.0)))), numbers_differ (k + 1) ts)

-- ---- a function

module _ (f : Function) (s : IsSound f) where
  abbrev types : List Ty
  types = map (λ typed. typed.1) f.types

  count : length f.types ≡ length types
  count = ap length s.numbered ∙ length_numbered 0 types

  numbers : declared f ≡ numbers_from 0 types
  numbers = ap (map (λ x. x.0)) s.numbered

  value_there : (v : ℕ) → v < length f.types → In v (declared f)
  value_there v h = subst (In v) (sym numbers) (in_numbered 0 types v (omega arith) (omega (arith, h, count)))

  value_below : (v : ℕ) → In v (declared f) → v < length f.types
  value_below v i = omega (arith, count, (numbered_range 0 types v (subst (In v) numbers i)).1)

  block_there : (b : ℕ) → b < length f.blocks → In b (block_numbers f.blocks)
  block_there b h = all_in (length f.blocks) (block_numbers f.blocks) s.blocks_differ s.block_range (length_numbers f.blocks) b h
    where
      length_numbers : (bs : List Block) → length (block_numbers bs) ≡ length bs
      length_numbers [] = refl
      length_numbers (b ∷ bs) = ap suc (length_numbers bs)

  line_whole : (l : Line) → LineInRange (counts_of f) l → LineWellFormed f l
  line_whole l h =
      record {
        values = each_more (λ v. v < length f.types) (λ v. In v (declared f)) value_there _ h.values;
        blocks = each_more (λ b. b < length f.blocks) (λ b. In b (block_numbers f.blocks)) block_there _ h.blocks;
        slots = h.slots;
        shown = h.shown;
        callees = h.callees;
        sigs = h.sigs;
      }

  block_whole : (b : Block) → BlockInRange (counts_of f) b → BlockWellFormed f b
  block_whole b h = each_more (LineInRange (counts_of f)) (LineWellFormed f) line_whole b.lines h.lines

  pub whole_of : IsWhole f → WellFormed f
  whole_of w =
      record {
        begins = λ e. omega (arith, w.has_block, ap length e);
        blocks = s.blocks_differ;
        declared_once = subst Different (sym numbers) (numbers_differ 0 types);
        defined_once = s.defined_once;
        defined = λ v i. w.defined v (value_below v i);
        definitions_declared = λ v i. value_there v (below_in (length f.types) (definitions f.blocks) v (definitions_below (counts_of f) f.blocks s.blocks) i);
        callees = s.callees;
        lines = each_more (BlockInRange (counts_of f)) (BlockWellFormed f) block_whole f.blocks s.blocks;
      }

-- ---- names

pub name_flip : (m n : FuncName) → same_name m n ≡ same_name n m
name_flip (name.Text a) (name.Text b) = bytes_flip a b
name_flip (name.User a i) (name.User b j) = ap₂ (λ p q. p && q) (number_flip a b) (number_flip i j)
name_flip (name.Text a) (name.User b j) = refl
name_flip (name.User a i) (name.Text b) = refl

-- a function of another name in front of those that have not the name
pub other_first : (n : FuncName) (g : Function) (fs : Module) → find_function n (g ∷ fs) ≡ None → (same_name g.name n ≡ false) × (find_function n fs ≡ None)
other_first n g fs e = go (same_name g.name n) refl e
  where
    go : (b : Bool) → same_name g.name n ≡ b → cond {A = Option Function} b (Some g) (find_function n fs) ≡ None → (same_name g.name n ≡ false) × (find_function n fs ≡ None)
    go true q h = absurd cc
    go false q h = (q, h)

none_more : (n : FuncName) (fs : Module) (f : Function) → find_function n fs ≡ None → same_name f.name n ≡ false → find_function n (fs ++ (f ∷ [])) ≡ None
none_more n [] f e other = ap (λ b. cond {A = Option Function} b (Some f) None) other
none_more n (g ∷ fs) f e other =
    let q = other_first n g fs e in
    ap (λ b. cond {A = Option Function} b (Some g) (find_function n (fs ++ (f ∷ [])))) q.0 ∙ none_more n fs f q.1 other

pub names_more : (fs : Module) (f : Function) → DifferentNames fs → find_function f.name fs ≡ None → DifferentNames (fs ++ (f ∷ []))
names_more [] f d e = (refl, tt)
names_more (g ∷ fs) f d e =
    let q = other_first f.name g fs e in
    (none_more g.name fs f d.0 (name_flip f.name g.name ∙ q.0), names_more fs f d.1 q.1)

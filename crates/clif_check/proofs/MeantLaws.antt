-- What the functions of a text mean, one stretch behind another.
use Rattle.std.proofs.Common.{◌≡◌, ◌≢◌, ℕ, zero, suc, ◌<◌, ◌≤◌, ◌⊎◌, Bool, true, false, List, [], ◌∷◌, ◌++◌, length, slice_get, Option, None, Some, Ok, refl, sym, ap, ap₂, subst, ◌∙◌, arith, inl, inr}
use Rattle.std.specs.Prelude.{if◌then◌else◌, IfSome}
use Rattle.std.proofs.lemmas.List.{map-append}
use Rattle.grammar.specs.Rules.{Lexeme}
use Rattle.ir_core.specs.declared.names.FuncName.{FuncName}
use Rattle.ir_core.specs.Edits.{Body}
use Rattle.ir_core.specs.Lookup.{find_function, same_name}
use Rattle.ir_core.specs.Module.{Function, Module}
use Rattle.ir_core.specs.Sound.{IsWhole}
use Rattle.ir_core.specs.WellFormed.{DifferentNames}
use Rattle.ir_core.proofs.Equal.{equal_name}
use Rattle.ir_core.proofs.Members.{each_join}
use Rattle.clif_lex.specs.declared.faults.TextKind.{TextKind}
use Rattle.clif_lex.specs.declared.faults.TextKind.TheVariants.{Duplicate, TooLarge}
use Rattle.clif_lex.specs.Stretches.{IsCut}
use Rattle.clif_read.specs.declared.raw.RawFunction.{RawFunction}
use Rattle.clif_read.specs.declared.raw.RawModule.{RawModule}
use Rattle.clif_read.specs.Modules.{function_at}
use Rattle.clif_read.specs.Texts.{IsModuleText}
use Rattle.clif_read.proofs.Functions.{function_read}
use Rattle.read_workers.specs.Ranges.{IsFront, with_functions}
use Rattle.read_workers.proofs.RangeLaws.{range_follows, front_goes_on, front_is_some, front_is_text, empty_text}
use Rattle.range_workers.specs.Follow.{Follow}
use Rattle.clif_resolve.proofs.BlockWords.{have_blocks}
use Rattle.clif_names.specs.Faults.{NoFault, ListFault, SameName}
use Rattle.clif_names.specs.FunctionNames.{NoFunctionFault}
use Rattle.clif_names.specs.Sizes.{most_functions}
use Rattle.clif_meaning.specs.Meaning.{name_of, FunctionMeans, FunctionsMean, HasBlocks}
use Rattle.clif_meaning.specs.Reads.{Reads}
use Rattle.ir_core.proofs.Gets.{each_at}
use Rattle.clif_meaning.proofs.ModuleLaws.{one_name}
use Rattle.clif_check.specs.declared.parts.Part.{Part}
use Rattle.clif_check.specs.Declarations.{KeepsOwnRules}
use Rattle.clif_check.specs.Stretches.{AreMeant, AreKept, KeptFrom, KeptOfFront, KeptOfRange, KeptOfText, part_of}

-- ---- each function of the grammar has a block

pub function_has_blocks : (ts rest : List Lexeme) (f : RawFunction) → function_at ts ≡ Ok (f, rest) → f.blocks ≢ []
function_has_blocks ts rest f e = let (v, is) = function_read ts rest f e in rw is ((have_blocks (v ∷ [])).0)

pub front_has_blocks : (text : List ℕ) (to : ℕ) (raw : RawModule) → IsFront text to raw → HasBlocks raw
front_has_blocks text to raw front = let (v, d, e, one) = front.read in rw e (have_blocks v.1)

-- ---- some functions, and others behind them

means_join : (rs ss : List RawFunction) (fs gs : List Function) → FunctionsMean rs fs → FunctionsMean ss gs → FunctionsMean (rs ++ ss) (fs ++ gs)
means_join [] ss [] gs f g = g
means_join [] ss (x ∷ fs) gs f g = absurd f
means_join (r ∷ rs) ss [] gs f g = absurd f
means_join (r ∷ rs) ss (x ∷ fs) gs f g = (f.0, means_join rs ss fs gs f.1 g)

pub meant_join : (rs ss : List RawFunction) (fs gs : List Function) → AreMeant rs fs → AreMeant ss gs → AreMeant (rs ++ ss) (fs ++ gs)
meant_join rs ss fs gs f g = record {
  free = each_join NoFunctionFault rs ss f.free g.free;
  mean = means_join rs ss fs gs f.mean g.mean;
  whole = each_join IsWhole fs gs f.whole g.whole;
  own = each_join KeepsOwnRules fs gs f.own g.own;
}

-- ---- what stays of functions

pub kept_none : (p : Part) → AreKept p [] []
kept_none p = ([], record { free = tt; mean = tt; whole = tt; own = tt }, refl)

kept_one : (p : Part) (r : RawFunction) (f : Function) (kept : Body) → NoFunctionFault r → FunctionMeans r f → IsWhole f → KeepsOwnRules f → kept.function ≡ part_of p f → AreKept p (r ∷ []) (kept ∷ [])
kept_one p r f kept free means whole own is =
    (f ∷ [], record { free = (free, tt); mean = (means, tt); whole = (whole, tt); own = (own, tt) }, ap (λ (g : Function). g ∷ []) is)

pub kept_found : (p : Part) (r : RawFunction) (f : Function) (found : Option Body) → NoFunctionFault r → FunctionMeans r f → IsWhole f
    → IfSome found (λ kept. KeepsOwnRules f) → IfSome found (λ kept. kept.function ≡ part_of p f) → IfSome found (λ kept. AreKept p (r ∷ []) (kept ∷ []))
kept_found p r f None free means whole own is = tt
kept_found p r f (Some kept) free means whole own is = kept_one p r f kept free means whole own is

pub kept_join : (p : Part) (rs ss : List RawFunction) (ks ls : List Body) → AreKept p rs ks → AreKept p ss ls → AreKept p (rs ++ ss) (ks ++ ls)
kept_join p rs ss ks ls (fs, meant, parts) (gs, were, others) = (
  fs ++ gs,
  meant_join rs ss fs gs meant were,
  map-append (λ (b : Body). b.function) ks ls ∙ (ap₂ (λ (ms ns : List Function). ms ++ ns) parts others ∙ sym (map-append (part_of p) fs gs)),
)

-- ---- stretches

-- a front stands from the text's beginning on
pub front_follows : (p : Part) (text : List ℕ) (from to : ℕ) (fs : List Body) → from ≡ 0 → KeptOfFront p text to fs → Follow (KeptFrom p text) from to fs
front_follows p text from to fs first (raw, is, kept) zero before (inl (at, none)) = inr (raw, is, subst (λ (ks : List Body). AreKept p raw.functions (ks ++ fs)) (sym none) kept)
front_follows p text from to fs first (raw, is, kept) zero before (inr (early, front, were)) = absurd (front_is_some text early (subst (λ (at : ℕ). IsFront text at early) first front))
front_follows p text from to fs first (raw, is, kept) (suc start) before (ss, stood, were) = let ordered = stood.stretch.ordered in absurd (omega (arith, first, ordered))

-- functions stand behind a front, and behind functions
pub kept_follow : (p : Part) (text : List ℕ) (a b : ℕ) (fs : List Body) → 0 < a → IsCut text a → KeptOfRange p text a b fs → Follow (KeptFrom p text) a b fs
kept_follow p text a b fs behind cut (rs, stand, kept) zero before (inl (at, none)) = absurd (omega (arith, behind, at))
kept_follow p text a b fs behind cut (rs, stand, kept) zero before (inr (raw, is, were)) =
    inr (with_functions raw rs, front_goes_on text a b raw rs cut is stand, kept_join p raw.functions rs before fs were kept)
kept_follow p text a b fs behind cut (rs, stand, kept) (suc start) before (ss, stood, were) =
    (ss ++ rs, range_follows text a b rs cut stand (suc start) ss stood, kept_join p ss rs before fs were kept)

-- the raw module of a text, and what stays of its functions
pub text_kept : (p : Part) (text : List ℕ) (kept : List Body) → Follow (KeptFrom p text) 0 (length text) kept → KeptOfText p text kept
text_kept p text kept follow = go (follow 0 [] (inl (refl, refl)))
  where
    go : ((length text ≡ 0) × (kept ≡ [])) ⊎ KeptOfFront p text (length text) kept → KeptOfText p text kept
    go (inl (none, nothing)) = (record { headers = []; functions = [] }, empty_text text none, subst (AreKept p []) (sym nothing) (kept_none p))
    go (inr (raw, is, were)) = (raw, front_is_text text raw is, were)

-- ---- names

-- where no function has the name, no raw one means it
none_means : (rs : List RawFunction) (fs : List Function) (n : FuncName) (i : ℕ) (r : RawFunction) → FunctionsMean rs fs → find_function n fs ≡ None → slice_get rs i ≡ Some r → name_of r.name ≡ n → ⊥
none_means [] fs n i r h none at called = absurd cc
none_means (s ∷ rs) [] n i r h none at called = absurd h
none_means (s ∷ rs) (f ∷ fs) n zero r h none at called =
    let same : s ≡ r = cc in
    let has : f.name ≡ n = ap (λ (g : Function). g.name) h.0.function ∙ ap (λ (x : RawFunction). name_of x.name) same ∙ called in
    let here : Some f ≡ None = sym (ap (λ (b : Bool). if b then Some f else find_function n fs) (equal_name f.name n has)) ∙ none in
    absurd cc
none_means (s ∷ rs) (f ∷ fs) n (suc i) r h none at called = later (same_name f.name n) none (λ rest. none_means rs fs n i r h.1 rest at called)
  where
    later : (b : Bool) → (if b then Some f else find_function n fs) ≡ None → (find_function n fs ≡ None → ⊥) → ⊥
    later true e behind = absurd cc
    later false e behind = behind e

names_apart : (rs : List RawFunction) (fs : List Function) (i j : ℕ) (r s : RawFunction) → FunctionsMean rs fs → DifferentNames fs → slice_get rs i ≡ Some r → j < i → slice_get rs j ≡ Some s → SameName s.name r.name → ⊥
names_apart [] fs i j r s h apart at lt before same = absurd cc
names_apart (x ∷ rs) [] i j r s h apart at lt before same = absurd h
names_apart (x ∷ rs) (f ∷ fs) zero j r s h apart at lt before same = absurd (omega (arith, lt))
names_apart (x ∷ rs) (f ∷ fs) (suc i) zero r s h apart at lt before same =
    let is : x ≡ s = cc in
    none_means rs fs f.name i r h.1 apart.0 at
    (sym (one_name s.name r.name same) ∙ sym (ap (λ (y : RawFunction). name_of y.name) is) ∙ sym (ap (λ (g : Function). g.name) h.0.function))
names_apart (x ∷ rs) (f ∷ fs) (suc i) (suc j) r s h apart at lt before same = names_apart rs fs i j r s h.1 apart.1 at (omega (arith, lt)) before same

means_within : (rs : List RawFunction) (fs : List Function) (i : ℕ) (r : RawFunction) → FunctionsMean rs fs → slice_get rs i ≡ Some r → i < length fs
means_within [] fs i r h at = absurd cc
means_within (s ∷ rs) [] i r h at = absurd h
means_within (s ∷ rs) (f ∷ fs) zero r h at = omega arith
means_within (s ∷ rs) (f ∷ fs) (suc i) r h at = let less = means_within rs fs i r h.1 at in omega (arith, less)

-- ---- a text whose functions are meant, and are a module

module _ (raw : RawModule) (m : Module) (meant : AreMeant raw.functions m) (apart : DifferentNames m) (few : length m ≤ most_functions) where
  no_list_fault : (kind : TextKind) (spot : ℕ) → ListFault raw.functions kind spot → ⊥
  no_list_fault Duplicate spot (i, j, r, s, at, e, lt, before, same) = names_apart raw.functions m i j r s meant.mean apart at lt before same
  no_list_fault TooLarge spot (i, r, at, e, many) = let less = means_within raw.functions m i r meant.mean at in absurd (omega (arith, less, many, few))
  no_list_fault kind spot h = absurd h

  free : NoFault raw
  free kind spot (inl h) = no_list_fault kind spot h
  free kind spot (inr (i, r, at, h)) = each_at NoFunctionFault raw.functions i r meant.free at kind spot h

pub module_read : (text : List ℕ) (raw : RawModule) (m : Module) → IsModuleText text raw → AreMeant raw.functions m → DifferentNames m → length m ≤ most_functions → Reads text m
module_read text raw m read meant apart few = (raw, read, free raw m meant apart few, meant.mean)

-- What a text means is a module.
use Rattle.std.proofs.Common.{◌≡◌, ◌≢◌, ℕ, suc, ◌<◌, ◌≤◌, inl, inr, Bool, true, false, List, [], ◌∷◌, slice_get, None, Some, ℤ, pos, negsuc, refl, sym, ap, ◌∙◌, arith, ap₂}
use Rattle.std.proofs.lemmas.Bool.Decides.{leb_tells}
use Rattle.ir_core.specs.declared.names.FuncName.TheVariants as name
use Rattle.ir_core.specs.Lists.{In, Each}
use Rattle.ir_core.specs.Module.{Function}
use Rattle.ir_core.specs.Lookup.{same_name, find_function}
use Rattle.ir_core.specs.WellFormed.{WellFormed, DifferentNames}
use Rattle.ir_core.proofs.Equal.{name_equal}
use Rattle.ir_core.proofs.Gets.{in_get}
use Rattle.clif_lex.specs.declared.faults.TextKind.TheVariants.{Duplicate, Undefined, Untyped, TooLarge}
use Rattle.token_reader.specs.declared.raw.RawName.{RawName}
use Rattle.clif_read.specs.declared.raw.RawFuncName.{RawFuncName}
use Rattle.clif_read.specs.declared.raw.RawFuncName.TheVariants as func_name
use Rattle.clif_read.specs.declared.raw.RawFunction.{RawFunction}
use Rattle.name_tables.specs.Definitions.{Kind, Values, definitions}
use Rattle.name_tables.specs.Uses.{uses}
use Rattle.name_tables.specs.Words.{IsDefined}
use Rattle.clif_names.specs.declared.limits.Limit.TheVariants.{Entity}
use Rattle.clif_names.specs.Limits.{keeps, name_limits}
use Rattle.clif_names.specs.Sizes.{raw_size}
use Rattle.clif_meaning.specs.Instructions.{natural}
use Rattle.clif_meaning.specs.Meaning.{name_of, FunctionMeans, FunctionsMean, MeantIsModule}
use Rattle.clif_names.specs.Faults.{SameName}
use Rattle.clif_names.specs.Listed as listed
use Rattle.clif_names.proofs.ListedLaws.{defined, undefined}
use Rattle.clif_meaning.proofs.LimitLaws.{AllKept, name_kept}
use Rattle.clif_meaning.proofs.WholeLaws.{meant_whole}
use Rattle.clif_names.specs.FunctionNames.{NoFunctionFault}
use Rattle.clif_read.specs.Marks.{name_spot}

-- ---- names

-- two names that are one in the text are one in the module
pub one_name : (a b : RawFuncName) → SameName a b → name_of a ≡ name_of b
one_name (func_name.Text a s) (func_name.Text b t) h = ap name.Text h
one_name (func_name.User a i) (func_name.User b j) h = ap₂ name.User h.0 (ap natural h.1)
one_name (func_name.Text a s) (func_name.User b j) h = absurd h
one_name (func_name.User a i) (func_name.Text b t) h = absurd h

-- ---- one function

module _ (r : RawFunction) (free : NoFunctionFault r) where
  pub used : (k : Kind) (u : RawName) → In u (uses r k) → IsDefined (definitions r k) u.number
  used k u i = by (listed.is_defined (definitions r k) u.number) refl (in_get (uses r k) u i)
    where
      by : (b : Bool) → listed.is_defined (definitions r k) u.number ≡ b → (j : ℕ) × (slice_get (uses r k) j ≡ Some u) → IsDefined (definitions r k) u.number
      by true t p = defined (definitions r k) u.number t
      by false t (j, at) = absurd (free Undefined u.spot (inl (k, (j, u, at, refl, undefined (definitions r k) u.number t))))

  pub size : raw_size r ≤ 262144
  size = elim (leb_tells (raw_size r) 262144) [ inl t ↦ t.1 | inr b ↦ absurd (free TooLarge (name_spot r.name) (refl, b.1)) ]

whole : (r : RawFunction) (f : Function) → NoFunctionFault r → r.blocks ≢ [] → FunctionMeans r f → WellFormed f
whole r f free begins mf = meant_whole r f mf (used r free) (λ spot h. free Duplicate spot (Values, h)) (λ spot h. free Untyped spot h) (size r free) begins

-- ---- names

pub not_negative : (z : ℤ) → keeps Entity z ≡ true → z ≡ pos (natural z)
not_negative (pos n) h = refl
not_negative (negsuc n) h = absurd cc

-- two names that are one in the module are one in the text, where their numbers keep their limits
pub same_raw : (x y : RawFuncName) → AllKept (name_limits x) → AllKept (name_limits y) → name_of x ≡ name_of y → SameName x y
same_raw (func_name.Text a s) (func_name.Text b t) p q h = cc
same_raw (func_name.User a i) (func_name.User b j) p q h =
    let e : a.number ≡ b.number = cc in
    let g : natural i.value ≡ natural j.value = cc in
    (e, not_negative i.value p.1.0 ∙ ap pos g ∙ sym (not_negative j.value q.1.0))
same_raw (func_name.Text a s) (func_name.User b j) p q h = absurd cc
same_raw (func_name.User a i) (func_name.Text b t) p q h = absurd cc

-- no later function has the name
none_later : (r : RawFunction) (rs : List RawFunction) (fs : List Function) → NoFunctionFault r → ((i : ℕ) (s : RawFunction) → slice_get rs i ≡ Some s → NoFunctionFault s)
    → ((i : ℕ) (s : RawFunction) → slice_get rs i ≡ Some s → SameName r.name s.name → ⊥) → FunctionsMean rs fs → find_function (name_of r.name) fs ≡ None
none_later r [] [] free frees apart h = refl
none_later r [] (f ∷ fs) free frees apart h = absurd h
none_later r (s ∷ rs) [] free frees apart h = absurd h
none_later r (s ∷ rs) (f ∷ fs) free frees apart h =
    by (same_name f.name (name_of r.name)) refl (none_later r rs fs free (λ i. frees (suc i)) (λ i. apart (suc i)) h.1)
  where
    called : f.name ≡ name_of s.name
    called = ap (λ (g : Function). g.name) h.0.function

    by : (b : Bool) → same_name f.name (name_of r.name) ≡ b → find_function (name_of r.name) fs ≡ None → find_function (name_of r.name) (f ∷ fs) ≡ None
    by true t rest = absurd (apart 0 s refl (same_raw r.name s.name (name_kept r free) (name_kept s (frees 0 s refl)) (sym (name_equal f.name (name_of r.name) t) ∙ called)))
    by false t rest = rw t rest

names_differ : (rs : List RawFunction) (fs : List Function) → ((i : ℕ) (s : RawFunction) → slice_get rs i ≡ Some s → NoFunctionFault s)
    → ((i j : ℕ) (r s : RawFunction) → slice_get rs i ≡ Some s → j < i → slice_get rs j ≡ Some r → SameName r.name s.name → ⊥) → FunctionsMean rs fs → DifferentNames fs
names_differ [] [] frees apart h = tt
names_differ [] (f ∷ fs) frees apart h = absurd h
names_differ (r ∷ rs) [] frees apart h = absurd h
names_differ (r ∷ rs) (f ∷ fs) frees apart h = (
  rw (ap (λ (g : Function). g.name) h.0.function) (none_later r rs fs (frees 0 r refl) (λ i. frees (suc i)) (λ i s at. apart (suc i) 0 r s at (omega arith) refl) h.1),
  names_differ rs fs (λ i. frees (suc i)) (λ i j x s at lt at'. apart (suc i) (suc j) x s at (omega (arith, lt)) at') h.1,
)

all_whole : (rs : List RawFunction) (fs : List Function) → ((i : ℕ) (s : RawFunction) → slice_get rs i ≡ Some s → NoFunctionFault s) → Each (λ (f : RawFunction). f.blocks ≢ []) rs → FunctionsMean rs fs → Each WellFormed fs
all_whole [] [] frees begin h = tt
all_whole [] (f ∷ fs) frees begin h = absurd h
all_whole (r ∷ rs) [] frees begin h = absurd h
all_whole (r ∷ rs) (f ∷ fs) frees begin h = (whole r f (frees 0 r refl) begin.0 h.0, all_whole rs fs (λ i. frees (suc i)) begin.1 h.1)

pub meant_is_module : MeantIsModule
meant_is_module raw m none begin h = record {
  names = names_differ raw.functions m frees (λ i j r s at lt at' same. none Duplicate (name_spot s.name) (inl (i, j, s, r, at, refl, lt, at', same))) h;
  whole = all_whole raw.functions m frees begin h;
}
  where
    frees : (i : ℕ) (s : RawFunction) → slice_get raw.functions i ≡ Some s → NoFunctionFault s
    frees i s at kind spot f = none kind spot (inr (i, s, at, f))

-- The functions of a module, one after the other.
use Rattle.std.proofs.Common.{◌≡◌, ℕ, zero, suc, ◌<◌, Bool, true, false, List, [], ◌∷◌, ◌++◌, take, slice_get, None, Some, refl, sym, ap, subst, ◌∙◌, arith}
use Rattle.ir_core.specs.Lists.{Each}
use Rattle.ir_core.specs.Lookup.{find_function, same_name}
use Rattle.ir_core.specs.Module.{Function}
use Rattle.ir_core.proofs.Equal.{name_equal}
use Rattle.clif_lex.specs.declared.faults.TextKind.TheVariants.{Duplicate}
use Rattle.clif_read.specs.declared.raw.RawFunction.{RawFunction}
use Rattle.clif_read.specs.Marks.{name_spot}
use Rattle.clif_names.specs.Faults.{SameName}
use Rattle.clif_names.specs.FunctionNames.{NoFunctionFault}
use Rattle.clif_names.specs.Limits.{name_limits}
use Rattle.clif_lines.proofs.Parting.{each_at}
use Rattle.clif_meaning.specs.Meaning.{FunctionMeans, FunctionsMean, name_of}
use Rattle.clif_meaning.proofs.LimitLaws.{AllKept, name_kept}
use Rattle.clif_meaning.proofs.ModuleLaws.{same_raw}
use Rattle.clif_resolve.proofs.FaultlessLaws.{NoListFault}

-- no earlier function has the name
none_before : (rs : List RawFunction) (fs : List Function) (r : RawFunction) → AllKept (name_limits r.name)
    → ((j : ℕ) (s : RawFunction) → slice_get rs j ≡ Some s → AllKept (name_limits s.name))
    → ((j : ℕ) (s : RawFunction) → slice_get rs j ≡ Some s → SameName s.name r.name → ⊥)
    → FunctionsMean rs fs → find_function (name_of r.name) fs ≡ None
none_before [] [] r keep keeps apart h = refl
none_before [] (f ∷ fs) r keep keeps apart h = absurd h
none_before (s ∷ rs) [] r keep keeps apart h = absurd h
none_before (s ∷ rs) (f ∷ fs) r keep keeps apart h =
    by (same_name f.name (name_of r.name)) refl (none_before rs fs r keep (λ j. keeps (suc j)) (λ j. apart (suc j)) h.1)
  where
    called : f.name ≡ name_of s.name
    called = ap (λ (g : Function). g.name) h.0.function

    by : (b : Bool) → same_name f.name (name_of r.name) ≡ b → find_function (name_of r.name) fs ≡ None → find_function (name_of r.name) (f ∷ fs) ≡ None
    by true t rest = absurd (apart 0 s refl (same_raw s.name r.name (keeps 0 s refl) keep (sym called ∙ name_equal f.name (name_of r.name) t)))
    by false t rest = rw t rest

get_taken : {A : Type 0} (xs : List A) (i j : ℕ) (x : A) → slice_get (take i xs) j ≡ Some x → (slice_get xs j ≡ Some x) × (j < i)
get_taken xs zero j x h = absurd cc
get_taken [] (suc i) j x h = absurd cc
get_taken (y ∷ ys) (suc i) zero x h = (h, omega arith)
get_taken (y ∷ ys) (suc i) (suc j) x h = let q = get_taken ys i j x h in (q.0, omega (arith, q.1))

module _ (rs : List RawFunction) (i : ℕ) (r : RawFunction) (at : slice_get rs i ≡ Some r) where
  pub new_name : NoListFault rs → Each NoFunctionFault (take i rs) → NoFunctionFault r → (fs : List Function) (f : Function) → FunctionsMean (take i rs) fs → FunctionMeans r f → find_function f.name fs ≡ None
  new_name alone frees free fs f h m =
      subst (λ n. find_function n fs ≡ None) (sym (ap (λ (g : Function). g.name) m.function))
      (none_before (take i rs) fs r (name_kept r free)
      (λ j s on. name_kept s (each_at NoFunctionFault (take i rs) j s frees on))
      (λ j s on same. alone Duplicate (name_spot r.name) (i, j, r, s, at, refl, (get_taken rs i j s on).1, (get_taken rs i j s on).0, same)) h)

-- one function more
pub means_more : (rs : List RawFunction) (fs : List Function) (r : RawFunction) (f : Function) → FunctionsMean rs fs → FunctionMeans r f → FunctionsMean (rs ++ r ∷ []) (fs ++ f ∷ [])
means_more [] [] r f h m = (m, tt)
means_more [] (g ∷ gs) r f h m = absurd h
means_more (s ∷ rs) [] r f h m = absurd h
means_more (s ∷ rs) (g ∷ gs) r f h m = (h.0, means_more rs gs r f h.1 m)

-- A run's function stands at one place in the raw module and in the module that it means.
use Rattle.std.proofs.Common.{◌≡◌, ℕ, zero, suc, Bool, true, false, if◌then◌else◌, List, [], ◌∷◌, ◌++◌, codes, decimal, slice_get, Option, Some, None, refl, sym, ap, ◌∙◌, append_assoc}
use Rattle.std.specs.Str.{bytes_eq}
use Rattle.ir_core.specs.Lookup.{find_function}
use Rattle.ir_core.specs.Module.{Function, Module}
use Rattle.ir_core.specs.WellFormed.{DifferentNames}
use Rattle.clif_names.specs.FunctionNames.{NoFunctionFault}
use Rattle.clif_names.specs.Limits.{name_limits}
use Rattle.clif_read.specs.declared.raw.RawFuncName.{RawFuncName}
use Rattle.clif_read.specs.declared.raw.RawFuncName.TheVariants as func_name
use Rattle.clif_read.specs.declared.raw.RawFunction.{RawFunction}
use Rattle.clif_meaning.specs.Instructions.{natural}
use Rattle.clif_meaning.specs.Meaning.{name_of, FunctionMeans, FunctionsMean}
use Rattle.clif_meaning.proofs.LimitLaws.{AllKept, name_kept}
use Rattle.clif_meaning.proofs.ModuleLaws.{not_negative}
use Rattle.program_run.specs.EntryName.{spelling}
use Rattle.test_directives.specs.Directives.{spelled_name, spelled_user}
use Rattle.test_directives.specs.Tests.{first_named}
use Rattle.filetest.specs.Checks.{function_spelled}
use Rattle.filetest.proofs.RunChecks.{finds_own}

-- a name within its limits is spelled in the report as in the canonical text
spells_same : (x : RawFuncName) → AllKept (name_limits x) → spelled_name x ≡ spelling (name_of x)
spells_same (func_name.Text bytes spot) k = refl
spells_same (func_name.User space number) k =
    ap (spelled_user space.number) (not_negative number.value k.1.0)
    ∙ append_assoc (codes "u" ++ decimal space.number) (codes ":") (decimal (natural number.value))

abbrev AreFree : List RawFunction → Type 0
AreFree rs = (i : ℕ) (r : RawFunction) → slice_get rs i ≡ Some r → NoFunctionFault r

later : (r : RawFunction) (rs : List RawFunction) → AreFree (r ∷ rs) → AreFree rs
later r rs free i s e = free (suc i) s e

named : (r : RawFunction) (f : Function) → FunctionMeans r f → f.name ≡ name_of r.name
named r f h = ap (λ (g : Function). g.name) h.function

same_test : (name : List ℕ) (r : RawFunction) (f : Function) → NoFunctionFault r → FunctionMeans r f → bytes_eq name (spelled_name r.name) ≡ bytes_eq name (spelling f.name)
same_test name r f free h = ap (bytes_eq name) (spells_same r.name (name_kept r free) ∙ ap spelling (sym (named r f h)))

pair_at : (rs : List RawFunction) (fs : Module) → FunctionsMean rs fs → (i : ℕ) (r : RawFunction) → slice_get rs i ≡ Some r
    → (f : Function) × (slice_get fs i ≡ Some f) × (f.name ≡ name_of r.name)
pair_at [] fs h i r e = cc
pair_at (s ∷ rs) [] h i r e = absurd h
pair_at (s ∷ rs) (f ∷ fs) h zero r e = let same : s ≡ r = cc in (f, refl, named s f h.0 ∙ ap (λ (x : RawFunction). name_of x.name) same)
pair_at (s ∷ rs) (f ∷ fs) h (suc i) r e = pair_at rs fs h.1 i r e

none_at : (rs : List RawFunction) (fs : Module) → FunctionsMean rs fs → (i : ℕ) → slice_get rs i ≡ None → slice_get fs i ≡ None
none_at [] [] h i e = refl
none_at [] (f ∷ fs) h i e = absurd h
none_at (s ∷ rs) [] h i e = absurd h
none_at (s ∷ rs) (f ∷ fs) h zero e = cc
none_at (s ∷ rs) (f ∷ fs) h (suc i) e = none_at rs fs h.1 i e

abbrev FirstPair : List RawFunction → Module → List ℕ → RawFunction → Type 0
FirstPair rs fs name r = (g : Function) × (j : ℕ) × (slice_get fs j ≡ Some g) × (function_spelled name fs ≡ Some g) × (g.name ≡ name_of r.name)

pair_step : (s : RawFunction) (rs : List RawFunction) (f : Function) (fs : Module) (name : List ℕ) (r : RawFunction) → NoFunctionFault s → FunctionMeans s f
    → (first_named name rs ≡ Some r → FirstPair rs fs name r) → (b : Bool) → bytes_eq name (spelled_name s.name) ≡ b → first_named name (s ∷ rs) ≡ Some r → FirstPair (s ∷ rs) (f ∷ fs) name r
pair_step s rs f fs name r free h more true t e =
    let found : Some s ≡ Some r = sym (ap (λ b. if b then Some s else first_named name rs) t) ∙ e in
    let same : s ≡ r = cc in
    (f, 0, refl, ap (λ b. if b then Some f else function_spelled name fs) (sym (same_test name s f free h) ∙ t), named s f h ∙ ap (λ (x : RawFunction). name_of x.name) same)
pair_step s rs f fs name r free h more false t e =
    let rest : first_named name rs ≡ Some r = sym (ap (λ b. if b then Some s else first_named name rs) t) ∙ e in
    let (g, j, at, found, named_so) = more rest in
    (g, suc j, at, ap (λ b. if b then Some f else function_spelled name fs) (sym (same_test name s f free h) ∙ t) ∙ found, named_so)

first_pair : (rs : List RawFunction) (fs : Module) → AreFree rs → FunctionsMean rs fs → (name : List ℕ) (r : RawFunction) → first_named name rs ≡ Some r → FirstPair rs fs name r
first_pair [] fs free h name r e = cc
first_pair (s ∷ rs) [] free h name r e = absurd h
first_pair (s ∷ rs) (f ∷ fs) free h name r e =
    pair_step s rs f fs name r (free 0 s refl) h.0 (λ q. first_pair rs fs (later s rs free) h.1 name r q) (bytes_eq name (spelled_name s.name)) refl e

none_step : (s : RawFunction) (rs : List RawFunction) (f : Function) (fs : Module) (name : List ℕ) → NoFunctionFault s → FunctionMeans s f
    → (first_named name rs ≡ None → function_spelled name fs ≡ None) → (b : Bool) → bytes_eq name (spelled_name s.name) ≡ b → first_named name (s ∷ rs) ≡ None → function_spelled name (f ∷ fs) ≡ None
none_step s rs f fs name free h more true t e = let bad : Some s ≡ None = sym (ap (λ b. if b then Some s else first_named name rs) t) ∙ e in cc
none_step s rs f fs name free h more false t e =
    ap (λ b. if b then Some f else function_spelled name fs) (sym (same_test name s f free h) ∙ t)
    ∙ more (sym (ap (λ b. if b then Some s else first_named name rs) t) ∙ e)

first_none : (rs : List RawFunction) (fs : Module) → AreFree rs → FunctionsMean rs fs → (name : List ℕ) → first_named name rs ≡ None → function_spelled name fs ≡ None
first_none [] [] free h name e = refl
first_none [] (f ∷ fs) free h name e = absurd h
first_none (s ∷ rs) [] free h name e = absurd h
first_none (s ∷ rs) (f ∷ fs) free h name e =
    none_step s rs f fs name (free 0 s refl) h.0 (λ q. first_none rs fs (later s rs free) h.1 name q) (bytes_eq name (spelled_name s.name)) refl e

pub place_same : (rs : List RawFunction) (fs : Module) → AreFree rs → FunctionsMean rs fs → DifferentNames fs → (name : List ℕ) (i : ℕ)
    → slice_get rs i ≡ first_named name rs → slice_get fs i ≡ function_spelled name fs
place_same rs fs free h d name i e = go (first_named name rs) refl
  where
    go : (o : Option RawFunction) → first_named name rs ≡ o → slice_get fs i ≡ function_spelled name fs
    go None q = none_at rs fs h i (e ∙ q) ∙ sym (first_none rs fs free h name q)
    go (Some r) q =
        let (f, at, named_f) = pair_at rs fs h i r (e ∙ q) in
        let (g, j, at_j, found, named_g) = first_pair rs fs free h name r q in
        let one : Some f ≡ Some g = sym (finds_own fs d i f at) ∙ (ap (λ x. find_function x fs) (named_f ∙ sym named_g) ∙ finds_own fs d j g at_j) in
        at ∙ (one ∙ sym found)

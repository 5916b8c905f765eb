-- Which call is one of a function of the text, and which numbers are values.
use Rattle.std.proofs.Common.{◌≡◌, ℕ, zero, suc, ◌+◌, ◌<◌, Bool, true, false, ◌&&◌, List, [], ◌∷◌, length, map, drop, get_or, slice_get, ℤ, Option, Some, None, is_some, IfSome, refl, sym, ap, ◌∙◌, arith}
use Rattle.ir_semantics.specs.Values.{cons_some, value_for, values_for}
use Rattle.clif_read.specs.declared.raw.RawFunction.{RawFunction}
use Rattle.clif_read.specs.declared.raw.RawParam.{RawParam}
use Rattle.ir_core.proofs.Gets.{next_left}
use Rattle.test_directives.specs.Directives.{Call}
use Rattle.test_directives.specs.Names.{names_of, first_place}
use Rattle.test_directives.specs.Tests.{first_named, are_values, may_be_wanted, is_call}
use Rattle.test_directives.proofs.FirstNames.{found, found_none}

-- ---- numbers

both_some : {A : Type 0} (a : Option A) (b : Option (List A)) → is_some (cons_some a b) ≡ (is_some a && is_some b)
both_some None b = refl
both_some (Some x) None = refl
both_some (Some x) (Some xs) = refl

pub apart : (ps : List RawParam) (zs : List ℤ) → (length ps ≡ length zs → ⊥) → are_values ps zs ≡ false
apart [] [] differ = absurd (differ refl)
apart [] (z ∷ zs) differ = refl
apart (p ∷ ps) [] differ = refl
apart (p ∷ ps) (z ∷ zs) differ =
    both_some (value_for p.ty z) (values_for (map (λ q. q.ty) ps) zs)
    ∙ (ap (λ (b : Bool). is_some (value_for p.ty z) && b) (apart ps zs (λ e. differ (let s : suc (length ps) ≡ suc (length zs) = ap suc e in omega (arith, s)))) ∙ none (is_some (value_for p.ty z)))
  where
    none : (b : Bool) → (b && false) ≡ false
    none true = refl
    none false = refl

values_step : (ps : List RawParam) (zs : List ℤ) (i : ℕ) (p : RawParam) (z : ℤ) → slice_get ps i ≡ Some p → slice_get zs i ≡ Some z
    → are_values (drop i ps) (drop i zs) ≡ (is_some (value_for p.ty z) && are_values (drop (i + 1) ps) (drop (i + 1) zs))
values_step ps zs i p z at here =
    (λ j. are_values (next_left ps i p at j) (next_left zs i z here j))
    ∙ both_some (value_for p.ty z) (values_for (map (λ q. q.ty) (drop (i + 1) ps)) (drop (i + 1) zs))

pub values_stop : (ps : List RawParam) (zs : List ℤ) (i : ℕ) (p : RawParam) (z : ℤ) → slice_get ps i ≡ Some p → slice_get zs i ≡ Some z
    → is_some (value_for p.ty z) ≡ false → are_values (drop i ps) (drop i zs) ≡ false
values_stop ps zs i p z at here fit = values_step ps zs i p z at here ∙ ap (λ (b : Bool). b && are_values (drop (i + 1) ps) (drop (i + 1) zs)) fit

drop_all : {A : Type 0} (xs : List A) (i : ℕ) → i ≡ length xs → drop i xs ≡ []
drop_all [] zero e = refl
drop_all [] (suc i) e = absurd (omega arith)
drop_all (x ∷ xs) zero e = absurd (omega arith)
drop_all (x ∷ xs) (suc i) e = drop_all xs i (omega arith)

pub values_end : (ps : List RawParam) (zs : List ℤ) (i : ℕ) → i ≡ length ps → length ps ≡ length zs → are_values (drop i ps) (drop i zs) ≡ true
values_end ps zs i e same = (λ j. are_values (drop_all ps i e j) (drop_all zs i (e ∙ same) j))

-- ---- calls

pub place_within : (name : List ℕ) (fs : List RawFunction) (o : Option ℕ) → o ≡ first_place name (names_of fs) → IfSome o (λ k. k < length fs)
place_within name fs None e = tt
place_within name fs (Some k) e = let f = found 0 k name fs (sym e) in let same = f.1 in let l = f.3 in omega arith

pub called : (name : List ℕ) (fs : List RawFunction) (k : ℕ) → first_place name (names_of fs) ≡ Some k → slice_get fs k ≡ first_named name fs
called name fs k e = let f = found 0 k name fs e in let same : k ≡ f.0 = (let q = f.1 in omega arith) in ap (slice_get fs) same ∙ f.2

pub is_call_by : (fs : List RawFunction) (call : Call) (f : RawFunction) → first_named call.name fs ≡ Some f
    → is_call fs call ≡ (are_values f.signature.params call.numbers && may_be_wanted f call.wanted)
is_call_by fs call f e =
    ap (λ (o : Option RawFunction). elim o as (λ p. Bool) [ None ↦ false | Some g ↦ are_values g.signature.params call.numbers && may_be_wanted g call.wanted ]) e

pub no_call : (fs : List RawFunction) (call : Call) → first_place call.name (names_of fs) ≡ None → is_call fs call ≡ false
no_call fs call e =
    ap (λ (o : Option RawFunction). elim o as (λ p. Bool) [ None ↦ false | Some g ↦ are_values g.signature.params call.numbers && may_be_wanted g call.wanted ]) (found_none 0 call.name fs e)

pub get_is : {A : Type 0} (xs : List A) (i : ℕ) (x : A) → i < length xs → x ≡ get_or xs i x → slice_get xs i ≡ Some x
get_is [] i x less e = absurd (omega arith)
get_is (y ∷ ys) zero x less e = ap (λ z. Some z) (sym e)
get_is (y ∷ ys) (suc i) x less e = get_is ys i x (omega arith) e

pub is_call_at : (fs : List RawFunction) (call : Call) (k : ℕ) (f : RawFunction) → Some k ≡ first_place call.name (names_of fs) → k < length fs → f ≡ get_or fs k f
    → is_call fs call ≡ (are_values f.signature.params call.numbers && may_be_wanted f call.wanted)
is_call_at fs call k f at less here = is_call_by fs call f (sym (called call.name fs k (sym at)) ∙ get_is fs k f less here)

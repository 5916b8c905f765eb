-- Values of the types that a function declares for them: what is bound, read, computed and passed to a target.
use Rattle.std.proofs.Common.{◌≡◌, ℕ, zero, suc, ◌⊎◌, inl, inr, List, [], ◌∷◌, ◌++◌, length, map, Option, Some, None, Bool, true, false, refl, sym, ap, ◌∙◌, subst, arith, eq-eqb, ne_eqb}
use Rattle.std.specs.Prelude.{⊤, ℤ, slice_get, if◌then◌else◌}
use Rattle.std.proofs.lemmas.Bool.{cases_eq}
use Rattle.clk_num.specs.declared.width.Width.{Width}
use Rattle.clk_num.specs.declared.width.Width.TheVariants.{W8, W16, W32, W64, W128}
use Rattle.clk_num.specs.Width.{bits_of}
use Rattle.clk_num.specs.Numbers.{wrapped, fits}
use Rattle.clk_num.specs.Operations.{DataValue, widths}
use Rattle.ir_core.specs.declared.signatures.Ty.{Ty}
use Rattle.ir_core.specs.declared.instructions.Arg.{Arg}
use Rattle.ir_core.specs.declared.instructions.Arg.TheVariants as arg
use Rattle.ir_core.specs.Module.{Function}
use Rattle.ir_core.specs.Lookup.{and_then, type_of, width_of, ty_of}
use Rattle.ir_core.specs.Lists.{In}
use Rattle.ir_core.specs.Uses.{arg_values_used}
use Rattle.ir_core.proofs.Gets.{some_same}
use Rattle.ir_semantics.specs.Values.{Env, cons_some, all_of, put, bind, value_for, values_for}
use Rattle.ir_semantics.specs.Effect.{arg_value}
use Rattle.ir_semantics.specs.TypeRules.{types_of, each_some, arg_type, HaveTypes, width_at, widths_of_values}
use Rattle.ir_semantics.specs.Runs.{HaveTypes as TypesOfAll}

pub head_same : {A : Type 0} {x y : A} {xs ys : List A} → (x ∷ xs) ≡ (y ∷ ys) → x ≡ y
head_same e = cc

pub tail_same : {A : Type 0} {x y : A} {xs ys : List A} → (x ∷ xs) ≡ (y ∷ ys) → xs ≡ ys
tail_same e = cc

pub put_same : (e : Env) (v : ℕ) (x : DataValue) (w : ℕ) → w ≡ v → put e v x w ≡ Some x
put_same e v x w h = ap (λ b. if b then Some x else e w) (eq-eqb w v h)

pub put_other : (e : Env) (v : ℕ) (x : DataValue) (w : ℕ) → (w ≡ v → ⊥) → put e v x w ≡ e w
put_other e v x w h = ap (λ b. if b then Some x else e w) (ne_eqb w v h)

-- ---- values that are there, and of their types

abbrev pub Is : Env → ℕ → Type 0
Is e v = (x : DataValue) × (e v ≡ Some x)

pub record Has (e : Env) (vs : List ℕ) : Type 0 where
  pub at : (v : ℕ) → In v vs → Is e v

-- a value of a type, where a type is known
abbrev pub FitsOne : Option Ty → DataValue → Type 0
FitsOne None x = ⊤
FitsOne (Some t) x = x.width ≡ width_of t

abbrev pub FitAll : List (Option Ty) → List DataValue → Type 0
FitAll [] [] = ⊤
FitAll (o ∷ os) (x ∷ xs) = FitsOne o x × FitAll os xs
FitAll [] (x ∷ xs) = ⊥
FitAll (o ∷ os) [] = ⊥

pub record Typed (f : Function) (e : Env) : Type 0 where
  pub at : (v : ℕ) (x : DataValue) → e v ≡ Some x → FitsOne (type_of f v) x

put_is : (e : Env) (v : ℕ) (x : DataValue) (u : ℕ) → Is e u → Is (put e v x) u
put_is e v x u h = elim (cases_eq u v) [ inl q ↦ (x, put_same e v x u q) | inr q ↦ (h.0, put_other e v x u q ∙ h.1) ]

put_typed : (f : Function) (e : Env) (v : ℕ) (x : DataValue) → FitsOne (type_of f v) x → Typed f e → Typed f (put e v x)
put_typed f e v x fit typed =
    record {
      at = λ w y h.
          elim (cases_eq w v) [
            | inl q ↦ subst (λ z. FitsOne (type_of f w) z) (some_same (sym (put_same e v x w q) ∙ h)) (subst (λ u. FitsOne (type_of f u) x) (sym q) fit)
            | inr q ↦ typed.at w y (sym (put_other e v x w q) ∙ h)
          ];
    }

-- ---- binding

pub record Bound (f : Function) (o : Option Env) (defs : List ℕ) : Type 0 where
  pub env : Env
  pub is : o ≡ Some env
  pub typed : Typed f env
  pub has : Has env defs

pub bind_ok : (f : Function) (vs : List ℕ) (xs : List DataValue) (e : Env) (defs : List ℕ) → FitAll (types_of f vs) xs → Typed f e → Has e defs → Bound f (bind vs xs e) (vs ++ defs)
bind_ok f vs xs e defs fit typed h =
    let r = go vs xs e fit typed in
    record { env = r.0; is = r.1; typed = r.2; has = record { at = λ v p. elim (either vs v p) [ inl q ↦ r.3 v q | inr q ↦ r.4 v (h.at v q) ] } }
  where
    either : (us : List ℕ) (v : ℕ) → In v (us ++ defs) → In v us ⊎ In v defs
    either [] v p = inr p
    either (u ∷ us) v (inl p) = inl (inl p)
    either (u ∷ us) v (inr p) = elim (either us v p) [ inl q ↦ inl (inr q) | inr q ↦ inr q ]

    go : (us : List ℕ) (ys : List DataValue) (e0 : Env) → FitAll (types_of f us) ys → Typed f e0 → (d : Env) × (bind us ys e0 ≡ Some d) × Typed f d × ((v : ℕ) → In v us → Is d v) × ((v : ℕ) → Is e0 v → Is d v)
    go [] [] e0 fit ty = (e0, refl, ty, (λ v p. elim p [ ]), (λ v p. p))
    go [] (y ∷ ys) e0 fit ty = elim fit [ ]
    go (u ∷ us) [] e0 fit ty = elim fit [ ]
    go (u ∷ us) (y ∷ ys) e0 fit ty =
        let r = go us ys (put e0 u y) fit.1 (put_typed f e0 u y fit.0 ty) in
        (r.0, r.1, r.2, (λ v p. elim p [ inl q ↦ r.4 v (y, put_same e0 u y v q) | inr q ↦ r.3 v q ]), (λ v p. r.4 v (put_is e0 u y v p)))

-- ---- several values

pub record There (o : Option (List DataValue)) (os : List (Option Ty)) : Type 0 where
  pub values : List DataValue
  pub is : o ≡ Some values
  pub fit : FitAll os values

cons_there : {A : Type 0} (get : A → Option DataValue) (a : A) (as' : List A) (x : DataValue) (o : Option Ty) (os : List (Option Ty)) → get a ≡ Some x → FitsOne o x → There (all_of get as') os → There (all_of get (a ∷ as')) (o ∷ os)
cons_there get a as' x o os h k r = record { values = x ∷ r.values; is = ap (λ p. cons_some p (all_of get as')) h ∙ ap (cons_some (Some x)) r.is; fit = (k, r.fit) }

pub all_there : (f : Function) (e : Env) → Typed f e → (vs : List ℕ) → Has e vs → There (all_of e vs) (types_of f vs)
all_there f e typed [] h = record { values = []; is = refl; fit = tt }
all_there f e typed (v ∷ vs) h =
    let a = h.at v (inl refl) in
    cons_there e v vs a.0 (type_of f v) (types_of f vs) a.1 (typed.at v a.0 a.1) (all_there f e typed vs (record { at = λ u p. h.at u (inr p) }))

-- each of the types is known
abbrev pub EachSome : List (Option Ty) → Type 0
EachSome [] = ⊤
EachSome (None ∷ os) = ⊥
EachSome (Some t ∷ os) = EachSome os

get_there : (ts : List Ty) (xs : List DataValue) → FitAll (each_some ts) xs → (i : ℕ) (t : Ty) → slice_get ts i ≡ Some t → (x : DataValue) × (slice_get xs i ≡ Some x) × (x.width ≡ width_of t)
get_there [] xs fit i t h = cc
get_there (u ∷ ts) [] fit i t h = elim fit [ ]
get_there (u ∷ ts) (x ∷ xs) fit zero t h = (x, refl, fit.0 ∙ ap width_of (some_same h))
get_there (u ∷ ts) (x ∷ xs) fit (suc i) t h = get_there ts xs fit.1 i t h

-- the arguments of a target, where results and payloads are of these types
module _ (f : Function) (e : Env) (typed : Typed f e) (rt pt : List Ty) (results payloads : List DataValue) (fit_results : FitAll (each_some rt) results) (fit_payloads : FitAll (each_some pt) payloads) where
  pub args_there : (as' : List Arg) (os : List (Option Ty)) → map (arg_type f rt pt) as' ≡ os → EachSome os → Has e (arg_values_used as') → There (all_of (arg_value e results payloads) as') os
  args_there [] [] h s p = record { values = []; is = refl; fit = tt }
  args_there [] (o ∷ os) h s p = cc
  args_there (a ∷ as') [] h s p = cc
  args_there (a ∷ as') (None ∷ os) h s p = elim s [ ]
  args_there (arg.Value v ∷ as') (Some t ∷ os) h s p =
      let q : type_of f v ≡ Some t = head_same h in
      let x = p.at v (inl refl) in
      cons_there (arg_value e results payloads) (arg.Value v) as' x.0 (Some t) os x.1 (subst (λ o. FitsOne o x.0) q (typed.at v x.0 x.1)) (args_there as' os (tail_same h) s (record { at = λ u r. p.at u (inr r) }))
  args_there (arg.Ret i ∷ as') (Some t ∷ os) h s p =
      let q : slice_get rt i ≡ Some t = head_same h in
      let x = get_there rt results fit_results i t q in
      cons_there (arg_value e results payloads) (arg.Ret i) as' x.0 (Some t) os x.1 x.2 (args_there as' os (tail_same h) s p)
  args_there (arg.Exn i ∷ as') (Some t ∷ os) h s p =
      let q : slice_get pt i ≡ Some t = head_same h in
      let x = get_there pt payloads fit_payloads i t q in
      cons_there (arg_value e results payloads) (arg.Exn i) as' x.0 (Some t) os x.1 x.2 (args_there as' os (tail_same h) s p)

-- ---- where values of the types come from

pub no_values_fit : (f : Function) (vs : List ℕ) → length vs ≡ 0 → FitAll (types_of f vs) []
no_values_fit f [] h = tt
no_values_fit f (v ∷ vs) h = absurd (omega arith)

-- a row's results
pub width_ty : (w : Width) → width_of (ty_of w) ≡ w
width_ty W8 = refl
width_ty W16 = refl
width_ty W32 = refl
width_ty W64 = refl
width_ty W128 = refl

own_widths : (ys : List DataValue) → FitAll (each_some (map ty_of (widths ys))) ys
own_widths [] = tt
own_widths (y ∷ ys) = (sym (width_ty y.width), own_widths ys)

pub widths_fit : (f : Function) (vs : List ℕ) (ws : List Width) → HaveTypes f vs (map ty_of ws) → (ys : List DataValue) → widths ys ≡ ws → FitAll (types_of f vs) ys
widths_fit f vs ws have ys h = subst (λ os. FitAll os ys) (sym have) (subst (λ z. FitAll (each_some (map ty_of z)) ys) h (own_widths ys))

-- the widths of an operation's operands
pub then_some : {A B : Type 0} (o : Option A) (go : A → Option B) (b : B) → and_then o go ≡ Some b → (a : A) × (o ≡ Some a) × (go a ≡ Some b)
then_some None go b h = cc
then_some (Some a) go b h = (a, refl, h)

pub both_some : {A : Type 0} (o : Option A) (p : Option (List A)) (ys : List A) → cons_some o p ≡ Some ys → (a : A) × (as' : List A) × (o ≡ Some a) × (p ≡ Some as') × (a ∷ as' ≡ ys)
both_some None p ys h = cc
both_some (Some a) None ys h = cc
both_some (Some a) (Some as') ys h = (a, as', refl, refl, some_same h)

pub operand_widths : (f : Function) (vs : List ℕ) (xs : List DataValue) (ws : List Width) → widths_of_values f vs ≡ Some ws → FitAll (types_of f vs) xs → widths xs ≡ ws
operand_widths f [] [] ws h fit = some_same h
operand_widths f [] (x ∷ xs) ws h fit = elim fit [ ]
operand_widths f (v ∷ vs) [] ws h fit = elim fit [ ]
operand_widths f (v ∷ vs) (x ∷ xs) ws h fit =
    let r = both_some (width_at f v) (widths_of_values f vs) ws h in
    let t = then_some (type_of f v) (λ t. Some (width_of t)) r.0 r.2 in
    let one : x.width ≡ r.0 = subst (λ o. FitsOne o x) t.1 fit.0 ∙ some_same t.2 in
    let more : widths xs ≡ r.1 = operand_widths f vs xs r.1 r.3 fit.1 in
    ap (λ z. z ∷ widths xs) one ∙ ap (λ z. r.0 ∷ z) more ∙ r.4

-- a host's values
value_fits : (t : Ty) (z : ℤ) (x : DataValue) → value_for t z ≡ Some x → x.width ≡ width_of t
value_fits t z x h = go (fits (bits_of (width_of t)) z) h
  where
    go : (c : Bool) → (if c then Some (record { width = width_of t; value = wrapped (bits_of (width_of t)) z }) else None) ≡ Some x → x.width ≡ width_of t
    go true q = ap (λ (y : DataValue). y.width) (sym (some_same q))
    go false q = cc

pub host_values_fit : (ts : List Ty) (zs : List ℤ) (xs : List DataValue) → values_for ts zs ≡ Some xs → FitAll (each_some ts) xs
host_values_fit [] [] xs h = subst (λ z. FitAll [] z) (some_same h) tt
host_values_fit [] (z ∷ zs) xs h = cc
host_values_fit (t ∷ ts) [] xs h = cc
host_values_fit (t ∷ ts) (z ∷ zs) xs h =
    let r = both_some (value_for t z) (values_for ts zs) xs h in
    subst (λ y. FitAll (each_some (t ∷ ts)) y) r.4 (value_fits t z r.0 r.2, host_values_fit ts zs r.1 r.3)

-- an entry's arguments
pub entry_values_fit : (ts : List Ty) (xs : List DataValue) → TypesOfAll ts xs → FitAll (each_some ts) xs
entry_values_fit [] [] h = tt
entry_values_fit [] (x ∷ xs) h = elim h [ ]
entry_values_fit (t ∷ ts) [] h = elim h [ ]
entry_values_fit (t ∷ ts) (x ∷ xs) h = (h.0.0, entry_values_fit ts xs h.1)

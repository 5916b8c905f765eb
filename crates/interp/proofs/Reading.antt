-- Values read and bound one after another.
use Rattle.std.proofs.Common.{◌≡◌, ℕ, suc, ◌+◌, ◌<◌, List, [], ◌∷◌, ◌++◌, length, drop, Option, Some, None, get_or, refl, arith, ap, ◌∙◌, sym, drop-cons, ◌≢◌, append-nil, append_assoc}
use Rattle.std.proofs.Math.Seq.{drop-length}
use Rattle.std.proofs.Math.Numerals.{add-one}
use Rattle.clk_num.specs.declared.bits.Bits.{Bits}
use Rattle.clk_num.specs.Operations.{DataValue}
use Rattle.clk_num.specs.Views.{data_of, data_of_all}
use Rattle.ir_semantics.specs.Values.{Env, cons_some, all_of, join, put, bind}

pub next_some : {B : Type 0} (out : List B) (x : B) (o : Option (List B)) → join (Some out) (cons_some (Some x) o) ≡ join (Some (out ++ x ∷ [])) o
next_some out x None = refl
next_some out x (Some ys) = ap Some (sym (append_assoc out (x ∷ []) ys))

pub next_none : {B : Type 0} (out : List B) (o : Option (List B)) → join (Some out) (cons_some None o) ≡ None
next_none out None = refl
next_none out (Some ys) = refl

pub more : (out : List Bits) (x : Bits) → data_of_all (out ++ x ∷ []) ≡ data_of_all out ++ data_of x ∷ []
more [] x = refl
more (y ∷ ys) x = ap (λ t. data_of y ∷ t) (more ys x)

pub all_end : {A : Type 0} (get : A → Option DataValue) (as' : List A) (i : ℕ) (out : List DataValue) → i ≡ length as' → join (Some out) (all_of get (drop i as')) ≡ Some out
all_end get as' i out e = rw (e, drop-length as') (ap Some (append-nil out))

pub bind_apart : (ns : List ℕ) (xs : List Bits) (e : Env) → length ns ≢ length xs → bind ns (data_of_all xs) e ≡ None
bind_apart [] [] e h = absurd (h refl)
bind_apart [] (x ∷ xs) e h = refl
bind_apart (n ∷ ns) [] e h = refl
bind_apart (n ∷ ns) (x ∷ xs) e h = bind_apart ns xs (put e n (data_of x)) (λ q. h (ap suc q))

pub bind_step : (ns : List ℕ) (xs : List Bits) (i dn : ℕ) (d : Bits) (e : Env) → i < length ns → length ns ≡ length xs → bind (drop (i + 1) ns) (data_of_all (drop (i + 1) xs)) (put e (get_or ns i dn) (data_of (get_or xs i d))) ≡ bind (drop i ns) (data_of_all (drop i xs)) e
bind_step ns xs i dn d e h q = let k : i < length xs = omega arith in rw (drop-cons ns i dn h, drop-cons xs i d k, add-one i) refl

-- the same as code finds it
pub bind_next : (ns : List ℕ) (xs : List Bits) (i v dn : ℕ) (x d : Bits) (e : Env) → i < length ns → length ns ≡ length xs → v ≡ get_or ns i dn → x ≡ get_or xs i d → bind (drop (i + 1) ns) (data_of_all (drop (i + 1) xs)) (put e v (data_of x)) ≡ bind (drop i ns) (data_of_all (drop i xs)) e
bind_next ns xs i v dn x d e h q ev ex =
    ap (λ k. bind (drop (i + 1) ns) (data_of_all (drop (i + 1) xs)) (put e k (data_of x))) ev
    ∙ (ap (λ (t : Bits). bind (drop (i + 1) ns) (data_of_all (drop (i + 1) xs)) (put e (get_or ns i dn) (data_of t))) ex
    ∙ bind_step ns xs i dn d e h q)

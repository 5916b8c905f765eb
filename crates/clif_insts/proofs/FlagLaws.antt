-- Memory flags are read as the grammar says: after `big` no `little`, and after `little` no `big`.
use Rattle.std.proofs.Common.{◌≡◌, ℕ, Bool, true, false, cond, ◌==◌, ◌||◌, List, [], ◌∷◌, ◌++◌, length, map, Some, None, Ok, Err, inl, inr, refl, sym, ap, ◌∙◌}
use Rattle.std.proofs.lemmas.List.{append-nil}
use Rattle.std.proofs.lemmas.Bool.{eqb-true}
use Rattle.grammar.specs.Rules.{Lexeme, Rule, Opt, Many, Tree, Unsupported, Out, heads, firsts, ◌>>=◌}
use Rattle.clif_words.specs.declared.class.Class.{Class}
use Rattle.clif_words.specs.declared.class.Class.TheVariants as classes
use Rattle.clif_insts.specs.declared.flags.Order.{Order}
use Rattle.clif_insts.specs.declared.flags.Order.TheVariants as orders
use Rattle.clif_insts.specs.declared.raw.RawFlag.{RawFlag}
use Rattle.clif_insts.specs.declared.raw.RawFlag.TheVariants as flag_words
use Rattle.clif_words.specs.Classes.{code}
use Rattle.clif_words.specs.Terminals.{◌then◌, ◌or◌, one, codes_of}
use Rattle.clif_insts.specs.Grammar.{plain_flag, flags}
use Rattle.token_reader.specs.Reading.{next_is, name_at, each, with_front}
use Rattle.clif_insts.specs.Flags.{flag_of, begins_plain_flag, plain_flag_at, plain_flags_at, order_class, order_flag, ordered_flag_at, ordered_flags_at, flags_at}
use Rattle.token_reader.specs.Values.{either, ◌otherwise◌, perhaps, never}
use Rattle.clif_insts.specs.Values.{plain_flag_value, from_big, from_little, flags_value}
use Rattle.token_reader.proofs.Seen.{Is, then_is, map_is, also, opt_is, alt_is, many_is, refuse_is, name_is}

plain_flag_is : Is plain_flag plain_flag_value plain_flag_at
unfolding plain_flag_at
plain_flag_is = alt_is (map_is (name_is classes.Flag) (λ x. flag_of x.number)) (alt_is (map_is (name_is classes.Vmctx) (λ x. flag_words.Vmctx)) (refuse_is (classes.TrapCode ∷ classes.UserTrap ∷ []) Unsupported never))

plain_flags_is : Is (Many plain_flag) (map plain_flag_value) plain_flags_at
unfolding plain_flags_at
plain_flags_is = map_is (many_is plain_flag_is) (λ fs. fs)

ordered_flag_is : (order : Order) → Is (plain_flag or one (order_class order)) (plain_flag_value otherwise (λ x. order_flag order)) (ordered_flag_at order)
unfolding ordered_flag_at
ordered_flag_is order = alt_is plain_flag_is (map_is (name_is (order_class order)) (λ x. order_flag order))

-- the flags from the one that says the order on
abbrev Ordered : Order → Rule
Ordered order = one (order_class order) then Many (plain_flag or one (order_class order))

abbrev ordered_value : (order : Order) → Tree (Ordered order) → List RawFlag
ordered_value order v = order_flag order ∷ map (plain_flag_value otherwise (λ x. order_flag order)) v.1

abbrev more : Order → List Lexeme → Out (List RawFlag)
more order ts = each (ordered_flag_at order) (codes_of begins_plain_flag ++ code (order_class order) ∷ []) (length ts) ts

abbrev ordered_at : Order → List RawFlag → List Lexeme → Out (List RawFlag)
ordered_at order fs ts = name_at (order_class order) ts >>= λ b. more order b.1 >>= λ gs. Ok (fs ++ (order_flag order ∷ gs.0), gs.1)

ordered_is : (order : Order) (fs : List RawFlag) → Is (Ordered order) (λ v. fs ++ ordered_value order v) (ordered_at order fs)
ordered_is order fs =
    then_is (name_is (order_class order)) (Many (plain_flag or one (order_class order))) (λ b v. fs ++ (order_flag order ∷ map (plain_flag_value otherwise (λ x. order_flag order)) v))
    (λ b ts. more order ts >>= λ gs. Ok (fs ++ (order_flag order ∷ gs.0), gs.1))
    (λ b. map_is (many_is (ordered_flag_is order)) (λ gs. fs ++ (order_flag order ∷ gs)))

-- where the next token is of a class, its class is known
is_next : (c : ℕ) (x : Lexeme) → (c == x.class) ≡ true → x.class ≡ c
is_next c x h = sym (eqb-true c x.class h)

regroup : {A : Type 0} (fs : List A) (a : A) (given : Out (List A)) → with_front fs (given >>= λ y. Ok (a ∷ y.0, y.1)) ≡ (given >>= λ gs. Ok (fs ++ (a ∷ gs.0), gs.1))
regroup fs a (Ok x) = refl
regroup fs a (Err e) = refl

from_big_at : (fs : List RawFlag) (x : Lexeme) (xs : List Lexeme) → x.class ≡ code classes.Big → ordered_flags_at orders.Big fs (x ∷ xs) ≡ ordered_at orders.Big fs (x ∷ xs)
unfolding ordered_flags_at each ordered_flag_at name_at
from_big_at fs x xs h = rw h (regroup fs flag_words.Big (more orders.Big xs))

from_little_at : (fs : List RawFlag) (x : Lexeme) (xs : List Lexeme) → x.class ≡ code classes.Little → ordered_flags_at orders.Little fs (x ∷ xs) ≡ ordered_at orders.Little fs (x ∷ xs)
unfolding ordered_flags_at each ordered_flag_at name_at
from_little_at fs x xs h = rw h (regroup fs flag_words.Little (more orders.Little xs))

abbrev AnyOrder : Rule
AnyOrder = Ordered orders.Big or Ordered orders.Little

abbrev then_order : List RawFlag → List Lexeme → Out (List RawFlag)
then_order fs ts =
    cond (next_is classes.Big ts) (ordered_flags_at orders.Big fs ts)
    (cond (next_is classes.Little ts) (ordered_flags_at orders.Little fs ts) (Ok (fs, ts)))

abbrev as_ruled : List RawFlag → List Lexeme → Out (List RawFlag)
as_ruled fs ts = cond (heads (firsts AnyOrder) ts) (cond (heads (firsts (Ordered orders.Big)) ts) (ordered_at orders.Big fs ts) (ordered_at orders.Little fs ts)) (Ok (fs ++ [], ts))

choose : {A : Type 0} (b c : Bool) (p p2 q q2 r r2 : A) → (b ≡ true → p ≡ p2) → (c ≡ true → q ≡ q2) → r ≡ r2
    → cond (b || false) p (cond (c || false) q r) ≡ cond (b || (c || false)) (cond (b || false) p2 q2) r2
choose true c p p2 q q2 r r2 e f g = e refl
choose false true p p2 q q2 r r2 e f g = f refl
choose false false p p2 q q2 r r2 e f g = g

nothing_more : (fs : List RawFlag) (ts : List Lexeme) → (let o : Out (List RawFlag) = Ok (fs, ts) in o) ≡ Ok (fs ++ [], ts)
nothing_more fs ts = ap (λ (l : List RawFlag). (let o : Out (List RawFlag) = Ok (l, ts) in o)) (sym (append-nil fs))

same_order : (fs : List RawFlag) (ts : List Lexeme) → then_order fs ts ≡ as_ruled fs ts
same_order fs [] = nothing_more fs []
same_order fs (x ∷ xs) =
    choose (code classes.Big == x.class) (code classes.Little == x.class)
    (ordered_flags_at orders.Big fs (x ∷ xs)) (ordered_at orders.Big fs (x ∷ xs)) (ordered_flags_at orders.Little fs (x ∷ xs)) (ordered_at orders.Little fs (x ∷ xs)) (Ok (fs, x ∷ xs)) (Ok (fs ++ [], x ∷ xs))
    (λ h. from_big_at fs x xs (is_next (code classes.Big) x h)) (λ h. from_little_at fs x xs (is_next (code classes.Little) x h)) (nothing_more fs (x ∷ xs))

order_is : (fs : List RawFlag) → Is (Opt AnyOrder) (λ v. fs ++ perhaps [] (from_big otherwise from_little) v) (then_order fs)
order_is fs = record { same = λ ts. same_order fs ts ∙ (ruled fs).same ts }
  where
    values : (fs : List RawFlag) (v : Tree (Opt AnyOrder)) → perhaps (fs ++ []) (either (λ w. fs ++ ordered_value orders.Big w) (λ w. fs ++ ordered_value orders.Little w)) v ≡ fs ++ perhaps [] (from_big otherwise from_little) v
    values fs None = refl
    values fs (Some (inl w)) = refl
    values fs (Some (inr w)) = refl

    ruled : (fs : List RawFlag) → Is (Opt AnyOrder) (λ v. fs ++ perhaps [] (from_big otherwise from_little) v) (as_ruled fs)
    ruled fs = also (opt_is (alt_is (ordered_is orders.Big fs) (ordered_is orders.Little fs)) (fs ++ [])) (λ v. fs ++ perhaps [] (from_big otherwise from_little) v) (values fs)

pub flags_is : Is flags flags_value flags_at
unfolding flags_at
flags_is = then_is plain_flags_is (Opt AnyOrder) (λ fs v. fs ++ perhaps [] (from_big otherwise from_little) v) then_order order_is

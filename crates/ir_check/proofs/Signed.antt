-- Signatures that are compared by their numbers.
use Rattle.std.proofs.Common.{◌≡◌, ℕ, ◌<◌, List, [], ◌∷◌, length, Option, Some, None, Bool, true, false, ◌&&◌, refl, sym, ap, ap₂, ◌∙◌}
use Rattle.std.specs.Prelude.{slice_get}
use Rattle.std.specs.Cmp.Lexicographic.{pointwise}
use Rattle.std.proofs.lemmas.Option.{same_Some}
use Rattle.ir_core.specs.declared.declarations.Callee.{Callee}
use Rattle.ir_core.specs.declared.signatures.Sig.{Sig}
use Rattle.ir_core.specs.Module.{Function}
use Rattle.ir_core.specs.Lookup.{find_function, param_types}
use Rattle.ir_core.specs.Signatures.{same_type, same_sig}
use Rattle.ir_core.proofs.Equal.{sig_same}
use Rattle.ir_core.proofs.Gets.{get_some}
use Rattle.sig_numbers.specs.Tables.{return_alike}
use Rattle.ir_check.specs.Twins.{same_option, same_list, some_and, if_some, declared, have_types}

pub named_twice : (sigs : List Sig) (n : ℕ) → true ≡ same_option same_sig (slice_get sigs n) (slice_get sigs n)
named_twice sigs n = by (slice_get sigs n)
  where
    by : (o : Option Sig) → true ≡ same_option same_sig o o
    by None = refl
    by (Some a) = sym (sig_same a)

-- two signatures of a function, of which the second is found as `o`
pub named_alike : (f g : Function) → g ≡ f → (k n : ℕ) → k < length f.sigs → n < length f.sigs → (r : Bool) → ((s t : Sig) → slice_get g.sigs k ≡ Some s → slice_get g.sigs n ≡ Some t → r ≡ same_sig s t) → (o : Option Sig) → o ≡ slice_get f.sigs n → r ≡ same_option same_sig (slice_get f.sigs k) o
named_alike f g same k n low high r told o e =
    let a = get_some f.sigs k low in
    let b = get_some f.sigs n high in
    told a.0 b.0 (ap (λ (z : Function). slice_get z.sigs k) same ∙ a.1) (ap (λ (z : Function). slice_get z.sigs n) same ∙ b.1)
    ∙ sym (ap₂ (λ (x y : Option Sig). same_option same_sig x y) a.1 (e ∙ b.1))

-- a declaration in the function at n, where the callee stands at i
pub declared_alike : (m now : List Function) → now ≡ m → (n : ℕ) (f : Function) → slice_get m n ≡ Some f → (c : Callee) → c.sig < length f.sigs → (i : ℕ) → i < length m → find_function c.name m ≡ slice_get m i → (r : Bool) → ((f g : Function) (s : Sig) → slice_get now n ≡ Some f → slice_get now i ≡ Some g → slice_get f.sigs c.sig ≡ Some s → r ≡ same_sig s g.sig) → r ≡ declared m f c
declared_alike m now same n f at c inside i low found r told =
    let g = get_some m i low in
    let s = get_some f.sigs c.sig inside in
    told f g.0 s.0 (ap (λ (z : List Function). slice_get z n) same ∙ at) (ap (λ (z : List Function). slice_get z i) same ∙ g.1) s.1
    ∙ sym (ap (λ (o : Option Function). if_some o (λ (h : Function). same_option same_sig (slice_get f.sigs c.sig) (Some h.sig))) (found ∙ g.1) ∙ ap (λ (o : Option Sig). same_option same_sig o (Some g.0.sig)) s.1)

-- what stands at one place of equal lists is one
pub one_function : (m now : List Function) → now ≡ m → (n : ℕ) (f g : Function) → slice_get m n ≡ Some f → slice_get now n ≡ Some g → g ≡ f
one_function m now same n f g at there = same_Some g f (sym there ∙ (ap (λ (z : List Function). slice_get z n) same ∙ at))

same_listed : {A : Type 0} (t : A → A → Bool) (xs ys : List A) → same_list t xs ys ≡ pointwise t xs ys
same_listed t [] [] = refl
same_listed t [] (y ∷ ys) = refl
same_listed t (x ∷ xs) [] = refl
same_listed t (x ∷ xs) (y ∷ ys) = ap (λ (z : Bool). t x y && z) (same_listed t xs ys)

pub returned_alike : (f g : Function) → g ≡ f → (k : ℕ) (s : Sig) → slice_get f.sigs k ≡ Some s → (r : Bool) → ((s : Sig) → slice_get g.sigs k ≡ Some s → r ≡ return_alike g.sig s) → r ≡ same_list same_type (param_types s.results) (param_types f.sig.results)
returned_alike f g same k s at r told =
    told s (ap (λ (z : Function). slice_get z.sigs k) same ∙ at)
    ∙ (ap (λ (z : Function). return_alike z.sig s) same ∙ sym (same_listed same_type (param_types s.results) (param_types f.sig.results)))

-- a tail call whose arguments have been looked at, and then the results of its signature
pub tail_rule : (f : Function) (args : List ℕ) (k : ℕ) (s : Sig) → slice_get f.sigs k ≡ Some s → (suffix passes alike : Bool) → passes ≡ (suffix && have_types f args (param_types s.params)) → alike ≡ same_list same_type (param_types s.results) (param_types f.sig.results) → (passes && alike) ≡ (suffix && some_and (slice_get f.sigs k) (λ (t : Sig). have_types f args (param_types t.params) && same_list same_type (param_types t.results) (param_types f.sig.results)))
tail_rule f args k s at suffix passes alike p a =
    ap (λ (z : Bool). z && alike) p
    ∙ (right suffix (have_types f args (param_types s.params)) alike
    ∙ (ap (λ (z : Bool). suffix && (have_types f args (param_types s.params) && z)) a
    ∙ sym (ap (λ (o : Option Sig). suffix && some_and o (λ (t : Sig). have_types f args (param_types t.params) && same_list same_type (param_types t.results) (param_types f.sig.results))) at)))
  where
    right : (p q r : Bool) → ((p && q) && r) ≡ (p && (q && r))
    right true q r = refl
    right false q r = refl

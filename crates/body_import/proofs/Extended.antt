-- An index with further keys.
use Rattle.std.proofs.Common.{◌≡◌, ℕ, ◌+◌, ◌<◌, List, [], ◌∷◌, ◌++◌, map, length, take, get_or, refl, sym, ap, ap₂, subst, ◌∙◌, append_assoc, length-append, arith}
use Rattle.std.proofs.lemmas.List.{take_more, map-append, length-map, length-take-le}
use Rattle.ir_core.specs.declared.signatures.Sig.{Sig}
use Rattle.ir_core.specs.declared.declarations.Callee.{Callee}
use Rattle.ir_core.specs.Module.{Function}
use Rattle.ir_core.specs.Lists.{Each}
use Rattle.body_import.specs.declared.declarations.Keyed.{Keyed}
use Rattle.body_import.specs.declared.declarations.Index.{Index}
use Rattle.body_import.specs.declared.places.Places.{Places}
use Rattle.body_import.specs.Keys.{Knows}
use Rattle.body_import.specs.SigKeys.{sig_key}
use Rattle.body_import.specs.CalleeKeys.{callee_key, own_key, first_sig, key_among}
use Rattle.body_import.specs.Imports.{IsKeyedOf, IsIndexOf, CanExtend, with_declarations}
use Rattle.body_import.proofs.Planned.{keys_kept}

-- one more key put behind those of the list so far
pub more_known : {A : Type 0} (key : A → List ℕ) (keys : List (List ℕ)) (xs : List A) (i : ℕ) (x : A) (k : List ℕ) (count place : ℕ) (old new : Places) → i < length xs → x ≡ get_or xs i x → k ≡ key x → count ≡ length keys → place ≡ count + i
    → ((start : ℕ) (ks : List (List ℕ)) → Knows start ks old → place ≡ start + length ks → Knows start (ks ++ (k ∷ [])) new) → Knows 0 (keys ++ map key (take i xs)) old → Knows 0 (keys ++ map key (take (i + 1) xs)) new
more_known key keys xs i x k count place old new l e ek ec ep put known =
    let so_far : length (keys ++ map key (take i xs)) ≡ length keys + i = length-append keys (map key (take i xs)) ∙ ap (λ (n : ℕ). length keys + n) (length-map (take i xs) key ∙ length-take-le i xs (omega (arith, l))) in
    let next : take (i + 1) xs ≡ take i xs ++ (x ∷ []) = take_more xs i x l ∙ ap (λ z. take i xs ++ (z ∷ [])) (sym e) in
    let same : (keys ++ map key (take i xs)) ++ (k ∷ []) ≡ keys ++ map key (take (i + 1) xs) =
    append_assoc keys (map key (take i xs)) (k ∷ []) ∙ ap (λ (z : List (List ℕ)). keys ++ z) (ap (λ (z : List ℕ). map key (take i xs) ++ (z ∷ [])) ek ∙ (sym (map-append key (take i xs) (x ∷ [])) ∙ ap (map key) (sym next))) in
    subst (λ (z : List (List ℕ)). Knows 0 z new) same (put 0 (keys ++ map key (take i xs)) known (omega (arith, ep, ec, so_far)))

own_keys : (sigs : List Sig) (cs : List Callee) → Each (λ (c : Callee). first_sig sigs c.sig ≡ c.sig) cs → map (key_among sigs) cs ≡ map own_key cs
own_keys sigs [] h = refl
own_keys sigs (c ∷ cs) h = ap₂ (λ (n : ℕ) (z : List (List ℕ)). callee_key n c ∷ z) h.0 (own_keys sigs cs h.1)

pub extended : (f : Function) (keyed : Keyed) (ss : List Sig) (cs : List Callee) → CanExtend f ss cs → Knows 0 (map sig_key f.sigs ++ map sig_key ss) keyed.sigs → Knows 0 (map (key_among f.sigs) f.callees ++ map own_key cs) keyed.callees → IsKeyedOf (with_declarations f ss cs) keyed
extended f keyed ss cs can s k =
    let all = f.sigs ++ ss in
    let keys : map (key_among f.sigs) f.callees ++ map own_key cs ≡ map (key_among all) (f.callees ++ cs) =
    ap₂ (λ (x y : List (List ℕ)). x ++ y) (sym (keys_kept f.sigs ss f.callees can.in_range)) (sym (own_keys all cs can.first)) ∙ sym (map-append (key_among all) f.callees cs) in
    record {
      sigs = subst (λ (z : List (List ℕ)). Knows 0 z keyed.sigs) (sym (map-append sig_key f.sigs ss)) s;
      callees = subst (λ (z : List (List ℕ)). Knows 0 z keyed.callees) keys k;
    }

same_keyed : (f h : Function) (keyed : Keyed) → h.sigs ≡ f.sigs → h.callees ≡ f.callees → IsKeyedOf f keyed → IsKeyedOf h keyed
same_keyed f h keyed sigs callees is =
    record {
      sigs = subst (λ (z : List Sig). Knows 0 (map sig_key z) keyed.sigs) (sym sigs) is.sigs;
      callees = subst (λ (z : List Sig). Knows 0 (map (key_among z) h.callees) keyed.callees) (sym sigs) (subst (λ (z : List Callee). Knows 0 (map (key_among f.sigs) z) keyed.callees) (sym callees) is.callees);
    }

-- a function with the same declarations has the same index
pub same_index : (f h : Function) (index : Index) → h.sigs ≡ f.sigs → h.callees ≡ f.callees → IsIndexOf f index → IsIndexOf h index
same_index f h index sigs callees is = record { keyed = λ keyed e. same_keyed f h keyed sigs callees (is.keyed keyed e) }

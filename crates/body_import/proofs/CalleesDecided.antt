-- Callee declarations are the same where their numbers are.
use Rattle.std.proofs.Common.{◌≡◌, ℕ, ◌<◌, List, [], ◌∷◌, map, length, Bool, true, false, Option, Some, None, refl, sym, ap, ap₂, ◌∙◌, arith, eq-eqb, ne_eqb, get_or}
use Rattle.std.specs.Prelude.{slice_get, nat_eq, ◌&&◌}
use Rattle.ir_core.specs.declared.names.FuncName.{FuncName}
use Rattle.ir_core.specs.declared.names.FuncName.TheVariants as name
use Rattle.ir_core.specs.declared.signatures.Sig.{Sig}
use Rattle.ir_core.specs.declared.declarations.Callee.{Callee}
use Rattle.ir_core.specs.Lookup.{same_bytes, same_name}
use Rattle.ir_core.specs.Lists.{Each}
use Rattle.ir_core.specs.Signatures.{same_sig}
use Rattle.ir_core.proofs.Gets.{get_mapped}
use Rattle.ir_semantics.specs.Import.{same_bool, same_sigs, same_callee, first_place, new_place}
use Rattle.body_import.specs.SigKeys.{sig_key}
use Rattle.body_import.specs.CalleeKeys.{colocated_number, name_key, callee_key, first_sig, key_among, renumbered, AreFirst}
use Rattle.body_import.proofs.SigsDecided.{sigs_decide}
use Rattle.body_import.proofs.Decided.{place_by_key}
use Rattle.body_import.proofs.FirstPlaces.{places_decide, place_below, each_at}
use Rattle.body_import.proofs.Imported.{here}

first_places_decide : (all : List Sig) (i j : ℕ) → same_sigs (slice_get all i) (slice_get all j) ≡ nat_eq (first_sig all i) (first_sig all j)
first_places_decide all i j = go (slice_get all i) (slice_get all j) refl refl
  where
    go : (o p : Option Sig) → slice_get all i ≡ o → slice_get all j ≡ p → same_sigs o p ≡ nat_eq (new_place same_sig all o) (new_place same_sig all p)
    go None None e f = sym (eq-eqb (length all) (length all) refl)
    go None (Some b) e f = let h = here same_sig sig_key sigs_decide all j b f in sym (ne_eqb (length all) (first_place same_sig all b) (λ q. omega (arith, q, h)))
    go (Some a) None e f = let h = here same_sig sig_key sigs_decide all i a e in sym (ne_eqb (first_place same_sig all a) (length all) (λ q. omega (arith, q, h)))
    go (Some a) (Some b) e f =
        let p = place_by_key same_sig sig_key sigs_decide all a in
        let q = place_by_key same_sig sig_key sigs_decide all b in
        sigs_decide a b
        ∙ (places_decide (map sig_key all) (sig_key a) (sig_key b) (place_below (map sig_key all) i (sig_key a) (get_mapped sig_key all i a e)) (place_below (map sig_key all) j (sig_key b) (get_mapped sig_key all j b f))
        ∙ ap₂ (λ (m n : ℕ). nat_eq m n) (sym p) (sym q))

names_decide : (a b : FuncName) → same_name a b ≡ same_bytes (name_key a) (name_key b)
names_decide (name.Text a) (name.Text b) = refl
names_decide (name.Text a) (name.User b j) = refl
names_decide (name.User a i) (name.Text b) = refl
names_decide (name.User a i) (name.User b j) = go (nat_eq a b) (nat_eq i j)
  where
    go : (x y : Bool) → (x && y) ≡ (x && (y && true))
    go true true = refl
    go true false = refl
    go false y = refl

colocated_decide : (a b : Bool) → same_bool a b ≡ nat_eq (colocated_number a) (colocated_number b)
colocated_decide true true = refl
colocated_decide true false = refl
colocated_decide false true = refl
colocated_decide false false = refl

turned : (n b s : Bool) → ((n && b) && s) ≡ (s && (b && n))
turned true true true = refl
turned true true false = refl
turned true false true = refl
turned true false false = refl
turned false true true = refl
turned false true false = refl
turned false false true = refl
turned false false false = refl

pub callees_decide : (all : List Sig) (x y : Callee) → same_callee all x y ≡ same_bytes (key_among all x) (key_among all y)
callees_decide all x y =
    turned (same_name x.name y.name) (same_bool x.colocated y.colocated) (same_sigs (slice_get all x.sig) (slice_get all y.sig))
    ∙ (ap (λ (s : Bool). s && (same_bool x.colocated y.colocated && same_name x.name y.name)) (first_places_decide all x.sig y.sig)
    ∙ ap₂ (λ (b n : Bool). nat_eq (first_sig all x.sig) (first_sig all y.sig) && (b && n)) (colocated_decide x.colocated y.colocated) (names_decide x.name y.name))

-- the key by the table of first places is that among all signatures
pub keys_among : (all : List Sig) (table : List ℕ) (cs : List Callee) → AreFirst all table → Each (λ c. c.sig < length table) cs → map (λ c. callee_key (get_or table c.sig 0) c) cs ≡ map (key_among all) (map (renumbered table) cs)
keys_among all table [] first r = refl
keys_among all table (c ∷ cs) first r = ap₂ (λ (n : ℕ) (z : List (List ℕ)). callee_key n c ∷ z) (sym (each_at (λ n. first_sig all n ≡ n) table c.sig 0 first r.0)) (keys_among all table cs first r.1)

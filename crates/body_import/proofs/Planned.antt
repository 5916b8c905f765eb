-- What a caller takes over, from the clauses of the calls that find it.
use Rattle.std.proofs.Common.{◌≡◌, ℕ, zero, suc, ◌+◌, ◌<◌, ◌≤◌, List, [], ◌∷◌, ◌++◌, map, length, Bool, true, false, Option, Some, None, refl, sym, ap, ap₂, subst, ◌∙◌, arith, get_or, length-append}
use Rattle.std.specs.Prelude.{slice_get, if◌then◌else◌}
use Rattle.std.proofs.lemmas.List.{length-map}
use Rattle.ir_core.specs.declared.signatures.Sig.{Sig}
use Rattle.ir_core.specs.declared.declarations.Callee.{Callee}
use Rattle.ir_core.specs.Module.{Function}
use Rattle.ir_core.specs.Lists.{Each, Below}
use Rattle.ir_core.specs.Signatures.{same_sig}
use Rattle.ir_core.specs.Lookup.{same_bytes}
use Rattle.ir_core.proofs.Members.{each_right}
use Rattle.ir_core.proofs.Gets.{get_mapped, get_left}
use Rattle.ir_semantics.specs.Import.{with_item, with_items, first_place, new_place, same_callee, sigs_after, sig_after, callees_with}
use Rattle.body_import.specs.declared.declarations.Keyed.{Keyed}
use Rattle.body_import.specs.declared.places.Places.{Places}
use Rattle.body_import.specs.declared.declarations.Import.{Import}
use Rattle.body_import.specs.Keys.{Knows, key_place}
use Rattle.body_import.specs.SigKeys.{sig_key}
use Rattle.body_import.specs.CalleeKeys.{callee_key, first_sig, key_among, renumbered, AreFirst}
use Rattle.body_import.specs.Compared.{IsMerged}
use Rattle.body_import.specs.Imports.{IsKeyedOf, IsImportOf}
use Rattle.body_import.proofs.SigsDecided.{sigs_decide}
use Rattle.body_import.proofs.CalleesDecided.{callees_decide}
use Rattle.body_import.proofs.Decided.{place_by_key}
use Rattle.body_import.proofs.Lists.{found_place, no_place, place_not_new}
use Rattle.body_import.proofs.FirstPlaces.{place_below, each_at}
use Rattle.body_import.proofs.Imported.{table_at, within, in_front, again}
use Rattle.body_import.proofs.NewItems.{each_new}

pub place_known : (sigs : List Sig) (s : Sig) (key key' : List ℕ) (place : ℕ) → key ≡ sig_key s → key' ≡ key → key_place 0 (map sig_key sigs) key' ≡ Some place → place ≡ first_place same_sig sigs s
place_known sigs s key key' place ek ek' e =
    let h : key_place 0 (map sig_key sigs) (sig_key s) ≡ Some place = ap (key_place 0 (map sig_key sigs)) (sym (ek' ∙ ek)) ∙ e in
    let r = (found_place 0 (map sig_key sigs) (sig_key s) place h).0 in
    let q = place_by_key same_sig sig_key sigs_decide sigs s in
    omega (arith, r, q)

pub place_unknown : (sigs : List Sig) (k : ℕ) (s : Sig) (key key' : List ℕ) → slice_get sigs k ≡ Some s → key ≡ sig_key s → key' ≡ key → key_place 0 (map sig_key sigs) key' ≡ None → ⊥
place_unknown sigs k s key key' at ek ek' e =
    let h : key_place 0 (map sig_key sigs) (sig_key s) ≡ None = ap (key_place 0 (map sig_key sigs)) (sym (ek' ∙ ek)) ∙ e in
    let n = no_place 0 (map sig_key sigs) (sig_key s) h in
    let o = place_not_new same_bytes (sig_key s) (map sig_key sigs) (place_below (map sig_key sigs) k (sig_key s) (get_mapped sig_key sigs k s at)) in
    cc

some_at : {A : Type 0} (xs : List A) (k : ℕ) → k < length xs → slice_get xs k ≡ None → ⊥
some_at [] k h e = omega (arith, h)
some_at (x ∷ xs) zero h e = cc
some_at (x ∷ xs) (suc k) h e = some_at xs k (omega (arith, h)) e

pub default_apart : (xs : List ℕ) (k d e : ℕ) → k < length xs → get_or xs k d ≡ get_or xs k e
default_apart [] k d e h = absurd (omega (arith, h))
default_apart (x ∷ xs) zero d e h = refl
default_apart (x ∷ xs) (suc k) d e h = default_apart xs k d e (omega (arith, h))

each_map : {A B : Type 0} (P : B → Type 0) (f : A → B) (xs : List A) → ((k : ℕ) (x : A) → slice_get xs k ≡ Some x → P (f x)) → Each P (map f xs)
each_map P f [] h = tt
each_map P f (x ∷ xs) h = (h 0 x refl, each_map P f xs (λ k y e. h (suc k) y e))

each_item : {A : Type 0} (P : A → Type 0) (same : A → A → Bool) (ys : List A) (x : A) → Each P ys → P x → Each P (with_item same ys x)
each_item P same [] x h p = (p, tt)
each_item P same (y ∷ ys) x h p = go (same y x) (each_item P same ys x h.1 p)
  where
    go : (b : Bool) → Each P (with_item same ys x) → Each P (if b then y ∷ ys else y ∷ with_item same ys x)
    go true i = h
    go false i = (h.0, i)

each_items : {A : Type 0} (P : A → Type 0) (same : A → A → Bool) (ys xs : List A) → Each P ys → Each P xs → Each P (with_items same ys xs)
each_items P same ys [] h p = h
each_items P same ys (x ∷ xs) h p = each_items P same (with_item same ys x) xs (each_item P same ys x h p.0) p.1

first_kept : (own more : List Sig) (k : ℕ) → k < length own → first_sig (own ++ more) k ≡ first_sig own k
first_kept own more k h = ap (new_place same_sig (own ++ more)) (get_left own more k h) ∙ go (slice_get own k) refl
  where
    go : (o : Option Sig) → slice_get own k ≡ o → new_place same_sig (own ++ more) o ≡ new_place same_sig own o
    go None e = absurd (some_at own k h e)
    go (Some s) e = in_front same_sig sig_key sigs_decide own more k s e

pub keys_kept : (own more : List Sig) (cs : List Callee) → Each (λ (c : Callee). c.sig < length own) cs → map (key_among (own ++ more)) cs ≡ map (key_among own) cs
keys_kept own more [] h = refl
keys_kept own more (c ∷ cs) h = ap₂ (λ (n : ℕ) (z : List (List ℕ)). callee_key n c ∷ z) (first_kept own more c.sig h.0) (keys_kept own more cs h.1)

pub are_first : (own xs : List Sig) (table : List ℕ) → table ≡ map (first_place same_sig (with_items same_sig own xs)) xs → AreFirst (with_items same_sig own xs) table
are_first own xs table e =
    let all = with_items same_sig own xs in
    subst (λ (z : List ℕ). AreFirst all z) (sym e) (each_map (λ n. first_sig all n ≡ n) (first_place same_sig all) xs (λ k x at. again same_sig sig_key sigs_decide all x (within same_sig sig_key sigs_decide own xs k x at)))

-- the keys by a table of first places
pub first_keys : (sigs : List Sig) (table : List ℕ) (cs : List Callee) → table ≡ map (first_place same_sig sigs) sigs → Each (λ (c : Callee). c.sig < length sigs) cs → map (λ (c : Callee). callee_key (get_or table c.sig 0) c) cs ≡ map (key_among sigs) cs
first_keys sigs table [] e h = refl
first_keys sigs table (c ∷ cs) e h =
    let n = ap length e ∙ length-map sigs (first_place same_sig sigs) in
    let l : c.sig < length table = let q = h.0 in omega (arith, q, n) in
    ap₂ (λ (k : ℕ) (z : List (List ℕ)). callee_key k c ∷ z) (default_apart table c.sig 0 (length sigs) l ∙ (ap (λ (z : List ℕ). get_or z c.sig (length sigs)) e ∙ sym (at sigs c.sig))) (first_keys sigs table cs e h.1)
  where
    at : (xs : List Sig) (k : ℕ) → new_place same_sig sigs (slice_get xs k) ≡ get_or (map (first_place same_sig sigs) xs) k (length sigs)
    at [] k = refl
    at (x ∷ xs) zero = refl
    at (x ∷ xs) (suc k) = at xs k

module _ (f g : Function) where
  moved_is : (table : List ℕ) (n : ℕ) (cs : List Callee) → ((k : ℕ) → sig_after f g k ≡ get_or table k n) → Each (λ (c : Callee). c.sig < length table) cs → callees_with f g cs ≡ map (renumbered table) cs
  moved_is table n [] e h = refl
  moved_is table n (c ∷ cs) e h = ap₂ (λ (k : ℕ) (z : List Callee). record { name = c.name; colocated = c.colocated; sig = k } ∷ z) (e c.sig ∙ default_apart table c.sig n 0 h.0) (moved_is table n cs e h.1)

  pub imported : (i : Import) → Each (λ (c : Callee). c.sig < length f.sigs) f.callees → Each (λ (c : Callee). c.sig < length g.sigs) g.callees
      → sigs_after f g ≡ f.sigs ++ i.sigs.added
      → i.sigs.table ≡ map (first_place same_sig (sigs_after f g)) g.sigs
      → with_items (same_callee (sigs_after f g)) f.callees (map (renumbered i.sigs.table) g.callees) ≡ f.callees ++ i.callees.added
      → i.callees.table ≡ map (first_place (same_callee (sigs_after f g)) (with_items (same_callee (sigs_after f g)) f.callees (map (renumbered i.sigs.table) g.callees))) (map (renumbered i.sigs.table) g.callees)
      → length i.sigs.added ≤ length g.sigs → length i.callees.added ≤ length g.callees
      → IsImportOf f g i
  imported i fr gr sa st ca ct sf cf =
      let all = sigs_after f g in
      let n : length all ≡ length f.sigs + length i.sigs.added = ap length sa ∙ length-append f.sigs i.sigs.added in
      let sn : length i.sigs.table ≡ length g.sigs = ap length st ∙ length-map g.sigs (first_place same_sig all) in
      let sig : (k : ℕ) → sig_after f g k ≡ get_or i.sigs.table k (length f.sigs + length i.sigs.added) = λ k. table_at same_sig sig_key sigs_decide f.sigs g.sigs i.sigs.table st k ∙ ap (get_or i.sigs.table k) n in
      let cr : Each (λ (c : Callee). c.sig < length i.sigs.table) g.callees = subst (λ (z : ℕ). Each (λ (c : Callee). c.sig < z) g.callees) (sym sn) gr in
      let cs = map (renumbered i.sigs.table) g.callees in
      let moved : callees_with f g g.callees ≡ cs = moved_is i.sigs.table (length f.sigs + length i.sigs.added) g.callees sig cr in
      let same = same_callee all in
      let cn : length (with_items same f.callees cs) ≡ length f.callees + length i.callees.added = ap length ca ∙ length-append f.callees i.callees.added in
      let below : Below (length f.sigs + length i.sigs.added) i.sigs.table = subst (λ (z : ℕ). Below z i.sigs.table) n (subst (λ (z : List ℕ). Below (length all) z) (sym st) (each_map (λ k. k < length all) (first_place same_sig all) g.sigs (λ k x at. within same_sig sig_key sigs_decide f.sigs g.sigs k x at))) in
      let P : Callee → Type 0 = λ c. c.sig < length f.sigs + length i.sigs.added in
      record {
        sigs = sa;
        sig = sig;
        callees = ap (with_items same f.callees) moved ∙ ca;
        callee = λ k. ap (λ (z : List Callee). new_place same (with_items same f.callees z) (slice_get z k)) moved ∙ (table_at same (key_among all) (callees_decide all) f.callees cs i.callees.table ct k ∙ ap (get_or i.callees.table k) cn);
        sig_table = sn;
        callee_table = ap length ct ∙ (length-map cs (first_place same (with_items same f.callees cs)) ∙ length-map g.callees (renumbered i.sigs.table));
        sigs_below = below;
        callees_below = subst (λ (z : ℕ). Below z i.callees.table) cn (subst (λ (z : List ℕ). Below (length (with_items same f.callees cs)) z) (sym ct) (each_map (λ k. k < length (with_items same f.callees cs)) (first_place same (with_items same f.callees cs)) cs (λ k x at. within same (key_among all) (callees_decide all) f.callees cs k x at)));
        in_range = each_right P f.callees i.callees.added (subst (λ (z : List Callee). Each P z) ca (each_items P same f.callees cs (wider f.callees fr) (renumbered_below i.sigs.table (length f.sigs + length i.sigs.added) g.callees below cr)));
        first = subst (λ (z : List Sig). Each (λ (c : Callee). first_sig z c.sig ≡ c.sig) i.callees.added) sa (each_new (λ (c : Callee). first_sig all c.sig ≡ c.sig) same f.callees cs i.callees.added (renumbered_first i.sigs.table g.callees (are_first f.sigs g.sigs i.sigs.table st) cr) ca);
        fewer_sigs = sf;
        fewer_callees = cf;
      }
    where
      wider : (xs : List Callee) → Each (λ (c : Callee). c.sig < length f.sigs) xs → Each (λ (c : Callee). c.sig < length f.sigs + length i.sigs.added) xs
      wider [] h = tt
      wider (c ∷ xs) h = (let q = h.0 in omega (arith, q), wider xs h.1)

      at_below : (xs : List ℕ) (k m : ℕ) → Below m xs → k < length xs → get_or xs k 0 < m
      at_below [] k m b h = absurd (omega (arith, h))
      at_below (x ∷ xs) zero m b h = b.0
      at_below (x ∷ xs) (suc k) m b h = at_below xs k m b.1 (omega (arith, h))

      renumbered_below : (table : List ℕ) (m : ℕ) (xs : List Callee) → Below m table → Each (λ (c : Callee). c.sig < length table) xs → Each (λ (c : Callee). c.sig < m) (map (renumbered table) xs)
      renumbered_below table m [] b h = tt
      renumbered_below table m (c ∷ xs) b h = (at_below table c.sig m b h.0, renumbered_below table m xs b h.1)

      renumbered_first : (table : List ℕ) (xs : List Callee) → AreFirst (sigs_after f g) table → Each (λ (c : Callee). c.sig < length table) xs → Each (λ (c : Callee). first_sig (sigs_after f g) c.sig ≡ c.sig) (map (renumbered table) xs)
      renumbered_first table [] first h = tt
      renumbered_first table (c ∷ xs) first h = (each_at (λ n. first_sig (sigs_after f g) n ≡ n) table c.sig 0 first h.0, renumbered_first table xs first h.1)

pub indexed : (f : Function) (sp cp : Places) (ss ss' : List Sig) (cs : List Callee) (table table' : List ℕ) → ss ≡ f.sigs → ss' ≡ f.sigs → cs ≡ f.callees → table' ≡ table → Each (λ (c : Callee). c.sig < length f.sigs) f.callees
    → Knows 0 (map sig_key ss) sp → (Knows 0 (map sig_key ss') sp → table ≡ map (first_place same_sig ss') ss') → Knows 0 (map (λ (c : Callee). callee_key (get_or table' c.sig 0) c) cs) cp → IsKeyedOf f (record { sigs = sp; callees = cp })
indexed f sp cp ss ss' cs table table' e1 e2 e3 e4 r h1 h2 h3 =
    let k : Knows 0 (map sig_key f.sigs) sp = subst (λ (z : List Sig). Knows 0 (map sig_key z) sp) e1 h1 in
    let t : table ≡ map (first_place same_sig f.sigs) f.sigs = subst (λ (z : List Sig). table ≡ map (first_place same_sig z) z) e2 (h2 (subst (λ (z : List Sig). Knows 0 (map sig_key z) sp) (sym e2) k)) in
    let q : Knows 0 (map (λ (c : Callee). callee_key (get_or table c.sig 0) c) f.callees) cp = subst (λ (z : List ℕ). Knows 0 (map (λ (c : Callee). callee_key (get_or z c.sig 0) c) f.callees) cp) e4 (subst (λ (z : List Callee). Knows 0 (map (λ (c : Callee). callee_key (get_or table' c.sig 0) c) z) cp) e3 h3) in
    record { sigs = k; callees = subst (λ (z : List (List ℕ)). Knows 0 z cp) (first_keys f.sigs table f.callees t r) q }

pub planned : (f g : Function) (keyed : Keyed) (i : Import) (n m : ℕ) (ss : List Sig) (cs : List Callee) (table : List ℕ)
    → IsKeyedOf f keyed → Each (λ (c : Callee). c.sig < length f.sigs) f.callees → Each (λ (c : Callee). c.sig < length g.sigs) g.callees
    → n ≡ length f.sigs → m ≡ length f.callees → ss ≡ g.sigs → cs ≡ g.callees → table ≡ i.sigs.table
    → ((own : List Sig) → Knows 0 (map sig_key own) keyed.sigs → n ≡ length own → with_items same_sig own ss ≡ own ++ i.sigs.added)
    → ((own : List Sig) → Knows 0 (map sig_key own) keyed.sigs → n ≡ length own → i.sigs.table ≡ map (first_place same_sig (with_items same_sig own ss)) ss)
    → length i.sigs.added ≤ length ss
    → ((sigs : List Sig) (own : List Callee) → Knows 0 (map (key_among sigs) own) keyed.callees → m ≡ length own → AreFirst sigs table → with_items (same_callee sigs) own (map (renumbered table) cs) ≡ own ++ i.callees.added)
    → ((sigs : List Sig) (own : List Callee) → Knows 0 (map (key_among sigs) own) keyed.callees → m ≡ length own → AreFirst sigs table → i.callees.table ≡ map (first_place (same_callee sigs) (with_items (same_callee sigs) own (map (renumbered table) cs))) (map (renumbered table) cs))
    → length i.callees.added ≤ length cs
    → IsImportOf f g i
planned f g keyed i n m ss cs table known fr gr en em es ec et sa st sf ca ct cf =
    let all = sigs_after f g in
    let sa' : sigs_after f g ≡ f.sigs ++ i.sigs.added = subst (λ (z : List Sig). with_items same_sig f.sigs z ≡ f.sigs ++ i.sigs.added) es (sa f.sigs known.sigs en) in
    let st' : i.sigs.table ≡ map (first_place same_sig (sigs_after f g)) g.sigs = subst (λ (z : List Sig). i.sigs.table ≡ map (first_place same_sig (with_items same_sig f.sigs z)) z) es (st f.sigs known.sigs en) in
    let kept : map (key_among f.sigs) f.callees ≡ map (key_among all) f.callees = sym (ap (λ (z : List Sig). map (key_among z) f.callees) sa' ∙ keys_kept f.sigs i.sigs.added f.callees fr) in
    let knows : Knows 0 (map (key_among all) f.callees) keyed.callees = subst (λ (z : List (List ℕ)). Knows 0 z keyed.callees) kept known.callees in
    let first : AreFirst all table = subst (λ (z : List ℕ). AreFirst all z) (sym et) (are_first f.sigs g.sigs i.sigs.table st') in
    let P : List ℕ → List Callee → Type 0 = λ t k. with_items (same_callee all) f.callees (map (renumbered t) k) ≡ f.callees ++ i.callees.added in
    let Q : List ℕ → List Callee → Type 0 = λ t k. i.callees.table ≡ map (first_place (same_callee all) (with_items (same_callee all) f.callees (map (renumbered t) k))) (map (renumbered t) k) in
    imported f g i fr gr sa' st'
    (subst (λ (z : List ℕ). P z g.callees) et (subst (λ (z : List Callee). P table z) ec (ca all f.callees knows em first)))
    (subst (λ (z : List ℕ). Q z g.callees) et (subst (λ (z : List Callee). Q table z) ec (ct all f.callees knows em first)))
    (subst (λ (z : List Sig). length i.sigs.added ≤ length z) es sf)
    (subst (λ (z : List Callee). length i.callees.added ≤ length z) ec cf)

pub compared : (f g : Function) (i : Import) (os os' ss as' : List Sig) (oc cs : List Callee) (table : List ℕ)
    → Each (λ (c : Callee). c.sig < length f.sigs) f.callees → Each (λ (c : Callee). c.sig < length g.sigs) g.callees
    → os ≡ f.sigs → os' ≡ f.sigs → ss ≡ g.sigs → as' ≡ i.sigs.added → oc ≡ f.callees → cs ≡ g.callees → table ≡ i.sigs.table
    → IsMerged same_sig os ss i.sigs.added i.sigs.table → IsMerged (same_callee (os' ++ as')) oc (map (renumbered table) cs) i.callees.added i.callees.table
    → IsImportOf f g i
compared f g i os os' ss as' oc cs table fr gr eo eo' es ea ec ek et sigs callees =
    let s : IsMerged same_sig f.sigs g.sigs i.sigs.added i.sigs.table = subst (λ (z : List Sig). IsMerged same_sig z g.sigs i.sigs.added i.sigs.table) eo (subst (λ (z : List Sig). IsMerged same_sig os z i.sigs.added i.sigs.table) es sigs) in
    let all : os' ++ as' ≡ sigs_after f g = ap₂ (λ (x y : List Sig). x ++ y) eo' ea ∙ sym s.list in
    let moved : map (renumbered table) cs ≡ map (renumbered i.sigs.table) g.callees = ap₂ (λ (t : List ℕ) (z : List Callee). map (renumbered t) z) et ek in
    let k : IsMerged (same_callee (sigs_after f g)) f.callees (map (renumbered i.sigs.table) g.callees) i.callees.added i.callees.table =
    subst (λ (z : List Sig). IsMerged (same_callee z) f.callees (map (renumbered i.sigs.table) g.callees) i.callees.added i.callees.table) all
    (subst (λ (z : List Callee). IsMerged (same_callee (os' ++ as')) z (map (renumbered i.sigs.table) g.callees) i.callees.added i.callees.table) ec
    (subst (λ (z : List Callee). IsMerged (same_callee (os' ++ as')) oc z i.callees.added i.callees.table) moved callees)) in
    let n = k.fewer in
    let l = length-map g.callees (renumbered i.sigs.table) in
    imported f g i fr gr s.list s.places k.list k.places s.fewer (omega (arith, n, l))

-- A key's place, and the loop over keys.
use Rattle.std.proofs.Common.{◌≡◌, ℕ, ◌+◌, ◌<◌, List, [], ◌∷◌, ◌++◌, map, length, Bool, true, false, Some, None, refl, sym, ap, ap₂, ◌∙◌, arith, append_assoc, append-nil, length-append}
use Rattle.std.specs.Prelude.{if◌then◌else◌}
use Rattle.ir_core.specs.Lookup.{same_bytes}
use Rattle.ir_core.proofs.Equal.{bytes_same}
use Rattle.ir_semantics.specs.Import.{with_items, first_place}
use Rattle.body_import.specs.declared.places.Places.{Places}
use Rattle.body_import.specs.declared.merging.Placed.{Placed}
use Rattle.body_import.specs.Keys.{Knows, key_place}
use Rattle.body_import.specs.Merged.{news, KeyPlaced, key_places}
use Rattle.body_import.proofs.Lists.{found_place, no_place, a_place, old_stays, new_goes, old_left, new_left, place_not_new, longer}

pub old_case : (olds fresh : List (List ℕ)) (own : Places) (key : List ℕ) (place next : ℕ) → Knows (length olds) fresh own → next ≡ length olds + length fresh → key_place 0 olds key ≡ Some place → KeyPlaced olds fresh own key (record { place = place; is_new = false; next = next })
old_case olds fresh own key place next knows count e =
    let f = found_place 0 olds key place e in
    let a = f.0 in
    let b = f.1 in
    let l = old_left same_bytes key olds fresh (a_place 0 olds key place e) in
    record { fresh_now = fresh; knows = knows; list = old_stays same_bytes key (olds ++ fresh) l.0; flag = sym l.0; place = l.1 ∙ omega (arith, a); within = omega (arith, b); next = count }

pub own_case : (olds fresh : List (List ℕ)) (own : Places) (key : List ℕ) (place next : ℕ) → Knows (length olds) fresh own → next ≡ length olds + length fresh → key_place 0 olds key ≡ None → key_place (length olds) fresh key ≡ Some place → KeyPlaced olds fresh own key (record { place = place; is_new = false; next = next })
own_case olds fresh own key place next knows count none e =
    let f = found_place (length olds) fresh key place e in
    let a = f.0 in
    let b = f.1 in
    let l = new_left same_bytes key olds fresh (no_place 0 olds key none) in
    let old = l.0 ∙ a_place (length olds) fresh key place e in
    let at = l.1 in
    record { fresh_now = fresh; knows = knows; list = old_stays same_bytes key (olds ++ fresh) old; flag = sym old; place = omega (arith, a, at); within = b; next = count }

pub new_case : (olds fresh : List (List ℕ)) (own : Places) (key : List ℕ) (next : ℕ) → Knows (length olds) (fresh ++ (key ∷ [])) own → next ≡ length olds + length fresh → key_place 0 olds key ≡ None → key_place (length olds) fresh key ≡ None → KeyPlaced olds fresh own key (record { place = next; is_new = true; next = next + 1 })
new_case olds fresh own key next knows count none e =
    let n = no_place 0 olds key none in
    let m = no_place (length olds) fresh key e in
    let l = new_left same_bytes key olds fresh n in
    let at = (new_left same_bytes key olds (fresh ++ (key ∷ [])) n).1 in
    let here = (new_left same_bytes key fresh (key ∷ []) m).1 in
    let itself : first_place same_bytes (key ∷ []) key ≡ 0 = ap (λ b. if b then 0 else 1) (bytes_same key) in
    let long = length-append fresh (key ∷ []) in
    record {
      fresh_now = fresh ++ (key ∷ []);
      knows = knows;
      list = new_goes same_bytes key (olds ++ fresh) (l.0 ∙ m) ∙ append_assoc olds fresh (key ∷ []);
      flag = sym (l.0 ∙ m);
      place = omega (arith, at, here, itself, count);
      within = omega (arith, count, long);
      next = omega (arith, count, long);
    }

-- ---- the loop: of the keys `all` those of `rest` are left

pub record Merging (olds : List (List ℕ)) (own : Places) (next : ℕ) (places : List ℕ) (flags : List Bool) (all rest : List (List ℕ)) : Type 0 where
  pub fresh : List (List ℕ)
  pub knows : Knows (length olds) fresh own
  pub count : next ≡ length olds + length fresh
  pub left : with_items same_bytes (olds ++ fresh) rest ≡ with_items same_bytes olds all
  pub placed : places ++ map (first_place same_bytes (with_items same_bytes olds all)) rest ≡ key_places olds all
  pub flagged : flags ++ news same_bytes (olds ++ fresh) rest ≡ news same_bytes olds all

pub merge_start : (olds : List (List ℕ)) (own : Places) (next : ℕ) (all : List (List ℕ)) → Knows (length olds) [] own → next ≡ length olds → Merging olds own next [] [] all all
merge_start olds own next all knows count =
    record {
      fresh = [];
      knows = knows;
      count = omega (arith, count);
      left = ap (λ z. with_items same_bytes z all) (append-nil olds);
      placed = refl;
      flagged = ap (λ z. news same_bytes z all) (append-nil olds);
    }

pub merge_step : (olds : List (List ℕ)) (own own' : Places) (next : ℕ) (places places' : List ℕ) (flags flags' : List Bool) (all rest : List (List ℕ)) (k : List ℕ) (q : Placed) (p : Merging olds own next places flags all (k ∷ rest)) → KeyPlaced olds p.fresh own' k q → places' ≡ places ++ (q.place ∷ []) → flags' ≡ flags ++ (q.is_new ∷ []) → Merging olds own' q.next places' flags' all rest
merge_step olds own own' next places places' flags flags' all rest k q p s e g =
    let now = ap (λ z. with_items same_bytes z rest) (sym s.list) ∙ p.left in
    let l = longer same_bytes (olds ++ s.fresh_now) rest in
    let inside : first_place same_bytes (olds ++ s.fresh_now) k < length (olds ++ s.fresh_now) = let a = s.place in let b = s.within in let n = length-append olds s.fresh_now in omega (arith, a, b, n) in
    let at : q.place ≡ first_place same_bytes (with_items same_bytes olds all) k =
    sym s.place ∙ (sym (old_left same_bytes k (olds ++ s.fresh_now) l.more (place_not_new same_bytes k (olds ++ s.fresh_now) inside)).1 ∙ ap (λ z. first_place same_bytes z k) (sym l.is ∙ now)) in
    record {
      fresh = s.fresh_now;
      knows = s.knows;
      count = s.next;
      left = now;
      placed =
          ap (λ (z : List ℕ). z ++ map (first_place same_bytes (with_items same_bytes olds all)) rest) e
          ∙ (append_assoc places (q.place ∷ []) (map (first_place same_bytes (with_items same_bytes olds all)) rest)
          ∙ (ap (λ (z : ℕ). places ++ (z ∷ map (first_place same_bytes (with_items same_bytes olds all)) rest)) at ∙ p.placed));
      flagged =
          ap (λ (z : List Bool). z ++ news same_bytes (olds ++ s.fresh_now) rest) g
          ∙ (append_assoc flags (q.is_new ∷ []) (news same_bytes (olds ++ s.fresh_now) rest)
          ∙ (ap₂ (λ (z : Bool) (ys : List (List ℕ)). flags ++ (z ∷ news same_bytes ys rest)) s.flag (sym s.list) ∙ p.flagged));
    }

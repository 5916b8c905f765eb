-- Whether a text stands in a line, by the first place where it does.
use Rattle.std.proofs.Common.{◌≡◌, ℕ, zero, suc, ◌+◌, ◌<◌, ◌≤◌, Bool, true, false, nat_eq, List, [], ◌∷◌, ◌++◌, length, take, drop, get_or, Option, Some, None, is_some, refl, sym, ap, ◌∙◌, arith, inl, inr, take-append-drop, length-append}
use Rattle.std.specs.List.{starts_with}
use Rattle.std.proofs.lemmas.List.{get_or_append_left, ext_get_or, length-take-le, get_or-take}
use Rattle.std.proofs.lemmas.Bool.Decides.{Decides-eqb}
use Rattle.std.proofs.lemmas.Slice.Eq.{starts_is}
use Rattle.std.proofs.lemmas.Bool.{or_cases, or_left, or_right}
use Rattle.memchr.specs.Find.{FindsNeedle, OccursAt}
use Rattle.filetest.specs.LineTests.{contains}

-- what begins with the text has it at its front
begins : (line text : List ℕ) → starts_with nat_eq line text ≡ true → OccursAt line text 0
begins line text h =
    let e : line ≡ text ++ drop (length text) line = (starts_is Decides-eqb line text true (sym h)).0 refl in
    let n : length line ≡ length text + length (drop (length text) line) = ap length e ∙ length-append text (drop (length text) line) in
    record {
      fits = omega (arith, n);
      reads = λ j l. let z : 0 + j ≡ j = omega arith in ap (λ k. get_or line k 0) z ∙ (ap (λ xs. get_or xs j 0) e ∙ get_or_append_left text (drop (length text) line) 0 j l);
    }

begins_back : (line text : List ℕ) → OccursAt line text 0 → starts_with nat_eq line text ≡ true
begins_back line text h =
    let fits : length text ≤ length line = omega (arith, h.fits) in
    let front : take (length text) line ≡ text = ext_get_or 0 (take (length text) line) text (length-take-le (length text) line fits)
    (λ i l. let m : i < length text = omega (arith, length-take-le (length text) line fits) in let z : 0 + i ≡ i = omega arith in get_or-take (length text) line i 0 m ∙ (sym (ap (λ k. get_or line k 0) z) ∙ h.reads i m)) in
    let whole : line ≡ text ++ drop (length text) line = sym (take-append-drop (length text) line) ∙ ap (λ xs. xs ++ drop (length text) line) front in
    (starts_is Decides-eqb line text (starts_with nat_eq line text) refl).1 (drop (length text) line) whole

further : (c : ℕ) (cs text : List ℕ) (k : ℕ) → OccursAt cs text k → OccursAt (c ∷ cs) text (suc k)
further c cs text k h = record {
  fits = omega (arith, h.fits);
  reads = λ j l. let e : suc k + j ≡ suc (k + j) = omega arith in ap (λ i. get_or (c ∷ cs) i 0) e ∙ h.reads j l;
}

nearer : (c : ℕ) (cs text : List ℕ) (k : ℕ) → OccursAt (c ∷ cs) text (suc k) → OccursAt cs text k
nearer c cs text k h = record {
  fits = omega (arith, h.fits);
  reads = λ j l. let e : suc k + j ≡ suc (k + j) = omega arith in sym (ap (λ i. get_or (c ∷ cs) i 0) e) ∙ h.reads j l;
}

has_place : (line text : List ℕ) → contains text line ≡ true → (k : ℕ) × (k < length line + 1) × OccursAt line text k
has_place [] text h = (0, omega arith, begins [] text h)
has_place (c ∷ cs) text h = elim (or_cases (starts_with nat_eq (c ∷ cs) text) (contains text cs) h) [
  | inl front ↦ (0, omega arith, begins (c ∷ cs) text front)
  | inr later ↦ let p = has_place cs text later in (suc p.0, omega (arith, p.1), further c cs text p.0 p.2)
]

place_has : (line text : List ℕ) (k : ℕ) → OccursAt line text k → contains text line ≡ true
place_has [] text zero h = begins_back [] text h
place_has [] text (suc k) h = absurd (omega (arith, h.fits))
place_has (c ∷ cs) text zero h = or_left (starts_with nat_eq (c ∷ cs) text) (contains text cs) (begins_back (c ∷ cs) text h)
place_has (c ∷ cs) text (suc k) h = or_right (starts_with nat_eq (c ∷ cs) text) (contains text cs) (place_has cs text k (nearer c cs text k h))

pub found_is_contained : (line text : List ℕ) (r : Option ℕ) → FindsNeedle line text 0 r → is_some r ≡ contains text line
found_is_contained line text None h = go (contains text line) refl
  where
    go : (b : Bool) → contains text line ≡ b → false ≡ b
    go false e = refl
    go true e = let p = has_place line text e in absurd (h p.0 (omega arith) p.1 p.2)
found_is_contained line text (Some k) h = sym (place_has line text k h.1)

pub longer_is_not : (line text : List ℕ) → length line < length text → false ≡ contains text line
longer_is_not line text l = go (contains text line) refl
  where
    go : (b : Bool) → contains text line ≡ b → false ≡ b
    go false e = refl
    go true e = let p = has_place line text e in absurd (omega (arith, p.2.fits, l))

use Rattle.std.proofs.Common.{◌≡◌, ℕ, cond, Some, List, ◌∷◌, [], ◌++◌, ◌+◌, ◌<◌, take, length, get_or, is_some, sym, ap, ◌∙◌, arith, length-take}
use Rattle.std.specs.Str.{bytes_eq}
use Rattle.indexmap.specs.IndexMap.{get_by}
use Rattle.std.proofs.lemmas.Grind.{take_at_read}
use Rattle.test_directives.specs.Names.{first_place}
use Rattle.test_directives.proofs.FirstNames.{inserted, kept}
use Rattle.test_directives.proofs.names.first_places.Goals as goal
use Rattle.test_directives.proofs.names.first_places.Goals.{then-not-contains_key+in_ok-insert, else-not-contains_key}

more : (names : List (List ℕ)) (i : ℕ) (x : List ℕ) → i < length names → x ≡ get_or names i x → take i names ++ x ∷ [] ≡ take (i + 1) names
more names i x less is = ap (λ (y : List ℕ). take i names ++ y ∷ []) is ∙ sym (take_at_read names i x less).1

len : (names : List (List ℕ)) (i : ℕ) → i < length names → i ≡ length (take i names)
len names i less = let l = length-take i names in omega arith

pub loop-place-preserved : goal.loop-place-preserved
loop-place-preserved c = λ name.
    let i = c.loop-place.place in
    let names = c.args.names.now in
    let x = c.index-names-place.result in
    let seen = c.loop-place.invariant name in
    let one_more = ap (first_place name) (more names i x c.loop-place-test.true c.index-names-place.is) in
    let there = ap is_some (sym (c.loop-place.invariant x)) ∙ (ap (λ (n : List ℕ). is_some (get_by (λ k. bytes_eq n k.now) c.loop-place.places)) (sym c.as_slice.ensures) ∙ sym c.contains_key.ensures) in
    elim c.if-not-contains_key.branch [
      | then-not-contains_key+in_ok-insert w ↦ (let u = w.in_ok-insert.ensures.updates.0 (record c.as_slice.result { now = name }) in
          ap (λ m. get_by (λ k. bytes_eq name k.now) m) w.places-is
          ∙ (inserted name x (take i names) i (get_by (λ k. bytes_eq name k.now) w.insert.new.self) (there ∙ w.if-not-contains_key.true) (len names i c.loop-place-test.true)
          (u ∙ (λ j. cond (bytes_eq (w.as_slice-then-not-contains_key.ensures j) name) (Some i) (seen j))) ∙ one_more))
      | else-not-contains_key w ↦
          ap (λ m. get_by (λ k. bytes_eq name k.now) m) w.places-is
          ∙ (seen ∙ (kept name x (take i names) (there ∙ w.if-not-contains_key.false) ∙ one_more))
    ]

use Rattle.std.proofs.Common.{rules, ◌≡◌, ℕ, ◌+◌, ◌<◌, cond, is_none, nat_eq, length, get_or, take, true, false, None, Some, ap, sym, ◌∙◌, subst}
use Rattle.std.specs.Prelude.{position}
use Rattle.indexmap.specs.IndexMap.{get}
use Rattle.name_tables.specs.Dense.{or_far}
use Rattle.name_tables.proofs.Searching.{entered, left_out, not_told, is_told}
use Rattle.name_tables.proofs.words.far_places.Goals as goal
use Rattle.name_tables.proofs.words.far_places.Goals.{then-is_none+in_ok-insert, else-is_none}

pub loop-place-preserved : goal.loop-place-preserved
loop-place-preserved c =
    let order = c.args.order.now in
    let near = c.args.near.now in
    let place = c.loop-place.place in
    let within : place < length order = search rules in
    elim c.if-is_none.branch [
      | then-is_none+in_ok-insert w ↦ (
          let nothing : is_none (or_far (get_or near (get_or order place 0) 0) None) ≡ true = ap is_none (sym c.near_place.ensures.place) ∙ search rules in
          let none = not_told (get_or near (get_or order place 0) 0) nothing in
          let is : (q : ℕ) → get nat_eq c.if-is_none.far q ≡ cond (nat_eq (get_or order place 0) q) (Some place) (get nat_eq c.loop-place.far q) =
          λ q. ap (λ far. get nat_eq far q) w.far-is ∙ w.in_ok-insert.ensures.updates.0 q in
          entered order near c.requires.increasing place within (get nat_eq c.loop-place.far) c.loop-place.invariant none (get nat_eq c.if-is_none.far) is)
      | else-is_none w ↦ (
          let something : is_none (or_far (get_or near (get_or order place 0) 0) None) ≡ false = ap is_none (sym c.near_place.ensures.place) ∙ search rules in
          let told = is_told (get_or near (get_or order place 0) 0) something in
          subst (λ far. (n : ℕ) → or_far (get_or near n 0) (get nat_eq far n) ≡ or_far (get_or near n 0) (position (nat_eq n) (take (place + 1) order))) (sym w.far-is) (left_out order near c.requires.increasing place within (get nat_eq c.loop-place.far) c.loop-place.invariant told.0 told.1))
    ]

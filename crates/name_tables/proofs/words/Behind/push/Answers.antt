use Rattle.std.proofs.Common.{◌≡◌, ◌∷◌, [], ◌++◌, length, nat_eq, ℕ, None, ap, ◌∙◌, cond, Some, subst}
use Rattle.std.specs.Prelude.{position}
use Rattle.indexmap.specs.IndexMap.{get}
use Rattle.name_tables.specs.Dense.{AreRight, IsIncreasing}
use Rattle.name_tables.proofs.DenseLaws.{near_written, far_written}
use Rattle.name_tables.proofs.words.Behind.push.Goals as goal

pub invariant_of-self-then-place : goal.invariant_of-self-then-place
invariant_of-self-then-place c =
    let order = c.self.inside.order.items in
    let near = c.self.inside.near.items in
    let right : AreRight order near c.keep_far.new.far = subst (λ ns. AreRight order ns c.keep_far.new.far) c.deref-2.ensures.value (subst (λ os. AreRight os c.deref-2.result.now c.keep_far.new.far) c.deref.ensures.value c.keep_far.ensures.right) in
    let increasing : c.keep_far.new.far ≡ None → IsIncreasing (order ++ c.args.word ∷ []) = λ none. subst (λ os. IsIncreasing (os ++ c.args.word ∷ [])) c.deref.ensures.value (c.in_ok-keep_far.ensures.increasing none) in
    let new : position (nat_eq c.args.word) order ≡ None = ap (position (nat_eq c.args.word)) c.self.view_is ∙ c.requires in
    let e : c.len-place.result ≡ length order = c.len-place.ensures ∙ c.self.inside.order.ok.0 in
    rw (c.in_ok-push.ensures.items, e) (increasing, near_written order near c.args.word new c.keep_far.new.far right.1 c.grow.new.near.items c.in_ok-grow.ensures.same c.in_ok-grow.ensures.long)

pub invariant_of-self-in-Ok : goal.invariant_of-self-in-Ok
invariant_of-self-in-Ok c =
    let order = c.self.inside.order.items in
    let near = c.self.inside.near.items in
    let far : AreRight c.deref.result.now c.deref-2.result.now (Some c.in-Some.far) = subst (AreRight c.deref.result.now c.deref-2.result.now) c.in-Some.is c.keep_far.ensures.right in
    let right : AreRight order near (Some c.in-Some.far) = subst (λ ns. AreRight order ns (Some c.in-Some.far)) c.deref-2.ensures.value (subst (λ os. AreRight os c.deref-2.result.now (Some c.in-Some.far)) c.deref.ensures.value far) in
    let new : position (nat_eq c.args.word) order ≡ None = ap (position (nat_eq c.args.word)) c.self.view_is ∙ c.requires in
    let e : c.len-place.result ≡ length order = c.len-place.ensures ∙ c.self.inside.order.ok.0 in
    let u : (q : ℕ) → get nat_eq c.insert.new.self q ≡ cond (nat_eq c.args.word q) (Some (length order)) (get nat_eq c.in-Some.far q) = rw (← e) c.in-Ok.ensures.updates.0 in
    rw c.in_ok-push-2.ensures.items ((λ z. cc), far_written order near c.args.word new c.in-Some.far c.insert.new.self right.1 u)

pub invariant_of-self-in_err-push-2 : goal.invariant_of-self-in_err-push-2
invariant_of-self-in_err-push-2 c =
    let order = c.self.inside.order.items in
    let near = c.self.inside.near.items in
    let right : AreRight order near c.keep_far.new.far = subst (λ ns. AreRight order ns c.keep_far.new.far) c.deref-2.ensures.value (subst (λ os. AreRight os c.deref-2.result.now c.keep_far.new.far) c.deref.ensures.value c.keep_far.ensures.right) in
    rw c.in_err-push-2.ensures.items right

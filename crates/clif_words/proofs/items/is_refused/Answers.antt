use Rattle.std.proofs.Common.{◌≡◌, Option, Some, None, is_some, option_map, refl, sym, ap, ◌∙◌}
use Rattle.clif_words.specs.Words.{refused_stems, is_refused}
use Rattle.clif_words.proofs.items.is_refused.Goals as goal

some-map : {A B : Type 0} (f : A → B) (o : Option A) → is_some (option_map f o) ≡ is_some o
some-map f None = refl
some-map f (Some x) = refl

pub returns : goal.returns
unfolding is_refused refused_stems
returns c = c.is_some.ensures ∙ sym (some-map _ c.look_up.result) ∙ ap is_some c.look_up.ensures

-- What the trees of the grammar mean, one definition a rule: what is made of others, types and numbers.
use Rattle.std.specs.Prelude.{List, ◌∷◌, map, Option, Some, None, Ok, Err, ◌⊎◌}
use Rattle.std.proofs.Common.{inl, inr}
use Rattle.grammar.specs.Rules.{Rule, Opt, Tree, Out}
use Rattle.ir_core.specs.declared.signatures.Ty.{Ty}
use Rattle.ir_core.specs.declared.signatures.Ty.TheVariants as ty_words
use Rattle.token_reader.specs.declared.raw.RawNumber.{RawNumber}
use Rattle.clif_words.specs.Terminals.{signed}
use Rattle.token_reader.specs.Grammar.{commas, number, any_type, suffix}
use Rattle.token_reader.specs.Reading.{amount}
use Rattle.token_reader.specs.Types.{type_of}

-- of one of two, by what it is
infixr 3 ◌otherwise◌
abbrev pub either : {A B C : Type 0} → (A → C) → (B → C) → A ⊎ B → C
either f g = elim [ inl a ↦ f a | inr b ↦ g b ]

abbrev pub ◌otherwise◌ : {A B C : Type 0} → (A → C) → (B → C) → A ⊎ B → C
f otherwise g = either f g

-- of what may be left out
abbrev pub perhaps : {A C : Type 0} → C → (A → C) → Option A → C
perhaps none f None = none
perhaps none f (Some x) = f x

-- a place that no text has
abbrev pub never : {C : Type 0} → ⊥ → C
never h = absurd h

-- what was read, seen as what it means
abbrev pub seen : {A B : Type 0} → (A → B) → Out A → Out B
seen f (Ok x) = Ok (f x.0, x.1)
seen f (Err e) = Err e

abbrev pub commas_value : {A : Type 0} (a : Rule) → (Tree a → A) → Tree (commas a) → List A
commas_value a f v = f v.0 ∷ map (λ x. f x.1) v.1

abbrev pub any_type_value : Tree any_type → Ty
any_type_value = (λ x. type_of x.number) otherwise (λ x. ty_words.I64) otherwise never

abbrev pub suffix_value : Tree suffix → Ty
suffix_value v = any_type_value v.1

abbrev pub opt_suffix_value : Tree (Opt suffix) → Option Ty
opt_suffix_value = perhaps None (λ v. Some (suffix_value v))

abbrev pub number_value : Tree number → RawNumber
number_value = amount otherwise amount

abbrev pub offset_value : Tree (Opt signed) → Option RawNumber
offset_value = perhaps None (λ x. Some (amount x))

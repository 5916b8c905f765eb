-- Attributes are read as their rule of the grammar says.
use Rattle.std.proofs.Common.{◌≡◌, List, [], ◌∷◌, Option, Some, None, refl}
use Rattle.grammar.specs.Rules.{Lexeme, Opt, Tree}
use Rattle.clif_words.specs.declared.class.Class.TheVariants as classes
use Rattle.clif_words.specs.Terminals.{◌then◌, ◌or◌, ext}
use Rattle.token_reader.specs.Values.{perhaps}
use Rattle.token_reader.proofs.Seen.{Is, then_is, map_is, also, opt_is, alt_is, name_is}
use Rattle.clif_read.specs.declared.raw.RawAttribute.{RawAttribute}
use Rattle.clif_read.specs.declared.raw.RawAttribute.TheVariants as attributes
use Rattle.clif_read.specs.ModuleGrammar.{purpose}
use Rattle.clif_read.specs.DeclarationValues.{ext_of, ext_value, purpose_value, opt_purpose_value, opt_ext_value, attributes_value}
use Rattle.clif_read.specs.Attributes.{ext_at, purpose_at, opt_purpose_at, opt_ext_at, ext_first_at, purpose_first_at, some_attributes_at, attributes_at}

ext_is : Is ext ext_value ext_at
unfolding ext_at
ext_is = map_is (name_is classes.Ext) (λ x. ext_of x.number)

purpose_is : Is purpose purpose_value purpose_at
unfolding purpose_at
purpose_is = alt_is (map_is (name_is classes.Vmctx) (λ x. attributes.Vmctx)) (map_is (name_is classes.Sret) (λ x. attributes.Sret))

opt_purpose_is : (first : RawAttribute) → Is (Opt purpose) (perhaps (first ∷ []) (λ v. first ∷ purpose_value v ∷ [])) (opt_purpose_at first)
unfolding opt_purpose_at
opt_purpose_is first = opt_is (map_is purpose_is (λ x. first ∷ x ∷ [])) (first ∷ [])

opt_ext_is : (first : RawAttribute) → Is (Opt ext) (perhaps (first ∷ []) (λ v. first ∷ ext_value v ∷ [])) (opt_ext_at first)
unfolding opt_ext_at
opt_ext_is first = opt_is (map_is ext_is (λ x. first ∷ x ∷ [])) (first ∷ [])

-- `uext` or `sext`, and then perhaps the other kind
abbrev from_ext : Tree (ext then Opt purpose) → List RawAttribute
from_ext v = ext_value v.0 ∷ opt_purpose_value v.1

abbrev from_purpose : Tree (purpose then Opt ext) → List RawAttribute
from_purpose v = purpose_value v.0 ∷ opt_ext_value v.1

ext_first_is : Is (ext then Opt purpose) from_ext ext_first_at
unfolding ext_first_at
ext_first_is =
    also (then_is ext_is (Opt purpose) (λ x. perhaps (x ∷ []) (λ v. x ∷ purpose_value v ∷ [])) (λ x. opt_purpose_at x) (λ x. opt_purpose_is x)) from_ext (λ v. go v.0 v.1)
  where
    go : (x : Lexeme) (p : Option (Tree purpose)) → perhaps (ext_value x ∷ []) (λ v. ext_value x ∷ purpose_value v ∷ []) p ≡ ext_value x ∷ opt_purpose_value p
    go x None = refl
    go x (Some v) = refl

purpose_first_is : Is (purpose then Opt ext) from_purpose purpose_first_at
unfolding purpose_first_at
purpose_first_is =
    also (then_is purpose_is (Opt ext) (λ x. perhaps (x ∷ []) (λ v. x ∷ ext_value v ∷ [])) (λ x. opt_ext_at x) (λ x. opt_ext_is x)) from_purpose (λ v. go v.0 v.1)
  where
    go : (x : Tree purpose) (p : Option (Tree ext)) → perhaps (purpose_value x ∷ []) (λ v. purpose_value x ∷ ext_value v ∷ []) p ≡ purpose_value x ∷ opt_ext_value p
    go x None = refl
    go x (Some v) = refl

pub attributes_is : Is (Opt ((ext then Opt purpose) or (purpose then Opt ext))) (perhaps [] attributes_value) attributes_at
unfolding attributes_at some_attributes_at
attributes_is = opt_is (alt_is ext_first_is purpose_first_is) []

-- The kinds of option: how the command table has one, and how its value is read. Each is a long option with one value.
use Rattle.std.specs.Prelude.{ℕ, List, [], ◌∷◌, Option, Some, None, Bool, true, false, length, codes}
use Rattle.std.specs.Prelude.{nat_lt, nat_le, ◌&&◌, if◌then◌else◌}
use Rattle.std.specs.Str.{bytes_eq}
use Rattle.std.specs.List.{list_all}
use Rattle.std.specs.Str.Parse.{digits_value, without_leading_plus}
use Rattle.std.specs.Char.{digit_value}
use Rattle.clap.specs.Words.{Row, Rule, Text, first_of, new_rule}
use Rattle.clap.specs.declared.builder.action.ArgAction.TheVariants.{SetTrue}
use Rattle.clap.specs.declared.builder.value_parser.ValueParser.TheVariants as vp

-- ---- in the table

abbrev pub option_rule : Text → Rule
option_rule name = record (new_rule name) { long = Some name }

-- a number from `least` to `most`
pub record Number : Type 0 where
  pub name : Text
  pub least : ℕ
  pub most : ℕ

abbrev pub required_number : Number → Rule
required_number o = record (option_rule o.name) { parser = Some (vp.Unsigned o.least o.most); required = true }

abbrev pub number_or : Number → (usual : Text) → Rule
number_or o usual = record (option_rule o.name) { parser = Some (vp.Unsigned o.least o.most); defaults = usual ∷ [] }

abbrev pub required_text : Text → Rule
required_text name = record (option_rule name) { required = true }

-- a text, empty where the words have none
abbrev pub text_or_empty : Text → Rule
text_or_empty name = record (option_rule name) { defaults = [] ∷ [] }

abbrev pub flag : Text → Rule
flag name = record (option_rule name) { action = Some SetTrue }

-- ---- in the rows of a parse

-- the number of this range that a text means: decimal digits, behind a plus or not
unfoldable pub number_of : (least most : ℕ) → Text → Option ℕ
number_of least most text =
    let digits = without_leading_plus text in
    let value = digits_value 10 digits in
    if nat_lt 0 (length digits) && list_all (λ d. nat_lt (digit_value d) 10) digits && nat_le least value
    && nat_le value most
    then Some value else None

-- what the value gives, where there is one
abbrev pub given : {A B : Type 0} → Option A → (A → Option B) → Option B
given None next = None
given (Some value) next = next value

abbrev pub number_in : Number → List Row → Option ℕ
number_in o rows = given (first_of o.name rows) (number_of o.least o.most)

-- a flag is given where its value is `true`
abbrev pub is_set : Text → List Row → Bool
is_set name rows = elim (first_of name rows) [ None ↦ false | Some value ↦ bytes_eq value (codes "true") ]

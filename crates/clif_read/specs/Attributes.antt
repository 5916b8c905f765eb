-- Attributes of parameters and results, read from left to right.
use Rattle.std.specs.Prelude.{if◌then◌else◌, List, [], ◌∷◌, Ok}
use Rattle.grammar.specs.Rules.{Lexeme, Out, heads, ◌>>=◌}
use Rattle.clif_words.specs.declared.class.Class.{Class}
use Rattle.clif_words.specs.declared.class.Class.TheVariants as classes
use Rattle.clif_words.specs.Terminals.{codes_of}
use Rattle.token_reader.specs.Reading.{next_is, name_at}
use Rattle.clif_read.specs.declared.raw.RawAttribute.{RawAttribute}
use Rattle.clif_read.specs.declared.raw.RawAttribute.TheVariants as attributes
use Rattle.clif_read.specs.DeclarationValues.{ext_of}

-- `uext` or `sext`
unfoldable pub ext_at : List Lexeme → Out RawAttribute
ext_at ts = do
  x ← name_at classes.Ext ts
  Ok (ext_of x.0.number, x.1)

-- `vmctx` or `sret`
unfoldable pub purpose_at : List Lexeme → Out RawAttribute
purpose_at ts =
    if next_is classes.Vmctx ts then (name_at classes.Vmctx ts >>= λ x. Ok (attributes.Vmctx, x.1))
    else (name_at classes.Sret ts >>= λ x. Ok (attributes.Sret, x.1))

abbrev pub begins_purpose : List Class
begins_purpose = classes.Vmctx ∷ classes.Sret ∷ []

-- an attribute of each pair at most, after one of the other pair
unfoldable pub opt_purpose_at : RawAttribute → List Lexeme → Out (List RawAttribute)
opt_purpose_at first ts =
    if heads (codes_of begins_purpose) ts
    then (purpose_at ts >>= λ x. Ok (first ∷ x.0 ∷ [], x.1)) else Ok (first ∷ [], ts)

unfoldable pub opt_ext_at : RawAttribute → List Lexeme → Out (List RawAttribute)
opt_ext_at first ts =
    if next_is classes.Ext ts then (ext_at ts >>= λ x. Ok (first ∷ x.0 ∷ [], x.1)) else Ok (first ∷ [], ts)

unfoldable pub ext_first_at : List Lexeme → Out (List RawAttribute)
ext_first_at ts = do
  x ← ext_at ts
  opt_purpose_at x.0 x.1

unfoldable pub purpose_first_at : List Lexeme → Out (List RawAttribute)
purpose_first_at ts = do
  x ← purpose_at ts
  opt_ext_at x.0 x.1

unfoldable pub some_attributes_at : List Lexeme → Out (List RawAttribute)
some_attributes_at ts = if next_is classes.Ext ts then ext_first_at ts else purpose_first_at ts

abbrev pub begins_attribute : List Class
begins_attribute = classes.Ext ∷ classes.Vmctx ∷ classes.Sret ∷ []

-- attributes in any order, of each pair one at most
unfoldable pub attributes_at : List Lexeme → Out (List RawAttribute)
attributes_at ts = if heads (codes_of begins_attribute) ts then some_attributes_at ts else Ok ([], ts)

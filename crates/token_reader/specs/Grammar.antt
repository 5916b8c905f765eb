-- The grammar of items behind commas, types and numbers, as EBNF is written: `commas a` is `a { "," a }`. A type that
-- is left out is a rule too: its word is refused.
use Rattle.std.specs.Prelude.{[], ◌∷◌}
use Rattle.grammar.specs.Rules.{Rule, Many, Unsupported}
use Rattle.clif_words.specs.declared.class.Class.TheVariants as classes
use Rattle.clif_words.specs.Terminals.{◌then◌, ◌or◌, refused, unsigned, signed, comma, dot, ty, ty_i64}

abbrev pub commas : Rule → Rule
commas a = a then Many (comma then a)

abbrev pub number : Rule
number = unsigned or signed

abbrev pub refused_type : Rule
refused_type = refused (classes.RefusedType ∷ []) Unsupported

abbrev pub any_type : Rule
any_type = ty or ty_i64 or refused_type

-- .T
abbrev pub suffix : Rule
suffix = dot then any_type

-- .i64
abbrev pub suffix_i64 : Rule
suffix_i64 = dot then (ty_i64 or refused_type)

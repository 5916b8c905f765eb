-- A line ends with a `return` word where it is a `return`.
use Rattle.std.proofs.Common.{◌≡◌, ℕ, Bool, List, [], ◌∷◌, Option, Some, None, refl, inl, inr}
use Rattle.grammar.specs.Rules.{Lexeme, Class, Rule, Empty, Many, Tree, Derives, ends}
use Rattle.clif_words.specs.declared.class.Class as words
use Rattle.clif_words.specs.declared.class.Class.TheVariants as classes
use Rattle.clif_words.specs.Classes.{code}
use Rattle.clif_words.specs.Terminals.{◌then◌, comma, arrow, equals, value, srcloc}
use Rattle.token_reader.specs.Grammar.{commas}
use Rattle.clif_insts.specs.Grammar.{inst}
use Rattle.token_reader.specs.Reading.{name}
use Rattle.token_reader.specs.Values.{commas_value}
use Rattle.clif_insts.specs.InstValues.{inst_value}
use Rattle.token_reader.specs.declared.raw.RawName.{RawName}
use Rattle.clif_insts.specs.declared.raw.RawInst.{RawInst}
use Rattle.clif_read.specs.declared.raw.RawTag.{RawTag}
use Rattle.clif_read.specs.declared.raw.RawLine.{RawLine}
use Rattle.clif_read.specs.declared.raw.RawLine.TheVariants as raw_lines
use Rattle.clif_read.specs.ModuleGrammar.{debug_tags, made, named, named_or_values, tagged, located, other_line, line, line_or_values}
use Rattle.clif_read.specs.LineValues.{Whole, Values, made_value, debug_tags_value, values_from, named_by, named_value, tagged_by, tagged_value, located_value, other_line_value, line_value, named_or_values_value, line_or_values_value}
use Rattle.clif_read.specs.Lines.{returns, is_return}
use Rattle.clif_read.proofs.Ends.{Ends, never_ends, token_ends, either_ends, refused_ends, then_ends, also_ends}

abbrev pub return_code : Class
return_code = code classes.Return

abbrev is_return_inst : RawInst → Bool
is_return_inst i = returns i.operands

abbrev is_return_line : RawLine → Bool
is_return_line l = is_return (Whole l)

inst_ends : (excepted : List words.Class) → Ends return_code is_return_inst (inst excepted) (inst_value excepted)
inst_ends excepted =
    either_ends (never_ends refl refl (λ v. refl))
    (either_ends (never_ends refl refl (λ v. refl))
    (either_ends (never_ends refl refl (λ v. refl))
    (either_ends (never_ends refl refl (λ v. refl))
    (either_ends (never_ends refl refl (λ v. refl))
    (either_ends (never_ends refl refl (λ v. refl))
    (either_ends (never_ends refl refl (λ v. refl))
    (either_ends (never_ends refl refl (λ v. refl))
    (either_ends (never_ends refl refl (λ v. refl))
    (either_ends (never_ends refl refl (λ v. refl))
    (either_ends (never_ends refl refl (λ v. refl))
    (either_ends (never_ends refl refl (λ v. refl))
    (either_ends (never_ends refl refl (λ v. refl))
    (either_ends (never_ends refl refl (λ v. refl))
    (either_ends (never_ends refl refl (λ v. refl))
    (either_ends (never_ends refl refl (λ v. refl))
    (either_ends (never_ends refl refl (λ v. refl))
    (either_ends (never_ends refl refl (λ v. refl))
    (either_ends (token_ends (λ x. refl))
    (either_ends (never_ends refl refl (λ v. refl))
    (either_ends (never_ends refl refl (λ v. refl))
    (either_ends (never_ends refl refl (λ v. refl))
    (either_ends (never_ends refl refl (λ v. refl))
    (either_ends (never_ends refl refl (λ v. refl))
    (either_ends (never_ends refl refl (λ v. refl))
    (either_ends refused_ends refused_ends)))))))))))))))))))))))))

-- an instruction, with what stands before it on its line
plain_ends : (excepted : List words.Class) (location : Option ℕ) (tags : List RawTag) (results : List RawName)
    → Ends return_code is_return_line (inst excepted) (λ v. raw_lines.Inst location tags results (inst_value excepted v))
plain_ends excepted location tags results = also_ends (inst_ends excepted) is_return_line (λ v. raw_lines.Inst location tags results (inst_value excepted v)) (λ v. refl)

made_ends : (location : Option ℕ) (tags : List RawTag) (results : List RawName) → Ends return_code is_return_line made (λ v. raw_lines.Inst location tags results (made_value v))
made_ends location tags results = then_ends equals (λ e v. raw_lines.Inst location tags results (inst_value [] v)) (λ e. plain_ends [] location tags results)

named_ends : (location : Option ℕ) → Ends return_code is_return_line named (named_value location)
named_ends location =
    then_ends value (λ x v. named_by location (name x) v)
    (λ x. either_ends (never_ends refl refl (λ v. refl))
    (then_ends (Many (comma then value)) (λ vs v. raw_lines.Inst location [] (values_from (name x) vs) (made_value v)) (λ vs. made_ends location [] (values_from (name x) vs))))

tagged_ends : (location : Option ℕ) → Ends return_code is_return_line tagged (tagged_value location)
tagged_ends location =
    then_ends debug_tags (λ t v. tagged_by location (debug_tags_value t) v)
    (λ t. either_ends (then_ends (commas value) (λ vs v. raw_lines.Inst location (debug_tags_value t) (commas_value value name vs) (made_value v)) (λ vs. made_ends location (debug_tags_value t) (commas_value value name vs)))
    (plain_ends (classes.Value ∷ []) location (debug_tags_value t) []))

located_ends : (spot : ℕ) → Ends return_code is_return_line located (located_value spot)
located_ends spot = either_ends (named_ends (Some spot)) (either_ends (tagged_ends (Some spot)) (plain_ends (classes.Value ∷ []) (Some spot) [] []))

other_ends : Ends return_code is_return_line other_line other_line_value
other_ends =
    either_ends (tagged_ends None)
    (either_ends (then_ends srcloc (λ x v. located_value x.spot v) (λ x. located_ends x.spot)) (plain_ends (classes.Value ∷ classes.Block ∷ []) None [] []))

whole_ends : (r : Rule) (f : Tree r → RawLine) → Ends return_code is_return_line r f → Ends return_code is_return r (λ v. Whole (f v))
whole_ends r f e = also_ends e is_return (λ v. Whole (f v)) (λ v. refl)

pub line_ends : Ends return_code is_return line line_value
line_ends = either_ends (whole_ends named (named_value None) (named_ends None)) (whole_ends other_line other_line_value other_ends)

-- values alone, an alias, or results and their instruction
named_or_values_ends : Ends return_code is_return named_or_values named_or_values_value
named_or_values_ends = record { so = go }
  where
    alias : Ends return_code is_return (value then arrow then value) (λ v. Whole (raw_lines.Alias None (name v.0) (name v.1.1)))
    alias = never_ends refl refl (λ v. refl)

    alone : Ends return_code is_return (value then Many (comma then value) then Empty) (λ v. Values (values_from (name v.0) v.1.0))
    alone = never_ends refl refl (λ v. refl)

    results : Ends return_code is_return (value then Many (comma then value) then made) (λ v. Whole (raw_lines.Inst None [] (values_from (name v.0) v.1.0) (made_value v.1.1)))
    results =
        then_ends value (λ x v. Whole (raw_lines.Inst None [] (values_from (name x) v.0) (made_value v.1)))
        (λ x. then_ends (Many (comma then value)) (λ vs v. Whole (raw_lines.Inst None [] (values_from (name x) vs) (made_value v)))
        (λ vs. whole_ends made (λ v. raw_lines.Inst None [] (values_from (name x) vs) (made_value v)) (made_ends None [] (values_from (name x) vs))))

    go : (us : List Lexeme) (v : Tree named_or_values) → Derives named_or_values us v → (before : Bool) → ends return_code before us ≡ is_return (named_or_values_value v)
    go us (x, inl v) d before = alias.so us (x, v) d before
    go us (x, inr (vs, None)) d before = alone.so us (x, (vs, tt)) d before
    go us (x, inr (vs, Some v)) d before = results.so us (x, (vs, v)) d before

pub line_or_values_ends : Ends return_code is_return line_or_values line_or_values_value
line_or_values_ends = either_ends named_or_values_ends (whole_ends other_line other_line_value other_ends)

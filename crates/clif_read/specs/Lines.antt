-- The lines of a block, read from left to right.
use Rattle.std.specs.Prelude.{ℕ, zero, suc, Bool, true, false, if◌then◌else◌, List, [], ◌∷◌, ◌++◌, length, Option, Some}
use Rattle.std.specs.Prelude.{None, Result, Ok}
use Rattle.grammar.specs.Rules.{Lexeme, Out, heads, firsts, ◌>>=◌}
use Rattle.clif_words.specs.declared.class.Class.TheVariants as classes
use Rattle.clif_insts.specs.declared.opening.Opening.{Opening}
use Rattle.clif_insts.specs.declared.opening.Opening.TheVariants.{AfterResults, AfterTags, LineStart}
use Rattle.token_reader.specs.declared.raw.RawName.{RawName}
use Rattle.clif_insts.specs.declared.raw.RawInst.{RawInst}
use Rattle.clif_insts.specs.declared.raw.RawOperands.{RawOperands}
use Rattle.clif_insts.specs.declared.raw.RawOperands.TheVariants as operands
use Rattle.token_reader.specs.declared.stop.Stop.{Stop}
use Rattle.token_reader.specs.Reading.{Gives, next_is, name_at}
use Rattle.clif_insts.specs.Arguments.{more_values_at, values_at}
use Rattle.clif_insts.specs.Forms.{inst_at}
use Rattle.clif_read.specs.declared.raw.RawTag.{RawTag}
use Rattle.clif_read.specs.declared.raw.RawLine.{RawLine}
use Rattle.clif_read.specs.declared.raw.RawLine.TheVariants as raw_lines
use Rattle.clif_read.specs.ModuleGrammar.{line}
use Rattle.clif_read.specs.LineValues.{LinePart, Whole, Values, with_values}
use Rattle.clif_read.specs.Tags.{debug_tags_at}

-- an instruction behind the `=` of its results
unfoldable pub made_at : List Lexeme → Out RawInst
made_at ts = do
  e ← name_at classes.Equals ts
  inst_at AfterResults e.1

-- `-> vN`, behind the value that stands for another
unfoldable pub alias_at : Option ℕ → RawName → List Lexeme → Out RawLine
alias_at location alias ts = do
  a ← name_at classes.Arrow ts
  value ← name_at classes.Value a.1
  Ok (raw_lines.Alias location alias value.0, value.1)

-- the results behind the first one, and their instruction
unfoldable pub results_at : Option ℕ → RawName → List Lexeme → Out RawLine
results_at location first ts = do
  results ← more_values_at (first ∷ []) ts
  inst ← made_at results.1
  Ok (raw_lines.Inst location [] results.0 inst.0, inst.1)

-- what begins with a value: an alias, or results and their instruction
unfoldable pub named_at : Option ℕ → List Lexeme → Out RawLine
named_at location ts = do
  first ← name_at classes.Value ts
  if next_is classes.Arrow first.1 then alias_at location first.0 first.1 else results_at location first.0 first.1

-- an instruction without results
unfoldable pub plain_at : Opening → Option ℕ → List RawTag → List Lexeme → Out RawLine
plain_at opening location tags ts = do
  inst ← inst_at opening ts
  Ok (raw_lines.Inst location tags [] inst.0, inst.1)

-- results behind tags, and their instruction
unfoldable pub tagged_results_at : Option ℕ → List RawTag → List Lexeme → Out RawLine
tagged_results_at location tags ts = do
  results ← values_at ts
  inst ← made_at results.1
  Ok (raw_lines.Inst location tags results.0 inst.0, inst.1)

-- what begins with tags
unfoldable pub tagged_at : Option ℕ → List Lexeme → Out RawLine
tagged_at location ts = do
  tags ← debug_tags_at ts
  if next_is classes.Value tags.1
      then tagged_results_at location tags.0 tags.1
      else plain_at AfterTags location tags.0 tags.1

-- a line behind its source location
unfoldable pub located_at : ℕ → List Lexeme → Out RawLine
located_at spot ts =
    if next_is classes.Value ts then named_at (Some spot) ts
    else if next_is classes.Less ts then tagged_at (Some spot) ts
    else plain_at AfterTags (Some spot) [] ts

-- a line that does not begin with a value
unfoldable pub other_line_at : List Lexeme → Out RawLine
other_line_at ts =
    if next_is classes.Less ts then tagged_at None ts
    else if next_is classes.Srcloc ts
    then (name_at classes.Srcloc ts >>= λ location. located_at location.0.spot location.1)
    else plain_at LineStart None [] ts

-- values, and perhaps the instruction of which they are the results
unfoldable pub opt_made_at : List RawName → List Lexeme → Out LinePart
opt_made_at values ts =
    if next_is classes.Equals ts then (made_at ts >>= λ inst. Ok (Whole (raw_lines.Inst None [] values inst.0), inst.1))
    else Ok (Values values, ts)

-- a first value, and those behind it
unfoldable pub values_or_results_at : RawName → List Lexeme → Out LinePart
values_or_results_at first ts = do
  values ← more_values_at (first ∷ []) ts
  opt_made_at values.0 values.1

-- what begins with a value behind a `return`
unfoldable pub named_or_values_at : List Lexeme → Out LinePart
named_or_values_at ts = do
  first ← name_at classes.Value ts
  if next_is classes.Arrow first.1
      then (alias_at None first.0 first.1 >>= λ l. Ok (Whole l.0, l.1))
      else values_or_results_at first.0 first.1

-- a line, or behind a `return` its values
unfoldable pub line_at : Bool → List Lexeme → Out LinePart
line_at after_return ts =
    if next_is classes.Value ts then
    (if after_return then named_or_values_at ts else (named_at None ts >>= λ l. Ok (Whole l.0, l.1)))
    else (other_line_at ts >>= λ l. Ok (Whole l.0, l.1))

-- whether it is a `return`, behind which its values may stand
abbrev pub returns : RawOperands → Bool
returns (operands.Return values) = true
returns others = false

abbrev pub is_return : LinePart → Bool
is_return (Whole (raw_lines.Inst location tags results inst)) = returns inst.operands
is_return part = false

-- lines, of which the last gets the values
abbrev pub to_last : List RawName → List RawLine → List RawLine
to_last values [] = []
to_last values (l ∷ []) = with_values values l ∷ []
to_last values (l ∷ next ∷ more) = l ∷ to_last values (next ∷ more)

-- lines, and what stands behind them
abbrev pub add_part : List RawLine → LinePart → List RawLine
add_part before (Whole l) = before ++ l ∷ []
add_part before (Values values) = to_last values before

-- a line that is read is a part
abbrev pub whole : Out RawLine → Out LinePart
whole given = given >>= λ l. Ok (Whole l.0, l.1)

-- Lines with the part that is read behind them, and whether it is a `return`.
abbrev pub adding : List RawLine → Out LinePart → Out (List RawLine × Bool)
adding before given = given >>= λ p. Ok ((add_part before p.0, is_return p.0), p.1)

-- What a reader that adds to lines left of them, and what it returned, are what reading gives.
abbrev pub Adds : List RawLine → List RawLine → List Lexeme → Result Bool Stop → Out LinePart → Type 0
Adds before after now result given = Gives (λ flag. (after, flag)) now result (adding before given)

-- at most n lines behind those before
unfoldable pub more_lines_at : ℕ → List RawLine → Bool → List Lexeme → Out (List RawLine)
more_lines_at zero before after_return ts = Ok (before, ts)
more_lines_at (suc n) before after_return ts =
    if heads (firsts line) ts
    then (line_at after_return ts >>= λ part. more_lines_at n (add_part before part.0) (is_return part.0) part.1)
    else Ok (before, ts)

unfoldable pub lines_at : List Lexeme → Out (List RawLine)
lines_at ts = more_lines_at (length ts) [] false ts

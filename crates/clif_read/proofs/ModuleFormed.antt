-- Each instruction of a module has operands of its opcode's form, also a `return` that gets the values behind it.
use Rattle.std.proofs.Common.{◌≡◌, ℕ, Bool, true, false, List, [], ◌∷◌, ◌++◌, length, map, Option, Some, None, refl, sym, subst, ◌∙◌, inl, inr}
use Rattle.std.specs.Prelude.{◌⊎◌}
use Rattle.grammar.specs.Rules.{Lexeme, Rule, Opt, Many, Tree, Derives, Links, ByFlag, ends}
use Rattle.grammar.specs.Rules as rules
use Rattle.ir_core.specs.Lists.{Each}
use Rattle.ir_core.proofs.Members.{each_left, each_right}
use Rattle.clif_words.specs.declared.class.Class as words
use Rattle.clif_words.specs.declared.class.Class.TheVariants as classes
use Rattle.clif_words.specs.Terminals.{◌then◌, comma, colon, equals, value, srcloc, block, cold, header, function_word, left_brace, right_brace}
use Rattle.clif_words.specs.Lexemes.{lexemes}
use Rattle.clif_words.specs.TextTokens.{IsTextToken, AreTextTokens}
use Rattle.clif_words.proofs.TextTokens.{text_tokens}
use Rattle.token_reader.specs.declared.raw.RawName.{RawName}
use Rattle.clif_insts.specs.declared.raw.RawInst.{RawInst}
use Rattle.clif_insts.specs.declared.raw.RawOperands.{RawOperands}
use Rattle.clif_insts.specs.declared.raw.RawOperands.TheVariants as operands
use Rattle.token_reader.specs.Grammar.{commas}
use Rattle.clif_insts.specs.Grammar.{inst}
use Rattle.token_reader.specs.Reading.{name}
use Rattle.token_reader.specs.Values.{commas_value}
use Rattle.clif_insts.specs.InstValues.{raw, inst_value}
use Rattle.clif_insts.specs.OfForm.{IsOfForm, InstFormed}
use Rattle.clif_insts.proofs.Formed.{Formed, then_formed, or_formed, also_formed, inst_formed}
use Rattle.clif_insts.proofs.Marked.{marks_formed}
use Rattle.clif_read.specs.declared.raw.RawTag.{RawTag}
use Rattle.clif_read.specs.declared.raw.RawLine.{RawLine}
use Rattle.clif_read.specs.declared.raw.RawLine.TheVariants as raw_lines
use Rattle.clif_read.specs.declared.raw.RawModule.{RawModule}
use Rattle.clif_read.specs.ModuleGrammar.{func_name, signature, decl, block_params, debug_tags, made, named, named_or_values, tagged, located, other_line, line, line_or_values, lines, block_rule, function, module_rule}
use Rattle.clif_read.specs.LineValues.{LinePart, Whole, Values, made_value, debug_tags_value, values_from, named_by, named_value, tagged_by, tagged_value, located_value, other_line_value, line_value, named_or_values_value, line_or_values_value, with_values, lines_from, lines_of_parts, part_value, lines_value}
use Rattle.clif_read.specs.ModuleValues.{block_value, function_value}
use Rattle.clif_read.specs.Lines.{returns, is_return}
use Rattle.clif_read.specs.Texts.{IsModule}
use Rattle.clif_read.specs.Texts.{IsModuleText}
use Rattle.clif_read.specs.Formed.{LineFormed, BlockFormed, FunctionFormed, IsFormed}
use Rattle.clif_read.proofs.LineEnds.{return_code, line_ends, line_or_values_ends}
use Rattle.clif_read.proofs.ModuleMarks.{module_marked}

-- ---- lines

alias_formed : {r : Rule} (location : Option ℕ) (x y : Tree r → RawName) → Formed LineFormed r (λ v. raw_lines.Alias location (x v) (y v))
alias_formed location x y = record { formed = λ len ts v tokens d. tt }

plain_formed : (excepted : List words.Class) (location : Option ℕ) (tags : List RawTag) (results : List RawName)
    → Formed LineFormed (inst excepted) (λ v. raw_lines.Inst location tags results (inst_value excepted v))
plain_formed excepted location tags results = also_formed (inst_formed excepted) LineFormed (λ v. raw_lines.Inst location tags results (inst_value excepted v)) (λ v f. f)

made_formed : (location : Option ℕ) (tags : List RawTag) (results : List RawName) → Formed LineFormed made (λ v. raw_lines.Inst location tags results (made_value v))
made_formed location tags results = then_formed equals (λ e v. raw_lines.Inst location tags results (inst_value [] v)) (λ e. plain_formed [] location tags results)

named_formed : (location : Option ℕ) → Formed LineFormed named (named_value location)
named_formed location =
    then_formed value (λ x v. named_by location (name x) v)
    (λ x. or_formed (alias_formed location (λ v. name x) (λ v. name v.1))
    (then_formed (Many (comma then value)) (λ vs v. raw_lines.Inst location [] (values_from (name x) vs) (made_value v)) (λ vs. made_formed location [] (values_from (name x) vs))))

tagged_formed : (location : Option ℕ) → Formed LineFormed tagged (tagged_value location)
tagged_formed location =
    then_formed debug_tags (λ t v. tagged_by location (debug_tags_value t) v)
    (λ t. or_formed (then_formed (commas value) (λ vs v. raw_lines.Inst location (debug_tags_value t) (commas_value value name vs) (made_value v)) (λ vs. made_formed location (debug_tags_value t) (commas_value value name vs)))
    (plain_formed (classes.Value ∷ []) location (debug_tags_value t) []))

located_formed : (spot : ℕ) → Formed LineFormed located (located_value spot)
located_formed spot = or_formed (named_formed (Some spot)) (or_formed (tagged_formed (Some spot)) (plain_formed (classes.Value ∷ []) (Some spot) [] []))

other_formed : Formed LineFormed other_line other_line_value
other_formed =
    or_formed (tagged_formed None)
    (or_formed (then_formed srcloc (λ x v. located_value x.spot v) (λ x. located_formed x.spot)) (plain_formed (classes.Value ∷ classes.Block ∷ []) None [] []))

abbrev PartFormed : LinePart → Type 0
PartFormed (Whole l) = LineFormed l
PartFormed (Values values) = Unit {0}

whole_formed : (r : Rule) (f : Tree r → RawLine) → Formed LineFormed r f → Formed PartFormed r (λ v. Whole (f v))
whole_formed r f p = also_formed p PartFormed (λ v. Whole (f v)) (λ v h. h)

line_formed : Formed PartFormed line line_value
line_formed = or_formed (whole_formed named (named_value None) (named_formed None)) (whole_formed other_line other_line_value other_formed)

named_or_values_formed : Formed PartFormed named_or_values named_or_values_value
named_or_values_formed = record { formed = go }
  where
    results : Formed PartFormed (value then Many (comma then value) then made) (λ v. Whole (raw_lines.Inst None [] (values_from (name v.0) v.1.0) (made_value v.1.1)))
    results =
        then_formed value (λ x v. Whole (raw_lines.Inst None [] (values_from (name x) v.0) (made_value v.1)))
        (λ x. then_formed (Many (comma then value)) (λ vs v. Whole (raw_lines.Inst None [] (values_from (name x) vs) (made_value v)))
        (λ vs. whole_formed made (λ v. raw_lines.Inst None [] (values_from (name x) vs) (made_value v)) (made_formed None [] (values_from (name x) vs))))

    go : (len : ℕ) (ts : List Lexeme) (v : Tree named_or_values) → Each (IsTextToken len) ts → Derives named_or_values ts v → PartFormed (named_or_values_value v)
    go len ts (x, inl v) tokens d = tt
    go len ts (x, inr (vs, None)) tokens d = tt
    go len ts (x, inr (vs, Some v)) tokens d = results.formed len ts (x, (vs, v)) tokens d

line_or_values_formed : Formed PartFormed line_or_values line_or_values_value
line_or_values_formed = or_formed named_or_values_formed (whole_formed other_line other_line_value other_formed)

-- ---- the values behind a `return`

-- a `return` keeps its form with other values
return_values : (i : RawInst) (values : List RawName) → returns i.operands ≡ true → InstFormed i → InstFormed (raw i.opcode i.suffix (operands.Return values))
return_values i values is formed = go i.operands is formed.operands
  where
    go : (o : RawOperands) → returns o ≡ true → IsOfForm i.opcode.kind o → InstFormed (raw i.opcode i.suffix (operands.Return values))
    go (operands.Return others) is of_form = record { operands = of_form; suffix = formed.suffix; arguments = tt }
    go operands.Nullary is of_form = absurd cc
    go other is of_form = absurd cc

given_formed : (values : List RawName) (l : RawLine) → is_return (Whole l) ≡ true → LineFormed l → LineFormed (with_values values l)
given_formed values (raw_lines.Alias location alias x) is formed = tt
given_formed values (raw_lines.Inst location tags results i) is formed = return_values i values is formed

given_returns : (values : List RawName) (l : RawLine) → is_return (Whole l) ≡ true → is_return (Whole (with_values values l)) ≡ true
given_returns values (raw_lines.Alias location alias x) is = is
given_returns values (raw_lines.Inst location tags results i) is = refl

abbrev Part : Type 0
Part = Tree line ⊎ Tree line_or_values

abbrev LinksLines : Bool → List Lexeme → List Part → Type 0
LinksLines after ts vs = Links (ByFlag (Derives line) (Derives line_or_values)) return_code after ts vs

-- The lines from one on are formed. It is a `return` where what follows may be its values.
abbrev FromFormed : ℕ → List Part → Type 0
FromFormed len vs =
    (after : Bool) (ts : List Lexeme) (l : RawLine) → LineFormed l → (after ≡ true → is_return (Whole l) ≡ true) → Each (IsTextToken len) ts → LinksLines after ts vs
    → Each LineFormed (lines_from l (map part_value vs))

-- behind a `return` a part is the next line, or values for it
behind_return : (len : ℕ) (vs : List Part) → FromFormed len vs → (p : LinePart) (after : Bool) (ts : List Lexeme) (l : RawLine) → LineFormed l → is_return (Whole l) ≡ true → PartFormed p → is_return p ≡ after
    → Each (IsTextToken len) ts → LinksLines after ts vs → Each LineFormed (lines_from l (p ∷ map part_value vs))
behind_return len vs rest (Whole next) after ts l formed is part tells tokens d = (formed, rest after ts next part (λ e. tells ∙ e) tokens d)
behind_return len vs rest (Values values) after ts l formed is part tells tokens d = rest after ts (with_values values l) (given_formed values l is formed) (λ e. given_returns values l is) tokens d

module _ (len : ℕ) (us rest ts : List Lexeme) (cut : ts ≡ us ++ rest) (tokens : Each (IsTextToken len) ts) where
  front_tokens : Each (IsTextToken len) us
  front_tokens = each_left (IsTextToken len) us rest (subst (Each (IsTextToken len)) cut tokens)

  rest_tokens : Each (IsTextToken len) rest
  rest_tokens = each_right (IsTextToken len) us rest (subst (Each (IsTextToken len)) cut tokens)

from_formed : (len : ℕ) (vs : List Part) → FromFormed len vs
from_formed len [] after ts l formed is tokens d = (formed, tt)
from_formed len (inl (inl w) ∷ vs) after ts l formed is tokens d = (
  formed,
  from_formed len vs (ends return_code after d.0) d.1 (named_value None w) (line_formed.formed len d.0 (inl w) (front_tokens len d.0 d.1 ts d.2 tokens) d.3.0.1)
      (λ e. sym (line_ends.so d.0 (inl w) d.3.0.1 after) ∙ e) (rest_tokens len d.0 d.1 ts d.2 tokens) d.3.1,
)
from_formed len (inl (inr w) ∷ vs) after ts l formed is tokens d = (
  formed,
  from_formed len vs (ends return_code after d.0) d.1 (other_line_value w) (line_formed.formed len d.0 (inr w) (front_tokens len d.0 d.1 ts d.2 tokens) d.3.0.1)
      (λ e. sym (line_ends.so d.0 (inr w) d.3.0.1 after) ∙ e) (rest_tokens len d.0 d.1 ts d.2 tokens) d.3.1,
)
from_formed len (inr v ∷ vs) after ts l formed is tokens d =
    behind_return len vs (from_formed len vs) (line_or_values_value v) (ends return_code after d.0) d.1 l formed (is d.3.0.0)
    (line_or_values_formed.formed len d.0 v (front_tokens len d.0 d.1 ts d.2 tokens) d.3.0.1) (sym (line_or_values_ends.so d.0 v d.3.0.1 after)) (rest_tokens len d.0 d.1 ts d.2 tokens) d.3.1

lines_formed : Formed (Each LineFormed) lines lines_value
lines_formed = record { formed = go }
  where
    go : (len : ℕ) (ts : List Lexeme) (vs : List Part) → Each (IsTextToken len) ts → LinksLines false ts vs → Each LineFormed (lines_of_parts (map part_value vs))
    go len ts [] tokens d = tt
    go len ts (inl (inl w) ∷ vs) tokens d =
        from_formed len vs (ends return_code false d.0) d.1 (named_value None w) (line_formed.formed len d.0 (inl w) (front_tokens len d.0 d.1 ts d.2 tokens) d.3.0.1)
        (λ e. sym (line_ends.so d.0 (inl w) d.3.0.1 false) ∙ e) (rest_tokens len d.0 d.1 ts d.2 tokens) d.3.1
    go len ts (inl (inr w) ∷ vs) tokens d =
        from_formed len vs (ends return_code false d.0) d.1 (other_line_value w) (line_formed.formed len d.0 (inr w) (front_tokens len d.0 d.1 ts d.2 tokens) d.3.0.1)
        (λ e. sym (line_ends.so d.0 (inr w) d.3.0.1 false) ∙ e) (rest_tokens len d.0 d.1 ts d.2 tokens) d.3.1
    go len ts (inr v ∷ vs) tokens d = absurd (let no : false ≡ true = d.3.0.0 in cc)

-- ---- blocks, functions and modules

behind : {A : Type 0} {P : A → Type 0} (a : Rule) {b : Rule} {f : Tree b → A} → Formed P b f → Formed P (rules.Seq a b) (λ v. f v.1)
behind a {b} {f} p = then_formed a (λ x v. f v) (λ x. p)

many_formed : {A : Type 0} {P : A → Type 0} {a : Rule} {f : Tree a → A} → Formed P a f → Formed (Each P) (Many a) (λ vs. map f vs)
many_formed {A} {P} {a} {f} p = record { formed = go }
  where
    go : (len : ℕ) (ts : List Lexeme) (vs : List (Tree a)) → Each (IsTextToken len) ts → Derives (Many a) ts vs → Each P (map f vs)
    go len ts [] tokens d = tt
    go len ts (v ∷ vs) tokens d = (p.formed len d.0 v (front_tokens len d.0 d.1 ts d.2 tokens) d.3.0, go len d.1 vs (rest_tokens len d.0 d.1 ts d.2 tokens) d.3.1)

block_formed : Formed BlockFormed block_rule block_value
block_formed = also_formed (behind block (behind (Opt block_params) (behind (Opt cold) (behind colon lines_formed)))) BlockFormed block_value (λ v h. h)

blocks_formed : Formed (Each BlockFormed) (block_rule then Many block_rule then right_brace) (λ v. block_value v.0 ∷ map block_value v.1.0)
blocks_formed = record {
  formed = λ len ts v tokens d.
      let more = d.3.1 in
      let rest = rest_tokens len d.0 d.1 ts d.2 tokens in (
        block_formed.formed len d.0 v.0 (front_tokens len d.0 d.1 ts d.2 tokens) d.3.0,
        (many_formed block_formed).formed len more.0 v.1.0 (front_tokens len more.0 more.1 d.1 more.2 rest) more.3.0,
      );
}

function_formed : Formed FunctionFormed function function_value
function_formed =
    also_formed (behind function_word (behind func_name (behind signature (behind left_brace (behind (Many decl) blocks_formed))))) FunctionFormed function_value
    (λ v h. record { begins = λ e. cc; blocks = h })

functions_formed : Formed (Each FunctionFormed) module_rule (λ v. map function_value v.1)
functions_formed = behind (Many header) (many_formed function_formed)

pub module_formed : (len : ℕ) (ts : List Lexeme) (m : RawModule) → AreTextTokens len ts → IsModule ts m → IsFormed len m
module_formed len ts m tokens (v, d, same, only) =
    subst (IsFormed len) (sym same) (record { functions = functions_formed.formed len ts v tokens.each d; marks = marks_formed (module_marked.among ts v d) len tokens })

pub text_formed : (text : List ℕ) (m : RawModule) → IsModuleText text m → IsFormed (length text) m
text_formed text m read = module_formed (length text) (lexemes text read.tokens) m (text_tokens text read.tokens read.lexed) read.read

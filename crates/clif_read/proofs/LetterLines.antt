-- The lines of a block are those of the EBNF, although the values of a `return` are read behind it, and what begins with a value is one rule.
use Rattle.std.proofs.Common.{◌≡◌, ℕ, pos, List, [], ◌∷◌, map, Option, Some, None, refl, sym, ap, ◌∙◌, inl, inr}
use Rattle.std.specs.Prelude.{◌⊎◌}
use Rattle.std.proofs.lemmas.List.{append-nil}
use Rattle.grammar.specs.Rules.{Lexeme, Rule, Opt, Many, Tree, Derives}
use Rattle.grammar.proofs.Tails.{Or, or_opt, or_left, or_right, or_seq}
use Rattle.clif_words.specs.declared.class.Class.{Class}
use Rattle.clif_words.specs.declared.class.Class.TheVariants as classes
use Rattle.token_reader.specs.declared.raw.RawName.{RawName}
use Rattle.clif_insts.specs.declared.raw.RawInst.{RawInst}
use Rattle.clif_words.specs.Terminals.{◌then◌, ◌or◌, srcloc, value, comma, arrow, equals, return_word}
use Rattle.token_reader.specs.Grammar.{commas}
use Rattle.clif_insts.specs.Grammar.{instruction, whole_inst, return_values}
use Rattle.token_reader.specs.Reading.{name}
use Rattle.token_reader.specs.Values.{either, commas_value}
use Rattle.clif_insts.specs.InstValues.{whole_value}
use Rattle.clif_read.specs.declared.raw.RawTag.{RawTag}
use Rattle.clif_read.specs.declared.raw.RawLine.{RawLine}
use Rattle.clif_read.specs.declared.raw.RawLine.TheVariants as raw_lines
use Rattle.clif_read.specs.ModuleGrammar.{debug_tags, made, named, named_or_values, tagged, located, line, line_or_values, lines}
use Rattle.clif_read.specs.LineValues.{LinePart, Whole, Values, debug_tags_value, values_from, line_value, line_or_values_value, part_value, with_values, lines_value}
use Rattle.clif_read.specs.LetterLines.{results, letter_line, letter_lines, location, results_value, tags_value, letter_line_value, letter_lines_value}
use Rattle.clif_read.specs.Alike.{Means, Alike}
use Rattle.clif_read.proofs.Alike.{alike_same, alike_back, alike_then, alike_map, alt_alike, alt_swap, alt_group, seq_second, seq_group, seq_alt, opt_seq, many_alike}
use Rattle.clif_read.proofs.Given.{Given, given_same, given_alt, given_seq, given_map, Chaining, part, chained, chain_alike}
use Rattle.clif_read.proofs.LetterInsts.{c, values, values_value, whole_of, alone_of, inst_given, inst_alike}
use Rattle.clif_read.proofs.LineLaws.{from_none, add_parts, last_gets}

-- ---- lines in which an instruction has its own values, or values that stand behind it

-- which of the two, and what it means
pub record Returned : Type 0 where
  pub rule : Rule
  pub inst : (excepted : List Class) → Tree (instruction rule excepted) → RawInst

abbrev own : Returned
own = record { rule = return_values; inst = whole_of }

abbrev behind : Returned
behind = record { rule = return_word; inst = alone_of }

abbrev made_by : Returned → Rule
made_by r = equals then instruction r.rule []

abbrev named_tail : Returned → Rule
named_tail r = (arrow then value) or (Many (comma then value) then made_by r)

abbrev named_by : Returned → Rule
named_by r = value then named_tail r

abbrev tagged_tail : Returned → Rule
tagged_tail r = (commas value then made_by r) or instruction r.rule (classes.Value ∷ [])

abbrev tagged_by : Returned → Rule
tagged_by r = debug_tags then tagged_tail r

abbrev located_by : Returned → Rule
located_by r = named_by r or tagged_by r or instruction r.rule (classes.Value ∷ [])

abbrev line_of : Returned → Rule
line_of r = named_by r or tagged_by r or (srcloc then located_by r) or instruction r.rule (classes.Value ∷ classes.Block ∷ [])

abbrev made_line : (r : Returned) → Option ℕ → List RawTag → List RawName → Tree (made_by r) → RawLine
made_line r l ts rs v = raw_lines.Inst l ts rs (r.inst [] v.1)

abbrev inst_line : (r : Returned) (excepted : List Class) → Option ℕ → List RawTag → List RawName → Tree (instruction r.rule excepted) → RawLine
inst_line r excepted l ts rs v = raw_lines.Inst l ts rs (r.inst excepted v)

abbrev named_tail_line : (r : Returned) → Option ℕ → RawName → Tree (named_tail r) → RawLine
named_tail_line r l first = either (λ v. raw_lines.Alias l first (name v.1)) (λ v. made_line r l [] (values_from first v.0) v.1)

abbrev named_line : (r : Returned) → Option ℕ → Tree (named_by r) → RawLine
named_line r l v = named_tail_line r l (name v.0) v.1

abbrev tagged_tail_line : (r : Returned) → Option ℕ → List RawTag → Tree (tagged_tail r) → RawLine
tagged_tail_line r l ts = either (λ v. made_line r l ts (commas_value value name v.0) v.1) (inst_line r (classes.Value ∷ []) l ts [])

abbrev tagged_line : (r : Returned) → Option ℕ → Tree (tagged_by r) → RawLine
tagged_line r l v = tagged_tail_line r l (debug_tags_value v.0) v.1

abbrev located_line : (r : Returned) → Option ℕ → Tree (located_by r) → RawLine
located_line r l = either (named_line r l) (either (tagged_line r l) (inst_line r (classes.Value ∷ []) l [] []))

abbrev line_by : (r : Returned) → Tree (line_of r) → RawLine
line_by r = either (named_line r None) (either (tagged_line r None) (either (λ v. located_line r (Some v.0.spot) v.1) (inst_line r (classes.Value ∷ classes.Block ∷ []) None [] [])))

-- ---- values that stand behind a line are given to it

any_name : RawName
any_name = record { number = 0; spot = 0 }

any_lexeme : Lexeme
any_lexeme = record { class = 0; number = 0; amount = pos 0; name = []; spot = 0 }

inst_line_given : (excepted : List Class) (l : Option ℕ) (ts : List RawTag) (rs : List RawName) → Given c (instruction return_values excepted) (instruction return_word excepted) values (inst_line own excepted l ts rs) (inst_line behind excepted l ts rs) values_value with_values
inst_line_given excepted l ts rs = given_map (raw_lines.Inst l ts rs) with_values (λ x y. refl) (inst_given excepted)

made_given : (l : Option ℕ) (ts : List RawTag) (rs : List RawName) → Given c (made_by own) (made_by behind) values (made_line own l ts rs) (made_line behind l ts rs) values_value with_values
made_given l ts rs = given_seq {M = Lexeme} (λ x. x) {fn = λ x. inst_line own [] l ts rs} {fa = λ x. inst_line behind [] l ts rs} refl any_lexeme (λ x. inst_line_given [] l ts rs)

named_tail_given : (l : Option ℕ) (first : RawName) → Given c (named_tail own) (named_tail behind) values (named_tail_line own l first) (named_tail_line behind l first) values_value with_values
named_tail_given l first =
    given_alt (given_same c (arrow then value) values (λ v. raw_lines.Alias l first (name v.1)) (λ v. raw_lines.Alias l first (name v.1)) values_value with_values (λ v. refl) refl refl)
    (given_seq {M = List RawName} (values_from first) {fn = made_line own l []} {fa = made_line behind l []} refl [] (made_given l []))

named_given : (l : Option ℕ) → Given c (named_by own) (named_by behind) values (named_line own l) (named_line behind l) values_value with_values
named_given l = given_seq {M = RawName} name {fn = named_tail_line own l} {fa = named_tail_line behind l} refl any_name (named_tail_given l)

tagged_tail_given : (l : Option ℕ) (ts : List RawTag) → Given c (tagged_tail own) (tagged_tail behind) values (tagged_tail_line own l ts) (tagged_tail_line behind l ts) values_value with_values
tagged_tail_given l ts =
    given_alt (given_seq {M = List RawName} (commas_value value name) {fn = made_line own l ts} {fa = made_line behind l ts} refl [] (made_given l ts))
    (inst_line_given (classes.Value ∷ []) l ts [])

tagged_given : (l : Option ℕ) → Given c (tagged_by own) (tagged_by behind) values (tagged_line own l) (tagged_line behind l) values_value with_values
tagged_given l = given_seq {M = List RawTag} debug_tags_value {fn = tagged_tail_line own l} {fa = tagged_tail_line behind l} refl [] (tagged_tail_given l)

located_given : (l : Option ℕ) → Given c (located_by own) (located_by behind) values (located_line own l) (located_line behind l) values_value with_values
located_given l = given_alt (named_given l) (given_alt (tagged_given l) (inst_line_given (classes.Value ∷ []) l [] []))

line_given : Given c (line_of own) line values (line_by own) (line_by behind) values_value with_values
line_given =
    given_alt (named_given None)
    (given_alt (tagged_given None)
    (given_alt (given_seq {M = ℕ} (λ (x : Lexeme). x.spot) {fn = λ spot. located_line own (Some spot)} {fa = λ spot. located_line behind (Some spot)} refl 0 (λ spot. located_given (Some spot)))
    (inst_line_given (classes.Value ∷ classes.Block ∷ []) None [] [])))

-- ---- a line, or values

line_offered : (ts : List Lexeme) (x : Tree line) → Derives line ts x → Means line_or_values line_or_values_value ts (Whole (line_by behind x))
line_offered ts (inl (x, inl v)) d = (inl (x, inl v), d, refl)
line_offered ts (inl (x, inr (m, v))) d = (inl (x, inr (m, Some v)), d, refl)
line_offered ts (inr (inl v)) d = (inr (inl v), d, refl)
line_offered ts (inr (inr (inl v))) d = (inr (inr (inl v)), d, refl)
line_offered ts (inr (inr (inr v))) d = (inr (inr (inr v)), d, refl)

values_offered : (ts : List Lexeme) (x : Tree values) → Derives values ts x → Means line_or_values line_or_values_value ts (Values (values_value x))
values_offered ts (x, m) d = (inl (x, inr (m, None)), (d.0, d.1, d.2, (d.3.0, (d.1, [], sym (append-nil d.1), (d.3.1, refl)))), refl)

line_or : Or line_or_values line values
line_or =
    or_left named_or_values named values (tagged or (srcloc then located) or instruction return_word (classes.Value ∷ classes.Block ∷ []))
    (or_seq ((arrow then value) or (Many (comma then value) then Opt made)) ((arrow then value) or (Many (comma then value) then made)) (Many (comma then value)) value
    (or_right (Many (comma then value) then Opt made) (Many (comma then value) then made) (Many (comma then value)) (arrow then value) (or_opt (Many (comma then value)) made)))

abbrev chaining : Chaining RawLine (List RawName) LinePart
chaining = record {
  c = c;
  n = line_of own;
  a = line;
  b = line_or_values;
  w = values;
  fn = line_by own;
  fa = line_by behind;
  fb = line_or_values_value;
  fw = values_value;
  give = with_values;
  whole = Whole;
  rest = Values;
  joined = add_parts;
  given = line_given;
  offers = record { both = line_or; from_a = line_offered; from_w = values_offered };
  joins = record { nothing = λ ys. refl; one = λ ys y ps. refl; more = λ ys y z ps. ap (λ (l : List RawLine). add_parts l ps) (last_gets z ys y) };
  some_a = refl;
  some_w = refl;
  quiet_w = refl;
  readable = refl;
}

line_seen : (v : Tree line) → Whole (line_by behind v) ≡ line_value v
line_seen (inl v) = refl
line_seen (inr (inl v)) = refl
line_seen (inr (inr (inl v))) = refl
line_seen (inr (inr (inr v))) = refl

part_seen : (v : Tree line ⊎ Tree line_or_values) → part chaining v ≡ part_value v
part_seen (inl v) = line_seen v
part_seen (inr v) = refl

parts_seen : (vs : List (Tree line ⊎ Tree line_or_values)) → map (part chaining) vs ≡ map part_value vs
parts_seen [] = refl
parts_seen (v ∷ vs) = rw (part_seen v, parts_seen vs) refl

own_lines : Alike (Many (line_of own)) lines (map (line_by own)) lines_value
own_lines = alike_then (chain_alike chaining) (alike_same lines (chained chaining) lines_value (λ vs. ap (add_parts []) (parts_seen vs) ∙ from_none (map part_value vs)))

-- ---- a line by the letter

inst_line_alike : (these those : List Class) (l : Option ℕ) (ts : List RawTag) (rs : List RawName) → Alike (instruction return_values these) (instruction return_values those) (inst_line own these l ts rs) (inst_line own those l ts rs)
inst_line_alike these those l ts rs = alike_map (raw_lines.Inst l ts rs) (inst_alike these those)

same : (r : Rule) (f : Tree r → RawLine) → Alike r r f f
same r f = alike_same r f f (λ v. refl)

abbrev result_line : Option ℕ → List RawTag → Tree (Opt results then whole_inst) → RawLine
result_line l ts v = raw_lines.Inst l ts (results_value v.0) (whole_value v.1)

-- results may be left out
results_alike : (l : Option ℕ) (ts : List RawTag) → Alike (Opt results then whole_inst) (tagged_tail own) (result_line l ts) (tagged_tail_line own l ts)
results_alike l ts =
    alike_then (opt_seq results whole_inst (λ o v. raw_lines.Inst l ts (results_value o) (whole_value v)))
    (alike_then (alt_swap whole_inst (results then whole_inst) (λ v. raw_lines.Inst l ts [] (whole_value v)) (λ v. raw_lines.Inst l ts (commas_value value name v.0.0) (whole_value v.1)))
    (alt_alike (seq_group (commas value) equals whole_inst (λ x e v. raw_lines.Inst l ts (commas_value value name x) (whole_value v))) (inst_line_alike [] (classes.Value ∷ []) l ts [])))

abbrev bare_line : Option ℕ → Tree (Opt debug_tags then Opt results then whole_inst) → RawLine
bare_line l v = result_line l (tags_value v.0) v.1

-- tags may be left out
tags_alike : (l : Option ℕ) → Alike (Opt debug_tags then Opt results then whole_inst) (tagged_tail own or tagged_by own) (bare_line l) (either (tagged_tail_line own l []) (tagged_line own l))
tags_alike l =
    alike_then (opt_seq debug_tags (Opt results then whole_inst) (λ o v. result_line l (tags_value o) v))
    (alt_alike (results_alike l []) (seq_second {M = List RawTag} debug_tags_value (result_line l) (tagged_tail_line own l) (results_alike l)))

abbrev alias_by : Option ℕ → Tree (value then arrow then value) → RawLine
alias_by l v = raw_lines.Alias l (name v.0) (name v.1.1)

abbrev results_by : Option ℕ → Tree (commas value then made_by own) → RawLine
results_by l v = made_line own l [] (commas_value value name v.0) v.1

-- what begins with a value
named_alike : (l : Option ℕ) → Alike ((value then arrow then value) or (commas value then made_by own)) (named_by own) (either (alias_by l) (results_by l)) (named_line own l)
named_alike l =
    alike_then (alt_alike (same (value then arrow then value) (alias_by l)) (seq_group value (Many (comma then value)) (made_by own) (λ x m v. made_line own l [] (values_from (name x) m) v)))
    (alike_back (seq_alt value (arrow then value) (Many (comma then value) then made_by own) (λ x v. raw_lines.Alias l (name x) (name v.1)) (λ x v. made_line own l [] (values_from (name x) v.0) v.1)))

-- what stands behind a location
located_alike : (l : Option ℕ) → Alike ((value then arrow then value) or (Opt debug_tags then Opt results then whole_inst)) (located_by own) (either (alias_by l) (bare_line l)) (located_line own l)
located_alike l =
    alike_then (alt_alike (same (value then arrow then value) (alias_by l)) (tags_alike l))
    (alike_then (alt_alike (same (value then arrow then value) (alias_by l)) (alt_group (commas value then made_by own) (instruction return_values (classes.Value ∷ [])) (tagged_by own) (results_by l) (inst_line own (classes.Value ∷ []) l [] []) (tagged_line own l)))
    (alike_then (alike_back (alt_group (value then arrow then value) (commas value then made_by own) (instruction return_values (classes.Value ∷ []) or tagged_by own) (alias_by l) (results_by l) (either (inst_line own (classes.Value ∷ []) l [] []) (tagged_line own l))))
    (alt_alike (named_alike l) (alt_swap (instruction return_values (classes.Value ∷ [])) (tagged_by own) (inst_line own (classes.Value ∷ []) l [] []) (tagged_line own l)))))

abbrev at_spot : Tree (srcloc then located_by own) → RawLine
at_spot v = located_line own (Some v.0.spot) v.1

-- a line with or without a location
line_alike : Alike letter_line (line_of own) letter_line_value (line_by own)
line_alike =
    alike_then (alike_back (seq_alt (Opt srcloc) (value then arrow then value) (Opt debug_tags then Opt results then whole_inst) (λ o v. alias_by (location o) v) (λ o v. bare_line (location o) v)))
    (alike_then (seq_second {M = Option ℕ} location (λ l. either (alias_by l) (bare_line l)) (located_line own) located_alike)
    (alike_then (opt_seq srcloc (located_by own) (λ o v. located_line own (location o) v))
    (alike_then (alt_group (named_by own) (tagged_by own or instruction return_values (classes.Value ∷ [])) (srcloc then located_by own) (named_line own None) (either (tagged_line own None) (inst_line own (classes.Value ∷ []) None [] [])) at_spot)
    (alt_alike (same (named_by own) (named_line own None))
    (alike_then (alt_group (tagged_by own) (instruction return_values (classes.Value ∷ [])) (srcloc then located_by own) (tagged_line own None) (inst_line own (classes.Value ∷ []) None [] []) at_spot)
    (alt_alike (same (tagged_by own) (tagged_line own None))
    (alike_then (alt_swap (instruction return_values (classes.Value ∷ [])) (srcloc then located_by own) (inst_line own (classes.Value ∷ []) None [] []) at_spot)
    (alt_alike (same (srcloc then located_by own) at_spot) (inst_line_alike (classes.Value ∷ []) (classes.Value ∷ classes.Block ∷ []) None [] [])))))))))

-- the lines of a block are those of the EBNF
pub lines_alike : Alike letter_lines lines letter_lines_value lines_value
lines_alike = alike_then (many_alike line_alike) own_lines

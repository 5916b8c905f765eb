-- The lines of a block are read as the grammar says.
use Rattle.std.proofs.Common.{◌≡◌, ℕ, zero, suc, Bool, true, false, cond, List, [], ◌∷◌, ◌++◌, length, map, Option, Some, None, Ok, Err, refl, sym, ap, ◌∙◌, inl, inr, append_assoc}
use Rattle.std.specs.Prelude.{◌⊎◌}
use Rattle.grammar.specs.Rules.{Lexeme, Opt, Many, Tree, ByFlag, Derives, Out, ends, used, heads, firsts, chain, by_flag, read, ◌>>=◌}
use Rattle.grammar.proofs.Chains.{used_is}
use Rattle.grammar.proofs.Exactness.{flag_firsts, sound, sound_flag}
use Rattle.clif_words.specs.declared.class.Class.TheVariants as classes
use Rattle.clif_words.specs.Classes.{code}
use Rattle.clif_words.specs.Terminals.{◌then◌, ◌or◌, comma, arrow, greater, value}
use Rattle.clif_insts.specs.declared.opening.Opening.{Opening}
use Rattle.clif_insts.specs.declared.opening.Opening.TheVariants.{AfterResults, AfterTags, LineStart}
use Rattle.token_reader.specs.declared.raw.RawName.{RawName}
use Rattle.token_reader.specs.Grammar.{commas}
use Rattle.clif_insts.specs.Grammar.{excepted, inst}
use Rattle.token_reader.specs.Reading.{name, name_at, commas_at}
use Rattle.clif_insts.specs.Forms.{inst_at}
use Rattle.token_reader.specs.Values.{commas_value, seen}
use Rattle.clif_insts.specs.InstValues.{inst_value}
use Rattle.token_reader.proofs.Seen.{Is, then_is, map_is, opt_is, alt_is, name_is}
use Rattle.token_reader.proofs.TypeLaws.{commas_is, number_is}
use Rattle.clif_insts.proofs.PartLaws.{values_is, more_values_is}
use Rattle.clif_insts.proofs.InstLaws.{inst_is}
use Rattle.clif_read.specs.declared.raw.RawTag.{RawTag}
use Rattle.clif_read.specs.declared.raw.RawTag.TheVariants as tag_kinds
use Rattle.clif_read.specs.declared.raw.RawLine.{RawLine}
use Rattle.clif_read.specs.declared.raw.RawLine.TheVariants as raw_lines
use Rattle.clif_read.specs.ModuleGrammar.{debug_tag, debug_tags, made, named, named_or_values, tagged, located, other_line, line, line_or_values, lines}
use Rattle.clif_read.specs.LineValues.{LinePart, Whole, Values, made_value, debug_tag_value, debug_tags_value, values_from, named_by, named_value, tagged_by, tagged_value, located_value, other_line_value, line_value, values_by, named_or_values_by, named_or_values_value, line_or_values_value, with_values, lines_from, lines_of_parts, part_value, lines_value}
use Rattle.clif_read.specs.Tags.{debug_tag_at, debug_tags_at}
use Rattle.clif_read.specs.Lines.{made_at, alias_at, results_at, named_at, plain_at, tagged_results_at, tagged_at, located_at, other_line_at, opt_made_at, values_or_results_at, named_or_values_at, line_at, is_return, to_last, add_part, more_lines_at, lines_at}
use Rattle.clif_read.proofs.LineEnds.{line_ends, line_or_values_ends}

-- ---- debug tags

debug_tag_is : Is debug_tag debug_tag_value debug_tag_at
unfolding debug_tag_at
debug_tag_is = alt_is (map_is number_is tag_kinds.User) (map_is (name_is classes.Slot) tag_kinds.Slot)

debug_tags_is : Is debug_tags debug_tags_value debug_tags_at
unfolding debug_tags_at
debug_tags_is =
    then_is (name_is classes.Less) (commas debug_tag then greater) (λ l v. commas_value debug_tag debug_tag_value v.0) (λ l ts. commas_at debug_tag_at ts >>= λ tags. name_at classes.Greater tags.1 >>= λ g. Ok (tags.0, g.1))
    (λ l. then_is (commas_is debug_tag_is) greater (λ tags v. tags) (λ tags ts. name_at classes.Greater ts >>= λ g. Ok (tags, g.1)) (λ tags. map_is (name_is classes.Greater) (λ g. tags)))

-- ---- one line

made_is : Is made made_value made_at
unfolding made_at
made_is = then_is (name_is classes.Equals) (inst []) (λ e v. inst_value [] v) (λ e. inst_at AfterResults) (λ e. inst_is AfterResults)

alias_is : (location : Option ℕ) (alias : RawName) → Is (arrow then value) (λ v. raw_lines.Alias location alias (name v.1)) (alias_at location alias)
unfolding alias_at
alias_is location alias =
    then_is (name_is classes.Arrow) value (λ a v. raw_lines.Alias location alias (name v)) (λ a ts. name_at classes.Value ts >>= λ v. Ok (raw_lines.Alias location alias v.0, v.1))
    (λ a. map_is (name_is classes.Value) (raw_lines.Alias location alias))

results_is : (location : Option ℕ) (first : RawName) → Is (Many (comma then value) then made) (λ v. raw_lines.Inst location [] (values_from first v.0) (made_value v.1)) (results_at location first)
unfolding results_at
results_is location first =
    then_is (more_values_is (first ∷ [])) made (λ results v. raw_lines.Inst location [] results (made_value v)) (λ results ts. made_at ts >>= λ inst. Ok (raw_lines.Inst location [] results inst.0, inst.1))
    (λ results. map_is made_is (raw_lines.Inst location [] results))

named_is : (location : Option ℕ) → Is named (named_value location) (named_at location)
unfolding named_at
named_is location =
    then_is (name_is classes.Value) ((arrow then value) or (Many (comma then value) then made)) (named_by location) (λ first ts. cond (heads (code classes.Arrow ∷ []) ts) (alias_at location first ts) (results_at location first ts))
    (λ first. alt_is (alias_is location first) (results_is location first))

plain_is : (opening : Opening) (location : Option ℕ) (tags : List RawTag) → Is (inst (excepted opening)) (λ v. raw_lines.Inst location tags [] (inst_value (excepted opening) v)) (plain_at opening location tags)
unfolding plain_at
plain_is opening location tags = map_is (inst_is opening) (raw_lines.Inst location tags [])

tagged_results_is : (location : Option ℕ) (tags : List RawTag) → Is (commas value then made) (λ v. raw_lines.Inst location tags (commas_value value name v.0) (made_value v.1)) (tagged_results_at location tags)
unfolding tagged_results_at
tagged_results_is location tags =
    then_is values_is made (λ results v. raw_lines.Inst location tags results (made_value v)) (λ results ts. made_at ts >>= λ inst. Ok (raw_lines.Inst location tags results inst.0, inst.1))
    (λ results. map_is made_is (raw_lines.Inst location tags results))

tagged_is : (location : Option ℕ) → Is tagged (tagged_value location) (tagged_at location)
unfolding tagged_at
tagged_is location =
    then_is debug_tags_is ((commas value then made) or inst (classes.Value ∷ [])) (tagged_by location) (λ tags ts. cond (heads (code classes.Value ∷ []) ts) (tagged_results_at location tags ts) (plain_at AfterTags location tags ts))
    (λ tags. alt_is (tagged_results_is location tags) (plain_is AfterTags location tags))

located_is : (spot : ℕ) → Is located (located_value spot) (located_at spot)
unfolding located_at
located_is spot = alt_is (named_is (Some spot)) (alt_is (tagged_is (Some spot)) (plain_is AfterTags (Some spot) []))

other_line_is : Is other_line other_line_value other_line_at
unfolding other_line_at
other_line_is =
    alt_is (tagged_is None)
    (alt_is (then_is (name_is classes.Srcloc) located (λ location v. located_value location.spot v) (λ location. located_at location.spot) (λ location. located_is location.spot)) (plain_is LineStart None []))

line_is : Is line line_value (line_at false)
unfolding line_at
line_is = alt_is (map_is (named_is None) Whole) (map_is other_line_is Whole)

opt_made_is : (values : List RawName) → Is (Opt made) (values_by values) (opt_made_at values)
unfolding opt_made_at
opt_made_is values = opt_is (map_is made_is (λ inst. Whole (raw_lines.Inst None [] values inst))) (Values values)

values_or_results_is : (first : RawName) → Is (Many (comma then value) then Opt made) (λ v. values_by (values_from first v.0) v.1) (values_or_results_at first)
unfolding values_or_results_at
values_or_results_is first = then_is (more_values_is (first ∷ [])) (Opt made) values_by opt_made_at opt_made_is

named_or_values_is : Is named_or_values named_or_values_value named_or_values_at
unfolding named_or_values_at
named_or_values_is =
    then_is (name_is classes.Value) ((arrow then value) or (Many (comma then value) then Opt made)) named_or_values_by
    (λ first ts. cond (heads (code classes.Arrow ∷ []) ts) (alias_at None first ts >>= λ l. Ok (Whole l.0, l.1)) (values_or_results_at first ts))
    (λ first. alt_is (map_is (alias_is None first) Whole) (values_or_results_is first))

line_or_values_is : Is line_or_values line_or_values_value (line_at true)
unfolding line_at
line_or_values_is = alt_is named_or_values_is (map_is other_line_is Whole)

-- ---- lines

abbrev Part : Type 0
Part = Tree line ⊎ Tree line_or_values

abbrev part : Bool → List Lexeme → Out Part
part after_return ts = by_flag (read line) (read line_or_values) after_return ts

seen_left : (o : Out (Tree line)) → seen line_value o ≡ seen part_value (o >>= λ x. Ok (inl x.0, x.1))
seen_left (Ok x) = refl
seen_left (Err e) = refl

seen_right : (o : Out (Tree line_or_values)) → seen line_or_values_value o ≡ seen part_value (o >>= λ x. Ok (inr x.0, x.1))
seen_right (Ok x) = refl
seen_right (Err e) = refl

part_is : (after_return : Bool) (ts : List Lexeme) → line_at after_return ts ≡ seen part_value (part after_return ts)
part_is false ts = line_is.same ts ∙ seen_left (read line ts)
part_is true ts = line_or_values_is.same ts ∙ seen_right (read line_or_values ts)

-- the next line may be values, if this one ends with `return`
return_ends : (after_return : Bool) (ts : List Lexeme) (x : Part × List Lexeme) → part after_return ts ≡ Ok x → ends (code classes.Return) after_return (used ts x.1) ≡ is_return (part_value x.0)
return_ends after_return ts x e =
    let s = sound_flag line line_or_values (sound line) (sound line_or_values) after_return ts x e in
    ap (ends (code classes.Return) after_return) (used_is ts s.0 x.1 s.1) ∙ go s.0 x.0 s.2
  where
    go : (us : List Lexeme) (v : Part) → ByFlag (Derives line) (Derives line_or_values) after_return us v → ends (code classes.Return) after_return us ≡ is_return (part_value v)
    go us (inl v) d = line_ends.so us v d.1 after_return
    go us (inr v) d = line_or_values_ends.so us v d.1 after_return

-- what is read behind some lines
abbrev pub add_parts : List RawLine → List LinePart → List RawLine
add_parts before [] = before
add_parts before (p ∷ ps) = add_parts (add_part before p) ps

abbrev links : Bool → ℕ → List Lexeme → Out (List Part)
links after_return n ts = chain part (flag_firsts line line_or_values) (code classes.Return) after_return n ts

abbrev Lines : Type 0
Lines = Out (List RawLine)

abbrev behind : List RawLine → List Part → List RawLine
behind before vs = add_parts before (map part_value vs)

abbrev Turns : ℕ → Type 0
Turns n = (before : List RawLine) (after_return : Bool) (ts : List Lexeme) → more_lines_at n before after_return ts ≡ seen (behind before) (links after_return n ts)

abbrev code_step : ℕ → List RawLine → Out LinePart → Lines
code_step n before o = o >>= λ p. more_lines_at n (add_part before p.0) (is_return p.0) p.1

abbrev rule_step : ℕ → Bool → List Lexeme → Out Part → Out (List Part)
rule_step n after_return ts o = o >>= λ x. links (ends (code classes.Return) after_return (used ts x.1)) n x.1 >>= λ y. Ok (x.0 ∷ y.0, y.1)

seen_more : (before : List RawLine) (v : Part) (o : Out (List Part)) → seen (behind (add_part before (part_value v))) o ≡ seen (behind before) (o >>= λ y. Ok (v ∷ y.0, y.1))
seen_more before v (Ok y) = refl
seen_more before v (Err e) = refl

one_turn : (n : ℕ) → Turns n → (before : List RawLine) (after_return : Bool) (ts : List Lexeme) (o : Out Part) → part after_return ts ≡ o
    → code_step n before (seen part_value o) ≡ seen (behind before) (rule_step n after_return ts o)
one_turn n turns before after_return ts (Err e) h = refl
one_turn n turns before after_return ts (Ok x) h =
    turns (add_part before (part_value x.0)) (is_return (part_value x.0)) x.1
    ∙ ap (λ f. seen (behind (add_part before (part_value x.0))) (links f n x.1)) (sym (return_ends after_return ts x h))
    ∙ seen_more before x.0 (links (ends (code classes.Return) after_return (used ts x.1)) n x.1)

-- a line and the values of a `return` begin alike
same_firsts : (after_return : Bool) → flag_firsts line line_or_values after_return ≡ firsts line
same_firsts true = refl
same_firsts false = refl

turns_are : (n : ℕ) → Turns n
unfolding more_lines_at
turns_are zero before after_return ts = refl
turns_are (suc n) before after_return ts =
    go (turns_are n) (heads (firsts line) ts)
    ∙ ap (λ (cs : List ℕ). seen (behind before) (cond (heads cs ts) (rule_step n after_return ts (part after_return ts)) (Ok ([], ts)))) (sym (same_firsts after_return))
  where
    go : Turns n → (b : Bool) → cond b (code_step n before (line_at after_return ts)) (Ok (before, ts)) ≡ seen (behind before) (cond b (rule_step n after_return ts (part after_return ts)) (Ok ([], ts)))
    go turns true = ap (code_step n before) (part_is after_return ts) ∙ one_turn n turns before after_return ts (part after_return ts) refl
    go turns false = refl

-- lines that grow at their end are lines, each with what stands behind it
pub last_gets : (values : List RawName) (front : List RawLine) (l : RawLine) → to_last values (front ++ l ∷ []) ≡ front ++ with_values values l ∷ []
last_gets values [] l = refl
last_gets values (a ∷ []) l = refl
last_gets values (a ∷ b ∷ front) l = ap (λ ls. a ∷ ls) (last_gets values (b ∷ front) l)

pub from_last : (front : List RawLine) (l : RawLine) (parts : List LinePart) → add_parts (front ++ l ∷ []) parts ≡ front ++ lines_from l parts
from_last front l [] = refl
from_last front l (Whole next ∷ parts) = from_last (front ++ l ∷ []) next parts ∙ append_assoc front (l ∷ []) (lines_from next parts)
from_last front l (Values values ∷ parts) = ap (λ ls. add_parts ls parts) (last_gets values front l) ∙ from_last front (with_values values l) parts

pub from_none : (parts : List LinePart) → add_parts [] parts ≡ lines_of_parts parts
from_none [] = refl
from_none (Whole l ∷ parts) = from_last [] l parts
from_none (Values values ∷ parts) = from_none parts

pub lines_is : Is lines lines_value lines_at
unfolding lines_at
lines_is = record { same = λ ts. turns_are (length ts) [] false ts ∙ go (links false (length ts) ts) }
  where
    go : (o : Out (List Part)) → seen (behind []) o ≡ seen lines_value o
    go (Ok x) = ap (λ ls. Ok (ls, x.1)) (from_none (map part_value x.0))
    go (Err e) = refl

-- The marks of a module are taken from its tokens, one lemma a rule.
use Rattle.std.proofs.Common.{◌≡◌, List, [], ◌∷◌, ◌++◌, map, Option, Some, None, refl, sym, ap, subst, inl, inr, append_assoc}
use Rattle.std.specs.Prelude.{◌⊎◌}
use Rattle.std.specs.List.{flat_map}
use Rattle.std.proofs.lemmas.List.{append-nil}
use Rattle.grammar.specs.Rules.{Lexeme, Many, Tree}
use Rattle.clif_words.specs.declared.class.Class.TheVariants as classes
use Rattle.clif_words.specs.Classes.{code}
use Rattle.clif_words.specs.Terminals.{◌then◌, ◌or◌, comma, value, sig, header, srcloc}
use Rattle.token_reader.specs.declared.raw.RawName.{RawName}
use Rattle.token_reader.specs.Grammar.{number}
use Rattle.token_reader.specs.Reading.{name}
use Rattle.token_reader.specs.Values.{either, perhaps, never, commas_value, number_value}
use Rattle.clif_insts.specs.InstValues.{inst_value}
use Rattle.clif_insts.specs.Marks.{Mark, Spot, Word, Number, Name, name_marks, names_marks, number_marks, offset_marks, operand_marks, inst_marks}
use Rattle.clif_insts.proofs.Marked.{Among, done, pass, take, Marked, marked_same, unmarked, token_marked, word_marked, spot_marked, both_marked, second_marked, first_marked, either_marked, refused_marked, perhaps_marked, many_marked, chain_marked, each_marked, commas_marked, perhaps_list, within_marked}
use Rattle.clif_insts.proofs.InstMarks.{number_marked, values_marked, inst_marked}
use Rattle.clif_read.specs.declared.raw.RawLine.{RawLine}
use Rattle.clif_read.specs.declared.raw.RawLine.TheVariants as raw_lines
use Rattle.clif_read.specs.ModuleGrammar.{signature, func_name, slot_decl, sig_decl, callee_decl, decl, debug_tag, debug_tags, made, named, named_or_values, tagged, located, other_line, line, line_or_values, lines, block_param, block_params, block_rule, function, module_rule}
use Rattle.clif_read.specs.DeclarationValues.{func_name_value, align_value, slot_decl_value, sig_decl_value, callee_sig_value, callee_decl_value, decl_value}
use Rattle.clif_read.specs.LineValues.{LinePart, Whole, Values, made_value, debug_tag_value, debug_tags_value, named_value, tagged_value, located_value, other_line_value, line_value, named_or_values_value, line_or_values_value, with_values, lines_from, lines_of_parts, part_value, lines_value}
use Rattle.clif_read.specs.ModuleValues.{block_param_value, block_params_value, block_value, function_value, module_value}
use Rattle.clif_read.specs.Marks.{func_name_marks, callee_sig_marks, decl_marks, tag_marks, location_marks, line_marks, block_param_marks, block_marks, function_marks, module_marks}

-- ---- declarations

func_name_marked : Marked func_name (λ v. func_name_marks (func_name_value v))
func_name_marked = marked_same (either_marked (token_marked (code classes.Name) (λ x. Name x.name x.spot) (λ x e. (refl, refl, e))) (both_marked (word_marked classes.UserName) (second_marked number_marked))) same
  where
    same : (v : Tree func_name) → either (λ x. Name x.name x.spot ∷ []) (λ v. (Word (name v.0) ∷ []) ++ number_marks (number_value v.1.1)) v ≡ func_name_marks (func_name_value v)
    same (inl x) = refl
    same (inr v) = refl

slot_marked : Marked slot_decl (λ v. decl_marks (slot_decl_value v))
slot_marked = marked_same (both_marked (word_marked classes.Slot) (second_marked (second_marked (both_marked number_marked (perhaps_marked (second_marked (second_marked (second_marked number_marked)))))))) same
  where
    align_same : (o : Option (Lexeme × (Lexeme × (Lexeme × Tree number)))) → perhaps [] (λ w. number_marks (number_value w.1.1.1)) o ≡ offset_marks (perhaps None (λ w. Some (align_value w)) o)
    align_same None = refl
    align_same (Some w) = refl

    same : (v : Tree slot_decl) → (Word (name v.0) ∷ []) ++ (number_marks (number_value v.1.1.1.0) ++ perhaps [] (λ w. number_marks (number_value w.1.1.1)) v.1.1.1.1) ≡ decl_marks (slot_decl_value v)
    same v = ap (λ (ms : List Mark). Word (name v.0) ∷ Number (number_value v.1.1.1.0) ∷ ms) (align_same v.1.1.1.1)

sig_marked : Marked sig_decl (λ v. decl_marks (sig_decl_value v))
sig_marked = marked_same (first_marked (word_marked classes.Sig)) (λ v. refl)

callee_sig_marked : Marked (sig or signature) (λ v. callee_sig_marks (callee_sig_value v))
callee_sig_marked = marked_same (either_marked (word_marked classes.Sig) (unmarked signature)) same
  where
    same : (v : Tree (sig or signature)) → either (λ x. Word (name x) ∷ []) (λ v. []) v ≡ callee_sig_marks (callee_sig_value v)
    same (inl x) = refl
    same (inr v) = refl

callee_marked : Marked callee_decl (λ v. decl_marks (callee_decl_value v))
callee_marked = marked_same (both_marked (word_marked classes.Callee) (second_marked (second_marked (both_marked func_name_marked callee_sig_marked)))) (λ v. refl)

decl_marked : Marked decl (λ v. decl_marks (decl_value v))
decl_marked = marked_same (either_marked slot_marked (either_marked sig_marked (either_marked callee_marked (refused_marked never)))) same
  where
    same : (v : Tree decl) → either (λ v. decl_marks (slot_decl_value v)) (either (λ v. decl_marks (sig_decl_value v)) (either (λ v. decl_marks (callee_decl_value v)) never)) v ≡ decl_marks (decl_value v)
    same (inl v) = refl
    same (inr (inl v)) = refl
    same (inr (inr (inl v))) = refl
    same (inr (inr (inr h))) = absurd h

-- ---- lines

tag_marked : Marked debug_tag (λ v. tag_marks (debug_tag_value v))
tag_marked = marked_same (either_marked number_marked (word_marked classes.Slot)) same
  where
    same : (v : Tree debug_tag) → either (λ v. number_marks (number_value v)) (λ x. Word (name x) ∷ []) v ≡ tag_marks (debug_tag_value v)
    same (inl v) = refl
    same (inr x) = refl

tags_marked : Marked debug_tags (λ v. flat_map tag_marks (debug_tags_value v))
tags_marked = marked_same (second_marked (first_marked (commas_marked debug_tag_value tag_marks tag_marked))) (λ v. refl)

made_marked : Marked made (λ v. inst_marks (made_value v))
made_marked = marked_same (second_marked (inst_marked [])) (λ v. refl)

-- values behind a first one
more_marked : Marked (Many (comma then value)) (λ vs. names_marks (map (λ (x : Lexeme × Lexeme). name x.1) vs))
more_marked = each_marked (λ (x : Lexeme × Lexeme). name x.1) name_marks (marked_same (second_marked (word_marked classes.Value)) (λ v. refl))

-- a line without a source location
named_marked : Marked named (λ v. line_marks (named_value None v))
named_marked = marked_same (both_marked (word_marked classes.Value) (either_marked (second_marked (word_marked classes.Value)) (both_marked more_marked made_marked))) same
  where
    same : (v : Tree named) → (Word (name v.0) ∷ []) ++ either (λ w. Word (name w.1) ∷ []) (λ w. names_marks (map (λ (x : Lexeme × Lexeme). name x.1) w.0) ++ inst_marks (made_value w.1)) v.1 ≡ line_marks (named_value None v)
    same (x, inl w) = refl
    same (x, inr w) = refl

tagged_marked : Marked tagged (λ v. line_marks (tagged_value None v))
tagged_marked = marked_same (both_marked tags_marked (either_marked (both_marked values_marked made_marked) (inst_marked (classes.Value ∷ [])))) same
  where
    same : (v : Tree tagged) → flat_map tag_marks (debug_tags_value v.0) ++ either (λ w. names_marks (commas_value value name w.0) ++ inst_marks (made_value w.1)) (λ w. inst_marks (inst_value (classes.Value ∷ []) w)) v.1 ≡ line_marks (tagged_value None v)
    same (x, inl w) = refl
    same (x, inr w) = refl

-- a line behind its source location
source_marked : Marked (srcloc then located) (λ v. line_marks (located_value v.0.spot v.1))
source_marked = marked_same (both_marked (spot_marked classes.Srcloc) (either_marked named_marked (either_marked tagged_marked (inst_marked (classes.Value ∷ []))))) same
  where
    same : (v : Tree (srcloc then located)) → (Spot v.0.spot ∷ []) ++ either (λ w. line_marks (named_value None w)) (either (λ w. line_marks (tagged_value None w)) (λ w. inst_marks (inst_value (classes.Value ∷ []) w))) v.1 ≡ line_marks (located_value v.0.spot v.1)
    same (x, inl (y, inl w)) = refl
    same (x, inl (y, inr w)) = refl
    same (x, inr (inl (y, inl w))) = refl
    same (x, inr (inl (y, inr w))) = refl
    same (x, inr (inr w)) = refl

other_marked : Marked other_line (λ v. line_marks (other_line_value v))
other_marked = marked_same (either_marked tagged_marked (either_marked source_marked (inst_marked (classes.Value ∷ classes.Block ∷ [])))) same
  where
    same : (v : Tree other_line) → either (λ w. line_marks (tagged_value None w)) (either (λ w. line_marks (located_value w.0.spot w.1)) (λ w. inst_marks (inst_value (classes.Value ∷ classes.Block ∷ []) w))) v ≡ line_marks (other_line_value v)
    same (inl v) = refl
    same (inr (inl v)) = refl
    same (inr (inr v)) = refl

-- ---- what stands where a line may begin

abbrev part_marks : LinePart → List Mark
part_marks (Whole l) = line_marks l
part_marks (Values values) = names_marks values

line_marked : Marked line (λ v. part_marks (line_value v))
line_marked = marked_same (either_marked named_marked other_marked) same
  where
    same : (v : Tree line) → either (λ w. line_marks (named_value None w)) (λ w. line_marks (other_line_value w)) v ≡ part_marks (line_value v)
    same (inl v) = refl
    same (inr v) = refl

named_or_values_marked : Marked named_or_values (λ v. part_marks (named_or_values_value v))
named_or_values_marked = marked_same (both_marked (word_marked classes.Value) (either_marked (second_marked (word_marked classes.Value)) (both_marked more_marked (perhaps_marked made_marked)))) same
  where
    same : (v : Tree named_or_values) → (Word (name v.0) ∷ []) ++ either (λ w. Word (name w.1) ∷ []) (λ w. names_marks (map (λ (x : Lexeme × Lexeme). name x.1) w.0) ++ perhaps [] (λ m. inst_marks (made_value m)) w.1) v.1 ≡ part_marks (named_or_values_value v)
    same (x, inl w) = refl
    same (x, inr (vs, None)) = ap (λ (ms : List Mark). Word (name x) ∷ ms) (append-nil (names_marks (map (λ (x : Lexeme × Lexeme). name x.1) vs)))
    same (x, inr (vs, Some w)) = refl

line_or_values_marked : Marked line_or_values (λ v. part_marks (line_or_values_value v))
line_or_values_marked = marked_same (either_marked named_or_values_marked other_marked) same
  where
    same : (v : Tree line_or_values) → either (λ w. part_marks (named_or_values_value w)) (λ w. line_marks (other_line_value w)) v ≡ part_marks (line_or_values_value v)
    same (inl v) = refl
    same (inr v) = refl

-- ---- lines, which get the values behind a `return`

-- some of the marks, in their order
data Sub : List Mark → List Mark → Type 0 where
  empty : Sub [] []
  skip : {m : Mark} {ms ns : List Mark} → Sub ms ns → Sub ms (m ∷ ns)
  keep : {m : Mark} {ms ns : List Mark} → Sub ms ns → Sub (m ∷ ms) (m ∷ ns)

sub_same : (ms : List Mark) → Sub ms ms
sub_same [] = empty
sub_same (m ∷ ms) = keep (sub_same ms)

sub_none : (ms : List Mark) → Sub [] ms
sub_none [] = empty
sub_none (m ∷ ms) = skip (sub_none ms)

sub_front : (ms ns : List Mark) → Sub ms (ms ++ ns)
sub_front [] ns = sub_none ns
sub_front (m ∷ ms) ns = keep (sub_front ms ns)

sub_behind : (ms : List Mark) {ns : List Mark} → (ks : List Mark) → Sub ks ns → Sub ks (ms ++ ns)
sub_behind [] ks s = s
sub_behind (m ∷ ms) ks s = skip (sub_behind ms ks s)

sub_join : {ms ns ks ls : List Mark} → Sub ms ns → Sub ks ls → Sub (ms ++ ks) (ns ++ ls)
sub_join empty s = s
sub_join (skip r) s = skip (sub_join r s)
sub_join (keep r) s = keep (sub_join r s)

sub_trans : {ms ns ks : List Mark} → Sub ms ns → Sub ns ks → Sub ms ks
sub_trans r empty = r
sub_trans r (skip s) = skip (sub_trans r s)
sub_trans (skip r) (keep s) = skip (sub_trans r s)
sub_trans (keep r) (keep s) = keep (sub_trans r s)

among_sub : {ms ns : List Mark} {xs : List Lexeme} → Sub ms ns → Among ns xs → Among ms xs
among_sub empty done = done
among_sub s (pass a) = pass (among_sub s a)
among_sub (skip s) (take h a) = pass (among_sub s a)
among_sub (keep s) (take h a) = take h (among_sub s a)

-- behind the same marks
sub_put : (ps : List Mark) {ms : List Mark} (ns ks : List Mark) → Sub ms (ns ++ ks) → Sub (ps ++ ms) ((ps ++ ns) ++ ks)
sub_put [] ns ks s = s
sub_put (p ∷ ps) ns ks s = keep (sub_put ps ns ks s)

given : (values : List RawName) (l : RawLine) → Sub (line_marks (with_values values l)) (line_marks l ++ names_marks values)
given values (raw_lines.Alias location alias x) = sub_front (line_marks (raw_lines.Alias location alias x)) (names_marks values)
given values (raw_lines.Inst location tags results i) =
    let last = names_marks values in
    let own = inst_marks i in
    sub_put (location_marks location) (flat_map tag_marks tags ++ (names_marks results ++ own)) last
    (sub_put (flat_map tag_marks tags) (names_marks results ++ own) last
    (sub_put (names_marks results) own last (keep (sub_behind (operand_marks i.operands) last (sub_same last)))))

lines_sub : (l : RawLine) (parts : List LinePart) → Sub (flat_map line_marks (lines_from l parts)) (line_marks l ++ flat_map part_marks parts)
lines_sub l [] = sub_same (line_marks l ++ [])
lines_sub l (Values values ∷ more) =
    sub_trans (lines_sub (with_values values l) more)
    (subst (Sub (line_marks (with_values values l) ++ flat_map part_marks more)) (append_assoc (line_marks l) (names_marks values) (flat_map part_marks more))
    (sub_join (given values l) (sub_same (flat_map part_marks more))))
lines_sub l (Whole next ∷ more) = sub_join (sub_same (line_marks l)) (lines_sub next more)

all_sub : (parts : List LinePart) → Sub (flat_map line_marks (lines_of_parts parts)) (flat_map part_marks parts)
all_sub [] = empty
all_sub (Whole l ∷ more) = lines_sub l more
all_sub (Values values ∷ more) = sub_behind (names_marks values) (flat_map line_marks (lines_of_parts more)) (all_sub more)

lines_marked : Marked lines (λ v. flat_map line_marks (lines_value v))
lines_marked = record { among = λ ts v d. among_sub (all_sub (map part_value v)) (subst (λ (ms : List Mark). Among ms ts) (same v) (parts.among ts v d)) }
  where
    parts : Marked lines (λ vs. flat_map (either (λ v. part_marks (line_value v)) (λ v. part_marks (line_or_values_value v))) vs)
    parts = chain_marked line_marked line_or_values_marked

    part_same : (v : Tree line ⊎ Tree line_or_values) → either (λ v. part_marks (line_value v)) (λ v. part_marks (line_or_values_value v)) v ≡ part_marks (part_value v)
    part_same (inl v) = refl
    part_same (inr v) = refl

    same : (vs : List (Tree line ⊎ Tree line_or_values)) → flat_map (either (λ v. part_marks (line_value v)) (λ v. part_marks (line_or_values_value v))) vs ≡ flat_map part_marks (map part_value vs)
    same [] = refl
    same (v ∷ vs) = rw (part_same v, same vs) refl

-- ---- blocks, functions and modules

block_param_marked : Marked block_param (λ v. block_param_marks (block_param_value v))
block_param_marked = marked_same (first_marked (word_marked classes.Value)) (λ v. refl)

block_params_marked : Marked block_params (λ v. flat_map block_param_marks (block_params_value v))
block_params_marked = within_marked classes.LeftParen classes.RightParen (commas_value block_param block_param_value) block_param_marks (commas_marked block_param_value block_param_marks block_param_marked)

block_marked : Marked block_rule (λ v. block_marks (block_value v))
block_marked = marked_same (both_marked (word_marked classes.Block) (both_marked (perhaps_list block_params_value block_param_marks block_params_marked) (second_marked (second_marked lines_marked)))) (λ v. refl)

function_marked : Marked function (λ v. function_marks (function_value v))
function_marked =
    marked_same (both_marked (spot_marked classes.Function) (both_marked func_name_marked (second_marked (second_marked (both_marked (each_marked decl_value decl_marks decl_marked)
    (both_marked block_marked (both_marked (each_marked block_value block_marks block_marked) (spot_marked classes.RightBrace)))))))) same
  where
    same : (v : Tree function) → (Spot v.0.spot ∷ []) ++ (func_name_marks (func_name_value v.1.0) ++ (flat_map decl_marks (map decl_value v.1.1.1.1.0) ++ (block_marks (block_value v.1.1.1.1.1.0) ++ (flat_map block_marks (map block_value v.1.1.1.1.1.1.0) ++ (Spot v.1.1.1.1.1.1.1.spot ∷ []))))) ≡ function_marks (function_value v)
    same v =
        let rest = flat_map block_marks (map block_value v.1.1.1.1.1.1.0) in
        let brace = Spot v.1.1.1.1.1.1.1.spot ∷ [] in
        ap (λ (ms : List Mark). Spot v.0.spot ∷ (func_name_marks (func_name_value v.1.0) ++ (flat_map decl_marks (map decl_value v.1.1.1.1.0) ++ ms))) (sym (append_assoc (block_marks (block_value v.1.1.1.1.1.0)) rest brace))

headers_marked : Marked (Many header) (λ v. map Spot (map (λ (x : Lexeme). x.spot) v))
headers_marked = marked_same (many_marked (spot_marked classes.Header)) same
  where
    same : (vs : List Lexeme) → flat_map (λ (x : Lexeme). Spot x.spot ∷ []) vs ≡ map Spot (map (λ (x : Lexeme). x.spot) vs)
    same [] = refl
    same (v ∷ vs) = ap (λ (ms : List Mark). Spot v.spot ∷ ms) (same vs)

pub module_marked : Marked module_rule (λ v. module_marks (module_value v))
module_marked = marked_same (both_marked headers_marked (each_marked function_value function_marks function_marked)) (λ v. refl)

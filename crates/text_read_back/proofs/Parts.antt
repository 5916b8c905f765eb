-- Lines, each read as its parts: the line without the values of a `return`, and these values.
use Rattle.std.proofs.Common.{◌≡◌, ℕ, ◌+◌, Bool, true, false, ◌&&◌, List, [], ◌∷◌, ◌++◌, map, length, refl, sym, ap, ap₂, subst, ◌∙◌, inl, inr, arith}
use Rattle.std.specs.Prelude.{◌⊎◌, codes}
use Rattle.std.proofs.lemmas.Bool.{and_from}
use Rattle.clif_lex.specs.Bytes.{is_word_byte, is_mark}
use Rattle.clif_lex.specs.declared.spans.TokenKind.TheVariants as kind
use Rattle.grammar.specs.Rules.{Lexeme, Rule, Seq, Tree, Derives, Links, ByFlag, ends}
use Rattle.debug_tags.specs.declared.tags.Tag.{Tag}
use Rattle.debug_tags.specs.declared.tags.Tag.TheVariants as tag
use Rattle.ir_core.specs.Lists.{Each}
use Rattle.ir_text.specs.TextTree.{Text, Mark, ◌▹◌, spelled, space}
use Rattle.ir_text.specs.TextInstructions as text
use Rattle.ir_text.specs.Writable.{TagWritable}
use Rattle.clif_words.specs.declared.class.Class.{Class}
use Rattle.clif_words.specs.declared.class.Class.TheVariants as classes
use Rattle.clif_words.specs.Classes.{code}
use Rattle.clif_words.specs.Lexemes.{meaning_of}
use Rattle.clif_words.specs.Terminals.{one}
use Rattle.token_reader.specs.declared.raw.RawName.{RawName}
use Rattle.token_reader.specs.declared.raw.RawNumber.{RawNumber}
use Rattle.clif_insts.specs.declared.raw.RawOperands.{RawOperands}
use Rattle.clif_insts.specs.declared.raw.RawOperands.TheVariants as operands
use Rattle.clif_read.specs.declared.raw.RawTag.TheVariants as raw_tags
use Rattle.clif_read.specs.declared.raw.RawLine.{RawLine}
use Rattle.clif_read.specs.declared.raw.RawLine.TheVariants as raw_lines
use Rattle.clif_read.specs.ModuleGrammar.{debug_tag, debug_tags, line, line_or_values}
use Rattle.clif_read.specs.LineValues.{LinePart, Whole, Values, debug_tag_value, debug_tags_value, line_value, line_or_values_value, part_value, with_values, lines_from, lines_of_parts}
use Rattle.clif_read.specs.Lines.{returns, is_return}
use Rattle.text_read_back.proofs.Stretches.{clear}
use Rattle.clif_read.proofs.LineEnds.{line_ends, line_or_values_ends}
use Rattle.text_read_back.specs.Bare.{bare_name, bare_tag, bare_operands, bare_line}
use Rattle.text_read_back.specs.RawOf as raws
use Rattle.text_read_back.proofs.Spellable.{TagSpellable}
use Rattle.text_read_back.proofs.Told.{lexeme_as, s_at, Told, Reads, Closed, means, left, right}
use Rattle.text_read_back.proofs.Stems.{slot_stem}
use Rattle.text_read_back.proofs.Terms.{entity_reads, number_reads, list_reads}
use Rattle.text_read_back.proofs.Operands.{all_read_where}

-- ---- parts without spots

abbrev pub bare_part : LinePart → LinePart
bare_part (Whole l) = Whole (bare_line l)
bare_part (Values vs) = Values (map bare_name vs)

bare_returns : (o : RawOperands) → returns (bare_operands o) ≡ returns o
bare_returns operands.Nullary = refl
bare_returns (operands.Number n) = refl
bare_returns (operands.Unary x) = refl
bare_returns (operands.Binary x y) = refl
bare_returns (operands.Ternary c x y) = refl
bare_returns (operands.Compare cc x y) = refl
bare_returns (operands.BinaryImm x n) = refl
bare_returns (operands.CompareImm cc x n) = refl
bare_returns (operands.Load flags p offset) = refl
bare_returns (operands.Store flags x p offset) = refl
bare_returns (operands.StackLoad slot offset) = refl
bare_returns (operands.StackStore x slot offset) = refl
bare_returns (operands.FuncAddr callee) = refl
bare_returns (operands.Jump t) = refl
bare_returns (operands.Brif c t u) = refl
bare_returns (operands.BrTable x default ts) = refl
bare_returns (operands.Return vs) = refl
bare_returns (operands.Trap code) = refl
bare_returns (operands.TrapIf x code) = refl
bare_returns (operands.Call callee vs) = refl
bare_returns (operands.TryCall callee vs sig normal table) = refl
bare_returns (operands.CallIndirect sig p vs) = refl
bare_returns (operands.TryCallIndirect p vs sig normal table) = refl

bare_is_return : (p : LinePart) → is_return (bare_part p) ≡ is_return p
bare_is_return (Whole (raw_lines.Alias location alias x)) = refl
bare_is_return (Whole (raw_lines.Inst location tags results i)) = bare_returns i.operands
bare_is_return (Values vs) = refl

bare_with : (vs : List RawName) (l : RawLine) → bare_line (with_values vs l) ≡ with_values (map bare_name vs) (bare_line l)
bare_with vs (raw_lines.Alias location alias x) = refl
bare_with vs (raw_lines.Inst location tags results i) = refl

bare_from : (l : RawLine) (ps : List LinePart) → map bare_line (lines_from l ps) ≡ lines_from (bare_line l) (map bare_part ps)
bare_from l [] = refl
bare_from l (Values vs ∷ ps) = bare_from (with_values vs l) ps ∙ ap (λ (k : RawLine). lines_from k (map bare_part ps)) (bare_with vs l)
bare_from l (Whole k ∷ ps) = ap (λ (ls : List RawLine). bare_line l ∷ ls) (bare_from k ps)

pub bare_lines : (ps : List LinePart) → map bare_line (lines_of_parts ps) ≡ lines_of_parts (map bare_part ps)
bare_lines [] = refl
bare_lines (Whole l ∷ ps) = bare_from l ps
bare_lines (Values vs ∷ ps) = bare_lines ps

-- ---- parts one after the other

abbrev tree_says : Tree line ⊎ Tree line_or_values → LinePart
tree_says t = bare_part (part_value t)

-- the tokens are these parts, where f says whether a `return` stands before
pub record PartsTold (f : Bool) (ps : List LinePart) (ts : List Lexeme) : Type 0 where
  pub trees : List (Tree line ⊎ Tree line_or_values)
  pub derived : Links (ByFlag (Derives line) (Derives line_or_values)) (code classes.Return) f ts trees
  pub says : map tree_says trees ≡ ps

-- the tokens are a line, also behind a `return`
pub record LineTold (l : RawLine) (us : List Lexeme) : Type 0 where
  pub alone : Told line (λ v. bare_part (line_value v)) (Whole l) us
  pub behind : Told line_or_values (λ v. bare_part (line_or_values_value v)) (Whole l) us

pub no_parts : (f : Bool) → PartsTold f [] []
no_parts f = record { trees = []; derived = refl; says = refl }

pub line_then : (f : Bool) (l : RawLine) (us ws : List Lexeme) (ps : List LinePart) → LineTold l us → PartsTold (is_return (Whole l)) ps ws → PartsTold f (Whole l ∷ ps) (us ++ ws)
line_then false l us ws ps p q =
    let t = p.alone in
    let e : ends (code classes.Return) false us ≡ is_return (Whole l) = line_ends.so us t.tree t.derived false ∙ sym (bare_is_return (line_value t.tree)) ∙ ap is_return t.says in
    record {
      trees = inl t.tree ∷ q.trees;
      derived = (us, ws, refl, ((refl, t.derived), subst (λ (b : Bool). Links (ByFlag (Derives line) (Derives line_or_values)) (code classes.Return) b ws q.trees) (sym e) q.derived));
      says = ap₂ (λ (x : LinePart) (xs : List LinePart). x ∷ xs) t.says q.says;
    }
line_then true l us ws ps p q =
    let t = p.behind in
    let e : ends (code classes.Return) true us ≡ is_return (Whole l) = line_or_values_ends.so us t.tree t.derived true ∙ sym (bare_is_return (line_or_values_value t.tree)) ∙ ap is_return t.says in
    record {
      trees = inr t.tree ∷ q.trees;
      derived = (us, ws, refl, ((refl, t.derived), subst (λ (b : Bool). Links (ByFlag (Derives line) (Derives line_or_values)) (code classes.Return) b ws q.trees) (sym e) q.derived));
      says = ap₂ (λ (x : LinePart) (xs : List LinePart). x ∷ xs) t.says q.says;
    }

pub values_then : (vs : List RawName) (us ws : List Lexeme) (ps : List LinePart) → Told line_or_values (λ v. bare_part (line_or_values_value v)) (Values vs) us → PartsTold false ps ws → PartsTold true (Values vs ∷ ps) (us ++ ws)
values_then vs us ws ps t q =
    let e : ends (code classes.Return) true us ≡ false = line_or_values_ends.so us t.tree t.derived true ∙ sym (bare_is_return (line_or_values_value t.tree)) ∙ ap is_return t.says in
    record {
      trees = inr t.tree ∷ q.trees;
      derived = (us, ws, refl, ((refl, t.derived), subst (λ (b : Bool). Links (ByFlag (Derives line) (Derives line_or_values)) (code classes.Return) b ws q.trees) (sym e) q.derived));
      says = ap₂ (λ (x : LinePart) (xs : List LinePart). x ∷ xs) t.says q.says;
    }

-- ---- tags

-- a text, then a mark and a space
closed_mark : {a : Rule} {A : Type 0} {f : Tree a → A} {x : A} {s : Text} (c : Class) (byte : ℕ) → is_mark byte ≡ true → is_word_byte byte ≡ false → (meaning_of (kind.Mark byte) (byte ∷ [])).class ≡ c
    → Reads a f x s → Closed (Seq a (one c)) (λ (v : Tree a × Lexeme). f v.0) x (s ▹ (Mark byte ▹ space))
closed_mark {a} {A} {f} {x} {s} c byte m w e p = record {
  clear = λ d. and_from (clear s byte) (is_mark byte && true) (p.clear byte w) (and_from (is_mark byte) true m refl);
  told = λ at. (let k = p.told at in let next = at + length (spelled s) in record { tree = (k.tree, lexeme_as (kind.Mark byte) (byte ∷ []) next); derived = (s_at at s, lexeme_as (kind.Mark byte) (byte ∷ []) next ∷ [], refl, (k.derived, (refl, ap code e))); says = k.says });
}

closed_mark_then : {b : Rule} {B : Type 0} {g : Tree b → B} {y : B} {t : Text} (c : Class) (byte : ℕ) → is_mark byte ≡ true → (meaning_of (kind.Mark byte) (byte ∷ [])).class ≡ c
    → Closed b g y t → Closed (Seq (one c) b) (λ (v : Lexeme × Tree b). g v.1) y (Mark byte ▹ t)
closed_mark_then {b} {B} {g} {y} {t} c byte m e q = record {
  clear = λ d. and_from (is_mark byte) (clear t d) m (q.clear d);
  told = λ at. (let k = q.told (at + 1) in record { tree = (lexeme_as (kind.Mark byte) (byte ∷ []) at, k.tree); derived = (lexeme_as (kind.Mark byte) (byte ∷ []) at ∷ [], s_at (at + 1) t, refl, ((refl, ap code e), k.derived)); says = k.says });
}

abbrev pub TagFits : Tag → Type 0
TagFits t = TagWritable t × TagSpellable t

tag_reads : (t : Tag) → TagFits t → Reads debug_tag (λ v. bare_tag (debug_tag_value v)) (raws.debug_tag t) (text.debug_tag t)
tag_reads (tag.User k) h = let le = h.0 in left (λ v. bare_tag (debug_tag_value v)) (means (λ (x : RawNumber). raw_tags.User x) (number_reads k (omega arith)))
tag_reads (tag.Slot slot) h = let le = h.1 in right (λ v. bare_tag (debug_tag_value v)) (means (λ (x : RawName). raw_tags.Slot x) (entity_reads (codes "ss") classes.Slot slot slot_stem refl (omega arith)))

pub tags_read : (t : Tag) (ts : List Tag) → Each TagFits (t ∷ ts) → Closed debug_tags (λ v. map bare_tag (debug_tags_value v)) (map raws.debug_tag (t ∷ ts)) (text.debug_tags (t ∷ ts))
tags_read t ts h =
    closed_mark_then classes.Less 60 refl refl (closed_mark classes.Greater 62 refl refl refl
    (list_reads debug_tag debug_tag_value bare_tag text.debug_tag raws.debug_tag t ts (all_read_where TagFits debug_tag (λ v. bare_tag (debug_tag_value v)) text.debug_tag raws.debug_tag tag_reads (t ∷ ts) h)))

-- The lines of a block, read as what they say.
use Rattle.std.proofs.Common.{◌≡◌, ℕ, ◌+◌, Bool, true, false, List, [], ◌∷◌, ◌++◌, map, length, Option, Some, None, refl, sym, ap, subst, ◌∙◌, inl, inr, append_assoc}
use Rattle.std.specs.Prelude.{codes}
use Rattle.std.proofs.lemmas.Bool.{and_from}
use Rattle.std.proofs.lemmas.List.{append-nil}
use Rattle.clif_lex.specs.declared.spans.TokenKind.TheVariants as kind
use Rattle.grammar.specs.Rules.{Lexeme}
use Rattle.debug_tags.specs.declared.tags.Tag.{Tag}
use Rattle.ir_core.specs.declared.signatures.Ty.{Ty}
use Rattle.ir_core.specs.Lists.{Each}
use Rattle.ir_core.specs.Module.{Instruction, Line, Function}
use Rattle.ir_core.specs.Module as insts
use Rattle.ir_text.specs.Numbering.{Numbering}
use Rattle.ir_text.specs.TextTree.{Text, Word, ◌▹◌, spelled, line_end, indent, more}
use Rattle.ir_text.specs.Text as text
use Rattle.ir_text.specs.TextInstructions as insts_text
use Rattle.ir_text.specs.Writable.{TagWritable, InstructionForm, LineWritable}
use Rattle.clif_words.specs.declared.class.Class.{Class}
use Rattle.clif_words.specs.declared.class.Class.TheVariants as classes
use Rattle.clif_words.specs.Table.{all_words}
use Rattle.clif_words.specs.Terminals.{one, value}
use Rattle.clif_words.specs.Words.{word_meaning}
use Rattle.token_reader.specs.declared.raw.RawName.{RawName}
use Rattle.clif_insts.specs.declared.raw.RawInst.{RawInst}
use Rattle.clif_insts.specs.declared.raw.RawOperands.TheVariants as operands
use Rattle.clif_insts.specs.InstValues.{raw, inst_value}
use Rattle.token_reader.specs.Reading.{name}
use Rattle.clif_read.specs.declared.raw.RawLine.{RawLine}
use Rattle.clif_read.specs.declared.raw.RawLine.TheVariants as raw_lines
use Rattle.clif_read.specs.declared.raw.RawTag.{RawTag}
use Rattle.clif_read.specs.ModuleGrammar.{lines, line_or_values}
use Rattle.clif_read.specs.LineValues.{LinePart, Whole, Values, line_or_values_value, part_value, lines_from, lines_of_parts, lines_value}
use Rattle.clif_read.specs.Lines.{returns}
use Rattle.text_read_back.proofs.Stretches.{front, clear}
use Rattle.text_read_back.specs.Bare.{bare_name, bare_inst, bare_line}
use Rattle.text_read_back.specs.RawOf as raws
use Rattle.text_read_back.proofs.Spellable.{ValueFits, Spellable, TagSpellable, LineSpellable}
use Rattle.text_read_back.proofs.Told.{lexeme_as, s_at, Told, told_as, told_pair, Closed, more_reads, nothing_said, then_nothing}
use Rattle.text_read_back.proofs.Terms.{named, list_reads}
use Rattle.text_read_back.proofs.Lists.{map_both}
use Rattle.text_read_back.proofs.Operands.{value_reads, values_read}
use Rattle.text_read_back.proofs.Forms.{IsOpcode, return_form}
use Rattle.text_read_back.proofs.Slots.{IsInst, in_return_inst}
use Rattle.text_read_back.proofs.Insts.{inst_read}
use Rattle.text_read_back.proofs.Parts.{bare_part, bare_lines, PartsTold, LineTold, no_parts, line_then, values_then, TagFits, tags_read}

-- the mark behind results
abbrev equals_at : ℕ → Lexeme
equals_at at = lexeme_as (kind.Mark 61) (61 ∷ []) at

equals_told : (at : ℕ) → Told (one classes.Equals) nothing_said tt (equals_at at ∷ [])
equals_told at = record { tree = equals_at at; derived = (refl, refl); says = refl }

regroup : (a b e t : List Lexeme) → ((a ++ b) ++ e) ++ t ≡ a ++ (b ++ (e ++ t))
regroup a b e t = append_assoc (a ++ b) e t ∙ append_assoc a b (e ++ t)

module _ (f : Function) (n : Numbering) where
  -- a line with these tags and results, and an instruction that may stand anywhere
  abbrev head_text : List Tag → List ℕ → Text → Text
  head_text ts rs t = insts_text.debug_tags ts ▹ text.results f n rs ▹ t

  abbrev head_line : List Tag → List ℕ → RawInst → RawLine
  head_line ts rs i = raw_lines.Inst None (map raws.debug_tag ts) (raws.values n rs) i

  module _ (i : RawInst) (t : Text) (is : (e : List Class) → IsInst e i t) where
    bare_told : (at : ℕ) → LineTold (head_line [] [] i) (s_at at (head_text [] [] t))
    bare_told at =
        let k = (is (classes.Value ∷ classes.Block ∷ [])).told (at + 0 + 0) in
        let s = ap (λ (j : RawInst). Whole (raw_lines.Inst None [] [] j)) k.says in
        record {
          alone = record { tree = inr (inr (inr k.tree)); derived = k.derived; says = s };
          behind = record { tree = inr (inr (inr k.tree)); derived = k.derived; says = s };
        }

    named_told : (at v : ℕ) (vs : List ℕ) → Each (ValueFits n) (v ∷ vs) → LineTold (head_line [] (v ∷ vs) i) (s_at at (head_text [] (v ∷ vs) t))
    named_told at v vs h =
        let at1 = at + 0 in
        let at2 = at1 + length (spelled (insts_text.value n v)) in
        let at3 = at1 + length (spelled (insts_text.values n (v ∷ vs))) + 1 in
        let at4 = at1 + length (spelled (text.results f n (v ∷ vs))) in
        let a = (value_reads n v h.0).told at1 in
        let m = (more_reads value named (insts_text.value n) (raws.value n) vs (values_read n vs h.1)).told at2 in
        let k = (is []).told at4 in
        let e = equals_at at3 in
        let whole = told_pair a (told_pair m (told_pair (equals_told at3) k)) in
        let us : s_at at (head_text [] (v ∷ vs) t) ≡ s_at at1 (insts_text.value n v) ++ (s_at at2 (more (insts_text.value n) vs) ++ ((e ∷ []) ++ s_at at4 t)) =
        regroup (s_at at1 (insts_text.value n v)) (s_at at2 (more (insts_text.value n) vs)) (e ∷ []) (s_at at4 t) in
        let s = ap (λ (z : List RawName). Whole (raw_lines.Inst None [] (named whole.tree.0 ∷ z) (bare_inst (inst_value [] whole.tree.1.1.1)))) (map_both (λ (w : Lexeme × Lexeme). name w.1) bare_name whole.tree.1.0)
        ∙ ap (λ (p : RawName × (List RawName × (Unit {0} × RawInst))). Whole (raw_lines.Inst None [] (p.0 ∷ p.1.0) p.1.1.1)) whole.says in
        record {
          alone = told_as us (record { tree = inl (whole.tree.0, inr whole.tree.1); derived = whole.derived; says = s });
          behind = told_as us (record { tree = inl (whole.tree.0, inr (whole.tree.1.0, Some whole.tree.1.1)); derived = whole.derived; says = s });
        }

    tagged_told : (at : ℕ) (d : Tag) (ds : List Tag) → Each TagFits (d ∷ ds) → LineTold (head_line (d ∷ ds) [] i) (s_at at (head_text (d ∷ ds) [] t))
    tagged_told at d ds fits =
        let at1 = at + length (spelled (insts_text.debug_tags (d ∷ ds))) in
        let whole = told_pair ((tags_read d ds fits).told at) ((is (classes.Value ∷ [])).told (at1 + 0)) in
        let s = ap (λ (p : List RawTag × RawInst). Whole (raw_lines.Inst None p.0 [] p.1)) whole.says in
        record {
          alone = record { tree = inr (inl (whole.tree.0, inr whole.tree.1)); derived = whole.derived; says = s };
          behind = record { tree = inr (inl (whole.tree.0, inr whole.tree.1)); derived = whole.derived; says = s };
        }

    tagged_results_told : (at : ℕ) (d : Tag) (ds : List Tag) (v : ℕ) (vs : List ℕ) → Each TagFits (d ∷ ds) → Each (ValueFits n) (v ∷ vs) → LineTold (head_line (d ∷ ds) (v ∷ vs) i) (s_at at (head_text (d ∷ ds) (v ∷ vs) t))
    tagged_results_told at d ds v vs fits h =
        let at1 = at + length (spelled (insts_text.debug_tags (d ∷ ds))) in
        let at3 = at1 + length (spelled (insts_text.values n (v ∷ vs))) + 1 in
        let at4 = at1 + length (spelled (text.results f n (v ∷ vs))) in
        let e = equals_at at3 in
        let c = (list_reads value name bare_name (insts_text.value n) (raws.value n) v vs (values_read n (v ∷ vs) h)).told at1 in
        let whole = told_pair ((tags_read d ds fits).told at) (told_pair c (told_pair (equals_told at3) ((is []).told at4))) in
        let us : s_at at (head_text (d ∷ ds) (v ∷ vs) t) ≡ s_at at (insts_text.debug_tags (d ∷ ds)) ++ (s_at at1 (insts_text.values n (v ∷ vs)) ++ ((e ∷ []) ++ s_at at4 t)) =
        ap (λ (z : List Lexeme). s_at at (insts_text.debug_tags (d ∷ ds)) ++ z) (append_assoc (s_at at1 (insts_text.values n (v ∷ vs))) (e ∷ []) (s_at at4 t)) in
        let s = ap (λ (p : List RawTag × (List RawName × (Unit {0} × RawInst))). Whole (raw_lines.Inst None p.0 p.1.0 p.1.1.1)) whole.says in
        record {
          alone = told_as us (record { tree = inr (inl (whole.tree.0, inl whole.tree.1)); derived = whole.derived; says = s });
          behind = told_as us (record { tree = inr (inl (whole.tree.0, inl whole.tree.1)); derived = whole.derived; says = s });
        }

    head_told : (at : ℕ) (ts : List Tag) (rs : List ℕ) → Each TagFits ts → Each (ValueFits n) rs → LineTold (head_line ts rs i) (s_at at (head_text ts rs t))
    head_told at [] [] fits h = bare_told at
    head_told at [] (v ∷ vs) fits h = named_told at v vs h
    head_told at (d ∷ ds) [] fits h = tagged_told at d ds fits
    head_told at (d ∷ ds) (v ∷ vs) fits h = tagged_results_told at d ds v vs fits h

  -- ---- where it ends

  tags_clear : (ts : List Tag) (b : ℕ) → Each TagFits ts → clear (insts_text.debug_tags ts) b ≡ true
  tags_clear [] b h = refl
  tags_clear (d ∷ ds) b h = (tags_read d ds h).clear b

  results_clear : (rs : List ℕ) (b : ℕ) → Each (ValueFits n) rs → clear (text.results f n rs) b ≡ true
  results_clear [] b h = refl
  results_clear (v ∷ vs) b h =
      let k = (list_reads value name bare_name (insts_text.value n) (raws.value n) v vs (values_read n (v ∷ vs) h)).clear 32 refl in
      and_from (clear (insts_text.values n (v ∷ vs)) 32) true k refl

  line_clear : (ts : List Tag) (rs : List ℕ) (t : Text) (b : ℕ) → Each TagFits ts → Each (ValueFits n) rs → clear t 10 ≡ true → clear (indent ▹ insts_text.debug_tags ts ▹ text.results f n rs ▹ t ▹ line_end) b ≡ true
  line_clear ts rs t b h r k =
      and_from (clear (insts_text.debug_tags ts) (front (text.results f n rs ▹ t ▹ line_end) b)) (clear (text.results f n rs ▹ t ▹ line_end) b) (tags_clear ts (front (text.results f n rs ▹ t ▹ line_end) b) h)
      (and_from (clear (text.results f n rs) (front (t ▹ line_end) b)) (clear (t ▹ line_end) b) (results_clear rs (front (t ▹ line_end) b) r) (and_from (clear t 10) true k refl))

  -- ---- the values of a `return`

  returned_told : (at v : ℕ) (vs : List ℕ) → Each (ValueFits n) (v ∷ vs) → Told line_or_values (λ x. bare_part (line_or_values_value x)) (Values (raws.values n (v ∷ vs))) (s_at at (insts_text.values n (v ∷ vs)))
  returned_told at v vs h =
      let at2 = at + length (spelled (insts_text.value n v)) in
      let a = (value_reads n v h.0).told at in
      let m = (more_reads value named (insts_text.value n) (raws.value n) vs (values_read n vs h.1)).told at2 in
      let whole = told_pair a m in
      let d = whole.derived in
      record {
        tree = inl (whole.tree.0, inr (whole.tree.1, None));
        derived = (d.0, d.1, d.2, (d.3.0, (d.1, [], sym (append-nil d.1), (d.3.1, refl))));
        says = ap (λ (z : List RawName). Values (named whole.tree.0 ∷ z)) (map_both (λ (w : Lexeme × Lexeme). name w.1) bare_name whole.tree.1) ∙ ap (λ (p : RawName × List RawName). Values (p.0 ∷ p.1)) whole.says;
      }

  -- ---- lines

  -- an instruction without the values of a `return`, and these
  abbrev head_inst : Option Ty → Instruction → RawInst
  head_inst s (insts.Return vs) = raw (raws.opcode (codes "return")) None (operands.Return [])
  head_inst s i = raws.instruction n s i

  abbrev behind : Instruction → List LinePart
  behind (insts.Return (v ∷ vs)) = Values (raws.values n (v ∷ vs)) ∷ []
  behind i = []

  -- any tokens that are parts, whatever stands before them
  abbrev Ready : List LinePart → List Lexeme → Type 0
  Ready ps ws = (g : Bool) → PartsTold g ps ws

  abbrev line_text : Option Ty → List Tag → List ℕ → Instruction → Text
  line_text s ts rs i = indent ▹ insts_text.debug_tags ts ▹ text.results f n rs ▹ insts_text.instruction n s i ▹ line_end

  -- a line is apart from all that follows, and is its parts
  pub record LineIs (s : Option Ty) (ts : List Tag) (rs : List ℕ) (i : Instruction) : Type 0 where
    pub clear : (b : ℕ) → clear (line_text s ts rs i) b ≡ true
    pub told : (at : ℕ) (ws : List Lexeme) (ps : List LinePart) → Ready ps ws → Ready (Whole (head_line ts rs (head_inst s i)) ∷ (behind i ++ ps)) (s_at at (line_text s ts rs i) ++ ws)

  -- the tokens of a line are those before its end
  no_end : (at : ℕ) (ts : List Tag) (rs : List ℕ) (t : Text) → s_at at (indent ▹ insts_text.debug_tags ts ▹ text.results f n rs ▹ t ▹ line_end) ≡ s_at (at + 4) (head_text ts rs t)
  no_end at ts rs t =
      let at1 = at + 4 in
      let at2 = at1 + length (spelled (insts_text.debug_tags ts)) in
      let at3 = at2 + length (spelled (text.results f n rs)) in
      ap (λ (z : List Lexeme). s_at at1 (insts_text.debug_tags ts) ++ (s_at at2 (text.results f n rs) ++ z)) (append-nil (s_at at3 t))

  plain_line : (s : Option Ty) (ts : List Tag) (rs : List ℕ) (i : RawInst) (t : Text) → Each TagFits ts → Each (ValueFits n) rs → ((e : List Class) → IsInst e i t) → (at : ℕ) (ws : List Lexeme) (ps : List LinePart) → Ready ps ws
      → Ready (Whole (head_line ts rs i) ∷ ps) (s_at at (indent ▹ insts_text.debug_tags ts ▹ text.results f n rs ▹ t ▹ line_end) ++ ws)
  plain_line s ts rs i t fits res is at ws ps ready g =
      subst (λ (z : List Lexeme). PartsTold g (Whole (head_line ts rs i) ∷ ps) (z ++ ws)) (sym (no_end at ts rs t))
      (line_then g (head_line ts rs i) (s_at (at + 4) (head_text ts rs t)) ws ps (head_told i t is (at + 4) ts rs fits res) (ready (returns i.operands)))

  plain_is : (s : Option Ty) (ts : List Tag) (rs : List ℕ) (i : Instruction) → Each TagFits ts → Each (ValueFits n) rs → ((e : List Class) → IsInst e (head_inst s i) (insts_text.instruction n s i)) → behind i ≡ [] → LineIs s ts rs i
  plain_is s ts rs i fits res is none = record {
    clear = λ b. line_clear ts rs (insts_text.instruction n s i) b fits res ((is []).clear 10 refl);
    told = λ at ws ps ready. subst (λ (z : List LinePart). Ready (Whole (head_line ts rs (head_inst s i)) ∷ (z ++ ps)) (s_at at (line_text s ts rs i) ++ ws)) (sym none)
        (plain_line s ts rs (head_inst s i) (insts_text.instruction n s i) fits res is at ws ps ready);
  }

  return_opcode : IsOpcode (codes "return") classes.Return
  unfolding word_meaning all_words
  return_opcode = record { plain = refl; class = refl }

  abbrev return_inst : RawInst
  return_inst = raw (raws.opcode (codes "return")) None (operands.Return [])

  return_is : (s : Option Ty) (ts : List Tag) (rs : List ℕ) (vs : List ℕ) → Each TagFits ts → Each (ValueFits n) rs → Each (ValueFits n) vs → LineIs s ts rs (insts.Return vs)
  return_is s ts rs [] fits res h = plain_is s ts rs (insts.Return []) fits res (λ e. in_return_inst e (then_nothing (return_form (codes "return") return_opcode))) refl
  return_is s ts rs (v ∷ vs) fits res h =
      let w = Word (codes "return") in
      let is : (e : List Class) → IsInst e return_inst w = λ e. in_return_inst e (return_form (codes "return") return_opcode) in
      let all = list_reads value name bare_name (insts_text.value n) (raws.value n) v vs (values_read n (v ∷ vs) h) in
      record {
        clear = λ b. line_clear ts rs (insts_text.instruction n s (insts.Return (v ∷ vs))) b fits res
            (and_from (clear w 32) (clear (insts_text.values n (v ∷ vs)) 10) ((is []).clear 32 refl) (all.clear 10 refl));
        told = λ at ws ps ready g. (
            let at1 = at + 4 in
            let at2 = at1 + length (spelled (insts_text.debug_tags ts)) in
            let at3 = at2 + length (spelled (text.results f n rs)) in
            let at4 = at3 + length (spelled w) + 1 in
            let head = s_at at1 (head_text ts rs w) in
            let own = s_at at4 (insts_text.values n (v ∷ vs)) in
            let d = s_at at1 (insts_text.debug_tags ts) in
            let r = s_at at2 (text.results f n rs) in
            let cut : s_at at (line_text s ts rs (insts.Return (v ∷ vs))) ≡ head ++ own =
            no_end at ts rs (insts_text.instruction n s (insts.Return (v ∷ vs)))
            ∙ ap (λ (z : List Lexeme). d ++ z) (sym (append_assoc r (s_at at3 w) own)) ∙ sym (append_assoc d (r ++ s_at at3 w) own) in
            let whole : s_at at (line_text s ts rs (insts.Return (v ∷ vs))) ++ ws ≡ head ++ (own ++ ws) = ap (λ (z : List Lexeme). z ++ ws) cut ∙ append_assoc head own ws in
            subst (λ (z : List Lexeme). PartsTold g (Whole (head_line ts rs return_inst) ∷ (Values (raws.values n (v ∷ vs)) ∷ ps)) z) (sym whole)
            (line_then g (head_line ts rs return_inst) head (own ++ ws) (Values (raws.values n (v ∷ vs)) ∷ ps) (head_told return_inst w is at1 ts rs fits res)
            (values_then (raws.values n (v ∷ vs)) own ws ps (returned_told at4 v vs h) (ready false))));
      }

  line_is : (s : Option Ty) (l : Line) (i : Instruction) → InstructionForm f l i → Spellable n i → Each TagFits l.tags → Each (ValueFits n) l.results → LineIs s l.tags l.results i
  line_is s l (insts.Plain i) h k fits res = plain_is s l.tags l.results (insts.Plain i) fits res (λ e. inst_read n e f l s (insts.Plain i) h k tt) refl
  line_is s l (insts.Branches i) h k fits res = plain_is s l.tags l.results (insts.Branches i) fits res (λ e. inst_read n e f l s (insts.Branches i) h k tt) refl
  line_is s l insts.SequencePoint h k fits res = plain_is s l.tags l.results insts.SequencePoint fits res (λ e. inst_read n e f l s insts.SequencePoint h k tt) refl
  line_is s l (insts.Return vs) h k fits res = return_is s l.tags l.results vs fits res k.values
  line_is s l (insts.Call to args) h k fits res = plain_is s l.tags l.results (insts.Call to args) fits res (λ e. inst_read n e f l s (insts.Call to args) h k tt) refl
  line_is s l (insts.ReturnCall to args) h k fits res = plain_is s l.tags l.results (insts.ReturnCall to args) fits res (λ e. inst_read n e f l s (insts.ReturnCall to args) h k tt) refl
  line_is s l (insts.TryCall to sig args normal table) h k fits res = plain_is s l.tags l.results (insts.TryCall to sig args normal table) fits res (λ e. inst_read n e f l s (insts.TryCall to sig args normal table) h k tt) refl

  both_fit : (ts : List Tag) → Each TagWritable ts → Each TagSpellable ts → Each TagFits ts
  both_fit [] h k = tt
  both_fit (t ∷ ts) h k = ((h.0, k.0), both_fit ts h.1 k.1)

  -- ---- all lines of a block

  abbrev suffix_of : ℕ → Line → Option Ty
  suffix_of next l = insts_text.shown_suffix f n next l.ty (insts_text.typing_operand l.inst)

  abbrev parts : ℕ → List Line → List LinePart
  parts next [] = []
  parts next (l ∷ ls) = Whole (head_line l.tags l.results (head_inst (suffix_of next l) l.inst)) ∷ (behind l.inst ++ parts (next + length l.results) ls)

  record LinesAre (next : ℕ) (ls : List Line) : Type 0 where
    pub clear : (b : ℕ) → clear (text.lines f n next ls) b ≡ true
    pub told : (at : ℕ) → Ready (parts next ls) (s_at at (text.lines f n next ls))

  lines_are : (next : ℕ) (ls : List Line) → Each (LineWritable f) ls → Each (LineSpellable n) ls → LinesAre next ls
  lines_are next [] h k = record { clear = λ b. refl; told = λ at g. no_parts g }
  lines_are next (l ∷ ls) h k =
      let s = suffix_of next l in
      let one = line_is s l l.inst h.0.0 k.0.inst (both_fit l.tags h.0.1 k.0.tags) k.0.results in
      let rest = lines_are (next + length l.results) ls h.1 k.1 in
      let t = line_text s l.tags l.results l.inst in
      let more = text.lines f n (next + length l.results) ls in
      record {
        clear = λ b. and_from (clear t (front more b)) (clear more b) (one.clear (front more b)) (rest.clear b);
        told = λ at. one.told at (s_at (at + length (spelled t)) more) (parts (next + length l.results) ls) (rest.told (at + length (spelled t)));
      }

  -- the values of a `return` are given to it
  given : (ts : List Tag) (rs : List ℕ) (s : Option Ty) (i : Instruction) (ps : List LinePart) → lines_from (head_line ts rs (head_inst s i)) (behind i ++ ps) ≡ lines_from (head_line ts rs (raws.instruction n s i)) ps
  given ts rs s (insts.Plain i) ps = refl
  given ts rs s (insts.Branches i) ps = refl
  given ts rs s insts.SequencePoint ps = refl
  given ts rs s (insts.Return []) ps = refl
  given ts rs s (insts.Return (v ∷ vs)) ps = refl
  given ts rs s (insts.Call to args) ps = refl
  given ts rs s (insts.ReturnCall to args) ps = refl
  given ts rs s (insts.TryCall to sig args normal table) ps = refl

  from_said : (k : RawLine) (next : ℕ) (ls : List Line) → lines_from k (parts next ls) ≡ k ∷ raws.lines f n next ls
  from_said k next [] = refl
  from_said k next (l ∷ ls) =
      ap (λ (z : List RawLine). k ∷ z) (given l.tags l.results (suffix_of next l) l.inst (parts (next + length l.results) ls) ∙ from_said (raws.line f n next l) (next + length l.results) ls)

  lines_said : (next : ℕ) (ls : List Line) → lines_of_parts (parts next ls) ≡ raws.lines f n next ls
  lines_said next [] = refl
  lines_said next (l ∷ ls) = given l.tags l.results (suffix_of next l) l.inst (parts (next + length l.results) ls) ∙ from_said (raws.line f n next l) (next + length l.results) ls

  pub lines_read : (next : ℕ) (ls : List Line) → Each (LineWritable f) ls → Each (LineSpellable n) ls → Closed lines (λ v. map bare_line (lines_value v)) (raws.lines f n next ls) (text.lines f n next ls)
  lines_read next ls h k =
      let are = lines_are next ls h k in
      record {
        clear = are.clear;
        told = λ at. (
            let t = are.told at false in
            record {
              tree = t.trees;
              derived = t.derived;
              says = bare_lines (map part_value t.trees) ∙ ap lines_of_parts (map_both part_value bare_part t.trees ∙ t.says) ∙ lines_said next ls;
            });
      }

-- Functions, read as what they say.
use Rattle.std.proofs.Common.{◌≡◌, ◌≢◌, ℕ, ◌+◌, ◌≤◌, Bool, true, false, ◌&&◌, cond, List, [], ◌∷◌, ◌++◌, map, length, refl, ap, ap₂, ◌∙◌, arith, append_assoc}
use Rattle.std.specs.Prelude.{codes}
use Rattle.std.proofs.lemmas.Bool.{and_from}
use Rattle.std.proofs.lemmas.List.{append-nil}
use Rattle.clif_lex.specs.declared.spans.TokenKind.TheVariants as kind
use Rattle.grammar.specs.Rules.{Rule, Many, Tree}
use Rattle.ir_core.specs.declared.declarations.Callee.{Callee}
use Rattle.ir_core.specs.Lists.{Each}
use Rattle.ir_core.specs.Module.{Block, Function}
use Rattle.ir_text.specs.Numbering.{Numbering, numbering_of}
use Rattle.ir_text.specs.TextTree.{Text, Nothing, Word, Mark, ◌▹◌, spelled, line_end}
use Rattle.ir_text.specs.Text as text
use Rattle.ir_text.specs.TextDeclarations as decls_text
use Rattle.ir_text.specs.TextInstructions as insts_text
use Rattle.ir_text.specs.Writable.{greatest_number, NameWritable, LineWritable, FunctionWritable}
use Rattle.clif_words.specs.declared.class.Class.TheVariants as classes
use Rattle.clif_words.specs.Table.{all_words}
use Rattle.clif_words.specs.Terminals.{◌then◌, function_word, left_brace, right_brace}
use Rattle.clif_words.specs.Words.{word_meaning}
use Rattle.clif_read.specs.declared.raw.RawBlock.{RawBlock}
use Rattle.clif_read.specs.declared.raw.RawDecl.{RawDecl}
use Rattle.clif_read.specs.declared.raw.RawFuncName.{RawFuncName}
use Rattle.clif_read.specs.declared.raw.RawFunction.{RawFunction}
use Rattle.clif_read.specs.declared.raw.RawSignature.{RawSignature}
use Rattle.clif_read.specs.ModuleGrammar.{decl, block_rule, function}
use Rattle.clif_read.specs.DeclarationValues.{decl_value, func_name_value, signature_value}
use Rattle.clif_read.specs.ModuleValues.{block_value, function_value}
use Rattle.text_read_back.proofs.Stretches.{front, clear}
use Rattle.text_read_back.specs.Bare.{bare_decl, bare_block, bare_func_name, bare_function}
use Rattle.text_read_back.specs.RawOf as raws
use Rattle.text_read_back.proofs.Spellable.{BlockSpellable, FunctionSpellable}
use Rattle.text_read_back.proofs.Told.{lexeme_as, s_at, Told, told_as, told_pair, Reads, Closed, blank, soft_space, seq, nothing_said}
use Rattle.text_read_back.proofs.Terms.{word_says}
use Rattle.text_read_back.proofs.Lists.{map_both}
use Rattle.text_read_back.proofs.Sizes.{counts}
use Rattle.text_read_back.proofs.Blocks.{block_read, more_read}
use Rattle.text_read_back.proofs.Signatures.{func_name_reads, signature_reads}
use Rattle.text_read_back.proofs.Declarations.{CalleesFit, declarations_read}

-- ---- blocks and the brace behind them

abbrev Rest : Rule
Rest = block_rule then Many block_rule then right_brace

abbrev rest_says : Tree Rest → List RawBlock
rest_says v = bare_block (block_value v.0) ∷ map (λ w. bare_block (block_value w)) v.1.0

module _ (f : Function) (n : Numbering) where
  rest_read : (bs : List Block) → bs ≢ [] → Each (λ (b : Block). Each (LineWritable f) b.lines) bs → Each (BlockSpellable f n) bs
      → Closed Rest rest_says (raws.blocks f n 0 bs) (text.blocks f n bs ▹ Mark 125 ▹ line_end)
  rest_read [] some h k = absurd (some refl)
  rest_read (b ∷ bs) some h k =
      let one = block_read f n 0 b h.0 k.0 in
      let rest = more_read f n (insts_text.next_after 0 b) bs h.1 k.1 in
      let t = text.block f n 0 b in
      let more = text.more_blocks f n (insts_text.next_after 0 b) bs in
      record {
        clear = λ c. and_from (clear (t ▹ more) 125) true (and_from (clear t (front more 125)) (clear more 125) (one.clear (front more 125)) (rest.clear 125)) refl;
        told = λ at. (
            let at1 = at + length (spelled t) in
            let at2 = at + length (spelled (t ▹ more)) in
            let brace = lexeme_as (kind.Mark 125) (125 ∷ []) at2 in
            let close_told : Told right_brace nothing_said tt (brace ∷ []) = record { tree = brace; derived = (refl, refl); says = refl } in
            let whole = told_pair (one.told at) (told_pair (rest.told at1) close_told) in
            let us : s_at at ((t ▹ more) ▹ Mark 125 ▹ line_end) ≡ s_at at t ++ (s_at at1 more ++ (brace ∷ [])) = append_assoc (s_at at t) (s_at at1 more) (brace ∷ []) in
            told_as us (record { tree = whole.tree; derived = whole.derived; says = ap (λ (p : RawBlock × (List RawBlock × Unit {0})). p.0 ∷ p.1.0) whole.says }));
      }

  after_read : {r : Rule} {A : Type 0} {g : Tree r → A} {x : A} {t : Text} → Closed r g x t → Closed r g x (decls_text.after_declarations f ▹ t)
  after_read {r} {A} {g} {x} {t} q = go ((decls_text.is_empty f.slots && decls_text.is_empty f.sigs) && decls_text.is_empty f.callees)
    where
      go : (b : Bool) → Closed r g x (cond {A = Text} b Nothing line_end ▹ t)
      go true = record { clear = λ c. q.clear c; told = λ at. q.told (at + 0) }
      go false = record { clear = λ c. q.clear c; told = λ at. q.told (at + 1) }

  -- ---- the whole of a function

  abbrev Body : Rule
  Body = left_brace then Many decl then Rest

  abbrev body_says : Tree Body → List RawDecl × List RawBlock
  body_says v = (map (λ w. bare_decl (decl_value w)) v.1.0, rest_says v.1.1)

  brace_then : {y : List RawDecl × List RawBlock} {t : Text} → Closed (Many decl then Rest) {A = List RawDecl × List RawBlock} (λ v. (map (λ w. bare_decl (decl_value w)) v.0, rest_says v.1)) y t
      → Reads Body body_says y (Mark 123 ▹ line_end ▹ t)
  brace_then {y} {t} q = record {
    clear = λ c h. q.clear c;
    told = λ at. (let k = q.told (at + 1 + 1) in let b = lexeme_as (kind.Mark 123) (123 ∷ []) at in record { tree = (b, k.tree); derived = (b ∷ [], s_at (at + 1 + 1) t, refl, ((refl, refl), k.derived)); says = k.says });
  }

abbrev nothing_more : ℕ → Unit {0}
nothing_more k = tt

word_read : Reads function_word nothing_said tt (Word (codes "function"))
unfolding word_meaning all_words
word_read = word_says classes.Function (codes "function") nothing_more tt refl refl refl

callees_fit : (cs : List Callee) → Each (λ (c : Callee). NameWritable c.name) cs → Each (λ (c : Callee). c.sig ≤ greatest_number) cs → CalleesFit cs
callees_fit [] h k = tt
callees_fit (c ∷ cs) h k = ((h.0, k.0), callees_fit cs h.1 k.1)

few : (n : ℕ) → n ≤ 262144 → n ≤ greatest_number
few n h = omega arith

abbrev made : RawFuncName → RawSignature → List RawDecl → List RawBlock → RawFunction
made name signature decls blocks = record { spot = 0; name = name; signature = signature; decls = decls; blocks = blocks; end_spot = 0 }

pub function_read : (f : Function) → FunctionWritable f → FunctionSpellable f → Reads function (λ v. bare_function (function_value v)) (raws.raw_function f) (text.canonical_function f)
function_read f w k =
    let n = numbering_of f in
    let c = counts f 262144 w.size in
    let rest = after_read f n (rest_read f n f.blocks k.blocks w.lines k.each) in
    let ds = declarations_read f.slots f.sigs f.callees (few (length f.slots) c.slots) (few (length f.sigs) c.sigs) (few (length f.callees) c.callees) w.slots (callees_fit f.callees w.callees k.callees) Rest rest_says rest in
    let body = brace_then f n ds in
    let no_more = append-nil (raws.numbered raws.callee_decl 0 f.callees) in
    let all = seq word_read (blank (seq (func_name_reads f.name w.name) (seq (signature_reads f.sig) (blank body) soft_space) (record { so = λ b h. refl }))) soft_space in
    record {
      clear = all.clear;
      told = λ at. (
          let t = all.told at in
          record {
            tree = t.tree;
            derived = t.derived;
            says = ap₂ (λ (d : List RawDecl) (b : List RawBlock). made (bare_func_name (func_name_value t.tree.1.0)) (signature_value t.tree.1.1.0) d (bare_block (block_value t.tree.1.1.1.1.1.0) ∷ b))
                (map_both decl_value bare_decl t.tree.1.1.1.1.0) (map_both block_value bare_block t.tree.1.1.1.1.1.1.0)
                ∙ ap (λ (p : Unit {0} × (RawFuncName × (RawSignature × (List RawDecl × List RawBlock)))). made p.1.0 p.1.1.0 p.1.1.1.0 p.1.1.1.1) t.says
                ∙ ap (λ (d : List RawDecl). made (raws.function_name f.name) (raws.signature f.sig) (raws.numbered raws.slot_decl 0 f.slots ++ (raws.numbered raws.sig_decl 0 f.sigs ++ d)) (raws.blocks f n 0 f.blocks)) no_more;
          });
    }

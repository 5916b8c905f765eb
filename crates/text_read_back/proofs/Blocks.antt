-- The blocks of a function, read as what they say.
use Rattle.std.proofs.Common.{◌≡◌, ℕ, ◌+◌, Bool, false, List, [], ◌∷◌, map, length, Option, Some, None, refl, ap, ap₂}
use Rattle.std.specs.Prelude.{IsSome}
use Rattle.std.proofs.lemmas.Bool.{and_from}
use Rattle.clif_lex.specs.Bytes.{is_word_byte}
use Rattle.clif_lex.specs.declared.spans.TokenKind.TheVariants as kind
use Rattle.grammar.specs.Rules.{Opt, Many, Tree}
use Rattle.ir_core.specs.declared.signatures.Ty.{Ty}
use Rattle.ir_core.specs.Lists.{Each}
use Rattle.ir_core.specs.Lookup.{type_of}
use Rattle.ir_core.specs.Module.{Block, Function}
use Rattle.ir_text.specs.Numbering.{Numbering}
use Rattle.ir_text.specs.TextTree.{◌▹◌, spelled, space, colon, line_end}
use Rattle.ir_text.specs.Text as text
use Rattle.ir_text.specs.TextInstructions as insts_text
use Rattle.ir_text.specs.Writable.{LineWritable}
use Rattle.clif_words.specs.declared.class.Class.TheVariants as classes
use Rattle.clif_words.specs.Terminals.{one, cold}
use Rattle.token_reader.specs.declared.raw.RawName.{RawName}
use Rattle.token_reader.specs.Grammar.{any_type}
use Rattle.token_reader.specs.Values.{perhaps, any_type_value}
use Rattle.clif_read.specs.declared.raw.RawBlockParam.{RawBlockParam}
use Rattle.clif_read.specs.declared.raw.RawBlock.{RawBlock}
use Rattle.clif_read.specs.declared.raw.RawLine.{RawLine}
use Rattle.clif_read.specs.ModuleGrammar.{block_param, block_params, block_rule}
use Rattle.clif_read.specs.ModuleValues.{block_param_value, block_params_value, is_cold, block_value}
use Rattle.text_read_back.proofs.Stretches.{front, clear}
use Rattle.text_read_back.specs.Bare.{bare_block_param, bare_block}
use Rattle.text_read_back.specs.RawOf as raws
use Rattle.text_read_back.proofs.Spellable.{ParamSpellable, BlockSpellable}
use Rattle.text_read_back.proofs.Told.{lexeme_as, s_at, Told, told_pair, Reads, Closed, seq, means, blank, none, some, mark_then, then_mark, soft_mark, nothing_said}
use Rattle.text_read_back.proofs.Terms.{type_reads}
use Rattle.text_read_back.proofs.Operands.{value_reads, block_reads, all_read_where, opt_list_reads}
use Rattle.text_read_back.proofs.Lines.{lines_read}

typed_reads : (o : Option Ty) → IsSome o → Reads any_type any_type_value (raws.type_or o) (insts_text.type_text o)
typed_reads (Some t) h = type_reads t
typed_reads None h = absurd cc

module _ (f : Function) (n : Numbering) where
  param_reads : (v : ℕ) → ParamSpellable f n v → Reads block_param (λ x. bare_block_param (block_param_value x)) (raws.block_parameter f n v) (text.block_parameter f n v)
  param_reads v h =
      means (λ (p : RawName × Ty). (let r : RawBlockParam = record { value = p.0; ty = p.1 } in r))
      (seq (value_reads n v h.0) (mark_then classes.Colon 58 refl refl (blank (typed_reads (type_of f v) h.1))) (soft_mark 58 (space ▹ insts_text.type_text (type_of f v)) refl))

  abbrev params_say : Tree (Opt block_params) → List RawBlockParam
  params_say o = map bare_block_param (perhaps [] block_params_value o)

  params_read : (vs : List ℕ) → Each (ParamSpellable f n) vs → Reads (Opt block_params) params_say (map (raws.block_parameter f n) vs) (text.block_parameters f n vs)
  params_read [] h = none block_params params_say
  params_read (v ∷ vs) h =
      some params_say (mark_then classes.LeftParen 40 refl refl (then_mark classes.RightParen 41 refl refl refl
      (opt_list_reads block_param block_param_value bare_block_param (text.block_parameter f n) (raws.block_parameter f n) (v ∷ vs)
      (all_read_where (ParamSpellable f n) block_param (λ x. bare_block_param (block_param_value x)) (text.block_parameter f n) (raws.block_parameter f n) param_reads (v ∷ vs) h))))

  params_front : (vs : List ℕ) → is_word_byte (front (text.block_parameters f n vs) 58) ≡ false
  params_front [] = refl
  params_front (v ∷ vs) = refl

  no_cold : Told (Opt cold) is_cold false []
  no_cold = record { tree = None; derived = refl; says = refl }

  abbrev said : RawName × (List RawBlockParam × (Bool × List RawLine)) → RawBlock
  said p = record { block = p.0; params = p.1.0; cold = p.1.1.0; lines = p.1.1.1 }

  pub block_read : (next : ℕ) (b : Block) → Each (LineWritable f) b.lines → BlockSpellable f n b → Closed block_rule (λ v. bare_block (block_value v)) (raws.block f n next b) (text.block f n next b)
  block_read next b h k =
      let name = block_reads n b.number k.name in
      let params = params_read b.params k.params in
      let ls = lines_read f n (next + length b.params) b.lines h k.lines in
      let t0 = insts_text.block_reference n b.number in
      let t1 = text.block_parameters f n b.params in
      let t2 = text.lines f n (next + length b.params) b.lines in
      record {
        clear = λ c. and_from (clear t0 (front t1 58)) (clear (t1 ▹ colon ▹ line_end ▹ t2) c) (name.clear (front t1 58) (params_front b.params))
            (and_from (clear t1 58) (clear (colon ▹ line_end ▹ t2) c) (params.clear 58 refl) (ls.clear c));
        told = λ at. (
            let at1 = at + length (spelled t0) in
            let at2 = at1 + length (spelled t1) in
            let mark : Told (one classes.Colon) nothing_said tt (lexeme_as (kind.Mark 58) (58 ∷ []) at2 ∷ []) = record { tree = lexeme_as (kind.Mark 58) (58 ∷ []) at2; derived = (refl, refl); says = refl } in
            let whole = told_pair (name.told at) (told_pair (params.told at1) (told_pair no_cold (told_pair mark (ls.told (at2 + 1 + 1))))) in
            record {
              tree = whole.tree;
              derived = whole.derived;
              says = ap (λ (p : RawName × (List RawBlockParam × (Bool × (Unit {0} × List RawLine)))). said (p.0, (p.1.0, (p.1.1.0, p.1.1.1.1)))) whole.says;
            });
      }

  pub more_read : (next : ℕ) (bs : List Block) → Each (λ (b : Block). Each (LineWritable f) b.lines) bs → Each (BlockSpellable f n) bs
      → Closed (Many block_rule) (map (λ v. bare_block (block_value v))) (raws.blocks f n next bs) (text.more_blocks f n next bs)
  more_read next [] h k = record { clear = λ c. refl; told = λ at. record { tree = []; derived = refl; says = refl } }
  more_read next (b ∷ bs) h k =
      let one = block_read next b h.0 k.0 in
      let rest = more_read (insts_text.next_after next b) bs h.1 k.1 in
      let t = text.block f n next b in
      let more = text.more_blocks f n (insts_text.next_after next b) bs in
      record {
        clear = λ c. and_from (clear t (front more c)) (clear more c) (one.clear (front more c)) (rest.clear c);
        told = λ at. (
            let a = one.told (at + 1) in
            let at2 = at + 1 + length (spelled t) in
            let m = rest.told at2 in
            record {
              tree = a.tree ∷ m.tree;
              derived = (s_at (at + 1) t, s_at at2 more, refl, (a.derived, m.derived));
              says = ap₂ (λ (x : RawBlock) (xs : List RawBlock). x ∷ xs) a.says m.says;
            });
      }

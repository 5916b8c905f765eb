-- What a function uses is taken word by word in order of the text, and so are its numbers.
use Rattle.std.proofs.Common.{◌≡◌, ℕ, List, [], ◌∷◌, ◌++◌, Option, None, Some, refl, sym, ap, ◌∙◌, append_assoc}
use Rattle.std.specs.Prelude.{fold, flat_map}
use Rattle.std.proofs.lemmas.Grind.{fold-append}
use Rattle.std.proofs.lemmas.List.{append-nil}
use Rattle.std.proofs.lemmas.List.Concat.{flat_map_single}
use Rattle.ir_core.specs.declared.signatures.Ty.{Ty}
use Rattle.token_reader.specs.declared.raw.RawName.{RawName}
use Rattle.clif_insts.specs.declared.raw.RawArg.{RawArg}
use Rattle.clif_insts.specs.declared.raw.RawArg.TheVariants as arg
use Rattle.clif_insts.specs.declared.raw.RawTarget.{RawTarget}
use Rattle.clif_insts.specs.declared.raw.RawOperands.{RawOperands}
use Rattle.clif_insts.specs.declared.raw.RawInst.{RawInst}
use Rattle.clif_read.specs.declared.raw.RawTag.{RawTag}
use Rattle.clif_read.specs.declared.raw.RawTag.TheVariants as tag
use Rattle.clif_read.specs.declared.raw.RawLine.{RawLine}
use Rattle.clif_read.specs.declared.raw.RawLine.TheVariants as line
use Rattle.clif_read.specs.declared.raw.RawFuncName.{RawFuncName}
use Rattle.clif_read.specs.declared.raw.RawDecl.{RawDecl}
use Rattle.clif_read.specs.declared.raw.RawDecl.TheVariants as decl
use Rattle.clif_read.specs.declared.raw.RawBlockParam.{RawBlockParam}
use Rattle.clif_read.specs.declared.raw.RawBlock.{RawBlock}
use Rattle.clif_read.specs.declared.raw.RawFunction.{RawFunction}
use Rattle.clif_names.specs.declared.limits.Limited.{Limited}
use Rattle.name_tables.specs.declared.links.End.{End}
use Rattle.name_tables.specs.declared.names.Names.{Names}
use Rattle.clif_names.specs.declared.uses.Uses.{Uses}
use Rattle.name_tables.specs.Definitions.{Kind, Slots, Sigs, Callees, Blocks, Values, lines}
use Rattle.clif_names.specs.Limits.{name_limits, decl_limits, tag_limits, arg_limits, target_limits, operand_limits, line_limits}
use Rattle.clif_names.specs.Noting.{note}
use Rattle.name_tables.specs.Taking.{refer}
use Rattle.clif_names.specs.Typing.{asks}
use Rattle.name_tables.specs.Uses.{decl_uses, line_uses, uses, tag_slots, arg_values, target_values, operand_values, operand_slots, operand_callees, operand_sigs, operand_targets}
use Rattle.clif_names.specs.Using.{table_at, note_name, use_decl, use_tag, use_arg, use_target, note_operands, use_operands, ask_operand, ask_type, define, use_line, define_param, use_block, use_function}
use Rattle.name_tables.proofs.ListParts.{flat_none, flat_flat}

-- these words of each kind are used, and these numbers are seen
pub record Adds (u v : Uses) (words : Kind → List RawName) (numbers : List Limited) : Type 0 where
  pub words_taken : (k : Kind) → table_at v k ≡ fold refer (table_at u k) (words k)
  pub numbers_seen : v.outside ≡ fold note u.outside numbers

abbrev pub no_words : Kind → List RawName
no_words k = []

-- words of one kind
abbrev slots_only : List RawName → Kind → List RawName
slots_only ns Slots = ns
slots_only ns _ = []

abbrev values_only : List RawName → Kind → List RawName
values_only ns Values = ns
values_only ns _ = []

adds_then : (u v w : Uses) (a b : Kind → List RawName) (m n : List Limited) → Adds u v a m → Adds v w b n → Adds u w (λ k. a k ++ b k) (m ++ n)
adds_then u v w a b m n h g = record {
  words_taken = λ k. g.words_taken k ∙ ap (λ (t : Names). fold refer t (b k)) (h.words_taken k) ∙ sym (fold-append refer (table_at u k) (a k) (b k));
  numbers_seen = g.numbers_seen ∙ ap (λ (o : Option ℕ). fold note o n) h.numbers_seen ∙ sym (fold-append note u.outside m n);
}

-- the same words, written in another way
adds_as : (u v : Uses) (a b : Kind → List RawName) (m n : List Limited) → ((k : Kind) → a k ≡ b k) → m ≡ n → Adds u v a m → Adds u v b n
adds_as u v a b m n e f h = record {
  words_taken = λ k. h.words_taken k ∙ ap (fold refer (table_at u k)) (e k);
  numbers_seen = h.numbers_seen ∙ ap (fold note u.outside) f;
}

pub each_kind : (P : Kind → Type 0) → P Slots → P Sigs → P Callees → P Blocks → P Values → (k : Kind) → P k
each_kind P a b c d e Slots = a
each_kind P a b c d e Sigs = b
each_kind P a b c d e Callees = c
each_kind P a b c d e Blocks = d
each_kind P a b c d e Values = e

module _ {X : Type 0} (f : Uses → X → Uses) (words : X → Kind → List RawName) (numbers : X → List Limited) (one : (u : Uses) (x : X) → Adds u (f u x) (words x) (numbers x)) where
  pub adds_list : (u : Uses) (xs : List X) → Adds u (fold f u xs) (λ k. flat_map (λ x. words x k) xs) (flat_map numbers xs)
  adds_list u [] = record { words_taken = λ k. refl; numbers_seen = refl }
  adds_list u (x ∷ xs) = adds_then u (f u x) (fold f (f u x) xs) (words x) (λ k. flat_map (λ x. words x k) xs) (numbers x) (flat_map numbers xs) (one u x) (adds_list (f u x) xs)

-- ---- steps

adds_none : (u v : Uses) → v.slots ≡ u.slots → v.sigs ≡ u.sigs → v.callees ≡ u.callees → v.blocks ≡ u.blocks → v.values ≡ u.values → v.outside ≡ u.outside → Adds u v no_words []
adds_none u v a b c d e f = record { words_taken = each_kind (λ k. table_at v k ≡ table_at u k) a b c d e; numbers_seen = f }

adds_name : (u : Uses) (name : RawFuncName) → Adds u (note_name u name) no_words (name_limits name)
adds_name u name = record { words_taken = each_kind (λ k. table_at (note_name u name) k ≡ table_at u k) refl refl refl refl refl; numbers_seen = refl }

adds_decl : (u : Uses) (d : RawDecl) → Adds u (use_decl u d) (λ k. decl_uses k d) (decl_limits d)
adds_decl u (decl.Slot n a b) = record { words_taken = each_kind (λ k. table_at (use_decl u (decl.Slot n a b)) k ≡ fold refer (table_at u k) (decl_uses k (decl.Slot n a b))) refl refl refl refl refl; numbers_seen = refl }
adds_decl u (decl.Sig n a) = record { words_taken = each_kind (λ k. table_at (use_decl u (decl.Sig n a)) k ≡ fold refer (table_at u k) (decl_uses k (decl.Sig n a))) refl refl refl refl refl; numbers_seen = refl }
adds_decl u (decl.Callee a n e b) = record { words_taken = each_kind (λ k. table_at (use_decl u (decl.Callee a n e b)) k ≡ fold refer (table_at u k) (decl_uses k (decl.Callee a n e b))) refl refl refl refl refl; numbers_seen = refl }

abbrev tag_words : RawTag → Kind → List RawName
tag_words t = slots_only (tag_slots t)

adds_tag : (u : Uses) (t : RawTag) → Adds u (use_tag u t) (tag_words t) (tag_limits t)
adds_tag u (tag.User n) = record { words_taken = each_kind (λ k. table_at (use_tag u (tag.User n)) k ≡ fold refer (table_at u k) (tag_words (tag.User n) k)) refl refl refl refl refl; numbers_seen = refl }
adds_tag u (tag.Slot n) = record { words_taken = each_kind (λ k. table_at (use_tag u (tag.Slot n)) k ≡ fold refer (table_at u k) (tag_words (tag.Slot n) k)) refl refl refl refl refl; numbers_seen = refl }

abbrev arg_words : RawArg → Kind → List RawName
arg_words a = values_only (arg_values a)

adds_arg : (u : Uses) (a : RawArg) → Adds u (use_arg u a) (arg_words a) (arg_limits a)
adds_arg u (arg.Value n) = record { words_taken = each_kind (λ k. table_at (use_arg u (arg.Value n)) k ≡ fold refer (table_at u k) (arg_words (arg.Value n) k)) refl refl refl refl refl; numbers_seen = refl }
adds_arg u (arg.Ret n) = record { words_taken = each_kind (λ k. table_at (use_arg u (arg.Ret n)) k ≡ fold refer (table_at u k) (arg_words (arg.Ret n) k)) refl refl refl refl refl; numbers_seen = refl }
adds_arg u (arg.Exn n) = record { words_taken = each_kind (λ k. table_at (use_arg u (arg.Exn n)) k ≡ fold refer (table_at u k) (arg_words (arg.Exn n) k)) refl refl refl refl refl; numbers_seen = refl }

abbrev target_words : RawTarget → Kind → List RawName
target_words t Blocks = t.block ∷ []
target_words t Values = target_values t
target_words t _ = []

adds_block_word : (u : Uses) (n : RawName) → Adds u (record u { blocks = refer u.blocks n }) (λ k. target_words (record { block = n; args = [] }) k) []
adds_block_word u n = record {
  words_taken = each_kind (λ k. table_at (record u { blocks = refer u.blocks n }) k ≡ fold refer (table_at u k) (target_words (record { block = n; args = [] }) k)) refl refl refl refl refl;
  numbers_seen = refl;
}

adds_target : (u : Uses) (t : RawTarget) → Adds u (use_target u t) (target_words t) (target_limits t)
adds_target u t =
    let v = record u { blocks = refer u.blocks t.block } in
    adds_as u (use_target u t) (λ k. target_words (record { block = t.block; args = [] }) k ++ flat_map (λ a. arg_words a k) t.args) (target_words t) ([] ++ flat_map arg_limits t.args) (target_limits t)
    (each_kind (λ k. target_words (record { block = t.block; args = [] }) k ++ flat_map (λ a. arg_words a k) t.args ≡ target_words t k)
    (flat_none t.args) (flat_none t.args) (flat_none t.args) (ap (λ (l : List RawName). t.block ∷ l) (flat_none t.args)) refl)
    refl
    (adds_then u v (use_target u t) (λ k. target_words (record { block = t.block; args = [] }) k) (λ k. flat_map (λ a. arg_words a k) t.args) [] (flat_map arg_limits t.args)
    (adds_block_word u t.block) (adds_list use_arg arg_words arg_limits adds_arg v t.args))

adds_numbers : (u : Uses) (suffix : Option Ty) (o : RawOperands) → Adds u (note_operands u suffix o) no_words (operand_limits suffix o)
adds_numbers u suffix o = record { words_taken = each_kind (λ k. table_at (note_operands u suffix o) k ≡ table_at u k) refl refl refl refl refl; numbers_seen = refl }

abbrev operand_words : RawOperands → Kind → List RawName
operand_words o Slots = operand_slots o
operand_words o Sigs = operand_sigs o
operand_words o Callees = operand_callees o
operand_words o Blocks = []
operand_words o Values = operand_values o

adds_operands : (u : Uses) (o : RawOperands) → Adds u (use_operands u o) (operand_words o) []
adds_operands u o = record { words_taken = each_kind (λ k. table_at (use_operands u o) k ≡ fold refer (table_at u k) (operand_words o k)) refl refl refl refl refl; numbers_seen = refl }

adds_ask : (ends : List End) (u : Uses) (inst : RawInst) → Adds u (ask_type ends u inst) no_words []
adds_ask ends u inst = by (asks inst)
  where
    by : (o : Option RawName) → Adds u (ask_operand ends u inst.opcode.spot o) no_words []
    by None = adds_none u u refl refl refl refl refl refl
    by (Some x) = adds_none u (ask_operand ends u inst.opcode.spot (Some x)) refl refl refl refl refl refl

adds_define : (u : Uses) (n : RawName) → Adds u (define u n) no_words []
unfolding define
adds_define u n = adds_none u (define u n) refl refl refl refl refl refl

adds_defines : (u : Uses) (ns : List RawName) → Adds u (fold define u ns) no_words []
adds_defines u [] = adds_none u u refl refl refl refl refl refl
adds_defines u (n ∷ ns) = adds_then u (define u n) (fold define (define u n) ns) no_words no_words [] [] (adds_define u n) (adds_defines (define u n) ns)

adds_params : (u : Uses) (ps : List RawBlockParam) → Adds u (fold define_param u ps) no_words []
adds_params u [] = adds_none u u refl refl refl refl refl refl
adds_params u (p ∷ ps) = adds_then u (define u p.value) (fold define_param (define u p.value) ps) no_words no_words [] [] (adds_define u p.value) (adds_params (define u p.value) ps)

-- ---- lines

module _ (ends : List End) where
  abbrev inst_words : List RawTag → RawInst → Kind → List RawName
  inst_words tags inst k = flat_map (λ t. tag_words t k) tags ++ (operand_words inst.operands k ++ flat_map (λ t. target_words t k) (operand_targets inst.operands))

  adds_inst : (u : Uses) (tags : List RawTag) (results : List RawName) (inst : RawInst)
      → Adds u (use_line ends u (line.Inst None tags results inst)) (λ k. inst_words tags inst k ++ [])
      ((flat_map tag_limits tags ++ (operand_limits inst.suffix inst.operands ++ ([] ++ flat_map target_limits (operand_targets inst.operands)))) ++ [])
  adds_inst u tags results inst =
      let a = ask_type ends u inst in
      let b = fold use_tag a tags in
      let c = note_operands b inst.suffix inst.operands in
      let d = use_operands c inst.operands in
      let e = fold use_target d (operand_targets inst.operands) in
      let words_d = operand_words inst.operands in
      let words_e = λ (k : Kind). flat_map (λ t. target_words t k) (operand_targets inst.operands) in
      let words_b = λ (k : Kind). flat_map (λ t. tag_words t k) tags in
      let limits_e = flat_map target_limits (operand_targets inst.operands) in
      let de = adds_then c d e words_d words_e [] limits_e (adds_operands c inst.operands) (adds_list use_target target_words target_limits adds_target d (operand_targets inst.operands)) in
      let ce = adds_then b c e no_words (λ k. words_d k ++ words_e k) (operand_limits inst.suffix inst.operands) ([] ++ limits_e) (adds_numbers b inst.suffix inst.operands) de in
      let be = adds_then a b e words_b (λ k. words_d k ++ words_e k) (flat_map tag_limits tags) (operand_limits inst.suffix inst.operands ++ ([] ++ limits_e)) (adds_list use_tag tag_words tag_limits adds_tag a tags) ce in
      let ae = adds_then u a e no_words (λ k. words_b k ++ (words_d k ++ words_e k)) [] (flat_map tag_limits tags ++ (operand_limits inst.suffix inst.operands ++ ([] ++ limits_e))) (adds_ask ends u inst) be in
      adds_then u e (fold define e results) (inst_words tags inst) no_words (flat_map tag_limits tags ++ (operand_limits inst.suffix inst.operands ++ ([] ++ limits_e))) [] ae (adds_defines e results)

  nothing_before : (tags : List RawTag) (ns : List RawName) → flat_map (λ (t : RawTag). let none : List RawName = [] in none) tags ++ ns ≡ ns
  nothing_before tags ns = ap (λ (l : List RawName). l ++ ns) (flat_none tags)

  abbrev targets : RawInst → List RawTarget
  targets inst = operand_targets inst.operands

  pub adds_line : (u : Uses) (l : RawLine) → Adds u (use_line ends u l) (λ k. line_uses k l) (line_limits l)
  adds_line u (line.Alias location n m) =
      let v = record u { values = refer u.values m } in
      adds_as u (define v n) (λ k. line_uses k (line.Alias location n m) ++ []) (λ k. line_uses k (line.Alias location n m)) [] [] (λ k. append-nil (line_uses k (line.Alias location n m))) refl
      (adds_then u v (define v n) (λ k. line_uses k (line.Alias location n m)) no_words [] []
      (record { words_taken = each_kind (λ k. table_at v k ≡ fold refer (table_at u k) (line_uses k (line.Alias location n m))) refl refl refl refl refl; numbers_seen = refl }) (adds_define v n))
  adds_line u (line.Inst location tags results inst) =
      adds_as u (use_line ends u (line.Inst location tags results inst)) (λ k. inst_words tags inst k ++ []) (λ k. line_uses k (line.Inst location tags results inst))
      ((flat_map tag_limits tags ++ (operand_limits inst.suffix inst.operands ++ ([] ++ flat_map target_limits (operand_targets inst.operands)))) ++ []) (line_limits (line.Inst location tags results inst))
      (λ k. append-nil (inst_words tags inst k) ∙ each_kind (λ k. inst_words tags inst k ≡ line_uses k (line.Inst location tags results inst))
      (ap (λ (l : List RawName). flat_map tag_slots tags ++ (operand_slots inst.operands ++ l)) (flat_none (targets inst)) ∙ ap (λ (l : List RawName). flat_map tag_slots tags ++ l) (append-nil (operand_slots inst.operands)))
      (nothing_before tags (operand_sigs inst.operands ++ flat_map (λ t. []) (targets inst)) ∙ ap (λ (l : List RawName). operand_sigs inst.operands ++ l) (flat_none (targets inst)) ∙ append-nil (operand_sigs inst.operands))
      (nothing_before tags (operand_callees inst.operands ++ flat_map (λ t. []) (targets inst)) ∙ ap (λ (l : List RawName). operand_callees inst.operands ++ l) (flat_none (targets inst)) ∙ append-nil (operand_callees inst.operands))
      (nothing_before tags (flat_map (λ t. t.block ∷ []) (targets inst)) ∙ flat_map_single (λ (t : RawTarget). t.block) (targets inst))
      (nothing_before tags (operand_values inst.operands ++ flat_map target_values (targets inst)))
      k)
      (append-nil (flat_map tag_limits tags ++ (operand_limits inst.suffix inst.operands ++ ([] ++ flat_map target_limits (operand_targets inst.operands)))) ∙ sym (append_assoc_of tags inst))
      (adds_inst u tags results inst)
    where
      append_assoc_of : (tags : List RawTag) (inst : RawInst)
          → line_limits (line.Inst None tags [] inst) ≡ flat_map tag_limits tags ++ (operand_limits inst.suffix inst.operands ++ flat_map target_limits (operand_targets inst.operands))
      append_assoc_of tags inst = rw append_assoc refl

  pub adds_block : (u : Uses) (b : RawBlock) → Adds u (use_block ends u b) (λ k. flat_map (line_uses k) b.lines) (flat_map line_limits b.lines)
  adds_block u b = adds_then u (fold define_param u b.params) (use_block ends u b) no_words (λ k. flat_map (line_uses k) b.lines) [] (flat_map line_limits b.lines)
      (adds_params u b.params) (adds_list (use_line ends) (λ l k. line_uses k l) line_limits adds_line (fold define_param u b.params) b.lines)

  pub adds_function : (u : Uses) (f : RawFunction) → Adds u (use_function ends u f) (uses f) (name_limits f.name ++ (flat_map decl_limits f.decls ++ flat_map line_limits (lines f)))
  adds_function u f =
      let a = note_name u f.name in
      let b = fold use_decl a f.decls in
      let c = fold (use_block ends) b f.blocks in
      let in_blocks = λ (k : Kind). flat_map (λ (b : RawBlock). flat_map (line_uses k) b.lines) f.blocks in
      let limits_in = flat_map (λ (b : RawBlock). flat_map line_limits b.lines) f.blocks in
      let in_decls = λ (k : Kind). flat_map (decl_uses k) f.decls in
      let bc = adds_list (use_block ends) (λ b k. flat_map (line_uses k) b.lines) (λ b. flat_map line_limits b.lines) adds_block b f.blocks in
      let ac = adds_then a b c in_decls in_blocks (flat_map decl_limits f.decls) limits_in (adds_list use_decl (λ d k. decl_uses k d) decl_limits adds_decl a f.decls) bc in
      let uc = adds_then u a c no_words (λ k. in_decls k ++ in_blocks k) (name_limits f.name) (flat_map decl_limits f.decls ++ limits_in) (adds_name u f.name) ac in
      adds_as u c (λ k. in_decls k ++ in_blocks k) (uses f) (name_limits f.name ++ (flat_map decl_limits f.decls ++ limits_in)) (name_limits f.name ++ (flat_map decl_limits f.decls ++ flat_map line_limits (lines f)))
      (λ k. ap (λ (l : List RawName). in_decls k ++ l) (sym (flat_flat (line_uses k) (λ (b : RawBlock). b.lines) f.blocks)))
      (ap (λ (l : List Limited). name_limits f.name ++ (flat_map decl_limits f.decls ++ l)) (sym (flat_flat line_limits (λ (b : RawBlock). b.lines) f.blocks)))
      uc

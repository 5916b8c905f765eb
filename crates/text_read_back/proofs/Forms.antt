-- Each form of an instruction, read as what it says.
use Rattle.std.proofs.Common.{◌≡◌, ℕ, ◌^◌, ◌<◌, true, not, ◌&&◌, List, [], ◌∷◌, map, Option, Some, None, refl}
use Rattle.std.specs.Prelude.{codes, ℤ}
use Rattle.grammar.specs.Rules.{Opt, Tree}
use Rattle.clk_num.specs.declared.op.Cc.{Cc}
use Rattle.clk_num.specs.declared.op.TrapCode.{TrapCode}
use Rattle.exn_tables.specs.declared.table.Entry.{Entry}
use Rattle.ir_core.specs.declared.instructions.BlockCall.{BlockCall}
use Rattle.ir_core.specs.declared.instructions.Flags.{Flags}
use Rattle.ir_core.specs.declared.signatures.Ty.{Ty}
use Rattle.ir_core.specs.declared.signatures.Ty.TheVariants.{I64}
use Rattle.ir_core.specs.Lists.{Each}
use Rattle.ir_text.specs.Numbering.{Numbering}
use Rattle.ir_text.specs.TextTree.{Text, Nothing, Word, Signed, ◌▹◌, space, comma, separated, in_brackets}
use Rattle.ir_text.specs.TextInstructions as text
use Rattle.ir_text.specs.Words.{condition_word}
use Rattle.ir_text.specs.Writable.{CodeWritable, ValueArg, NormalArg}
use Rattle.clif_words.specs.declared.class.Class.{Class}
use Rattle.clif_words.specs.declared.class.Class.TheVariants as classes
use Rattle.clif_words.specs.Table.{all_words}
use Rattle.clif_words.specs.Terminals as terms
use Rattle.clif_words.specs.Terminals.{◌then◌, ◌or◌, one}
use Rattle.clif_words.specs.Words.{word_meaning}
use Rattle.token_reader.specs.declared.raw.RawName.{RawName}
use Rattle.token_reader.specs.declared.raw.RawNumber.{RawNumber}
use Rattle.token_reader.specs.declared.raw.RawOpcode.{RawOpcode}
use Rattle.clif_insts.specs.declared.raw.RawFlag.{RawFlag}
use Rattle.clif_insts.specs.declared.raw.RawTarget.{RawTarget}
use Rattle.clif_insts.specs.declared.raw.RawEntry.{RawEntry}
use Rattle.clif_insts.specs.declared.raw.RawTrap.{RawTrap}
use Rattle.clif_insts.specs.declared.raw.RawOperands.TheVariants as operands
use Rattle.token_reader.specs.Grammar.{number, refused_type, suffix, suffix_i64}
use Rattle.clif_insts.specs.Grammar.{any_trap, flags, address, slot_address, target, normal_target, table, args, target_list}
use Rattle.clif_insts.specs.InstValues as v
use Rattle.clif_insts.specs.InstValues.{raw, inst_value}
use Rattle.token_reader.specs.Values.{offset_value}
use Rattle.text_read_back.proofs.NumberTokens.{is_64_bits}
use Rattle.text_read_back.specs.Bare.{bare_inst, bare_number, bare_option}
use Rattle.text_read_back.specs.RawOf as raws
use Rattle.text_read_back.proofs.Spellable.{ValueFits, TargetReads, EntryReads}
use Rattle.text_read_back.proofs.Told.{Reads, Soft, soft_then, soft_nothing, soft_space, soft_comma, seq, means, blank, gap, mark_then, comma_then, closed_seq, left, skip, seq_three, then_nothing}
use Rattle.text_read_back.proofs.Stems.{slot_stem, sig_stem, callee_stem}
use Rattle.text_read_back.proofs.Terms.{named, opcode_named, is_plain_word, word_reads, word_says, entity_reads, signed_reads, offset_reads, offset_soft, suffix_reads, opt_suffix_reads, suffix_soft, opt_suffix_soft}
use Rattle.text_read_back.proofs.Operands.{condition_reads, trap_reads, value_reads, args_reads, branch_reads, normal_reads, target_list_reads, table_reads}
use Rattle.text_read_back.proofs.Flags.{flags_read}

-- what is asked of the word of an opcode
pub record IsOpcode (w : List ℕ) (c : Class) : Type 0 where
  pub plain : is_plain_word w ≡ true
  pub class : (word_meaning w).class ≡ c

pub opcode_reads : (w : List ℕ) (c : Class) → IsOpcode w c → Reads (one c) opcode_named (raws.opcode w) (Word w)
opcode_reads w c is = word_reads c w is.plain is.class

pub nullary_form : (w : List ℕ) → IsOpcode w classes.Nullary → Reads terms.nullary (λ x. bare_inst (v.nullary_value x)) (raw (raws.opcode w) None operands.Nullary) (Word w)
nullary_form w is = means (λ (x : RawOpcode). raw x None operands.Nullary) (opcode_reads w classes.Nullary is)

pub return_form : (w : List ℕ) → IsOpcode w classes.Return → Reads terms.return_word (λ x. bare_inst (v.return_inst_value x)) (raw (raws.opcode w) None (operands.Return [])) (Word w)
return_form w is = means (λ (x : RawOpcode). raw x None (operands.Return [])) (opcode_reads w classes.Return is)

pub trap_form : (w : List ℕ) → IsOpcode w classes.Trap → (c : TrapCode) → CodeWritable c → Reads (terms.trap then any_trap) (λ x. bare_inst (v.trap_inst_value x)) (raw (raws.opcode w) None (operands.Trap (raws.trap_code c))) (Word w ▹ space ▹ text.trap_code c)
trap_form w is c h = means (λ (p : RawOpcode × RawTrap). raw p.0 None (operands.Trap p.1)) (seq (opcode_reads w classes.Trap is) (blank (trap_reads c h)) soft_space)

pub iconst_form : (w : List ℕ) → IsOpcode w classes.Iconst → (t : Ty) (z : ℤ) → is_64_bits z ≡ true
    → Reads (terms.iconst then suffix then number) (λ x. bare_inst (v.iconst_value x)) (raw (raws.opcode w) (Some t) (operands.Number (raws.number z))) (Word w ▹ text.suffix t ▹ space ▹ Signed z)
iconst_form w is t z h =
    means (λ (p : RawOpcode × (Ty × RawNumber)). raw p.0 (Some p.1.0) (operands.Number p.1.1))
    (seq (opcode_reads w classes.Iconst is) (seq (suffix_reads t) (blank (signed_reads z h)) soft_space) (soft_then (suffix_soft t) soft_space))

-- the suffix `.i64` says nothing that is kept
abbrev says_no_more : Tree (terms.ty_i64 or refused_type) → Unit {0}
says_no_more t = tt

abbrev number_says_no_more : ℕ → Unit {0}
number_says_no_more k = tt

module _ (n : Numbering) where
  abbrev val : (x : ℕ) → ValueFits n x → Reads terms.value named (raws.value n x) (text.value n x)
  val x h = value_reads n x h

  -- two values behind commas, as `operands` writes them
  pub binary_form : (w : List ℕ) → IsOpcode w classes.Binary → (s : Option Ty) (x y : ℕ) → ValueFits n x → ValueFits n y
      → Reads (terms.binary then Opt suffix then terms.value then terms.comma then terms.value) (λ t. bare_inst (v.binary_value t)) (raw (raws.opcode w) s (operands.Binary (raws.value n x) (raws.value n y)))
      (Word w ▹ text.suffix_if s ▹ Nothing ▹ text.operands n (x ∷ y ∷ []))
  binary_form w is s x y h k =
      means (λ (p : RawOpcode × (Option Ty × (RawName × RawName))). raw p.0 p.1.0 (operands.Binary p.1.1.0 p.1.1.1))
      (seq (opcode_reads w classes.Binary is) (seq (opt_suffix_reads s) (gap (blank (seq (val x h) (comma_then (then_nothing (val y k))) soft_comma))) (soft_then soft_nothing soft_space)) (soft_then (opt_suffix_soft s) (soft_then soft_nothing soft_space)))

  pub unary_form : (w : List ℕ) → IsOpcode w classes.Unary → (s : Option Ty) (x : ℕ) → ValueFits n x
      → Reads (terms.unary then Opt suffix then terms.value) (λ t. bare_inst (v.unary_value t)) (raw (raws.opcode w) s (operands.Unary (raws.value n x)))
      (Word w ▹ text.suffix_if s ▹ Nothing ▹ text.operands n (x ∷ []))
  unary_form w is s x h =
      means (λ (p : RawOpcode × (Option Ty × RawName)). raw p.0 p.1.0 (operands.Unary p.1.1))
      (seq (opcode_reads w classes.Unary is) (seq (opt_suffix_reads s) (gap (blank (then_nothing (val x h)))) (soft_then soft_nothing soft_space)) (soft_then (opt_suffix_soft s) (soft_then soft_nothing soft_space)))

  pub convert_form : (w : List ℕ) → IsOpcode w classes.Convert → (t : Ty) (x : ℕ) → ValueFits n x
      → Reads (terms.convert then suffix then terms.value) (λ t. bare_inst (v.convert_value t)) (raw (raws.opcode w) (Some t) (operands.Unary (raws.value n x)))
      (Word w ▹ text.suffix t ▹ Nothing ▹ text.operands n (x ∷ []))
  convert_form w is t x h =
      means (λ (p : RawOpcode × (Ty × RawName)). raw p.0 (Some p.1.0) (operands.Unary p.1.1))
      (seq (opcode_reads w classes.Convert is) (seq (suffix_reads t) (gap (blank (then_nothing (val x h)))) (soft_then soft_nothing soft_space)) (soft_then (suffix_soft t) (soft_then soft_nothing soft_space)))

  pub select_form : (w : List ℕ) → IsOpcode w classes.Select → (s : Option Ty) (c x y : ℕ) → ValueFits n c → ValueFits n x → ValueFits n y
      → Reads (terms.select then Opt suffix then terms.value then terms.comma then terms.value then terms.comma then terms.value) (λ t. bare_inst (v.select_value t))
      (raw (raws.opcode w) s (operands.Ternary (raws.value n c) (raws.value n x) (raws.value n y))) (Word w ▹ text.suffix_if s ▹ Nothing ▹ text.operands n (c ∷ x ∷ y ∷ []))
  select_form w is s c x y g h k =
      means (λ (p : RawOpcode × (Option Ty × (RawName × (RawName × RawName)))). raw p.0 p.1.0 (operands.Ternary p.1.1.0 p.1.1.1.0 p.1.1.1.1))
      (seq (opcode_reads w classes.Select is) (seq (opt_suffix_reads s) (gap (blank (seq (val c g) (comma_then (seq (val x h) (comma_then (then_nothing (val y k))) soft_comma)) soft_comma))) (soft_then soft_nothing soft_space)) (soft_then (opt_suffix_soft s) (soft_then soft_nothing soft_space)))

  pub icmp_form : (w : List ℕ) → IsOpcode w classes.Icmp → (s : Option Ty) (c : Cc) (x y : ℕ) → ValueFits n x → ValueFits n y
      → Reads (terms.icmp then Opt suffix then terms.condition then terms.value then terms.comma then terms.value) (λ t. bare_inst (v.icmp_value t))
      (raw (raws.opcode w) s (operands.Compare c (raws.value n x) (raws.value n y))) (Word w ▹ text.suffix_if s ▹ (space ▹ Word (condition_word c)) ▹ text.operands n (x ∷ y ∷ []))
  icmp_form w is s c x y h k =
      means (λ (p : RawOpcode × (Option Ty × (Cc × (RawName × RawName)))). raw p.0 p.1.0 (operands.Compare p.1.1.0 p.1.1.1.0 p.1.1.1.1))
      (seq (opcode_reads w classes.Icmp is) (seq (opt_suffix_reads s) (seq (blank (condition_reads c)) (blank (seq (val x h) (comma_then (then_nothing (val y k))) soft_comma)) soft_space) (soft_then soft_space soft_space)) (soft_then (opt_suffix_soft s) (soft_then soft_space soft_space)))

  pub binary_imm_form : (w : List ℕ) → IsOpcode w classes.BinaryImm → (s : Option Ty) (x : ℕ) → ValueFits n x → (z : ℤ) → is_64_bits z ≡ true
      → Reads (terms.binary_imm then Opt suffix then terms.value then terms.comma then number) (λ t. bare_inst (v.binary_imm_value t))
      (raw (raws.opcode w) s (operands.BinaryImm (raws.value n x) (raws.number z))) (Word w ▹ text.suffix_if s ▹ Nothing ▹ space ▹ text.value n x ▹ comma ▹ Signed z)
  binary_imm_form w is s x g z h =
      means (λ (p : RawOpcode × (Option Ty × (RawName × RawNumber))). raw p.0 p.1.0 (operands.BinaryImm p.1.1.0 p.1.1.1))
      (seq (opcode_reads w classes.BinaryImm is) (seq (opt_suffix_reads s) (gap (blank (seq (val x g) (comma_then (signed_reads z h)) soft_comma))) (soft_then soft_nothing soft_space)) (soft_then (opt_suffix_soft s) (soft_then soft_nothing soft_space)))

  pub icmp_imm_form : (w : List ℕ) → IsOpcode w classes.IcmpImm → (s : Option Ty) (c : Cc) (x : ℕ) → ValueFits n x → (z : ℤ) → is_64_bits z ≡ true
      → Reads (terms.icmp_imm then Opt suffix then terms.condition then terms.value then terms.comma then number) (λ t. bare_inst (v.icmp_imm_value t))
      (raw (raws.opcode w) s (operands.CompareImm c (raws.value n x) (raws.number z))) (Word w ▹ text.suffix_if s ▹ (space ▹ Word (condition_word c)) ▹ space ▹ text.value n x ▹ comma ▹ Signed z)
  icmp_imm_form w is s c x g z h =
      means (λ (p : RawOpcode × (Option Ty × (Cc × (RawName × RawNumber)))). raw p.0 p.1.0 (operands.CompareImm p.1.1.0 p.1.1.1.0 p.1.1.1.1))
      (seq (opcode_reads w classes.IcmpImm is) (seq (opt_suffix_reads s) (seq (blank (condition_reads c)) (blank (seq (val x g) (comma_then (signed_reads z h)) soft_comma)) soft_space) (soft_then soft_space soft_space)) (soft_then (opt_suffix_soft s) (soft_then soft_space soft_space)))

  -- ---- memory

  abbrev Offset : Type 0
  Offset = Option RawNumber

  address_reads : (p : ℕ) (o : ℤ) → ValueFits n p → is_64_bits o ≡ true → Reads address {A = RawName × Offset} (λ t. (named t.0, bare_option bare_number (offset_value t.1))) (raws.value n p, raws.offset o) (text.address n p o)
  address_reads p o g h = seq (val p g) (offset_reads o h) (offset_soft o)

  -- with a word of any kind for its opcode
  pub load_form : (w : Text) (word : List ℕ) → Reads terms.load opcode_named (raws.opcode word) w → (t : Ty) (f : Flags) (p : ℕ) (o : ℤ) → ValueFits n p → not (f.big && f.little) ≡ true → is_64_bits o ≡ true
      → Reads (terms.load then suffix then flags then address) (λ t. bare_inst (v.load_value t)) (raw (raws.opcode word) (Some t) (operands.Load (raws.flags f) (raws.value n p) (raws.offset o)))
      ((w ▹ text.suffix t) ▹ space ▹ text.flags f ▹ text.address n p o)
  load_form w word opcode t f p o g h k =
      means (λ (q : RawOpcode × (Ty × (List RawFlag × (RawName × Offset)))). raw q.0 (Some q.1.0) (operands.Load q.1.1.0 q.1.1.1.0 q.1.1.1.1))
      (seq_three opcode (suffix_reads t) (blank (closed_seq (flags_read f h) (address_reads p o g k))) (suffix_soft t) soft_space)

  pub load_wide_form : (w : Text) (word : List ℕ) → Reads terms.load_wide opcode_named (raws.opcode word) w → (s : Option Ty) (f : Flags) (p : ℕ) (o : ℤ) → ValueFits n p → not (f.big && f.little) ≡ true → is_64_bits o ≡ true
      → Reads (terms.load_wide then Opt suffix then flags then address) (λ t. bare_inst (v.load_wide_value t)) (raw (raws.opcode word) s (operands.Load (raws.flags f) (raws.value n p) (raws.offset o)))
      ((w ▹ text.suffix_if s) ▹ space ▹ text.flags f ▹ text.address n p o)
  load_wide_form w word opcode s f p o g h k =
      means (λ (q : RawOpcode × (Option Ty × (List RawFlag × (RawName × Offset)))). raw q.0 q.1.0 (operands.Load q.1.1.0 q.1.1.1.0 q.1.1.1.1))
      (seq_three opcode (opt_suffix_reads s) (blank (closed_seq (flags_read f h) (address_reads p o g k))) (opt_suffix_soft s) soft_space)

  pub store_form : (w : Text) (word : List ℕ) → Reads terms.store opcode_named (raws.opcode word) w → (s : Option Ty) (f : Flags) (x p : ℕ) (o : ℤ) → ValueFits n x → ValueFits n p → not (f.big && f.little) ≡ true → is_64_bits o ≡ true
      → Reads (terms.store then Opt suffix then flags then terms.value then terms.comma then address) (λ t. bare_inst (v.store_value t))
      (raw (raws.opcode word) s (operands.Store (raws.flags f) (raws.value n x) (raws.value n p) (raws.offset o))) (w ▹ text.suffix_if s ▹ space ▹ text.flags f ▹ text.value n x ▹ comma ▹ text.address n p o)
  store_form w word opcode s f x p o v g h k =
      means (λ (q : RawOpcode × (Option Ty × (List RawFlag × (RawName × (RawName × Offset))))). raw q.0 q.1.0 (operands.Store q.1.1.0 q.1.1.1.0 q.1.1.1.1.0 q.1.1.1.1.1))
      (seq opcode (seq (opt_suffix_reads s) (blank (closed_seq (flags_read f h) (seq (val x v) (comma_then (address_reads p o g k)) soft_comma))) soft_space) (soft_then (opt_suffix_soft s) soft_space))

  slot_address_reads : (slot : ℕ) (o : ℤ) → slot < 2 ^ 64 → is_64_bits o ≡ true → Reads slot_address {A = RawName × Offset} (λ t. (named t.0, bare_option bare_number (offset_value t.1))) (raws.entity slot, raws.offset o) (text.slot_address slot o)
  slot_address_reads slot o lt h = seq (entity_reads (codes "ss") classes.Slot slot slot_stem refl lt) (offset_reads o h) (offset_soft o)

  pub stack_load_form : (w : List ℕ) → IsOpcode w classes.StackLoad → (t : Ty) (slot : ℕ) (o : ℤ) → slot < 2 ^ 64 → is_64_bits o ≡ true
      → Reads (terms.stack_load then suffix then slot_address) (λ t. bare_inst (v.stack_load_value t)) (raw (raws.opcode w) (Some t) (operands.StackLoad (raws.entity slot) (raws.offset o))) (Word w ▹ text.suffix t ▹ space ▹ text.slot_address slot o)
  stack_load_form w is t slot o lt h =
      means (λ (q : RawOpcode × (Ty × (RawName × Offset))). raw q.0 (Some q.1.0) (operands.StackLoad q.1.1.0 q.1.1.1))
      (seq (opcode_reads w classes.StackLoad is) (seq (suffix_reads t) (blank (slot_address_reads slot o lt h)) soft_space) (soft_then (suffix_soft t) soft_space))

  pub stack_store_form : (w : List ℕ) → IsOpcode w classes.StackStore → (s : Option Ty) (x slot : ℕ) (o : ℤ) → ValueFits n x → slot < 2 ^ 64 → is_64_bits o ≡ true
      → Reads (terms.stack_store then Opt suffix then terms.value then terms.comma then slot_address) (λ t. bare_inst (v.stack_store_value t)) (raw (raws.opcode w) s (operands.StackStore (raws.value n x) (raws.entity slot) (raws.offset o)))
      (Word w ▹ text.suffix_if s ▹ space ▹ text.value n x ▹ comma ▹ text.slot_address slot o)
  stack_store_form w is s x slot o v lt h =
      means (λ (q : RawOpcode × (Option Ty × (RawName × (RawName × Offset)))). raw q.0 q.1.0 (operands.StackStore q.1.1.0 q.1.1.1.0 q.1.1.1.1))
      (seq (opcode_reads w classes.StackStore is) (seq (opt_suffix_reads s) (blank (seq (val x v) (comma_then (slot_address_reads slot o lt h)) soft_comma)) soft_space) (soft_then (opt_suffix_soft s) soft_space))

  i64_reads : Reads suffix_i64 (λ t. says_no_more t.1) tt (text.suffix I64)
  unfolding word_meaning all_words
  i64_reads = mark_then classes.Dot 46 refl refl (left says_no_more (word_says classes.TyI64 (codes "i64") number_says_no_more tt refl refl refl))

  pub func_addr_form : (w : List ℕ) → IsOpcode w classes.FuncAddr → (callee : ℕ) → callee < 2 ^ 64
      → Reads (terms.func_addr then suffix_i64 then terms.callee) (λ t. bare_inst (v.func_addr_value t)) (raw (raws.opcode w) None (operands.FuncAddr (raws.entity callee))) (Word w ▹ text.suffix I64 ▹ space ▹ text.callee_reference callee)
  func_addr_form w is callee lt =
      means (λ (q : RawOpcode × (Unit {0} × RawName)). raw q.0 None (operands.FuncAddr q.1.1))
      (seq (opcode_reads w classes.FuncAddr is) (seq i64_reads (blank (entity_reads (codes "fn") classes.Callee callee callee_stem refl lt)) soft_space) (soft_then (suffix_soft I64) soft_space))

  -- ---- ends and branches

  pub trap_if_form : (w : List ℕ) → IsOpcode w classes.TrapIf → (s : Option Ty) (x : ℕ) (c : TrapCode) → ValueFits n x → CodeWritable c
      → Reads (terms.trap_if then Opt suffix then terms.value then terms.comma then any_trap) (λ t. bare_inst (v.trap_if_value t)) (raw (raws.opcode w) s (operands.TrapIf (raws.value n x) (raws.trap_code c)))
      (Word w ▹ text.suffix_if s ▹ space ▹ text.value n x ▹ comma ▹ text.trap_code c)
  trap_if_form w is s x c v h =
      means (λ (q : RawOpcode × (Option Ty × (RawName × RawTrap))). raw q.0 q.1.0 (operands.TrapIf q.1.1.0 q.1.1.1))
      (seq (opcode_reads w classes.TrapIf is) (seq (opt_suffix_reads s) (blank (seq (val x v) (comma_then (trap_reads c h)) soft_comma)) soft_space) (soft_then (opt_suffix_soft s) soft_space))

  pub jump_form : (w : List ℕ) → IsOpcode w classes.Jump → (t : BlockCall) → TargetReads n ValueArg t
      → Reads (terms.jump then target) (λ t. bare_inst (v.jump_value t)) (raw (raws.opcode w) None (operands.Jump (raws.target n t))) (Word w ▹ space ▹ text.target n t)
  jump_form w is t h = means (λ (q : RawOpcode × RawTarget). raw q.0 None (operands.Jump q.1)) (seq (opcode_reads w classes.Jump is) (blank (branch_reads n t h)) soft_space)

  pub brif_form : (w : List ℕ) → IsOpcode w classes.Brif → (s : Option Ty) (x : ℕ) (t u : BlockCall) → ValueFits n x → TargetReads n ValueArg t → TargetReads n ValueArg u
      → Reads (terms.brif then Opt suffix then terms.value then terms.comma then target then terms.comma then target) (λ t. bare_inst (v.brif_value t)) (raw (raws.opcode w) s (operands.Brif (raws.value n x) (raws.target n t) (raws.target n u)))
      (Word w ▹ text.suffix_if s ▹ space ▹ text.value n x ▹ comma ▹ text.target n t ▹ comma ▹ text.target n u)
  brif_form w is s x t u v h k =
      means (λ (q : RawOpcode × (Option Ty × (RawName × (RawTarget × RawTarget)))). raw q.0 q.1.0 (operands.Brif q.1.1.0 q.1.1.1.0 q.1.1.1.1))
      (seq (opcode_reads w classes.Brif is) (seq (opt_suffix_reads s) (blank (seq (val x v) (comma_then (seq (branch_reads n t h) (comma_then (branch_reads n u k)) soft_comma)) soft_comma)) soft_space) (soft_then (opt_suffix_soft s) soft_space))

  pub br_table_form : (w : List ℕ) → IsOpcode w classes.BrTable → (x : ℕ) (t : BlockCall) (ts : List BlockCall) → ValueFits n x → TargetReads n ValueArg t → Each (TargetReads n ValueArg) ts
      → Reads (terms.br_table then terms.value then terms.comma then target then terms.comma then target_list) (λ t. bare_inst (v.br_table_value t)) (raw (raws.opcode w) None (operands.BrTable (raws.value n x) (raws.target n t) (map (raws.target n) ts)))
      (Word w ▹ space ▹ text.value n x ▹ comma ▹ text.target n t ▹ comma ▹ in_brackets (separated (text.target n) ts))
  br_table_form w is x t ts v h k =
      means (λ (q : RawOpcode × (RawName × (RawTarget × List RawTarget))). raw q.0 None (operands.BrTable q.1.0 q.1.1.0 q.1.1.1))
      (seq (opcode_reads w classes.BrTable is) (blank (seq (val x v) (comma_then (seq (branch_reads n t h) (comma_then (target_list_reads n ts k)) soft_comma)) soft_comma)) soft_space)

  -- ---- calls

  args_soft : (vs : List ℕ) → Soft (text.call_arguments n vs)
  args_soft vs = record { so = λ b h. refl }

  pub call_form : (w : List ℕ) → IsOpcode w classes.Call → (callee : ℕ) (vs : List ℕ) → Each (ValueFits n) vs → callee < 2 ^ 64
      → Reads (terms.call then terms.callee then args) (λ t. bare_inst (v.call_value t)) (raw (raws.opcode w) None (operands.Call (raws.entity callee) (raws.values n vs))) (Word w ▹ space ▹ text.callee_reference callee ▹ text.call_arguments n vs)
  call_form w is callee vs a lt =
      means (λ (q : RawOpcode × (RawName × List RawName)). raw q.0 None (operands.Call q.1.0 q.1.1))
      (seq (opcode_reads w classes.Call is) (blank (seq (entity_reads (codes "fn") classes.Callee callee callee_stem refl lt) (args_reads n vs a) (args_soft vs))) soft_space)

  pub call_indirect_form : (w : List ℕ) → IsOpcode w classes.CallIndirect → (sig p : ℕ) (vs : List ℕ) → ValueFits n p → Each (ValueFits n) vs → sig < 2 ^ 64
      → Reads (terms.call_indirect then Opt suffix_i64 then terms.sig then terms.comma then terms.value then args) (λ t. bare_inst (v.call_indirect_value t)) (raw (raws.opcode w) None (operands.CallIndirect (raws.entity sig) (raws.value n p) (raws.values n vs)))
      (Word w ▹ space ▹ text.signature_reference sig ▹ comma ▹ text.value n p ▹ text.call_arguments n vs)
  call_indirect_form w is sig p vs v a lt =
      means (λ (q : RawOpcode × (RawName × (RawName × List RawName))). raw q.0 None (operands.CallIndirect q.1.0 q.1.1.0 q.1.1.1))
      (seq (opcode_reads w classes.CallIndirect is) (skip suffix_i64 (blank (seq (entity_reads (codes "sig") classes.Sig sig sig_stem refl lt) (comma_then (seq (val p v) (args_reads n vs a) (args_soft vs))) soft_comma))) soft_space)

  pub try_call_form : (w : List ℕ) → IsOpcode w classes.TryCall → (callee sig : ℕ) (vs : List ℕ) (t : BlockCall) (es : List (Entry BlockCall)) → Each (ValueFits n) vs → callee < 2 ^ 64 → sig < 2 ^ 64 → TargetReads n NormalArg t → Each (EntryReads n) es
      → Reads (terms.try_call then terms.callee then args then terms.comma then terms.sig then terms.comma then normal_target then terms.comma then table) (λ t. bare_inst (v.try_call_value t))
      (raw (raws.opcode w) None (operands.TryCall (raws.entity callee) (raws.values n vs) (raws.entity sig) (raws.target n t) (map (raws.entry n) es)))
      (Word w ▹ space ▹ (text.callee_reference callee ▹ text.call_arguments n vs) ▹ comma ▹ text.signature_reference sig ▹ comma ▹ text.target n t ▹ comma ▹ text.exception_table n es)
  try_call_form w is callee sig vs t es a lt ls h k =
      means (λ (q : RawOpcode × (RawName × (List RawName × (RawName × (RawTarget × List RawEntry))))). raw q.0 None (operands.TryCall q.1.0 q.1.1.0 q.1.1.1.0 q.1.1.1.1.0 q.1.1.1.1.1))
      (seq (opcode_reads w classes.TryCall is)
      (blank (seq_three (entity_reads (codes "fn") classes.Callee callee callee_stem refl lt) (args_reads n vs a)
      (comma_then (seq (entity_reads (codes "sig") classes.Sig sig sig_stem refl ls) (comma_then (seq (normal_reads n t h) (comma_then (table_reads n es k)) soft_comma)) soft_comma)) (args_soft vs) soft_comma)) soft_space)

  pub try_call_indirect_form : (w : List ℕ) → IsOpcode w classes.TryCallIndirect → (p sig : ℕ) (vs : List ℕ) (t : BlockCall) (es : List (Entry BlockCall)) → ValueFits n p → Each (ValueFits n) vs → sig < 2 ^ 64 → TargetReads n NormalArg t → Each (EntryReads n) es
      → Reads (terms.try_call_indirect then Opt suffix_i64 then terms.value then args then terms.comma then terms.sig then terms.comma then normal_target then terms.comma then table) (λ t. bare_inst (v.try_call_indirect_value t))
      (raw (raws.opcode w) None (operands.TryCallIndirect (raws.value n p) (raws.values n vs) (raws.entity sig) (raws.target n t) (map (raws.entry n) es)))
      (Word w ▹ space ▹ (text.value n p ▹ text.call_arguments n vs) ▹ comma ▹ text.signature_reference sig ▹ comma ▹ text.target n t ▹ comma ▹ text.exception_table n es)
  try_call_indirect_form w is p sig vs t es v a ls h k =
      means (λ (q : RawOpcode × (RawName × (List RawName × (RawName × (RawTarget × List RawEntry))))). raw q.0 None (operands.TryCallIndirect q.1.0 q.1.1.0 q.1.1.1.0 q.1.1.1.1.0 q.1.1.1.1.1))
      (seq (opcode_reads w classes.TryCallIndirect is) (skip suffix_i64
      (blank (seq_three (val p v) (args_reads n vs a)
      (comma_then (seq (entity_reads (codes "sig") classes.Sig sig sig_stem refl ls) (comma_then (seq (normal_reads n t h) (comma_then (table_reads n es k)) soft_comma)) soft_comma)) (args_soft vs) soft_comma))) soft_space)

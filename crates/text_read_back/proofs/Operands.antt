-- The operands of instructions, each read as what it says.
use Rattle.std.proofs.Common.{ℕ, List, [], ◌∷◌, map, Option, Some, None, refl, arith, inr}
use Rattle.std.specs.Prelude.{codes}
use Rattle.std.proofs.lemmas.List.{append-nil}
use Rattle.grammar.specs.Rules.{Rule, Opt, Tree}
use Rattle.clk_num.specs.declared.op.Cc.{Cc}
use Rattle.clk_num.specs.declared.op.Cc.TheVariants as cc_words
use Rattle.clk_num.specs.declared.op.TrapCode.{TrapCode}
use Rattle.clk_num.specs.declared.op.TrapCode.TheVariants as trap
use Rattle.exn_tables.specs.declared.table.Entry.{Entry}
use Rattle.ir_core.specs.declared.instructions.Arg.{Arg}
use Rattle.ir_core.specs.declared.instructions.Arg.TheVariants as arg
use Rattle.ir_core.specs.declared.instructions.BlockCall.{BlockCall}
use Rattle.ir_core.specs.Lists.{Each}
use Rattle.ir_core.specs.Lookup.{number_in}
use Rattle.ir_text.specs.Numbering.{Numbering}
use Rattle.ir_text.specs.TextTree.{Text, Word, Mark, ◌▹◌, space, separated}
use Rattle.ir_text.specs.TextInstructions as text
use Rattle.ir_text.specs.Words.{condition_word}
use Rattle.ir_text.specs.Writable.{CodeWritable, EntryTagWritable, ValueArg, NormalArg, TableArg}
use Rattle.clif_words.specs.declared.class.Class.TheVariants as classes
use Rattle.clif_words.specs.Table.{all_words}
use Rattle.clif_words.specs.Terminals.{◌or◌, one, condition, value, ret, exn, left_paren, right_paren, ◌then◌}
use Rattle.clif_words.specs.Words.{word_meaning}
use Rattle.token_reader.specs.declared.raw.RawName.{RawName}
use Rattle.clif_insts.specs.declared.raw.RawArg.{RawArg}
use Rattle.clif_insts.specs.declared.raw.RawArg.TheVariants as raw_args
use Rattle.clif_insts.specs.declared.raw.RawTarget.{RawTarget}
use Rattle.clif_insts.specs.declared.raw.RawEntry.{RawEntry}
use Rattle.clif_insts.specs.declared.raw.RawTrap.{RawTrap}
use Rattle.clif_insts.specs.declared.raw.RawTrap.TheVariants as raw_traps
use Rattle.clif_insts.specs.Codes.{condition_of, trap_of}
use Rattle.token_reader.specs.Grammar.{commas}
use Rattle.clif_insts.specs.Grammar.{any_trap, call_to, target, normal_target, handler, target_list, entry_name, entry, table, args}
use Rattle.token_reader.specs.Reading.{name}
use Rattle.token_reader.specs.Values.{perhaps, ◌otherwise◌, commas_value}
use Rattle.clif_insts.specs.Values.{condition_value, trap_value, args_value, value_arg, target_value, branch_value, normal_value, handler_value, target_list_value, entry_name_value, entry_value, table_value}
use Rattle.text_read_back.specs.Bare.{bare_name, bare_option, bare_arg, bare_target, bare_entry, bare_trap}
use Rattle.text_read_back.specs.RawOf as raws
use Rattle.text_read_back.proofs.Spellable.{ValueFits, BlockFits, ArgReads, TargetReads, EntryReads}
use Rattle.text_read_back.proofs.Told.{s_at, told_as, Reads, Soft, AllRead, seq, means, blank, left, right, some, none, mark_then, then_mark, soft_nothing, soft_mark}
use Rattle.text_read_back.proofs.Stems.{value_stem, block_stem, tag_stem, ret_stem, exn_stem, user_trap_stem}
use Rattle.text_read_back.proofs.Terms.{named, word_says, entity_reads, list_reads}

-- ---- conditions and trap codes

pub condition_reads : (c : Cc) → Reads condition condition_value c (Word (condition_word c))
unfolding word_meaning all_words
condition_reads cc_words.Eq = word_says classes.Condition (codes "eq") condition_of cc_words.Eq refl refl refl
condition_reads cc_words.Ne = word_says classes.Condition (codes "ne") condition_of cc_words.Ne refl refl refl
condition_reads cc_words.Slt = word_says classes.Condition (codes "slt") condition_of cc_words.Slt refl refl refl
condition_reads cc_words.Sge = word_says classes.Condition (codes "sge") condition_of cc_words.Sge refl refl refl
condition_reads cc_words.Sgt = word_says classes.Condition (codes "sgt") condition_of cc_words.Sgt refl refl refl
condition_reads cc_words.Sle = word_says classes.Condition (codes "sle") condition_of cc_words.Sle refl refl refl
condition_reads cc_words.Ult = word_says classes.Condition (codes "ult") condition_of cc_words.Ult refl refl refl
condition_reads cc_words.Uge = word_says classes.Condition (codes "uge") condition_of cc_words.Uge refl refl refl
condition_reads cc_words.Ugt = word_says classes.Condition (codes "ugt") condition_of cc_words.Ugt refl refl refl
condition_reads cc_words.Ule = word_says classes.Condition (codes "ule") condition_of cc_words.Ule refl refl refl

abbrev trap_says : Tree any_trap → RawTrap
trap_says v = bare_trap (trap_value v)

abbrev code_says : ℕ → RawTrap
code_says n = bare_trap (trap_of n)

pub trap_reads : (code : TrapCode) → CodeWritable code → Reads any_trap (λ v. bare_trap (trap_value v)) (raws.trap_code code) (text.trap_code code)
unfolding word_meaning all_words
trap_reads trap.StkOvf h = left trap_says (word_says classes.TrapCode (codes "stk_ovf") code_says raw_traps.StkOvf refl refl refl)
trap_reads trap.IntOvf h = left trap_says (word_says classes.TrapCode (codes "int_ovf") code_says raw_traps.IntOvf refl refl refl)
trap_reads trap.HeapOob h = left trap_says (word_says classes.TrapCode (codes "heap_oob") code_says raw_traps.HeapOob refl refl refl)
trap_reads trap.IntDivz h = left trap_says (word_says classes.TrapCode (codes "int_divz") code_says raw_traps.IntDivz refl refl refl)
trap_reads trap.BadToint h = left trap_says (word_says classes.TrapCode (codes "bad_toint") code_says raw_traps.BadToint refl refl refl)
trap_reads (trap.User n) h = right trap_says (means (λ (x : RawName). raw_traps.User x) (entity_reads (codes "user") classes.UserTrap n user_trap_stem refl (omega arith)))

-- ---- lists

pub all_read : {X A : Type 0} (r : Rule) (f : Tree r → A) (s : X → Text) (say : X → A) → ((x : X) → Reads r f (say x) (s x)) → (xs : List X) → AllRead r f s say xs
all_read r f s say each [] = tt
all_read r f s say each (x ∷ xs) = (each x, all_read r f s say each xs)

pub all_read_where : {X A : Type 0} (P : X → Type 0) (r : Rule) (f : Tree r → A) (s : X → Text) (say : X → A) → ((x : X) → P x → Reads r f (say x) (s x)) → (xs : List X) → Each P xs → AllRead r f s say xs
all_read_where P r f s say each [] h = tt
all_read_where P r f s say each (x ∷ xs) h = (each x h.0, all_read_where P r f s say each xs h.1)

-- a list, or nothing
pub opt_list_reads : {X A B : Type 0} (r : Rule) (f : Tree r → A) (h : A → B) (s : X → Text) (say : X → B) (xs : List X) → AllRead r (λ v. h (f v)) s say xs
    → Reads (Opt (commas r)) (λ o. map h (perhaps [] (commas_value r f) o)) (map say xs) (separated s xs)
opt_list_reads {X} {A} {B} r f h s say [] all = none (commas r) (λ o. map h (perhaps [] (commas_value r f) o))
opt_list_reads {X} {A} {B} r f h s say (x ∷ xs) all = some (λ o. map h (perhaps [] (commas_value r f) o)) (list_reads r f h s say x xs all)

-- blanks behind a text
pub trailing : {r : Rule} {A : Type 0} {f : Tree r → A} {x : A} {t : Text} → Reads r f x t → Reads r f x (t ▹ space)
trailing {r} {A} {f} {x} {t} p = record {
  clear = λ b h. rw (p.clear 32 refl) refl;
  told = λ at. told_as (append-nil (s_at at t)) (p.told at);
}

-- ---- values and blocks

module _ (n : Numbering) where
  pub value_reads : (v : ℕ) → ValueFits n v → Reads value named (raws.value n v) (text.value n v)
  value_reads v h = entity_reads (codes "v") classes.Value (number_in n.values v) value_stem refl h

  pub block_reads : (b : ℕ) → BlockFits n b → Reads (one classes.Block) named (raws.entity (number_in n.blocks b)) (text.block_reference n b)
  block_reads b h = entity_reads (codes "block") classes.Block (number_in n.blocks b) block_stem refl h

  pub values_read : (vs : List ℕ) → Each (ValueFits n) vs → AllRead value named (text.value n) (raws.value n) vs
  values_read vs h = all_read_where (ValueFits n) value named (text.value n) (raws.value n) value_reads vs h

  pub args_reads : (vs : List ℕ) → Each (ValueFits n) vs → Reads args (λ v. map bare_name (args_value v)) (raws.values n vs) (text.call_arguments n vs)
  args_reads vs h = mark_then classes.LeftParen 40 refl refl (then_mark classes.RightParen 41 refl refl refl (opt_list_reads value name bare_name (text.value n) (raws.value n) vs (values_read vs h)))

  -- ---- targets

  abbrev arguments_value : (a : Rule) → (Tree a → RawArg) → Tree (Opt (left_paren then Opt (commas a) then right_paren)) → List RawArg
  arguments_value a f o = map bare_arg (perhaps [] (λ w. perhaps [] (commas_value a f) w.1.0) o)

  arguments_read : (a : Rule) (f : Tree a → RawArg) (as' : List Arg) → AllRead a (λ v. bare_arg (f v)) (text.argument n) (raws.argument n) as'
      → Reads (Opt (left_paren then Opt (commas a) then right_paren)) (arguments_value a f) (map (raws.argument n) as') (text.target_arguments n as')
  arguments_read a f [] all = none (left_paren then Opt (commas a) then right_paren) (arguments_value a f)
  arguments_read a f (x ∷ xs) all =
      some (arguments_value a f) (mark_then classes.LeftParen 40 refl refl (then_mark classes.RightParen 41 refl refl refl (opt_list_reads a f bare_arg (text.argument n) (raws.argument n) (x ∷ xs) all)))

  arguments_soft : (as' : List Arg) → Soft (text.target_arguments n as')
  arguments_soft [] = soft_nothing
  arguments_soft (x ∷ xs) = record { so = λ b h. refl }

  to_reads : (a : Rule) (f : Tree a → RawArg) (t : BlockCall) → BlockFits n t.block → AllRead a (λ v. bare_arg (f v)) (text.argument n) (raws.argument n) t.args
      → Reads (call_to a) (λ v. bare_target (target_value a f v)) (raws.target n t) (text.target n t)
  to_reads a f t h all =
      means (λ (p : RawName × List RawArg). (let r : RawTarget = record { block = p.0; args = p.1 } in r)) (seq (block_reads t.block h) (arguments_read a f t.args all) (arguments_soft t.args))

  value_arg_reads : (x : Arg) → ArgReads n ValueArg x → Reads value (λ v. bare_arg (value_arg v)) (raws.argument n x) (text.argument n x)
  value_arg_reads (arg.Value v) h = means (λ (x : RawName). raw_args.Value x) (value_reads v h.1)
  value_arg_reads (arg.Ret k) h = absurd h.0
  value_arg_reads (arg.Exn k) h = absurd h.0

  abbrev normal_arg : Tree (value or ret) → RawArg
  normal_arg = value_arg otherwise (λ x. raw_args.Ret (name x))

  normal_arg_reads : (x : Arg) → ArgReads n NormalArg x → Reads (value or ret) (λ v. bare_arg (normal_arg v)) (raws.argument n x) (text.argument n x)
  normal_arg_reads (arg.Value v) h = left (λ w. bare_arg (normal_arg w)) (means (λ (x : RawName). raw_args.Value x) (value_reads v h.1))
  normal_arg_reads (arg.Ret k) h = right (λ w. bare_arg (normal_arg w)) (means (λ (x : RawName). raw_args.Ret x) (entity_reads (codes "ret") classes.Ret k ret_stem refl (let s = h.0 in omega arith)))
  normal_arg_reads (arg.Exn k) h = absurd h.0

  abbrev handler_arg : Tree (value or exn) → RawArg
  handler_arg = value_arg otherwise (λ x. raw_args.Exn (name x))

  handler_arg_reads : (x : Arg) → ArgReads n TableArg x → Reads (value or exn) (λ v. bare_arg (handler_arg v)) (raws.argument n x) (text.argument n x)
  handler_arg_reads (arg.Value v) h = left (λ w. bare_arg (handler_arg w)) (means (λ (x : RawName). raw_args.Value x) (value_reads v h.1))
  handler_arg_reads (arg.Ret k) h = absurd h.0
  handler_arg_reads (arg.Exn k) h = right (λ w. bare_arg (handler_arg w)) (means (λ (x : RawName). raw_args.Exn x) (entity_reads (codes "exn") classes.Exn k exn_stem refl (let s = h.0 in omega arith)))

  pub branch_reads : (t : BlockCall) → TargetReads n ValueArg t → Reads target (λ v. bare_target (branch_value v)) (raws.target n t) (text.target n t)
  branch_reads t h = to_reads value value_arg t h.0 (all_read_where (ArgReads n ValueArg) value (λ v. bare_arg (value_arg v)) (text.argument n) (raws.argument n) value_arg_reads t.args h.1)

  pub normal_reads : (t : BlockCall) → TargetReads n NormalArg t → Reads normal_target (λ v. bare_target (normal_value v)) (raws.target n t) (text.target n t)
  normal_reads t h = to_reads (value or ret) normal_arg t h.0 (all_read_where (ArgReads n NormalArg) (value or ret) (λ v. bare_arg (normal_arg v)) (text.argument n) (raws.argument n) normal_arg_reads t.args h.1)

  handler_reads : (t : BlockCall) → TargetReads n TableArg t → Reads handler (λ v. bare_target (handler_value v)) (raws.target n t) (text.target n t)
  handler_reads t h = to_reads (value or exn) handler_arg t h.0 (all_read_where (ArgReads n TableArg) (value or exn) (λ v. bare_arg (handler_arg v)) (text.argument n) (raws.argument n) handler_arg_reads t.args h.1)

  pub target_list_reads : (ts : List BlockCall) → Each (TargetReads n ValueArg) ts → Reads target_list (λ v. map bare_target (target_list_value v)) (map (raws.target n) ts) (Mark 91 ▹ separated (text.target n) ts ▹ Mark 93)
  target_list_reads ts h =
      mark_then classes.LeftBracket 91 refl refl (then_mark classes.RightBracket 93 refl refl refl
      (opt_list_reads target branch_value bare_target (text.target n) (raws.target n) ts (all_read_where (TargetReads n ValueArg) target (λ v. bare_target (branch_value v)) (text.target n) (raws.target n) branch_reads ts h)))

  -- ---- exception tables

  abbrev entry_name_says : Tree entry_name → Option RawName
  entry_name_says v = bare_option bare_name (entry_name_value v)

  entry_name_reads : (t : Option ℕ) → EntryTagWritable t → Reads entry_name (λ v. bare_option bare_name (entry_name_value v)) (raws.entry_tag t) (text.entry_tag t)
  unfolding word_meaning all_words
  entry_name_reads None h = right entry_name_says (left (λ v. entry_name_says (inr v)) (word_says classes.Default (codes "default") (λ k. (let o : Option RawName = None in o)) None refl refl refl))
  entry_name_reads (Some k) h = left entry_name_says (means (λ (x : RawName). (let o : Option RawName = Some x in o)) (entity_reads (codes "tag") classes.Tag k tag_stem refl (omega arith)))

  entry_reads : (e : Entry BlockCall) → EntryReads n e → Reads entry (λ v. bare_entry (entry_value v)) (raws.entry n e) (text.entry n e)
  entry_reads e h =
      means (λ (p : Option RawName × RawTarget). (let r : RawEntry = record { tag = p.0; target = p.1 } in r))
      (seq (entry_name_reads e.tag h.0) (mark_then classes.Colon 58 refl refl (blank (handler_reads e.target h.1))) (soft_mark 58 (space ▹ text.target n e.target) refl))

  pub table_reads : (es : List (Entry BlockCall)) → Each (EntryReads n) es → Reads table (λ v. map bare_entry (table_value v)) (map (raws.entry n) es) (text.exception_table n es)
  table_reads [] h = mark_then classes.LeftBracket 91 refl refl (then_mark classes.RightBracket 93 refl refl refl (none (commas entry) (λ o. map bare_entry (perhaps [] (commas_value entry entry_value) o))))
  table_reads (e ∷ es) h =
      mark_then classes.LeftBracket 91 refl refl (then_mark classes.RightBracket 93 refl refl refl
      (blank (trailing (opt_list_reads entry entry_value bare_entry (text.entry n) (raws.entry n) (e ∷ es) (all_read_where (EntryReads n) entry (λ v. bare_entry (entry_value v)) (text.entry n) (raws.entry n) entry_reads (e ∷ es) h)))))

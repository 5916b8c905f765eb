-- The marks of an instruction are taken from its tokens, one lemma a form.
use Rattle.std.proofs.Common.{◌≡◌, ℕ, ◌==◌, Bool, true, false, cond, List, [], ◌∷◌, Option, Some, None, refl, sym, inl, inr}
use Rattle.std.specs.Prelude.{◌⊎◌}
use Rattle.grammar.specs.Rules.{Lexeme, Rule, Opt, Tree}
use Rattle.clif_words.specs.declared.class.Class.{Class}
use Rattle.clif_words.specs.declared.class.Class.TheVariants as classes
use Rattle.clif_words.specs.Terminals.{◌then◌, ◌or◌, value, ret, exn, signed, comma, trap_code, default_word, condition, slot, sig, callee, iconst, binary, unary, icmp, select, convert, binary_imm, icmp_imm, load, load_wide, store, stack_load, stack_store, func_addr, nullary, jump, brif, br_table, return_word, trap, trap_if, call, try_call, call_indirect, try_call_indirect}
use Rattle.clif_insts.specs.declared.raw.RawArg.{RawArg}
use Rattle.clif_insts.specs.declared.raw.RawArg.TheVariants as arg
use Rattle.clif_insts.specs.declared.raw.RawInst.{RawInst}
use Rattle.clif_insts.specs.declared.raw.RawTrap.{RawTrap}
use Rattle.clif_insts.specs.declared.raw.RawTrap.TheVariants as traps
use Rattle.token_reader.specs.Grammar.{commas, number, suffix, suffix_i64}
use Rattle.clif_insts.specs.Grammar.{any_trap, flags, call_to, target, normal_target, handler, entry_name, entry, table, args, target_list, inst, return_values, whole_inst}
use Rattle.token_reader.specs.Reading.{name, amount}
use Rattle.clif_insts.specs.Codes.{trap_of}
use Rattle.token_reader.specs.Values.{◌otherwise◌, either, never, perhaps, commas_value, number_value, offset_value}
use Rattle.clif_insts.specs.Values.{trap_value, args_value, value_arg, target_value, branch_value, normal_value, handler_value, target_list_value, entry_name_value, entry_value, table_value}
use Rattle.clif_insts.specs.InstValues.{iconst_value, binary_value, unary_value, icmp_value, select_value, convert_value, binary_imm_value, icmp_imm_value, load_value, load_wide_value, store_value, stack_load_value, stack_store_value, func_addr_value, nullary_value, jump_value, brif_value, br_table_value, return_inst_value, trap_inst_value, trap_if_value, call_value, try_call_value, call_indirect_value, try_call_indirect_value, inst_value, return_values_value, whole_value}
use Rattle.clif_insts.specs.Marks.{Word, Number, name_marks, names_marks, number_marks, offset_marks, arg_marks, target_marks, targets_marks, entry_tag_marks, entry_marks, table_marks, trap_marks, inst_marks}
use Rattle.clif_insts.proofs.Marked.{Marked, marked_same, unmarked, word_marked, opcode_marked, amount_marked, both_marked, second_marked, either_marked, refused_marked, perhaps_marked, commas_marked, perhaps_list, within_marked}

-- ---- parts

pub number_marked : Marked number (λ v. number_marks (number_value v))
number_marked = marked_same (either_marked (amount_marked classes.Unsigned) (amount_marked classes.Signed)) same
  where
    same : (v : Lexeme ⊎ Lexeme) → either (λ x. Number (amount x) ∷ []) (λ x. Number (amount x) ∷ []) v ≡ number_marks (number_value v)
    same (inl x) = refl
    same (inr x) = refl

offset_marked : Marked (Opt signed) (λ v. offset_marks (offset_value v))
offset_marked = marked_same (perhaps_marked (amount_marked classes.Signed)) same
  where
    same : (v : Option Lexeme) → perhaps [] (λ x. Number (amount x) ∷ []) v ≡ offset_marks (offset_value v)
    same None = refl
    same (Some x) = refl

pub values_marked : Marked (commas value) (λ v. names_marks (commas_value value name v))
values_marked = commas_marked name name_marks (word_marked classes.Value)

args_marked : Marked args (λ v. names_marks (args_value v))
args_marked = within_marked classes.LeftParen classes.RightParen (commas_value value name) name_marks values_marked

plain_trap : (n : ℕ) → trap_marks (trap_of n) ≡ []
plain_trap n =
    pick (n == 0) traps.StkOvf _ refl
    (pick (n == 1) traps.IntOvf _ refl
    (pick (n == 2) traps.HeapOob _ refl
    (pick (n == 3) traps.IntDivz traps.BadToint refl refl)))
  where
    pick : (b : Bool) (s t : RawTrap) → trap_marks s ≡ [] → trap_marks t ≡ [] → trap_marks (cond b s t) ≡ []
    pick true s t p q = p
    pick false s t p q = q

trap_code_marked : Marked any_trap (λ v. trap_marks (trap_value v))
trap_code_marked = marked_same (either_marked (unmarked trap_code) (word_marked classes.UserTrap)) same
  where
    same : (v : Lexeme ⊎ Lexeme) → either (λ x. []) (λ x. Word (name x) ∷ []) v ≡ trap_marks (trap_value v)
    same (inl x) = sym (plain_trap x.number)
    same (inr x) = refl

-- ---- targets and tables

call_to_marked : (a : Rule) (f : Tree a → RawArg) → Marked a (λ v. arg_marks (f v)) → Marked (call_to a) (λ v. target_marks (target_value a f v))
call_to_marked a f p =
    marked_same (both_marked (word_marked classes.Block)
    (perhaps_list (λ w. perhaps [] (commas_value a f) w.1.0) arg_marks (within_marked classes.LeftParen classes.RightParen (commas_value a f) arg_marks (commas_marked f arg_marks p))))
    (λ v. refl)

branch_marked : Marked target (λ v. target_marks (branch_value v))
branch_marked = call_to_marked value value_arg (word_marked classes.Value)

normal_marked : Marked normal_target (λ v. target_marks (normal_value v))
normal_marked = call_to_marked (value or ret) (value_arg otherwise (λ x. arg.Ret (name x))) (marked_same (either_marked (word_marked classes.Value) (word_marked classes.Ret)) same)
  where
    same : (v : Lexeme ⊎ Lexeme) → either (λ x. Word (name x) ∷ []) (λ x. Word (name x) ∷ []) v ≡ arg_marks ((value_arg otherwise (λ x. arg.Ret (name x))) v)
    same (inl x) = refl
    same (inr x) = refl

handler_marked : Marked handler (λ v. target_marks (handler_value v))
handler_marked = call_to_marked (value or exn) (value_arg otherwise (λ x. arg.Exn (name x))) (marked_same (either_marked (word_marked classes.Value) (word_marked classes.Exn)) same)
  where
    same : (v : Lexeme ⊎ Lexeme) → either (λ x. Word (name x) ∷ []) (λ x. Word (name x) ∷ []) v ≡ arg_marks ((value_arg otherwise (λ x. arg.Exn (name x))) v)
    same (inl x) = refl
    same (inr x) = refl

targets_marked : Marked target_list (λ v. targets_marks (target_list_value v))
targets_marked = within_marked classes.LeftBracket classes.RightBracket (commas_value target branch_value) target_marks (commas_marked branch_value target_marks branch_marked)

entry_name_marked : Marked entry_name (λ v. entry_tag_marks (entry_name_value v))
entry_name_marked = marked_same (either_marked (word_marked classes.Tag) (either_marked (unmarked default_word) (refused_marked never))) same
  where
    same : (v : Lexeme ⊎ (Lexeme ⊎ ⊥)) → either (λ x. Word (name x) ∷ []) (either (λ x. []) never) v ≡ entry_tag_marks (entry_name_value v)
    same (inl x) = refl
    same (inr (inl x)) = refl
    same (inr (inr h)) = absurd h

entry_marked : Marked entry (λ v. entry_marks (entry_value v))
entry_marked = marked_same (both_marked entry_name_marked (second_marked handler_marked)) (λ v. refl)

table_marked : Marked table (λ v. table_marks (table_value v))
table_marked = within_marked classes.LeftBracket classes.RightBracket (commas_value entry entry_value) entry_marks (commas_marked entry_value entry_marks entry_marked)

-- ---- forms

iconst_marked : Marked (iconst then suffix then number) (λ v. inst_marks (iconst_value v))
iconst_marked = marked_same (both_marked (opcode_marked classes.Iconst) (second_marked number_marked)) (λ v. refl)

binary_marked : Marked (binary then Opt suffix then value then comma then value) (λ v. inst_marks (binary_value v))
binary_marked = marked_same (both_marked (opcode_marked classes.Binary) (second_marked (both_marked (word_marked classes.Value) (second_marked (word_marked classes.Value))))) (λ v. refl)

unary_marked : Marked (unary then Opt suffix then value) (λ v. inst_marks (unary_value v))
unary_marked = marked_same (both_marked (opcode_marked classes.Unary) (second_marked (word_marked classes.Value))) (λ v. refl)

icmp_marked : Marked (icmp then Opt suffix then condition then value then comma then value) (λ v. inst_marks (icmp_value v))
icmp_marked = marked_same (both_marked (opcode_marked classes.Icmp) (second_marked (second_marked (both_marked (word_marked classes.Value) (second_marked (word_marked classes.Value)))))) (λ v. refl)

select_marked : Marked (select then Opt suffix then value then comma then value then comma then value) (λ v. inst_marks (select_value v))
select_marked = marked_same (both_marked (opcode_marked classes.Select) (second_marked (both_marked (word_marked classes.Value) (second_marked (both_marked (word_marked classes.Value) (second_marked (word_marked classes.Value))))))) (λ v. refl)

convert_marked : Marked (convert then suffix then value) (λ v. inst_marks (convert_value v))
convert_marked = marked_same (both_marked (opcode_marked classes.Convert) (second_marked (word_marked classes.Value))) (λ v. refl)

binary_imm_marked : Marked (binary_imm then Opt suffix then value then comma then number) (λ v. inst_marks (binary_imm_value v))
binary_imm_marked = marked_same (both_marked (opcode_marked classes.BinaryImm) (second_marked (both_marked (word_marked classes.Value) (second_marked number_marked)))) (λ v. refl)

icmp_imm_marked : Marked (icmp_imm then Opt suffix then condition then value then comma then number) (λ v. inst_marks (icmp_imm_value v))
icmp_imm_marked = marked_same (both_marked (opcode_marked classes.IcmpImm) (second_marked (second_marked (both_marked (word_marked classes.Value) (second_marked number_marked))))) (λ v. refl)

load_marked : Marked (load then suffix then flags then value then Opt signed) (λ v. inst_marks (load_value v))
load_marked = marked_same (both_marked (opcode_marked classes.Load) (second_marked (second_marked (both_marked (word_marked classes.Value) offset_marked)))) (λ v. refl)

load_wide_marked : Marked (load_wide then Opt suffix then flags then value then Opt signed) (λ v. inst_marks (load_wide_value v))
load_wide_marked = marked_same (both_marked (opcode_marked classes.LoadWide) (second_marked (second_marked (both_marked (word_marked classes.Value) offset_marked)))) (λ v. refl)

store_marked : Marked (store then Opt suffix then flags then value then comma then value then Opt signed) (λ v. inst_marks (store_value v))
store_marked = marked_same (both_marked (opcode_marked classes.Store) (second_marked (second_marked (both_marked (word_marked classes.Value) (second_marked (both_marked (word_marked classes.Value) offset_marked)))))) (λ v. refl)

stack_load_marked : Marked (stack_load then suffix then slot then Opt signed) (λ v. inst_marks (stack_load_value v))
stack_load_marked = marked_same (both_marked (opcode_marked classes.StackLoad) (second_marked (both_marked (word_marked classes.Slot) offset_marked))) (λ v. refl)

stack_store_marked : Marked (stack_store then Opt suffix then value then comma then slot then Opt signed) (λ v. inst_marks (stack_store_value v))
stack_store_marked = marked_same (both_marked (opcode_marked classes.StackStore) (second_marked (both_marked (word_marked classes.Value) (second_marked (both_marked (word_marked classes.Slot) offset_marked))))) (λ v. refl)

func_addr_marked : Marked (func_addr then suffix_i64 then callee) (λ v. inst_marks (func_addr_value v))
func_addr_marked = marked_same (both_marked (opcode_marked classes.FuncAddr) (second_marked (word_marked classes.Callee))) (λ v. refl)

nullary_marked : Marked (nullary) (λ v. inst_marks (nullary_value v))
nullary_marked = marked_same (opcode_marked classes.Nullary) (λ v. refl)

jump_marked : Marked (jump then target) (λ v. inst_marks (jump_value v))
jump_marked = marked_same (both_marked (opcode_marked classes.Jump) (branch_marked)) (λ v. refl)

brif_marked : Marked (brif then Opt suffix then value then comma then target then comma then target) (λ v. inst_marks (brif_value v))
brif_marked = marked_same (both_marked (opcode_marked classes.Brif) (second_marked (both_marked (word_marked classes.Value) (second_marked (both_marked branch_marked (second_marked branch_marked)))))) (λ v. refl)

br_table_marked : Marked (br_table then value then comma then target then comma then target_list) (λ v. inst_marks (br_table_value v))
br_table_marked = marked_same (both_marked (opcode_marked classes.BrTable) (both_marked (word_marked classes.Value) (second_marked (both_marked branch_marked (second_marked targets_marked))))) (λ v. refl)

return_inst_marked : Marked (return_word) (λ v. inst_marks (return_inst_value v))
return_inst_marked = marked_same (opcode_marked classes.Return) (λ v. refl)

trap_inst_marked : Marked (trap then any_trap) (λ v. inst_marks (trap_inst_value v))
trap_inst_marked = marked_same (both_marked (opcode_marked classes.Trap) (trap_code_marked)) (λ v. refl)

trap_if_marked : Marked (trap_if then Opt suffix then value then comma then any_trap) (λ v. inst_marks (trap_if_value v))
trap_if_marked = marked_same (both_marked (opcode_marked classes.TrapIf) (second_marked (both_marked (word_marked classes.Value) (second_marked trap_code_marked)))) (λ v. refl)

call_marked : Marked (call then callee then args) (λ v. inst_marks (call_value v))
call_marked = marked_same (both_marked (opcode_marked classes.Call) (both_marked (word_marked classes.Callee) args_marked)) (λ v. refl)

try_call_marked : Marked (try_call then callee then args then comma then sig then comma then normal_target then comma then table) (λ v. inst_marks (try_call_value v))
try_call_marked = marked_same (both_marked (opcode_marked classes.TryCall) (both_marked (word_marked classes.Callee) (both_marked args_marked (second_marked (both_marked (word_marked classes.Sig) (second_marked (both_marked normal_marked (second_marked table_marked)))))))) (λ v. refl)

call_indirect_marked : Marked (call_indirect then Opt suffix_i64 then sig then comma then value then args) (λ v. inst_marks (call_indirect_value v))
call_indirect_marked = marked_same (both_marked (opcode_marked classes.CallIndirect) (second_marked (both_marked (word_marked classes.Sig) (second_marked (both_marked (word_marked classes.Value) args_marked))))) (λ v. refl)

try_call_indirect_marked : Marked (try_call_indirect then Opt suffix_i64 then value then args then comma then sig then comma then normal_target then comma then table) (λ v. inst_marks (try_call_indirect_value v))
try_call_indirect_marked = marked_same (both_marked (opcode_marked classes.TryCallIndirect) (second_marked (both_marked (word_marked classes.Value) (both_marked args_marked (second_marked (both_marked (word_marked classes.Sig) (second_marked (both_marked normal_marked (second_marked table_marked))))))))) (λ v. refl)

return_values_marked : Marked return_values (λ v. inst_marks (return_values_value v))
return_values_marked = marked_same (both_marked (opcode_marked classes.Return) (perhaps_list (commas_value value name) name_marks values_marked)) (λ v. refl)

-- ---- instructions

or_marked : {a b : Rule} {f : Tree a → RawInst} {g : Tree b → RawInst} → Marked a (λ v. inst_marks (f v)) → Marked b (λ v. inst_marks (g v)) → Marked (a or b) (λ v. inst_marks ((f otherwise g) v))
or_marked {a} {b} {f} {g} p q = marked_same (either_marked p q) same
  where
    same : (v : Tree a ⊎ Tree b) → either (λ v. inst_marks (f v)) (λ v. inst_marks (g v)) v ≡ inst_marks ((f otherwise g) v)
    same (inl v) = refl
    same (inr v) = refl

pub inst_marked : (excepted : List Class) → Marked (inst excepted) (λ v. inst_marks (inst_value excepted v))
inst_marked excepted =
    or_marked iconst_marked
    (or_marked binary_marked
    (or_marked unary_marked
    (or_marked icmp_marked
    (or_marked select_marked
    (or_marked convert_marked
    (or_marked binary_imm_marked
    (or_marked icmp_imm_marked
    (or_marked load_marked
    (or_marked load_wide_marked
    (or_marked store_marked
    (or_marked stack_load_marked
    (or_marked stack_store_marked
    (or_marked func_addr_marked
    (or_marked nullary_marked
    (or_marked jump_marked
    (or_marked brif_marked
    (or_marked br_table_marked
    (or_marked return_inst_marked
    (or_marked trap_inst_marked
    (or_marked trap_if_marked
    (or_marked call_marked
    (or_marked try_call_marked
    (or_marked call_indirect_marked
    (or_marked try_call_indirect_marked
    (or_marked {f = never} {g = never} (refused_marked (λ h. inst_marks (never h))) (refused_marked (λ h. inst_marks (never h))))))))))))))))))))))))))))

pub whole_marked : Marked whole_inst (λ v. inst_marks (whole_value v))
whole_marked =
    or_marked iconst_marked
    (or_marked binary_marked
    (or_marked unary_marked
    (or_marked icmp_marked
    (or_marked select_marked
    (or_marked convert_marked
    (or_marked binary_imm_marked
    (or_marked icmp_imm_marked
    (or_marked load_marked
    (or_marked load_wide_marked
    (or_marked store_marked
    (or_marked stack_load_marked
    (or_marked stack_store_marked
    (or_marked func_addr_marked
    (or_marked nullary_marked
    (or_marked jump_marked
    (or_marked brif_marked
    (or_marked br_table_marked
    (or_marked return_values_marked
    (or_marked trap_inst_marked
    (or_marked trap_if_marked
    (or_marked call_marked
    (or_marked try_call_marked
    (or_marked call_indirect_marked
    (or_marked try_call_indirect_marked
    (or_marked {f = never} {g = never} (refused_marked (λ h. inst_marks (never h))) (refused_marked (λ h. inst_marks (never h))))))))))))))))))))))))))))

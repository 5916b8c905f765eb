-- An instruction with the values of a `return`, and one behind which they stand.
use Rattle.std.proofs.Common.{◌≡◌, ℕ, false, List, [], ◌∷◌, None, refl}
use Rattle.grammar.specs.Rules.{Rule, Tree, Opt, Refuse, UnknownOpcode, Unsupported, nullable}
use Rattle.grammar.proofs.Tails.{may_end}
use Rattle.clif_words.specs.declared.class.Class.{Class}
use Rattle.clif_words.specs.declared.class.Class.TheVariants as classes
use Rattle.token_reader.specs.declared.raw.RawName.{RawName}
use Rattle.clif_insts.specs.declared.raw.RawInst.{RawInst}
use Rattle.clif_insts.specs.declared.raw.RawOperands.TheVariants as operands
use Rattle.clif_words.specs.Classes.{code}
use Rattle.clif_words.specs.Terminals.{◌then◌, refused, value, comma, condition, sig, callee, iconst, binary, unary, icmp, select, convert, binary_imm, icmp_imm, load, load_wide, store, stack_load, stack_store, func_addr, nullary, jump, brif, br_table, return_word, trap, trap_if, call, try_call, call_indirect, try_call_indirect}
use Rattle.token_reader.specs.Grammar.{commas, number, suffix, suffix_i64}
use Rattle.clif_insts.specs.Grammar.{any_trap, flags, address, slot_address, target, normal_target, table, args, target_list, words_but, instruction, return_values}
use Rattle.token_reader.specs.Reading.{name, opcode}
use Rattle.token_reader.specs.Values.{perhaps, never, commas_value}
use Rattle.clif_insts.specs.InstValues.{raw, iconst_value, binary_value, unary_value, icmp_value, select_value, convert_value, binary_imm_value, icmp_imm_value, load_value, load_wide_value, store_value, stack_load_value, stack_store_value, func_addr_value, nullary_value, jump_value, brif_value, br_table_value, return_inst_value, trap_inst_value, trap_if_value, call_value, try_call_value, call_indirect_value, try_call_indirect_value, instruction_value, return_values_value}
use Rattle.clif_read.specs.Alike.{Alike}
use Rattle.clif_read.proofs.Alike.{alike_same, alt_alike, refuse_alike}
use Rattle.clif_read.proofs.Given.{Given, given_same, given_end, given_alt}

-- the class of the word `return`, and what stands behind it
abbrev pub c : ℕ
c = code classes.Return

abbrev pub values : Rule
values = commas value

abbrev pub values_value : Tree values → List RawName
values_value = commas_value value name

-- an instruction with these values
abbrev pub give_inst : List RawName → RawInst → RawInst
give_inst vs i = raw i.opcode i.suffix (operands.Return vs)

abbrev pub whole_of : (excepted : List Class) → Tree (instruction return_values excepted) → RawInst
whole_of excepted = instruction_value return_values excepted return_values_value

abbrev pub alone_of : (excepted : List Class) → Tree (instruction return_word excepted) → RawInst
alone_of excepted = instruction_value return_word excepted return_inst_value

-- a form that no values follow
form : (r : Rule) (f : Tree r → RawInst) → may_end c r ≡ false → nullable r ≡ false → Given c r r values f f values_value give_inst
form r f m some = given_same c r values f f values_value give_inst (λ v. refl) m some

returned : Given c return_values return_word values return_values_value return_inst_value values_value give_inst
returned = given_end c values (λ x o. raw (opcode x) None (operands.Return (perhaps [] values_value o))) return_inst_value values_value give_inst (λ x. refl) (λ x z. refl)

pub inst_given : (excepted : List Class) → Given c (instruction return_values excepted) (instruction return_word excepted) values (whole_of excepted) (alone_of excepted) values_value give_inst
inst_given excepted =
    given_alt (form (iconst then suffix then number) iconst_value refl refl)
    (given_alt (form (binary then Opt suffix then value then comma then value) binary_value refl refl)
    (given_alt (form (unary then Opt suffix then value) unary_value refl refl)
    (given_alt (form (icmp then Opt suffix then condition then value then comma then value) icmp_value refl refl)
    (given_alt (form (select then Opt suffix then value then comma then value then comma then value) select_value refl refl)
    (given_alt (form (convert then suffix then value) convert_value refl refl)
    (given_alt (form (binary_imm then Opt suffix then value then comma then number) binary_imm_value refl refl)
    (given_alt (form (icmp_imm then Opt suffix then condition then value then comma then number) icmp_imm_value refl refl)
    (given_alt (form (load then suffix then flags then address) load_value refl refl)
    (given_alt (form (load_wide then Opt suffix then flags then address) load_wide_value refl refl)
    (given_alt (form (store then Opt suffix then flags then value then comma then address) store_value refl refl)
    (given_alt (form (stack_load then suffix then slot_address) stack_load_value refl refl)
    (given_alt (form (stack_store then Opt suffix then value then comma then slot_address) stack_store_value refl refl)
    (given_alt (form (func_addr then suffix_i64 then callee) func_addr_value refl refl)
    (given_alt (form nullary nullary_value refl refl)
    (given_alt (form (jump then target) jump_value refl refl)
    (given_alt (form (brif then Opt suffix then value then comma then target then comma then target) brif_value refl refl)
    (given_alt (form (br_table then value then comma then target then comma then target_list) br_table_value refl refl)
    (given_alt returned
    (given_alt (form (trap then any_trap) trap_inst_value refl refl)
    (given_alt (form (trap_if then Opt suffix then value then comma then any_trap) trap_if_value refl refl)
    (given_alt (form (call then callee then args) call_value refl refl)
    (given_alt (form (try_call then callee then args then comma then sig then comma then normal_target then comma then table) try_call_value refl refl)
    (given_alt (form (call_indirect then Opt suffix_i64 then sig then comma then value then args) call_indirect_value refl refl)
    (given_alt (form (try_call_indirect then Opt suffix_i64 then value then args then comma then sig then comma then normal_target then comma then table) try_call_indirect_value refl refl)
    (given_alt (form (refused (classes.RefusedOpcode ∷ []) Unsupported) never refl refl) (form (Refuse (words_but excepted) UnknownOpcode) never refl refl))))))))))))))))))))))))))

same : (r : Rule) (f : Tree r → RawInst) → Alike r r f f
same r f = alike_same r f f (λ v. refl)

-- which words begin something else there makes no difference to what is derived
pub inst_alike : (these those : List Class) → Alike (instruction return_values these) (instruction return_values those) (whole_of these) (whole_of those)
inst_alike these those =
    alt_alike (same (iconst then suffix then number) iconst_value)
    (alt_alike (same (binary then Opt suffix then value then comma then value) binary_value)
    (alt_alike (same (unary then Opt suffix then value) unary_value)
    (alt_alike (same (icmp then Opt suffix then condition then value then comma then value) icmp_value)
    (alt_alike (same (select then Opt suffix then value then comma then value then comma then value) select_value)
    (alt_alike (same (convert then suffix then value) convert_value)
    (alt_alike (same (binary_imm then Opt suffix then value then comma then number) binary_imm_value)
    (alt_alike (same (icmp_imm then Opt suffix then condition then value then comma then number) icmp_imm_value)
    (alt_alike (same (load then suffix then flags then address) load_value)
    (alt_alike (same (load_wide then Opt suffix then flags then address) load_wide_value)
    (alt_alike (same (store then Opt suffix then flags then value then comma then address) store_value)
    (alt_alike (same (stack_load then suffix then slot_address) stack_load_value)
    (alt_alike (same (stack_store then Opt suffix then value then comma then slot_address) stack_store_value)
    (alt_alike (same (func_addr then suffix_i64 then callee) func_addr_value)
    (alt_alike (same nullary nullary_value)
    (alt_alike (same (jump then target) jump_value)
    (alt_alike (same (brif then Opt suffix then value then comma then target then comma then target) brif_value)
    (alt_alike (same (br_table then value then comma then target then comma then target_list) br_table_value)
    (alt_alike (same return_values return_values_value)
    (alt_alike (same (trap then any_trap) trap_inst_value)
    (alt_alike (same (trap_if then Opt suffix then value then comma then any_trap) trap_if_value)
    (alt_alike (same (call then callee then args) call_value)
    (alt_alike (same (try_call then callee then args then comma then sig then comma then normal_target then comma then table) try_call_value)
    (alt_alike (same (call_indirect then Opt suffix_i64 then sig then comma then value then args) call_indirect_value)
    (alt_alike (same (try_call_indirect then Opt suffix_i64 then value then args then comma then sig then comma then normal_target then comma then table) try_call_indirect_value)
    (alt_alike (same (refused (classes.RefusedOpcode ∷ []) Unsupported) never) (refuse_alike (words_but these) (words_but those) UnknownOpcode UnknownOpcode never))))))))))))))))))))))))))

-- The grammar of instructions, as EBNF is written: `Opt a` is `[ a ]`, `Many a` is `{ a }`, and `commas a` is
-- `a { "," a }`. The words that a place refuses in its own way are rules too: an unknown opcode, and opcodes, types,
-- flags and table entries of CLIF that are left out.
use Rattle.std.specs.Prelude.{◌≡◌, ℕ, true, not, List, [], ◌∷◌, refl}
use Rattle.std.specs.List.{filter}
use Rattle.grammar.specs.Rules.{Rule, Opt, Many, Refuse, UnknownOpcode, Unsupported, member, good}
use Rattle.clif_words.specs.declared.class.Class.{Class}
use Rattle.clif_words.specs.declared.class.Class.TheVariants as classes
use Rattle.clif_insts.specs.declared.opening.Opening.{Opening}
use Rattle.clif_insts.specs.declared.opening.Opening.TheVariants.{AfterResults, AfterTags, LineStart}
use Rattle.clif_words.specs.Terminals.{◌then◌, ◌or◌, codes_of, refused, words, signed, left_paren}
use Rattle.clif_words.specs.Terminals.{right_paren, left_bracket, right_bracket, comma, colon, arrow, equals}
use Rattle.clif_words.specs.Terminals.{vmctx, flag, little, big, trap_code, user_trap, condition, value, block}
use Rattle.clif_words.specs.Terminals.{slot, sig, callee, tag, ret, exn, default_word, iconst, binary, unary, icmp}
use Rattle.clif_words.specs.Terminals.{select, convert, binary_imm, icmp_imm, load, load_wide, store, stack_load}
use Rattle.clif_words.specs.Terminals.{stack_store, func_addr, nullary, jump, brif, br_table, return_word, trap}
use Rattle.clif_words.specs.Terminals.{trap_if, call, try_call, call_indirect, try_call_indirect}
use Rattle.token_reader.specs.Grammar.{commas, number, refused_type, suffix, suffix_i64}

abbrev pub any_trap : Rule
any_trap = trap_code or user_trap

-- a flag but `little` and `big`; a trap code is refused here
abbrev pub plain_flag : Rule
plain_flag = flag or vmctx or refused (classes.TrapCode ∷ classes.UserTrap ∷ []) Unsupported

-- any number of flags, `big` and `little` not together
abbrev pub flags : Rule
flags = Many plain_flag then Opt ((big then Many (plain_flag or big)) or (little then Many (plain_flag or little)))

-- p+off
abbrev pub address : Rule
address = value then Opt signed

-- ssN+off
abbrev pub slot_address : Rule
slot_address = slot then Opt signed

-- blockN [ "(" [ arg { "," arg } ] ")" ]
abbrev pub call_to : Rule → Rule
call_to arg = block then Opt (left_paren then Opt (commas arg) then right_paren)

-- a target of a branch
abbrev pub target : Rule
target = call_to value

-- the normal target of a `try_call`, whose results are `ret0`, `ret1` and so on
abbrev pub normal_target : Rule
normal_target = call_to (value or ret)

-- the list of a `br_table`
abbrev pub target_list : Rule
target_list = left_bracket then Opt (commas target) then right_bracket

-- a target of an exception table, whose payloads are `exn0` and `exn1`
abbrev pub handler : Rule
handler = call_to (value or exn)

-- what an entry is for
abbrev pub entry_name : Rule
entry_name = tag or default_word or refused (classes.Context ∷ []) Unsupported

abbrev pub entry : Rule
entry = entry_name then colon then handler

abbrev pub table : Rule
table = left_bracket then Opt (commas entry) then right_bracket

abbrev pub args : Rule
args = left_paren then Opt (commas value) then right_paren

-- The classes of the words that may begin something else where an instruction may begin: results behind tags and a
-- location, and at the line's beginning results or the head of a block.
abbrev pub excepted : Opening → List Class
excepted AfterResults = []
excepted AfterTags = classes.Value ∷ []
excepted LineStart = classes.Value ∷ classes.Block ∷ []

-- the words but opcodes and those of these classes
abbrev pub words_but : List Class → List ℕ
words_but excepted = filter (λ c. not (member c (codes_of excepted))) (codes_of words)

-- An instruction, with this rule for a `return`. In its place opcodes that are left out are Unsupported, and other
-- words UnknownOpcode, but for those that may begin something else there.
abbrev pub instruction : Rule → List Class → Rule
instruction returned excepted =
    (iconst then suffix then number)
    or (binary then Opt suffix then value then comma then value)
    or (unary then Opt suffix then value)
    or (icmp then Opt suffix then condition then value then comma then value)
    or (select then Opt suffix then value then comma then value then comma then value)
    or (convert then suffix then value)
    or (binary_imm then Opt suffix then value then comma then number)
    or (icmp_imm then Opt suffix then condition then value then comma then number)
    or (load then suffix then flags then address)
    or (load_wide then Opt suffix then flags then address)
    or (store then Opt suffix then flags then value then comma then address)
    or (stack_load then suffix then slot_address)
    or (stack_store then Opt suffix then value then comma then slot_address)
    or (func_addr then suffix_i64 then callee)
    or nullary
    or (jump then target)
    or (brif then Opt suffix then value then comma then target then comma then target)
    or (br_table then value then comma then target then comma then target_list)
    or returned
    or (trap then any_trap)
    or (trap_if then Opt suffix then value then comma then any_trap)
    or (call then callee then args)
    or (try_call then callee then args then comma then sig then comma then normal_target then comma then table)
    or (call_indirect then Opt suffix_i64 then sig then comma then value then args)
    or (try_call_indirect then Opt suffix_i64 then value then args then comma then sig then comma then normal_target
    then comma then table)
    or refused (classes.RefusedOpcode ∷ []) Unsupported
    or Refuse (words_but excepted) UnknownOpcode

-- An instruction, where the values of a `return` stand behind it, as far as they are not the results of the next line.
abbrev pub inst : List Class → Rule
inst excepted = instruction return_word excepted

-- `return` and its values
abbrev pub return_values : Rule
return_values = return_word then Opt (commas value)

-- an instruction, with the values of a `return`
abbrev pub whole_inst : Rule
whole_inst = instruction return_values []

-- A `return` whose next words begin the next line: value words joined by commas and followed by `=`, or a single one
-- followed by `->`.
abbrev pub return_alone : Rule
return_alone = return_word then value then (arrow or (Many (comma then value) then equals))

-- the next token always says which way to go
pub inst_is_good : (good (inst (excepted AfterResults)) ≡ true) × (good (inst (excepted AfterTags)) ≡ true)
    × (good (inst (excepted LineStart)) ≡ true)
inst_is_good = (refl, refl, refl)

pub whole_inst_is_good : (good whole_inst ≡ true) × (good return_alone ≡ true)
whole_inst_is_good = (refl, refl)

-- The grammar of a module, as EBNF is written: `commas a` is `a { "," a }`, `Opt a` is `[ a ]`, `Many a` is `{ a }`.
-- The grammar of an instruction, and of the parts that it shares with this one, is that of crate clif_insts.
use Rattle.std.specs.Prelude.{◌≡◌, true, [], ◌∷◌, refl}
use Rattle.grammar.specs.Rules.{Rule, Opt, Many, Chain, Unsupported, good}
use Rattle.clif_words.specs.declared.class.Class.TheVariants as classes
use Rattle.clif_words.specs.Classes.{code}
use Rattle.clif_words.specs.Terminals.{◌then◌, ◌or◌, refused, header, function_word, name, user_name, srcloc}
use Rattle.clif_words.specs.Terminals.{left_paren, right_paren, left_brace, right_brace, comma, colon, equals, arrow}
use Rattle.clif_words.specs.Terminals.{less, greater, conv, cold, ext, vmctx, sret, explicit_slot, align, colocated}
use Rattle.clif_words.specs.Terminals.{value, block, slot, sig, callee}
use Rattle.token_reader.specs.Grammar.{commas, number, any_type}
use Rattle.clif_insts.specs.Grammar.{inst}

-- ---- signatures and declarations

abbrev pub purpose : Rule
purpose = vmctx or sret

-- type { "uext" | "sext" | "vmctx" | "sret" }, of the first two at most one, and of the last two
abbrev pub param : Rule
param = any_type then Opt ((ext then Opt purpose) or (purpose then Opt ext))

abbrev pub params : Rule
params = commas param

-- `cold` is a word of its own, since it may also stand behind a block
abbrev pub convention : Rule
convention = conv or cold

abbrev pub signature : Rule
signature = left_paren then Opt params then right_paren then Opt (arrow then params) then Opt convention

-- Name | uN ":" Number
abbrev pub func_name : Rule
func_name = name or (user_name then colon then number)

abbrev pub slot_decl : Rule
slot_decl = slot then equals then explicit_slot then number then Opt (comma then align then equals then number)

abbrev pub sig_decl : Rule
sig_decl = sig then equals then signature

abbrev pub callee_decl : Rule
callee_decl = callee then equals then Opt colocated then func_name then (sig or signature)

-- the declarations of CLIF that are left out are refused here
abbrev pub decl : Rule
decl = slot_decl or sig_decl or callee_decl or refused (classes.RefusedDecl ∷ []) Unsupported

-- ---- lines

-- Number | ssN
abbrev pub debug_tag : Rule
debug_tag = number or slot

-- "<" tag { "," tag } ">"
abbrev pub debug_tags : Rule
debug_tags = less then commas debug_tag then greater

-- an instruction behind the `=` of its results
abbrev pub made : Rule
made = equals then inst []

-- what begins with a value: an alias, or results and their instruction
abbrev pub named : Rule
named = value then ((arrow then value) or (Many (comma then value) then made))

-- the same, or values that stand alone
abbrev pub named_or_values : Rule
named_or_values = value then ((arrow then value) or (Many (comma then value) then Opt made))

-- what begins with tags
abbrev pub tagged : Rule
tagged = debug_tags then ((commas value then made) or inst (classes.Value ∷ []))

-- a line behind its source location
abbrev pub located : Rule
located = named or tagged or inst (classes.Value ∷ [])

-- a line that does not begin with a value
abbrev pub other_line : Rule
other_line = tagged or (srcloc then located) or inst (classes.Value ∷ classes.Block ∷ [])

abbrev pub line : Rule
line = named or other_line

-- a line, or the values of the `return` before it
abbrev pub line_or_values : Rule
line_or_values = named_or_values or other_line

-- { line }, where the values of a `return` stand behind it
abbrev pub lines : Rule
lines = Chain (code classes.Return) line line_or_values

-- ---- blocks, functions and modules

abbrev pub block_param : Rule
block_param = value then colon then any_type

-- "(" [ bparam { "," bparam } ] ")"
abbrev pub block_params : Rule
block_params = left_paren then Opt (commas block_param) then right_paren

abbrev pub block_rule : Rule
block_rule = block then Opt block_params then Opt cold then colon then lines

abbrev pub function : Rule
function =
    function_word then func_name then signature then left_brace then Many decl then block_rule then Many block_rule
    then right_brace

abbrev pub module_rule : Rule
module_rule = Many header then Many function

-- the next token always says which way to go
pub module_is_good : good module_rule ≡ true
module_is_good = refl

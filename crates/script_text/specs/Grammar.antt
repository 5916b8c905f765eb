-- The grammar of scripts and of lists of numbers, as EBNF is written: `commas a` is `a { "," a }`, and `Opt a` is
-- `[ a ]`.
use Rattle.std.specs.Prelude.{◌≡◌, true, refl}
use Rattle.grammar.specs.Rules.{Rule, Tok, Opt, Many, good}
use Rattle.clif_words.specs.Terminals.{◌then◌, ◌or◌}
use Rattle.script_text.specs.declared.terminal.Terminal.{Terminal}
use Rattle.script_text.specs.declared.terminal.Terminal.TheVariants.{Return, Trap, Throw, TrapCode, UserTrap, Tag, Byte}
use Rattle.script_text.specs.declared.terminal.Terminal.TheVariants.{Large, Negative, LeftParen, RightParen}
use Rattle.script_text.specs.declared.terminal.Terminal.TheVariants.{LeftBracket, RightBracket, Comma, Colon}
use Rattle.script_text.specs.Terminals.{code}

abbrev pub one : Terminal → Rule
one terminal = Tok (code terminal)

abbrev pub commas : Rule → Rule
commas a = a then Many (one Comma then a)

-- any number
abbrev pub number : Rule
number = one Byte or one Large or one Negative

-- a number that is not negative
abbrev pub address : Rule
address = one Byte or one Large

-- a trap code
abbrev pub trap_code : Rule
trap_code = one TrapCode or one UserTrap

-- return(1, -2), or `return` alone
abbrev pub returns : Rule
returns = one Return then Opt (one LeftParen then commas number then one RightParen)

-- trap int_divz
abbrev pub traps : Rule
traps = one Trap then trap_code

-- throw tag3(7, 8)
abbrev pub throws : Rule
throws = one Throw then one Tag then one LeftParen then number then one Comma then number then one RightParen

abbrev pub act : Rule
act = returns or traps or throws

-- 16: 255
abbrev pub write : Rule
write = address then one Colon then one Byte

abbrev pub reply : Rule
reply = act then Opt (one LeftBracket then commas write then one RightBracket)

abbrev pub script : Rule
script = Opt (commas reply)

abbrev pub number_list : Rule
number_list = Opt (commas number)

-- the next token always says which way to go
pub script_is_good : good script ≡ true
script_is_good = refl

pub number_list_is_good : good number_list ≡ true
number_list_is_good = refl

-- The terminals of the grammar of scripts, counted. No definition but this one uses the numbers.
use Rattle.std.specs.Prelude.{ℕ}
use Rattle.script_text.specs.declared.terminal.Terminal.{Terminal}
use Rattle.script_text.specs.declared.terminal.Terminal.TheVariants.{Return, Trap, Throw, TrapCode, UserTrap, Tag}
use Rattle.script_text.specs.declared.terminal.Terminal.TheVariants.{Byte, Large, Negative, LeftParen, RightParen}
use Rattle.script_text.specs.declared.terminal.Terminal.TheVariants.{LeftBracket, RightBracket, Comma, Colon, Other}

abbrev pub code : Terminal → ℕ
code Return = 0
code Trap = 1
code Throw = 2
code TrapCode = 3
code UserTrap = 4
code Tag = 5
code Byte = 6
code Large = 7
code Negative = 8
code LeftParen = 9
code RightParen = 10
code LeftBracket = 11
code RightBracket = 12
code Comma = 13
code Colon = 14
code Other = 15

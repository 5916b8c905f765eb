-- The number that the code compares is the one by which the grammar counts.
use Rattle.std.proofs.Common.{◌≡◌, refl}
use denote.Enum.Declared.{tag_of}
use Rattle.script_text.specs.declared.terminal.Terminal.{Terminal}
use Rattle.script_text.specs.declared.terminal.Terminal.TheVariants as terminals
use Rattle.script_text.specs.contracts.terminal.Terminal.{the_type}
use Rattle.script_text.specs.Terminals.{code}

pub tag-code : (t : Terminal) → tag_of the_type t ≡ code t
tag-code terminals.Return = refl
tag-code terminals.Trap = refl
tag-code terminals.Throw = refl
tag-code terminals.TrapCode = refl
tag-code terminals.UserTrap = refl
tag-code terminals.Tag = refl
tag-code terminals.Byte = refl
tag-code terminals.Large = refl
tag-code terminals.Negative = refl
tag-code terminals.LeftParen = refl
tag-code terminals.RightParen = refl
tag-code terminals.LeftBracket = refl
tag-code terminals.RightBracket = refl
tag-code terminals.Comma = refl
tag-code terminals.Colon = refl
tag-code terminals.Other = refl

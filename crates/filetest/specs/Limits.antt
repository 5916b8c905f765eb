-- Commands within their limits.
use Rattle.std.specs.Prelude.{◌≤◌, ⊤}
use Rattle.test_directives.specs.Commands as command
use Rattle.test_directives.specs.Commands.{Command, InlineWords, most_size}

pub record AreWithin (w : InlineWords) : Type 0 where
  pub callee_size : w.callee_size ≤ most_size
  pub caller_size : w.caller_size ≤ most_size

-- the sizes of `inline` are within their limit
abbrev pub IsLimitedCommand : Command → Type 0
IsLimitedCommand (command.Inline w) = AreWithin w
IsLimitedCommand command.Cat = ⊤
IsLimitedCommand command.Verifier = ⊤
IsLimitedCommand command.Interpret = ⊤
IsLimitedCommand command.Run = ⊤
IsLimitedCommand (command.Other word) = ⊤

use Rattle.std.proofs.Common.{◌≡◌, ◌++◌, drop, map}
use Rattle.test_directives.specs.Tests.{headers, bad_header, commands}
use Rattle.test_directives.specs.Views.{command_of}
use Rattle.test_directives.proofs.tests.commands.Given as goal

abbrev pub invariant-tokens : goal.invariant-tokens
invariant-tokens l = record {
  bad : bad_header (headers l.text (drop l.i l.tokens)) ≡ bad_header (headers l.text l.tokens);
  seen : map command_of l.list.items ++ commands (headers l.text (drop l.i l.tokens)) ≡ commands (headers l.text l.tokens);
}

use Rattle.std.proofs.Common.{◌≡◌, length}
use Rattle.test_directives.specs.Blanks.{words}
use Rattle.test_directives.specs.Commands.{after_words, usual_words}
use Rattle.test_directives.specs.Views.{words_of}
use Rattle.test_directives.proofs.commands.inline_command.Given as goal

abbrev pub invariant-loop-word : goal.invariant-loop-word
invariant-loop-word l = after_words (words_of l.asked) (words l.rest) ≡ after_words usual_words (words l.text)

abbrev pub decreases-loop-word : goal.decreases-loop-word
decreases-loop-word l = length l.rest

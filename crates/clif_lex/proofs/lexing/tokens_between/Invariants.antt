use Rattle.std.proofs.Common.{◌≡◌, ◌-◌, ◌≤◌, false, length, map, drop}
use Rattle.clif_lex.specs.Bytes.{is_blank, first}
use Rattle.clif_lex.specs.Spans.{token_of}
use Rattle.clif_lex.specs.Lexing.{tokens_from}
use Rattle.clif_lex.proofs.Runs.{with_front}
use Rattle.clif_lex.proofs.lexing.tokens_between.Given as goal

abbrev pub invariant-tokens : goal.invariant-tokens
invariant-tokens l =
    (with_front (map token_of l.spans.items) (tokens_from l.in_preamble 0 l.at (drop l.at l.stretch)) ≡ tokens_from l.preamble 0 l.from (drop l.from l.stretch))
    × (is_blank (first (drop l.at l.stretch)) ≡ false)
    × (l.at ≤ length l.stretch)

abbrev pub decreases-tokens : goal.decreases-tokens
decreases-tokens l = length l.stretch - l.at

-- From what `clap` says of words to their settings.
use Rattle.std.proofs.Common.{◌≡◌, ◌≢◌, ◌∙◌, List, [], ◌∷◌, Option, None, true, refl, sym, ap, ap₂, subst, inl, inr}
use Rattle.clap.specs.Words.{App, HasKind, HasMatchesOf, IsAmong, Kinds, Row, Text, app_of, fault_of, is_simple, is_simple_and_free, kind_of, subcommand_of, subcommand_rows_of}
use Rattle.clap.specs.declared.builder.command.Command.{Command}
use Rattle.clap.specs.declared.error.Error.{Error}
use Rattle.clap.specs.declared.error.kind.ErrorKind.{ErrorKind}
use Rattle.clap.specs.declared.error.kind.ErrorKind.TheVariants.{OutOfMemory}
use Rattle.clap.specs.declared.parser.matches.ArgMatches.{ArgMatches}
use Rattle.clap.proofs.WalkLemmas.{both}
use Rattle.settings.specs.Table.{table}
use Rattle.settings.specs.Meaning.{settings_at, settings_from, settings_of}
use Rattle.settings.proofs.Lines.{table_is_simple}

-- words with a fault have no settings
no_settings : (k : ErrorKind) (kinds : Kinds) (at : Option (Text × List Row)) → IsAmong k kinds → settings_from kinds at ≡ None
no_settings k [] at h = absurd h
no_settings k (x ∷ xs) at h = refl

-- where `clap` has matches, they decide
pub at_matches : (c : Command) (words : List Text) (m : ArgMatches) → app_of c ≡ table → (is_simple_and_free (app_of c) ≡ true → fault_of (app_of c) words ≡ [])
    → HasMatchesOf (app_of c) words m → settings_of words ≡ settings_at (subcommand_rows_of m)
at_matches c words m is faults matches =
    let simple : is_simple_and_free (app_of c) ≡ true = ap is_simple_and_free is ∙ table_is_simple in
    let none : fault_of table words ≡ [] = subst (λ (a : App). fault_of a words ≡ []) is (faults simple) in
    let rows : subcommand_rows_of m ≡ subcommand_of table words = subst (λ (a : App). subcommand_rows_of m ≡ subcommand_of a words) is (matches (both _ _ simple).0).1 in
    ap₂ settings_from none (sym rows)

-- where it has an error that is not want of memory, there are none
pub at_error : (c : Command) (words : List Text) (e : Error) → app_of c ≡ table → (is_simple_and_free (app_of c) ≡ true → HasKind (fault_of (app_of c) words) e)
    → kind_of e ≢ OutOfMemory → settings_of words ≡ None
at_error c words e is kinds else =
    let has : HasKind (fault_of table words) e = subst (λ (a : App). HasKind (fault_of a words) e) is (kinds (ap is_simple_and_free is ∙ table_is_simple)) in
    elim has [
      | inl oom ↦ absurd (else oom)
      | inr among ↦ no_settings _ _ _ among
    ]

-- A text without a first fault is accepted.
use Rattle.std.proofs.Common.{◌≡◌, ℕ, List, length, Result, Ok, Err, inl, inr, refl, sym, subst}
use Rattle.grammar.specs.Rules as grammar
use Rattle.grammar.specs.Rules.{Lexeme, Kind, Tree, Derives, Answers, read_all}
use Rattle.grammar.proofs.Exact.{exact}
use Rattle.grammar.proofs.OneStop.{not_derived, no_further}
use Rattle.clif_lex.specs.declared.spans.Token.{Token}
use Rattle.clif_lex.specs.declared.faults.LexErr.{LexErr}
use Rattle.clif_lex.specs.declared.faults.LexErr.TheVariants as lex
use Rattle.clif_lex.specs.declared.faults.TextErr.TheVariants as errors
use Rattle.clif_lex.specs.declared.faults.TextKind.{TextKind}
use Rattle.clif_lex.specs.declared.faults.TextKind.TheVariants as kind
use Rattle.clif_lex.specs.Lexing.{tokens_of}
use Rattle.clif_lex.proofs.Readings.{never_want}
use Rattle.clif_words.specs.Lexemes.{lexemes}
use Rattle.token_reader.specs.Next.{spot_or}
use Rattle.clif_read.specs.declared.raw.RawModule.{RawModule}
use Rattle.clif_read.specs.ModuleGrammar.{module_rule}
use Rattle.clif_read.specs.ModuleValues.{module_value}
use Rattle.clif_read.specs.Texts.{IsModuleText, IsFirstFault, NoModule, Broken, Stopped}
use Rattle.clif_names.specs.Faults.{NoFault}
use Rattle.clif_names.proofs.FaultLaws.{first_where_any}
use Rattle.clif_meaning.proofs.Existence.{has_meaning}
use Rattle.ir_check.proofs.Faultless as rules
use Rattle.clif_check.specs.Faults.{FirstFault, kind_of}
use Rattle.clif_check.specs.Laws.{FaultlessIsAccepted}
use Rattle.clif_check.proofs.FirstFaults.{as_text}
use Rattle.clif_check.proofs.Standing.{fault_stands}

-- ---- tokens and syntax

abbrev Faultless : List ℕ → Type 0
Faultless text = (k : TextKind) (spot : ℕ) → FirstFault text k spot → ⊥

lexed : (text : List ℕ) → Faultless text → (tokens : List Token) × (tokens_of text ≡ Ok tokens)
lexed text none = go (tokens_of text) refl
  where
    go : (r : Result (List Token) LexErr) → tokens_of text ≡ r → (tokens : List Token) × (tokens_of text ≡ Ok tokens)
    go (Ok tokens) e = (tokens, e)
    go (Err (lex.BadChar at)) e = absurd (none kind.BadChar at (inl (subst (λ (r : Result (List Token) LexErr). IsFirstFault text r (errors.Fault kind.BadChar at)) (sym e) refl)))
    go (Err (lex.BadNumber at)) e = absurd (none kind.BadNumber at (inl (subst (λ (r : Result (List Token) LexErr). IsFirstFault text r (errors.Fault kind.BadNumber at)) (sym e) refl)))
    go (Err lex.NoMemory) e = absurd (never_want text e)

as_stopped : (ts : List Lexeme) (end : ℕ) (k : Kind) (spot : ℕ) → Broken ts end k spot → Stopped ts end (errors.Fault (as_text k) spot)
as_stopped ts end grammar.Syntax spot broken = broken
as_stopped ts end grammar.UnknownOpcode spot broken = broken
as_stopped ts end grammar.Unsupported spot broken = broken

raw_of : (text : List ℕ) → Faultless text → (raw : RawModule) × IsModuleText text raw
raw_of text none = let l = lexed text none in go l.0 l.1 (read_all module_rule (lexemes text l.0)) (exact module_rule refl (lexemes text l.0))
  where
    go : (tokens : List Token) → tokens_of text ≡ Ok tokens → (o : Result (Tree module_rule) (Kind × List Lexeme)) → Answers module_rule (lexemes text tokens) o
        → (raw : RawModule) × IsModuleText text raw
    go tokens e (Ok v) a = (module_value v, record { tokens = tokens; lexed = e; read = (v, a.0, refl, a.1) })
    go tokens e (Err stop) (us, rest, cut, (same, begins, stops)) =
        let no_module : NoModule (lexemes text tokens) =
        λ v d. not_derived module_rule us rest (no_further module_rule us rest stop.0 stops) v (subst (λ l. Derives module_rule l v) cut d) in
        let broken : Broken (lexemes text tokens) (length text) stop.0 (spot_or (length text) rest) = (no_module, (us, rest, cut, (begins, stops, refl))) in
        let stopped = as_stopped (lexemes text tokens) (length text) stop.0 (spot_or (length text) rest) broken in
        absurd (none (as_text stop.0) (spot_or (length text) rest)
        (inl (subst (λ (r : Result (List Token) LexErr). IsFirstFault text r (errors.Fault (as_text stop.0) (spot_or (length text) rest))) (sym e) stopped)))

-- ---- the law

pub faultless_is_accepted : FaultlessIsAccepted
faultless_is_accepted text none =
    let read = raw_of text none in
    let free : NoFault read.0 = (first_where_any read.0).0 (λ k spot fault. none k spot (inr (read.0, read.1, inl fault))) in
    let meant = has_meaning read.0 free in
    let kept = rules.faultless_is_accepted meant.0 (λ n place r first.
    let stands = fault_stands read.0 meant.0 n place r meant.1 first in
    none (kind_of r) stands.0 (inr (
      read.0,
      read.1,
      inr (record {
        free = free;
        meant = meant.0;
        means = meant.1;
        func = n;
        item = place;
        rule = r;
        first = first;
        kind_is = refl;
        spot_is = stands.1;
      }),
    ))) in
    (meant.0, record { reads = (read.0, read.1, free, meant.1); accepted = kept })

-- Where a text is not read, the fault stands in it or at its end.
use Rattle.std.proofs.Common.{◌≡◌, ℕ, ◌≤◌, List, [], ◌∷◌, length, Result, Ok, Err, IfOk, IfErr, refl, sym, subst, inl, inr, arith}
use Rattle.grammar.specs.Rules.{Lexeme, Kind}
use Rattle.ir_core.specs.Lists.{Each}
use Rattle.ir_core.proofs.Members.{each_right}
use Rattle.clif_lex.specs.declared.spans.Token.{Token}
use Rattle.clif_lex.specs.declared.faults.LexErr.{LexErr}
use Rattle.clif_lex.specs.declared.faults.LexErr.TheVariants as lex
use Rattle.clif_lex.specs.declared.faults.TextErr.{TextErr}
use Rattle.clif_lex.specs.declared.faults.TextErr.TheVariants as errors
use Rattle.clif_lex.specs.declared.faults.TextKind.TheVariants as kinds
use Rattle.clif_lex.specs.Faults.{text_err_of, StandsWithin}
use Rattle.clif_lex.specs.Lexing.{tokens_of}
use Rattle.clif_lex.specs.Spelling.{IsFaultIn}
use Rattle.clif_lex.proofs.Readings.{fault_inside_text}
use Rattle.clif_words.specs.Lexemes.{lexemes}
use Rattle.clif_words.specs.TextTokens.{IsTextToken}
use Rattle.clif_words.proofs.TextTokens.{text_tokens}
use Rattle.token_reader.specs.Next.{spot_or}
use Rattle.clif_read.specs.declared.raw.RawModule.{RawModule}
use Rattle.clif_read.specs.Formed.{IsFormed}
use Rattle.clif_read.specs.Texts.{IsModule, Broken, Stopped}
use Rattle.clif_read.specs.Texts.{IsModuleText, IsFirstFault, IsFaultOf}
use Rattle.clif_read.proofs.ModuleFormed.{module_formed, text_formed}

spot_within : (len : ℕ) (rest : List Lexeme) → Each (IsTextToken len) rest → spot_or len rest ≤ len
spot_within len [] tokens = omega arith
spot_within len (x ∷ rest) tokens = let inside = tokens.0.inside in omega arith

broken_within : (len : ℕ) (ts : List Lexeme) (kind : Kind) (spot : ℕ) → Each (IsTextToken len) ts → Broken ts len kind spot → spot ≤ len
broken_within len ts kind spot tokens (none, (us, rest, cut, (begins, stops, at))) =
    subst (λ (n : ℕ). n ≤ len) (sym at) (spot_within len rest (each_right (IsTextToken len) us rest (subst (Each (IsTextToken len)) cut tokens)))

stop_within : (len : ℕ) (ts : List Lexeme) (e : TextErr) → Each (IsTextToken len) ts → Stopped ts len e → StandsWithin len e
stop_within len ts (errors.Fault kinds.Syntax spot) tokens h = broken_within len ts _ spot tokens h
stop_within len ts (errors.Fault kinds.UnknownOpcode spot) tokens h = broken_within len ts _ spot tokens h
stop_within len ts (errors.Fault kinds.Unsupported spot) tokens h = broken_within len ts _ spot tokens h
stop_within len ts (errors.Fault kind spot) tokens h = absurd h
stop_within len ts errors.NoMemory tokens h = tt

pub stopped_within : (text : List ℕ) (tokens : List Token) (e : TextErr) → tokens_of text ≡ Ok tokens → Stopped (lexemes text tokens) (length text) e → StandsWithin (length text) e
stopped_within text tokens e lexed h = stop_within (length text) (lexemes text tokens) e (text_tokens text tokens lexed).each h

lex_within : (text : List ℕ) (fault : LexErr) → IsFaultIn text fault → StandsWithin (length text) (text_err_of fault)
lex_within text (lex.BadChar spot) below = omega arith
lex_within text (lex.BadNumber spot) below = omega arith
lex_within text lex.NoMemory below = tt

pub fault_within : (text : List ℕ) (e : TextErr) → IsFaultOf text e → StandsWithin (length text) e
fault_within text e (inl none) = subst (StandsWithin (length text)) (sym none) tt
fault_within text e (inr first) = go (tokens_of text) refl first
  where
    go : (read : Result (List Token) LexErr) → tokens_of text ≡ read → IsFirstFault text read e → StandsWithin (length text) e
    go (Ok tokens) lexed stopped = stopped_within text tokens e lexed stopped
    go (Err fault) lexed same = subst (StandsWithin (length text)) (sym same) (lex_within text fault (fault_inside_text text fault lexed))

-- ---- of a reader's answer

pub raw_formed : (text : List ℕ) (tokens : List Token) (r : Result RawModule TextErr) → tokens_of text ≡ Ok tokens → IfOk r (IsModule (lexemes text tokens)) → IfOk r (IsFormed (length text))
raw_formed text tokens (Ok m) lexed h = module_formed (length text) (lexemes text tokens) m (text_tokens text tokens lexed) h
raw_formed text tokens (Err e) lexed h = tt

pub raw_within : (text : List ℕ) (tokens : List Token) (r : Result RawModule TextErr) → tokens_of text ≡ Ok tokens → IfErr r (Stopped (lexemes text tokens) (length text)) → IfErr r (StandsWithin (length text))
raw_within text tokens (Ok m) lexed h = tt
raw_within text tokens (Err e) lexed h = stopped_within text tokens e lexed h

pub texts_formed : (text : List ℕ) (r : Result RawModule TextErr) → IfOk r (IsModuleText text) → IfOk r (IsFormed (length text))
texts_formed text (Ok m) h = text_formed text m h
texts_formed text (Err e) h = tt

pub texts_within : (text : List ℕ) (r : Result RawModule TextErr) → IfErr r (IsFaultOf text) → IfErr r (StandsWithin (length text))
texts_within text (Ok m) h = tt
texts_within text (Err e) h = fault_within text e h

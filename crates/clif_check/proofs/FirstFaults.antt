-- A text has at most one first fault: of its tokens, of its syntax, of its names and numbers, of the rules.
use Rattle.std.proofs.Common.{◌≡◌, ℕ, List, Result, Ok, Err, inl, inr, refl, sym, ap, subst, ◌∙◌}
use Rattle.grammar.specs.Rules as grammar
use Rattle.grammar.specs.Rules.{Lexeme, Kind}
use Rattle.grammar.proofs.OneStop.{one_stop}
use Rattle.clif_lex.specs.declared.spans.Token.{Token}
use Rattle.clif_lex.specs.declared.faults.LexErr.{LexErr}
use Rattle.clif_lex.specs.declared.faults.TextErr.TheVariants as errors
use Rattle.clif_lex.specs.declared.faults.TextKind.{TextKind}
use Rattle.clif_lex.specs.declared.faults.TextKind.TheVariants as kind
use Rattle.clif_lex.specs.Lexing.{tokens_of}
use Rattle.token_reader.specs.Next.{spot_or}
use Rattle.clif_read.specs.declared.raw.RawModule.{RawModule}
use Rattle.clif_read.specs.ModuleGrammar.{module_rule}
use Rattle.clif_read.specs.Texts.{IsFirstFault, Broken, Stopped}
use Rattle.clif_names.proofs.FaultLaws as names_laws
use Rattle.clif_meaning.proofs.OneMeaning.{one_meaning}
use Rattle.clif_meaning.specs.Spots.{spots, spot_of}
use Rattle.ir_core.specs.Module.{Module}
use Rattle.ir_core.specs.declared.places.Item.{Item}
use Rattle.ir_core.proofs.Gets.{some_same}
use Rattle.ir_check.specs.Faults as rules
use Rattle.ir_check.proofs.Firsts.{at_most_one}
use Rattle.clif_check.specs.Faults.{FirstOfRaw, BreaksRule, kind_of}
use Rattle.clif_check.specs.Laws.{OneFirstFault}
use Rattle.clif_check.proofs.Stages.{one_raw, read_is_faultless}

-- ---- tokens and syntax

abbrev pub as_text : Kind → TextKind
as_text grammar.Syntax = kind.Syntax
as_text grammar.UnknownOpcode = kind.UnknownOpcode
as_text grammar.Unsupported = kind.Unsupported

as_broken : (ts : List Lexeme) (end : ℕ) (k : TextKind) (spot : ℕ) → Stopped ts end (errors.Fault k spot) → (j : Kind) × (k ≡ as_text j) × Broken ts end j spot
as_broken ts end kind.Syntax spot broken = (grammar.Syntax, refl, broken)
as_broken ts end kind.UnknownOpcode spot broken = (grammar.UnknownOpcode, refl, broken)
as_broken ts end kind.Unsupported spot broken = (grammar.Unsupported, refl, broken)
as_broken ts end k spot broken = absurd broken

broken_once : (ts : List Lexeme) (end : ℕ) (j i : Kind) (s t : ℕ) → Broken ts end j s → Broken ts end i t → (j ≡ i) × (s ≡ t)
broken_once ts end j i s t (none, (us, rest, cut, (begins, stops, at))) (other, (ws, more, split, (begun, stopped, there))) =
    let one = one_stop module_rule us rest ws more j i (sym cut ∙ split) begins stops begun stopped in
    (one.0, at ∙ (ap (spot_or end) one.1 ∙ sym there))

unread_once : (text : List ℕ) (read : Result (List Token) LexErr) (k l : TextKind) (s t : ℕ) → IsFirstFault text read (errors.Fault k s) → IsFirstFault text read (errors.Fault l t) → (k ≡ l) × (s ≡ t)
unread_once text (Ok tokens) k l s t p q =
    let a = as_broken _ _ k s p in
    let b = as_broken _ _ l t q in
    let one = broken_once _ _ a.0 b.0 s t a.2 b.2 in
    (a.1 ∙ (ap as_text one.0 ∙ sym b.1), one.1)
unread_once text (Err fault) k l s t p q = let e : errors.Fault k s ≡ errors.Fault l t = p ∙ sym q in (cc, cc)

-- ---- rules

broken_rule_once : (raw : RawModule) (k l : TextKind) (s t : ℕ) → BreaksRule raw k s → BreaksRule raw l t → (k ≡ l) × (s ≡ t)
broken_rule_once raw k l s t p q =
    let same : p.meant ≡ q.meant = one_meaning raw p.meant q.meant p.free p.means q.means in
    let first : rules.FirstFault p.meant q.func q.item q.rule = subst (λ (m : Module). rules.FirstFault m q.func q.item q.rule) (sym same) q.first in
    let one = at_most_one p.meant p.func q.func p.item q.item p.rule q.rule p.first first in
    let spot : spot_of (spots raw) p.func p.item ≡ spot_of (spots raw) q.func q.item =
    ap (λ (n : ℕ). spot_of (spots raw) n p.item) one.0 ∙ ap (λ (i : Item). spot_of (spots raw) q.func i) one.1 in
    (p.kind_is ∙ (ap kind_of one.2 ∙ sym q.kind_is), some_same (sym p.spot_is ∙ (spot ∙ q.spot_is)))

raw_once : (raw : RawModule) (k l : TextKind) (s t : ℕ) → FirstOfRaw raw k s → FirstOfRaw raw l t → (k ≡ l) × (s ≡ t)
raw_once raw k l s t (inl p) (inl q) = names_laws.one_first_fault raw k l s t p q
raw_once raw k l s t (inl p) (inr q) = absurd (q.free k s p.0)
raw_once raw k l s t (inr p) (inl q) = absurd (p.free l t q.0)
raw_once raw k l s t (inr p) (inr q) = broken_rule_once raw k l s t p q

-- ---- the law

pub one_first_fault : OneFirstFault
one_first_fault text k l s t (inl p) (inl q) = unread_once text (tokens_of text) k l s t p q
one_first_fault text k l s t (inl p) (inr q) = absurd (read_is_faultless text q.0 k s q.1 p)
one_first_fault text k l s t (inr p) (inl q) = absurd (read_is_faultless text p.0 l t p.1 q)
one_first_fault text k l s t (inr p) (inr q) =
    raw_once p.0 k l s t p.2 (subst (λ (r : RawModule). FirstOfRaw r l t) (one_raw text q.0 p.0 q.1 p.1) q.2)

-- An accepted text has no fault at any stage.
use Rattle.std.proofs.Common.{◌≡◌, ℕ, List, Result, Ok, Err, inl, inr, sym, ap, subst, ◌∙◌}
use Rattle.std.specs.Prelude.{IfOk, IfErr, IsSome}
use Rattle.grammar.specs.Rules.{Lexeme}
use Rattle.clif_lex.specs.declared.spans.Token.{Token}
use Rattle.clif_lex.specs.declared.faults.LexErr.{LexErr}
use Rattle.clif_lex.specs.declared.faults.TextErr.{TextErr}
use Rattle.clif_lex.specs.declared.faults.TextErr.TheVariants as errors
use Rattle.clif_lex.specs.declared.faults.TextKind.{TextKind}
use Rattle.clif_lex.specs.declared.faults.TextKind.TheVariants as kind
use Rattle.clif_lex.specs.Lexing.{tokens_of}
use Rattle.clif_words.specs.Lexemes.{lexemes}
use Rattle.clif_read.specs.declared.raw.RawModule.{RawModule}
use Rattle.clif_read.specs.ModuleValues.{module_value}
use Rattle.clif_read.specs.Texts.{IsModuleText, IsFirstFault, IsFaultOf}
use Rattle.clif_read.specs.Texts.{IsModule, NoModule, Stopped}
use Rattle.clif_names.specs.Faults.{NoFault}
use Rattle.clif_meaning.specs.Meaning.{Means}
use Rattle.clif_meaning.proofs.OneMeaning.{one_meaning}
use Rattle.ir_core.specs.Module.{Module}
use Rattle.ir_semantics.specs.Accepted.{Accepted, Rule}
use Rattle.clif_meaning.specs.Spots.{Spots, spots, spot_of}
use Rattle.ir_core.specs.declared.places.Item.{Item}
use Rattle.ir_check.specs.declared.checking.CheckErr.{CheckErr}
use Rattle.ir_check.specs.declared.checking.CheckErr.TheVariants as checked
use Rattle.ir_check.specs.Faults as rules
use Rattle.ir_check.specs.Kinds.{rule_of}
use Rattle.ir_check.specs.Refusal.{IsRefusal}
use Rattle.ir_check.proofs.Firsts.{accepted_has_none}
use Rattle.clif_check.specs.Faults.{IsAccepted, IsAcceptedRaw, IsFault, IsRawFault, FirstOfRaw, HasSpot, IsErrOf}
use Rattle.clif_check.specs.Laws.{AcceptedHasNoFault, OneModule}

-- ---- one raw module

pub one_raw : (text : List ℕ) (a b : RawModule) → IsModuleText text a → IsModuleText text b → a ≡ b
one_raw text a b p q =
    let same : p.tokens ≡ q.tokens = (let e = sym p.lexed ∙ q.lexed in cc) in
    let other : IsModule (lexemes text p.tokens) b = subst (λ (ts : List Token). IsModule (lexemes text ts) b) (sym same) q.read in
    p.read.2 ∙ ap module_value (sym (p.read.3 other.0 other.1)) ∙ sym other.2

-- ---- no fault of the tokens or the syntax

stopped_is_none : (ts : List Lexeme) (end : ℕ) (k : TextKind) (spot : ℕ) → Stopped ts end (errors.Fault k spot) → NoModule ts
stopped_is_none ts end kind.Syntax spot broken = broken.0
stopped_is_none ts end kind.UnknownOpcode spot broken = broken.0
stopped_is_none ts end kind.Unsupported spot broken = broken.0
stopped_is_none ts end k spot broken = absurd broken

pub read_is_faultless : (text : List ℕ) (raw : RawModule) (k : TextKind) (spot : ℕ) → IsModuleText text raw → IsFirstFault text (tokens_of text) (errors.Fault k spot) → ⊥
read_is_faultless text raw k spot is fault =
    let stopped : Stopped (lexemes text is.tokens) _ (errors.Fault k spot) = subst (λ (r : Result (List Token) LexErr). IsFirstFault text r (errors.Fault k spot)) is.lexed fault in
    stopped_is_none _ _ k spot stopped is.read.0 is.read.1

-- ---- no fault of the names, and no rule that is not kept

pub meant_is_faultless : (raw : RawModule) (m : Module) (k : TextKind) (spot : ℕ) → NoFault raw → Means raw m → Accepted m → FirstOfRaw raw k spot → ⊥
meant_is_faultless raw m k spot free means accepted (inl wrong) = free k spot wrong.0
meant_is_faultless raw m k spot free means accepted (inr breaks) =
    let same : m ≡ breaks.meant = one_meaning raw m breaks.meant free means breaks.means in
    accepted_has_none breaks.meant breaks.func breaks.item breaks.rule (subst Accepted same accepted) breaks.first

-- ---- the laws

pub accepted_has_no_fault : AcceptedHasNoFault
accepted_has_no_fault text m k spot accepted (inl unread) = read_is_faultless text accepted.reads.0 k spot accepted.reads.1 unread
accepted_has_no_fault text m k spot accepted (inr wrong) =
    let reads = accepted.reads in
    let first : FirstOfRaw reads.0 k spot = subst (λ (r : RawModule). FirstOfRaw r k spot) (one_raw text wrong.0 reads.0 wrong.1 reads.1) wrong.2 in
    meant_is_faultless reads.0 m k spot reads.2 reads.3 accepted.accepted first

pub one_module : OneModule
one_module text m n p q =
    let a = p.reads in let b = q.reads in
    let means : Means a.0 n = subst (λ (r : RawModule). Means r n) (one_raw text b.0 a.0 b.1 a.1) b.3 in
    one_meaning a.0 m n a.2 a.3 means

-- ---- from a raw module to its text

pub unread_is_fault : (text : List ℕ) (e : TextErr) → IsFaultOf text e → IsFault text e
unread_is_fault text (errors.Fault k spot) (inl none) = absurd cc
unread_is_fault text (errors.Fault k spot) (inr fault) = inl fault
unread_is_fault text errors.NoMemory fault = tt

pub accepted_text : {E : Type 0} (text : List ℕ) (raw : RawModule) (r : Result Module E) → IsModuleText text raw → IfOk r (λ m. IsAcceptedRaw raw m) → IfOk r (λ m. IsAccepted text m)
accepted_text text raw (Ok m) is h = record { reads = (raw, is, h.free, h.means); accepted = h.accepted }
accepted_text text raw (Err e) is h = tt

pub fault_of_text : {T : Type 0} (text : List ℕ) (raw : RawModule) (r : Result T TextErr) → IsModuleText text raw → IfErr r (λ e. IsRawFault raw e) → IfErr r (λ e. IsFault text e)
fault_of_text text raw (Ok v) is h = tt
fault_of_text text raw (Err (errors.Fault k spot)) is h = inr (raw, is, h)
fault_of_text text raw (Err errors.NoMemory) is h = tt

-- the item that the first fault of a module names stands somewhere, where all do
pub refused_has_spot : (m : Module) (places : List Spots) (err : CheckErr) → ((func : ℕ) (item : Item) (rule : Rule) → rules.FirstFault m func item rule → IsSome (spot_of places func item)) → IsRefusal m err → HasSpot places err
refused_has_spot m places (checked.Fault kind func item) standing refused = standing func item (rule_of kind) refused
refused_has_spot m places checked.NoMemory standing refused = tt

-- the first rule that a module does not keep is the first fault of the raw module that means it
pub rule_is_fault : (raw : RawModule) (m : Module) (err : CheckErr) (e : TextErr) → NoFault raw → Means raw m → IsRefusal m err → IsErrOf (spots raw) err e → IsRawFault raw e
rule_is_fault raw m (checked.Fault kind func item) (errors.Fault k spot) free means refused is =
    inr (record { free = free; meant = m; means = means; func = func; item = item; rule = rule_of kind; first = refused; kind_is = is.0; spot_is = is.1 })
rule_is_fault raw m checked.NoMemory (errors.Fault k spot) free means refused is = absurd is
rule_is_fault raw m err errors.NoMemory free means refused is = tt

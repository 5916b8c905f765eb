-- A splice of two functions that are accepted alone: what it takes from a module is the callee's signature, and what
-- declarations state.
use Rattle.std.proofs.Common.{◌≡◌, ℕ, inl, inr, [], ◌∷◌, Some, None, refl, sym, ap, ◌∙◌, subst}
use Rattle.std.specs.Prelude.{slice_get}
use Rattle.ir_core.specs.declared.names.FuncName.{FuncName}
use Rattle.ir_core.specs.declared.declarations.Callee.{Callee}
use Rattle.ir_core.specs.declared.places.Item.TheVariants as item
use Rattle.ir_core.specs.Module.{Function, Module}
use Rattle.ir_core.specs.Lookup.{find_function, definitions, block_numbers}
use Rattle.ir_core.specs.WellFormed.{WellFormed}
use Rattle.ir_core.proofs.Gets.{some_same, in_get}
use Rattle.ir_core.proofs.Equal.{cases_name}
use Rattle.ir_semantics.specs.Accepted.{RulesHold, HoldsAtCallee, Rule, signature_mismatch}
use Rattle.ir_semantics.specs.CallRules.{Declared}
use Rattle.ir_semantics.specs.Canon.{canonical, canonical_names, SameFunction}
use Rattle.ir_semantics.specs.Import.{sigs_after}
use Rattle.ir_semantics.specs.Splice.{Splicing, sides, spliced}
use Rattle.inline_outcomes.proofs.Related.{Distinct}
use Rattle.inline_outcomes.proofs.Linking.{distinct_sides}
use Rattle.inline_outcomes.proofs.Merging.{own_sig, other_sig}
use Rattle.inline_outcomes.proofs.Functions.{function_hit, function_skip}
use Rattle.inline_acceptance.specs.Alone.{AcceptedAlone, AloneParts, CallSite, StatesCaller, SpliceAlone}
use Rattle.inline_outcomes.proofs.Numbering.{place_injective, back_names, back_is_injective, back_rest, canonical_back}
use Rattle.inline_acceptance.proofs.KeptCanon.{back_typed}
use Rattle.inline_acceptance.proofs.KeptNumbers.{renumbered_accepted, canonical_typed}
use Rattle.inline_acceptance.proofs.KeptTypes.{Apart, apart_sides}
use Rattle.inline_acceptance.proofs.KeptLines.{Setting}
use Rattle.inline_acceptance.proofs.KeptFunctions.{sound, out_accepted, declaration_of}
use Rattle.inline_acceptance.proofs.KeptModules.{out_whole}

-- ---- the module that has one function

alone_accepted : (f : Function) → AcceptedAlone f → RulesHold (f ∷ []) f
alone_accepted f ok = ok f (inl refl)

found_alone : (n : FuncName) (f h : Function) → find_function n (f ∷ []) ≡ Some h → (f.name ≡ n) × (h ≡ f)
found_alone n f h q =
    elim (cases_name f.name n) [
      | inl e ↦ (e, some_same (sym q ∙ function_hit n f [] e))
      | inr e ↦ let none : None ≡ Some h = sym (function_skip n f [] e) ∙ q in cc
    ]

-- ---- rules that speak of no other function

free_callee : (f : Function) (c : Callee) (rule : Rule) → HoldsAtCallee [] f c rule
free_callee f c signature_mismatch = λ h q. cc
free_callee f c _ = tt

free : (m : Module) (f : Function) → RulesHold m f → RulesHold [] f
free m f ok item.Whole rule = tt
free m f ok (item.Callee k) rule = λ c get. free_callee f c rule
free m f ok (item.Block b) rule = ok (item.Block b) rule
free m f ok (item.Inst at) rule = ok (item.Inst at) rule

-- whole, and every rule that speaks of no other function holds
pub record Free (f : Function) : Type 0 where
  pub whole : WellFormed f
  pub accepted : RulesHold [] f

pub free_of : (m : Module) (f : Function) → WellFormed f → RulesHold m f → Free f
free_of m f whole ok = record { whole = whole; accepted = free m f ok }

none_declared : (name : FuncName) (h' : Function) → find_function name [] ≡ Some h' → (h : Function) × (find_function name [] ≡ Some h) × (h.sig ≡ h'.sig)
none_declared name h' q = cc

free_to_canonical : (f : Function) → Free f → RulesHold [] (canonical f)
free_to_canonical f ok =
    renumbered_accepted [] [] none_declared f (canonical f) (canonical_names f) (place_injective (definitions f.blocks)) (place_injective (block_numbers f.blocks)) (λ k. (refl, refl, refl)) (record { sig = refl; slots = refl; sigs = refl; callees = refl; blocks = refl }) (canonical_typed f ok.whole) ok.accepted

free_from_canonical : (f : Function) → WellFormed f → RulesHold [] (canonical f) → RulesHold [] f
free_from_canonical f w ok =
    let inj = back_is_injective f w in
    renumbered_accepted [] [] none_declared (canonical f) f (back_names f) inj.0 inj.1 (back_rest f) (record { sig = refl; slots = refl; sigs = refl; callees = refl; blocks = sym (canonical_back f w) }) (back_typed f w) ok

pub free_same : (f g : Function) → SameFunction f g → Free f → Free g
free_same f g same ok = record { whole = same.1; accepted = free_from_canonical g same.1 (subst (RulesHold []) same.2 (free_to_canonical f ok)) }

-- ---- the splice

module _ (S : Splicing) (named : S.naming ≡ sides) (site : CallSite S) (caller : Free S.caller) (callee : Free S.callee) where
  pub setting_free : Setting [] S
  setting_free =
      record {
        names = subst Distinct (sym named) distinct_sides;
        news = subst Apart (sym named) apart_sides;
        site = site;
        f_ok = sound [] S.caller caller.accepted caller.whole;
        g_ok = sound [] S.callee callee.accepted callee.whole;
        f_accepted = caller.accepted;
        g_accepted = callee.accepted;
        f_whole = caller.whole;
        g_whole = callee.whole;
      }

  -- it states no other function
  pub splice_free : Free (spliced S)
  splice_free = record { whole = out_whole [] S setting_free; accepted = out_accepted [] S setting_free [] (λ k c get h q. cc) }

module _ (S : Splicing) (named : S.naming ≡ sides) (site : CallSite S) (parts : AloneParts S) where
  caller_free : Free S.caller
  caller_free = free_of (S.caller ∷ []) S.caller parts.caller_whole (alone_accepted S.caller parts.caller_accepted)

  callee_free : Free S.callee
  callee_free = free_of (S.callee ∷ []) S.callee parts.callee_whole (alone_accepted S.callee parts.callee_accepted)

  setting_alone : Setting [] S
  setting_alone = setting_free S named site caller_free callee_free

  states : StatesCaller S → (k : ℕ) (c : Callee) → slice_get (spliced S).callees k ≡ Some c → Declared (spliced S ∷ []) (spliced S) c
  states said k c get h q =
      let there = found_alone c.name (spliced S) h q in
      elim (declaration_of [] S setting_alone k c get) [
        | inl p ↦
            let j = in_get S.caller.callees c p in
            own_sig S.caller S.callee c.sig S.caller.sig (alone_accepted S.caller parts.caller_accepted (item.Callee j.0) signature_mismatch c j.1 S.caller (function_hit c.name S.caller [] there.0)) ∙ ap (λ z. Some z.sig) (sym there.1)
        | inr d ↦
            let name : d.0.name ≡ S.caller.name = ap (λ z. z.name) (sym d.2) ∙ sym there.0 in
            ap (λ z. slice_get (sigs_after S.caller S.callee) z.sig) d.2 ∙ (other_sig S.caller S.callee d.0.sig S.caller.sig (said d.0 d.1 name) ∙ ap (λ z. Some z.sig) (sym there.1))
      ]

  pub alone_whole_and_accepted : WellFormed (spliced S) × (StatesCaller S → AcceptedAlone (spliced S))
  alone_whole_and_accepted = (
    out_whole [] S setting_alone,
    λ said h p. elim p [
      | inl e ↦ subst (RulesHold (spliced S ∷ [])) (sym e) (out_accepted [] S setting_alone (spliced S ∷ []) (states said))
      | inr i ↦ elim i [ ]
    ],
  )

pub splice_alone : SpliceAlone
splice_alone S named site parts = alone_whole_and_accepted S named site parts

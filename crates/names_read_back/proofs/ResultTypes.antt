-- The types that a form gives to its results are those of a line's results.
use Rattle.std.proofs.Common.{◌≡◌, ℕ, Bool, true, false, List, [], ◌∷◌, map, Option, Some, None, refl, sym, ap₂, subst, ◌∙◌}
use Rattle.std.specs.Prelude.{IsSomeAnd}
use Rattle.clk_num.specs.declared.op.Op.{Op}
use Rattle.clk_num.specs.declared.width.Width.{Width}
use Rattle.ir_core.specs.declared.signatures.Sig.{Sig}
use Rattle.ir_core.specs.declared.signatures.Ty.{Ty}
use Rattle.ir_core.specs.Lookup.{type_of, signature_of, param_types}
use Rattle.ir_core.specs.Module.{Simple, CallTarget, Instruction, Line, Function}
use Rattle.ir_core.specs.Module as insts
use Rattle.ir_semantics.specs.Renaming.{Renaming, simple_under, called_under, instruction_under}
use Rattle.ir_semantics.proofs.SafetyPlaces.{some_and}
use Rattle.ir_text.specs.Numbering.{Numbering}
use Rattle.ir_text.specs.Writable.{conversion, result_types, OpForm, ResultTypes, SimpleForm, InstructionForm}
use Rattle.clif_meaning.specs.Instructions.{kept_type}
use Rattle.clif_meaning.specs.Meaning.{operation_types, simple_types, sig_results, form_types, types_for}
use Rattle.text_read_back.specs.RawOf as raws

-- a type that is kept is the one that a reader takes
pub kept_is : (b : Bool) (u t : Ty) → kept_type b u ≡ Some t → u ≡ t
kept_is true u t e = cc
kept_is false u t e = absurd cc

abbrev pub some_type : Ty → Option Ty
some_type t = Some t

-- u is the type that a reader takes for the line, and g has the signatures of what f's calls call
module _ (f g : Function) (r : Renaming) (same : (t : CallTarget) → signature_of g (called_under r t) ≡ signature_of f t)
    (l : Line) (u : Ty) (kept : (t : Ty) → l.ty ≡ Some t → u ≡ t) where
  by_type : (ts : Ty → List Ty) → IsSomeAnd l.ty (λ t. ResultTypes f l.results (ts t)) → ResultTypes f l.results (ts u)
  by_type ts h = let t = some_and l.ty (λ t. ResultTypes f l.results (ts t)) h in subst (λ (x : Ty). ResultTypes f l.results (ts x)) (sym (kept t.0 t.1)) t.2

  pure_types : (o : Op) (c : Option Width) → OpForm f l o c → ResultTypes f l.results (operation_types o u c)
  pure_types o None h = by_type (result_types o) h
  pure_types o (Some w) h = h.1

  simple_are : (i : Simple) → SimpleForm f l i → ResultTypes f l.results (simple_types (simple_under r i) u)
  simple_are insts.Nop h = h.1
  simple_are (insts.Const d) h = h.2
  simple_are (insts.Pure o args) h = pure_types o (conversion o) h.1
  simple_are (insts.PureImm o x d) h = by_type (result_types o) h.3
  simple_are (insts.Load a flags p z) h = h.3
  simple_are (insts.Store narrow flags x p z) h = h.4
  simple_are (insts.StackLoad t slot z) h = h.2
  simple_are (insts.StackStore x slot z) h = h.2
  simple_are (insts.FuncAddr callee) h = h.1
  simple_are (insts.Trap code) h = h.2
  simple_are (insts.Trapz x code) h = h.2
  simple_are (insts.Trapnz x code) h = h.2

  pub form_types_are : (i : Instruction) → InstructionForm f l i → ResultTypes f l.results (form_types g (instruction_under r i) u)
  form_types_are (insts.Plain i) h = simple_are i h
  form_types_are (insts.Branches b) h = h.2
  form_types_are insts.SequencePoint h = h.1
  form_types_are (insts.Return vs) h = h.1
  form_types_are (insts.Call t args) h =
      let s = some_and (signature_of f t) (λ (s : Sig). ResultTypes f l.results (param_types s.results)) h.1 in
      subst (λ (o : Option Sig). ResultTypes f l.results (sig_results o)) (sym (same t ∙ s.1)) s.2
  form_types_are (insts.ReturnCall t args) h = h.1
  form_types_are (insts.TryCall t sig args normal table) h = h.3

pub results_typed : (f : Function) (n : Numbering) (vs : List ℕ) (ts : List Ty) → ResultTypes f vs ts → map (type_of f) vs ≡ map some_type (types_for (raws.values n vs) ts)
results_typed f n [] ts h = refl
results_typed f n (v ∷ vs) [] h = ap₂ (λ (x : Option Ty) (xs : List (Option Ty)). x ∷ xs) h.0 (results_typed f n vs [] h.1)
results_typed f n (v ∷ vs) (t ∷ ts) h = ap₂ (λ (x : Option Ty) (xs : List (Option Ty)). x ∷ xs) h.0 (results_typed f n vs ts h.1)

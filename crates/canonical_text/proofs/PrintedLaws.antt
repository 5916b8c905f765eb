-- What is left of functions that are printed one behind the other.
use Rattle.std.proofs.Common.{◌≡◌, ℕ, List, [], ◌∷◌, ◌++◌, Option, None, Some, drop, refl, sym, ap, ap₂, ◌∙◌, append_assoc}
use Rattle.std.specs.Prelude.{IfSome}
use Rattle.std.proofs.lemmas.List.{append-nil, map-append}
use Rattle.ir_core.specs.Edits.{Body, head_of}
use Rattle.ir_core.specs.Module.{Function, Module}
use Rattle.ir_core.specs.Sound.{IsWhole}
use Rattle.ir_text.specs.TextTree.{spelled}
use Rattle.ir_text.specs.Text.{more_functions, text_of, function_text_of}
use Rattle.clif_read.specs.declared.raw.RawFunction.{RawFunction}
use Rattle.clif_names.specs.FunctionNames.{NoFunctionFault}
use Rattle.clif_meaning.specs.Meaning.{FunctionMeans}
use Rattle.clif_check.specs.Declarations.{KeepsOwnRules}
use Rattle.clif_check.proofs.MeantLaws.{meant_join}
use Rattle.text_output.specs.Output.{Start, Puts}
use Rattle.text_output.proofs.Puts.{nothing, ◌▸◌}
use Rattle.canonical_text.specs.Printed.{ArePrinted, PutsPrinted}

-- ---- texts of further functions

one_text : (f : Function) → 10 ∷ function_text_of f ≡ spelled (more_functions (f ∷ []))
one_text f = ap (λ (l : List ℕ). 10 ∷ l) (sym (append-nil (function_text_of f)))

texts_join : (fs gs : Module) → spelled (more_functions (fs ++ gs)) ≡ spelled (more_functions fs) ++ spelled (more_functions gs)
texts_join [] gs = refl
texts_join (f ∷ fs) gs =
    ap (λ (l : List ℕ). 10 ∷ l)
    (ap (λ (l : List ℕ). function_text_of f ++ l) (texts_join fs gs) ∙ sym (append_assoc (function_text_of f) (spelled (more_functions fs)) (spelled (more_functions gs))))

-- the text of a module is that of all its functions as further ones, without its first byte
pub but_first : (m : Module) → drop 1 (spelled (more_functions m)) ≡ text_of m
but_first [] = refl
but_first (f ∷ m) = refl

-- ---- what is left

pub none_printed : ArePrinted [] [] []
none_printed = record { functions = []; meant = record { free = tt; mean = tt; whole = tt; own = tt }; headed = refl; written = refl }

one_printed : (r : RawFunction) (f : Function) (head : Body) → NoFunctionFault r → FunctionMeans r f → IsWhole f → KeepsOwnRules f → head.function ≡ head_of f
    → ArePrinted (r ∷ []) (head ∷ []) (10 ∷ function_text_of f)
one_printed r f head free means whole own is = record {
  functions = f ∷ [];
  meant = record { free = (free, tt); mean = (means, tt); whole = (whole, tt); own = (own, tt) };
  headed = ap (λ (g : Function). g ∷ []) is;
  written = one_text f;
}

pub printed_join : (rs ss : List RawFunction) (hs is : List Body) (s t : List ℕ) → ArePrinted rs hs s → ArePrinted ss is t → ArePrinted (rs ++ ss) (hs ++ is) (s ++ t)
printed_join rs ss hs is s t p q = record {
  functions = p.functions ++ q.functions;
  meant = meant_join rs ss p.functions q.functions p.meant q.meant;
  headed =
      map-append (λ (b : Body). b.function) hs is
      ∙ (ap₂ (λ (ms ns : List Function). ms ++ ns) p.headed q.headed ∙ sym (map-append head_of p.functions q.functions));
  written = ap₂ (λ (u v : List ℕ). u ++ v) p.written q.written ∙ sym (texts_join p.functions q.functions);
}

-- ---- what is put

pub puts_none : {S : Type 0} {H : Start → S → List ℕ → Type 0} {a : S} → PutsPrinted H a a [] []
puts_none {S} {H} {a} = record { text = []; puts = nothing; printed = none_printed }

pub puts_found : {S : Type 0} (H : Start → S → List ℕ → Type 0) (a b : S) (r : RawFunction) (f : Function) (found : Option Body) → NoFunctionFault r → FunctionMeans r f → IsWhole f
    → IfSome found (λ head. KeepsOwnRules f) → IfSome found (λ head. head.function ≡ head_of f) → IfSome found (λ head. Puts H a b (10 ∷ function_text_of f))
    → IfSome found (λ head. PutsPrinted H a b (r ∷ []) (head ∷ []))
puts_found H a b r f None free means whole own is put = tt
puts_found H a b r f (Some head) free means whole own is put =
    record { text = 10 ∷ function_text_of f; puts = put; printed = one_printed r f head free means whole own is }

pub puts_join : {S : Type 0} {H : Start → S → List ℕ → Type 0} {a b c : S} (rs ss : List RawFunction) (hs is : List Body)
    → PutsPrinted H a b rs hs → PutsPrinted H b c ss is → PutsPrinted H a c (rs ++ ss) (hs ++ is)
puts_join {S} {H} {a} {b} {c} rs ss hs is p q =
    record { text = p.text ++ q.text; puts = p.puts ▸ q.puts; printed = printed_join rs ss hs is p.text q.text p.printed q.printed }

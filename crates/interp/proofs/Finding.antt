-- What a call of a callee declaration finds.
use Rattle.std.proofs.Common.{◌≡◌, ℕ, ◌<◌, ◌≤◌, List, length, Option, Some, None, slice_get, get_or, ap, ◌∙◌, sym}
use Rattle.std.proofs.lemmas.Option.{slice_get_past, slice_get-get_or}
use Rattle.ir_core.specs.declared.declarations.Callee.{Callee}
use Rattle.ir_core.specs.declared.signatures.Sig.{Sig}
use Rattle.ir_core.specs.Module.{Function, Module}
use Rattle.ir_core.specs.Lookup.{find_function}
use Rattle.ir_semantics.specs.Effect.{ByName}
use Rattle.ir_semantics.specs.Step.{Missing, or_missing, by_name, found}
use Rattle.interp.specs.State.{function_at}
use Rattle.interp.proofs.Entering.{at_past, at_found}

no_callee : (m : Module) (f : Function) (k : ℕ) → slice_get f.callees k ≡ None → Missing ≡ found m f (ByName k)
no_callee m f k h = sym (ap (λ o. or_missing o (λ c. or_missing (slice_get f.sigs c.sig) (λ sig. by_name (find_function c.name m) c.name sig))) h)

pub missing_past : (m : Module) (at k : ℕ) → length m ≤ at → Missing ≡ found m (function_at m at) (ByName k)
missing_past m at k h = no_callee m (function_at m at) k (ap (λ (f : Function). slice_get f.callees k) (at_past m at h))

pub missing_callee : (m : Module) (at k : ℕ) (f : Function) (cs : List Callee) → slice_get m at ≡ Some f → cs ≡ f.callees → length cs ≤ k → Missing ≡ found m (function_at m at) (ByName k)
missing_callee m at k f cs e ec h = no_callee m (function_at m at) k (ap (λ (g : Function). slice_get g.callees k) (at_found m at f e) ∙ (ap (λ ds. slice_get ds k) (sym ec) ∙ slice_get_past cs k h))

the_callee : (m : Module) (f : Function) (k : ℕ) (c : Callee) (sig : Sig) (o : Option Function) → slice_get f.callees k ≡ Some c → slice_get f.sigs c.sig ≡ Some sig → find_function c.name m ≡ o → by_name o c.name sig ≡ found m f (ByName k)
the_callee m f k c sig o ec es eo =
    sym (ap (λ q. or_missing q (λ c. or_missing (slice_get f.sigs c.sig) (λ sig. by_name (find_function c.name m) c.name sig))) ec
    ∙ (ap (λ q. or_missing q (λ sig. by_name (find_function c.name m) c.name sig)) es
    ∙ ap (λ q. by_name q c.name sig) eo))

-- the same as code finds it
pub found_callee : (m : Module) (at k n : ℕ) (f : Function) (cs : List Callee) (ss : List Sig) (c : Callee) (s : ℕ) (sig ds : Sig) (o : Option Function) → slice_get m at ≡ Some f → cs ≡ f.callees → ss ≡ f.sigs → n ≡ k → n < length cs → c ≡ get_or cs n c → s ≡ c.sig → s < length ss → sig ≡ get_or ss s ds → find_function c.name m ≡ o → by_name o c.name sig ≡ found m (function_at m at) (ByName k)
found_callee m at k n f cs ss c s sig ds o e ec es en lt cq sq slt sigq link =
    the_callee m f k c sig o
    (ap (λ j. slice_get f.callees j) (sym en) ∙ (ap (λ xs. slice_get xs n) (sym ec) ∙ (slice_get-get_or cs n c lt ∙ ap Some (sym cq))))
    (ap (λ j. slice_get f.sigs j) (sym sq) ∙ (ap (λ xs. slice_get xs s) (sym es) ∙ (slice_get-get_or ss s ds slt ∙ ap Some (sym sigq))))
    link
    ∙ ap (λ g. found m g (ByName k)) (sym (at_found m at f e))

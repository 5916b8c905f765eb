-- The index of a function's declarations, and what a caller takes over from a callee.
use Rattle.std.specs.Prelude.{◌≡◌, ℕ, ◌+◌, ◌<◌, ◌≤◌, List, ◌++◌, length, map, get_or, Some}
use Rattle.ir_core.specs.declared.signatures.Sig.{Sig}
use Rattle.ir_core.specs.declared.declarations.Callee.{Callee}
use Rattle.ir_core.specs.Module.{Function}
use Rattle.ir_core.specs.Lists.{Each, Below}
use Rattle.ir_semantics.specs.Import.{sigs_after, sig_after, callees_after, callee_after}
use Rattle.body_import.specs.declared.declarations.Index.{Index}
use Rattle.body_import.specs.declared.declarations.Keyed.{Keyed}
use Rattle.body_import.specs.declared.declarations.Import.{Import}
use Rattle.body_import.specs.Keys.{Knows}
use Rattle.body_import.specs.SigKeys.{sig_key}
use Rattle.body_import.specs.CalleeKeys.{first_sig, key_among}

-- the places are those of the first of each signature and of each callee declaration of the function
pub record IsKeyedOf (f : Function) (k : Keyed) : Type 0 where
  pub sigs : Knows 0 (map sig_key f.sigs) k.sigs
  pub callees : Knows 0 (map (key_among f.sigs) f.callees) k.callees

-- the index of the function's declarations: where it has places, they are the function's
pub record IsIndexOf (f : Function) (i : Index) : Type 0 where
  pub keyed : (k : Keyed) → i.keyed ≡ Some k → IsKeyedOf f k

-- f with further declarations behind its own
abbrev pub with_declarations : Function → List Sig → List Callee → Function
with_declarations f ss cs = record f { sigs = f.sigs ++ ss; callees = f.callees ++ cs }

-- f's own callee declarations name its signatures, and each further one the first place of its own
pub record CanExtend (f : Function) (ss : List Sig) (cs : List Callee) : Type 0 where
  pub in_range : Each (λ (c : Callee). c.sig < length f.sigs) f.callees
  pub first : Each (λ (c : Callee). first_sig (f.sigs ++ ss) c.sig ≡ c.sig) cs

-- how many signatures and callee declarations the caller has then
abbrev pub sig_count : Function → Import → ℕ
sig_count f i = length f.sigs + length i.sigs.added

abbrev pub callee_count : Function → Import → ℕ
callee_count f i = length f.callees + length i.callees.added

-- what f takes over from g: what is appended, and the number of each of g's
pub record IsImportOf (f g : Function) (i : Import) : Type 0 where
  pub sigs : sigs_after f g ≡ f.sigs ++ i.sigs.added
  pub sig : (k : ℕ) → sig_after f g k ≡ get_or i.sigs.table k (sig_count f i)
  pub callees : callees_after f g ≡ f.callees ++ i.callees.added
  pub callee : (k : ℕ) → callee_after f g k ≡ get_or i.callees.table k (callee_count f i)
  pub sig_table : length i.sigs.table ≡ length g.sigs
  pub callee_table : length i.callees.table ≡ length g.callees
  pub sigs_below : Below (sig_count f i) i.sigs.table
  pub callees_below : Below (callee_count f i) i.callees.table
  pub in_range : Each (λ (c : Callee). c.sig < sig_count f i) i.callees.added
  pub first : Each (λ (c : Callee). first_sig (f.sigs ++ i.sigs.added) c.sig ≡ c.sig) i.callees.added
  pub fewer_sigs : length i.sigs.added ≤ length g.sigs
  pub fewer_callees : length i.callees.added ≤ length g.callees

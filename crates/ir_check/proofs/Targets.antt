-- Targets and the blocks that they name.
use Rattle.std.proofs.Common.{◌≡◌, ℕ, zero, suc, ◌<◌, List, [], ◌∷◌, length, map, Option, Some, Bool, true, false, ◌&&◌, not, refl, sym, ap, subst, ◌∙◌, eq-eqb, ne_eqb}
use Rattle.std.specs.Prelude.{slice_get, nat_eq}
use Rattle.std.specs.List.{list_all}
use Rattle.std.proofs.lemmas.Option.{same_Some}
use Rattle.std.proofs.lemmas.List.{length-map}
use Rattle.ir_core.specs.declared.signatures.Ty.{Ty}
use Rattle.ir_core.specs.declared.instructions.Arg.{Arg}
use Rattle.ir_core.specs.declared.instructions.BlockCall.{BlockCall}
use Rattle.ir_core.specs.Module.{Instruction, Block, Function}
use Rattle.ir_core.specs.Edits.{params_of}
use Rattle.ir_core.specs.Lookup.{find_block, block_numbers}
use Rattle.ir_core.specs.Lists.{In, Below}
use Rattle.ir_core.specs.Sound.{IsSound}
use Rattle.ir_core.specs.Uses.{targets, blocks_used}
use Rattle.ir_core.proofs.Counting.{all_in}
use Rattle.ir_semantics.specs.TypeRules.{arg_type, types_of}
use Rattle.avail_flow.proofs.Blocks.{number_found, found_parts}
use Rattle.avail_flow.proofs.Defining.{params_below}
use Rattle.ir_check.specs.Twins.{some_and, leaves, arg_counts, target_counts, same_types, target_types}

pub block_stands : (f : Function) → IsSound f → (n : ℕ) → n < length f.blocks → In n (block_numbers f.blocks)
block_stands f s n low = all_in (length f.blocks) (block_numbers f.blocks) s.blocks_differ s.block_range (length-map f.blocks (λ (b : Block). b.number)) n low

params_found : (f : Function) → IsSound f → (n k : ℕ) → n < length f.blocks → some_and (find_block n f.blocks) (λ b. nat_eq k (length b.params)) ≡ nat_eq k (length (params_of n f.blocks))
params_found f s n k low =
    let r = number_found n f.blocks (block_stands f s n low) in
    ap (λ o. some_and o (λ (b : Block). nat_eq k (length b.params))) r.1 ∙ ap (λ (z : List ℕ). nat_eq k (length z)) (sym (found_parts n f.blocks r.0 r.1).0)

module _ (f : Function) (s : IsSound f) (results : Option ℕ) (t : BlockCall) (low : t.block < length f.blocks) (args : List Arg) (params : List ℕ) (ea : args ≡ t.args) (ep : params ≡ params_of t.block f.blocks) where
  count_is : some_and (find_block t.block f.blocks) (λ b. nat_eq (length t.args) (length b.params)) ≡ nat_eq (length args) (length params)
  count_is = params_found f s t.block (length t.args) low ∙ (ap (λ z. nat_eq (length z) (length (params_of t.block f.blocks))) (sym ea) ∙ ap (λ (z : List ℕ). nat_eq (length args) (length z)) (sym ep))

  pub counts_equal : length args ≡ length params → (r : Bool) → r ≡ list_all (arg_counts results) args → r ≡ target_counts f results t
  counts_equal e r h =
      h ∙ (ap (list_all (arg_counts results)) ea ∙ sym (ap (λ (z : Bool). z && list_all (arg_counts results) t.args) (count_is ∙ eq-eqb (length args) (length params) e)))

  pub counts_differ : (length args ≡ length params → ⊥) → nat_eq (length args) (length params) ≡ target_counts f results t
  counts_differ ne = ne_eqb (length args) (length params) ne ∙ sym (ap (λ (z : Bool). z && list_all (arg_counts results) t.args) (count_is ∙ ne_eqb (length args) (length params) ne))

pub not_left : (first : ℕ) (t : BlockCall) → t.block ≡ first → leaves first t ≡ false
not_left first t e = ap not (eq-eqb t.block first e)

pub left : (first : ℕ) (t : BlockCall) → (t.block ≡ first → ⊥) → leaves first t ≡ true
left first t ne = ap not (ne_eqb t.block first ne)

-- the block of a target is in range
pub target_below : (n : ℕ) (i : Instruction) (k : ℕ) (t : BlockCall) → Below n (blocks_used i) → slice_get (targets i) k ≡ Some t → t.block < n
target_below n i k t b at = go (targets i) k b at
  where
    go : (ts : List BlockCall) (k : ℕ) → Below n (map (λ (t : BlockCall). t.block) ts) → slice_get ts k ≡ Some t → t.block < n
    go [] k b at = absurd cc
    go (u ∷ ts) zero b at = subst (λ (z : BlockCall). z.block < n) (same_Some u t at) b.0
    go (u ∷ ts) (suc k) b at = go ts k b.1 at

-- ---- their types

pub block_params_below : (f : Function) → IsSound f → (n : ℕ) → n < length f.blocks → (params : List ℕ) → params ≡ params_of n f.blocks → Below (length f.types) params
block_params_below f s n low params e = subst (Below (length f.types)) (sym e) (params_below f s n (block_stands f s n low))

pub target_typed : (f : Function) → IsSound f → (rs ps : List Ty) (t : BlockCall) → t.block < length f.blocks → (args : List Arg) (params : List ℕ) → args ≡ t.args → params ≡ params_of t.block f.blocks → same_types (map (arg_type f rs ps) args) (types_of f params) ≡ target_types f rs ps t
target_typed f s rs ps t low args params ea ep =
    let r = number_found t.block f.blocks (block_stands f s t.block low) in
    let p = (found_parts t.block f.blocks r.0 r.1).0 in
    ap (λ (z : List Arg). same_types (map (arg_type f rs ps) z) (types_of f params)) ea
    ∙ (ap (λ (z : List ℕ). same_types (map (arg_type f rs ps) t.args) (types_of f z)) (ep ∙ p)
    ∙ sym (ap (λ o. some_and o (λ (b : Block). same_types (map (arg_type f rs ps) t.args) (types_of f b.params))) r.1))

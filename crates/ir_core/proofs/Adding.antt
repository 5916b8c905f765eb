-- What the adding calls make of the fields.
use Rattle.std.proofs.Common.{◌≡◌, ℕ, ◌+◌, ◌<◌, List, [], ◌∷◌, ◌++◌, length, get_or, Some, sym, ap, ◌∙◌, subst}
use Rattle.std.specs.Prelude.{slice_get, Result, Ok, Err, OnErr}
use Rattle.std.proofs.Math.ListN.{set}
use Rattle.ir_core.specs.Lookup.{definitions, block_numbers}
use Rattle.ir_core.specs.declared.func.BlockData.{BlockData}
use Rattle.ir_core.specs.declared.func.Func.TheInside.{Inside}
use Rattle.ir_core.specs.Lists.{In}
use Rattle.ir_core.specs.Sound.{IsSound}
use Rattle.ir_core.specs.Edits.{Body, at_block, put_param}
use Rattle.ir_core.specs.Layout.{blocks_in, Laid, IsLaidOut, body_of, function_of}
use Rattle.ir_core.proofs.Keeping.{with_blocks, sound_param, length_param}
use Rattle.ir_core.proofs.Changing.{found, param_laid, param_blocks, held_laid, held_blocks}

pub on_err : {T E : Type 0} (r : Result T E) (P : Type 0) → P → OnErr r P
on_err (Ok x) P p = tt
on_err (Err e) P p = p

module _ (s : Inside) (w : Body) (laid : IsLaidOut s) (is : body_of s ≡ w) (a v : ℕ) (k k' : BlockData) (there : In a (block_numbers w.function.blocks)) (at : k ≡ get_or s.blocks.items a k) (start : k'.start ≡ k.start) (len : k'.len ≡ k.len) (cap : k'.cap ≡ k.cap) (next : k'.next ≡ k.next) where
  old : slice_get s.blocks.items a ≡ Some k
  old = found s w a k laid is there at

  module _ (params : k'.params ≡ k.params) where
    pub held_invariant : (bs : List BlockData) → bs ≡ set s.blocks.items a k' → Laid s.insts.items bs s.first s.last × (blocks_in s.insts.items bs s.first ≡ (function_of s).blocks)
    held_invariant bs e = (
      subst (λ z. Laid s.insts.items z s.first s.last) (sym e) (held_laid s.insts.items s.blocks.items s.first s.last a k k' laid.laid old start len cap next params),
      ap (λ z. blocks_in s.insts.items z s.first) e ∙ held_blocks s.insts.items s.blocks.items s.first s.last a k k' laid.laid old start len cap next params,
    )

  module _ (params : k'.params ≡ k.params ++ (v ∷ [])) (declared : v < length w.function.types) (undefined : In v (definitions w.function.blocks) → ⊥) where
    pub param_put : blocks_in s.insts.items (set s.blocks.items a k') s.first ≡ at_block a (put_param v) (function_of s).blocks
    param_put = param_blocks s.insts.items s.blocks.items s.first s.last a v k k' laid.laid old start len cap next params

    pub param_laid_out : Laid s.insts.items (set s.blocks.items a k') s.first s.last
    param_laid_out = param_laid s.insts.items s.blocks.items s.first s.last a v k k' laid.laid old start len cap next params

    pub param_defined : s.defined + 1 ≡ length (definitions (blocks_in s.insts.items (set s.blocks.items a k') s.first))
    param_defined =
        ap (λ z. z + 1) laid.defined
        ∙ (sym (length_param (function_of s) a v laid.sound (subst (λ z. In a (block_numbers z.function.blocks)) (sym is) there) (subst (λ z. v < length z.function.types) (sym is) declared) (λ i. undefined (subst (λ z. In v (definitions z.function.blocks)) is i)))
        ∙ ap (λ z. length (definitions z)) (sym param_put))

    pub param_sound : IsSound (with_blocks (function_of s) (blocks_in s.insts.items (set s.blocks.items a k') s.first))
    param_sound =
        subst (λ z. IsSound (with_blocks (function_of s) z)) (sym param_put)
        (sound_param (function_of s) a v laid.sound (subst (λ z. In a (block_numbers z.function.blocks)) (sym is) there) (subst (λ z. v < length z.function.types) (sym is) declared) (λ i. undefined (subst (λ z. In v (definitions z.function.blocks)) is i)))

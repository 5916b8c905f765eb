-- Copied entries lie as the others do.
use Rattle.std.proofs.Common.{◌≡◌, ℕ, zero, suc, List, [], ◌∷◌, map, length, take, drop, Option, Some, refl, sym, ap, ap₂, ◌∙◌, subst, arith}
use Rattle.std.specs.Prelude.{slice_get}
use Rattle.std.specs.List.{AllZip}
use Rattle.ir_core.specs.declared.instructions.InstData.{InstData}
use Rattle.ir_core.specs.declared.func.BlockData.{BlockData}
use Rattle.ir_core.specs.Alike.{Alike}
use Rattle.ir_core.specs.Lists.{Different}
use Rattle.ir_core.specs.Viewed.{line_of}
use Rattle.ir_core.specs.Layout.{walk, Linked, nexts, block_by, block_at, blocks_in, order, Laid, last_of}

nexts_alike : (ks js : List BlockData) → AllZip Alike ks js → nexts js ≡ nexts ks
nexts_alike [] [] h = refl
nexts_alike [] (j ∷ js) h = absurd h
nexts_alike (k ∷ ks) [] h = absurd h
nexts_alike (k ∷ ks) (j ∷ js) h = ap₂ (λ x xs. x ∷ xs) h.0.next (nexts_alike ks js h.1)

length_alike : (ks js : List BlockData) → AllZip Alike ks js → length js ≡ length ks
length_alike [] [] h = refl
length_alike [] (j ∷ js) h = absurd h
length_alike (k ∷ ks) [] h = absurd h
length_alike (k ∷ ks) (j ∷ js) h = ap suc (length_alike ks js h.1)

get_alike : (ks js : List BlockData) (b : ℕ) (j : BlockData) → AllZip Alike ks js → slice_get js b ≡ Some j → (k : BlockData) × (slice_get ks b ≡ Some k) × Alike k j
get_alike [] [] b j h g = cc
get_alike [] (i ∷ js) b j h g = absurd h
get_alike (k ∷ ks) [] b j h g = absurd h
get_alike (k ∷ ks) (i ∷ js) zero j h g = let e : i ≡ j = cc in (k, refl, subst (Alike k) e h.0)
get_alike (k ∷ ks) (i ∷ js) (suc b) j h g = get_alike ks js b j h.1 g

block_alike : (xs : List InstData) (n : ℕ) (ks js : List BlockData) (b : ℕ) → AllZip Alike ks js → block_by xs n (slice_get js b) ≡ block_by xs n (slice_get ks b)
block_alike xs n [] [] b h = refl
block_alike xs n [] (j ∷ js) b h = absurd h
block_alike xs n (k ∷ ks) [] b h = absurd h
block_alike xs n (k ∷ ks) (j ∷ js) zero h = ap₂ (λ p r. record { number = n; params = p; lines = r }) h.0.params (ap₂ (λ l s. map line_of (take l (drop s xs))) h.0.len h.0.start)
block_alike xs n (k ∷ ks) (j ∷ js) (suc b) h = block_alike xs n ks js b h.1

module _ (xs : List InstData) (ks js : List BlockData) (o last : Option ℕ) (alike : AllZip Alike ks js) where
  order_alike : order js o ≡ order ks o
  order_alike = ap₂ (λ n l. walk n l o) (nexts_alike ks js alike) (length_alike ks js alike)

  pub blocks_alike : blocks_in xs js o ≡ blocks_in xs ks o
  blocks_alike = ap (map (block_at xs js)) order_alike ∙ go (order ks o)
    where
      go : (bs : List ℕ) → map (block_at xs js) bs ≡ map (block_at xs ks) bs
      go [] = refl
      go (b ∷ bs) = ap₂ (λ x r. x ∷ r) (block_alike xs b ks js b alike) (go bs)

  pub laid_alike : Laid xs ks o last → Laid xs js o last
  laid_alike laid =
      record {
        linked = subst (λ z. Linked z o (order js o)) (sym (nexts_alike ks js alike)) (subst (Linked (nexts ks) o) (sym order_alike) laid.linked);
        different = subst Different (sym order_alike) laid.different;
        full = ap length order_alike ∙ (laid.full ∙ sym (length_alike ks js alike));
        ends = laid.ends ∙ ap last_of (sym order_alike);
        short = λ b j g. let f = get_alike ks js b j alike g in omega (arith, laid.short b f.0 f.1, f.2.len, f.2.cap);
        within = λ b j g. let f = get_alike ks js b j alike g in omega (arith, laid.within b f.0 f.1, f.2.start, f.2.cap);
        apart = λ b c j i g h n p e1 e2 e3 e4.
            let f = get_alike ks js b j alike g in
            let f' = get_alike ks js c i alike h in
            laid.apart b c f.0 f'.0 f.1 f'.1 n p (omega (arith, e1, f.2.start)) (omega (arith, e2, f.2.start, f.2.cap)) (omega (arith, e3, f'.2.start)) (omega (arith, e4, f'.2.start, f'.2.cap));
      }

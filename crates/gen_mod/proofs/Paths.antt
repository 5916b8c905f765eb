-- Which values are available without a search: a parameter of the first block everywhere, a block's own parameter at
-- its begin, and a result at the line behind its own.
use Rattle.std.proofs.Common.{◌≡◌, ℕ, suc, List, ◌∷◌, Some, sym, ap, subst, ◌∙◌}
use Rattle.std.specs.Prelude.{slice_get}
use Rattle.ir_core.specs.Module.{Line, Block, Function}
use Rattle.ir_core.specs.Lookup.{find_block}
use Rattle.ir_core.specs.Lists.{In}
use Rattle.ir_core.proofs.Members.{in_left, in_right}
use Rattle.ir_core.proofs.Gets.{some_same}
use Rattle.ir_semantics.specs.Available.{Reach, begin, next, branch, Available}
use Rattle.ir_semantics.proofs.SafetyPlaces.{find_first}
use Rattle.ir_semantics.proofs.SafetyTypes.{head_same}

pub entry_param : (f : Function) (first : Block) (others : List Block) → f.blocks ≡ first ∷ others → (v : ℕ)
    → In v first.params → (b i : ℕ) → Available f b i v
entry_param f first others starts v p b i = λ defs path. passed path
  where
    passed : {b i : ℕ} {defs : List ℕ} → Reach f b i defs → In v defs
    passed (begin begun rest q) = subst (λ (z : Block). In v z.params) (head_same (sym starts ∙ q)) p
    passed (next {defs = defs} before block q l g goes) = in_right v l.results defs (passed before)
    passed (branch {defs = defs} before block q l g t is entered e) = in_right v entered.params defs (passed before)

pub own_param : (f : Function) (b : ℕ) (block : Block) → find_block b f.blocks ≡ Some block → (v : ℕ)
    → In v block.params → Available f b 0 v
own_param f b block found v p = λ defs path. entered path found
  where
    entered : {c : ℕ} {defs : List ℕ} → Reach f c 0 defs → find_block c f.blocks ≡ Some block → In v defs
    entered (begin first others q) found =
        let same : block ≡ first = some_same (sym found ∙ (ap (find_block first.number) q ∙ find_first first others)) in
        subst (λ (z : Block). In v z.params) same p
    entered (branch {defs = defs} before from q l g t is into e) found =
        in_left v into.params defs (subst (λ (z : Block). In v z.params) (some_same (sym found ∙ e)) p)

pub result_behind : (f : Function) (b i : ℕ) (block : Block) → find_block b f.blocks ≡ Some block → (l : Line)
    → slice_get block.lines i ≡ Some l → (v : ℕ) → In v l.results → Available f b (suc i) v
result_behind f b i block found l at v p = λ defs path. passed path
  where
    passed : {defs : List ℕ} → Reach f b (suc i) defs → In v defs
    passed (next {defs = defs} before other q k g goes) =
        let same : block ≡ other = some_same (sym found ∙ q) in
        let e : l ≡ k = some_same (sym at ∙ (ap (λ (z : Block). slice_get z.lines i) same ∙ g)) in
        in_left v k.results defs (subst (λ (z : Line). In v z.results) e p)

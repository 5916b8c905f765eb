-- A function with its name and signature, then its declarations, its values and empty blocks.
use Rattle.std.proofs.Common.{◌≡◌, ℕ, ◌+◌, ◌-◌, ◌<◌, ◌^◌, List, [], ◌∷◌, ◌++◌, length, map, slice_get, Some, take, sym, ap, subst, ◌∙◌, arith}
use Rattle.std.specs.Prelude.{flat_map}
use Rattle.std.specs.List.{enumerate_from}
use Rattle.std.proofs.Math.Numerals.{add-one}
use Rattle.std.proofs.lemmas.List.{map-append}
use Rattle.ir_core.specs.declared.declarations.Callee.{Callee}
use Rattle.ir_core.specs.declared.declarations.SlotDecl.{SlotDecl}
use Rattle.ir_core.specs.declared.names.FuncName.{FuncName}
use Rattle.ir_core.specs.declared.signatures.Sig.{Sig}
use Rattle.ir_core.specs.declared.signatures.Ty.{Ty}
use Rattle.ir_core.specs.Module.{Function}
use Rattle.ir_core.proofs.Keeping.{length_numbered}
use Rattle.ir_semantics.specs.Renaming.{Renaming}
use Rattle.clif_read.specs.declared.raw.RawBlock.{RawBlock}
use Rattle.clif_read.specs.declared.raw.RawFunction.{RawFunction}
use Rattle.name_tables.specs.Definitions.{block_steps, steps}
use Rattle.clif_names.specs.FunctionNames.{NoFunctionFault}
use Rattle.clif_meaning.specs.Meaning.{block_with, callees_from, decl_slots, function_with, name_of, numbers, sig_of}
use Rattle.clif_meaning.proofs.Lists.{numbered_long}
use Rattle.clif_resolve.specs.Declaring.{AreFew, declared, sigs_of, undeclared}
use Rattle.clif_resolve.specs.Filling.{empty_block, filled, IsReady, valued}
use Rattle.clif_resolve.specs.FormTypes.{types_along, types_of}
use Rattle.clif_resolve.proofs.DeclaringLaws.{sigs_whole}
use Rattle.clif_lines.proofs.Parting.{parted_long, parted_next}
use Rattle.clif_resolve.proofs.Opening.{enumerate_begun}
use Rattle.clif_resolve.proofs.ReadyLaws.{few}

-- ---- a name and a signature

abbrev made : FuncName → Sig → List SlotDecl → List Sig → List Callee → Function
made n s ss gs cs = record { name = n; sig = s; slots = ss; sigs = gs; callees = cs; types = []; blocks = [] }

pub undeclared_by : (raw : RawFunction) (n : FuncName) (s : Sig) (f : Function) → n ≡ name_of raw.name → s ≡ sig_of raw.signature → f ≡ made n s [] [] [] → f ≡ undeclared raw
undeclared_by raw n s f named signed is = is ∙ ap (λ x. made x s [] [] []) named ∙ ap (λ x. made (name_of raw.name) x [] [] []) signed

-- ---- declarations

module _ (raw : RawFunction) (at : Renaming) (words : at ≡ numbers raw at.value) (ss : List SlotDecl) (gs : List Sig) (cs : List Callee)
    (slots_are : ss ≡ flat_map decl_slots raw.decls) (sigs_are : gs ≡ sigs_of raw) (callees_are : cs ≡ callees_from at.sig 0 raw.decls) where
  callees_right : cs ≡ callees_from (numbers raw at.value).sig 0 raw.decls
  callees_right = callees_are ∙ ap (λ (r : Renaming). callees_from r.sig 0 raw.decls) words

  pub few_by : NoFunctionFault raw → AreFew ss gs cs
  few_by free =
      subst (λ xs. AreFew xs gs cs) (sym slots_are)
      (subst (λ xs. AreFew (flat_map decl_slots raw.decls) xs cs) (sym sigs_are) (subst (λ xs. AreFew (flat_map decl_slots raw.decls) (sigs_of raw) xs) (sym callees_right) (few raw free at.value)))

  pub declared_by : (f g : Function) → f ≡ undeclared raw → g ≡ record f { slots = ss; sigs = gs; callees = cs } → g ≡ declared raw at.value
  declared_by f g is next =
      next ∙ ap (λ (x : Function). record x { slots = ss; sigs = gs; callees = cs }) is
      ∙ ap (λ x. made (name_of raw.name) (sig_of raw.signature) x gs cs) slots_are
      ∙ ap (λ x. made (name_of raw.name) (sig_of raw.signature) (flat_map decl_slots raw.decls) x cs) (sigs_are ∙ sigs_whole raw.decls)
      ∙ ap (λ x. made (name_of raw.name) (sig_of raw.signature) (flat_map decl_slots raw.decls) (function_with raw at.value []).sigs x) callees_right

-- ---- empty blocks

pub block_added : (start f g : Function) (bs : List RawBlock) (i : ℕ) (b : RawBlock) → slice_get bs i ≡ Some b → (n : ℕ)
    → f ≡ record start { blocks = map empty_block (enumerate_from 0 (take i bs)) } → n ≡ length f.blocks
    → g ≡ record f { blocks = f.blocks ++ record { number = n; params = []; lines = [] } ∷ [] }
    → g ≡ record start { blocks = map empty_block (enumerate_from 0 (take (i + 1) bs)) }
block_added start f g bs i b at n is numbered next =
    next
    ∙ ap (λ m. record f { blocks = f.blocks ++ record { number = m; params = []; lines = [] } ∷ [] })
    (numbered ∙ ap (λ (x : Function). length x.blocks) is ∙ numbered_long empty_block 0 (take i bs) ∙ parted_long bs i b at)
    ∙ ap (λ (x : Function). record x { blocks = x.blocks ++ record { number = i; params = []; lines = [] } ∷ [] }) is
    ∙ ap (λ xs. record start { blocks = xs }) (sym more)
  where
    more : map empty_block (enumerate_from 0 (take (i + 1) bs)) ≡ map empty_block (enumerate_from 0 (take i bs)) ++ record { number = i; params = []; lines = [] } ∷ []
    more =
        ap (λ n. map empty_block (enumerate_from 0 (take n bs))) (add-one i)
        ∙ ap (λ xs. map empty_block (enumerate_from 0 xs)) (parted_next bs i b at)
        ∙ ap (map empty_block) (enumerate_begun (take i bs) (b ∷ []))
        ∙ map-append empty_block (enumerate_from 0 (take i bs)) (enumerate_from (length (take i bs)) (b ∷ []))
        ∙ ap (λ n. map empty_block (enumerate_from 0 (take i bs)) ++ record { number = n; params = []; lines = [] } ∷ []) (parted_long bs i b at)

-- ---- values and empty blocks

module _ (raw : RawFunction) (at : Renaming) where
  pub types_found : (us : List Ty) (bs : List RawBlock) (f : Function) → us ≡ types_along f at (flat_map block_steps bs) → bs ≡ raw.blocks → f ≡ declared raw at.value → us ≡ types_of raw at
  unfolding types_of
  types_found us bs f found same is =
      found ∙ ap (λ xs. types_along f at (flat_map block_steps xs)) same ∙ ap (λ (x : Function). types_along x at (steps raw)) is

  pub valued_by : (us : List Ty) (f g : Function) → us ≡ types_of raw at → f ≡ declared raw at.value → g ≡ record f { types = enumerate_from 0 us } → g ≡ valued raw at
  valued_by us f g are is next =
      next ∙ ap (λ ts. record f { types = enumerate_from 0 ts }) are ∙ ap (λ (x : Function). record x { types = enumerate_from 0 (types_of raw at) }) is

  pub begun_by : (bs : List RawBlock) (f g : Function) → bs ≡ raw.blocks → f ≡ valued raw at → g ≡ record f { blocks = map empty_block (enumerate_from 0 bs) } → g ≡ filled raw at 0
  begun_by bs f g same is next =
      next ∙ ap (λ xs. record f { blocks = map empty_block (enumerate_from 0 xs) }) same
      ∙ ap (λ (x : Function). record x { blocks = map empty_block (enumerate_from 0 raw.blocks) }) is

  module _ (ready : IsReady raw at) where
    pub few_blocks : length raw.blocks < 2 ^ 32 - 1
    few_blocks = let s = ready.sound.small.blocks in let e = numbered_long (block_with raw at.value (enumerate_from 0 (types_of raw at))) 0 raw.blocks in omega (arith, s, e)

    pub few_values : length (types_of raw at) < 2 ^ 32 - 1
    few_values = let s = ready.sound.small.values in let e = length_numbered 0 (types_of raw at) in omega (arith, s, e)

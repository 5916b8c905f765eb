-- The types of values, found one step after the other, are those that the function gives its values.
use Rattle.std.proofs.Common.{◌≡◌, ℕ, zero, suc, ◌+◌, ◌<◌, ◌≤◌, List, [], ◌∷◌, ◌++◌, length, take, slice_get, Option, None, Some, refl, sym, ap, ◌∙◌, arith, append_assoc}
use Rattle.std.specs.Prelude.{fold, map}
use Rattle.std.specs.List.{enumerate_from}
use Rattle.std.proofs.Math.Numerals.{add-one}
use Rattle.std.proofs.lemmas.Grind.{fold-append}
use Rattle.std.proofs.lemmas.List.{append-nil, length-map}
use Rattle.std.proofs.lemmas.Option.{slice_get_past}
use Rattle.ir_core.specs.declared.signatures.Ty.{Ty}
use Rattle.ir_core.specs.declared.signatures.Ty.TheVariants.{I8}
use Rattle.ir_core.specs.Lookup.{type_in}
use Rattle.ir_core.specs.Module.{Function}
use Rattle.ir_core.specs.Sound.{IsSound}
use Rattle.ir_core.proofs.Walking.{type_found}
use Rattle.ir_semantics.specs.Renaming.{Renaming}
use Rattle.clif_insts.specs.declared.raw.RawInst.{RawInst}
use Rattle.token_reader.specs.declared.raw.RawName.{RawName}
use Rattle.clif_read.specs.declared.raw.RawBlock.{RawBlock}
use Rattle.clif_read.specs.declared.raw.RawBlockParam.{RawBlockParam}
use Rattle.clif_read.specs.declared.raw.RawLine.TheVariants as line
use Rattle.clif_read.specs.declared.raw.RawFunction.{RawFunction}
use Rattle.name_tables.specs.Definitions.{Step, Param, Line, block_steps, steps, value_defs}
use Rattle.name_tables.specs.Chains.{IsNumbering}
use Rattle.clif_names.specs.Typing.{gives_type, IsUntyped}
use Rattle.clif_resolve.specs.Declaring.{declared}
use Rattle.clif_resolve.specs.FormTypes.{type_after, with_step, step_types_after, types_along}
use Rattle.clif_meaning.specs.Instructions.{known, operand_type, type_for}
use Rattle.clif_meaning.specs.Meaning.{numbers, step_types, types_for, value_types}
use Rattle.clif_meaning.proofs.OneMeaning.{types_from}

pub type_of_place : (ts : List Ty) (v : ℕ) → type_in (enumerate_from 0 ts) v ≡ slice_get ts v
type_of_place ts v = type_found 0 v v ts (omega arith)

pub none_past : (f : Function) → IsSound f → (v : ℕ) → length f.types ≤ v → type_in f.types v ≡ None
none_past f sound v past =
    ap (λ ts. type_in ts v) sound.numbered ∙ type_of_place (map (λ typed. typed.1) f.types) v
    ∙ slice_get_past (map (λ typed. typed.1) f.types) v (omega (arith, past, length-map f.types (λ typed. typed.1)))

-- the type of an instruction without a suffix is that of the operand which gives it
pub type_read : (type : ℕ → Option Ty) (at : Renaming) (inst : RawInst) (x : RawName) → inst.suffix ≡ None → gives_type inst.operands ≡ Some x → type_for type at inst ≡ type (at.value x.number)
type_read type at inst x bare gives =
    ap (λ s. elim s as (λ s. Option Ty) [ None ↦ operand_type type at (gives_type inst.operands) | Some t ↦ Some t ]) bare ∙ ap (operand_type type at) gives

pub type_given : (at : Renaming) (ts : List Ty) (inst : RawInst) (x : RawName) → inst.suffix ≡ None → gives_type inst.operands ≡ Some x → known (slice_get ts (at.value x.number)) ≡ type_after at ts inst
type_given at ts inst x bare gives =
    ap known (sym (type_read (type_in (enumerate_from 0 ts)) at inst x bare gives ∙ type_of_place ts (at.value x.number)))

-- one more result
pub types_more : (rs : List RawName) (ts : List Ty) (i : ℕ) → i < length rs → types_for (take (i + 1) rs) ts ≡ types_for (take i rs) ts ++ known (slice_get ts i) ∷ []
types_more rs ts i lt = ap (λ n. types_for (take n rs) ts) (add-one i) ∙ more rs ts i lt
  where
    more : (rs : List RawName) (ts : List Ty) (i : ℕ) → i < length rs → types_for (take (suc i) rs) ts ≡ types_for (take i rs) ts ++ known (slice_get ts i) ∷ []
    more [] ts i lt = absurd (omega (arith, lt))
    more (r ∷ rs) [] zero lt = refl
    more (r ∷ rs) (t ∷ ts) zero lt = refl
    more (r ∷ rs) [] (suc i) lt = ap (λ xs. I8 ∷ xs) (more rs [] i (omega (arith, lt)))
    more (r ∷ rs) (t ∷ ts) (suc i) lt = ap (λ xs. t ∷ xs) (more rs ts i (omega (arith, lt)))

-- ---- types of a block's steps

module _ (f : Function) (at : Renaming) where
  params_along : (ts : List Ty) (ps : List RawBlockParam) → fold (with_step f at) ts (map Param ps) ≡ ts ++ map (λ p. p.ty) ps
  unfolding with_step
  params_along ts [] = sym (append-nil ts)
  params_along ts (p ∷ ps) = params_along (ts ++ p.ty ∷ []) ps ∙ append_assoc ts (p.ty ∷ []) (map (λ q. q.ty) ps)

  pub block_along : (ts : List Ty) (b : RawBlock) → fold (with_step f at) ts (block_steps b) ≡ fold (with_step f at) (ts ++ map (λ p. p.ty) b.params) (map Line b.lines)
  block_along ts b =
      fold-append (with_step f at) ts (map Param b.params) (map Line b.lines)
      ∙ ap (λ us. fold (with_step f at) us (map Line b.lines)) (params_along ts b.params)

-- ---- types of steps

module _ (raw : RawFunction) (value : ℕ → ℕ) where
  one_step : (ts : List Ty) (s : Step) → step_types_after (declared raw value) (numbers raw value) ts s ≡ step_types raw value (enumerate_from 0 ts) s
  one_step ts (Param p) = refl
  one_step ts (Line (line.Alias location n m)) = refl
  one_step ts (Line (line.Inst location tags results inst)) = refl

  module _ (numbering : IsNumbering (value_defs raw) value) (free : (spot : ℕ) → IsUntyped raw spot → ⊥) where
    made : (before rest : List Step) (whole : before ++ rest ≡ steps raw) (ts : List Ty) (is_t : ts ≡ _)
        → (types_from raw value numbering free before rest whole ts is_t).0 ≡ fold (with_step (declared raw value) (numbers raw value)) ts rest
    unfolding with_step types_from
    made before [] whole ts is_t = refl
    made before (s ∷ ss) whole ts is_t =
        made (before ++ s ∷ []) ss _ (ts ++ step_types raw value (enumerate_from 0 ts) s) _
        ∙ ap (λ xs. fold (with_step (declared raw value) (numbers raw value)) (ts ++ xs) ss) (sym (one_step ts s))

    pub along_is : types_along (declared raw value) (numbers raw value) (steps raw)
        ≡ value_types raw value (enumerate_from 0 (types_along (declared raw value) (numbers raw value) (steps raw)))
    along_is =
        let p = types_from raw value numbering free [] (steps raw) refl [] refl in
        let e = made [] (steps raw) refl [] refl in
        sym e ∙ p.1 ∙ ap (λ ts. value_types raw value (enumerate_from 0 ts)) e

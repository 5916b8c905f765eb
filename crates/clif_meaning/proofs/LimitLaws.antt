-- The numbers of a raw function without a fault keep their limits.
use Rattle.std.proofs.Common.{◌≡◌, ℕ, Bool, true, false, List, ◌++◌, slice_get, Some, map, refl}
use Rattle.std.specs.Prelude.{flat_map}
use Rattle.ir_core.specs.Lists.{Each}
use Rattle.ir_core.proofs.Members.{each_left, each_right, each_by}
use Rattle.ir_core.proofs.Gets.{in_get}
use Rattle.clif_lex.specs.declared.faults.TextKind.TheVariants.{NumberRange}
use Rattle.clif_read.specs.declared.raw.RawFunction.{RawFunction}
use Rattle.clif_names.specs.declared.limits.Limit.TheVariants.{Entity}
use Rattle.clif_names.specs.declared.limits.Limited.{Limited}
use Rattle.name_tables.specs.Definitions.{lines}
use Rattle.clif_names.specs.FunctionNames.{NoFunctionFault}
use Rattle.clif_names.specs.Limits.{keeps, of_word, all_words, name_limits, decl_limits, line_limits, limits}

-- it keeps its limit
abbrev pub Kept : Limited → Type 0
Kept z = keeps z.limit z.value ≡ true

abbrev pub AllKept : List Limited → Type 0
AllKept zs = Each Kept zs

module _ (raw : RawFunction) (free : NoFunctionFault raw) where
  pub all_kept : AllKept (limits raw)
  all_kept = each_by Kept (limits raw) (λ z i. by z (keeps z.limit z.value) refl (in_get (limits raw) z i))
    where
      by : (z : Limited) (b : Bool) → keeps z.limit z.value ≡ b → (i : ℕ) × (slice_get (limits raw) i ≡ Some z) → Kept z
      by z true t p = t
      by z false t (i, there) = absurd (free NumberRange z.spot (i, z, there, refl, t))

  abbrev word_limits : List Limited
  word_limits = map (of_word Entity) (all_words raw)

  abbrev declared_limits : List Limited
  declared_limits = flat_map decl_limits raw.decls

  abbrev lines_limits : List Limited
  lines_limits = flat_map line_limits (lines raw)

  declared_kept : AllKept ((word_limits ++ name_limits raw.name) ++ declared_limits)
  declared_kept = each_left Kept ((word_limits ++ name_limits raw.name) ++ declared_limits) lines_limits all_kept

  pub name_kept : AllKept (name_limits raw.name)
  name_kept = each_right Kept word_limits (name_limits raw.name) (each_left Kept (word_limits ++ name_limits raw.name) declared_limits declared_kept)

  pub decls_kept : AllKept (flat_map decl_limits raw.decls)
  decls_kept = each_right Kept (word_limits ++ name_limits raw.name) declared_limits declared_kept

  pub lines_kept : AllKept (flat_map line_limits (lines raw))
  lines_kept = each_right Kept ((word_limits ++ name_limits raw.name) ++ declared_limits) lines_limits all_kept

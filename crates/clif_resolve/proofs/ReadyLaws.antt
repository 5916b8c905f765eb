-- A function without a fault is ready to be filled.
use Rattle.std.proofs.Common.{◌≡◌, ◌≢◌, ℕ, ◌<◌, ◌^◌, List, [], length, refl, sym, ap, subst, ◌∙◌, arith}
use Rattle.std.specs.List.{enumerate_from}
use Rattle.std.specs.Prelude.{flat_map}
use Rattle.std.proofs.lemmas.List.{length-map}
use Rattle.ir_core.proofs.Keeping.{length_numbered}
use Rattle.ir_core.proofs.Members.{in_left}
use Rattle.ir_core.specs.Module.{Function}
use Rattle.ir_core.specs.Sound.{IsSound, IsWhole}
use Rattle.ir_core.specs.declared.signatures.Ty.{Ty}
use Rattle.ir_semantics.specs.Renaming.{Renaming}
use Rattle.clif_lex.specs.declared.faults.TextKind.TheVariants.{Duplicate, Untyped}
use Rattle.clif_read.specs.declared.raw.RawBlock.{RawBlock}
use Rattle.clif_read.specs.declared.raw.RawFunction.{RawFunction}
use Rattle.name_tables.specs.Chains.{IsNumbering, look, numbered}
use Rattle.name_tables.specs.Definitions.{Blocks, Callees, Sigs, Slots, Values, definitions, lines, steps, value_defs}
use Rattle.clif_names.specs.FunctionNames.{NoFunctionFault}
use Rattle.name_tables.specs.Uses.{decl_uses, line_uses}
use Rattle.clif_resolve.specs.Declaring.{AreFew, declared, sigs_of}
use Rattle.clif_resolve.specs.Filling.{IsReady, meant}
use Rattle.clif_resolve.specs.FormTypes.{types_along, types_of}
use Rattle.clif_lines.specs.WordNumbers.{AreSmall}
use Rattle.clif_meaning.specs.Meaning.{block_with, callees_from, decl_sigs, decl_slots, function_with, FunctionMeans, numbers}
use Rattle.clif_meaning.proofs.BoundLaws.{callees_below, callees_long, sig_below, slots_long}
use Rattle.clif_meaning.proofs.LimitLaws.{all_kept}
use Rattle.clif_meaning.proofs.Lists.{numbered_long}
use Rattle.clif_meaning.proofs.ModuleLaws.{size, used}
use Rattle.clif_meaning.proofs.OneMeaning.{counts}
use Rattle.clif_meaning.proofs.WholeLaws.{is_whole, sound}
use Rattle.clif_resolve.proofs.DeclaringLaws.{callees_count, sigs_count, sigs_whole, slots_count}
use Rattle.clif_resolve.proofs.TypesAlong.{along_is}
use Rattle.clif_resolve.proofs.WordLaws.{place_le, sig_le, value_le}

module _ (raw : RawFunction) (free : NoFunctionFault raw) where
  sigs_long : length (sigs_of raw) ≡ length (flat_map decl_sigs raw.decls)
  sigs_long = ap length (sigs_whole raw.decls) ∙ length-map (flat_map decl_sigs raw.decls) (λ s. s.1)

  pub few_sigs : length (flat_map decl_sigs raw.decls) < 2 ^ 32
  few_sigs = let a = sigs_count raw.decls in let b = size raw free in omega (arith, a, b)

  pub few : (value : ℕ → ℕ) → AreFew (flat_map decl_slots raw.decls) (sigs_of raw) (callees_from (numbers raw value).sig 0 raw.decls)
  few value = record {
    slots = let a = slots_count raw.decls in let b = size raw free in omega (arith, a, b);
    sigs = let a = sigs_count raw.decls in let b = size raw free in omega (arith, a, b, sigs_long);
    callees = let a = callees_count (numbers raw value).sig 0 raw.decls in let b = size raw free in omega (arith, a, b);
    in_range = callees_below (numbers raw value).sig (length (sigs_of raw)) 0 raw.decls (omega (arith, sigs_long))
        (λ u i. (let a = sig_below raw.decls u.number (used raw free Sigs u (in_left u (flat_map (decl_uses Sigs) raw.decls) (flat_map (line_uses Sigs) (lines raw)) i)) in omega (arith, a, sigs_long)));
  }

  module _ (begins : raw.blocks ≢ []) (value : ℕ → ℕ) (numbering : IsNumbering (value_defs raw) value) where
    abbrev types : List Ty
    types = types_along (declared raw value) (numbers raw value) (steps raw)

    abbrev made : Function
    made = function_with raw value (enumerate_from 0 types)

    pub means : FunctionMeans raw made
    means = record {
      value = value;
      numbering = numbering;
      function = refl;
      types = ap (enumerate_from 0) (along_is raw value numbering (λ spot u. free Untyped spot u));
    }

    made_sound : IsSound made
    unfolding means
    made_sound = sound raw made means (used raw free) (λ spot h. free Duplicate spot (Values, h)) (λ spot h. free Untyped spot h) (size raw free) begins

    pub made_whole : IsWhole made
    unfolding means
    made_whole = is_whole raw made means (used raw free) (λ spot h. free Duplicate spot (Values, h)) (λ spot h. free Untyped spot h) (size raw free) begins

    values_long : length types ≡ length (numbered (value_defs raw))
    values_long = ap length (along_is raw value numbering (λ spot u. free Untyped spot u)) ∙ counts raw value (enumerate_from 0 types) (steps raw)

    pub all_small : AreSmall (numbers raw value)
    all_small = record {
      value = λ n. (
          let a = value_le (value_defs raw) (look (value_defs raw) n) (value n) (numbering n) in
          let b = made_sound.small.values in
          let c = length_numbered 0 types in
          omega (arith, a, b, c, values_long));
      block = λ n. (
          let a = place_le (definitions raw Blocks) n in
          let b = made_sound.small.blocks in
          let c = length-map raw.blocks (λ (b : RawBlock). b.block) in
          let d = numbered_long (block_with raw value (enumerate_from 0 types)) 0 raw.blocks in
          omega (arith, a, b, c, d));
      slot = λ n. (
          let a = place_le (definitions raw Slots) n in
          let b = made_sound.small.slots in
          let c = slots_long raw.decls in
          omega (arith, a, b, c));
      sig = λ n. (
          let a = sig_le (flat_map decl_sigs raw.decls) n in
          let b = made_sound.small.sigs in
          let c = length-map (flat_map decl_sigs raw.decls) (λ s. s.1) in
          omega (arith, a, b, c));
      callee = λ n. (
          let a = place_le (definitions raw Callees) n in
          let b = made_sound.small.callees in
          let c = callees_long (numbers raw value).sig 0 raw.decls in
          omega (arith, a, b, c));
    }

    ready : IsReady raw (numbers raw value)
    unfolding types_of
    ready = record { words = refl; limits = all_kept raw free; sound = made_sound }

  module _ (begins : raw.blocks ≢ []) (at : Renaming) (words : at ≡ numbers raw at.value) (numbering : IsNumbering (value_defs raw) at.value) where
    pub ready_with : IsReady raw at
    ready_with = subst (IsReady raw) (sym words) (ready begins at.value numbering)

    is_made : (f : Function) → f ≡ meant raw at → f ≡ made begins at.value numbering
    unfolding types_of
    is_made f is =
        is ∙ ap (λ ts. function_with raw at.value (enumerate_from 0 ts)) (ap (λ (r : Renaming). types_along (declared raw at.value) r (steps raw)) words)

    pub means_with : (f : Function) → f ≡ meant raw at → FunctionMeans raw f
    means_with f is = subst (FunctionMeans raw) (sym (is_made f is)) (means begins at.value numbering)

    pub whole_with : (f : Function) → f ≡ meant raw at → IsWhole f
    whole_with f is = subst IsWhole (sym (is_made f is)) (made_whole begins at.value numbering)

-- The results of an instruction that is read have the types that its form gives.
use Rattle.std.proofs.Common.{◌≡◌, ℕ, suc, List, [], ◌∷◌, ◌++◌, length, slice_get, Option, Some, map, refl, sym, ap, subst, ◌∙◌, arith, append_assoc, length-append, inl, inr}
use Rattle.std.specs.Prelude.{flat_map, ⊤}
use Rattle.std.specs.List.{enumerate_from}
use Rattle.std.proofs.lemmas.Grind.{flat_map-append}
use Rattle.std.proofs.lemmas.List.{map-append}
use Rattle.ir_core.specs.declared.signatures.Ty.{Ty}
use Rattle.ir_core.specs.Lists.{In, Different, Each}
use Rattle.ir_core.specs.Lookup.{type_in}
use Rattle.ir_core.proofs.Members.{different_apart, each_in, in_map}
use Rattle.ir_core.proofs.Walking.{type_found}
use Rattle.ir_text.specs.Writable.{ResultTypes}
use Rattle.clif_insts.specs.declared.raw.RawInst.{RawInst}
use Rattle.token_reader.specs.declared.raw.RawName.{RawName}
use Rattle.clif_read.specs.declared.raw.RawTag.{RawTag}
use Rattle.clif_read.specs.declared.raw.RawLine.TheVariants as line
use Rattle.clif_read.specs.declared.raw.RawFunction.{RawFunction}
use Rattle.name_tables.specs.Chains.{IsNumbering, numbered, own_name}
use Rattle.name_tables.specs.Definitions.{Step, Line, step_defs, steps, defs_of, value_defs, names_of}
use Rattle.name_tables.specs.Words.{place_in}
use Rattle.name_tables.proofs.DefinedWords.{NoRepeats, place_here, place_there}
use Rattle.clif_meaning.specs.Instructions.{line_of}
use Rattle.clif_meaning.specs.Meaning.{numbers, inst_type, function_with, step_types, value_types, types_for, form_types}
use Rattle.clif_meaning.proofs.BoundLaws.{own_place}
use Rattle.clif_meaning.proofs.Lists.{get_seam}
use Rattle.clif_meaning.proofs.OneMeaning.{map_names, count, counts}

-- ---- the first place of a number

place_seam : (before : List RawName) (r : RawName) (after : List RawName) → ((x : RawName) → In x before → x.number ≡ r.number → ⊥) → place_in (before ++ r ∷ after) r.number ≡ length before
place_seam [] r after out = place_here r after r.number refl
place_seam (x ∷ xs) r after out = place_there x (xs ++ r ∷ after) r.number (λ e. out x (inl refl) (sym e)) ∙ ap suc (place_seam xs r after (λ y i. out y (inr i)))

module _ (raw : RawFunction) (value : ℕ → ℕ) (types : List (ℕ × Ty)) where
  -- the words are of values with these types, one for each
  abbrev Typed : List RawName → List Ty → Type 0
  Typed [] [] = ⊤
  Typed (r ∷ rs) (t ∷ ts) = (type_in types (value r.number) ≡ Some t) × Typed rs ts
  Typed [] (t ∷ ts) = ⊥
  Typed (r ∷ rs) [] = ⊥

  typed_parts : (xs ys : List RawName) (ts us : List Ty) → length xs ≡ length ts → Typed (xs ++ ys) (ts ++ us) → Typed xs ts × Typed ys us
  typed_parts [] ys [] us e h = (tt, h)
  typed_parts [] ys (t ∷ ts) us e h = absurd cc
  typed_parts (x ∷ xs) ys [] us e h = absurd cc
  typed_parts (x ∷ xs) ys (t ∷ ts) us e h = let rest = typed_parts xs ys ts us (omega (arith, e)) h.1 in ((h.0, rest.0), rest.1)

  -- ---- steps

  abbrev given : Step → List Ty
  given s = step_types raw value types s

  abbrev StepTyped : Step → Type 0
  StepTyped s = Typed (numbered (step_defs s)) (given s)

  steps_typed : (ss : List Step) → Typed (numbered (defs_of ss)) (flat_map given ss) → Each StepTyped ss
  steps_typed [] h = tt
  steps_typed (s ∷ ss) h =
      let both =
      typed_parts (numbered (step_defs s)) (numbered (defs_of ss)) (given s) (flat_map given ss) (sym (count raw value types s))
      (subst (λ (ns : List RawName). Typed ns (given s ++ flat_map given ss)) (flat_map-append own_name (step_defs s) (defs_of ss)) h)
      in (both.0, steps_typed ss both.1)

  -- ---- values are numbered as their types are

  abbrev own : List RawName
  own = numbered (value_defs raw)

  abbrev ts : List Ty
  ts = value_types raw value types

  abbrev numbers_of : List RawName → List ℕ
  numbers_of ns = map (λ (r : RawName). value r.number) ns

  module _ (numbering : IsNumbering (value_defs raw) value) (none : NoRepeats (names_of (value_defs raw))) (is : types ≡ enumerate_from 0 ts) (differ : Different (numbers_of own)) where
    module _ (before : List RawName) (r : RawName) (after : List RawName) (whole : before ++ r ∷ after ≡ own) where
      apart : (x : RawName) → In x before → x.number ≡ r.number → ⊥
      apart x i same =
          different_apart (numbers_of before) (numbers_of (r ∷ after)) (value x.number)
          (subst Different (ap numbers_of (sym whole) ∙ map-append (λ (r : RawName). value r.number) before (r ∷ after)) differ)
          (in_map (λ (r : RawName). value r.number) x before i) (inl (ap value same))

      stands : (xs : List RawName) → In r (xs ++ r ∷ after)
      stands [] = inl refl
      stands (x ∷ xs) = inr (stands xs)

      number_is : value r.number ≡ length before
      number_is =
          own_place (value_defs raw) value numbering none r (subst (In r) whole (stands before))
          ∙ ap (λ (ns : List RawName). place_in ns r.number) (sym whole) ∙ place_seam before r after apart

    typed_from : (before after : List RawName) (front back : List Ty) → length before ≡ length front → length after ≡ length back → before ++ after ≡ own → front ++ back ≡ ts → Typed after back
    typed_from before [] front [] e g p q = tt
    typed_from before [] front (t ∷ back) e g p q = absurd cc
    typed_from before (r ∷ after) front [] e g p q = absurd cc
    typed_from before (r ∷ after) front (t ∷ back) e g p q = (
      ap (λ (xs : List (ℕ × Ty)). type_in xs (value r.number)) is ∙ type_found 0 (value r.number) (value r.number) ts (omega arith)
          ∙ ap (slice_get ts) (number_is before r after p ∙ e) ∙ ap (λ (xs : List Ty). slice_get xs (length front)) (sym q) ∙ get_seam front t back,
      typed_from (before ++ r ∷ []) after (front ++ t ∷ []) back (let a = length-append before (r ∷ []) in let b = length-append front (t ∷ []) in omega (arith, e, a, b)) (omega (arith, g))
          (append_assoc before (r ∷ []) after ∙ p) (append_assoc front (t ∷ []) back ∙ q),
    )

    all_typed : Typed own ts
    all_typed = typed_from [] own [] ts refl (sym (counts raw value types (steps raw))) refl refl

    results_typed : (rs : List RawName) (us : List Ty) → Typed rs (types_for rs us) → ResultTypes (function_with raw value types) (numbers_of rs) us
    results_typed [] us h = tt
    results_typed (r ∷ rs) [] h = (h.0, results_typed rs [] h.1)
    results_typed (r ∷ rs) (u ∷ us) h = (h.0, results_typed rs us h.1)

    -- the results of a line have the types that its form gives
    pub line_typed : (location : Option ℕ) (tags : List RawTag) (results : List RawName) (inst : RawInst) → In (Line (line.Inst location tags results inst)) (steps raw)
        → ResultTypes (function_with raw value types) (numbers_of results)
        (form_types (function_with raw value types) (line_of (numbers raw value) (inst_type raw value types inst) tags results inst).inst (inst_type raw value types inst))
    line_typed location tags results inst i =
        let types_are = form_types (function_with raw value types) (line_of (numbers raw value) (inst_type raw value types inst) tags results inst).inst (inst_type raw value types inst) in
        let own_types = each_in StepTyped (steps raw) (steps_typed (steps raw) all_typed) (Line (line.Inst location tags results inst)) i in
        results_typed results types_are (subst (λ (ns : List RawName). Typed ns (types_for results types_are)) (map_names results) own_types)

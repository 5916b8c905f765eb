-- The raw module that a canonical text is has no fault, and so the text is read.
use Rattle.std.proofs.Common.{◌≡◌, ℕ, zero, suc, ◌<◌, ◌≤◌, List, [], ◌∷◌, ◌++◌, map, length, slice_get, Some, sym, ap, subst, ◌∙◌, arith, inl, inr}
use Rattle.std.specs.Prelude.{flat_map}
use Rattle.std.proofs.lemmas.List.{map-append}
use Rattle.ir_core.specs.Lists.{Each}
use Rattle.ir_core.specs.Module.{Function, Module}
use Rattle.ir_core.specs.Size.{size_of}
use Rattle.ir_core.specs.WellFormed.{WellFormed, IsModule}
use Rattle.ir_core.proofs.Members.{each_join}
use Rattle.ir_semantics.specs.Canon.{canonical, canonical_module}
use Rattle.ir_text.specs.Text.{text_of}
use Rattle.ir_text.specs.Writable.{FunctionWritable, Writable}
use Rattle.clif_lex.specs.declared.faults.TextKind.TheVariants.{Duplicate, Undefined, NumberRange, Untyped, TooLarge}
use Rattle.token_reader.specs.declared.raw.RawName.{RawName}
use Rattle.clif_read.specs.declared.raw.RawFunction.{RawFunction}
use Rattle.clif_read.specs.declared.raw.RawModule.{RawModule}
use Rattle.clif_read.specs.Texts.{IsModuleText}
use Rattle.clif_names.specs.declared.limits.Limit.TheVariants.{Entity}
use Rattle.clif_names.specs.declared.limits.Limited.{Limited}
use Rattle.name_tables.specs.Definitions.{Kind, all_kinds, definitions, lines}
use Rattle.clif_names.specs.Faults.{FunctionFault, NoFault}
use Rattle.clif_names.specs.Limits.{of_word, name_limits, decl_limits, line_limits, words, all_words, limits}
use Rattle.clif_names.specs.Sizes.{raw_size}
use Rattle.name_tables.specs.Uses.{uses}
use Rattle.clif_meaning.specs.Meaning.{FunctionsMean, Means, SameSize}
use Rattle.clif_meaning.specs.Reads.{Reads}
use Rattle.inline_numbering.specs.Renamed.{CanonicalIsSame, SameIsRenamed, RenamedKeepsSize, NumberingKeepsText}
use Rattle.names_read_back.specs.Canonical.{ReadsAsNothingElse}
use Rattle.text_read_back.specs.Bare as bare
use Rattle.text_read_back.specs.RawOf as raws
use Rattle.text_read_back.specs.ReadsBack.{ReadsBack}
use Rattle.inline_acceptance.proofs.KeptLists.{each_map}
use Rattle.clif_meaning.proofs.LimitLaws.{Kept, AllKept}
use Rattle.ir_core.proofs.Gets.{each_at}
use Rattle.text_read_back.proofs.Lists.{flat_bare}
use Rattle.names_read_back.proofs.TextMeans.{functions_say}
use Rattle.canonical_reads.proofs.Lists.{Within, each_from}
use Rattle.canonical_reads.proofs.Spotless.{bare_limited, name_limits_bare, decl_limits_bare, line_limits_bare, lines_bare}
use Rattle.canonical_reads.proofs.Counted.{count, few}
use Rattle.canonical_reads.proofs.Undefined.{defined_below, used_below, nothing_undefined}
use Rattle.canonical_reads.proofs.Untyped.{nothing_untyped}
use Rattle.canonical_reads.proofs.Kept.{entity, name_kept, decl_numbers, line_numbers}
use Rattle.canonical_reads.specs.Laws.{HasNone, OneTextUpToNumbering}

-- ---- numbers of a function

module _ (f : Function) (is : WellFormed f) (w : FunctionWritable f) (r : RawFunction) (says : bare.bare_function r ≡ raws.raw_function f) where
  words_within : (k : Kind) → Within (count f k) (words r k)
  words_within k = each_join (λ (x : RawName). x.number < count f k) (definitions r k) (uses r k) (defined_below f is w r says k) (used_below f is w r says k)

  words_kept : (k : Kind) → AllKept (map (of_word Entity) (words r k))
  words_kept k =
      let less = few f k in let most = w.size in
      each_map (λ (x : RawName). x.number < count f k) Kept (of_word Entity) (λ x h. entity x.number (omega (arith, h, less, most))) (words r k) (words_within k)

  all_words_kept : AllKept (map (of_word Entity) (all_words r))
  all_words_kept = kinds all_kinds
    where
      kinds : (ks : List Kind) → AllKept (map (of_word Entity) (flat_map (words r) ks))
      kinds [] = tt
      kinds (k ∷ ks) =
          subst AllKept (sym (map-append (of_word Entity) (words r k) (flat_map (words r) ks)))
          (each_join Kept (map (of_word Entity) (words r k)) (map (of_word Entity) (flat_map (words r) ks)) (words_kept k) (kinds ks))

  same_kept : (zs : List Limited) → AllKept (map bare_limited zs) → AllKept zs
  same_kept zs h = each_from Kept Kept bare_limited (λ z k. k) zs h

  names_kept : AllKept (name_limits r.name)
  names_kept = same_kept (name_limits r.name) (subst AllKept (sym (ap (λ (x : RawFunction). name_limits x.name) says) ∙ name_limits_bare r.name) (name_kept f.name w.name))

  decls_kept : AllKept (flat_map decl_limits r.decls)
  decls_kept =
      same_kept (flat_map decl_limits r.decls)
      (subst AllKept (sym (ap (λ (x : RawFunction). flat_map decl_limits x.decls) says) ∙ flat_bare decl_limits bare.bare_decl bare_limited decl_limits_bare r.decls) (decl_numbers f w))

  lines_kept : AllKept (flat_map line_limits (lines r))
  lines_kept =
      same_kept (flat_map line_limits (lines r))
      (subst AllKept (sym (ap (λ (x : RawFunction). flat_map line_limits (lines x)) says) ∙ ap (flat_map line_limits) (lines_bare r) ∙ flat_bare line_limits bare.bare_line bare_limited line_limits_bare (lines r)) (line_numbers f w))

  all_kept : AllKept (limits r)
  all_kept =
      let a = map (of_word Entity) (all_words r) in let b = name_limits r.name in let c = flat_map decl_limits r.decls in let d = flat_map line_limits (lines r) in
      each_join Kept ((a ++ b) ++ c) d (each_join Kept (a ++ b) c (each_join Kept a b all_words_kept names_kept) decls_kept) lines_kept

  nothing_outside : (spot : ℕ) → FunctionFault r NumberRange spot → ⊥
  nothing_outside spot (i, z, at, here, outside) =
      let kept = each_at Kept (limits r) i z all_kept at in absurd (let bad = sym kept ∙ outside in cc)

-- ---- a module

-- a function of the module for each raw function, which says the same
says_at : (rs : List RawFunction) (m : Module) → map bare.bare_function rs ≡ map raws.raw_function m → (P : RawFunction → Type 0)
    → ((f : Function) → WellFormed f → FunctionWritable f → (r : RawFunction) → bare.bare_function r ≡ raws.raw_function f → P r)
    → Each WellFormed m → Each FunctionWritable m → (i : ℕ) (r : RawFunction) → slice_get rs i ≡ Some r → P r
says_at [] m e P each is w i r at = absurd cc
says_at (x ∷ rs) [] e P each is w i r at = absurd cc
says_at (x ∷ rs) (f ∷ fs) e P each is w zero r at =
    let same : x ≡ r = cc in
    let own : bare.bare_function x ≡ raws.raw_function f = cc in
    subst P same (each f is.0 w.0 x own)
says_at (x ∷ rs) (f ∷ fs) e P each is w (suc i) r at =
    let rest : map bare.bare_function rs ≡ map raws.raw_function fs = cc in
    says_at rs fs rest P each is.1 w.1 i r at

module _ (m : Module) (is : IsModule m) (w : Writable m) (back : ReadsBack m) (raw : RawModule) (text : IsModuleText (text_of m) raw) where
  each_function : (P : RawFunction → Type 0) → ((f : Function) → WellFormed f → FunctionWritable f → (r : RawFunction) → bare.bare_function r ≡ raws.raw_function f → P r)
      → (i : ℕ) (r : RawFunction) → slice_get raw.functions i ≡ Some r → P r
  each_function P each = says_at raw.functions m (functions_say m back raw text) P each is.whole w.functions

  pub none_undefined : HasNone Undefined raw
  none_undefined spot (inl h) = absurd h
  none_undefined spot (inr (i, r, at, h)) = each_function (λ r. (FunctionFault r Undefined spot → ⊥)) (λ f is w r says. nothing_undefined f is w r says spot) i r at h

  pub none_outside : HasNone NumberRange raw
  none_outside spot (inl h) = absurd h
  none_outside spot (inr (i, r, at, h)) = each_function (λ r. (FunctionFault r NumberRange spot → ⊥)) (λ f is w r says. nothing_outside f is w r says spot) i r at h

  pub none_untyped : HasNone Untyped raw
  none_untyped spot (inl h) = absurd h
  none_untyped spot (inr (i, r, at, h)) = each_function (λ r. (FunctionFault r Untyped spot → ⊥)) (λ f is w r says. nothing_untyped f is w r says spot) i r at h

-- ---- sizes

module _ (same : SameSize) (canonical_same : CanonicalIsSame) (renamed : SameIsRenamed) (keeps : RenamedKeepsSize) where
  canonical_size : (f : Function) → WellFormed f → size_of (canonical f) ≡ size_of f
  canonical_size f is = let under = renamed f (canonical f) (canonical_same f is) in keeps under.0 f (canonical f) under.1

  sizes_kept : (rs : List RawFunction) (m : Module) → FunctionsMean rs (canonical_module m) → Each WellFormed m → Each FunctionWritable m → (i : ℕ) (r : RawFunction) → slice_get rs i ≡ Some r
      → (raw_size r ≤ 262144) × (i < length m)
  sizes_kept [] m h is w i r at = absurd cc
  sizes_kept (x ∷ rs) [] h is w i r at = absurd h
  sizes_kept (x ∷ rs) (f ∷ fs) h is w zero r at =
      let this : x ≡ r = cc in
      let own = same x (canonical f) h.0 in let kept = canonical_size f is.0 in let small = w.0.size in
      (subst (λ (y : RawFunction). raw_size y ≤ 262144) this (omega (arith, own, kept, small)), omega arith)
  sizes_kept (x ∷ rs) (f ∷ fs) h is w (suc i) r at =
      let rest = sizes_kept rs fs h.1 is.1 w.1 i r at in let next = rest.1 in (rest.0, omega (arith, next))

  pub none_too_large : (m : Module) → IsModule m → Writable m → (raw : RawModule) → Means raw (canonical_module m) → HasNone TooLarge raw
  none_too_large m is w raw means spot (inl (i, f, at, here, many)) =
      let less = (sizes_kept raw.functions m means is.whole w.functions i f at).1 in let most = w.count in absurd (omega (arith, many, less, most))
  none_too_large m is w raw means spot (inr (i, r, at, (here, large))) =
      let small = (sizes_kept raw.functions m means is.whole w.functions i r at).0 in absurd (omega (arith, large, small))

-- ---- no fault

pub no_fault : (raw : RawModule) → HasNone Duplicate raw → HasNone Undefined raw → HasNone NumberRange raw → HasNone Untyped raw → HasNone TooLarge raw → NoFault raw
no_fault raw twice undefined outside untyped large Duplicate spot h = twice spot h
no_fault raw twice undefined outside untyped large Undefined spot h = undefined spot h
no_fault raw twice undefined outside untyped large NumberRange spot h = outside spot h
no_fault raw twice undefined outside untyped large Untyped spot h = untyped spot h
no_fault raw twice undefined outside untyped large TooLarge spot h = large spot h
no_fault raw twice undefined outside untyped large _ spot (inl h) = absurd h
no_fault raw twice undefined outside untyped large _ spot (inr (i, r, at, h)) = absurd h

pub reads : (m : Module) → IsModule m → Writable m → ReadsBack m
    → ((raw : RawModule) → IsModuleText (text_of m) raw → Means raw (canonical_module m))
    → ((raw : RawModule) → IsModuleText (text_of m) raw → NoFault raw)
    → Reads (text_of m) (canonical_module m)
reads m is w back means fine = (back.raw, back.is, fine back.raw back.is, means back.raw back.is)

-- ---- one text

pub one_text : ((m : Module) → IsModule m → Writable m → Reads (text_of m) (canonical_module m)) → ReadsAsNothingElse → NumberingKeepsText → OneTextUpToNumbering
one_text read only keeps m r is w is' w' = (
  (λ e. (is.whole, is'.whole, sym (only m is w (canonical_module r) (subst (λ (text : List ℕ). Reads text (canonical_module r)) (sym e) (read r is' w'))))),
  keeps m r,
)

-- The raw module that a canonical text is means the module under canonical numbers.
use Rattle.std.proofs.Common.{◌≡◌, ℕ, List, [], ◌∷◌, ◌++◌, map, Option, Some, None, refl, sym, ap, ap₂, subst, ◌∙◌}
use Rattle.std.specs.Prelude.{flat_map}
use Rattle.std.specs.List.{enumerate_from}
use Rattle.std.proofs.lemmas.List.{map-append}
use Rattle.ir_core.specs.declared.signatures.Ty.{Ty}
use Rattle.ir_core.specs.Lists.{Each}
use Rattle.ir_core.specs.Module.{Function, Module}
use Rattle.ir_core.specs.WellFormed.{WellFormed}
use Rattle.ir_semantics.specs.Canon.{canonical, canonical_module}
use Rattle.ir_text.specs.Writable.{FunctionWritable}
use Rattle.token_reader.specs.declared.raw.RawName.{RawName}
use Rattle.clif_read.specs.declared.raw.RawBlock.{RawBlock}
use Rattle.clif_read.specs.declared.raw.RawFunction.{RawFunction}
use Rattle.clif_read.specs.declared.raw.RawLine.TheVariants as lines
use Rattle.name_tables.specs.declared.firsts.Def.{Def}
use Rattle.name_tables.specs.Chains.{own_name, numbered, IsNumbering}
use Rattle.name_tables.specs.Definitions.{Step, Param, Line as Written, value_def, step_defs, block_steps, steps, value_defs}
use Rattle.name_tables.specs.Words.{place_among, place_in}
use Rattle.clif_meaning.specs.Meaning.{FunctionMeans, FunctionsMean, Means, OneMeaning, function_with, value_types}
use Rattle.clif_meaning.specs.Reads.{Reads}
use Rattle.text_read_back.specs.Bare as bare
use Rattle.text_read_back.specs.Defining.{number_of}
use Rattle.text_read_back.specs.RawOf as raws
use Rattle.text_read_back.specs.ReadsBack.{ReadsBack}
use Rattle.clif_read.specs.Texts.{IsModuleText}
use Rattle.clif_read.specs.declared.raw.RawModule.{RawModule}
use Rattle.ir_text.specs.Text.{text_of}
use Rattle.names_read_back.proofs.Canonical.{function_is, types_are}
use Rattle.text_read_back.proofs.Lists.{flat_bare, map_bare}
use Rattle.names_read_back.proofs.Names.{IsNoAlias, plain_numbering}
use Rattle.names_read_back.proofs.Numbers.{value_number, none_aliased}
use Rattle.names_read_back.proofs.Spotless.{function_same, types_same}

-- ---- definitions without their spots

abbrev pub bare_def : Def → Def
bare_def d = record { name = bare.bare_name d.name; target = bare.bare_option bare.bare_name d.target }

abbrev pub bare_step : Step → Step
bare_step (Param p) = Param (bare.bare_block_param p)
bare_step (Written l) = Written (bare.bare_line l)

abbrev both_steps : List Step → List Step → List Step
both_steps xs ys = xs ++ ys

block_steps_bare : (b : RawBlock) → block_steps (bare.bare_block b) ≡ map bare_step (block_steps b)
block_steps_bare b =
    ap₂ both_steps (map_bare Param bare.bare_block_param bare_step (λ p. refl) b.params) (map_bare Written bare.bare_line bare_step (λ l. refl) b.lines)
    ∙ sym (map-append bare_step (map Param b.params) (map Written b.lines))

pub steps_bare : (r : RawFunction) → steps (bare.bare_function r) ≡ map bare_step (steps r)
steps_bare r = flat_bare block_steps bare.bare_block bare_step block_steps_bare r.blocks

pub step_defs_bare : (s : Step) → step_defs (bare_step s) ≡ map bare_def (step_defs s)
step_defs_bare (Param p) = refl
step_defs_bare (Written (lines.Alias location x y)) = refl
step_defs_bare (Written (lines.Inst location ts rs i)) = map_bare value_def bare.bare_name bare_def (λ x. refl) rs

pub defs_bare : (r : RawFunction) → value_defs (bare.bare_function r) ≡ map bare_def (value_defs r)
defs_bare r = ap (flat_map step_defs) (steps_bare r) ∙ flat_bare step_defs bare_step bare_def step_defs_bare (steps r)

-- ---- no alias lines

no_target : (t : Option RawName) → bare.bare_option bare.bare_name t ≡ None → t ≡ None
no_target None e = refl
no_target (Some x) e = absurd cc

none_bare : (ds : List Def) → Each IsNoAlias (map bare_def ds) → Each IsNoAlias ds
none_bare [] h = tt
none_bare (d ∷ ds) h = (no_target d.target h.0, none_bare ds h.1)

own_bare : (d : Def) (t : Option RawName) → d.target ≡ t → map number_of (own_name (bare_def d)) ≡ map number_of (own_name d)
own_bare d None e = rw e refl
own_bare d (Some x) e = rw e refl

words_bare : (ds : List Def) → map number_of (numbered (map bare_def ds)) ≡ map number_of (numbered ds)
words_bare [] = refl
words_bare (d ∷ ds) =
    map-append number_of (own_name (bare_def d)) (numbered (map bare_def ds))
    ∙ ap₂ (λ (xs ys : List ℕ). xs ++ ys) (own_bare d d.target refl) (words_bare ds)
    ∙ sym (map-append number_of (own_name d) (numbered ds))

-- ---- a raw function that says what the function's own one says

module _ (f : Function) (is : WellFormed f) (w : FunctionWritable f) (r : RawFunction) (e : bare.bare_function r ≡ raws.raw_function f) where
  abbrev value : ℕ → ℕ
  value = value_number f is

  abbrev types : List (ℕ × Ty)
  types = (canonical f).types

  pub own_defs : map bare_def (value_defs r) ≡ value_defs (raws.raw_function f)
  own_defs = sym (defs_bare r) ∙ ap value_defs e

  pub no_aliases : Each IsNoAlias (value_defs r)
  no_aliases = none_bare (value_defs r) (subst (Each IsNoAlias) (sym own_defs) (none_aliased f is))

  same_places : place_in (numbered (value_defs r)) ≡ value
  same_places = ap place_among (sym (words_bare (value_defs r)) ∙ ap (λ (ds : List Def). map number_of (numbered ds)) own_defs)

  pub means_canonical : FunctionMeans r (canonical f)
  means_canonical = record {
    value = value;
    numbering = subst (IsNumbering (value_defs r)) same_places (plain_numbering (value_defs r) no_aliases);
    function = sym (function_is f is w) ∙ ap (λ (x : RawFunction). function_with x value types) (sym e) ∙ function_same r value types;
    types = types_are f is w ∙ ap (λ (x : RawFunction). enumerate_from 0 (value_types x value types)) (sym e) ∙ ap (enumerate_from 0) (types_same r value types);
  }

pub functions_mean : (rs : List RawFunction) (m : Module) → Each WellFormed m → Each FunctionWritable m → map bare.bare_function rs ≡ map raws.raw_function m → FunctionsMean rs (canonical_module m)
functions_mean [] [] is w e = tt
functions_mean [] (f ∷ fs) is w e = absurd cc
functions_mean (r ∷ rs) [] is w e = absurd cc
functions_mean (r ∷ rs) (f ∷ fs) is w e =
    let first : bare.bare_function r ≡ raws.raw_function f = cc in
    let rest : map bare.bare_function rs ≡ map raws.raw_function fs = cc in
    (means_canonical f is.0 w.0 r first, functions_mean rs fs is.1 w.1 rest)

-- the only raw module that a text is says what the module says, and means that
pub functions_say : (m : Module) → ReadsBack m → (raw : RawModule) → IsModuleText (text_of m) raw → map bare.bare_function raw.functions ≡ map raws.raw_function m
functions_say m says raw text = ap (λ (x : RawModule). map bare.bare_function x.functions) (says.only raw text) ∙ ap (λ (x : RawModule). x.functions) says.says

pub text_means : (m : Module) → Each WellFormed m → Each FunctionWritable m → ReadsBack m → (raw : RawModule) → IsModuleText (text_of m) raw → Means raw (canonical_module m)
text_means m is w says raw text = functions_mean raw.functions m is w (functions_say m says raw text)

-- and where the text is read, it is read as that
pub only_reading : OneMeaning → (m : Module) → Each WellFormed m → Each FunctionWritable m → ReadsBack m → (other : Module) → Reads (text_of m) other → other ≡ canonical_module m
only_reading one m is w says other reads = one reads.0 other (canonical_module m) reads.2 reads.3 (text_means m is w says reads.0 reads.1)

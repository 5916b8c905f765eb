-- In the raw module that a canonical text is no word is defined twice, and no chain of aliases goes on for ever.
use Rattle.std.proofs.Common.{◌≡◌, ℕ, zero, suc, ◌+◌, ◌<◌, ◌≤◌, Bool, true, false, cond, List, [], ◌∷◌, map, length, Option, Some, None, refl, sym, ap, subst, ◌∙◌, arith, inl, inr}
use Rattle.std.specs.Prelude.{flat_map, slice_get}
use Rattle.std.specs.List.{range_with_len}
use Rattle.ir_core.specs.declared.names.FuncName.{FuncName}
use Rattle.ir_core.specs.declared.names.FuncName.TheVariants as names
use Rattle.ir_core.specs.Lists.{In, Each, Different}
use Rattle.ir_core.specs.Lookup.{same_name, find_function}
use Rattle.ir_core.specs.Module.{Function, Module}
use Rattle.ir_core.specs.WellFormed.{IsModule, WellFormed, DifferentNames}
use Rattle.ir_core.proofs.Equal.{equal_name}
use Rattle.ir_text.specs.Writable.{FunctionWritable}
use Rattle.token_reader.specs.declared.raw.RawName.{RawName}
use Rattle.clif_read.specs.declared.raw.RawFuncName.TheVariants as func_names
use Rattle.clif_read.specs.declared.raw.RawFunction.{RawFunction}
use Rattle.clif_lex.specs.declared.faults.TextKind.TheVariants.{Duplicate}
use Rattle.name_tables.specs.declared.firsts.Def.{Def}
use Rattle.name_tables.specs.Chains.{IsEndless}
use Rattle.name_tables.specs.Definitions.{Kind, Slots, Sigs, Callees, Blocks, Values, slot_names, sig_names, callee_names, definitions, value_defs}
use Rattle.clif_names.specs.Faults.{SameName, FunctionFault, IsFault}
use Rattle.name_tables.specs.Words.{Repeats}
use Rattle.clif_meaning.specs.Meaning.{name_of}
use Rattle.clif_meaning.proofs.ModuleLaws.{one_name}
use Rattle.text_read_back.specs.Bare as bare
use Rattle.text_read_back.specs.Defining.{number_of}
use Rattle.text_read_back.specs.RawOf as raws
use Rattle.text_read_back.specs.ReadsBack.{ReadsBack}
use Rattle.clif_read.specs.Texts.{IsModuleText}
use Rattle.clif_read.specs.declared.raw.RawModule.{RawModule}
use Rattle.ir_text.specs.Text.{text_of}
use Rattle.names_read_back.proofs.Names.{found_is, ends}
use Rattle.names_read_back.proofs.Numbers.{slot_words_are, sig_words_are, callee_words_are, value_words_are, block_words_are}
use Rattle.names_read_back.proofs.Spotless.{slot_words, sig_words, callee_words, block_words, name_same}
use Rattle.names_read_back.proofs.TextMeans.{bare_def, own_defs, no_aliases, functions_say}
use Rattle.names_read_back.proofs.Declarations.{name_back}

-- ---- words that are numbered in order

got_in : (ws : List RawName) (i : ℕ) (w : RawName) → slice_get ws i ≡ Some w → In w.number (map number_of ws)
got_in [] i w e = absurd cc
got_in (x ∷ ws) zero w e = let s : x ≡ w = cc in inl (sym (ap number_of s))
got_in (x ∷ ws) (suc i) w e = inr (got_in ws i w e)

no_repeat : (ws : List RawName) → Different (map number_of ws) → (i j : ℕ) (w u : RawName) → slice_get ws i ≡ Some w → j < i → slice_get ws j ≡ Some u → u.number ≡ w.number → ⊥
no_repeat [] h i j w u e less g s = absurd cc
no_repeat (x ∷ ws) h zero j w u e less g s = absurd (omega arith)
no_repeat (x ∷ ws) h (suc i) zero w u e less g s = let same : x ≡ u = cc in h.0 (subst (λ (k : ℕ). In k (map number_of ws)) (sym (ap number_of same ∙ s)) (got_in ws i w e))
no_repeat (x ∷ ws) h (suc i) (suc j) w u e less g s = no_repeat ws h.1 i j w u e (omega arith) g s

range_from : (b k v : ℕ) → In v (range_with_len b k) → b ≤ v
range_from b zero v h = absurd h
range_from b (suc k) v (inl e) = omega arith
range_from b (suc k) v (inr h) = let r = range_from (b + 1) k v h in omega arith

counted_different : (a k : ℕ) → Different (range_with_len a k)
counted_different a zero = tt
counted_different a (suc k) = (λ h. absurd (let r = range_from (a + 1) k a h in omega arith), counted_different (a + 1) k)

none_twice : (ws : List RawName) (count spot : ℕ) → map number_of ws ≡ range_with_len 0 count → Repeats ws spot → ⊥
none_twice ws count spot e r = no_repeat ws (subst Different (sym e) (counted_different 0 count)) r.0 r.1 r.2 r.3 r.4 r.6 r.7 r.8

def_names : (ds : List Def) → map number_of (map (λ d. d.name) (map bare_def ds)) ≡ map number_of (map (λ d. d.name) ds)
def_names [] = refl
def_names (d ∷ ds) = ap (λ (ns : List ℕ). d.name.number ∷ ns) (def_names ds)

-- ---- a raw function that says what the function's own one says

module _ (f : Function) (is : WellFormed f) (w : FunctionWritable f) (r : RawFunction) (e : bare.bare_function r ≡ raws.raw_function f) where
  none_repeats : (k : Kind) (spot : ℕ) → Repeats (definitions r k) spot → ⊥
  none_repeats Slots spot = none_twice (definitions r Slots) (length f.slots) spot (sym (slot_words r.decls) ∙ ap (λ (x : RawFunction). map number_of (flat_map slot_names x.decls)) e ∙ slot_words_are f is)
  none_repeats Sigs spot = none_twice (definitions r Sigs) (length f.sigs) spot (sym (sig_words r.decls) ∙ ap (λ (x : RawFunction). map number_of (flat_map sig_names x.decls)) e ∙ sig_words_are f is)
  none_repeats Callees spot = none_twice (definitions r Callees) (length f.callees) spot (sym (callee_words r.decls) ∙ ap (λ (x : RawFunction). map number_of (flat_map callee_names x.decls)) e ∙ callee_words_are f is)
  none_repeats Blocks spot = none_twice (definitions r Blocks) _ spot (sym (block_words r.blocks) ∙ ap (λ (x : RawFunction). map number_of (map (λ b. b.block) x.blocks)) e ∙ block_words_are f is)
  none_repeats Values spot = none_twice (definitions r Values) _ spot
      (sym (def_names (value_defs r)) ∙ ap (λ (ds : List Def). map number_of (map (λ d. d.name) ds)) (own_defs f is w r e) ∙ value_words_are f is)

  pub no_duplicate : (spot : ℕ) → FunctionFault r Duplicate spot → ⊥
  no_duplicate spot h = none_repeats h.0 spot h.1

  pub none_endless : (spot : ℕ) → IsEndless (value_defs r) spot → ⊥
  none_endless spot h =
      let plain = found_is (value_defs r) h.0 h.1 (no_aliases f is w r e) h.2 in
      let end = ends (value_defs r) h.1 plain.1 in
      let never = h.4 end.0 in absurd cc

-- ---- names of functions

own_name : (r : RawFunction) (f : Function) → bare.bare_function r ≡ raws.raw_function f → f.name ≡ name_of r.name
own_name r f e = sym (name_back f.name) ∙ ap (λ (x : RawFunction). name_of x.name) (sym e) ∙ name_same r.name

-- a function of a list has its name in the module
named : (rs : List RawFunction) (m : Module) → map bare.bare_function rs ≡ map raws.raw_function m → (i : ℕ) (r : RawFunction) → slice_get rs i ≡ Some r → (n : FuncName) → name_of r.name ≡ n → find_function n m ≡ None → ⊥
named [] m e i r g n s none = absurd cc
named (x ∷ rs) [] e i r g n s none = absurd cc
named (x ∷ rs) (f ∷ fs) e zero r g n s none =
    let same : x ≡ r = cc in
    let own : bare.bare_function x ≡ raws.raw_function f = cc in
    let here = equal_name f.name n (own_name x f own ∙ ap (λ (y : RawFunction). name_of y.name) same ∙ s) in
    absurd (let bad = rw here at none in cc)
named (x ∷ rs) (f ∷ fs) e (suc i) r g n s none = named rs fs (let rest : map bare.bare_function rs ≡ map raws.raw_function fs = cc in rest) i r g n s (past (same_name f.name n) f (find_function n fs) none)
  where
    past : (b : Bool) (f : Function) (o : Option Function) → cond b (Some f) o ≡ None → o ≡ None
    past true f o h = absurd cc
    past false f o h = h

pub names_differ : (rs : List RawFunction) (m : Module) → map bare.bare_function rs ≡ map raws.raw_function m → DifferentNames m → (i j : ℕ) (r s : RawFunction) → slice_get rs i ≡ Some r → j < i → slice_get rs j ≡ Some s → SameName s.name r.name → ⊥
names_differ [] m e d i j r s g less h same = absurd cc
names_differ (x ∷ rs) [] e d i j r s g less h same = absurd cc
names_differ (x ∷ rs) (f ∷ fs) e d zero j r s g less h same = absurd (omega arith)
names_differ (x ∷ rs) (f ∷ fs) e d (suc i) zero r s g less h same =
    let first : x ≡ s = cc in
    let own : bare.bare_function x ≡ raws.raw_function f = cc in
    let rest : map bare.bare_function rs ≡ map raws.raw_function fs = cc in
    named rs fs rest i r g f.name (sym (one_name s.name r.name same) ∙ sym (ap (λ (y : RawFunction). name_of y.name) first) ∙ sym (own_name x f own)) d.0
names_differ (x ∷ rs) (f ∷ fs) e d (suc i) (suc j) r s g less h same =
    let rest : map bare.bare_function rs ≡ map raws.raw_function fs = cc in
    names_differ rs fs rest d.1 i j r s g (omega arith) h same

-- ---- a module

function_at : (rs : List RawFunction) (m : Module) → map bare.bare_function rs ≡ map raws.raw_function m → Each WellFormed m → Each FunctionWritable m → (i : ℕ) (r : RawFunction) → slice_get rs i ≡ Some r
    → (spot : ℕ) → FunctionFault r Duplicate spot → ⊥
function_at [] m e is w i r g spot h = absurd cc
function_at (x ∷ rs) [] e is w i r g spot h = absurd cc
function_at (x ∷ rs) (f ∷ fs) e is w zero r g spot h =
    let same : x ≡ r = cc in
    let own : bare.bare_function x ≡ raws.raw_function f = cc in
    no_duplicate f is.0 w.0 r (subst (λ (y : RawFunction). bare.bare_function y ≡ raws.raw_function f) same own) spot h
function_at (x ∷ rs) (f ∷ fs) e is w (suc i) r g spot h =
    let rest : map bare.bare_function rs ≡ map raws.raw_function fs = cc in
    function_at rs fs rest is.1 w.1 i r g spot h

no_duplicates : (raw : RawModule) (m : Module) → map bare.bare_function raw.functions ≡ map raws.raw_function m → IsModule m → Each FunctionWritable m → (spot : ℕ) → IsFault raw Duplicate spot → ⊥
no_duplicates raw m e is w spot (inl h) = names_differ raw.functions m e is.names h.0 h.1 h.2 h.3 h.4 h.6 h.7 h.8
no_duplicates raw m e is w spot (inr h) = function_at raw.functions m e is.whole w h.0 h.1 h.2 spot h.3

pub text_has_none_twice : (m : Module) → IsModule m → Each FunctionWritable m → ReadsBack m → (raw : RawModule) → IsModuleText (text_of m) raw → (spot : ℕ) → IsFault raw Duplicate spot → ⊥
text_has_none_twice m is w says raw text = no_duplicates raw m (functions_say m says raw text) is w

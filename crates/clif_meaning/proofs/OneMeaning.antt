-- A raw module without a fault means at most one module.
use Rattle.std.proofs.Common.{◌≡◌, ℕ, suc, ◌<◌, ◌≤◌, inl, inr, Bool, true, false, List, [], ◌∷◌, ◌++◌, length, slice_get, Option, None, Some, map, refl, sym, ap, subst, ◌∙◌, arith, append_assoc, length-append}
use Rattle.std.specs.Prelude.{flat_map}
use Rattle.std.specs.List.{enumerate_from}
use Rattle.std.proofs.Math.Seq.{take-append_seam}
use Rattle.std.proofs.lemmas.Grind.{flat_map-append}
use Rattle.std.proofs.lemmas.List.{append-nil}
use Rattle.std.proofs.lemmas.Bool.Decides.{eqb_tells}
use Rattle.std.proofs.lemmas.Option.{slice_get_past}
use Rattle.ir_core.specs.declared.signatures.Ty.{Ty}
use Rattle.ir_core.specs.Module.{Function}
use Rattle.ir_core.specs.Lookup.{type_in}
use Rattle.ir_semantics.specs.Renaming.{Renaming}
use Rattle.ir_core.proofs.Walking.{type_found}
use Rattle.ir_core.proofs.Gets.{get_left}
use Rattle.token_reader.specs.declared.raw.RawName.{RawName}
use Rattle.clif_insts.specs.declared.raw.RawInst.{RawInst}
use Rattle.clif_read.specs.declared.raw.RawLine.TheVariants as line
use Rattle.clif_read.specs.declared.raw.RawFunction.{RawFunction}
use Rattle.clif_lex.specs.declared.faults.TextKind.TheVariants.{Untyped}
use Rattle.name_tables.specs.declared.firsts.Def.{Def}
use Rattle.name_tables.specs.Definitions.{Step, Param, Line, steps, step_defs, value_def, defs_of, value_defs, names_of}
use Rattle.name_tables.specs.Words.{place_in}
use Rattle.name_tables.specs.Chains.{Ends, look, HasNumber, IsNumbering, numbered, own_name}
use Rattle.clif_names.specs.Typing.{asks, gives_type, step_inst, IsUntyped}
use Rattle.clif_meaning.specs.Instructions.{operand_type, known, line_of, value_at}
use Rattle.clif_meaning.specs.Meaning.{numbers, function_with, inst_type, step_types, value_types, types_for, form_types, FunctionMeans, FunctionsMean}
use Rattle.clif_meaning.specs.Meaning.{OneMeaning}
use Rattle.clif_meaning.proofs.Lists.{get_seam}
use Rattle.clif_names.specs.Listed as listed
use Rattle.clif_names.proofs.ListedLaws.{undefined}
use Rattle.name_tables.proofs.ChainLaws.{one_end, end_first}
use Rattle.name_tables.proofs.DefinedWords.{place_front}

-- ---- numbers of words are one

one_number : (ds : List Def) (o : Option Def) (v w : ℕ) → HasNumber ds o v → HasNumber ds o w → v ≡ w
one_number ds None v w h g = h ∙ sym g
one_number ds (Some d) v w (e, (k, c), p) (x, (j, b), q) =
    let s = one_end ds k j d (Ends e) (Ends x) c b in
    let r : e ≡ x = cc in
    p ∙ ap (λ (y : Def). place_in (numbered ds) y.name.number) r ∙ sym q

one_numbering : (ds : List Def) (f g : ℕ → ℕ) → IsNumbering ds f → IsNumbering ds g → f ≡ g
one_numbering ds f g h k = λ i n. one_number ds (look ds n) (f n) (g n) (h n) (k n) i

-- ---- places among the definitions before a step

look_front : (xs ys : List Def) (n : ℕ) (e : Def) → listed.is_defined (names_of xs) n ≡ true → look (xs ++ ys) n ≡ Some e → look xs n ≡ Some e
look_front [] ys n e d h = absurd cc
look_front (x ∷ xs) ys n e d h = elim (eqb_tells n x.name.number) [
  | inl t ↦ (let g = rw t.0 at h in rw t.0 g)
  | inr f ↦ (let g = rw f.0 at h in let c = rw f.0 at d in rw f.0 (look_front xs ys n e c g))
]

-- ---- lists

pub map_names : (rs : List RawName) → numbered (map value_def rs) ≡ rs
map_names [] = refl
map_names (r ∷ rs) = ap (λ xs. r ∷ xs) (map_names rs)

pub types_for_length : (rs : List RawName) (ts : List Ty) → length (types_for rs ts) ≡ length rs
types_for_length [] ts = refl
types_for_length (r ∷ rs) [] = ap suc (types_for_length rs [])
types_for_length (r ∷ rs) (t ∷ ts) = ap suc (types_for_length rs ts)

-- ---- types

type_by : (p q : ℕ → Option Ty) (at : Renaming) (s : Option Ty) (o : Option RawName) → ((x : RawName) → elim s [ None ↦ o | Some t ↦ None ] ≡ Some x → p (value_at at x) ≡ q (value_at at x))
    → elim s as (λ s. Option Ty) [ None ↦ operand_type p at o | Some t ↦ Some t ] ≡ elim s as (λ s. Option Ty) [ None ↦ operand_type q at o | Some t ↦ Some t ]
type_by p q at (Some t) o same = refl
type_by p q at None None same = refl
type_by p q at None (Some x) same = same x refl

-- a step has as many types as values, whatever the types of values are
module _ (raw : RawFunction) (value : ℕ → ℕ) (types : List (ℕ × Ty)) where
  pub count : (s : Step) → length (step_types raw value types s) ≡ length (numbered (step_defs s))
  count (Param p) = refl
  count (Line (line.Alias location n m)) = refl
  count (Line (line.Inst location tags results inst)) =
      types_for_length results (form_types (function_with raw value types) (line_of (numbers raw value) (inst_type raw value types inst) tags results inst).inst (inst_type raw value types inst))
      ∙ ap length (sym (map_names results))

  pub counts : (ss : List Step) → length (flat_map (step_types raw value types) ss) ≡ length (numbered (defs_of ss))
  counts [] = refl
  counts (s ∷ ss) =
      length-append (step_types raw value types s) (flat_map (step_types raw value types) ss)
      ∙ (let a = count s in let b = counts ss in omega (arith, a, b, length-append (numbered (step_defs s)) (numbered (defs_of ss))))
      ∙ ap length (sym (flat_map-append own_name (step_defs s) (defs_of ss)))

module _ (raw : RawFunction) (value : ℕ → ℕ) (numbering : IsNumbering (value_defs raw) value) (free : (spot : ℕ) → IsUntyped raw spot → ⊥) where
  abbrev types_at : List Ty → Step → List Ty
  types_at ts s = step_types raw value (enumerate_from 0 ts) s

  pub total : ℕ
  total = length (numbered (value_defs raw))

  -- types of values that agree on what stands before a step give it one meaning
  module _ (ts us : List Ty) where
    type_t : ℕ → Option Ty
    type_t = type_in (enumerate_from 0 ts)

    type_u : ℕ → Option Ty
    type_u = type_in (enumerate_from 0 us)

    word_same : (before : List Step) (s : Step) (ss : List Step) → before ++ s ∷ ss ≡ steps raw
        → ((p : ℕ) → p < length (numbered (defs_of before)) → type_t p ≡ type_u p) → type_t total ≡ type_u total
        → (inst : RawInst) (x : RawName) → step_inst s ≡ Some inst → asks inst ≡ Some x
        → (o : Option Def) → look (value_defs raw) x.number ≡ o → HasNumber (value_defs raw) o (value x.number) → type_t (value x.number) ≡ type_u (value x.number)
    unfolding total
    word_same before s ss whole agree past inst x does asked None found h = rw h past
    word_same before s ss whole agree past inst x does asked (Some d) found (e, (k, c), p) = by (listed.is_defined (names_of (defs_of before)) e.name.number) refl
      where
        split : value_defs raw ≡ defs_of before ++ defs_of (s ∷ ss)
        split = ap defs_of (sym whole) ∙ flat_map-append step_defs before (s ∷ ss)

        ending : (look (value_defs raw) e.name.number ≡ Some e) × (e.target ≡ None)
        ending = end_first (value_defs raw) k x.number d e found c

        by : (b : Bool) → listed.is_defined (names_of (defs_of before)) e.name.number ≡ b → type_t (value x.number) ≡ type_u (value x.number)
        by true t = agree (value x.number)
            (rw (p, split) (place_front (defs_of before) (defs_of (s ∷ ss)) e.name.number e
            (look_front (defs_of before) (defs_of (s ∷ ss)) e.name.number e t (ap (λ ds. look ds e.name.number) (sym split) ∙ ending.0)) ending.1))
        by false f = absurd (free inst.opcode.spot (
          length before,
          s,
          inst,
          x,
          e,
          ap (λ xs. slice_get xs (length before)) (sym whole) ∙ get_seam before s ss,
          does,
          refl,
          asked,
          (d, found, (k, c)),
          rw (sym whole, take-append_seam before (s ∷ ss)) (undefined (names_of (defs_of before)) e.name.number f),
        ))

    step_alike : (before : List Step) (s : Step) (ss : List Step) → before ++ s ∷ ss ≡ steps raw
        → ((p : ℕ) → p < length (numbered (defs_of before)) → type_t p ≡ type_u p) → type_t total ≡ type_u total → types_at ts s ≡ types_at us s
    unfolding type_t type_u
    step_alike before (Param p) ss whole agree past = refl
    step_alike before (Line (line.Alias location n m)) ss whole agree past = refl
    step_alike before (Line (line.Inst location tags results inst)) ss whole agree past =
        ap (λ t. types_for results (form_types (function_with raw value []) (line_of (numbers raw value) t tags results inst).inst t))
        (ap known (type_by type_t type_u (numbers raw value) inst.suffix (gives_type inst.operands)
        (λ x asked. word_same before (Line (line.Inst location tags results inst)) ss whole agree past inst x refl asked (look (value_defs raw) x.number) refl (numbering x.number))))

  past_all : (xs : List Ty) → length xs ≤ total → type_in (enumerate_from 0 xs) total ≡ None
  past_all xs le = type_found 0 total total xs (omega arith) ∙ slice_get_past xs total le

  -- two lists of types, each of which gives itself
  module _ (ts us : List Ty) (is_t : ts ≡ flat_map (types_at ts) (steps raw)) (is_u : us ≡ flat_map (types_at us) (steps raw)) where
    abbrev SameBefore : List Step → Type 0
    SameBefore before = flat_map (types_at ts) before ≡ flat_map (types_at us) before

    front : (before rest : List Step) (p : ℕ) → before ++ rest ≡ steps raw → p < length (numbered (defs_of before))
        → (xs : List Ty) → xs ≡ flat_map (types_at xs) (steps raw) → slice_get xs p ≡ slice_get (flat_map (types_at xs) before) p
    front before rest p whole lt xs is_x =
        ap (λ ys. slice_get ys p) (is_x ∙ ap (flat_map (types_at xs)) (sym whole) ∙ flat_map-append (types_at xs) before rest)
        ∙ get_left (flat_map (types_at xs) before) (flat_map (types_at xs) rest) p (rw (counts raw value (enumerate_from 0 xs) before) lt)

    within_same : (before rest : List Step) → before ++ rest ≡ steps raw → SameBefore before → (p : ℕ) → p < length (numbered (defs_of before)) → type_t ts us p ≡ type_u ts us p
    unfolding type_t type_u
    within_same before rest whole same p lt =
        type_found 0 p p ts (omega arith) ∙ front before rest p whole lt ts is_t ∙ ap (λ xs. slice_get xs p) same
        ∙ sym (front before rest p whole lt us is_u) ∙ sym (type_found 0 p p us (omega arith))

    all_long : (xs : List Ty) → xs ≡ flat_map (types_at xs) (steps raw) → length xs ≤ total
    unfolding total
    all_long xs is_x = let e = ap length is_x ∙ counts raw value (enumerate_from 0 xs) (steps raw) in omega (arith, e)

    step_same : (before : List Step) (s : Step) (ss : List Step) → before ++ s ∷ ss ≡ steps raw → SameBefore before → types_at ts s ≡ types_at us s
    unfolding type_t type_u
    step_same before s ss whole same =
        step_alike ts us before s ss whole (within_same before (s ∷ ss) whole same) (past_all ts (all_long ts is_t) ∙ sym (past_all us (all_long us is_u)))

    all_same : (before rest : List Step) → before ++ rest ≡ steps raw → SameBefore before → flat_map (types_at ts) rest ≡ flat_map (types_at us) rest
    all_same before [] whole same = refl
    all_same before (s ∷ ss) whole same =
        let e = step_same before s ss whole same in
        ap (λ xs. xs ++ flat_map (types_at ts) ss) e
        ∙ ap (λ xs. types_at us s ++ xs) (all_same (before ++ s ∷ []) ss (append_assoc before (s ∷ []) ss ∙ whole)
        (flat_map-append (types_at ts) before (s ∷ []) ∙ ap (λ xs. xs ++ (types_at ts s ++ [])) same ∙ ap (λ xs. flat_map (types_at us) before ++ (xs ++ [])) e ∙ sym (flat_map-append (types_at us) before (s ∷ []))))

    one_types : ts ≡ us
    one_types = is_t ∙ all_same [] (steps raw) refl refl ∙ sym is_u

  -- ---- types there are

  pub shorter : (before rest : List Step) → before ++ rest ≡ steps raw → length (numbered (defs_of before)) ≤ total
  unfolding total
  shorter before rest whole =
      let e = ap (λ ss. length (numbered (defs_of ss))) (sym whole) in
      let a = ap (λ ds. length (numbered ds)) (flat_map-append step_defs before rest) in
      let b = ap length (flat_map-append own_name (defs_of before) (defs_of rest)) in
      omega (arith, e, a, b, length-append (numbered (defs_of before)) (numbered (defs_of rest)))

  part_shorter : (before rest : List Step) → length (numbered (defs_of before)) ≤ length (numbered (defs_of (before ++ rest)))
  part_shorter before rest =
      let a = ap (λ ds. length (numbered ds)) (flat_map-append step_defs before rest) in
      let b = ap length (flat_map-append own_name (defs_of before) (defs_of rest)) in
      omega (arith, a, b, length-append (numbered (defs_of before)) (numbered (defs_of rest)))

  -- more types behind change nothing before
  module _ (ts more : List Ty) (few : length (ts ++ more) ≤ total) where
    few_first : length ts ≤ total
    few_first = let a = length-append ts more in omega (arith, a, few)

    agree_front : (p : ℕ) → p < length ts → type_in (enumerate_from 0 (ts ++ more)) p ≡ type_in (enumerate_from 0 ts) p
    agree_front p lt = type_found 0 p p (ts ++ more) (omega arith) ∙ get_left ts more p lt ∙ sym (type_found 0 p p ts (omega arith))

    pub one_alike : (before : List Step) (s : Step) (ss : List Step) → before ++ s ∷ ss ≡ steps raw → length (numbered (defs_of before)) ≤ length ts → types_at (ts ++ more) s ≡ types_at ts s
    unfolding type_t type_u
    one_alike before s ss whole le =
        step_alike (ts ++ more) ts before s ss whole (λ p lt. agree_front p (omega (arith, lt, le))) (past_all (ts ++ more) few ∙ sym (past_all ts few_first))

    pub all_alike : (before mid rest : List Step) → before ++ (mid ++ rest) ≡ steps raw → length (numbered (defs_of (before ++ mid))) ≤ length ts
        → flat_map (types_at (ts ++ more)) mid ≡ flat_map (types_at ts) mid
    all_alike before [] rest whole le = refl
    all_alike before (s ∷ ss) rest whole le =
        ap (λ xs. xs ++ flat_map (types_at (ts ++ more)) ss) (one_alike before s (ss ++ rest) whole (let a = part_shorter before (s ∷ ss) in omega (arith, a, le)))
        ∙ ap (λ xs. types_at ts s ++ xs) (all_alike (before ++ s ∷ []) ss rest (append_assoc before (s ∷ []) (ss ++ rest) ∙ whole)
        (subst (λ xs. length (numbered (defs_of xs)) ≤ length ts) (sym (append_assoc before (s ∷ []) ss)) le))

  unfoldable pub types_from : (before rest : List Step) → before ++ rest ≡ steps raw → (ts : List Ty) → ts ≡ flat_map (types_at ts) before → (us : List Ty) × (us ≡ flat_map (types_at us) (steps raw))
  types_from before [] whole ts is_t = (ts, is_t ∙ ap (flat_map (types_at ts)) (sym (append-nil before) ∙ whole))
  types_from before (s ∷ ss) whole ts is_t = types_from (before ++ s ∷ []) ss (append_assoc before (s ∷ []) ss ∙ whole) (ts ++ types_at ts s) next
    where
      long : length ts ≡ length (numbered (defs_of before))
      long = ap length is_t ∙ counts raw value (enumerate_from 0 ts) before

      few : length (ts ++ types_at ts s) ≤ total
      few =
          let a = length-append ts (types_at ts s) in
          let b = count raw value (enumerate_from 0 ts) s in
          let c = shorter (before ++ s ∷ []) ss (append_assoc before (s ∷ []) ss ∙ whole) in
          let d = ap (λ ds. length (numbered ds)) (flat_map-append step_defs before (s ∷ [])) in
          let e = ap length (flat_map-append own_name (defs_of before) (defs_of (s ∷ []))) in
          let g = ap (λ ds. length (numbered ds)) (append-nil (step_defs s)) in
          omega (arith, a, b, c, d, e, g, long, length-append (numbered (defs_of before)) (numbered (defs_of (s ∷ []))))

      next : ts ++ types_at ts s ≡ flat_map (types_at (ts ++ types_at ts s)) (before ++ s ∷ [])
      next =
          ap (λ xs. xs ++ types_at ts s) (is_t ∙ sym (all_alike ts (types_at ts s) few [] before (s ∷ ss) whole (omega (arith, long))))
          ∙ ap (λ xs. flat_map (types_at (ts ++ types_at ts s)) before ++ xs) (sym (one_alike ts (types_at ts s) few before s ss whole (omega (arith, long))) ∙ sym (append-nil (types_at (ts ++ types_at ts s) s)))
          ∙ sym (flat_map-append (types_at (ts ++ types_at ts s)) before (s ∷ []))

-- ---- functions and modules

one_function : (raw : RawFunction) (f g : Function) → ((spot : ℕ) → IsUntyped raw spot → ⊥) → FunctionMeans raw f → FunctionMeans raw g → f ≡ g
one_function raw f g free mf mg = mf.function ∙ ap (function_with raw mf.value) types ∙ sym other.0
  where
    same : mg.value ≡ mf.value
    same = one_numbering (value_defs raw) mg.value mf.value mg.numbering mf.numbering

    other : (g ≡ function_with raw mf.value g.types) × (g.types ≡ enumerate_from 0 (value_types raw mf.value g.types))
    other = subst (λ (v : ℕ → ℕ). (g ≡ function_with raw v g.types) × (g.types ≡ enumerate_from 0 (value_types raw v g.types))) same (mg.function, mg.types)

    types : f.types ≡ g.types
    types =
        mf.types
        ∙ ap (enumerate_from 0) (one_types raw mf.value mf.numbering free (value_types raw mf.value f.types) (value_types raw mf.value g.types) (ap (value_types raw mf.value) mf.types) (ap (value_types raw mf.value) other.1))
        ∙ sym other.1

one_list : (rs : List RawFunction) (fs gs : List Function) → ((i : ℕ) (r : RawFunction) → slice_get rs i ≡ Some r → (spot : ℕ) → IsUntyped r spot → ⊥) → FunctionsMean rs fs → FunctionsMean rs gs → fs ≡ gs
one_list [] [] [] free h k = refl
one_list [] [] (g ∷ gs) free h k = absurd k
one_list [] (f ∷ fs) gs free h k = absurd h
one_list (r ∷ rs) [] gs free h k = absurd h
one_list (r ∷ rs) (f ∷ fs) [] free h k = absurd k
one_list (r ∷ rs) (f ∷ fs) (g ∷ gs) free h k =
    ap (λ x. x ∷ fs) (one_function r f g (free 0 r refl) h.0 k.0) ∙ ap (λ xs. g ∷ xs) (one_list rs fs gs (λ i. free (suc i)) h.1 k.1)

pub one_meaning : OneMeaning
one_meaning raw m n none h k = one_list raw.functions m n (λ i r at spot u. none Untyped spot (inr (i, r, at, u))) h k

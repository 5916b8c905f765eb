-- The types of a splice: values of both functions keep theirs, and new results have those of the site's results.
use Rattle.std.proofs.Common.{◌≡◌, ℕ, zero, suc, ◌+◌, inl, inr, List, [], ◌∷◌, ◌++◌, length, map, Option, Some, None, refl, sym, ap, ap₂, ◌∙◌, subst, arith, eq-eqb, ne_eqb}
use Rattle.std.specs.Prelude.{slice_get, if◌then◌else◌}
use Rattle.std.proofs.lemmas.Bool.{cases_eq}
use Rattle.ir_core.specs.declared.signatures.Ty.{Ty}
use Rattle.ir_core.specs.Module.{Branches, Call, Instruction, Line, Block, Plain, Return, ReturnCall, SequencePoint, TryCall}
use Rattle.ir_core.specs.Lookup.{find_block, type_in, type_of}
use Rattle.ir_core.proofs.Gets.{some_same}
use Rattle.ir_semantics.specs.TypeRules.{types_of, each_some}
use Rattle.ir_semantics.specs.Renaming.{Renaming, typed_under}
use Rattle.ir_semantics.specs.Splice.{Kind, Last, Naming, Splicing, Tries, Within, callee_names, caller_names, from, kind_of, line_types, new_results, new_types, new_types_by, pair, sides, spliced, typed_results, with_type}
use Rattle.inline_outcomes.proofs.Local.{Injective}
use Rattle.inline_outcomes.proofs.Related.{Distinct}
use Rattle.inline_outcomes.proofs.Linking.{pair_same}
use Rattle.inline_outcomes.proofs.Places.{find_hit, find_skip}
use Rattle.inline_acceptance.proofs.Points.{IsTail}

-- new values are apart from all others, and from each other
pub record Apart (n : Naming) : Type 0 where
  pub callee_new : (a c i : ℕ) → n.callee_value a ≡ n.new_value c i → ⊥
  pub new_value : (c i b j : ℕ) → n.new_value c i ≡ n.new_value b j → (c ≡ b) × (i ≡ j)

pub apart_sides : Apart sides
apart_sides = record { callee_new = λ a c i q. omega (arith, q); new_value = λ c i b j q. let e : pair c i ≡ pair b j = omega (arith, q) in pair_same c i b j e }

-- ---- types in lists

pub type_hit : (x : ℕ × Ty) (xs : List (ℕ × Ty)) (v : ℕ) → x.0 ≡ v → type_in (x ∷ xs) v ≡ Some x.1
type_hit x xs v h = ap (λ c. if c then Some x.1 else type_in xs v) (eq-eqb x.0 v h)

pub type_skip : (x : ℕ × Ty) (xs : List (ℕ × Ty)) (v : ℕ) → (x.0 ≡ v → ⊥) → type_in (x ∷ xs) v ≡ type_in xs v
type_skip x xs v h = ap (λ c. if c then Some x.1 else type_in xs v) (ne_eqb x.0 v h)

pub type_append_none : (xs ys : List (ℕ × Ty)) (v : ℕ) → type_in xs v ≡ None → type_in (xs ++ ys) v ≡ type_in ys v
type_append_none [] ys v h = refl
type_append_none (x ∷ xs) ys v h =
    elim (cases_eq x.0 v) [
      | inl q ↦ let e : Some x.1 ≡ None = sym (type_hit x xs v q) ∙ h in cc
      | inr q ↦ type_skip x (xs ++ ys) v q ∙ type_append_none xs ys v (sym (type_skip x xs v q) ∙ h)
    ]

pub type_append_some : (xs ys : List (ℕ × Ty)) (v : ℕ) (t : Ty) → type_in xs v ≡ Some t → type_in (xs ++ ys) v ≡ Some t
type_append_some [] ys v t h = cc
type_append_some (x ∷ xs) ys v t h =
    elim (cases_eq x.0 v) [ inl q ↦ type_hit x (xs ++ ys) v q ∙ sym (type_hit x xs v q) ∙ h | inr q ↦ type_skip x (xs ++ ys) v q ∙ type_append_some xs ys v t (sym (type_skip x xs v q) ∙ h) ]

pub type_append_same : (xs ys : List (ℕ × Ty)) (v : ℕ) → type_in ys v ≡ None → type_in (xs ++ ys) v ≡ type_in xs v
type_append_same xs ys v h = go (type_in xs v) refl
  where
    go : (o : Option Ty) → type_in xs v ≡ o → type_in (xs ++ ys) v ≡ type_in xs v
    go None q = type_append_none xs ys v q ∙ h ∙ sym q
    go (Some t) q = type_append_some xs ys v t q ∙ sym q

pub type_under : (r : Renaming) → Injective r.value → (xs : List (ℕ × Ty)) (v : ℕ) → type_in (map (typed_under r) xs) (r.value v) ≡ type_in xs v
type_under r inj [] v = refl
type_under r inj (x ∷ xs) v =
    elim (cases_eq x.0 v) [
      | inl q ↦ type_hit (typed_under r x) (map (typed_under r) xs) (r.value v) (ap r.value q) ∙ sym (type_hit x xs v q)
      | inr q ↦ type_skip (typed_under r x) (map (typed_under r) xs) (r.value v) (λ p. q (inj x.0 v p)) ∙ type_under r inj xs v ∙ sym (type_skip x xs v q)
    ]

pub type_off : (r : Renaming) (u : ℕ) → ((v : ℕ) → r.value v ≡ u → ⊥) → (xs : List (ℕ × Ty)) → type_in (map (typed_under r) xs) u ≡ None
type_off r u off [] = refl
type_off r u off (x ∷ xs) = type_skip (typed_under r x) (map (typed_under r) xs) u (off x.0) ∙ type_off r u off xs

pub with_off : (v u : ℕ) → (v ≡ u → ⊥) → (o : Option Ty) → type_in (with_type v o) u ≡ None
with_off v u off None = refl
with_off v u off (Some t) = type_skip (v, t) [] u off

module _ (S : Splicing) (names : Distinct S.naming) (news : Apart S.naming) where
  results_off : (u c i : ℕ) → ((j : ℕ) → S.naming.new_value c j ≡ u → ⊥) → (vs : List ℕ) → type_in (typed_results S c i vs) u ≡ None
  results_off u c i off [] = refl
  results_off u c i off (v ∷ vs) = type_append_none (with_type (S.naming.new_value c i) (type_in S.caller.types v)) (typed_results S c (suc i) vs) u (with_off (S.naming.new_value c i) u (off i) (type_in S.caller.types v)) ∙ results_off u c (suc i) off vs

  by_off : (k : Kind) (inst : Instruction) (u c : ℕ) → ((j : ℕ) → S.naming.new_value c j ≡ u → ⊥) → type_in (new_types_by S c k inst) u ≡ None
  by_off Within (ReturnCall t args) u c off = results_off u c 0 off S.site.results
  by_off Within (Plain p) u c off = refl
  by_off Within (Branches p) u c off = refl
  by_off Within SequencePoint u c off = refl
  by_off Within (Return p) u c off = refl
  by_off Within (Call p a) u c off = refl
  by_off Within (TryCall p a b d e) u c off = refl
  by_off Last inst u c off = refl
  by_off (Tries normal table) inst u c off = refl

  lines_off : (u c : ℕ) → ((j : ℕ) → S.naming.new_value c j ≡ u → ⊥) → (ls : List Line) → type_in (line_types S c ls) u ≡ None
  lines_off u c off [] = refl
  lines_off u c off (l ∷ ls) = type_append_none (new_types_by S c (kind_of S.site.inst) l.inst) (line_types S c ls) u (by_off (kind_of S.site.inst) l.inst u c off) ∙ lines_off u c off ls

  news_off : (u : ℕ) → ((c j : ℕ) → S.naming.new_value c j ≡ u → ⊥) → (bs : List Block) → type_in (new_types S bs) u ≡ None
  news_off u off [] = refl
  news_off u off (b ∷ bs) = type_append_none (line_types S b.number b.lines) (new_types S bs) u (lines_off u b.number (off b.number) b.lines) ∙ news_off u off bs

  -- values of the caller and of the callee keep their types

  pub caller_typed : (v : ℕ) → type_of (spliced S) (S.naming.caller_value v) ≡ type_of S.caller v
  caller_typed v =
      type_append_same (map (typed_under (caller_names S)) S.caller.types) _ (S.naming.caller_value v) (type_append_none (map (typed_under (callee_names S)) S.callee.types) (new_types S S.callee.blocks) (S.naming.caller_value v) (type_off (callee_names S) (S.naming.caller_value v) (λ w q. names.values v w (sym q)) S.callee.types) ∙ news_off (S.naming.caller_value v) (λ c j q. names.value_new v c j (sym q)) S.callee.blocks) ∙ type_under (caller_names S) names.caller_value S.caller.types v

  pub callee_typed : (v : ℕ) → type_of (spliced S) (S.naming.callee_value v) ≡ type_of S.callee v
  callee_typed v =
      type_append_none (map (typed_under (caller_names S)) S.caller.types) _ (S.naming.callee_value v) (type_off (caller_names S) (S.naming.callee_value v) (λ w q. names.values w v q) S.caller.types) ∙ type_append_same (map (typed_under (callee_names S)) S.callee.types) (new_types S S.callee.blocks) (S.naming.callee_value v) (news_off (S.naming.callee_value v) (λ c j q. news.callee_new v c j (sym q)) S.callee.blocks) ∙ type_under (callee_names S) names.callee_value S.callee.types v

  -- new results

  result_typed : (c i : ℕ) (vs : List ℕ) (ts : List Ty) → map (type_in S.caller.types) vs ≡ each_some ts → (j : ℕ) (t : Ty) → slice_get ts j ≡ Some t → type_in (typed_results S c i vs) (S.naming.new_value c (i + j)) ≡ Some t
  result_typed c i [] [] h j t q = cc
  result_typed c i [] (u ∷ ts) h j t q = cc
  result_typed c i (v ∷ vs) [] h j t q = cc
  result_typed c i (v ∷ vs) (u ∷ ts) h zero t q =
      let e : type_in S.caller.types v ≡ Some u = cc in
      let ut : u ≡ t = some_same q in
      let z : i ≡ i + 0 = omega arith in
      ap (λ o. type_in (with_type (S.naming.new_value c i) o ++ typed_results S c (suc i) vs) (S.naming.new_value c (i + 0))) e ∙ type_hit (S.naming.new_value c i, u) (typed_results S c (suc i) vs) (S.naming.new_value c (i + 0)) (ap (S.naming.new_value c) z) ∙ ap Some ut
  result_typed c i (v ∷ vs) (u ∷ ts) h (suc j) t q =
      let e : map (type_in S.caller.types) vs ≡ each_some ts = cc in
      let z : suc i + j ≡ i + suc j = omega arith in
      type_append_none (with_type (S.naming.new_value c i) (type_in S.caller.types v)) (typed_results S c (suc i) vs) (S.naming.new_value c (i + suc j)) (with_off (S.naming.new_value c i) (S.naming.new_value c (i + suc j)) (λ p. let w = (news.new_value c i c (i + suc j) p).1 in absurd (omega (arith, w))) (type_in S.caller.types v)) ∙ ap (λ y. type_in (typed_results S c (suc i) vs) (S.naming.new_value c y)) (sym z) ∙ result_typed c (suc i) vs ts e j t q

  module _ (within : kind_of S.site.inst ≡ Within) (ts : List Ty) (have : types_of S.caller S.site.results ≡ each_some ts) (j : ℕ) (t : Ty) (is : slice_get ts j ≡ Some t) where
    line_typed : (c s : ℕ) (ls : List Line) (li : Line) → slice_get ls s ≡ Some li → IsTail li.inst → type_in (line_types S c ls) (S.naming.new_value c j) ≡ Some t
    line_typed c s [] li get tail = cc
    line_typed c s (l ∷ ls) li get tail = ap (λ k. type_in (new_types_by S c k l.inst ++ line_types S c ls) (S.naming.new_value c j)) within ∙ by s l.inst refl get (λ s' p. line_typed c s' ls li p tail)
      where
        here : type_in (typed_results S c 0 S.site.results ++ line_types S c ls) (S.naming.new_value c j) ≡ Some t
        here = let z : 0 + j ≡ j = omega arith in type_append_some (typed_results S c 0 S.site.results) (line_types S c ls) (S.naming.new_value c j) t (ap (λ y. type_in (typed_results S c 0 S.site.results) (S.naming.new_value c y)) (sym z) ∙ result_typed c 0 S.site.results ts have j t is)

        first_tail : (inst : Instruction) → l.inst ≡ inst → slice_get (l ∷ ls) 0 ≡ Some li → IsTail inst
        first_tail inst q p = let e : li ≡ l = some_same (sym p) in subst IsTail (ap (λ y. y.inst) e ∙ q) tail

        by : (s : ℕ) (inst : Instruction) → l.inst ≡ inst → slice_get (l ∷ ls) s ≡ Some li → ((s' : ℕ) → slice_get ls s' ≡ Some li → type_in (line_types S c ls) (S.naming.new_value c j) ≡ Some t) → type_in (new_types_by S c Within inst ++ line_types S c ls) (S.naming.new_value c j) ≡ Some t
        by s (ReturnCall a b) q p ih = here
        by zero (Plain a) q p ih = elim (first_tail (Plain a) q p) [ ]
        by zero (Branches a) q p ih = elim (first_tail (Branches a) q p) [ ]
        by zero SequencePoint q p ih = elim (first_tail SequencePoint q p) [ ]
        by zero (Return a) q p ih = elim (first_tail (Return a) q p) [ ]
        by zero (Call a b) q p ih = elim (first_tail (Call a b) q p) [ ]
        by zero (TryCall a b d e u) q p ih = elim (first_tail (TryCall a b d e u) q p) [ ]
        by (suc s') (Plain a) q p ih = ih s' p
        by (suc s') (Branches a) q p ih = ih s' p
        by (suc s') SequencePoint q p ih = ih s' p
        by (suc s') (Return a) q p ih = ih s' p
        by (suc s') (Call a b) q p ih = ih s' p
        by (suc s') (TryCall a b d e u) q p ih = ih s' p

    block_typed : (bs : List Block) (c s : ℕ) (k : Block) → find_block c bs ≡ Some k → (li : Line) → slice_get k.lines s ≡ Some li → IsTail li.inst → type_in (new_types S bs) (S.naming.new_value c j) ≡ Some t
    block_typed [] c s k found li get tail = cc
    block_typed (b ∷ bs) c s k found li get tail =
        elim (cases_eq b.number c) [
          | inl q ↦
              let e : b ≡ k = some_same (sym (find_hit c b bs q) ∙ found) in
              type_append_some (line_types S b.number b.lines) (new_types S bs) (S.naming.new_value c j) t (ap (λ y. type_in (line_types S y b.lines) (S.naming.new_value c j)) q ∙ line_typed c s b.lines li (ap (λ y. slice_get y.lines s) e ∙ get) tail)
          | inr q ↦ type_append_none (line_types S b.number b.lines) (new_types S bs) (S.naming.new_value c j) (lines_off (S.naming.new_value c j) b.number (λ i p. q (news.new_value b.number i c j p).0) b.lines) ∙ block_typed bs c s k (sym (find_skip c b bs q) ∙ found) li get tail
        ]

    new_typed : (c s : ℕ) (k : Block) → find_block c S.callee.blocks ≡ Some k → (li : Line) → slice_get k.lines s ≡ Some li → IsTail li.inst → type_of (spliced S) (S.naming.new_value c j) ≡ Some t
    new_typed c s k found li get tail =
        type_append_none (map (typed_under (caller_names S)) S.caller.types) _ (S.naming.new_value c j) (type_off (caller_names S) (S.naming.new_value c j) (λ w q. names.value_new w c j q) S.caller.types) ∙ type_append_none (map (typed_under (callee_names S)) S.callee.types) (new_types S S.callee.blocks) (S.naming.new_value c j) (type_off (callee_names S) (S.naming.new_value c j) (λ w q. news.callee_new w c j q) S.callee.types) ∙ block_typed S.callee.blocks c s k found li get tail

  pub types_from : (T : ℕ → Option Ty) (i : ℕ) (ts : List Ty) → ((j : ℕ) (t : Ty) → slice_get ts j ≡ Some t → T (i + j) ≡ Some t) → map T (from i (length ts)) ≡ each_some ts
  types_from T i [] h = refl
  types_from T i (t ∷ ts) h =
      let z : i ≡ i + 0 = omega arith in
      ap₂ (λ a as'. a ∷ as') (ap T z ∙ h 0 t refl) (types_from T (suc i) ts (λ j u q. let e : suc i + j ≡ i + suc j = omega arith in ap T e ∙ h (suc j) u q))

  map_map : {A B C : Type 0} (g : B → C) (h : A → B) (xs : List A) → map g (map h xs) ≡ map (λ x. g (h x)) xs
  map_map g h [] = refl
  map_map g h (x ∷ xs) = ap (λ z. g (h x) ∷ z) (map_map g h xs)

  same_length : (vs : List ℕ) (ts : List Ty) → types_of S.caller vs ≡ each_some ts → length vs ≡ length ts
  same_length [] [] h = refl
  same_length [] (t ∷ ts) h = cc
  same_length (v ∷ vs) [] h = cc
  same_length (v ∷ vs) (t ∷ ts) h = ap suc (same_length vs ts (let e : types_of S.caller vs ≡ each_some ts = cc in e))

  pub results_typed : kind_of S.site.inst ≡ Within → (ts : List Ty) → types_of S.caller S.site.results ≡ each_some ts → (c s : ℕ) (k : Block) → find_block c S.callee.blocks ≡ Some k → (li : Line) → slice_get k.lines s ≡ Some li → IsTail li.inst → types_of (spliced S) (new_results S c) ≡ each_some ts
  results_typed within ts have c s k found li get tail =
      map_map (type_of (spliced S)) (S.naming.new_value c) (from 0 (length S.site.results)) ∙ ap (λ n. map (λ i. type_of (spliced S) (S.naming.new_value c i)) (from 0 n)) (same_length S.site.results ts have) ∙ types_from (λ i. type_of (spliced S) (S.naming.new_value c i)) 0 ts (λ j t q. let z : 0 + j ≡ j = omega arith in ap (λ y. type_of (spliced S) (S.naming.new_value c y)) z ∙ new_typed within ts have j t q c s k found li get tail)

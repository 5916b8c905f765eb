-- How often a number stands in a list: at most once where all are different. The values of a splice are defined as often as
-- they are declared.
use Rattle.std.proofs.Common.{◌≡◌, ℕ, suc, ◌≤◌, ◌<◌, ◌+◌, inl, inr, ◌⊎◌, List, [], ◌∷◌, ◌++◌, length, map, Some, refl, sym, ap, ap₂, ◌∙◌, subst, arith, eq-eqb, ne_eqb}
use Rattle.std.specs.Prelude.{slice_get, nat_eq, if◌then◌else◌}
use Rattle.std.proofs.lemmas.Bool.{cases_eq}
use Rattle.std.proofs.lemmas.List.{map-append}
use Rattle.exn_tables.specs.declared.table.Entry.{Entry}
use Rattle.ir_core.specs.declared.signatures.Ty.{Ty}
use Rattle.ir_core.specs.declared.instructions.BlockCall.{BlockCall}
use Rattle.ir_core.specs.Module.{Branches, Call, Instruction, Line, Block, Plain, Return, ReturnCall, SequencePoint, TryCall}
use Rattle.ir_core.specs.Lookup.{type_in, definitions, line_definitions}
use Rattle.ir_core.specs.Lists.{In, Different}
use Rattle.ir_core.proofs.Members.{map_in}
use Rattle.ir_core.proofs.Splitting.{definitions_join}
use Rattle.ir_semantics.specs.TypeRules.{types_of, each_some}
use Rattle.ir_semantics.specs.Renaming.{Renaming, line_under, block_under}
use Rattle.ir_semantics.specs.Splice.{Kind, Last, Fragment, Splicing, Tries, Within, body, from, kind_of, line_types, new_results, new_types, new_types_by, fragment, fragment_by, tries_fragment, typed_results, with_type, within_fragment}
use Rattle.inline_outcomes.proofs.Local.{Injective}
use Rattle.inline_outcomes.proofs.Related.{Distinct}
use Rattle.inline_acceptance.proofs.KeptTypes.{Apart}

pub count : ℕ → List ℕ → ℕ
count u [] = 0
count u (x ∷ xs) = if nat_eq x u then suc (count u xs) else count u xs

pub count_none : (u : ℕ) → count u [] ≡ 0
unfolding count
count_none u = refl

pub count_hit : (u x : ℕ) (xs : List ℕ) → x ≡ u → count u (x ∷ xs) ≡ suc (count u xs)
unfolding count
count_hit u x xs h = ap (λ c. if c then suc (count u xs) else count u xs) (eq-eqb x u h)

pub count_skip : (u x : ℕ) (xs : List ℕ) → (x ≡ u → ⊥) → count u (x ∷ xs) ≡ count u xs
unfolding count
count_skip u x xs h = ap (λ c. if c then suc (count u xs) else count u xs) (ne_eqb x u h)

pub count_append : (u : ℕ) (xs ys : List ℕ) → count u (xs ++ ys) ≡ count u xs + count u ys
count_append u [] ys = let e = count_none u in omega (arith, e)
count_append u (x ∷ xs) ys =
    let ih = count_append u xs ys in
    elim (cases_eq x u) [ inl q ↦ let a = count_hit u x (xs ++ ys) q in let b = count_hit u x xs q in omega (arith, a, b, ih) | inr q ↦ let a = count_skip u x (xs ++ ys) q in let b = count_skip u x xs q in omega (arith, a, b, ih) ]

pub count_in : (u : ℕ) (xs : List ℕ) → In u xs → 0 < count u xs
count_in u [] p = elim p [ ]
count_in u (x ∷ xs) (inl p) = let a = count_hit u x xs (sym p) in omega (arith, a)
count_in u (x ∷ xs) (inr p) = let ih = count_in u xs p in elim (cases_eq x u) [ inl q ↦ let a = count_hit u x xs q in omega (arith, a) | inr q ↦ let a = count_skip u x xs q in omega (arith, a, ih) ]

pub in_count : (u : ℕ) (xs : List ℕ) → 0 < count u xs → In u xs
in_count u [] h = let e = count_none u in absurd (omega (arith, h, e))
in_count u (x ∷ xs) h = elim (cases_eq x u) [ inl q ↦ inl (sym q) | inr q ↦ let a = count_skip u x xs q in inr (in_count u xs (omega (arith, h, a))) ]

pub none_or_in : (u : ℕ) (xs : List ℕ) → (count u xs ≡ 0) ⊎ In u xs
none_or_in u xs = elim (cases_eq (count u xs) 0) [ inl q ↦ inl q | inr q ↦ inr (in_count u xs (omega (arith, q))) ]

pub different_count : (xs : List ℕ) → Different xs → (u : ℕ) → count u xs ≤ 1
different_count [] d u = let e = count_none u in omega (arith, e)
different_count (x ∷ xs) d u =
    let ih = different_count xs d.1 u in
    elim (cases_eq x u) [
      | inl q ↦
          let a = count_hit u x xs q in
          elim (none_or_in u xs) [ inl z ↦ omega (arith, a, z) | inr z ↦ absurd (d.0 (subst (λ y. In y xs) (sym q) z)) ]
      | inr q ↦ let a = count_skip u x xs q in omega (arith, a, ih)
    ]

pub count_different : (xs : List ℕ) → ((u : ℕ) → count u xs ≤ 1) → Different xs
count_different [] h = tt
count_different (x ∷ xs) h = (
  (λ p. let a = count_hit x x xs refl in let b = count_in x xs p in let c = h x in absurd (omega (arith, a, b, c))),
  count_different xs (λ u. let c = h u in elim (cases_eq x u) [ inl q ↦ let a = count_hit u x xs q in omega (arith, a, c) | inr q ↦ let a = count_skip u x xs q in omega (arith, a, c) ]),
)

pub count_map : (h : ℕ → ℕ) → Injective h → (v : ℕ) (xs : List ℕ) → count (h v) (map h xs) ≡ count v xs
count_map h inj v [] = count_none (h v) ∙ sym (count_none v)
count_map h inj v (x ∷ xs) =
    let ih = count_map h inj v xs in
    elim (cases_eq x v) [ inl q ↦ count_hit (h v) (h x) (map h xs) (ap h q) ∙ ap suc ih ∙ sym (count_hit v x xs q) | inr q ↦ count_skip (h v) (h x) (map h xs) (λ p. q (inj x v p)) ∙ ih ∙ sym (count_skip v x xs q) ]

-- a number is none of the new ones, or the new one of an old one
pub none_or_map : (h : ℕ → ℕ) (u : ℕ) (xs : List ℕ) → (count u (map h xs) ≡ 0) ⊎ ((v : ℕ) × In v xs × (u ≡ h v))
none_or_map h u xs = elim (none_or_in u (map h xs)) [ inl q ↦ inl q | inr q ↦ inr (map_in h u xs q) ]

pub once_map : (h : ℕ → ℕ) → Injective h → (xs : List ℕ) → Different xs → (u : ℕ) → count u (map h xs) ≤ 1
once_map h inj xs d u =
    elim (none_or_map h u xs) [
      | inl q ↦ omega (arith, q)
      | inr w ↦ let a : count u (map h xs) ≡ count w.0 xs = ap (λ z. count z (map h xs)) w.2 ∙ count_map h inj w.0 xs in let b = different_count xs d w.0 in omega (arith, a, b)
    ]

pub same_map : (h : ℕ → ℕ) → Injective h → (xs ys : List ℕ) → ((v : ℕ) → count v xs ≡ count v ys) → (u : ℕ) → count u (map h xs) ≡ count u (map h ys)
same_map h inj xs ys same u = by (none_or_map h u xs) (none_or_map h u ys)
  where
    at : (w : ℕ) → u ≡ h w → count u (map h xs) ≡ count u (map h ys)
    at w e = ap (λ z. count z (map h xs)) e ∙ count_map h inj w xs ∙ same w ∙ sym (count_map h inj w ys) ∙ ap (λ z. count z (map h ys)) (sym e)

    by : (count u (map h xs) ≡ 0) ⊎ ((v : ℕ) × In v xs × (u ≡ h v)) → (count u (map h ys) ≡ 0) ⊎ ((v : ℕ) × In v ys × (u ≡ h v)) → count u (map h xs) ≡ count u (map h ys)
    by (inl p) (inl q) = p ∙ sym q
    by (inr w) q = at w.0 w.2
    by (inl p) (inr w) = at w.0 w.2

-- ---- definitions of joined and renamed blocks

pub lines_append : (u : ℕ) (a b : List Line) → count u (line_definitions (a ++ b)) ≡ count u (line_definitions a) + count u (line_definitions b)
lines_append u [] b = let e = count_none u in omega (arith, e)
lines_append u (l ∷ a) b =
    let ih = lines_append u a b in
    let p = count_append u l.results (line_definitions (a ++ b)) in
    let q = count_append u l.results (line_definitions a) in omega (arith, ih, p, q)

pub lines_under : (r : Renaming) (ls : List Line) → line_definitions (map (line_under r) ls) ≡ map r.value (line_definitions ls)
lines_under r [] = refl
lines_under r (l ∷ ls) = ap (λ z. map r.value l.results ++ z) (lines_under r ls) ∙ sym (map-append r.value l.results (line_definitions ls))

pub blocks_under : (r : Renaming) (bs : List Block) → definitions (map (block_under r) bs) ≡ map r.value (definitions bs)
blocks_under r [] = refl
blocks_under r (b ∷ bs) =
    ap₂ (λ x y. map r.value b.params ++ (x ++ y)) (lines_under r b.lines) (blocks_under r bs) ∙ ap (λ z. map r.value b.params ++ z) (sym (map-append r.value (line_definitions b.lines) (definitions bs))) ∙ sym (map-append r.value b.params (line_definitions b.lines ++ definitions bs))

-- the values of a list of typed ones
abbrev pub values : List (ℕ × Ty) → List ℕ
values ts = map (λ x. x.0) ts

-- the instructions that give no value of their own
abbrev pub NoResults : Instruction → Line → Type 0
NoResults (Return vs) l = length l.results ≡ 0
NoResults (ReturnCall t args) l = length l.results ≡ 0
NoResults (TryCall t sig args normal table) l = length l.results ≡ 0
NoResults _ l = Unit {0}

pub empty : {A : Type 0} (xs : List A) → length xs ≡ 0 → xs ≡ []
empty [] h = refl
empty (x ∷ xs) h = absurd (omega (arith, h))

module _ (S : Splicing) (names : Distinct S.naming) (news : Apart S.naming) where
  pub result_values : (c i : ℕ) (vs : List ℕ) (ts : List Ty) → map (type_in S.caller.types) vs ≡ each_some ts → values (typed_results S c i vs) ≡ map (S.naming.new_value c) (from i (length vs))
  result_values c i [] ts h = refl
  result_values c i (v ∷ vs) [] h = cc
  result_values c i (v ∷ vs) (t ∷ ts) h =
      let e : type_in S.caller.types v ≡ Some t = cc in
      let f : map (type_in S.caller.types) vs ≡ each_some ts = cc in
      ap (λ o. values (with_type (S.naming.new_value c i) o ++ typed_results S c (suc i) vs)) e ∙ ap (λ z. S.naming.new_value c i ∷ z) (result_values c (suc i) vs ts f)

  module _ (ts : List Ty) (site_typed : kind_of S.site.inst ≡ Within → types_of S.caller S.site.results ≡ each_some ts) (u : ℕ) where
    -- what a fragment and its further blocks define
    abbrev given : Fragment → ℕ
    given q = count u (line_definitions q.lines) + count u (definitions q.more)

    abbrev more_of : Line → Kind → Instruction → ℕ → ℕ
    more_of i k inst c = count u (map S.naming.callee_value i.results) + count u (values (new_types_by S c k inst))

    nothing : (i : Line) → length i.results ≡ 0 → count u (map S.naming.callee_value i.results) ≡ 0
    nothing i h = ap (λ z. count u (map S.naming.callee_value z)) (empty i.results h) ∙ count_none u

    within_given : kind_of S.site.inst ≡ Within → (c j : ℕ) (i : Line) (inst : Instruction) → NoResults inst i → (q : Fragment) → given (within_fragment S c j i inst q) ≡ more_of i Within inst c + given q
    within_given kind c j i (Return vs) n q = let a = nothing i n in let b = count_none u in omega (arith, a, b)
    within_given kind c j i (ReturnCall t args) n q =
        let a = nothing i n in
        let e = ap (count u) (result_values c 0 S.site.results ts (site_typed kind)) in
        let d = count_append u (new_results S c) (line_definitions q.lines) in omega (arith, a, e, d)
    within_given kind c j i (Plain p) n q = let a = count_append u (map S.naming.callee_value i.results) (line_definitions q.lines) in let b = count_none u in omega (arith, a, b)
    within_given kind c j i (Branches p) n q = let a = count_append u (map S.naming.callee_value i.results) (line_definitions q.lines) in let b = count_none u in omega (arith, a, b)
    within_given kind c j i SequencePoint n q = let a = count_append u (map S.naming.callee_value i.results) (line_definitions q.lines) in let b = count_none u in omega (arith, a, b)
    within_given kind c j i (Call p d) n q = let a = count_append u (map S.naming.callee_value i.results) (line_definitions q.lines) in let b = count_none u in omega (arith, a, b)
    within_given kind c j i (TryCall p d e f g) n q = let a = count_append u (map S.naming.callee_value i.results) (line_definitions q.lines) in let b = count_none u in omega (arith, a, b)

    tries_given : (normal : BlockCall) (table : List (Entry BlockCall)) (c j : ℕ) (i : Line) (inst : Instruction) → NoResults inst i → (q : Fragment) → given (tries_fragment S normal table c j i inst q) ≡ more_of i (Tries normal table) inst c + given q
    tries_given normal table c j i (Return vs) n q = let a = nothing i n in let b = count_none u in omega (arith, a, b)
    tries_given normal table c j i (ReturnCall t args) n q = let a = nothing i n in let b = count_none u in omega (arith, a, b)
    tries_given normal table c j i (TryCall p d e f g) n q = let a = nothing i n in let b = count_none u in omega (arith, a, b)
    tries_given normal table c j i (Call p d) n q =
        let a = count_append u (map S.naming.callee_value i.results) (line_definitions q.lines ++ definitions q.more) in
        let e = count_append u (line_definitions q.lines) (definitions q.more) in
        let b = count_none u in omega (arith, a, b, e)
    tries_given normal table c j i (Plain p) n q = let a = count_append u (map S.naming.callee_value i.results) (line_definitions q.lines) in let b = count_none u in omega (arith, a, b)
    tries_given normal table c j i (Branches p) n q = let a = count_append u (map S.naming.callee_value i.results) (line_definitions q.lines) in let b = count_none u in omega (arith, a, b)
    tries_given normal table c j i SequencePoint n q = let a = count_append u (map S.naming.callee_value i.results) (line_definitions q.lines) in let b = count_none u in omega (arith, a, b)

    by_given : (k : Kind) → kind_of S.site.inst ≡ k → (c j : ℕ) (i : Line) → NoResults i.inst i → (q : Fragment) → given (fragment_by S k c j i q) ≡ more_of i k i.inst c + given q
    by_given Within kind c j i n q = within_given kind c j i i.inst n q
    by_given Last kind c j i n q = let a = count_append u (map S.naming.callee_value i.results) (line_definitions q.lines) in let b = count_none u in omega (arith, a, b)
    by_given (Tries normal table) kind c j i n q = tries_given normal table c j i i.inst n q

    piece_given : (c j : ℕ) (ls : List Line) → ((s : ℕ) (l : Line) → slice_get ls s ≡ Some l → NoResults l.inst l) → given (fragment S c j ls) ≡ count u (map S.naming.callee_value (line_definitions ls)) + count u (values (line_types S c ls))
    piece_given c j [] h = let b = count_none u in omega (arith, b)
    piece_given c j (i ∷ is) h =
        let ih = piece_given c (suc j) is (λ s l q. h (suc s) l q) in
        let now = by_given (kind_of S.site.inst) refl c j i (h 0 i refl) (fragment S c (suc j) is) in
        let a = ap (count u) (map-append S.naming.callee_value i.results (line_definitions is)) ∙ count_append u (map S.naming.callee_value i.results) (map S.naming.callee_value (line_definitions is)) in
        let b = ap (count u) (map-append (λ (x : ℕ × Ty). x.0) (new_types_by S c (kind_of S.site.inst) i.inst) (line_types S c is)) ∙ count_append u (values (new_types_by S c (kind_of S.site.inst) i.inst)) (values (line_types S c is)) in omega (arith, ih, now, a, b)

    pub body_given : (gs : List Block) → ((b : Block) → In b gs → (s : ℕ) (l : Line) → slice_get b.lines s ≡ Some l → NoResults l.inst l) → count u (definitions (body S gs)) ≡ count u (map S.naming.callee_value (definitions gs)) + count u (values (new_types S gs))
    body_given [] h = let b = count_none u in omega (arith, b)
    body_given (b ∷ gs) h =
        let ih = body_given gs (λ k p s l q. h k (inr p) s l q) in
        let now = piece_given b.number 0 b.lines (λ s l q. h b (inl refl) s l q) in
        let P = fragment S b.number 0 b.lines in
        let ps = map S.naming.callee_value b.params in
        let a1 = count_append u ps (line_definitions P.lines ++ definitions (P.more ++ body S gs)) in
        let a2 = count_append u (line_definitions P.lines) (definitions (P.more ++ body S gs)) in
        let a3 = ap (count u) (definitions_join P.more (body S gs)) ∙ count_append u (definitions P.more) (definitions (body S gs)) in
        let b1 = ap (count u) (map-append S.naming.callee_value b.params (line_definitions b.lines ++ definitions gs)) ∙ count_append u ps (map S.naming.callee_value (line_definitions b.lines ++ definitions gs)) in
        let b2 = ap (count u) (map-append S.naming.callee_value (line_definitions b.lines) (definitions gs)) ∙ count_append u (map S.naming.callee_value (line_definitions b.lines)) (map S.naming.callee_value (definitions gs)) in
        let b3 = ap (count u) (map-append (λ (x : ℕ × Ty). x.0) (line_types S b.number b.lines) (new_types S gs)) ∙ count_append u (values (line_types S b.number b.lines)) (values (new_types S gs)) in omega (arith, ih, now, a1, a2, a3, b1, b2, b3)

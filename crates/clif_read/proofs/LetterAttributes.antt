-- The attributes of a parameter are those of the letter.
use Rattle.std.proofs.Common.{◌≡◌, ◌+◌, Bool, true, false, not, ◌==◌, cond, List, [], ◌∷◌, ◌++◌, map, Some, None, refl, sym, ap, subst, ◌∙◌, inl, inr, arith}
use Rattle.std.specs.Prelude.{◌⊎◌, count_by}
use Rattle.std.proofs.lemmas.List.{append-nil}
use Rattle.std.proofs.lemmas.List.Sums.{sum_by-cons}
use Rattle.grammar.specs.Rules.{Lexeme, Rule, Opt, Tree, Derives, Begins}
use Rattle.grammar.proofs.Past.{derives_begins}
use Rattle.grammar.proofs.Same.{HasTree}
use Rattle.grammar.proofs.Prefixes.{none_left}
use Rattle.clif_words.specs.Terminals.{◌then◌, ◌or◌, ext}
use Rattle.token_reader.specs.Values.{◌otherwise◌, perhaps}
use Rattle.clif_read.specs.declared.raw.RawAttribute.{RawAttribute}
use Rattle.clif_read.specs.ModuleGrammar.{purpose}
use Rattle.clif_read.specs.DeclarationValues.{ext_of, ext_value, purpose_value, attributes_value}
use Rattle.clif_read.specs.LetterAttributes.{letter_attributes, letter_value, is_ext, is_purpose, AtMostOne, ByLetter, BeginsByLetter, attributes, ByRule, SameAttributes}

-- ---- counting

count_is : (p : RawAttribute → Bool) (a : RawAttribute) (b : Bool) (xs : List RawAttribute) → p a ≡ b → count_by p (a ∷ xs) ≡ cond b 1 0 + count_by p xs
count_is p a b xs e = sum_by-cons (λ x. cond (p x) 1 0) a xs ∙ ap (λ (c : Bool). cond c 1 0 + count_by p xs) e

of_ext : (x : Lexeme) → is_ext (ext_value x) ≡ true
of_ext x = elim (x.number == 0) as (λ b. is_ext (cond b (ext_of 0) (ext_of 1)) ≡ true) [ true ↦ refl | false ↦ refl ]

of_purpose : (p : Tree purpose) → is_ext (purpose_value p) ≡ false
of_purpose (inl x) = refl
of_purpose (inr x) = refl

no_purpose : (x : Lexeme) → is_purpose (ext_value x) ≡ false
no_purpose x = ap not (of_ext x)

a_purpose : (p : Tree purpose) → is_purpose (purpose_value p) ≡ true
a_purpose p = ap not (of_purpose p)

none_kept : AtMostOne []
none_kept = (omega arith, omega arith)

ext_kept : (x : Lexeme) → AtMostOne (ext_value x ∷ [])
ext_kept x =
    let e = count_is is_ext (ext_value x) true [] (of_ext x) in
    let p = count_is is_purpose (ext_value x) false [] (no_purpose x) in
    (omega arith, omega arith)

purpose_kept : (q : Tree purpose) → AtMostOne (purpose_value q ∷ [])
purpose_kept q =
    let e = count_is is_ext (purpose_value q) false [] (of_purpose q) in
    let p = count_is is_purpose (purpose_value q) true [] (a_purpose q) in
    (omega arith, omega arith)

both_kept : (x : Lexeme) (q : Tree purpose) → AtMostOne (ext_value x ∷ purpose_value q ∷ [])
both_kept x q =
    let e = count_is is_ext (ext_value x) true (purpose_value q ∷ []) (of_ext x) in
    let p = count_is is_purpose (ext_value x) false (purpose_value q ∷ []) (no_purpose x) in
    let f = count_is is_ext (purpose_value q) false [] (of_purpose q) in
    let g = count_is is_purpose (purpose_value q) true [] (a_purpose q) in
    (omega arith, omega arith)

turned_kept : (x : Lexeme) (q : Tree purpose) → AtMostOne (purpose_value q ∷ ext_value x ∷ [])
turned_kept x q =
    let e = count_is is_ext (ext_value x) true [] (of_ext x) in
    let p = count_is is_purpose (ext_value x) false [] (no_purpose x) in
    let f = count_is is_ext (purpose_value q) false (ext_value x ∷ []) (of_purpose q) in
    let g = count_is is_purpose (purpose_value q) true (ext_value x ∷ []) (a_purpose q) in
    (omega arith, omega arith)

-- ---- texts

abbrev item : Tree (ext or purpose) → RawAttribute
item = ext_value otherwise purpose_value

to_letter : (ts : List Lexeme) (v : Tree attributes) → Derives attributes ts v → ByLetter ts (perhaps [] attributes_value v)
to_letter ts None d = (([], d, refl), none_kept)
to_letter ts (Some (inl (x, None))) d = ((inl x ∷ [], (d.0, d.1, d.2, (d.3.0, d.3.1)), refl), ext_kept x)
to_letter ts (Some (inl (x, Some q))) d =
    ((inl x ∷ inr q ∷ [], (d.0, d.1, d.2, (d.3.0, (d.1, [], sym (append-nil d.1), (d.3.1, refl)))), refl), both_kept x q)
to_letter ts (Some (inr (q, None))) d = ((inr q ∷ [], (d.0, d.1, d.2, (d.3.0, d.3.1)), refl), purpose_kept q)
to_letter ts (Some (inr (q, Some x))) d =
    ((inr q ∷ inl x ∷ [], (d.0, d.1, d.2, (d.3.0, (d.1, [], sym (append-nil d.1), (d.3.1, refl)))), refl), turned_kept x q)

-- what stands in front of nothing
alone : (ws us vs : List Lexeme) → ws ≡ us ++ vs → vs ≡ [] → us ≡ ws
alone ws us vs e n = sym (e ∙ ap (λ (l : List Lexeme). us ++ l) n ∙ append-nil us)

to_rule : (ts : List Lexeme) (v : Tree letter_attributes) → Derives letter_attributes ts v → AtMostOne (letter_value v) → ByRule ts (letter_value v)
to_rule ts [] d most = (None, d, refl)
to_rule ts (inl x ∷ []) d most = (Some (inl (x, None)), (d.0, d.1, d.2, (d.3.0, d.3.1)), refl)
to_rule ts (inr q ∷ []) d most = (Some (inr (q, None)), (d.0, d.1, d.2, (d.3.0, d.3.1)), refl)
to_rule ts (inl x ∷ inr q ∷ []) d most =
    let tail = d.3.1 in
    (Some (inl (x, Some q)), (d.0, d.1, d.2, (d.3.0, subst (λ (l : List Lexeme). Derives purpose l q) (alone d.1 tail.0 tail.1 tail.2 tail.3.1) tail.3.0)), refl)
to_rule ts (inr q ∷ inl x ∷ []) d most =
    let tail = d.3.1 in
    (Some (inr (q, Some x)), (d.0, d.1, d.2, (d.3.0, subst (λ (l : List Lexeme). Derives ext l x) (alone d.1 tail.0 tail.1 tail.2 tail.3.1) tail.3.0)), refl)
to_rule ts (inl x ∷ inl y ∷ more) d most =
    absurd (
    let e = count_is is_ext (ext_value x) true (ext_value y ∷ map item more) (of_ext x) in
    let f = count_is is_ext (ext_value y) true (map item more) (of_ext y) in
    omega (arith, most.0)
    )
to_rule ts (inr q ∷ inr r ∷ more) d most =
    absurd (
    let e = count_is is_purpose (purpose_value q) true (purpose_value r ∷ map item more) (a_purpose q) in
    let f = count_is is_purpose (purpose_value r) true (map item more) (a_purpose r) in
    omega (arith, most.1)
    )
to_rule ts (inl x ∷ inr q ∷ inl y ∷ more) d most =
    absurd (
    let e = count_is is_ext (ext_value x) true (purpose_value q ∷ ext_value y ∷ map item more) (of_ext x) in
    let f = count_is is_ext (purpose_value q) false (ext_value y ∷ map item more) (of_purpose q) in
    let g = count_is is_ext (ext_value y) true (map item more) (of_ext y) in
    omega (arith, most.0)
    )
to_rule ts (inl x ∷ inr q ∷ inr r ∷ more) d most =
    absurd (
    let e = count_is is_purpose (ext_value x) false (purpose_value q ∷ purpose_value r ∷ map item more) (no_purpose x) in
    let f = count_is is_purpose (purpose_value q) true (purpose_value r ∷ map item more) (a_purpose q) in
    let g = count_is is_purpose (purpose_value r) true (map item more) (a_purpose r) in
    omega (arith, most.1)
    )
to_rule ts (inr q ∷ inl x ∷ inl y ∷ more) d most =
    absurd (
    let e = count_is is_ext (purpose_value q) false (ext_value x ∷ ext_value y ∷ map item more) (of_purpose q) in
    let f = count_is is_ext (ext_value x) true (ext_value y ∷ map item more) (of_ext x) in
    let g = count_is is_ext (ext_value y) true (map item more) (of_ext y) in
    omega (arith, most.0)
    )
to_rule ts (inr q ∷ inl x ∷ inr r ∷ more) d most =
    absurd (
    let e = count_is is_purpose (purpose_value q) true (ext_value x ∷ purpose_value r ∷ map item more) (a_purpose q) in
    let f = count_is is_purpose (ext_value x) false (purpose_value r ∷ map item more) (no_purpose x) in
    let g = count_is is_purpose (purpose_value r) true (map item more) (a_purpose r) in
    omega (arith, most.1)
    )

-- ---- beginnings

purpose_begun : (ts : List Lexeme) → Begins purpose ts → (ts ≡ []) ⊎ HasTree purpose ts
purpose_begun ts (inl (inl e)) = inl e
purpose_begun ts (inl (inr h)) = inr (inl h.0, (h.1, h.2))
purpose_begun ts (inr (inl e)) = inl e
purpose_begun ts (inr (inr h)) = inr (inr h.0, (h.1, h.2))

ext_begun : (ts : List Lexeme) → Begins ext ts → (ts ≡ []) ⊎ HasTree ext ts
ext_begun ts (inl e) = inl e
ext_begun ts (inr h) = inr (h.0, (h.1, h.2))

-- of two, the first alone, or both
first_alone : (a b : Rule) (ts : List Lexeme) → HasTree a ts → HasTree (a then Opt b) ts
first_alone a b ts h = ((h.0, None), (ts, [], sym (append-nil ts), (h.1, refl)))

both_there : (a b : Rule) (ts us ws : List Lexeme) → ts ≡ us ++ ws → HasTree a us → (ws ≡ []) ⊎ HasTree b ws → HasTree (a then Opt b) ts
both_there a b ts us ws e h (inl n) = ((h.0, None), (us, ws, e, (h.1, n)))
both_there a b ts us ws e h (inr k) = ((h.0, Some k.0), (us, ws, e, (h.1, k.1)))

two_begun : (a b : Rule) → ((ts : List Lexeme) → Begins a ts → (ts ≡ []) ⊎ HasTree a ts) → ((ts : List Lexeme) → Begins b ts → (ts ≡ []) ⊎ HasTree b ts)
    → (ts : List Lexeme) → Begins (a then Opt b) ts → (ts ≡ []) ⊎ HasTree (a then Opt b) ts
two_begun a b f g ts (inl h) = elim (f ts h) [ inl e ↦ inl e | inr k ↦ inr (first_alone a b ts k) ]
two_begun a b f g ts (inr (us, ws, e, (h, inl n))) = inr (both_there a b ts us ws e h (inl n))
two_begun a b f g ts (inr (us, ws, e, (h, inr k))) = inr (both_there a b ts us ws e h (g ws k))

-- what begins attributes is attributes
begun_whole : (ts : List Lexeme) → Begins attributes ts → HasTree attributes ts
begun_whole ts (inl e) = (None, e)
begun_whole ts (inr (inl h)) = elim (two_begun ext purpose ext_begun purpose_begun ts h) [ inl e ↦ (None, e) | inr k ↦ (Some (inl k.0), k.1) ]
begun_whole ts (inr (inr h)) = elim (two_begun purpose ext purpose_begun ext_begun ts h) [ inl e ↦ (None, e) | inr k ↦ (Some (inr k.0), k.1) ]

begun_to_letter : (ts : List Lexeme) → Begins attributes ts → BeginsByLetter ts
begun_to_letter ts h =
    let w = begun_whole ts h in
    ([], perhaps [] attributes_value w.0, subst (λ (l : List Lexeme). ByLetter l (perhaps [] attributes_value w.0)) (sym (append-nil ts)) (to_letter ts w.0 w.1))

-- ---- beginnings of a text

-- texts of a rule are single tokens
abbrev OneToken : Rule → Type 0
OneToken r = (ts : List Lexeme) → HasTree r ts → (x : Lexeme) × (ts ≡ x ∷ [])

ext_one : OneToken ext
ext_one ts h = (h.0, h.1.0)

purpose_one : OneToken purpose
purpose_one ts (inl x, d) = (x, d.0)
purpose_one ts (inr x, d) = (x, d.0)

rest_begun : (b : Rule) → OneToken b → (rest more ws : List Lexeme) → rest ++ more ≡ ws → (ws ≡ []) ⊎ HasTree b ws → (rest ≡ []) ⊎ Begins b rest
rest_begun b one [] more ws e h = inl refl
rest_begun b one (r ∷ rest) more ws e (inl n) = absurd (let k : r ∷ (rest ++ more) ≡ [] = e ∙ n in cc)
rest_begun b one (r ∷ rest) more ws e (inr k) =
    let y = one ws k in
    let all : r ∷ (rest ++ more) ≡ y.0 ∷ [] = e ∙ y.1 in
    let front : r ≡ y.0 = cc in
    let behind : rest ++ more ≡ [] = cc in
    let whole : ws ≡ r ∷ rest = y.1 ∙ sym (rw (front, none_left rest more behind) refl) in
    inr (subst (Begins b) whole (derives_begins b ws k.0 k.1))

may_be : (b : Rule) (ws : List Lexeme) (w : Tree (Opt b)) → Derives (Opt b) ws w → (ws ≡ []) ⊎ HasTree b ws
may_be b ws None d = inl d
may_be b ws (Some w) d = inr (w, d)

prefix_begun : (a b : Rule) → OneToken a → OneToken b → Begins a [] → (ts more : List Lexeme) → HasTree (a then Opt b) (ts ++ more) → Begins (a then Opt b) ts
prefix_begun a b one two none [] more h = inl none
prefix_begun a b one two none (t ∷ ts) more ((v, w), (us, ws, e, (d, m))) =
    let x = one us (v, d) in
    let all : t ∷ (ts ++ more) ≡ x.0 ∷ ws = e ∙ ap (λ (l : List Lexeme). l ++ ws) x.1 in
    let front : x.0 ≡ t = cc in
    let behind : ts ++ more ≡ ws = cc in
    let same : us ≡ t ∷ [] = x.1 ∙ ap (λ (z : Lexeme). z ∷ []) front in
    inr (t ∷ [], ts, refl, ((v, subst (λ (l : List Lexeme). Derives a l v) same d), rest_begun b two ts more ws behind (may_be b ws w m)))

begun_before : (ts more : List Lexeme) (v : Tree attributes) → Derives attributes (ts ++ more) v → Begins attributes ts
begun_before ts more None d = inl (none_left ts more d)
begun_before ts more (Some (inl v)) d = inr (inl (prefix_begun ext purpose ext_one purpose_one (inl refl) ts more (v, d)))
begun_before ts more (Some (inr v)) d = inr (inr (prefix_begun purpose ext purpose_one ext_one (inl (inl refl)) ts more (v, d)))

begun_to_rule : (ts : List Lexeme) → BeginsByLetter ts → Begins attributes ts
begun_to_rule ts (more, xs, ((v, d, e), most)) =
    let r = to_rule (ts ++ more) v d (subst AtMostOne (sym e) most) in
    begun_before ts more r.0 r.1

-- ---- both

from_rule : (ts : List Lexeme) (xs : List RawAttribute) → ByRule ts xs → ByLetter ts xs
from_rule ts xs (v, d, e) = subst (ByLetter ts) e (to_letter ts v d)

from_letter : (ts : List Lexeme) (xs : List RawAttribute) → ByLetter ts xs → ByRule ts xs
from_letter ts xs ((v, d, e), most) = subst (ByRule ts) e (to_rule ts v d (subst AtMostOne (sym e) most))

pub same_attributes : SameAttributes
same_attributes = record { of_param = refl; to_letter = from_rule; to_rule = from_letter; begun_to_letter = begun_to_letter; begun_to_rule = begun_to_rule }

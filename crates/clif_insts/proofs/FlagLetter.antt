-- The flags of the grammar are those of the text form: any number of the nine, `big` and `little` not together.
use Rattle.std.proofs.Common.{◌≡◌, ℕ, ◌==◌, ◌&&◌, ◌||◌, Bool, true, false, cond, List, [], ◌∷◌, ◌++◌, map, Option, Some, None, refl, sym, ap, subst, ◌∙◌, inl, inr}
use Rattle.std.specs.Prelude.{◌⊎◌}
use Rattle.std.proofs.lemmas.Bool.{eqb-true, eq-eqb, and_left, and_right, and_parts, or_cases, or_from, or_parts}
use Rattle.std.proofs.lemmas.List.{append-nil, map-append}
use Rattle.std.proofs.lemmas.List.Folds.{list_any-append}
use Rattle.grammar.specs.Rules.{Lexeme, Kind, Rule, Many, Unsupported, Tree, Cut, Derives, Begins, Refuses, member}
use Rattle.grammar.proofs.Sets.{one_way}
use Rattle.grammar.proofs.Past.{derives_begins}
use Rattle.clif_words.specs.declared.class.Class.{Class}
use Rattle.clif_words.specs.declared.class.Class.TheVariants as classes
use Rattle.clif_words.specs.Classes.{code}
use Rattle.clif_words.specs.Terminals.{◌then◌, ◌or◌, one, codes_of, refused, flag, vmctx, little, big}
use Rattle.clif_insts.specs.declared.raw.RawFlag.{RawFlag}
use Rattle.clif_insts.specs.declared.raw.RawFlag.TheVariants as flag_words
use Rattle.clif_insts.specs.Grammar.{plain_flag, flags}
use Rattle.clif_insts.specs.Flags.{flag_of}
use Rattle.token_reader.specs.Values.{◌otherwise◌, never}
use Rattle.clif_insts.specs.Values.{plain_flag_value, flags_value}
use Rattle.clif_insts.specs.FlagLetter.{any_flag, any_flag_value, has, both_orders, Means, ◌iff◌, FlagsLetter}
use Rattle.clif_insts.proofs.Singles.{all_in, Single, single_tok, single_refuse, single_or, all_cons, all_append, many_means, many_made, many_begun, many_begins, many_refused, many_refuses}

-- ---- what each flag is

abbrev flag_value : Lexeme → RawFlag
flag_value x =
    cond (x.class == code classes.Flag) (flag_of x.number)
    (cond (x.class == code classes.Vmctx) flag_words.Vmctx
    (cond (x.class == code classes.Little) flag_words.Little flag_words.Big))

abbrev plain : List ℕ
plain = code classes.Flag ∷ code classes.Vmctx ∷ []

abbrev with_order : Class → List ℕ
with_order order = plain ++ code order ∷ []

abbrev any : List ℕ
any = code classes.Flag ∷ code classes.Vmctx ∷ code classes.Little ∷ code classes.Big ∷ []

plain_single : Single plain_flag plain_flag_value plain flag_value
plain_single =
    single_or flag (vmctx or refused (classes.TrapCode ∷ classes.UserTrap ∷ []) Unsupported) (λ x. flag_of x.number) ((λ x. flag_words.Vmctx) otherwise never) (code classes.Flag ∷ []) (code classes.Vmctx ∷ []) flag_value
    (single_tok (code classes.Flag) (λ x. flag_of x.number) flag_value (λ x e. rw e refl))
    (single_or vmctx (refused (classes.TrapCode ∷ classes.UserTrap ∷ []) Unsupported) (λ x. flag_words.Vmctx) never (code classes.Vmctx ∷ []) [] flag_value
    (single_tok (code classes.Vmctx) (λ x. flag_words.Vmctx) flag_value (λ x e. rw e refl))
    (single_refuse (codes_of (classes.TrapCode ∷ classes.UserTrap ∷ [])) Unsupported never flag_value))

big_single : Single (plain_flag or big) (plain_flag_value otherwise (λ x. flag_words.Big)) (with_order classes.Big) flag_value
big_single =
    single_or plain_flag big plain_flag_value (λ x. flag_words.Big) plain (code classes.Big ∷ []) flag_value plain_single
    (single_tok (code classes.Big) (λ x. flag_words.Big) flag_value (λ x e. rw e refl))

little_single : Single (plain_flag or little) (plain_flag_value otherwise (λ x. flag_words.Little)) (with_order classes.Little) flag_value
little_single =
    single_or plain_flag little plain_flag_value (λ x. flag_words.Little) plain (code classes.Little ∷ []) flag_value plain_single
    (single_tok (code classes.Little) (λ x. flag_words.Little) flag_value (λ x e. rw e refl))

any_single : Single any_flag any_flag_value any flag_value
any_single =
    single_or plain_flag (little or big) plain_flag_value ((λ x. flag_words.Little) otherwise (λ x. flag_words.Big)) plain (code classes.Little ∷ code classes.Big ∷ []) flag_value plain_single
    (single_or little big (λ x. flag_words.Little) (λ x. flag_words.Big) (code classes.Little ∷ []) (code classes.Big ∷ []) flag_value
    (single_tok (code classes.Little) (λ x. flag_words.Little) flag_value (λ x e. rw e refl))
    (single_tok (code classes.Big) (λ x. flag_words.Big) flag_value (λ x e. rw e refl)))

-- ---- classes among tokens

two_no : (a b : Bool) → (a && b) ≡ false → b ≡ true → a ≡ false
two_no false b h e = refl
two_no true true h e = absurd cc
two_no true false h e = absurd cc

-- a text without tokens of a class
spared : (class : Class) (cs ds : List ℕ) → ((n : ℕ) → (code class == n) ≡ false → member n cs ≡ true → member n ds ≡ true)
    → (ts : List Lexeme) → has class ts ≡ false → all_in cs ts ≡ true → all_in ds ts ≡ true
spared class cs ds less [] none all = refl
spared class cs ds less (x ∷ xs) none all =
    let n = or_parts (code class == x.class) (has class xs) none in
    let a = and_parts (member x.class cs) (all_in cs xs) all in
    all_cons ds x xs (less x.class n.0 a.0) (spared class cs ds less xs n.1 a.1)

wider : (cs ds : List ℕ) → ((n : ℕ) → member n cs ≡ true → member n ds ≡ true) → (ts : List Lexeme) → all_in cs ts ≡ true → all_in ds ts ≡ true
wider cs ds more [] all = refl
wider cs ds more (x ∷ xs) all =
    let a = and_parts (member x.class cs) (all_in cs xs) all in
    all_cons ds x xs (more x.class a.0) (wider cs ds more xs a.1)

none_of : (class : Class) (cs : List ℕ) → member (code class) cs ≡ false → (ts : List Lexeme) → all_in cs ts ≡ true → has class ts ≡ false
none_of class cs out [] all = refl
none_of class cs out (x ∷ xs) all =
    let a = and_parts (member x.class cs) (all_in cs xs) all in
    or_from (code class == x.class) (has class xs) (go (one_way (code class == x.class)) a.0) (none_of class cs out xs a.1)
  where
    go : ((code class == x.class) ≡ true) ⊎ ((code class == x.class) ≡ false) → member x.class cs ≡ true → (code class == x.class) ≡ false
    go (inr e) h = e
    go (inl e) h = absurd (let same : code class ≡ x.class = eqb-true (code class) x.class e in let k : member (code class) cs ≡ true = rw same h in let f : true ≡ false = sym k ∙ out in cc)

has_append : (class : Class) (us ws : List Lexeme) → has class us ≡ false → has class ws ≡ false → has class (us ++ ws) ≡ false
has_append class us ws h k = list_any-append (λ (x : Lexeme). code class == x.class) us ws ∙ or_from (has class us) (has class ws) h k

-- the four classes
any_of : (n : ℕ) → member n any ≡ true → (n ≡ code classes.Flag) ⊎ (n ≡ code classes.Vmctx) ⊎ (n ≡ code classes.Little) ⊎ (n ≡ code classes.Big)
any_of n h =
    elim (or_cases (code classes.Flag == n) (member n (code classes.Vmctx ∷ code classes.Little ∷ code classes.Big ∷ [])) h) [
      | inl e ↦ inl (sym (eqb-true (code classes.Flag) n e))
      | inr k ↦ elim (or_cases (code classes.Vmctx == n) (member n (code classes.Little ∷ code classes.Big ∷ [])) k) [
        | inl e ↦ inr (inl (sym (eqb-true (code classes.Vmctx) n e)))
        | inr j ↦ elim (or_cases (code classes.Little == n) (member n (code classes.Big ∷ [])) j) [
          | inl e ↦ inr (inr (inl (sym (eqb-true (code classes.Little) n e))))
          | inr i ↦ elim (or_cases (code classes.Big == n) false i) [ inl e ↦ inr (inr (inr (sym (eqb-true (code classes.Big) n e)))) | inr e ↦ absurd cc ]
        ]
      ]
    ]

without_little : (n : ℕ) → (code classes.Little == n) ≡ false → member n any ≡ true → member n (with_order classes.Big) ≡ true
without_little n e h = elim (any_of n h) [ inl k ↦ rw k refl | inr k ↦ elim k [ inl j ↦ rw j refl | inr j ↦ elim j [ inl i ↦ absurd (let f = eq-eqb (code classes.Little) n (sym i) in let g : true ≡ false = sym f ∙ e in cc) | inr i ↦ rw i refl ] ] ]

without_big : (n : ℕ) → (code classes.Big == n) ≡ false → member n any ≡ true → member n (with_order classes.Little) ≡ true
without_big n e h = elim (any_of n h) [ inl k ↦ rw k refl | inr k ↦ elim k [ inl j ↦ rw j refl | inr j ↦ elim j [ inl i ↦ rw i refl | inr i ↦ absurd (let f = eq-eqb (code classes.Big) n (sym i) in let g : true ≡ false = sym f ∙ e in cc) ] ] ]

plain_any : (n : ℕ) → member n plain ≡ true → member n any ≡ true
plain_any n h =
    elim (or_cases (code classes.Flag == n) (member n (code classes.Vmctx ∷ [])) h) [
      | inl e ↦ rw (sym (eqb-true (code classes.Flag) n e)) refl
      | inr k ↦ elim (or_cases (code classes.Vmctx == n) false k) [ inl e ↦ rw (sym (eqb-true (code classes.Vmctx) n e)) refl | inr e ↦ absurd cc ]
    ]

big_any : (n : ℕ) → member n (with_order classes.Big) ≡ true → member n any ≡ true
big_any n h =
    elim (or_cases (code classes.Flag == n) (member n (code classes.Vmctx ∷ code classes.Big ∷ [])) h) [
      | inl e ↦ rw (sym (eqb-true (code classes.Flag) n e)) refl
      | inr k ↦ elim (or_cases (code classes.Vmctx == n) (member n (code classes.Big ∷ [])) k) [
        | inl e ↦ rw (sym (eqb-true (code classes.Vmctx) n e)) refl
        | inr j ↦ elim (or_cases (code classes.Big == n) false j) [ inl e ↦ rw (sym (eqb-true (code classes.Big) n e)) refl | inr e ↦ absurd cc ]
      ]
    ]

little_any : (n : ℕ) → member n (with_order classes.Little) ≡ true → member n any ≡ true
little_any n h =
    elim (or_cases (code classes.Flag == n) (member n (code classes.Vmctx ∷ code classes.Little ∷ [])) h) [
      | inl e ↦ rw (sym (eqb-true (code classes.Flag) n e)) refl
      | inr k ↦ elim (or_cases (code classes.Vmctx == n) (member n (code classes.Little ∷ [])) k) [
        | inl e ↦ rw (sym (eqb-true (code classes.Vmctx) n e)) refl
        | inr j ↦ elim (or_cases (code classes.Little == n) false j) [ inl e ↦ rw (sym (eqb-true (code classes.Little) n e)) refl | inr e ↦ absurd cc ]
      ]
    ]

-- ---- what the grammar asks of the tokens

abbrev Ordered : Class → List Lexeme → Type 0
Ordered order ts = (x : Lexeme) × (xs : List Lexeme) × (ts ≡ x ∷ xs) × (x.class ≡ code order) × (all_in (with_order order) xs ≡ true)

abbrev Shape : List Lexeme → Type 0
Shape ts = (all_in plain ts ≡ true) ⊎ Cut ts (λ us ws. (all_in plain us ≡ true) × (Ordered classes.Big ws ⊎ Ordered classes.Little ws))

shape_any : (ts : List Lexeme) → Shape ts → (all_in any ts ≡ true) × (both_orders ts ≡ false)
shape_any ts (inl h) = (wider plain any plain_any ts h, and_left (has classes.Big ts) (has classes.Little ts) (none_of classes.Big plain refl ts h))
shape_any ts (inr (us, ws, e, (h, inl (x, xs, f, c, k)))) =
    let whole : ts ≡ us ++ (x ∷ xs) = e ∙ ap (λ (l : List Lexeme). us ++ l) f in
    subst (λ (l : List Lexeme). (all_in any l ≡ true) × (both_orders l ≡ false)) (sym whole) (
      all_append any us (x ∷ xs) (wider plain any plain_any us h) (all_cons any x xs (rw c refl) (wider (with_order classes.Big) any big_any xs k)),
      and_right (has classes.Big (us ++ (x ∷ xs))) (has classes.Little (us ++ (x ∷ xs)))
          (has_append classes.Little us (x ∷ xs) (none_of classes.Little plain refl us h) (or_from (code classes.Little == x.class) (has classes.Little xs) (rw c refl) (none_of classes.Little (with_order classes.Big) refl xs k))),
    )
shape_any ts (inr (us, ws, e, (h, inr (x, xs, f, c, k)))) =
    let whole : ts ≡ us ++ (x ∷ xs) = e ∙ ap (λ (l : List Lexeme). us ++ l) f in
    subst (λ (l : List Lexeme). (all_in any l ≡ true) × (both_orders l ≡ false)) (sym whole) (
      all_append any us (x ∷ xs) (wider plain any plain_any us h) (all_cons any x xs (rw c refl) (wider (with_order classes.Little) any little_any xs k)),
      and_left (has classes.Big (us ++ (x ∷ xs))) (has classes.Little (us ++ (x ∷ xs)))
          (has_append classes.Big us (x ∷ xs) (none_of classes.Big plain refl us h) (or_from (code classes.Big == x.class) (has classes.Big xs) (rw c refl) (none_of classes.Big (with_order classes.Little) refl xs k))),
    )

-- another flag in front
shape_cons : (x : Lexeme) (xs : List Lexeme) → member x.class plain ≡ true → Shape xs → Shape (x ∷ xs)
shape_cons x xs h (inl k) = inl (all_cons plain x xs h k)
shape_cons x xs h (inr (us, ws, e, (k, o))) = inr (x ∷ us, ws, ap (λ (l : List Lexeme). x ∷ l) e, (all_cons plain x us h k, o))

any_shape : (ts : List Lexeme) → all_in any ts ≡ true → both_orders ts ≡ false → Shape ts
any_shape [] h k = inl refl
any_shape (x ∷ xs) h k =
    let a = and_parts (member x.class any) (all_in any xs) h in
    elim (any_of x.class a.0) [
      | inl c ↦ shape_cons x xs (rw c refl) (any_shape xs a.1 (rw c at k))
      | inr j ↦ elim j [
        | inl c ↦ shape_cons x xs (rw c refl) (any_shape xs a.1 (rw c at k))
        | inr i ↦ elim i [
          | inl c ↦ (let none : has classes.Big xs ≡ false = two_no (has classes.Big xs) true (rw c at k) refl in inr ([], x ∷ xs, refl, (refl, inr (x, xs, refl, c, spared classes.Big any (with_order classes.Little) without_big xs none a.1))))
          | inr c ↦ (let none : has classes.Little xs ≡ false = rw c at k in inr ([], x ∷ xs, refl, (refl, inl (x, xs, refl, c, spared classes.Little any (with_order classes.Big) without_little xs none a.1))))
        ]
      ]
    ]

-- ---- texts

abbrev big_flags : Rule
big_flags = big then Many (plain_flag or big)

abbrev little_flags : Rule
little_flags = little then Many (plain_flag or little)

abbrev Sorted : Type 0
Sorted = Option (Tree big_flags ⊎ Tree little_flags)

joined : (us ws : List Lexeme) (x : Lexeme) (xs ts : List Lexeme) (before behind : List RawFlag) (one : RawFlag) → ts ≡ us ++ ws → ws ≡ x ∷ xs
    → before ≡ map flag_value us → one ≡ flag_value x → behind ≡ map flag_value xs → before ++ (one ∷ behind) ≡ map flag_value ts
joined us ws x xs ts before behind one e f b o a = rw (e, f, b, o, a) (sym (map-append flag_value us (x ∷ xs)))

flags_down : (ts : List Lexeme) (vs : List (Tree plain_flag)) (o : Sorted) → Derives flags ts (vs, o) → Shape ts × (flags_value (vs, o) ≡ map flag_value ts)
flags_down ts vs None d =
    let k = many_means plain_flag plain_flag_value plain flag_value plain_single d.0 vs d.3.0 in
    let whole : ts ≡ d.0 = d.2 ∙ ap (λ (l : List Lexeme). d.0 ++ l) d.3.1 ∙ append-nil d.0 in
    subst (λ (l : List Lexeme). Shape l × (flags_value (vs, None) ≡ map flag_value l)) (sym whole) (inl k.0, append-nil (map plain_flag_value vs) ∙ k.1)
flags_down ts vs (Some (inl v)) d =
    let k = many_means plain_flag plain_flag_value plain flag_value plain_single d.0 vs d.3.0 in
    let b = d.3.1 in
    let j = many_means (plain_flag or big) (plain_flag_value otherwise (λ x. flag_words.Big)) (with_order classes.Big) flag_value big_single b.1 v.1 b.3.1 in
    let whole : d.1 ≡ v.0 ∷ b.1 = b.2 ∙ ap (λ (l : List Lexeme). l ++ b.1) b.3.0.0 in
    let is : v.0.class ≡ code classes.Big = b.3.0.1 in
    (inr (d.0, d.1, d.2, (k.0, inl (v.0, b.1, whole, is, j.0))), joined d.0 d.1 v.0 b.1 ts (map plain_flag_value vs) (map (plain_flag_value otherwise (λ x. flag_words.Big)) v.1) flag_words.Big d.2 whole k.1 (rw is refl) j.1)
flags_down ts vs (Some (inr v)) d =
    let k = many_means plain_flag plain_flag_value plain flag_value plain_single d.0 vs d.3.0 in
    let b = d.3.1 in
    let j = many_means (plain_flag or little) (plain_flag_value otherwise (λ x. flag_words.Little)) (with_order classes.Little) flag_value little_single b.1 v.1 b.3.1 in
    let whole : d.1 ≡ v.0 ∷ b.1 = b.2 ∙ ap (λ (l : List Lexeme). l ++ b.1) b.3.0.0 in
    let is : v.0.class ≡ code classes.Little = b.3.0.1 in
    (inr (d.0, d.1, d.2, (k.0, inr (v.0, b.1, whole, is, j.0))), joined d.0 d.1 v.0 b.1 ts (map plain_flag_value vs) (map (plain_flag_value otherwise (λ x. flag_words.Little)) v.1) flag_words.Little d.2 whole k.1 (rw is refl) j.1)

flags_up : (ts : List Lexeme) → Shape ts → Means flags flags_value ts (map flag_value ts)
flags_up ts (inl h) =
    let k = many_made plain_flag plain_flag_value plain flag_value plain_single ts h in
    ((k.0, None), (ts, [], sym (append-nil ts), (k.1, refl)), append-nil (map plain_flag_value k.0) ∙ k.2)
flags_up ts (inr (us, ws, e, (h, inl (x, xs, f, c, all)))) =
    let k = many_made plain_flag plain_flag_value plain flag_value plain_single us h in
    let j = many_made (plain_flag or big) (plain_flag_value otherwise (λ x. flag_words.Big)) (with_order classes.Big) flag_value big_single xs all in
    ((k.0, Some (inl (x, j.0))), (us, ws, e, (k.1, (x ∷ [], xs, f, ((refl, c), j.1)))), joined us ws x xs ts (map plain_flag_value k.0) (map (plain_flag_value otherwise (λ x. flag_words.Big)) j.0) flag_words.Big e f k.2 (rw c refl) j.2)
flags_up ts (inr (us, ws, e, (h, inr (x, xs, f, c, all)))) =
    let k = many_made plain_flag plain_flag_value plain flag_value plain_single us h in
    let j = many_made (plain_flag or little) (plain_flag_value otherwise (λ x. flag_words.Little)) (with_order classes.Little) flag_value little_single xs all in
    ((k.0, Some (inr (x, j.0))), (us, ws, e, (k.1, (x ∷ [], xs, f, ((refl, c), j.1)))), joined us ws x xs ts (map plain_flag_value k.0) (map (plain_flag_value otherwise (λ x. flag_words.Little)) j.0) flag_words.Little e f k.2 (rw c refl) j.2)

-- ---- beginnings and refused words

plain_shape : (us : List Lexeme) (vs : List (Tree plain_flag)) → Derives (Many plain_flag) us vs → all_in plain us ≡ true
plain_shape us vs d = (many_means plain_flag plain_flag_value plain flag_value plain_single us vs d).0

nothing_behind : (ts us ws : List Lexeme) → ts ≡ us ++ ws → ws ≡ [] → all_in plain us ≡ true → Shape ts
nothing_behind ts us ws e f h = inl (subst (λ (l : List Lexeme). all_in plain l ≡ true) (sym (e ∙ ap (λ (l : List Lexeme). us ++ l) f ∙ append-nil us)) h)

big_begun : (ts us ws : List Lexeme) → ts ≡ us ++ ws → all_in plain us ≡ true → Begins big_flags ws → Shape ts
big_begun ts us ws e h (inl (inl f)) = nothing_behind ts us ws e f h
big_begun ts us ws e h (inl (inr (x, f, c))) = inr (us, ws, e, (h, inl (x, [], f, c, refl)))
big_begun ts us ws e h (inr (u2, w2, f, ((x, (g, c)), b))) =
    inr (us, ws, e, (h, inl (x, w2, f ∙ ap (λ (l : List Lexeme). l ++ w2) g, c, many_begun (plain_flag or big) (plain_flag_value otherwise (λ x. flag_words.Big)) (with_order classes.Big) flag_value big_single w2 b)))

little_begun : (ts us ws : List Lexeme) → ts ≡ us ++ ws → all_in plain us ≡ true → Begins little_flags ws → Shape ts
little_begun ts us ws e h (inl (inl f)) = nothing_behind ts us ws e f h
little_begun ts us ws e h (inl (inr (x, f, c))) = inr (us, ws, e, (h, inr (x, [], f, c, refl)))
little_begun ts us ws e h (inr (u2, w2, f, ((x, (g, c)), b))) =
    inr (us, ws, e, (h, inr (x, w2, f ∙ ap (λ (l : List Lexeme). l ++ w2) g, c, many_begun (plain_flag or little) (plain_flag_value otherwise (λ x. flag_words.Little)) (with_order classes.Little) flag_value little_single w2 b)))

flags_begun : (ts : List Lexeme) → Begins flags ts → Shape ts
flags_begun ts (inl h) = inl (many_begun plain_flag plain_flag_value plain flag_value plain_single ts h)
flags_begun ts (inr (us, ws, e, ((vs, d), inl f))) = nothing_behind ts us ws e f (plain_shape us vs d)
flags_begun ts (inr (us, ws, e, ((vs, d), inr (inl b)))) = big_begun ts us ws e (plain_shape us vs d) b
flags_begun ts (inr (us, ws, e, ((vs, d), inr (inr b)))) = little_begun ts us ws e (plain_shape us vs d) b

abbrev Word : Lexeme → Kind → Type 0
Word x k = Refuses plain_flag [] x k

order_word : (order : Class) (x : Lexeme) (k : Kind) → Refuses (plain_flag or one order) [] x k → Word x k
order_word order x k (inl h) = h
order_word order x k (inr h) = absurd h

flags_refused : (ts : List Lexeme) (x : Lexeme) (k : Kind) → Refuses flags ts x k → Shape ts × Word x k
flags_refused ts x k (inl h) = let j = many_refused plain_flag plain_flag_value plain flag_value plain_single ts x k h in (inl j.0, j.1)
flags_refused ts x k (inr (us, ws, e, ((vs, d), inl (inl h)))) = absurd h
flags_refused ts x k (inr (us, ws, e, ((vs, d), inl (inr (u2, w2, f, ((y, (g, c)), h)))))) =
    let j = many_refused (plain_flag or big) (plain_flag_value otherwise (λ x. flag_words.Big)) (with_order classes.Big) flag_value big_single w2 x k h in
    (inr (us, ws, e, (plain_shape us vs d, inl (y, w2, f ∙ ap (λ (l : List Lexeme). l ++ w2) g, c, j.0))), order_word classes.Big x k j.1)
flags_refused ts x k (inr (us, ws, e, ((vs, d), inr (inl h)))) = absurd h
flags_refused ts x k (inr (us, ws, e, ((vs, d), inr (inr (u2, w2, f, ((y, (g, c)), h)))))) =
    let j = many_refused (plain_flag or little) (plain_flag_value otherwise (λ x. flag_words.Little)) (with_order classes.Little) flag_value little_single w2 x k h in
    (inr (us, ws, e, (plain_shape us vs d, inr (y, w2, f ∙ ap (λ (l : List Lexeme). l ++ w2) g, c, j.0))), order_word classes.Little x k j.1)

flags_refuse : (ts : List Lexeme) (x : Lexeme) (k : Kind) → Shape ts → Word x k → Refuses flags ts x k
flags_refuse ts x k (inl h) w = inl (many_refuses plain_flag plain_flag_value plain flag_value plain_single ts x k h w)
flags_refuse ts x k (inr (us, ws, e, (h, inl (y, ys, f, c, all)))) w =
    let d = many_made plain_flag plain_flag_value plain flag_value plain_single us h in
    inr (us, ws, e, ((d.0, d.1), inl (inr (y ∷ [], ys, f, ((y, (refl, c)), many_refuses (plain_flag or big) (plain_flag_value otherwise (λ x. flag_words.Big)) (with_order classes.Big) flag_value big_single ys x k all (inl w))))))
flags_refuse ts x k (inr (us, ws, e, (h, inr (y, ys, f, c, all)))) w =
    let d = many_made plain_flag plain_flag_value plain flag_value plain_single us h in
    inr (us, ws, e, ((d.0, d.1), inr (inr (y ∷ [], ys, f, ((y, (refl, c)), many_refuses (plain_flag or little) (plain_flag_value otherwise (λ x. flag_words.Little)) (with_order classes.Little) flag_value little_single ys x k all (inl w))))))

any_word : (x : Lexeme) (k : Kind) → Refuses any_flag [] x k → Word x k
any_word x k (inl h) = h
any_word x k (inr (inl h)) = absurd h
any_word x k (inr (inr h)) = absurd h

-- ---- the law

pub flags_letter : (ts : List Lexeme) → FlagsLetter ts
flags_letter ts = (texts, (begun, begins), λ x k. (refused x k, refuses x k))
  where
    texts : (fs : List RawFlag) → Means flags flags_value ts fs iff (Means (Many any_flag) (map any_flag_value) ts fs × (both_orders ts ≡ false))
    texts fs = (
      λ h. (
          let k = flags_down ts h.0.0 h.0.1 h.1 in
          let s = shape_any ts k.0 in
          let m = many_made any_flag any_flag_value any flag_value any_single ts s.0 in
          ((m.0, m.1, m.2 ∙ sym k.1 ∙ h.2), s.1)
          ),
      λ h. (
          let k = many_means any_flag any_flag_value any flag_value any_single ts h.0.0 h.0.1 in
          let u = flags_up ts (any_shape ts k.0 h.1) in
          (u.0, u.1, u.2 ∙ sym k.1 ∙ h.0.2)
          ),
    )

    begun : Begins flags ts → Begins (Many any_flag) ts × (both_orders ts ≡ false)
    begun h = let s = shape_any ts (flags_begun ts h) in (many_begins any_flag any_flag_value any flag_value any_single ts s.0, s.1)

    begins : Begins (Many any_flag) ts × (both_orders ts ≡ false) → Begins flags ts
    begins h = let u = flags_up ts (any_shape ts (many_begun any_flag any_flag_value any flag_value any_single ts h.0) h.1) in derives_begins flags ts u.0 u.1

    refused : (x : Lexeme) (k : Kind) → Refuses flags ts x k → Refuses (Many any_flag) ts x k × (both_orders ts ≡ false)
    refused x k h = let j = flags_refused ts x k h in let s = shape_any ts j.0 in (many_refuses any_flag any_flag_value any flag_value any_single ts x k s.0 (inl j.1), s.1)

    refuses : (x : Lexeme) (k : Kind) → Refuses (Many any_flag) ts x k × (both_orders ts ≡ false) → Refuses flags ts x k
    refuses x k h = let j = many_refused any_flag any_flag_value any flag_value any_single ts x k h.0 in flags_refuse ts x k (any_shape ts j.0 h.1) (any_word x k j.1)

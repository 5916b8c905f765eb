-- A chain in which some texts stand behind a text that ends with its token, and are given to it, says the same as { } of the texts with what is given to them.
use Rattle.std.proofs.Common.{◌≡◌, ℕ, Bool, true, false, List, [], ◌∷◌, ◌++◌, map, Option, Some, None, refl, sym, ap, subst, ◌∙◌, inl, inr, append_assoc}
use Rattle.std.specs.Prelude.{◌⊎◌}
use Rattle.std.proofs.lemmas.List.{append-nil}
use Rattle.grammar.proofs.Chains.{ends-append}
use Rattle.grammar.specs.Rules.{Lexeme, Rule, Tok, Seq, Alt, Opt, Many, Chain, Tree, Cut, Each, Links, ByFlag, ends, nullable, good, Derives}
use Rattle.grammar.proofs.Binds.{ok_is, regroup}
use Rattle.grammar.proofs.Exactness.{complete}
use Rattle.grammar.proofs.Same.{Splits, SplitsBegun, same_texts, same_beginnings}
use Rattle.grammar.proofs.Tails.{tok_ends, may_end, Tail, tail_same, tail_end, tail_alt, tail_seq, Or, splits, splits_begun}
use Rattle.token_reader.specs.Values.{either}
use Rattle.clif_read.specs.Alike.{Means, Alike}

-- an a that ends with the token c, and a w that is given to it
abbrev Giving : {Y W : Type 0} (c : ℕ) (a w : Rule) (fa : Tree a → Y) (fw : Tree w → W) (give : W → Y → Y) → List Lexeme → Y → Type 0
Giving c a w fa fw give ts y = Cut ts (λ us vs. (x : Tree a) × Derives a us x × ((f : Bool) → ends c f us ≡ true) × (z : Tree w) × Derives w vs z × (give (fw z) (fa x) ≡ y))

-- n is a, but a w may stand behind an a that ends with the token c
pub record Given {Y W : Type 0} (c : ℕ) (n a w : Rule) (fn : Tree n → Y) (fa : Tree a → Y) (fw : Tree w → W) (give : W → Y → Y) : Type 0 where
  pub tail : Tail c n a w
  pub split : (ts : List Lexeme) (v : Tree n) → Derives n ts v → Means a fa ts (fn v) ⊎ Giving c a w fa fw give ts (fn v)

pub given_same : {Y W : Type 0} (c : ℕ) (a w : Rule) (fn fa : Tree a → Y) (fw : Tree w → W) (give : W → Y → Y) → ((v : Tree a) → fa v ≡ fn v) → may_end c a ≡ false → nullable a ≡ false → Given c a a w fn fa fw give
given_same c a w fn fa fw give e m some = record { tail = tail_same c a w m some; split = λ ts v d. inl (v, d, e v) }

end_split : {Y W : Type 0} (c : ℕ) (w : Rule) (fn : Lexeme → Option (Tree w) → Y) (fa : Lexeme → Y) (fw : Tree w → W) (give : W → Y → Y) → ((x : Lexeme) → fa x ≡ fn x None) → ((x : Lexeme) (z : Tree w) → give (fw z) (fa x) ≡ fn x (Some z))
    → ((us : List Lexeme) (x : Lexeme) → Derives (Tok c) us x → (f : Bool) → ends c f us ≡ true)
    → (ts : List Lexeme) (x : Lexeme) (o : Option (Tree w)) → Derives (Seq (Tok c) (Opt w)) ts (x, o) → Means (Tok c) fa ts (fn x o) ⊎ Giving c (Tok c) w fa fw give ts (fn x o)
end_split c w fn fa fw give none some last ts x None d =
    let e : ts ≡ d.0 = d.2 ∙ ap (λ (l : List Lexeme). d.0 ++ l) d.3.1 ∙ append-nil d.0 in
    inl (x, (e ∙ d.3.0.0, d.3.0.1), none x)
end_split c w fn fa fw give none some last ts x (Some z) d = inr (d.0, d.1, d.2, (x, d.3.0, last d.0 x d.3.0, z, d.3.1, some x z))

pub given_end : {Y W : Type 0} (c : ℕ) (w : Rule) (fn : Lexeme → Option (Tree w) → Y) (fa : Lexeme → Y) (fw : Tree w → W) (give : W → Y → Y) → ((x : Lexeme) → fa x ≡ fn x None) → ((x : Lexeme) (z : Tree w) → give (fw z) (fa x) ≡ fn x (Some z))
    → Given c (Seq (Tok c) (Opt w)) (Tok c) w (λ v. fn v.0 v.1) fa fw give
given_end c w fn fa fw give none some = record { tail = tail_end c w; split = λ ts v d. end_split c w fn fa fw give none some (tok_ends c) ts v.0 v.1 d }

alt_split : {Y W : Type 0} (c : ℕ) (n1 a1 n2 a2 w : Rule) (fn1 : Tree n1 → Y) (fa1 : Tree a1 → Y) (fn2 : Tree n2 → Y) (fa2 : Tree a2 → Y) (fw : Tree w → W) (give : W → Y → Y)
    → Given c n1 a1 w fn1 fa1 fw give → Given c n2 a2 w fn2 fa2 fw give
    → (ts : List Lexeme) (v : Tree n1 ⊎ Tree n2) → Derives (Alt n1 n2) ts v → Means (Alt a1 a2) (either fa1 fa2) ts (either fn1 fn2 v) ⊎ Giving c (Alt a1 a2) w (either fa1 fa2) fw give ts (either fn1 fn2 v)
alt_split c n1 a1 n2 a2 w fn1 fa1 fn2 fa2 fw give s t ts (inl v) d = elim (s.split ts v d) [ inl k ↦ inl (inl k.0, k.1, k.2) | inr k ↦ inr (k.0, k.1, k.2, (inl k.3.0, k.3.1, k.3.2, k.3.3, k.3.4, k.3.5)) ]
alt_split c n1 a1 n2 a2 w fn1 fa1 fn2 fa2 fw give s t ts (inr v) d = elim (t.split ts v d) [ inl k ↦ inl (inr k.0, k.1, k.2) | inr k ↦ inr (k.0, k.1, k.2, (inr k.3.0, k.3.1, k.3.2, k.3.3, k.3.4, k.3.5)) ]

pub given_alt : {Y W : Type 0} {c : ℕ} {n1 a1 n2 a2 w : Rule} {fn1 : Tree n1 → Y} {fa1 : Tree a1 → Y} {fn2 : Tree n2 → Y} {fa2 : Tree a2 → Y} {fw : Tree w → W} {give : W → Y → Y}
    → Given c n1 a1 w fn1 fa1 fw give → Given c n2 a2 w fn2 fa2 fw give → Given c (Alt n1 n2) (Alt a1 a2) w (either fn1 fn2) (either fa1 fa2) fw give
given_alt {Y} {W} {c} {n1} {a1} {n2} {a2} {w} {fn1} {fa1} {fn2} {fa2} {fw} {give} s t = record {
  tail = tail_alt c n1 a1 n2 a2 w s.tail t.tail;
  split = alt_split c n1 a1 n2 a2 w fn1 fa1 fn2 fa2 fw give s t;
}

-- behind something else
pub given_seq : {Y W M : Type 0} {c : ℕ} {p n a w : Rule} (m : Tree p → M) {fn : M → Tree n → Y} {fa : M → Tree a → Y} {fw : Tree w → W} {give : W → Y → Y}
    → nullable a ≡ false → M → ((x : M) → Given c n a w (fn x) (fa x) fw give) → Given c (Seq p n) (Seq p a) w (λ v. fn (m v.0) v.1) (λ v. fa (m v.0) v.1) fw give
given_seq {Y} {W} {M} {c} {p} {n} {a} {w} m {fn} {fa} {fw} {give} some any g = record {
  tail = tail_seq c p n a w some (g any).tail;
  split = λ ts v h. (elim ((g (m v.0)).split h.1 v.1 h.3.1) [
    | inl k ↦ inl ((v.0, k.0), (h.0, h.1, h.2, (h.3.0, k.1)), k.2)
    | inr k ↦ inr (h.0 ++ k.0, k.1, regroup ts h.0 k.0 h.1 k.1 h.2 k.2, ((v.0, k.3.0), (h.0, k.0, refl, (h.3.0, k.3.1)), (λ f. ends-append c f h.0 k.0 ∙ k.3.2 (ends c f h.0)), k.3.3, k.3.4, k.3.5))
  ]);
}

-- seen as something else
pub given_map : {Y Z W : Type 0} {c : ℕ} {n a w : Rule} {fn : Tree n → Y} {fa : Tree a → Y} {fw : Tree w → W} {give : W → Y → Y} (h : Y → Z) (give_to : W → Z → Z)
    → ((x : W) (y : Y) → give_to x (h y) ≡ h (give x y)) → Given c n a w fn fa fw give → Given c n a w (λ v. h (fn v)) (λ v. h (fa v)) fw give_to
given_map {Y} {Z} {W} {c} {n} {a} {w} {fn} {fa} {fw} {give} h give_to e g = record {
  tail = g.tail;
  split = λ ts v d. (elim (g.split ts v d) [
    | inl k ↦ inl (k.0, k.1, ap h k.2)
    | inr k ↦ inr (k.0, k.1, k.2, (k.3.0, k.3.1, k.3.2, k.3.3, k.3.4, e (fw k.3.3) (fa k.3.0) ∙ ap h k.3.5))
  ]);
}

-- b is a or w, seen as parts of a list
pub record Offers {Y W P : Type 0} (b a w : Rule) (fb : Tree b → P) (fa : Tree a → Y) (fw : Tree w → W) (whole : Y → P) (rest : W → P) : Type 0 where
  pub both : Or b a w
  pub from_a : (ts : List Lexeme) (x : Tree a) → Derives a ts x → Means b fb ts (whole (fa x))
  pub from_w : (ts : List Lexeme) (z : Tree w) → Derives w ts z → Means b fb ts (rest (fw z))

-- how parts are joined
pub record Joins {Y W P : Type 0} (whole : Y → P) (rest : W → P) (give : W → Y → Y) (joined : List Y → List P → List Y) : Type 0 where
  pub nothing : (ys : List Y) → joined ys [] ≡ ys
  pub one : (ys : List Y) (y : Y) (ps : List P) → joined ys (whole y ∷ ps) ≡ joined (ys ++ y ∷ []) ps
  pub more : (ys : List Y) (y : Y) (z : W) (ps : List P) → joined (ys ++ y ∷ []) (rest z ∷ ps) ≡ joined (ys ++ give z y ∷ []) ps

-- the rules of a chain and what their trees mean
pub record Chaining (Y W P : Type 0) : Type 0 where
  pub c : ℕ
  pub n : Rule
  pub a : Rule
  pub b : Rule
  pub w : Rule
  pub fn : Tree n → Y
  pub fa : Tree a → Y
  pub fb : Tree b → P
  pub fw : Tree w → W
  pub give : W → Y → Y
  pub whole : Y → P
  pub rest : W → P
  pub joined : List Y → List P → List Y
  pub given : Given c n a w fn fa fw give
  pub offers : Offers b a w fb fa fw whole rest
  pub joins : Joins whole rest give joined
  pub some_a : nullable a ≡ false
  pub some_w : nullable w ≡ false
  pub quiet_w : may_end c w ≡ false
  pub readable : good (Chain c a b) ≡ true

-- what an element of the chain is
abbrev pub part : {Y W P : Type 0} (s : Chaining Y W P) → Tree s.a ⊎ Tree s.b → P
part s = either (λ v. s.whole (s.fa v)) s.fb

-- what the chain means
abbrev pub chained : {Y W P : Type 0} (s : Chaining Y W P) → List (Tree s.a ⊎ Tree s.b) → List Y
chained s vs = s.joined [] (map (part s) vs)

-- an element of the chain
abbrev Item : {Y W P : Type 0} (s : Chaining Y W P) → Bool → List Lexeme → P → Type 0
Item s f us p = (v : Tree s.a ⊎ Tree s.b) × ByFlag (Derives s.a) (Derives s.b) f us v × (part s v ≡ p)

item : {Y W P : Type 0} (s : Chaining Y W P) (f : Bool) (us : List Lexeme) (x : Tree s.a) → Derives s.a us x → Item s f us (s.whole (s.fa x))
item s true us x d = let k = s.offers.from_a us x d in (inr k.0, (refl, k.1), k.2)
item s false us x d = (inl x, (refl, d), refl)

-- the rest of the chain
abbrev ChainTree : {Y W P : Type 0} (s : Chaining Y W P) → Bool → List Lexeme → List Y → Type 0
ChainTree s f ts ys = (vs : List (Tree s.a ⊎ Tree s.b)) × Links (ByFlag (Derives s.a) (Derives s.b)) s.c f ts vs × ((before : List _) → s.joined before (map (part s) vs) ≡ before ++ ys)

one_more : {Y W P : Type 0} (s : Chaining Y W P) (f : Bool) (ts us ws : List Lexeme) (y : Y) (ys : List Y) → ts ≡ us ++ ws → Item s f us (s.whole y) → ChainTree s (ends s.c f us) ws ys → ChainTree s f ts (y ∷ ys)
one_more {Y} {W} {P} s f ts us ws y ys e i k = (
  i.0 ∷ k.0,
  (us, ws, e, (i.1, k.1)),
  λ before. (
      let first : s.joined before (part s i.0 ∷ map (part s) k.0) ≡ s.joined before (s.whole y ∷ map (part s) k.0) = ap (λ (p : P). s.joined before (p ∷ map (part s) k.0)) i.2 in
      first ∙ s.joins.one before y (map (part s) k.0) ∙ k.2 (before ++ y ∷ []) ∙ append_assoc before (y ∷ []) ys
      ),
)

-- an element, and what is given to it
two_more : {Y W P : Type 0} (s : Chaining Y W P) (f : Bool) (ts u1 u2 ws : List Lexeme) (x : Tree s.a) (z : Tree s.w) (ys : List Y) → ts ≡ u1 ++ (u2 ++ ws) → Derives s.a u1 x → ends s.c f u1 ≡ true → Derives s.w u2 z → ChainTree s (ends s.c true u2) ws ys
    → ChainTree s f ts (s.give (s.fw z) (s.fa x) ∷ ys)
two_more {Y} {W} {P} s f ts u1 u2 ws x z ys e d last dw k =
    let i = item s f u1 x d in
    let o = s.offers.from_w u2 z dw in
    let tail : Links (ByFlag (Derives s.a) (Derives s.b)) s.c true (u2 ++ ws) (inr o.0 ∷ k.0) = (u2, ws, refl, ((refl, o.1), k.1)) in (
      i.0 ∷ inr o.0 ∷ k.0,
      (u1, u2 ++ ws, e, (i.1, subst (λ (g : Bool). Links (ByFlag (Derives s.a) (Derives s.b)) s.c g (u2 ++ ws) (inr o.0 ∷ k.0)) (sym last) tail)),
      λ before. (
          let first : s.joined before (part s i.0 ∷ s.fb o.0 ∷ map (part s) k.0) ≡ s.joined before (s.whole (s.fa x) ∷ s.fb o.0 ∷ map (part s) k.0) = ap (λ (p : P). s.joined before (p ∷ s.fb o.0 ∷ map (part s) k.0)) i.2 in
          let second : s.joined before (s.whole (s.fa x) ∷ s.fb o.0 ∷ map (part s) k.0) ≡ s.joined before (s.whole (s.fa x) ∷ s.rest (s.fw z) ∷ map (part s) k.0) = ap (λ (p : P). s.joined before (s.whole (s.fa x) ∷ p ∷ map (part s) k.0)) o.2 in
          first ∙ second ∙ s.joins.one before (s.fa x) (s.rest (s.fw z) ∷ map (part s) k.0) ∙ s.joins.more before (s.fa x) (s.fw z) (map (part s) k.0)
          ∙ k.2 (before ++ s.give (s.fw z) (s.fa x) ∷ []) ∙ append_assoc before (s.give (s.fw z) (s.fa x) ∷ []) ys
          ),
    )

forward : {Y W P : Type 0} (s : Chaining Y W P) (f : Bool) (ts : List Lexeme) (vs : List (Tree s.n)) → Each (Derives s.n) ts vs → ChainTree s f ts (map s.fn vs)
forward s f ts [] h = ([], h, λ before. s.joins.nothing before ∙ sym (append-nil before))
forward {Y} {W} {P} s f ts (v ∷ vs) h =
    elim (s.given.split h.0 v h.3.0) [
      | inl k ↦ (
          let whole = one_more s f ts h.0 h.1 (s.fa k.0) (map s.fn vs) h.2 (item s f h.0 k.0 k.1) (forward s (ends s.c f h.0) h.1 vs h.3.1) in
          subst (λ (y : Y). ChainTree s f ts (y ∷ map s.fn vs)) k.2 whole
          )
      | inr k ↦ (
          let e = h.2 ∙ ap (λ (l : List Lexeme). l ++ h.1) k.2 ∙ append_assoc k.0 k.1 h.1 in
          let whole = two_more s f ts k.0 k.1 h.1 k.3.0 k.3.3 (map s.fn vs) e k.3.1 (k.3.2 f) k.3.4 (forward s (ends s.c true k.1) h.1 vs h.3.1) in
          subst (λ (y : Y). ChainTree s f ts (y ∷ map s.fn vs)) k.3.5 whole
          )
    ]

-- a text has one tree
same_tree : (r : Rule) → good r ≡ true → (ts : List Lexeme) (v x : Tree r) → Derives r ts v → Derives r ts x → v ≡ x
same_tree r g ts v x d e =
    let p = complete r g ts v [] d refl in
    let q = complete r g ts x [] e refl in
    ap (λ (y : Tree r × List Lexeme). y.0) (ok_is (v, []) (x, []) (sym p ∙ q))

all_splits : {Y W P : Type 0} (s : Chaining Y W P) → Splits s.c s.n s.a s.b s.w
all_splits s = splits s.c s.n s.a s.b s.w s.given.tail s.offers.both s.some_a s.some_w s.quiet_w

all_begun : {Y W P : Type 0} (s : Chaining Y W P) → SplitsBegun s.c s.n s.a s.b s.w
all_begun s = splits_begun s.c s.n s.a s.b s.w s.given.tail s.offers.both

-- { } of the texts says the same as the chain
pub chain_alike : {Y W P : Type 0} (s : Chaining Y W P) → Alike (Many s.n) (Chain s.c s.a s.b) (map s.fn) (chained s)
chain_alike s = record {
  there = λ ts vs d. (let k = forward s false ts vs d in (k.0, k.1, k.2 []));
  back = λ ts vs d. (
      let h = (same_texts s.c s.n s.a s.b s.w (all_splits s) ts).1 (vs, d) in
      let k = forward s false ts h.0 h.1 in
      let e = same_tree (Chain s.c s.a s.b) s.readable ts vs k.0 d k.1 in
      (h.0, h.1, sym (ap (chained s) e ∙ k.2 []))
      );
  begun = λ ts h. (same_beginnings s.c s.n s.a s.b s.w (all_splits s) (all_begun s) ts).0 h;
  begun_back = λ ts h. (same_beginnings s.c s.n s.a s.b s.w (all_splits s) (all_begun s) ts).1 h;
}

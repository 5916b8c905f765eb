-- Blocks put behind a block, one after another.
use Rattle.std.proofs.Common.{◌≡◌, ℕ, ◌+◌, ◌-◌, ◌<◌, ◌^◌, ◌⊎◌, inl, inr, List, [], ◌∷◌, ◌++◌, length, Bool, true, false, refl, sym, ap, ap₂, ◌∙◌, subst, arith, eq-eqb, ne_eqb}
use Rattle.std.specs.Prelude.{if◌then◌else◌, nat_eq}
use Rattle.std.proofs.lemmas.Bool.{cases_eq}
use Rattle.ir_core.specs.Module.{Block, Function}
use Rattle.ir_core.specs.Lookup.{block_numbers, definitions, line_definitions}
use Rattle.ir_core.specs.Lists.{In, Different, Below}
use Rattle.ir_core.specs.Edits.{insert_after}
use Rattle.ir_core.proofs.Members.{in_left, in_right, in_cases, different_right, different_apart, below_right}
use Rattle.inline_body.specs.WithBody.{behind, empty_from, all_of}

-- what stands behind the block that was put there stands behind it
behind_new : (a n : ℕ) (ps : List ℕ) (more bs : List Block) → In a (block_numbers bs) → (In n (block_numbers bs) → ⊥) → behind n more (insert_after a (record { number = n; params = ps; lines = [] }) bs) ≡ behind a (record { number = n; params = ps; lines = [] } ∷ more) bs
behind_new a n ps more [] i h = elim i [ ]
behind_new a n ps more (b ∷ bs) i h =
    let new : Block = record { number = n; params = ps; lines = [] } in
    let off : nat_eq b.number n ≡ false = ne_eqb b.number n (λ q. h (inl (sym q))) in
    elim (cases_eq b.number a) [
      | inl e ↦
          ap (λ c. behind n more (if c then b ∷ (new ∷ bs) else b ∷ insert_after a new bs)) (eq-eqb b.number a e)
          ∙ (ap (λ c. if c then b ∷ (more ++ (new ∷ bs)) else b ∷ behind n more (new ∷ bs)) off
          ∙ (ap (λ c. b ∷ (if c then new ∷ (more ++ bs) else new ∷ behind n more bs)) (eq-eqb n n refl)
          ∙ sym (ap (λ c. if c then b ∷ ((new ∷ more) ++ bs) else b ∷ behind a (new ∷ more) bs) (eq-eqb b.number a e))))
      | inr e ↦
          let at : In a (block_numbers bs) = elim i [ inl q ↦ absurd (e (sym q)) | inr q ↦ q ] in
          ap (λ c. behind n more (if c then b ∷ (new ∷ bs) else b ∷ insert_after a new bs)) (ne_eqb b.number a e)
          ∙ (ap (λ c. if c then b ∷ (more ++ insert_after a new bs) else b ∷ behind n more (insert_after a new bs)) off
          ∙ (ap (λ z. b ∷ z) (behind_new a n ps more bs at (λ j. h (inr j)))
          ∙ sym (ap (λ c. if c then b ∷ ((new ∷ more) ++ bs) else b ∷ behind a (new ∷ more) bs) (ne_eqb b.number a e))))
    ]

behind_none : (a : ℕ) (bs : List Block) → behind a [] bs ≡ bs
behind_none a [] = refl
behind_none a (b ∷ bs) = go (nat_eq b.number a) (behind_none a bs)
  where
    go : (c : Bool) → behind a [] bs ≡ bs → (if c then b ∷ bs else b ∷ behind a [] bs) ≡ b ∷ bs
    go true h = refl
    go false h = ap (λ z. b ∷ z) h

one_longer : (a : ℕ) (new : Block) (bs : List Block) → In a (block_numbers bs) → length (insert_after a new bs) ≡ length bs + 1
one_longer a new [] i = elim i [ ]
one_longer a new (b ∷ bs) i =
    elim (cases_eq b.number a) [
      | inl e ↦ ap (λ c. length (if c then b ∷ (new ∷ bs) else b ∷ insert_after a new bs)) (eq-eqb b.number a e) ∙ omega arith
      | inr e ↦
          let at : In a (block_numbers bs) = elim i [ inl q ↦ absurd (e (sym q)) | inr q ↦ q ] in
          let h = one_longer a new bs at in
          ap (λ c. length (if c then b ∷ (new ∷ bs) else b ∷ insert_after a new bs)) (ne_eqb b.number a e) ∙ omega (arith, h)
    ]

new_there : (a : ℕ) (new : Block) (bs : List Block) → In a (block_numbers bs) → In new.number (block_numbers (insert_after a new bs))
new_there a new [] i = elim i [ ]
new_there a new (b ∷ bs) i =
    elim (cases_eq b.number a) [
      | inl e ↦ subst (λ c. In new.number (block_numbers (if c then b ∷ (new ∷ bs) else b ∷ insert_after a new bs))) (sym (eq-eqb b.number a e)) (inr (inl refl))
      | inr e ↦
          let at : In a (block_numbers bs) = elim i [ inl q ↦ absurd (e (sym q)) | inr q ↦ q ] in
          subst (λ c. In new.number (block_numbers (if c then b ∷ (new ∷ bs) else b ∷ insert_after a new bs))) (sym (ne_eqb b.number a e)) (inr (new_there a new bs at))
    ]

defined_now : (a n : ℕ) (ps : List ℕ) (bs : List Block) (v : ℕ) → In v (definitions (insert_after a (record { number = n; params = ps; lines = [] }) bs)) → In v ps ⊎ In v (definitions bs)
defined_now a n ps [] v i = elim i [ ]
defined_now a n ps (b ∷ bs) v i = go (nat_eq b.number a) i (λ j. defined_now a n ps bs v j)
  where
    go : (c : Bool) → In v (definitions (if c then b ∷ (record { number = n; params = ps; lines = [] } ∷ bs) else b ∷ insert_after a (record { number = n; params = ps; lines = [] }) bs)) → (In v (definitions (insert_after a (record { number = n; params = ps; lines = [] }) bs)) → In v ps ⊎ In v (definitions bs)) → In v ps ⊎ In v (definitions (b ∷ bs))
    go true j ih =
        elim (in_cases v b.params _ j) [
          | inl p ↦ inr (in_left v b.params _ p)
          | inr p ↦ elim (in_cases v (line_definitions b.lines) _ p) [
            | inl q ↦ inr (in_right v b.params _ (in_left v (line_definitions b.lines) _ q))
            | inr q ↦ elim (in_cases v ps _ q) [ inl x ↦ inl x | inr x ↦ inr (in_right v b.params _ (in_right v (line_definitions b.lines) _ x)) ]
          ]
        ]
    go false j ih =
        elim (in_cases v b.params _ j) [
          | inl p ↦ inr (in_left v b.params _ p)
          | inr p ↦ elim (in_cases v (line_definitions b.lines) _ p) [
            | inl q ↦ inr (in_right v b.params _ (in_left v (line_definitions b.lines) _ q))
            | inr q ↦ elim (ih q) [ inl x ↦ inl x | inr x ↦ inr (in_right v b.params _ (in_right v (line_definitions b.lines) _ x)) ]
          ]
        ]

-- ---- the loop: f0 was there at first, f is there now; of the parameters `all` those of `rest` are left, and go behind `at`

pub record Inserting (first at : ℕ) (f0 f : Function) (all rest : List (List ℕ)) : Type 0 where
  pub left : behind at (empty_from (length f.blocks) rest) f.blocks ≡ behind first (empty_from (length f0.blocks) all) f0.blocks
  pub others : f ≡ record f0 { blocks = f.blocks }
  pub there : In at (block_numbers f.blocks)
  pub declared : Below (length f0.types) (all_of rest)
  pub different : Different (all_of rest)
  pub undefined : (v : ℕ) → In v (all_of rest) → In v (definitions f.blocks) → ⊥
  pub few : length f.blocks + length rest < 2 ^ 32 - 1

pub insert_step : (first at n : ℕ) (f0 f g : Function) (all rest : List (List ℕ)) (ps : List ℕ) → Inserting first at f0 f all (ps ∷ rest) → n ≡ length f.blocks → (In n (block_numbers f.blocks) → ⊥) → g ≡ record f { blocks = insert_after at (record { number = n; params = ps; lines = [] }) f.blocks } → Inserting first n f0 g all rest
insert_step first at n f0 f g all rest ps p e fresh is =
    let blocks : g.blocks ≡ insert_after at (record { number = n; params = ps; lines = [] }) f.blocks = ap (λ (z : Function). z.blocks) is in
    let longer : length g.blocks ≡ length f.blocks + 1 = ap length blocks ∙ one_longer at (record { number = n; params = ps; lines = [] }) f.blocks p.there in
    let few = p.few in
    record {
      left =
          ap₂ (λ (k : ℕ) (z : List Block). behind n (empty_from k rest) z) longer blocks
          ∙ (behind_new at n ps (empty_from (length f.blocks + 1) rest) f.blocks p.there fresh
          ∙ (ap (λ (k : ℕ). behind at (record { number = k; params = ps; lines = [] } ∷ empty_from (length f.blocks + 1) rest) f.blocks) e ∙ p.left));
      others = is ∙ (ap (λ (z : Function). record z { blocks = insert_after at (record { number = n; params = ps; lines = [] }) f.blocks }) p.others ∙ ap (λ (z : List Block). record f0 { blocks = z }) (sym blocks));
      there = subst (λ z. In n (block_numbers z)) (sym blocks) (new_there at (record { number = n; params = ps; lines = [] }) f.blocks p.there);
      declared = below_right (length f0.types) ps (all_of rest) p.declared;
      different = different_right ps (all_of rest) p.different;
      undefined = λ v i j. elim (defined_now at n ps f.blocks v (subst (λ z. In v (definitions z)) blocks j)) [
        | inl q ↦ different_apart ps (all_of rest) v p.different q i
        | inr q ↦ p.undefined v (in_right v ps (all_of rest) i) q
      ];
      few = omega (arith, longer, few);
    }

pub insert_end : (first at : ℕ) (f0 f : Function) (all : List (List ℕ)) → Inserting first at f0 f all [] → f ≡ record f0 { blocks = behind first (empty_from (length f0.blocks) all) f0.blocks }
insert_end first at f0 f all p = p.others ∙ ap (λ (z : List Block). record f0 { blocks = z }) (sym (behind_none at f.blocks) ∙ p.left)

-- Walks along chains of alias lines.
use Rattle.std.proofs.Common.{◌≡◌, ℕ, zero, suc, ◌<◌, ◌⊎◌, ◌≢◌, List, length, get_or, set, get_or-set_same, get_or-set_other, None, refl, sym, ◌∙◌}
use Rattle.std.proofs.Common.{inl, inr}
use Rattle.std.proofs.lemmas.Bool.Decides.{eqb_tells}
use Rattle.name_tables.specs.declared.links.Link.{Link}
use Rattle.name_tables.specs.declared.links.Link.TheVariants.{Value, Missing, To}
use Rattle.name_tables.specs.declared.links.End.{End}
use Rattle.name_tables.specs.declared.links.End.TheVariants.{At, Nowhere, Endless}
use Rattle.name_tables.specs.declared.links.Mark.{Mark}
use Rattle.name_tables.specs.declared.links.Mark.TheVariants.{Open, Walking, Ended}
use Rattle.name_tables.specs.Links.{chain, Means, AreRight, AreBelow}

-- each word that the walk passed leads to another such word, or to where the walk stands
abbrev pub Leads : List Link → List Mark → ℕ → ℕ → Type 0
Leads links marks start at = (i : ℕ) → get_or marks i Open ≡ Walking start
    → (j : ℕ) × (get_or links i Value ≡ To j) × ((get_or marks j Open ≡ Walking start) ⊎ (j ≡ at))

module _ (links : List Link) (i j : ℕ) (to : get_or links i Value ≡ To j) where
  one : (k : ℕ) → chain links (suc k) i ≡ chain links k j
  unfolding chain
  one k = rw to refl

  -- the ends of a word and of the word that it stands for are the same
  pub step_back : (e : End) → Means links e j → Means links e i
  unfolding Means chain
  step_back (At a) (k, h) = (suc k, one k ∙ h)
  step_back Nowhere (k, h) = (suc k, one k ∙ h)
  step_back Endless h = λ k. by k
    where
      by : (k : ℕ) → chain links k i ≡ None
      by zero = refl
      by (suc k) = one k ∙ h k

  pub step : (e : End) → Means links e i → Means links e j
  unfolding Means chain
  step (At a) (zero, h) = absurd cc
  step (At a) (suc k, h) = (k, sym (one k) ∙ h)
  step Nowhere (zero, h) = absurd cc
  step Nowhere (suc k, h) = (k, sym (one k) ∙ h)
  step Endless h = λ k. sym (one k) ∙ h (suc k)

-- where each word of a set stands for a word of the set, get_or-set_same, get_or-set_other, none of their chains ends
pub closed : (links : List Link) (W : ℕ → Type 0) → ((i : ℕ) → W i → (j : ℕ) × (get_or links i Value ≡ To j) × W j) → (k i : ℕ) → W i → chain links k i ≡ None
unfolding chain
closed links W go zero i w = refl
closed links W go (suc k) i w = let p = go i w in one links i p.0 p.1 k ∙ closed links W go k p.0 p.2

-- a walk that comes to a word that it passed never ends
pub meets_itself : (links : List Link) (marks : List Mark) (start at : ℕ) → Leads links marks start at → get_or marks at Open ≡ Walking start → Means links Endless at
unfolding Means
meets_itself links marks start at leads here = λ k. closed links (λ i. get_or marks i Open ≡ Walking start) go k at here
  where
    go : (i : ℕ) → get_or marks i Open ≡ Walking start → (j : ℕ) × (get_or links i Value ≡ To j) × (get_or marks j Open ≡ Walking start)
    go i w = let p = leads i w in (p.0, p.1, elim p.2 [ inl a ↦ a | inr b ↦ rw b here ])

pub at_value : (links : List Link) (i : ℕ) → get_or links i Value ≡ Value → Means links (At i) i
unfolding Means chain
at_value links i h = (1, rw h refl)

pub at_missing : (links : List Link) (i : ℕ) → get_or links i Value ≡ Missing → Means links Nowhere i
unfolding Means chain
at_missing links i h = (1, rw h refl)

-- a mark is written
module _ (marks : List Mark) (at : ℕ) (m : Mark) (within : at < length marks) where
  pub at_set : (P : Mark → ℕ → Type 0) → P m at → ((i : ℕ) → P (get_or marks i Open) i) → (i : ℕ) → P (get_or (set marks at m) i Open) i
  at_set P here others i = elim (eqb_tells i at) [ inl s ↦ rw (s.1, get_or-set_same marks at m Open within) here | inr d ↦ (let ne : i ≢ at = d.1 in rw (get_or-set_other marks at i m Open ne) (others i)) ]

  pub right_set : (links : List Link) → ((e : End) → m ≡ Ended e → Means links e at) → AreRight links marks → AreRight links (set marks at m)
  right_set links here right = at_set (λ x i. (e : End) → x ≡ Ended e → Means links e i) here right

  pub below_set : (n : ℕ) → ((by : ℕ) → m ≡ Walking by → by < n) → AreBelow n marks → AreBelow n (set marks at m)
  below_set n here below = at_set (λ x i. (by : ℕ) → x ≡ Walking by → by < n) here below

abbrev GoesOn : List Link → List Mark → ℕ → ℕ → ℕ → Type 0
GoesOn links marks start at i = (j : ℕ) × (get_or links i Value ≡ To j) × ((get_or marks j Open ≡ Walking start) ⊎ (j ≡ at))

pub leads_set : (links : List Link) (marks : List Mark) (start at next : ℕ) → at < length marks → get_or links at Value ≡ To next → Leads links marks start at → Leads links (set marks at (Walking start)) start next
leads_set links marks start at next within to leads =
    at_set marks at (Walking start) within (λ x i. x ≡ Walking start → GoesOn links (set marks at (Walking start)) start next i) (λ e. (next, to, inr refl)) (λ i e. moved i (leads i e))
  where
    kept : (j : ℕ) → get_or marks j Open ≡ Walking start → get_or (set marks at (Walking start)) j Open ≡ Walking start
    kept j e = at_set marks at (Walking start) within (λ x i. get_or marks i Open ≡ Walking start → x ≡ Walking start) (λ h. refl) (λ i h. h) j e

    moved : (i : ℕ) → GoesOn links marks start at i → GoesOn links (set marks at (Walking start)) start next i
    moved i p = (p.0, p.1, inl (elim p.2 [ inl a ↦ kept p.0 a | inr b ↦ rw (b, get_or-set_same marks at (Walking start) Open within) refl ]))

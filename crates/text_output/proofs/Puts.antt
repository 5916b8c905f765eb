-- Text that grows at its end.
use Rattle.std.proofs.Common.{◌≡◌, ℕ, List, [], ◌++◌, refl, sym, ap, subst, ◌∙◌, append_assoc}
use Rattle.std.proofs.lemmas.List.{append-nil}
use Rattle.text_output.specs.Output.{Start, Puts}

infixr 4 ◌▸◌
-- nothing
pub nothing : {S : Type 0} {H : Start → S → List ℕ → Type 0} {a : S} → Puts H a a []
nothing {S} {H} {a} = record { puts = λ start text h. subst (λ (l : List ℕ). H start a l) (sym (append-nil text)) h }

-- one after the other
pub ◌▸◌ : {S : Type 0} {H : Start → S → List ℕ → Type 0} {a b c : S} {s t : List ℕ} → Puts H a b s → Puts H b c t → Puts H a c (s ++ t)
◌▸◌ {S} {H} {a} {b} {c} {s} {t} p q = record { puts = λ start text h. subst (λ (l : List ℕ). H start c l) (append_assoc text s t) (q.puts start (text ++ s) (p.puts start text h)) }

-- A loop: what is put so far and what is left are the whole.
pub record Going {S : Type 0} (H : Start → S → List ℕ → Type 0) (a b : S) (left whole : List ℕ) : Type 0 where
  pub front : List ℕ
  pub put : Puts H a b front
  pub is : front ++ left ≡ whole

pub begins : {S : Type 0} {H : Start → S → List ℕ → Type 0} {a : S} {whole : List ℕ} → Going H a a whole whole
begins = record { front = []; put = nothing; is = refl }

-- a turn puts the first part of what is left
pub goes : {S : Type 0} {H : Start → S → List ℕ → Type 0} {a b c : S} {left whole s : List ℕ} (rest : List ℕ) → Going H a b left whole → left ≡ s ++ rest → Puts H b c s → Going H a c rest whole
goes {s = s} rest g e p = record { front = g.front ++ s; put = g.put ▸ p; is = append_assoc g.front s rest ∙ ap (λ (l : List ℕ). g.front ++ l) (sym e) ∙ g.is }

pub ended : {S : Type 0} {H : Start → S → List ℕ → Type 0} {a b : S} {left whole : List ℕ} → Going H a b left whole → left ≡ [] → Puts H a b whole
ended {S} {H} {a} {b} g e = subst (λ (l : List ℕ). Puts H a b l) (sym (append-nil g.front) ∙ ap (λ (l : List ℕ). g.front ++ l) (sym e) ∙ g.is) g.put

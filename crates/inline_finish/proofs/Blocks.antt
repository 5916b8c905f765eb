-- A function's own blocks in turn.
use Rattle.std.proofs.Common.{◌≡◌, ℕ, List, [], ◌∷◌, ◌++◌, inl, inr, eq-eqb, ne_eqb, refl, sym, ap, ◌∙◌, subst}
use Rattle.std.specs.Prelude.{if◌then◌else◌}
use Rattle.std.proofs.lemmas.Bool.{cases_eq}
use Rattle.ir_core.specs.Edits.{lines_of}
use Rattle.ir_core.specs.Lists.{In, Different}
use Rattle.ir_core.specs.Lookup.{block_numbers}
use Rattle.ir_core.specs.Module.{Block}
use Rattle.inline_body.proofs.Found.{in_middle}
use Rattle.inline_pass.proofs.Going.{move_one}
use Rattle.inline_finish.specs.Midway.{from_block, behind_block, Remaining}

-- the block of the number, with those behind it
pub record Here (bs : List Block) (n : ℕ) : Type 0 where
  pub own : Block
  pub number : own.number ≡ n
  pub lines : lines_of n bs ≡ own.lines
  pub from : from_block n bs ≡ own ∷ behind_block n bs

pub here : (bs : List Block) (n : ℕ) → In n (block_numbers bs) → Here bs n
here [] n i = elim i [ ]
here (b ∷ bs) n i =
    elim (cases_eq b.number n) [
      | inl e ↦
          record {
            own = b;
            number = e;
            lines = ap (λ c. if c then b.lines else lines_of n bs) (eq-eqb b.number n e);
            from = ap (λ c. if c then b ∷ bs else from_block n bs) (eq-eqb b.number n e) ∙ ap (λ c. b ∷ (if c then bs else behind_block n bs)) (sym (eq-eqb b.number n e));
          }
      | inr e ↦
          let t = here bs n (elim i [ inl q ↦ absurd (e (sym q)) | inr q ↦ q ]) in
          record {
            own = t.own;
            number = t.number;
            lines = ap (λ c. if c then b.lines else lines_of n bs) (ne_eqb b.number n e) ∙ t.lines;
            from = ap (λ c. if c then b ∷ bs else from_block n bs) (ne_eqb b.number n e) ∙ (t.from ∙ ap (λ c. t.own ∷ (if c then bs else behind_block n bs)) (sym (ne_eqb b.number n e)));
          }
    ]

-- behind some blocks
from_there : (bs cs : List Block) (b : Block) → Different (block_numbers (bs ++ (b ∷ cs))) → (from_block b.number (bs ++ (b ∷ cs)) ≡ b ∷ cs) × (behind_block b.number (bs ++ (b ∷ cs)) ≡ cs)
from_there [] cs b d = (ap (λ c. if c then b ∷ cs else from_block b.number cs) (eq-eqb b.number b.number refl), ap (λ c. if c then cs else behind_block b.number cs) (eq-eqb b.number b.number refl))
from_there (a ∷ bs) cs b d =
    let off = ne_eqb a.number b.number (λ e. d.0 (subst (λ n. In n (block_numbers (bs ++ (b ∷ cs)))) (sym e) (in_middle bs b cs))) in
    let t = from_there bs cs b d.1 in
    (ap (λ c. if c then a ∷ (bs ++ (b ∷ cs)) else from_block b.number (bs ++ (b ∷ cs))) off ∙ t.0, ap (λ c. if c then bs ++ (b ∷ cs) else behind_block b.number (bs ++ (b ∷ cs))) off ∙ t.1)

-- ---- the loop over their numbers

-- the next block
pub record Next (bs : List Block) (rest : List Block) (n : ℕ) (numbers : List ℕ) : Type 0 where
  pub there : In n (block_numbers bs)
  pub from : from_block n bs ≡ rest
  pub remaining : Remaining bs numbers (behind_block n bs)

pub next : (bs rest : List Block) (ns : List ℕ) (n : ℕ) (numbers : List ℕ) → Different (block_numbers bs) → Remaining bs ns rest → ns ≡ n ∷ numbers → Next bs rest n numbers
next bs [] ns n numbers d r e = let z : [] ≡ n ∷ numbers = r.are ∙ e in absurd cc
next bs (b ∷ rest) ns n numbers d r e =
    let z : b.number ∷ block_numbers rest ≡ n ∷ numbers = r.are ∙ e in
    let first : b.number ≡ n = cc in
    let others : block_numbers rest ≡ numbers = cc in
    let t = from_there r.before rest b (subst (λ xs. Different (block_numbers xs)) r.all d) in
    let from_n : from_block n bs ≡ b ∷ rest = ap (λ k. from_block k bs) (sym first) ∙ (ap (from_block b.number) r.all ∙ t.0) in
    let behind_n : behind_block n bs ≡ rest = ap (λ k. behind_block k bs) (sym first) ∙ (ap (behind_block b.number) r.all ∙ t.1) in
    record {
      there = subst (λ k. In k (block_numbers bs)) first (subst (λ xs. In b.number (block_numbers xs)) (sym r.all) (in_middle r.before b rest));
      from = from_n;
      remaining = subst (Remaining bs numbers) (sym behind_n) (record { before = r.before ++ (b ∷ []); all = r.all ∙ move_one r.before rest b; are = others });
    }

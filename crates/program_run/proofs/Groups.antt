-- Groups of 16 bytes.
use Rattle.std.proofs.Common.{◌≡◌, ℕ, ◌+◌, ◌-◌, ◌≤◌, List, length, take, drop, min, sym, ap, ◌∙◌, inl, inr, arith, length-drop}
use Rattle.std.proofs.lemmas.Bool.{cases_lt}
use Rattle.std.proofs.lemmas.List.{take_all}

-- the last group ends where the memory does
pub group_is : (memory : List ℕ) (a e : ℕ) → a ≤ length memory → e ≡ min (length memory) (a + 16) → take (e - a) (drop a memory) ≡ take 16 (drop a memory)
group_is memory a e within end =
    elim (cases_lt (length memory) (a + 16)) [
      | inl short ↦
          let n : length (drop a memory) ≡ length memory - a = length-drop a memory in
          take_all (e - a) (drop a memory) (omega arith) ∙ sym (take_all 16 (drop a memory) (omega arith))
      | inr long ↦
          let k : e - a ≡ 16 = omega arith in
          ap (λ j. take j (drop a memory)) k
    ]

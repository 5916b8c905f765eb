-- The bytes of slots, after more room and after a write.
use Rattle.std.proofs.Common.{◌≡◌, ℕ, zero, suc, ◌<◌, ◌≤◌, List, [], ◌∷◌, ◌++◌, length, Option, Some, None, get_or, set, refl, arith, if◌then◌else◌, nat_eq, ap, sym, ◌∙◌, ◌&&◌}
use Rattle.std.proofs.Math.Path.{fun_ext}
use Rattle.std.proofs.Math.Dec.{eqb-suc-zero, eqb-zero-suc, eqb-suc-suc}
use Rattle.byte_store.specs.Cells.{cell_of, put_cell, bytes_at}
use Rattle.ir_semantics.specs.Values.{put_byte}

more : (ss : List (List (Option ℕ))) (k o : ℕ) → bytes_at (ss ++ [] ∷ []) k o ≡ bytes_at ss k o
more [] zero o = refl
more [] (suc k) o = refl
more (t ∷ ts) zero o = refl
more (t ∷ ts) (suc k) o = more ts k o

pub more_slots : (ss : List (List (Option ℕ))) → bytes_at (ss ++ [] ∷ []) ≡ bytes_at ss
more_slots ss = fun_ext (λ k. fun_ext (λ o. more ss k o))

pub byte_there : (ss : List (List (Option ℕ))) (k : ℕ) (d : List (Option ℕ)) (o : ℕ) → k < length ss → cell_of (get_or ss k d) o ≡ bytes_at ss k o
byte_there [] k d o h = absurd (omega arith)
byte_there (s ∷ ss) zero d o h = refl
byte_there (s ∷ ss) (suc k) d o h = byte_there ss k d o (omega arith)

pub byte_past : (ss : List (List (Option ℕ))) (k o : ℕ) → length ss ≤ k → None ≡ bytes_at ss k o
byte_past [] k o h = refl
byte_past (s ∷ ss) zero o h = absurd (omega arith)
byte_past (s ∷ ss) (suc k) o h = byte_past ss k o (omega arith)

put_at : (ss : List (List (Option ℕ))) (k : ℕ) (s d : List (Option ℕ)) (o b : ℕ) → k < length ss → ((p : ℕ) → cell_of s p ≡ put_cell (cell_of (get_or ss k d)) o b p) → (j p : ℕ) → bytes_at (set ss k s) j p ≡ put_byte (bytes_at ss) k o b j p
put_at [] k s d o b h e j p = absurd (omega arith)
put_at (t ∷ ts) zero s d o b h e zero p = e p
put_at (t ∷ ts) zero s d o b h e (suc j) p = ap (λ c. if c && nat_eq p o then Some b else bytes_at ts j p) (sym (eqb-suc-zero j))
put_at (t ∷ ts) (suc k) s d o b h e zero p = ap (λ c. if c && nat_eq p o then Some b else cell_of t p) (sym (eqb-zero-suc k))
put_at (t ∷ ts) (suc k) s d o b h e (suc j) p = put_at ts k s d o b (omega arith) e j p ∙ ap (λ c. if c && nat_eq p o then Some b else bytes_at ts j p) (sym (eqb-suc-suc j k))

pub put_slot : (ss : List (List (Option ℕ))) (k : ℕ) (s d : List (Option ℕ)) (o b : ℕ) → k < length ss → cell_of s ≡ put_cell (cell_of (get_or ss k d)) o b → bytes_at (set ss k s) ≡ put_byte (bytes_at ss) k o b
put_slot ss k s d o b h e = fun_ext (λ j. fun_ext (λ p. put_at ss k s d o b h (λ q. ap (λ (f : ℕ → Option ℕ). f q) e) j p))

same_at : (ss : List (List (Option ℕ))) (k : ℕ) (s d : List (Option ℕ)) → k < length ss → ((p : ℕ) → cell_of s p ≡ cell_of (get_or ss k d) p) → (j p : ℕ) → bytes_at (set ss k s) j p ≡ bytes_at ss j p
same_at [] k s d h e j p = absurd (omega arith)
same_at (t ∷ ts) zero s d h e zero p = e p
same_at (t ∷ ts) zero s d h e (suc j) p = refl
same_at (t ∷ ts) (suc k) s d h e zero p = refl
same_at (t ∷ ts) (suc k) s d h e (suc j) p = same_at ts k s d (omega arith) e j p

pub same_slot : (ss : List (List (Option ℕ))) (k : ℕ) (s d : List (Option ℕ)) → k < length ss → cell_of s ≡ cell_of (get_or ss k d) → bytes_at (set ss k s) ≡ bytes_at ss
same_slot ss k s d h e = fun_ext (λ j. fun_ext (λ p. same_at ss k s d h (λ q. ap (λ (f : ℕ → Option ℕ). f q) e) j p))

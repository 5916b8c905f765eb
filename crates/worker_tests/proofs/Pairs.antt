-- Two seats of a board, and what they do and leave.
use Rattle.std.proofs.Common.{◌≡◌, ℕ, zero, suc, ◌<◌, List, [], ◌∷◌, ◌++◌, length, length-append, refl, sym, ap, ◌∙◌, subst, arith}
use lib.ListN.{get_or}
use Rattle.ir_core.specs.Module.{Module}
use Rattle.publish_table.specs.declared.board.Board.{Board}
use Rattle.publish_table.specs.declared.board.Seat.{Seat}
use Rattle.publish_table.specs.declared.view.View.{View}
use Rattle.publish_table.specs.Plays.{with_drawn, with_refusal, IsNew}
use Rattle.worker_driver.specs.Reading.{OnlyRead}
use Rattle.worker_driver.specs.Turns.{IsThroughAs, IsDoneBut, IsNoted}
use Rattle.worker_driver.proofs.Views.{only_drew_by, left_more, done_by_refusal, noted_by_refusal}

-- a seat that draws a ticket and refuses it
pub refused_done : (m : Module) (n : ℕ) (v w x : View) (t : ℕ) → IsDoneBut n v [] → IsNoted m v → w ≡ with_drawn v t → IsNew v t → t < n → x ≡ with_refusal w t
    → IsDoneBut n x [] × IsNoted m x
refused_done m n v w x t but noted drew new low refused =
    let one = only_drew_by n v w t drew new low in
    let left : IsDoneBut n w (t ∷ []) = left_more n v w t [] (t ∷ []) drew new low refl but in
    let none : OnlyRead w w = (refl, refl, refl, refl, refl, λ k c. c) in (
      done_by_refusal m n v w w t [] one left none x refused,
      noted_by_refusal m n v w w t [] one left none noted x refused,
    )

-- a list of two, as it comes apart from its end
pub two_of : (all front rest : List Seat) (o l : Seat) → length all ≡ 2 → all ≡ front ++ l ∷ [] → front ≡ rest ++ o ∷ [] → all ≡ o ∷ l ∷ []
two_of all front [] o l n is more = is ∙ ap (λ (s : List Seat). s ++ l ∷ []) more
two_of all front (x ∷ rest) o l n is more =
    let a = ap length is in let b = length-append front (l ∷ []) in let c = ap length more in let d = length-append rest (o ∷ []) in absurd (omega arith)

pub pair_through : (m : Module) (b : Board) (all : List Seat) (o l o' l' : Seat) → all ≡ o ∷ l ∷ [] → IsThroughAs m b o o' → IsThroughAs m b l l'
    → (i : ℕ) (d : Seat) → i < length all → IsThroughAs m b (get_or all i d) (get_or (o' ∷ l' ∷ []) i d)
pair_through m b all o l o' l' is h g zero d low = subst (λ (s : List Seat). IsThroughAs m b (get_or s 0 d) o') (sym is) h
pair_through m b all o l o' l' is h g (suc zero) d low = subst (λ (s : List Seat). IsThroughAs m b (get_or s 1 d) l') (sym is) g
pair_through m b all o l o' l' is h g (suc (suc i)) d low = let e = ap length is in absurd (omega arith)

use Rattle.std.proofs.Common.{rules, ◌≡◌, ℕ, List, [], ◌∷◌, ◌++◌, length, ap, ◌∙◌, sym}
use Rattle.std.proofs.lemmas.List.{nil_from_length}
use Rattle.worker_driver.proofs.Views.{only_drew_by, only_drew_both, left_more}
use Rattle.worker_driver.proofs.drawing.next_ticket.Goals as goal

pub returns-clause-view : goal.returns-clause-view
returns-clause-view c = let d = c.in_ok-ticket.ensures.some in
    only_drew_both c.args.board.now.count c.args.seat.now.place.me.0 c.draw.new.seat.place.me.0 c.draw_ahead.new.seat.place.me.0
    (only_drew_by c.args.board.now.count c.args.seat.now.place.me.0 c.draw.new.seat.place.me.0 c.in_ok-ticket.ticket d.1 d.2 d.0) c.draw_ahead.ensures.view

pub returns-clause-some : goal.returns-clause-some
returns-clause-some c = let d = c.in_ok-ticket.ensures.some in let t : ℕ = c.in_ok-ticket.ticket in
    let before : List ℕ = c.args.ahead.now.items in let after : List ℕ = c.pop_front.new.self.items in
    let none : length before ≡ 0 = search rules in let still : length after ≡ 0 = search rules in
    c.draw_ahead.ensures.left t (left_more c.args.board.now.count c.args.seat.now.place.me.0 c.draw.new.seat.place.me.0 t before (t ∷ after) d.1 d.2 d.0
    (ap (λ (l : List ℕ). t ∷ l) (nil_from_length after still) ∙ ap (λ (l : List ℕ). l ++ t ∷ []) (sym (nil_from_length before none))) c.requires.left)

use Rattle.std.proofs.Common.{◌≡◌, ◌+◌, ◌∷◌, ◌++◌, [], List, drop, map, ap, sym, ◌∙◌, append_assoc}
use Rattle.std.proofs.lemmas.List.{map_push}
use Rattle.ir_core.specs.Module.{Function}
use Rattle.ir_core.proofs.Gets.{next_left}
use Rattle.ir_text.specs.Numbering.{Numbering, numbering_of, numberings_of}
use Rattle.clif_numbers.specs.Room.{NumbersInRoom}
use Rattle.clif_numbers.proofs.numbers.numbering.Goals as goal

pub loop-i-preserved : goal.loop-i-preserved
loop-i-preserved c =
    let next = next_left c.args.module.now c.loop-i.i c.func.result.now.function c.func.ensures.at in
    let view : NumbersInRoom → Numbering = λ n. n.numbering in
    let before : List Numbering = map view c.loop-i.funcs.items in
    let one : List Numbering = numbering_of c.func.result.now.function ∷ [] in
    let grown : map view c.push.new.self.items ≡ before ++ one =
    ap (map view) c.in_ok-push.ensures.items ∙ map_push view c.loop-i.funcs.items _ ∙ ap (λ (n : Numbering). before ++ n ∷ []) c.in_ok-numbers.ensures in
    ap (λ (l : List Numbering). l ++ numberings_of (drop (c.loop-i.i + 1) c.args.module.now)) grown ∙ append_assoc before one (numberings_of (drop (c.loop-i.i + 1) c.args.module.now))
    ∙ ap (λ (l : List Function). before ++ numberings_of l) (sym next) ∙ c.loop-i.invariant

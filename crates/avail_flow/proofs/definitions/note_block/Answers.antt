use Rattle.std.proofs.Common.{◌≡◌, ℕ, List, ◌+◌, length, map, ap, sym, subst, ◌∙◌, arith}
use Rattle.std.proofs.lemmas.List.{length-map}
use Rattle.ir_core.specs.Lists.{In, Below}
use Rattle.ir_core.specs.Edits.{params_of, lines_of}
use Rattle.ir_core.specs.Viewed.{line_of}
use Rattle.avail_flow.specs.Flow.{exchanged, code, Known}
use Rattle.avail_flow.proofs.Noting.{known_more, known_next}
use Rattle.avail_flow.proofs.Edging.{line_at}
use Rattle.avail_flow.proofs.Defining.{one_each, params_below, results_below, result_here, here_result}
use Rattle.avail_flow.proofs.definitions.note_block.Goals as goal

pub note-requires-clause-inside : goal.note-requires-clause-inside
note-requires-clause-inside c =
    let e : c.params.result.now ≡ params_of (exchanged c.args.first c.args.p) c.args.func.now.function.blocks = c.params.ensures ∙ ap (λ (n : ℕ). params_of n c.args.func.now.function.blocks) (c.new-block.ensures ∙ c.exchange.ensures) in
    subst (λ (z : List ℕ). Below (length c.args.home.now) z) (sym e)
    (subst (λ (n : ℕ). Below n (params_of (exchanged c.args.first c.args.p) c.args.func.now.function.blocks)) (sym c.requires.sizes.0) (params_below c.args.func.now.function c.requires.sound (exchanged c.args.first c.args.p) c.requires.there))

pub loop-i-init : goal.loop-i-init
loop-i-init c =
    let e : c.params.result.now ≡ params_of (exchanged c.args.first c.args.p) c.args.func.now.function.blocks = c.params.ensures ∙ ap (λ (n : ℕ). params_of n c.args.func.now.function.blocks) (c.new-block.ensures ∙ c.exchange.ensures) in
    known_more (code c.args.first c.args.func.now.function.blocks) (one_each c.args.first c.args.func.now.function.blocks c.requires.sound.defined_once) c.args.p 0 c.params.result.now c.args.home.now c.args.place.now c.note.new.home c.note.new.place
    (λ v i. subst (λ (z : List ℕ). In v z) e i) (λ v i. subst (λ (z : List ℕ). In v z) (sym e) i) c.requires.known c.note.ensures.noted c.note.ensures.others

pub note-requires-in-loop-i-clause-inside : goal.note-requires-in-loop-i-clause-inside
note-requires-in-loop-i-clause-inside c =
    let n : length c.loop-i.home ≡ length c.args.func.now.function.types = (let a = c.requires.sizes.0 in omega arith) in
    subst (λ (z : List ℕ). Below (length c.loop-i.home) z) (sym c.as_slice.ensures)
    (subst (λ (k : ℕ). Below k c.added-item.result.results) (sym n) (results_below c.args.func.now.function c.requires.sound (exchanged c.args.first c.args.p) c.requires.there c.loop-i.i (line_of c.added-item.result) (line_at c.inst_slice-added-items.result.now (lines_of (exchanged c.args.first c.args.p) c.args.func.now.function.blocks) c.loop-i.i c.added-item.result
    (c.inst_slice-added-items.ensures ∙ ap (λ (n : ℕ). lines_of n c.args.func.now.function.blocks) (c.new-block.ensures ∙ c.exchange.ensures)) c.loop-i-test.true c.added-item.is)))

pub loop-i-preserved : goal.loop-i-preserved
loop-i-preserved c =
    let at = line_at c.inst_slice-added-items.result.now (lines_of (exchanged c.args.first c.args.p) c.args.func.now.function.blocks) c.loop-i.i c.added-item.result
    (c.inst_slice-added-items.ensures ∙ ap (λ (n : ℕ). lines_of n c.args.func.now.function.blocks) (c.new-block.ensures ∙ c.exchange.ensures)) c.loop-i-test.true c.added-item.is in
    known_more (code c.args.first c.args.func.now.function.blocks) (one_each c.args.first c.args.func.now.function.blocks c.requires.sound.defined_once) c.args.p (c.loop-i.i + 1) c.as_slice.result.now c.loop-i.home c.loop-i.place c.note-in-loop-i.new.home c.note-in-loop-i.new.place
    (λ v i. result_here (code c.args.first c.args.func.now.function.blocks) c.args.p c.loop-i.i (line_of c.added-item.result) at v (subst (λ (z : List ℕ). In v z) c.as_slice.ensures i))
    (λ v d. subst (λ (z : List ℕ). In v z) (sym c.as_slice.ensures) (here_result (code c.args.first c.args.func.now.function.blocks) c.args.p c.loop-i.i (line_of c.added-item.result) at v d))
    c.loop-i.invariant c.note-in-loop-i.ensures.noted c.note-in-loop-i.ensures.others

pub returns : goal.returns
returns c =
    let e : map line_of c.inst_slice-added-items.result.now ≡ lines_of (exchanged c.args.first c.args.p) c.args.func.now.function.blocks = c.inst_slice-added-items.ensures ∙ ap (λ (n : ℕ). lines_of n c.args.func.now.function.blocks) (c.new-block.ensures ∙ c.exchange.ensures) in
    let n : length (lines_of (exchanged c.args.first c.args.p) c.args.func.now.function.blocks) ≡ length c.inst_slice-added-items.result.now = sym (ap length e) ∙ length-map c.inst_slice-added-items.result.now line_of in
    let q : c.loop-i.i + 1 ≡ length (lines_of (exchanged c.args.first c.args.p) c.args.func.now.function.blocks) + 1 = omega arith in
    known_next (code c.args.first c.args.func.now.function.blocks) c.args.p c.loop-i.home c.loop-i.place
    (subst (λ (k : ℕ). Known (code c.args.first c.args.func.now.function.blocks) c.loop-i.home c.loop-i.place c.args.p k) q c.loop-i.invariant)

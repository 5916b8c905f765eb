use Rattle.std.proofs.Common.{◌≡◌, ◌++◌, [], ◌∷◌, length, map, None, sym, ap, ap₂, subst, ◌∙◌}
use Rattle.ir_core.specs.Lookup.{block_numbers}
use Rattle.ir_core.specs.Lists.{In}
use Rattle.ir_core.specs.Layout.{function_of, block_at, blocks_in, order, last_of}
use Rattle.ir_core.specs.Edits.{insert_after}
use Rattle.ir_core.proofs.Keeping.{with_blocks}
use Rattle.ir_core.proofs.Laying.{names_blocks}
use Rattle.ir_core.proofs.Order.{last_in}
use Rattle.ir_core.proofs.Walking.{insert_last, none_last}
use Rattle.ir_core.proofs.func.Func.add_block.Goals.{in-Some, in-None}
use Rattle.ir_core.proofs.func.Func.add_block.Goals as goal

pub insert_block-requires-clause-there : goal.insert_block-requires-clause-there
insert_block-requires-clause-there c =
    subst (λ z. In c.in-Some.last (block_numbers (blocks_in c.self.inside.insts.items z c.self.inside.first))) (sym c.in_ok-reserve.ensures.items)
    (subst (In c.in-Some.last) (sym (names_blocks c.self.inside.insts.items c.self.inside.blocks.items (order c.self.inside.blocks.items c.self.inside.first)))
    (last_in (order c.self.inside.blocks.items c.self.inside.first) c.in-Some.last (sym c.self.invariant.laid.ends ∙ c.in-Some.is)))

pub begin-requires-clause-none : goal.begin-requires-clause-none
begin-requires-clause-none c =
    ap (λ z. blocks_in c.self.inside.insts.items z c.self.inside.first) c.in_ok-reserve.ensures.items
    ∙ ap (map (block_at c.self.inside.insts.items c.self.inside.blocks.items)) (none_last (order c.self.inside.blocks.items c.self.inside.first) (sym c.self.invariant.laid.ends ∙ c.in-None.is))

none : (c : goal.Joined-self) → c.self.inside.last ≡ None → c.args.self.now.function.blocks ≡ []
none c e =
    ap (λ z. z.function.blocks) (sym c.self.view_is)
    ∙ ap (map (block_at c.self.inside.insts.items c.self.inside.blocks.items)) (none_last (order c.self.inside.blocks.items c.self.inside.first) (sym c.self.invariant.laid.ends ∙ e))

pub returns-clause-number : goal.returns-clause-number
returns-clause-number c =
    elim c.match-self.branch [
      | in-Some w ↦ w.result-is ∙ (w.insert_block.ensures.number ∙ (ap (λ z. length (blocks_in c.self.inside.insts.items z c.self.inside.first)) c.in_ok-reserve.ensures.items ∙ ap (λ z. length z.function.blocks) c.self.view_is))
      | in-None w ↦ w.result-is ∙ (w.begin.ensures.number ∙ sym (ap length (none c w.in-None.is)))
    ]

pub returns-clause-ok : goal.returns-clause-ok
returns-clause-ok c =
    elim c.match-self.branch [
      | in-Some w ↦
          ap (λ z. z.function) w.self-is
          ∙ (w.insert_block.ensures.body
          ∙ (ap₂ (λ l p. with_blocks (function_of c.self.inside) (insert_after w.in-Some.last (record { number = w.insert_block.result; params = p; lines = [] }) (blocks_in c.self.inside.insts.items l c.self.inside.first))) c.in_ok-reserve.ensures.items (w.none.ensures)
          ∙ (ap (with_blocks (function_of c.self.inside)) (insert_last w.in-Some.last (record { number = w.insert_block.result; params = []; lines = [] }) (function_of c.self.inside).blocks (ap last_of (names_blocks c.self.inside.insts.items c.self.inside.blocks.items (order c.self.inside.blocks.items c.self.inside.first)) ∙ (sym c.self.invariant.laid.ends ∙ w.in-Some.is)) c.self.invariant.sound.blocks_differ)
          ∙ (ap (λ z. with_blocks z.function (z.function.blocks ++ (record { number = w.insert_block.result; params = []; lines = [] } ∷ []))) c.self.view_is
          ∙ ap (λ n. with_blocks c.args.self.now.function (c.args.self.now.function.blocks ++ (record { number = n; params = []; lines = [] } ∷ []))) (sym w.result-is)))))
      | in-None w ↦
          ap (λ z. z.function) w.self-is
          ∙ (w.begin.ensures.body
          ∙ (ap (λ z. with_blocks z.function (record { number = 0; params = []; lines = [] } ∷ [])) c.self.view_is
          ∙ ap₂ (λ n bs. with_blocks c.args.self.now.function (bs ++ (record { number = n; params = []; lines = [] } ∷ []))) (sym (w.result-is ∙ w.begin.ensures.number)) (sym (none c w.in-None.is))))
    ]

use Rattle.std.proofs.Common.{arith, ◌≡◌, ◌+◌, ◌-◌, ◌≤◌, length, map, take, drop, sym, ap, ◌∙◌}
use Rattle.ir_core.specs.Edits.{lines_of}
use Rattle.ir_core.specs.Viewed.{line_of}
use Rattle.ir_core.proofs.Changing.{found, below, named, inside_arena, lines_seen}
use Rattle.ir_core.proofs.func.Func.inst_slice.Goals as goal

pub index-entry-requires : goal.index-entry-requires
index-entry-requires c = omega (arith, below c.self.inside c.args.self.now c.number.result c.self.invariant c.self.view_is (named c.args.self.now c.number.result c.args.block c.number.ensures c.requires), c.self.inside.blocks.ok.0)

inside : (c : goal.After-deref) → c.index-entry.result.now.start + c.index-entry.result.now.len ≤ length c.self.inside.insts.items
inside c = inside_arena c.self.inside c.args.self.now c.number.result c.index-entry.result.now c.self.invariant c.self.view_is (named c.args.self.now c.number.result c.args.block c.number.ensures c.requires) c.index-entry.ensures

pub overflow_add-result : goal.overflow_add-result
overflow_add-result c = omega (arith, inside c, c.deref.type_inv.0, c.deref.ensures.len, c.self.inside.insts.ok.0)

pub offset_bounds-deref-entry : goal.offset_bounds-deref-entry
offset_bounds-deref-entry c = omega (arith, inside c, c.deref.type_inv.1, c.deref.ensures.len, c.self.inside.insts.ok.0)

pub slice_bounds-result-end : goal.slice_bounds-result-end
slice_bounds-result-end c = let e : c.index-entry.result.now.start + c.index-entry.result.now.len ≤ length c.deref.result.now = omega (arith, inside c, c.self.inside.insts.ok.0, c.deref.ensures.len) in e

pub returns : goal.returns
returns c =
    let there = named c.args.self.now c.number.result c.args.block c.number.ensures c.requires in
    let n : c.index-entry.result.now.start + c.index-entry.result.now.len - c.index-entry.result.now.start ≡ c.index-entry.result.now.len = omega arith in
    ap (λ m. map line_of (take m (drop c.index-entry.result.now.start c.deref.result.now))) n
    ∙ (ap (λ l. map line_of (take c.index-entry.result.now.len (drop c.index-entry.result.now.start l))) c.deref.ensures.value
    ∙ (sym (lines_seen c.self.inside c.args.self.now c.number.result c.index-entry.result.now c.self.invariant c.self.view_is there (found c.self.inside c.args.self.now c.number.result c.index-entry.result.now c.self.invariant c.self.view_is there c.index-entry.ensures))
    ∙ ap (λ z. lines_of z c.args.self.now.function.blocks) c.number.ensures))

use Rattle.std.proofs.Common.{List, ◌++◌, length, refl, sym, ap, subst, ◌∙◌}
use Rattle.std.specs.Prelude.{flat_map, Some}
use Rattle.ir_core.specs.Edits.{at_block, put_line}
use Rattle.ir_core.specs.Lists.{In}
use Rattle.ir_core.specs.Lookup.{block_numbers, definitions}
use Rattle.ir_core.specs.Module.{Function}
use Rattle.ir_core.specs.Sound.{CanAdd, counts_of, instruction_count, LineInRange}
use Rattle.ir_core.specs.Viewed as viewed
use Rattle.clif_read.specs.declared.raw.RawLine.{RawLine}
use Rattle.clif_read.specs.declared.raw.RawLine.TheVariants as line
use Rattle.clif_read.specs.declared.raw.RawTag.{RawTag}
use Rattle.clif_names.specs.Limits.{operand_limits, tag_limits, target_limits}
use Rattle.name_tables.specs.Uses.{operand_targets}
use Rattle.clif_lines.specs.Keeping.{AllKeep}
use Rattle.clif_lines.specs.WordRenaming.{renaming}
use Rattle.clif_resolve.proofs.FillingLaws.{added_is, line_differs, line_few, line_fresh, line_keeps, line_ranges, line_step, none_step, read_item, stands, typed_by}
use Rattle.clif_resolve.proofs.filling.Filling.add_line.Goals as goal

pub line-requires : goal.line-requires
line-requires c =
    let here = read_item c.as_slice.result.now c.args.block.now.lines c.args.index c.index-as_slice-index.result c.as_slice.ensures c.requires.there c.index-as_slice-index.is ∙ ap (λ (l : RawLine). Some l) c.in-Inst.is in
    subst (λ (ts : List RawTag). AllKeep (flat_map tag_limits ts ++ operand_limits c.in-Inst.inst.suffix c.in-Inst.inst.operands ++ flat_map target_limits (operand_targets c.in-Inst.inst.operands))) (sym c.as_slice-tags.ensures)
    (line_keeps c.args.self.now.raw.now (renaming c.args.self.now.words.now) c.requires.ready c.args.number c.args.block.now c.requires.at c.args.index
    (line.Inst c.in-Inst.location c.in-Inst.tags c.in-Inst.results c.in-Inst.inst) here)

pub add_inst-requires : goal.add_inst-requires
add_inst-requires c =
    let raw = c.args.self.now.raw.now in
    let at = renaming c.args.self.now.words.now in
    let b = c.args.block.now in
    let l = line.Inst c.in-Inst.location c.in-Inst.tags c.in-Inst.results c.in-Inst.inst in
    let x = viewed.line_of c.in_ok-added-in-Inst.added in
    let here = read_item c.as_slice.result.now c.args.block.now.lines c.args.index c.index-as_slice-index.result c.as_slice.ensures c.requires.there c.index-as_slice-index.is ∙ ap (λ (l : RawLine). Some l) c.in-Inst.is in
    let typed = typed_by raw at c.args.number (length c.args.block.now.params) c.args.index c.in-Inst.inst c.args.func.now.function c.find_inst_type-ty.result c.requires.before c.find_inst_type-ty.ensures in
    let is = added_is raw at c.requires.ready c.in-Inst.location c.in-Inst.tags c.as_slice-tags.result.now c.in-Inst.results c.as_slice-in-Inst.result.now c.in-Inst.inst c.find_inst_type-ty.result x
    c.as_slice-tags.ensures c.as_slice-in-Inst.ensures typed c.in_ok-added-in-Inst.ensures in
    record {
      there = subst (λ (f : Function). In c.args.number (block_numbers f.blocks)) (sym c.requires.before) (stands raw at c.args.number b c.requires.at (length b.params) c.args.index);
      in_range = subst (λ (f : Function). LineInRange (counts_of f) x) (sym c.requires.before) (line_ranges raw at c.args.number b c.requires.at c.requires.ready c.args.index l here x is);
      different = line_differs raw at c.args.number b c.requires.at c.requires.ready c.args.index l here x is;
      undefined = λ v i j. line_fresh raw at c.args.number b c.requires.at c.requires.ready c.args.index l here x is v i (subst (λ (f : Function). In v (definitions f.blocks)) c.requires.before j);
      few = subst (λ (f : Function). CanAdd (instruction_count f.blocks)) (sym c.requires.before) (line_few raw at c.args.number b c.requires.at c.requires.ready c.args.index l here x is);
    }

pub returns-in-Alias : goal.returns-in-Alias
returns-in-Alias c =
    let here = read_item c.as_slice.result.now c.args.block.now.lines c.args.index c.index-as_slice-index.result c.as_slice.ensures c.requires.there c.index-as_slice-index.is ∙ ap (λ (l : RawLine). Some l) c.in-Alias.is in
    c.requires.before
    ∙ none_step c.args.self.now.raw.now (renaming c.args.self.now.words.now) c.args.number c.args.block.now c.requires.at c.requires.ready c.args.index
    (line.Alias c.in-Alias.location c.in-Alias.alias c.in-Alias.value) here refl

pub returns-in_ok-add_inst-in-Inst : goal.returns-in_ok-add_inst-in-Inst
returns-in_ok-add_inst-in-Inst c =
    let raw = c.args.self.now.raw.now in
    let at = renaming c.args.self.now.words.now in
    let x = viewed.line_of c.in_ok-added-in-Inst.added in
    let here = read_item c.as_slice.result.now c.args.block.now.lines c.args.index c.index-as_slice-index.result c.as_slice.ensures c.requires.there c.index-as_slice-index.is ∙ ap (λ (l : RawLine). Some l) c.in-Inst.is in
    let typed = typed_by raw at c.args.number (length c.args.block.now.params) c.args.index c.in-Inst.inst c.args.func.now.function c.find_inst_type-ty.result c.requires.before c.find_inst_type-ty.ensures in
    let is = added_is raw at c.requires.ready c.in-Inst.location c.in-Inst.tags c.as_slice-tags.result.now c.in-Inst.results c.as_slice-in-Inst.result.now c.in-Inst.inst c.find_inst_type-ty.result x
    c.as_slice-tags.ensures c.as_slice-in-Inst.ensures typed c.in_ok-added-in-Inst.ensures in
    c.in_ok-add_inst-in-Inst.ensures.ok
    ∙ ap (λ (f : Function). record f { blocks = at_block c.args.number (put_line x) f.blocks }) c.requires.before
    ∙ line_step raw at c.args.number c.args.block.now c.requires.at c.requires.ready c.args.index (line.Inst c.in-Inst.location c.in-Inst.tags c.in-Inst.results c.in-Inst.inst) here x is

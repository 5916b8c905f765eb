use Rattle.std.proofs.Common.{◌≡◌, ℕ, length, sym, ap, subst, ◌∙◌, arith}
use Rattle.std.specs.Prelude.{slice_get, Some}
use Rattle.clif_lines.specs.WordRenaming.{renaming}
use Rattle.clif_resolve.specs.Filling.{opened}
use Rattle.clif_resolve.proofs.FillingLaws.{opened_begins, opened_ends, read_item}
use Rattle.clif_resolve.proofs.filling.Filling.fill_block.Goals as goal

pub add_params-requires-clause-before : goal.add_params-requires-clause-before
add_params-requires-clause-before c =
    let raw = c.args.self.now.raw.now in
    let at = renaming c.args.self.now.words.now in
    let here = read_item c.as_slice.result.now c.args.self.now.raw.now.blocks c.args.place c.index-as_slice-place.result c.as_slice.ensures c.requires.there c.index-as_slice-place.is in
    let e : c.new-number.result ≡ c.args.place = omega arith in
    c.requires.before ∙ sym (opened_begins raw at c.args.place c.index-as_slice-place.result here) ∙ ap (λ (n : ℕ). opened raw at n 0 0) (sym e)

pub add_lines-requires-clause-at : goal.add_lines-requires-clause-at
add_lines-requires-clause-at c =
    let here = read_item c.as_slice.result.now c.args.self.now.raw.now.blocks c.args.place c.index-as_slice-place.result c.as_slice.ensures c.requires.there c.index-as_slice-place.is in
    let e : c.new-number.result ≡ c.args.place = omega arith in
    subst (λ (n : ℕ). slice_get c.args.self.now.raw.now.blocks n ≡ Some c.index-as_slice-place.result) (sym e) here

pub returns : goal.returns
returns c =
    let raw = c.args.self.now.raw.now in
    let at = renaming c.args.self.now.words.now in
    let here = read_item c.as_slice.result.now c.args.self.now.raw.now.blocks c.args.place c.index-as_slice-place.result c.as_slice.ensures c.requires.there c.index-as_slice-place.is in
    let e : c.new-number.result ≡ c.args.place = omega arith in
    c.in_ok-add_lines.ensures
    ∙ ap (λ (n : ℕ). opened raw at n (length c.index-as_slice-place.result.params) (length c.index-as_slice-place.result.lines)) e
    ∙ opened_ends raw at c.args.place c.index-as_slice-place.result here

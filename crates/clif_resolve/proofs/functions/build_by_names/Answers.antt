use Rattle.std.proofs.Common.{List, [], ◌∷◌, ◌++◌, length, ap, ◌∙◌}
use Rattle.std.specs.Prelude.{flat_map}
use Rattle.clif_read.specs.declared.raw.RawDecl.{RawDecl}
use Rattle.clif_lines.specs.WordNumbers.{sig_numbers}
use Rattle.clif_resolve.specs.Parts.{own_sigs}
use Rattle.clif_resolve.proofs.NameLaws.{values_are, words_are, words_small}
use Rattle.clif_resolve.proofs.functions.build_by_names.Goals as goal

pub invariant_of-words : goal.invariant_of-words
invariant_of-words c = record {
  small = words_small c.args.raw.now c.args.names.now c.requires.free c.requires.names _
      (c.in_ok-list.ensures.numbers ∙ ap (λ (ds : List RawDecl). sig_numbers 0 ds ++ length (flat_map own_sigs ds) ∷ []) c.as_slice.ensures) c.requires.begins;
}

pub build_by_words-requires-clause-words : goal.build_by_words-requires-clause-words
build_by_words-requires-clause-words c =
    words_are c.args.raw.now c.args.names.now c.requires.free c.requires.names _
    (c.in_ok-list.ensures.numbers ∙ ap (λ (ds : List RawDecl). sig_numbers 0 ds ++ length (flat_map own_sigs ds) ∷ []) c.as_slice.ensures)

pub build_by_words-requires-clause-numbering : goal.build_by_words-requires-clause-numbering
build_by_words-requires-clause-numbering c =
    values_are c.args.raw.now c.args.names.now c.requires.free c.requires.names _
    (c.in_ok-list.ensures.numbers ∙ ap (λ (ds : List RawDecl). sig_numbers 0 ds ++ length (flat_map own_sigs ds) ∷ []) c.as_slice.ensures)

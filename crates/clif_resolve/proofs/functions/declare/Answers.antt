use Rattle.std.proofs.Common.{◌<◌, ◌^◌, List, length, sym, ap, subst, ◌∙◌}
use Rattle.std.specs.Prelude.{flat_map}
use Rattle.ir_core.specs.Module.{Function}
use Rattle.clif_read.specs.declared.raw.RawDecl.{RawDecl}
use Rattle.clif_names.specs.Limits.{decl_limits}
use Rattle.clif_lines.specs.Keeping.{AllKeep}
use Rattle.clif_lines.specs.WordRenaming.{renaming}
use Rattle.clif_meaning.specs.Meaning.{callees_from, decl_sigs, decl_slots}
use Rattle.clif_resolve.proofs.DeclaredLaws.{declared_by, few_by}
use Rattle.clif_meaning.proofs.LimitLaws.{decls_kept}
use Rattle.clif_resolve.proofs.ReadyLaws.{few_sigs}
use Rattle.clif_resolve.proofs.functions.declare.Goals as goal

pub slots-requires : goal.slots-requires
slots-requires c = subst (λ (ds : List RawDecl). AllKeep (flat_map decl_limits ds)) (sym c.as_slice-decls.ensures) (decls_kept c.args.raw.now c.requires.free)

pub callees-requires-clause-limits : goal.callees-requires-clause-limits
callees-requires-clause-limits c = subst (λ (ds : List RawDecl). AllKeep (flat_map decl_limits ds)) (sym c.as_slice-decls.ensures) (decls_kept c.args.raw.now c.requires.free)

pub callees-requires-clause-few : goal.callees-requires-clause-few
callees-requires-clause-few c = subst (λ (ds : List RawDecl). length (flat_map decl_sigs ds) < 2 ^ 32) (sym c.as_slice-decls.ensures) (few_sigs c.args.raw.now c.requires.free)

pub take_declarations-requires-clause-no_slots : goal.take_declarations-requires-clause-no_slots
take_declarations-requires-clause-no_slots c = ap (λ (f : Function). f.slots) c.requires.undeclared

pub take_declarations-requires-clause-no_sigs : goal.take_declarations-requires-clause-no_sigs
take_declarations-requires-clause-no_sigs c = ap (λ (f : Function). f.sigs) c.requires.undeclared

pub take_declarations-requires-clause-no_callees : goal.take_declarations-requires-clause-no_callees
take_declarations-requires-clause-no_callees c = ap (λ (f : Function). f.callees) c.requires.undeclared

pub take_declarations-requires-clause-few_slots : goal.take_declarations-requires-clause-few_slots
take_declarations-requires-clause-few_slots c =
    (few_by c.args.raw.now (renaming c.args.words.now) c.requires.words _ _ _
    (c.in_ok-slots.ensures ∙ ap (λ (ds : List RawDecl). flat_map decl_slots ds) c.as_slice-decls.ensures) c.requires.sigs
    (c.in_ok-callees.ensures ∙ ap (λ (ds : List RawDecl). callees_from (renaming c.args.words.now).sig 0 ds) c.as_slice-decls.ensures) c.requires.free).slots

pub take_declarations-requires-clause-few_sigs : goal.take_declarations-requires-clause-few_sigs
take_declarations-requires-clause-few_sigs c =
    (few_by c.args.raw.now (renaming c.args.words.now) c.requires.words _ _ _
    (c.in_ok-slots.ensures ∙ ap (λ (ds : List RawDecl). flat_map decl_slots ds) c.as_slice-decls.ensures) c.requires.sigs
    (c.in_ok-callees.ensures ∙ ap (λ (ds : List RawDecl). callees_from (renaming c.args.words.now).sig 0 ds) c.as_slice-decls.ensures) c.requires.free).sigs

pub take_declarations-requires-clause-few_callees : goal.take_declarations-requires-clause-few_callees
take_declarations-requires-clause-few_callees c =
    (few_by c.args.raw.now (renaming c.args.words.now) c.requires.words _ _ _
    (c.in_ok-slots.ensures ∙ ap (λ (ds : List RawDecl). flat_map decl_slots ds) c.as_slice-decls.ensures) c.requires.sigs
    (c.in_ok-callees.ensures ∙ ap (λ (ds : List RawDecl). callees_from (renaming c.args.words.now).sig 0 ds) c.as_slice-decls.ensures) c.requires.free).callees

pub take_declarations-requires-clause-in_range : goal.take_declarations-requires-clause-in_range
take_declarations-requires-clause-in_range c =
    (few_by c.args.raw.now (renaming c.args.words.now) c.requires.words _ _ _
    (c.in_ok-slots.ensures ∙ ap (λ (ds : List RawDecl). flat_map decl_slots ds) c.as_slice-decls.ensures) c.requires.sigs
    (c.in_ok-callees.ensures ∙ ap (λ (ds : List RawDecl). callees_from (renaming c.args.words.now).sig 0 ds) c.as_slice-decls.ensures) c.requires.free).in_range

pub returns : goal.returns
returns c =
    declared_by c.args.raw.now (renaming c.args.words.now) c.requires.words _ _ _
    (c.in_ok-slots.ensures ∙ ap (λ (ds : List RawDecl). flat_map decl_slots ds) c.as_slice-decls.ensures) c.requires.sigs
    (c.in_ok-callees.ensures ∙ ap (λ (ds : List RawDecl). callees_from (renaming c.args.words.now).sig 0 ds) c.as_slice-decls.ensures)
    _ _ c.requires.undeclared c.take_declarations.ensures

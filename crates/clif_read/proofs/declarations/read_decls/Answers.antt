use Rattle.std.proofs.Common.{List, [], length, sym, ◌∙◌, arith}
use Rattle.std.proofs.lemmas.Result.{err_from_is_err_and}
use Rattle.clif_words.specs.Terminals.{codes_of}
use Rattle.clif_read.specs.declared.raw.RawDecl.{RawDecl}
use Rattle.token_reader.specs.Reading.{each, with_front}
use Rattle.token_reader.proofs.Loops.{is_done}
use Rattle.clif_read.specs.Declarations.{begins_decl, decl_at, decls_at}
use Rattle.clif_read.proofs.DeclLoop.{goes_on, fails}
use Rattle.clif_read.proofs.declarations.read_decls.Goals as goal

pub list-preserved : goal.list-preserved
list-preserved c =
    (goes_on c.list.list.items _ c.list.reader c.add_decl.new.reader (with_front (let none : List RawDecl = [] in none) (each decl_at (codes_of begins_decl) (length c.args.reader.now) c.args.reader.now)) (sym c.begins_decl.ensures ∙ c.list-test.true) c.in_ok-add_decl.ensures.is c.in_ok-add_decl.ensures.shorter c.list.invariant.0, omega (arith, c.in_ok-add_decl.ensures.shorter, c.list.invariant.1))

pub returns-in_err-add_decl-clause-is : goal.returns-in_err-add_decl-clause-is
unfolding decls_at
returns-in_err-add_decl-clause-is c =
    let p = err_from_is_err_and c.from_residual.result c.from_residual.ensures.1 in
    rw (p.1, p.2) (fails c.list.list.items c.list.reader c.add_decl.new.reader c.in_err-add_decl.field-0.0 (with_front (let none : List RawDecl = [] in none) (each decl_at (codes_of begins_decl) (length c.args.reader.now) c.args.reader.now)) (sym c.begins_decl.ensures ∙ c.list-test.true) c.in_err-add_decl.ensures.is c.list.invariant.0)

pub returns-clause-is : goal.returns-clause-is
unfolding decls_at
returns-clause-is c = is_done decl_at (codes_of begins_decl) c.list.list.items c.list.reader (with_front (let none : List RawDecl = [] in none) (each decl_at (codes_of begins_decl) (length c.args.reader.now) c.args.reader.now)) (sym c.begins_decl.ensures ∙ c.list-test.false) c.list.invariant.0

use Rattle.std.proofs.Common.{List, [], ◌≤◌, length}
use Rattle.clif_words.specs.Terminals.{codes_of}
use Rattle.clif_read.specs.declared.raw.RawDecl.{RawDecl}
use Rattle.token_reader.specs.Reading.{each, with_front}
use Rattle.clif_read.specs.Declarations.{begins_decl, decl_at}
use Rattle.clif_read.proofs.DeclLoop.{KeepsDecls}
use Rattle.clif_read.proofs.declarations.read_decls.Given as goal

abbrev pub invariant-list : goal.invariant-list
invariant-list l = KeepsDecls l.list.items l.reader (with_front (let none : List RawDecl = [] in none) (each decl_at (codes_of begins_decl) (length l.fn.reader) l.fn.reader))
    × (length l.reader ≤ length l.fn.reader)

abbrev pub decreases-list : goal.decreases-list
decreases-list l = length l.reader

-- What is taken from a raw function part by part.
use Rattle.std.specs.Prelude.{List, map}
use Rattle.ir_core.specs.declared.signatures.Sig.{Sig}
use Rattle.clif_read.specs.declared.raw.RawDecl.{RawDecl}
use Rattle.clif_meaning.specs.Meaning.{decl_sigs}

-- the signatures that a declaration has
abbrev pub own_sigs : RawDecl → List Sig
own_sigs d = map (λ s. s.1) (decl_sigs d)

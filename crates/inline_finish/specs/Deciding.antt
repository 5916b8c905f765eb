-- Whether a policy takes a body at a call.
use Rattle.std.specs.Prelude.{◌≡◌, Option, Some, None, true, false}
use Rattle.ir_core.specs.declared.places.Point.{Point}
use Rattle.ir_core.specs.Module.{Line, Function}
use Rattle.ir_core.specs.Size.{size_of}
use Rattle.ir_semantics.specs.Splice.{Naming, spliced}
use Rattle.body_import.specs.Imports.{IsImportOf}
use Rattle.inline_body.specs.PlainCall.{splicing_at}
use Rattle.inline_pass.specs.Policy.{Policy, takes}
use Rattle.splice_size.specs.Laws.{Sited}
use Rattle.inline_finish.specs.declared.deciding.Taken.{Taken}

-- the size of a splice there can be told, whatever numbers it gives
abbrev pub IsSite : Function → Function → Point → Line → Type 0
IsSite f g at l = (n : Naming) → Sited (splicing_at n f g at l)

-- the body is not taken, or it is, and this is what comes in
abbrev pub IsDecided : Policy → Function → Function → Point → Line → Option Taken → Type 0
IsDecided p f g at l None = (n : Naming) → takes p g (spliced (splicing_at n f g at l)) ≡ false
IsDecided p f g at l (Some t) =
    ((n : Naming) → takes p g (spliced (splicing_at n f g at l)) ≡ true) × IsImportOf f g t.import
    × ((n : Naming) → t.size ≡ size_of (spliced (splicing_at n f g at l)))

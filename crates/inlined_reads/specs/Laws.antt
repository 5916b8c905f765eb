-- What `inline` makes of an accepted text: the canonical text of the finished bodies of all its functions.
use Rattle.std.specs.Prelude.{◌≡◌, ◌≤◌, ℕ, List}
use Rattle.ir_core.specs.Module.{Module}
use Rattle.ir_semantics.specs.Accepted.{Accepted}
use Rattle.ir_semantics.specs.Canon.{canonical_module, SameUpToNumbering}
use Rattle.ir_semantics.specs.Same.{Same}
use Rattle.ir_text.specs.Text.{text_of}
use Rattle.clif_meaning.specs.Reads.{Reads}
use Rattle.inline_pass.specs.Policy.{Policy}
use Rattle.inline_pass.specs.Finished.{passed}

-- the text of a module's finished bodies
abbrev pub inlined_text : Policy → Module → List ℕ
inlined_text p m = text_of (passed p m)

-- that text reads as the finished bodies under canonical numbers and as nothing else; what it reads as is accepted; and
-- for every entry call, host script and memory whose run reads no unwritten byte of a slot, the outcomes over all step
-- bounds are those of the module, as they are for the finished bodies themselves
pub record IsKept (p : Policy) (m : Module) : Type 0 where
  pub reads : Reads (inlined_text p m) (canonical_module (passed p m))
  pub nothing_else : (n : Module) → Reads (inlined_text p m) n → n ≡ canonical_module (passed p m)
  pub accepted : Accepted (canonical_module (passed p m))
  pub same : Same m (passed p m)
  pub read_same : Same m (canonical_module (passed p m))

-- for every accepted text and every policy whose caller size is within the limit of a text
abbrev pub InlinedIsKept : Type 0
InlinedIsKept =
    (p : Policy) → p.caller_size ≤ 262144 → (text : List ℕ) (m : Module) → Reads text m → Accepted m → IsKept p m

-- finished bodies under other numbers have the same text
abbrev pub InlinedTextIsOne : Type 0
InlinedTextIsOne = (p : Policy) (m r : Module) → SameUpToNumbering (passed p m) r → text_of r ≡ inlined_text p m

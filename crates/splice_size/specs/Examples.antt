-- Worked sizes: of a plain call with tags whose callee calls, of one whose callee ends in a tail call, and of a
-- `try_call` whose callee has calls of each kind.
use Rattle.std.specs.Prelude.{◌≡◌, ℕ, List, [], ◌∷◌}
use Rattle.debug_tags.specs.declared.tags.Tag.{Tag}
use Rattle.debug_tags.specs.declared.tags.Tag.TheVariants as tag
use Rattle.ir_core.specs.declared.declarations.Callee.{Callee}
use Rattle.ir_core.specs.declared.declarations.SlotDecl.{SlotDecl}
use Rattle.ir_core.specs.declared.names.FuncName.TheVariants.{Text}
use Rattle.ir_core.specs.declared.signatures.Conv.TheVariants.{Tail}
use Rattle.ir_core.specs.declared.signatures.Sig.{Sig}
use Rattle.ir_core.specs.Calling.{block, callee_named, jump, line, one_to_one, returned, tried}
use Rattle.ir_core.specs.Module.{Direct, SequencePoint, Call, ReturnCall, Line, Block, Function}
use Rattle.ir_core.specs.Size.{size_of}
use Rattle.ir_semantics.specs.Splice.{Splicing, sides, spliced}
use Rattle.splice_size.specs.Counts.{counts_of}
use Rattle.splice_size.specs.SizeAfter.{added_size, size_after}

abbrev pub one_to_one_tail : Sig
one_to_one_tail = record one_to_one { conv = Tail }

abbrev pub with_tags : List Tag → Line → Line
with_tags tags l = record l { tags = tags }

-- `v1 = call fn0(v0)`
abbrev pub call : Line
call = record (line (Call (Direct 0) (0 ∷ []))) { results = 1 ∷ [] }

-- a function of the name that is one letter, which declares another one
abbrev pub calling : ℕ → List SlotDecl → Sig → ℕ → List Block → Function
calling letter slots sig other blocks =
    record {
      name = Text (letter ∷ []);
      sig = sig;
      slots = slots;
      sigs = sig ∷ [];
      callees = callee_named other ∷ [];
      types = [];
      blocks = blocks;
    }

-- two tags and a result
abbrev pub plain_site : Line
plain_site = with_tags (tag.User 1 ∷ tag.Slot 0 ∷ []) call

abbrev pub plain_caller : Function
plain_caller =
    calling 102 (record { size = 8; align = 8 } ∷ []) one_to_one 103
    (block 0 (plain_site ∷ returned 1 ∷ []) ∷ [])

-- a call and a `sequence_point`, each with a tag
abbrev pub called : Function
called =
    calling 103 [] one_to_one 104
    (block 0
    (with_tags (tag.User 7 ∷ []) call ∷ with_tags (tag.User 8 ∷ []) (line SequencePoint) ∷ returned 1 ∷ []) ∷ [])

abbrev pub ending : Function
ending =
    calling 103 [] one_to_one_tail 104
    (block 0 (with_tags (tag.User 5 ∷ []) (line (ReturnCall (Direct 0) (0 ∷ []))) ∷ []) ∷ [])

abbrev pub at_plain : Function → Splicing
at_plain g =
    record {
      naming = sides;
      caller = plain_caller;
      callee = g;
      at = 0;
      before = [];
      site = plain_site;
      behind = returned 1 ∷ [];
    }

abbrev pub try_site : Line
try_site = with_tags (tag.User 1 ∷ []) (tried 0 0 1 2)

abbrev pub try_caller : Function
try_caller =
    calling 102 [] one_to_one 103
    (block 0 (try_site ∷ []) ∷ block 1 (returned 1 ∷ []) ∷ block 2 (returned 2 ∷ []) ∷ [])

-- a plain call, a `try_call`, a return and a tail call
abbrev pub calls_each : Function
calls_each =
    calling 103 [] one_to_one 104
    (block 0
    (with_tags (tag.User 7 ∷ []) call ∷ with_tags (tag.User 8 ∷ []) (line SequencePoint) ∷ jump 2 1 ∷ [])
    ∷ block 2 (tried 0 2 3 4 ∷ []) ∷ block 3 (returned 3 ∷ [])
    ∷ block 4 (line (ReturnCall (Direct 0) (4 ∷ [])) ∷ []) ∷ [])

abbrev pub at_try : Splicing
at_try =
    record {
      naming = sides;
      caller = try_caller;
      callee = calls_each;
      at = 0;
      before = [];
      site = try_site;
      behind = [];
    }

-- both ways to the size come to the number, where these declarations come in
abbrev pub SizeIs : Splicing → List Sig → List Callee → ℕ → Type 0
SizeIs p sigs callees n =
    (size_of (spliced p) ≡ n)
    × (size_after (size_of p.caller) p.site (counts_of p.callee) (added_size p.callee.slots sigs callees) ≡ n)

pub record WorkedSizes : Type 0 where
  pub plain : SizeIs (at_plain called) [] (callee_named 104 ∷ []) 28
  pub tail : SizeIs (at_plain ending) (one_to_one_tail ∷ []) (callee_named 104 ∷ []) 27
  pub tries : SizeIs at_try [] (callee_named 104 ∷ []) 55

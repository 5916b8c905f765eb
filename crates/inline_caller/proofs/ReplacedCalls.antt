-- What the kind of a call at a place tells of how it can be replaced.
use Rattle.std.proofs.Common.{◌≡◌, ◌+◌, ◌-◌, ◌<◌, ◌^◌, length, Some, refl, sym, ap, ◌∙◌}
use Rattle.std.specs.Prelude.{slice_get}
use Rattle.ir_core.specs.declared.places.Point.{Point}
use Rattle.ir_core.specs.Module.{Instruction, Plain, Branches, SequencePoint, Return, Call, ReturnCall, TryCall, Line, Function}
use Rattle.ir_core.specs.Edits.{IsPoint, lines_of}
use Rattle.inline_body.specs.PlainCall.{IsPlainCall, CanSplice}
use Rattle.inline_ends.specs.TailCall.{IsTailCall, CanSpliceTail}
use Rattle.inline_ends.specs.TryCallSite.{IsTryCall, CanSpliceTry}
use Rattle.inline_body.proofs.Preparing.{same_line}
use Rattle.inline_caller.specs.declared.kinds.CallKind.{CallKind}
use Rattle.inline_caller.specs.declared.kinds.CallKind.TheVariants as kind
use Rattle.inline_caller.specs.Replacing.{kind_of_call, CanReplace, plain, tail, tries}

plain_kind : (i : Instruction) → IsPlainCall i → kind_of_call i ≡ kind.Plain
plain_kind (Plain p) h = elim h [ ]
plain_kind (Branches b) h = elim h [ ]
plain_kind SequencePoint h = elim h [ ]
plain_kind (Return vs) h = elim h [ ]
plain_kind (Call t args) h = refl
plain_kind (ReturnCall t args) h = elim h [ ]
plain_kind (TryCall t sig args normal table) h = elim h [ ]

tail_kind : (i : Instruction) → IsTailCall i → kind_of_call i ≡ kind.Tail
tail_kind (Plain p) h = elim h [ ]
tail_kind (Branches b) h = elim h [ ]
tail_kind SequencePoint h = elim h [ ]
tail_kind (Return vs) h = elim h [ ]
tail_kind (Call t args) h = elim h [ ]
tail_kind (ReturnCall t args) h = refl
tail_kind (TryCall t sig args normal table) h = elim h [ ]

try_kind : (i : Instruction) → IsTryCall i → kind_of_call i ≡ kind.Try
try_kind (Plain p) h = elim h [ ]
try_kind (Branches b) h = elim h [ ]
try_kind SequencePoint h = elim h [ ]
try_kind (Return vs) h = elim h [ ]
try_kind (Call t args) h = elim h [ ]
try_kind (ReturnCall t args) h = elim h [ ]
try_kind (TryCall t sig args normal table) h = refl

-- ---- what every call that can be replaced has

pub record Replaced (f g : Function) (at : Point) : Type 0 where
  pub there : IsPoint f at
  pub line : Line
  pub found : slice_get (lines_of at.block f.blocks) at.index ≡ Some line
  pub few_sigs : length f.sigs + length g.sigs < 2 ^ 32 - 1
  pub few_callees : length f.callees + length g.callees < 2 ^ 32 - 1

pub replaced : (f g : Function) (at : Point) → CanReplace f g at → Replaced f g at
replaced f g at (plain h) = record { there = h.there; line = h.line; found = h.found; few_sigs = h.few_sigs; few_callees = h.few_callees }
replaced f g at (tail h) = record { there = h.there; line = h.line; found = h.found; few_sigs = h.few_sigs; few_callees = h.few_callees }
replaced f g at (tries h) = record { there = h.there; line = h.line; found = h.found; few_sigs = h.few_sigs; few_callees = h.few_callees }

-- ---- the kind of the line that stands there decides

module _ (f g : Function) (at : Point) (l : Line) (found : slice_get (lines_of at.block f.blocks) at.index ≡ Some l) (k : CallKind) (is : k ≡ kind_of_call l.inst) where
  kind_is : (m : Line) → slice_get (lines_of at.block f.blocks) at.index ≡ Some m → kind_of_call m.inst ≡ k
  kind_is m there = ap (λ (z : Line). kind_of_call z.inst) (same_line m l (sym there ∙ found)) ∙ sym is

  pub can_plain : k ≡ kind.Plain → CanReplace f g at → CanSplice f g at
  can_plain e (plain h) = h
  can_plain e (tail h) = absurd (let q : kind.Tail ≡ kind.Plain = sym (tail_kind h.line.inst h.tail) ∙ (kind_is h.line h.found ∙ e) in cc)
  can_plain e (tries h) = absurd (let q : kind.Try ≡ kind.Plain = sym (try_kind h.line.inst h.tries) ∙ (kind_is h.line h.found ∙ e) in cc)

  pub can_tail : k ≡ kind.Tail → CanReplace f g at → CanSpliceTail f g at
  can_tail e (plain h) = absurd (let q : kind.Plain ≡ kind.Tail = sym (plain_kind h.line.inst h.plain) ∙ (kind_is h.line h.found ∙ e) in cc)
  can_tail e (tail h) = h
  can_tail e (tries h) = absurd (let q : kind.Try ≡ kind.Tail = sym (try_kind h.line.inst h.tries) ∙ (kind_is h.line h.found ∙ e) in cc)

  pub can_try : k ≡ kind.Try → CanReplace f g at → CanSpliceTry f g at
  can_try e (plain h) = absurd (let q : kind.Plain ≡ kind.Try = sym (plain_kind h.line.inst h.plain) ∙ (kind_is h.line h.found ∙ e) in cc)
  can_try e (tail h) = absurd (let q : kind.Tail ≡ kind.Try = sym (tail_kind h.line.inst h.tail) ∙ (kind_is h.line h.found ∙ e) in cc)
  can_try e (tries h) = h

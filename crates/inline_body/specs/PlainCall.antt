-- A splice at a plain call: when it can be made, and what it gives.
use Rattle.std.specs.Prelude.{◌≡◌, ⊤, ℕ, suc, ◌+◌, ◌-◌, ◌*◌, ◌<◌, ◌^◌, length, take, drop, slice_get, Some}
use Rattle.ir_core.specs.declared.places.Point.{Point}
use Rattle.ir_core.specs.Module.{Instruction, Plain, Branches, SequencePoint, Return, Call, ReturnCall, TryCall, Line}
use Rattle.ir_core.specs.Module.{Function}
use Rattle.ir_core.specs.Sound.{instruction_count}
use Rattle.ir_core.specs.Edits.{IsPoint, lines_of}
use Rattle.ir_semantics.specs.Splice.{Naming, Splicing, splice_with}
use Rattle.body_import.specs.declared.declarations.Import.{Import}
use Rattle.inline_body.specs.declared.prepared.PreparedBody.{PreparedBody}
use Rattle.inline_body.specs.Prepared.{IsBodyOf, IsReady}
use Rattle.inline_body.specs.Results.{tail_calls_in, OneTail}

abbrev pub IsPlainCall : Instruction → Type 0
IsPlainCall (Plain p) = ⊥
IsPlainCall (Branches b) = ⊥
IsPlainCall SequencePoint = ⊥
IsPlainCall (Return vs) = ⊥
IsPlainCall (Call t args) = ⊤
IsPlainCall (ReturnCall t args) = ⊥
IsPlainCall (TryCall t sig args normal table) = ⊥

-- a plain call stands at the place in f, g has a block, at most one tail call in each, and there are numbers for all
-- that the splice brings
pub record CanSplice (f g : Function) (at : Point) : Type 0 where
  pub there : IsPoint f at
  pub line : Line
  pub found : slice_get (lines_of at.block f.blocks) at.index ≡ Some line
  pub plain : IsPlainCall line.inst
  pub has_block : 0 < length g.blocks
  pub one_tail : OneTail g.blocks
  pub few_slots : length f.slots + length g.slots < 2 ^ 32 - 1
  pub few_sigs : length f.sigs + length g.sigs < 2 ^ 32 - 1
  pub few_callees : length f.callees + length g.callees < 2 ^ 32 - 1
  pub few_values : length f.types + length g.types + length line.results * (tail_calls_in g.blocks + 1) < 2 ^ 32 - 1
  pub few_blocks : length f.blocks + 2 * length g.blocks + 2 < 2 ^ 32 - 1
  pub few_lines : instruction_count f.blocks + instruction_count g.blocks + tail_calls_in g.blocks + 1 < 2 ^ 32 - 1

-- a splice with names of its own, which keep the caller's
pub record Keeps (f : Function) (n : Naming) : Type 0 where
  pub caller_value : (v : ℕ) → n.caller_value v ≡ v
  pub caller_block : (b : ℕ) → n.caller_block b ≡ b
  pub after : n.after ≡ length f.blocks + 1

abbrev pub splicing_at : Naming → Function → Function → Point → Line → Splicing
splicing_at n f g at l =
    record {
      naming = n;
      caller = f;
      callee = g;
      at = at.block;
      before = take at.index (lines_of at.block f.blocks);
      site = l;
      behind = drop (suc at.index) (lines_of at.block f.blocks);
    }

-- the body is ready for f, is that of the splice by some names, and brings the declarations of the import
pub record IsPrepared (f g : Function) (at : Point) (i : Import) (q : PreparedBody) : Type 0 where
  pub ready : IsReady f at q
  pub line : Line
  pub found : slice_get (lines_of at.block f.blocks) at.index ≡ Some line
  pub naming : Naming
  pub keeps : Keeps f naming
  pub is_body : IsBodyOf (splicing_at naming f g at line) f at q
  pub sigs : q.sigs ≡ i.sigs.added
  pub callees : q.callees ≡ i.callees.added

-- h is f with the call at the place replaced by the body of g, under numbers that keep f's own
pub record IsSplice (f g : Function) (at : Point) (h : Function) : Type 0 where
  pub naming : Naming
  pub keeps : Keeps f naming
  pub is : h ≡ splice_with naming f at.block at.index g

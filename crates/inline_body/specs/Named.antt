-- The numbers of a callee's parts as a renaming, and what has a number under it.
use Rattle.std.specs.Prelude.{ℕ, ◌+◌, ◌<◌, ◌^◌, List, length, map, get_or}
use Rattle.ir_core.specs.declared.instructions.BlockCall.{BlockCall}
use Rattle.ir_core.specs.Module.{Line, Function}
use Rattle.ir_core.specs.Lists.{Each, Below}
use Rattle.body_import.specs.declared.declarations.Import.{Import}
use Rattle.ir_semantics.specs.Renaming.{Renaming}
use Rattle.ir_core.specs.Uses.{values_used, slots_used, slots_shown, callees_used, sigs_used, blocks_used}
use Rattle.inline_body.specs.declared.names.Names.{Names}

abbrev pub names_of : Names → Renaming
names_of n =
    record {
      value = λ v. n.values + v;
      block = λ b. get_or n.blocks b 0;
      slot = λ k. n.slots + k;
      sig = λ s. get_or n.sigs s n.sig_count;
      callee = λ c. get_or n.callees c n.callee_count;
    }

-- the numbers of a callee's parts in a caller with what an import adds, where the callee's blocks have these
abbrev pub names_in : Function → List ℕ → Import → Names
names_in f blocks i =
    record {
      values = length f.types;
      slots = length f.slots;
      blocks = blocks;
      sigs = i.sigs.table;
      callees = i.callees.table;
      sig_count = length f.sigs + length i.sigs.added;
      callee_count = length f.callees + length i.callees.added;
    }

-- the sum is a number of the code
abbrev pub Moves : ℕ → ℕ → Type 0
Moves by n = by + n < 2 ^ 32

abbrev pub blocks_of : List BlockCall → List ℕ
blocks_of ts = map (λ t. t.block) ts

-- each number of an instruction has one
pub record Reached (n : Names) (l : Line) : Type 0 where
  pub values : Each (Moves n.values) (values_used l.inst)
  pub blocks : Below (length n.blocks) (blocks_used l.inst)
  pub slots : Each (Moves n.slots) (slots_used l.inst)
  pub shown : Each (Moves n.slots) (slots_shown l.tags)
  pub callees : Below (length n.callees) (callees_used l.inst)
  pub sigs : Below (length n.sigs) (sigs_used l.inst)
  pub results : Each (Moves n.values) l.results

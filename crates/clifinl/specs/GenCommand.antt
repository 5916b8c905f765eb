-- What `gen` writes, and how it ends: it makes a module, and writes its text, or what the pass over it does, in
-- numbers.
use Rattle.std.specs.Prelude.{◌≡◌, ℕ, ◌+◌, ◌⊎◌, Bool, false, List, ◌++◌, length, slice_get, count_by, codes, decimal}
use Rattle.std.specs.Prelude.{true, Some, None, is_some, if◌then◌else◌}
use Rattle.clk_flow.specs.Faults.{Rose}
use Rattle.gen_mod.specs.Generated.{generated}
use Rattle.inline_pass.specs.Finished.{passed}
use Rattle.inline_pass.specs.Inlined.{all_inlined}
use Rattle.inline_pass.specs.Policy.{Policy}
use Rattle.ir_core.specs.Lookup.{and_then, find_function}
use Rattle.ir_core.specs.Module.{Block, Function, Line, Module}
use Rattle.ir_core.specs.Size.{size_of, total}
use Rattle.ir_core.specs.Uses.{callee_of}
use Rattle.ir_text.specs.Text.{text_of}
use Rattle.settings.specs.Settings.{GenSettings}
use Rattle.clifinl.specs.declared.status.Status.{Status}
use Rattle.clifinl.specs.declared.status.Status.TheVariants.{Done, NoMemory}
use Rattle.clifinl.specs.InlineCommand.{policy_of}
use Rattle.clifinl.specs.PrintCommand.{ReadsBack}
use Rattle.clifinl.specs.RunCommand.{IsUnread}
use Rattle.clifinl.specs.Runs.{Outside, Wrote}

-- ---- sites

-- the instruction is a direct call, and its callee is a function of the module
abbrev pub calls_within : Module → Function → Line → Bool
calls_within m f l =
    elim (and_then (callee_of l.inst) (slice_get f.callees)) [
      | None ↦ false
      | Some callee ↦ is_some (find_function callee.name m)
    ]

abbrev pub block_sites : Module → Function → Block → ℕ
block_sites m f b = count_by (calls_within m f) b.lines

abbrev pub function_sites : Module → Function → ℕ
function_sites m f = total (block_sites m f) f.blocks

-- how many instructions of the module call a function of the module
abbrev pub sites_in : Module → ℕ
sites_in m = total (function_sites m) m

-- ---- the lines

pub record Summary : Type 0 where
  pub functions : ℕ
  pub sites : ℕ
  pub inlined : ℕ
  pub size_before : ℕ
  pub size_after : ℕ
  pub steps : ℕ

-- what the pass does to a module; it takes a step for each function and one for each inlined site
abbrev pub summary_of : Policy → Module → Summary
summary_of p m = record {
  functions = length m;
  sites = sites_in m;
  inlined = all_inlined p m;
  size_before = total size_of m;
  size_after = total size_of (passed p m);
  steps = length m + all_inlined p m;
}

abbrev pub summary_text : Summary → List ℕ
summary_text s =
    codes "functions " ++ decimal s.functions ++ codes "\nsites " ++ decimal s.sites ++ codes "\ninlined "
    ++ decimal s.inlined ++ codes "\nsize before " ++ decimal s.size_before ++ codes "\nsize after "
    ++ decimal s.size_after ++ codes "\nsteps " ++ decimal s.steps ++ codes "\n"

-- ---- the command

-- what `gen` writes
abbrev pub gen_text : GenSettings → List ℕ
gen_text s =
    if s.text then text_of (generated s.number s.functions)
    else summary_text (summary_of (policy_of s.pass) (generated s.number s.functions))

-- Nothing is read; each status has its cause; where the sink has no fault, all is done or memory ran out; and where a
-- text was written, it reads back.
pub record IsGenRun (s : GenSettings) (before after : Outside) (status : Status) : Type 0 where
  pub unread : IsUnread before after
  pub cause : Wrote (gen_text s) before.written after.written before.write_faults after.write_faults status
  pub complete : (Rose before.write_faults after.write_faults → ⊥) → (status ≡ Done) ⊎ (status ≡ NoMemory)
  pub headline : status ≡ Done → s.text ≡ true → ReadsBack (generated s.number s.functions)

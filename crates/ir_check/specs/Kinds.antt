-- The kinds of faults are the rules, and the first rule that a line of the code does not keep.
use Rattle.std.specs.Prelude.{ℕ, List, [], ◌∷◌, Option, Some, None, Bool, true, if◌then◌else◌}
use Rattle.std.specs.List.{list_all}
use Rattle.ir_core.specs.Module.{Line, Function}
use Rattle.ir_core.specs.Uses.{targets}
use Rattle.ir_semantics.specs.Available.{terminates}
use Rattle.ir_semantics.specs.Accepted.{Rule, no_terminator, entry_target, count_mismatch, type_mismatch, convention}
use Rattle.ir_semantics.specs.Accepted.{signature_mismatch, slot_range, tag_place, not_available}
use Rattle.ir_check.specs.declared.kinds.CheckKind.{CheckKind}
use Rattle.ir_check.specs.declared.kinds.CheckKind.TheVariants as kind
use Rattle.ir_check.specs.Twins.{ends_by, leaves, counts, types, instruction_convention, instruction_signature}
use Rattle.ir_check.specs.Twins.{instruction_slot, instruction_tags}

abbrev pub rule_of : CheckKind → Rule
rule_of kind.NoTerminator = no_terminator
rule_of kind.EntryTarget = entry_target
rule_of kind.CountMismatch = count_mismatch
rule_of kind.TypeMismatch = type_mismatch
rule_of kind.Convention = convention
rule_of kind.SignatureMismatch = signature_mismatch
rule_of kind.SlotRange = slot_range
rule_of kind.TagPlace = tag_place
rule_of kind.NotAvailable = not_available

abbrev pub rule_named : Option CheckKind → Option Rule
rule_named None = None
rule_named (Some k) = Some (rule_of k)

-- the first of the rules that does not pass
abbrev pub failing_rule : (Rule → Bool) → List Rule → Option Rule
failing_rule passes [] = None
failing_rule passes (r ∷ rs) = if passes r then failing_rule passes rs else Some r

-- the tests at a line, where the number of the first block is given, and whether the line is its block's last
abbrev pub line_keeps : Function → ℕ → Bool → Line → Rule → Bool
line_keeps f first last l no_terminator = ends_by (terminates l.inst) last
line_keeps f first last l entry_target = list_all (leaves first) (targets l.inst)
line_keeps f first last l count_mismatch = counts f l
line_keeps f first last l type_mismatch = types f l
line_keeps f first last l convention = instruction_convention f l.inst
line_keeps f first last l signature_mismatch = instruction_signature f l.inst
line_keeps f first last l slot_range = instruction_slot f l.inst
line_keeps f first last l tag_place = instruction_tags l.tags l.inst
line_keeps f first last l not_available = true

-- What the declarations and lines of a function do to its words, as they are taken in order.
use Rattle.std.specs.Prelude.{ℕ, ◌+◌, ◌==◌, nat_eq, nat_le, Bool, false, List, Option, None, Some, slice_get, fold}
use Rattle.std.specs.Prelude.{flat_map, position, if◌then◌else◌}
use Rattle.ir_core.specs.declared.signatures.Ty.{Ty}
use Rattle.token_reader.specs.declared.raw.RawName.{RawName}
use Rattle.token_reader.specs.declared.raw.RawNumber.{RawNumber}
use Rattle.clif_insts.specs.declared.raw.RawArg.{RawArg}
use Rattle.clif_insts.specs.declared.raw.RawArg.TheVariants as arg
use Rattle.clif_insts.specs.declared.raw.RawTarget.{RawTarget}
use Rattle.clif_insts.specs.declared.raw.RawEntry.{RawEntry}
use Rattle.clif_insts.specs.declared.raw.RawTrap.{RawTrap}
use Rattle.clif_insts.specs.declared.raw.RawOperands.{RawOperands}
use Rattle.clif_insts.specs.declared.raw.RawInst.{RawInst}
use Rattle.clif_read.specs.declared.raw.RawTag.{RawTag}
use Rattle.clif_read.specs.declared.raw.RawTag.TheVariants as tag
use Rattle.clif_read.specs.declared.raw.RawLine.{RawLine}
use Rattle.clif_read.specs.declared.raw.RawLine.TheVariants as line
use Rattle.clif_read.specs.declared.raw.RawFuncName.{RawFuncName}
use Rattle.clif_read.specs.declared.raw.RawDecl.{RawDecl}
use Rattle.clif_read.specs.declared.raw.RawBlockParam.{RawBlockParam}
use Rattle.clif_read.specs.declared.raw.RawBlock.{RawBlock}
use Rattle.clif_read.specs.declared.raw.RawFunction.{RawFunction}
use Rattle.clif_names.specs.declared.limits.Limit.TheVariants.{Entity, Offset}
use Rattle.name_tables.specs.declared.links.End.{End}
use Rattle.name_tables.specs.declared.links.End.TheVariants.{At, Nowhere, Endless}
use Rattle.name_tables.specs.declared.names.Names.{Names}
use Rattle.name_tables.specs.declared.tables.Tables.{Tables}
use Rattle.clif_names.specs.declared.uses.Uses.{Uses}
use Rattle.name_tables.specs.Least.{earlier_spot}
use Rattle.clif_names.specs.Limits.{of_word, of_number, name_limits, decl_limits, maybe_number, trap_limits}
use Rattle.clif_names.specs.Limits.{entry_limits, operand_limits}
use Rattle.clif_names.specs.Noting.{note}
use Rattle.name_tables.specs.Taking.{refer}
use Rattle.clif_names.specs.Typing.{asks}
use Rattle.name_tables.specs.Definitions.{Kind, Slots, Sigs, Callees, Blocks, Values}
use Rattle.name_tables.specs.Uses.{decl_uses, operand_values, operand_slots, operand_callees, operand_sigs}
use Rattle.name_tables.specs.Uses.{operand_targets}

-- the words of a kind
abbrev pub table_at : Uses → Kind → Names
table_at u Slots = u.slots
table_at u Sigs = u.sigs
table_at u Callees = u.callees
table_at u Blocks = u.blocks
table_at u Values = u.values

abbrev pub note_name : Uses → RawFuncName → Uses
note_name u name = record u { outside = fold note u.outside (name_limits name) }

abbrev pub use_decl : Uses → RawDecl → Uses
use_decl u d = record u { sigs = fold refer u.sigs (decl_uses Sigs d); outside = fold note u.outside (decl_limits d) }

abbrev pub use_tag : Uses → RawTag → Uses
use_tag u (tag.User n) = record u { outside = note u.outside (of_number Entity n) }
use_tag u (tag.Slot n) = record u { slots = refer u.slots n }

abbrev pub use_arg : Uses → RawArg → Uses
use_arg u (arg.Value n) = record u { values = refer u.values n }
use_arg u (arg.Ret n) = record u { outside = note u.outside (of_word Entity n) }
use_arg u (arg.Exn n) = record u { outside = note u.outside (of_word Entity n) }

abbrev pub use_target : Uses → RawTarget → Uses
use_target u t = fold use_arg (record u { blocks = refer u.blocks t.block }) t.args

abbrev pub note_offset : Uses → Option RawNumber → Uses
note_offset u offset = record u { outside = fold note u.outside (maybe_number Offset offset) }

abbrev pub note_trap : Uses → RawTrap → Uses
note_trap u code = record u { outside = fold note u.outside (trap_limits code) }

abbrev pub note_entry : Uses → RawEntry → Uses
note_entry u e = record u { outside = fold note u.outside (entry_limits e) }

abbrev pub note_table : Uses → List RawEntry → Uses
note_table u table = record u { outside = fold note u.outside (flat_map entry_limits table) }

abbrev pub note_operands : Uses → Option Ty → RawOperands → Uses
note_operands u suffix o = record u { outside = fold note u.outside (operand_limits suffix o) }

abbrev pub use_operands : Uses → RawOperands → Uses
use_operands u o = record u {
  slots = fold refer u.slots (operand_slots o);
  sigs = fold refer u.sigs (operand_sigs o);
  callees = fold refer u.callees (operand_callees o);
  values = fold refer u.values (operand_values o);
}

-- ---- types

-- a chain's end is not among so many words
abbrev pub is_past : ℕ → Option End → Bool
is_past count None = false
is_past count (Some (At place)) = nat_le count place
is_past count (Some Nowhere) = false
is_past count (Some Endless) = false

abbrev pub is_late_at : List End → ℕ → Option ℕ → Bool
is_late_at ends count None = false
is_late_at ends count (Some place) = is_past count (slice_get ends place)

-- the word n stands for a value that is not among the words so far
abbrev pub is_late : List End → Uses → ℕ → Bool
is_late ends u n = is_late_at ends u.defined (position (nat_eq n) u.values.words)

abbrev pub ask_operand : List End → Uses → ℕ → Option RawName → Uses
ask_operand ends u spot None = u
ask_operand ends u spot (Some x) =
    record u { untyped = if is_late ends u x.number then earlier_spot u.untyped spot else u.untyped }

abbrev pub ask_type : List End → Uses → RawInst → Uses
ask_type ends u inst = ask_operand ends u inst.opcode.spot (asks inst)

abbrev pub next_count : ℕ → Option ℕ → ℕ
next_count count None = count
next_count count (Some place) = if place == count then place + 1 else count

-- the first definition of a word counts
unfoldable pub define : Uses → RawName → Uses
define u n = record u { defined = next_count u.defined (position (nat_eq n.number) u.values.words) }

-- ---- lines

abbrev pub use_line : List End → Uses → RawLine → Uses
use_line ends u (line.Alias location n m) = define (record u { values = refer u.values m }) n
use_line ends u (line.Inst location tags results inst) =
    let noted = note_operands (fold use_tag (ask_type ends u inst) tags) inst.suffix inst.operands in
    fold define (fold use_target (use_operands noted inst.operands) (operand_targets inst.operands)) results

abbrev pub define_param : Uses → RawBlockParam → Uses
define_param u p = define u p.value

abbrev pub use_block : List End → Uses → RawBlock → Uses
use_block ends u b = fold (use_line ends) (fold define_param u b.params) b.lines

abbrev pub use_function : List End → Uses → RawFunction → Uses
use_function ends u f = fold (use_block ends) (fold use_decl (note_name u f.name) f.decls) f.blocks

-- before any use
abbrev pub uses_of : Tables → Uses
uses_of t = record {
  slots = t.slots;
  sigs = t.sigs;
  callees = t.callees;
  blocks = t.blocks;
  values = t.values;
  outside = None;
  defined = 0;
  untyped = None;
}

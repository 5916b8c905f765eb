-- The size of a raw function: that of the function which it means. Alias lines have no size, an inline signature is a
-- signature, and results count as they are written.
use Rattle.std.specs.Prelude.{ℕ, ◌+◌, length}
use Rattle.ir_core.specs.Size.{total}
use Rattle.clif_insts.specs.declared.raw.RawTarget.{RawTarget}
use Rattle.clif_insts.specs.declared.raw.RawOperands.{RawOperands}
use Rattle.clif_insts.specs.declared.raw.RawOperands.TheVariants as form
use Rattle.clif_read.specs.declared.raw.RawSignature.{RawSignature}
use Rattle.clif_read.specs.declared.raw.RawCalleeSig.{RawCalleeSig}
use Rattle.clif_read.specs.declared.raw.RawCalleeSig.TheVariants as callee_sig
use Rattle.clif_read.specs.declared.raw.RawDecl.{RawDecl}
use Rattle.clif_read.specs.declared.raw.RawDecl.TheVariants as decl
use Rattle.clif_read.specs.declared.raw.RawLine.{RawLine}
use Rattle.clif_read.specs.declared.raw.RawLine.TheVariants as line
use Rattle.clif_read.specs.declared.raw.RawBlock.{RawBlock}
use Rattle.clif_read.specs.declared.raw.RawFunction.{RawFunction}
use Rattle.name_tables.specs.Uses.{operand_values, operand_targets}

abbrev pub signature_size : RawSignature → ℕ
signature_size s = (1 + length s.params) + length s.results

abbrev pub callee_sig_size : RawCalleeSig → ℕ
callee_sig_size (callee_sig.Declared n) = 0
callee_sig_size (callee_sig.Inline signature) = signature_size signature

abbrev pub decl_size : RawDecl → ℕ
decl_size (decl.Slot n size align) = 1
decl_size (decl.Sig n signature) = signature_size signature
decl_size (decl.Callee colocated n sig name) = 1 + callee_sig_size sig

abbrev pub target_size : RawTarget → ℕ
target_size t = length t.args

-- the entries of a `br_table` or of an exception table
abbrev pub entry_count : RawOperands → ℕ
entry_count (form.BrTable x default entries) = length entries
entry_count (form.TryCall callee args sig normal table) = length table
entry_count (form.TryCallIndirect x args sig normal table) = length table
entry_count _ = 0

abbrev pub operands_size : RawOperands → ℕ
operands_size o = (length (operand_values o) + total target_size (operand_targets o)) + entry_count o

abbrev pub line_size : RawLine → ℕ
line_size (line.Alias location n m) = 0
line_size (line.Inst location tags results inst) = (1 + length results) + operands_size inst.operands + length tags

abbrev pub block_size : RawBlock → ℕ
block_size b = (1 + length b.params) + total line_size b.lines

abbrev pub raw_size : RawFunction → ℕ
raw_size f = total decl_size f.decls + total block_size f.blocks

abbrev pub greatest_size : ℕ
greatest_size = 262144

abbrev pub most_functions : ℕ
most_functions = 65536

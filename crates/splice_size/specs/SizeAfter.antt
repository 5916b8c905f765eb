-- The size that a function has once a call of it is replaced by the body of its callee: from the function's size, the
-- line of the call, what of the callee counts, and the size of the declarations that come in.
use Rattle.std.specs.Prelude.{ℕ, ◌+◌, ◌-◌, ◌*◌, List, length}
use Rattle.exn_tables.specs.declared.table.Entry.{Entry}
use Rattle.ir_core.specs.declared.declarations.Callee.{Callee}
use Rattle.ir_core.specs.declared.declarations.SlotDecl.{SlotDecl}
use Rattle.ir_core.specs.declared.instructions.BlockCall.{BlockCall}
use Rattle.ir_core.specs.declared.signatures.Sig.{Sig}
use Rattle.ir_core.specs.Module.{Line}
use Rattle.ir_core.specs.Size.{argument_count, line_size, sig_size, total}
use Rattle.ir_core.specs.Uses.{table_targets}
use Rattle.ir_semantics.specs.Splice.{Kind, Within, Last, Tries, args_of, kind_of}
use Rattle.splice_size.specs.declared.counts.Counts.{Counts}

-- calls of any kind
abbrev pub any_calls : Counts → ℕ
any_calls c = (c.calls + c.tail_calls) + c.try_calls

-- instructions that take the site's tags
abbrev pub taking_tags : Counts → ℕ
taking_tags c = any_calls c + c.sequence_points

-- the entries of an exception table, with their arguments
abbrev pub table_size : List (Entry BlockCall) → ℕ
table_size table = length table + total argument_count (table_targets table)

-- what the callee's blocks come to by the kind of the site, its number of tags and of results. At a plain call a
-- return is a jump with its operands, and a tail call a call with new results and a jump with them. At a `try_call` a
-- return is a jump to the normal target, each call has the site's table, a plain call ends its block and its results
-- are the parameters of a new one, and a tail call goes on at the normal target.
abbrev pub body_size : Kind → (tags results : ℕ) → Counts → ℕ
body_size Within tags results c =
    (c.blocks + c.returned) + taking_tags c * tags + c.tail_calls * (results + (1 + results))
body_size Last tags results c = (c.blocks + c.returned) + taking_tags c * tags
body_size (Tries normal table) tags results c =
    c.blocks + taking_tags c * tags + any_calls c * table_size table + (c.calls + c.results)
    + (c.returns + c.tail_calls) * length normal.args

-- the block behind the body, which has the site's results
abbrev pub after_size : Kind → (results : ℕ) → ℕ
after_size Within results = 1 + results
after_size Last results = 0
after_size (Tries normal table) results = 0

-- what stands in place of the site: the jump to the body with the call's arguments, the body, and the block behind it
abbrev pub put_size : Line → Counts → ℕ
put_size site c =
    (1 + length (args_of site.inst)) + body_size (kind_of site.inst) (length site.tags) (length site.results) c
    + after_size (kind_of site.inst) (length site.results)

-- the declarations that come in: all slots, and the signatures and callees that the caller did not have
abbrev pub added_size : List SlotDecl → List Sig → List Callee → ℕ
added_size slots sigs callees = (length slots + length callees) + total sig_size sigs

abbrev pub size_after : ℕ → Line → Counts → ℕ → ℕ
size_after caller_size site callee added = (caller_size - line_size site) + (put_size site callee + added)

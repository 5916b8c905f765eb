use Rattle.std.proofs.Common.{◌≡◌, ◌+◌, drop}
use Rattle.ir_semantics.specs.Step.{search_in}
use Rattle.interp.proofs.throws.search_table.Given as goal

abbrev pub invariant-entries : goal.invariant-entries
invariant-entries l = record { count : l.count ≡ l.rank + l.entry-index; is : search_in (drop l.entry-index l.entries) l.tag l.count ≡ search_in l.entries l.tag l.rank }

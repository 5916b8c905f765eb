use Rattle.std.proofs.Common.{◌≡◌, ◌++◌, ◌+◌, take}
use Rattle.text_output.proofs.waiting.Waiting.append.Given as goal

abbrev pub invariant-bytes : goal.invariant-bytes
invariant-bytes l = record {
  same : l.self-inside.len ≡ l.start;
  taken : take (l.start + l.i) l.self-inside.bytes ≡ take l.start l.initial.self-inside.bytes ++ take l.i l.bytes;
}

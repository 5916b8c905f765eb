-- A function of a size has no more values, blocks and declarations than that.
use Rattle.std.proofs.Common.{ℕ, ◌≤◌, List, [], ◌∷◌, ◌++◌, length, arith}
use Rattle.std.proofs.lemmas.List.{length-append, length-map}
use Rattle.ir_core.specs.Lookup.{line_definitions, definitions}
use Rattle.ir_core.specs.Module.{Line, Block, Function}
use Rattle.ir_text.specs.Numbering.{numbering_of}
use Rattle.ir_core.specs.Size.{total, line_size, block_size, size_of}
use Rattle.ir_core.proofs.Sizing.{sigs_count, blocks_count}

lines_within : (ls : List Line) → length (line_definitions ls) ≤ total line_size ls
lines_within [] = omega arith
lines_within (l ∷ ls) = let k = lines_within ls in let e = length-append l.results (line_definitions ls) in omega arith

values_within : (bs : List Block) → length (definitions bs) ≤ total block_size bs
values_within [] = omega arith
values_within (b ∷ bs) =
    let k = values_within bs in
    let l = lines_within b.lines in
    let e = length-append b.params (line_definitions b.lines ++ definitions bs) in
    let g = length-append (line_definitions b.lines) (definitions bs) in
    omega arith

pub record Counts (f : Function) (n : ℕ) : Type 0 where
  pub slots : length f.slots ≤ n
  pub sigs : length f.sigs ≤ n
  pub callees : length f.callees ≤ n
  pub values : length (numbering_of f).values ≤ n
  pub blocks : length (numbering_of f).blocks ≤ n

pub counts : (f : Function) (n : ℕ) → size_of f ≤ n → Counts f n
counts f n h =
    let v = values_within f.blocks in
    let b = blocks_count f.blocks in
    let s = sigs_count f.sigs in
    let e = length-map f.blocks (λ (x : Block). x.number) in
    record { slots = omega arith; sigs = omega arith; callees = omega arith; values = omega arith; blocks = omega arith }

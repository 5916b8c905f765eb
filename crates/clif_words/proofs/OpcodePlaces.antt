-- An opcode is told by its number, and its row of the table by its place.
use Rattle.std.proofs.Common.{◌≡◌, ◌<◌, ℕ, List, length, map, Some, refl, sym, ap, ◌∙◌, arith}
use Rattle.std.specs.Prelude.{slice_get, slice_index_or, option_map}
use Rattle.std.proofs.lemmas.List.{length-map, get_or-map}
use Rattle.std.proofs.lemmas.Option.{slice_get-map, slice_get_within, get_or_from_slice_get}
use Rattle.clif_words.specs.declared.opcodes.OpcodeRow.{OpcodeRow}
use Rattle.clif_words.specs.declared.opcodes.Opcode.{Opcode}
use Rattle.clif_words.specs.declared.opcodes.Opcode.TheVariants as opcodes
use Rattle.clif_words.specs.Opcodes.{all_opcodes, or_nop, place, opcode_of}

-- the table has each opcode at its place
pub opcode_at : (o : Opcode) → slice_get all_opcodes (place o) ≡ Some o
opcode_at opcodes.Iconst = refl
opcode_at opcodes.Iadd = refl
opcode_at opcodes.Isub = refl
opcode_at opcodes.Imul = refl
opcode_at opcodes.Band = refl
opcode_at opcodes.Bor = refl
opcode_at opcodes.Bxor = refl
opcode_at opcodes.Smin = refl
opcode_at opcodes.Smax = refl
opcode_at opcodes.Umin = refl
opcode_at opcodes.Umax = refl
opcode_at opcodes.Umulhi = refl
opcode_at opcodes.Smulhi = refl
opcode_at opcodes.Udiv = refl
opcode_at opcodes.Urem = refl
opcode_at opcodes.Sdiv = refl
opcode_at opcodes.Srem = refl
opcode_at opcodes.Ishl = refl
opcode_at opcodes.Ushr = refl
opcode_at opcodes.Sshr = refl
opcode_at opcodes.Rotl = refl
opcode_at opcodes.Rotr = refl
opcode_at opcodes.UaddOverflow = refl
opcode_at opcodes.SaddOverflow = refl
opcode_at opcodes.UsubOverflow = refl
opcode_at opcodes.SsubOverflow = refl
opcode_at opcodes.Iconcat = refl
opcode_at opcodes.Ineg = refl
opcode_at opcodes.Bnot = refl
opcode_at opcodes.Iabs = refl
opcode_at opcodes.Clz = refl
opcode_at opcodes.Ctz = refl
opcode_at opcodes.Popcnt = refl
opcode_at opcodes.Bitrev = refl
opcode_at opcodes.Bswap = refl
opcode_at opcodes.Isplit = refl
opcode_at opcodes.Icmp = refl
opcode_at opcodes.Select = refl
opcode_at opcodes.Uextend = refl
opcode_at opcodes.Sextend = refl
opcode_at opcodes.Ireduce = refl
opcode_at opcodes.IaddImm = refl
opcode_at opcodes.ImulImm = refl
opcode_at opcodes.BandImm = refl
opcode_at opcodes.BorImm = refl
opcode_at opcodes.BxorImm = refl
opcode_at opcodes.IshlImm = refl
opcode_at opcodes.UshrImm = refl
opcode_at opcodes.SshrImm = refl
opcode_at opcodes.IcmpImm = refl
opcode_at opcodes.Load = refl
opcode_at opcodes.Uload8 = refl
opcode_at opcodes.Sload8 = refl
opcode_at opcodes.Uload16 = refl
opcode_at opcodes.Sload16 = refl
opcode_at opcodes.Uload32 = refl
opcode_at opcodes.Sload32 = refl
opcode_at opcodes.Store = refl
opcode_at opcodes.Istore8 = refl
opcode_at opcodes.Istore16 = refl
opcode_at opcodes.Istore32 = refl
opcode_at opcodes.StackLoad = refl
opcode_at opcodes.StackStore = refl
opcode_at opcodes.FuncAddr = refl
opcode_at opcodes.Nop = refl
opcode_at opcodes.SequencePoint = refl
opcode_at opcodes.Jump = refl
opcode_at opcodes.Brif = refl
opcode_at opcodes.BrTable = refl
opcode_at opcodes.Return = refl
opcode_at opcodes.Trap = refl
opcode_at opcodes.Trapz = refl
opcode_at opcodes.Trapnz = refl
opcode_at opcodes.Call = refl
opcode_at opcodes.ReturnCall = refl
opcode_at opcodes.TryCall = refl
opcode_at opcodes.CallIndirect = refl
opcode_at opcodes.ReturnCallIndirect = refl
opcode_at opcodes.TryCallIndirect = refl

pub place_opcode : (o : Opcode) → opcode_of (place o) ≡ o
unfolding opcode_of
place_opcode o = ap or_nop (opcode_at o)

-- a table of all opcodes has a row at the place of each
pub place_within : {A : Type 0} (f : OpcodeRow → A) (g : Opcode → A) (rows : List OpcodeRow) (o : Opcode) → map f rows ≡ map g all_opcodes → place o < length rows
place_within f g rows o same =
    let within : place o < length all_opcodes = slice_get_within all_opcodes (place o) o (opcode_at o) in
    omega (arith, within, length-map rows f, ap length same, length-map all_opcodes g)

-- and what the rows are seen as is there that of the opcode
pub row_at : {A : Type 0} (f : OpcodeRow → A) (g : Opcode → A) (rows : List OpcodeRow) (d : OpcodeRow) (o : Opcode) (n : ℕ) → n ≡ place o → map f rows ≡ map g all_opcodes → f (slice_index_or rows n d) ≡ g o
row_at f g rows d o n at same =
    ap (λ k. f (slice_index_or rows k d)) at
    ∙ sym (get_or-map f rows (place o) d (g o) (place_within f g rows o same))
    ∙ ap (λ ys. slice_index_or ys (place o) (g o)) same
    ∙ get_or_from_slice_get (map g all_opcodes) (place o) (g o) (g o) (slice_get-map g all_opcodes (place o) ∙ ap (option_map g) (opcode_at o))

-- The opcode that the next token's meaning is, is read by its form's class.
use Rattle.std.proofs.Common.{◌≡◌, ℕ, true, false, List, ◌∷◌, drop, Some, Ok, Err, refl, sym, ap, ◌∙◌}
use Rattle.grammar.specs.Rules.{Lexeme, Syntax}
use Rattle.clif_words.specs.declared.class.Class.{Class}
use Rattle.clif_words.specs.declared.meanings.Terminal.{Terminal}
use Rattle.clif_words.specs.declared.meanings.Terminal.TheVariants as terminals
use Rattle.clif_words.specs.declared.meanings.Word.TheVariants as words
use Rattle.clif_words.specs.declared.opcodes.Opcode.{Opcode}
use Rattle.clif_words.specs.Opcodes.{opcode_of}
use Rattle.clif_words.proofs.OpcodePlaces.{place_opcode}
use Rattle.token_reader.specs.declared.raw.RawName.{RawName}
use Rattle.token_reader.specs.Next.{Tells}
use Rattle.token_reader.specs.Reading.{next_is, name, opcode_at}
use Rattle.token_reader.proofs.Takes.{takes_name, misses_name}

pub opcode_told : (class : Class) (opcode : Opcode) (spot : ℕ) (ts after : List Lexeme) → Tells (Some (terminals.Word (words.Opcode opcode))) ts → next_is class ts ≡ true → after ≡ drop 1 ts
    → ((x : Lexeme) (xs : List Lexeme) → ts ≡ x ∷ xs → spot ≡ x.spot) → opcode_at class ts ≡ Ok (record { kind = opcode; spot = spot }, after)
unfolding opcode_at
opcode_told class opcode spot ts after tells is rest at =
    let m : Terminal = terminals.Word (words.Opcode opcode) in
    let x = tells.0 in
    let word : RawName = record { number = x.number; spot = spot } in
    let front : (y : Lexeme) (ys : List Lexeme) → ts ≡ y ∷ ys → word ≡ name y = λ y ys e.
    let same : x ≡ y = (let f = sym tells.2 ∙ e in cc) in
    rw (at y ys e, same) refl in
    let read = takes_name class ts is word after front rest in
    let kind : opcode_of x.number ≡ opcode = ap opcode_of tells.4 ∙ place_opcode opcode in
    rw (read, kind) refl

pub opcode_missed : (class : Class) (ts : List Lexeme) → next_is class ts ≡ false → opcode_at class ts ≡ Err (Syntax, ts)
unfolding opcode_at
opcode_missed class ts is = rw (misses_name class ts is) refl

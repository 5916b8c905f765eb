use Rattle.std.proofs.Common.{◌≡◌, ◌-◌, ◌++◌, List, map, length, sym, ap, ◌∙◌, arith}
use Rattle.std.proofs.lemmas.List.{length-map}
use Rattle.clif_words.specs.declared.class.Class.TheVariants.{RefusedOpcode}
use Rattle.clif_words.specs.declared.opcodes.OpcodeRow.{OpcodeRow}
use Rattle.clif_words.specs.Seen.{opcode_row}
use Rattle.clif_words.specs.Table.{Row, alike, opcodes, refused_opcodes, other_words, numbered_through, numbered_each, all_words}
use Rattle.clif_words.proofs.Places.{look_up-front, look_up-others, words_count}
use Rattle.clif_words.proofs.items.match_word.Goals as goal

-- the words behind the opcodes
others : List Row
others = numbered_each (alike RefusedOpcode refused_opcodes) ++ numbered_each other_words

all_are : (table : List OpcodeRow) → map opcode_row table ≡ numbered_through 0 opcodes → all_words ≡ map opcode_row table ++ others
unfolding all_words others
all_are table is = ap (λ (xs : List Row). xs ++ others) (sym is)

pub match_entry-requires : goal.match_entry-requires
match_entry-requires c =
    let table = c.list_opcode_rows-opcodes in
    let few : length table.result.now ≡ 79 = sym (length-map table.result.now (λ (row : OpcodeRow). row.1)) ∙ ap length table.ensures.opcodes in
    omega (arith, few, words_count, c.requires, c.if-number-opcodes.false)

pub returns-then-number-opcodes : goal.returns-then-number-opcodes
returns-then-number-opcodes c =
    let table = c.list_opcode_rows-opcodes in
    let below = c.if-number-opcodes.true in
    let same = length-map table.result.now opcode_row in
    c.match_opcode.ensures
    ∙ look_up-front (map opcode_row table.result.now) others all_words (all_are table.result.now table.ensures.words) c.args.number c.args.word.now (omega (arith, below, same))

pub returns-else-number-opcodes : goal.returns-else-number-opcodes
unfolding others
returns-else-number-opcodes c =
    let table = c.list_opcode_rows-opcodes in
    let behind = c.if-number-opcodes.false in
    let same = length-map table.result.now opcode_row in
    c.match_entry.ensures
    ∙ look_up-others (map opcode_row table.result.now) others all_words (all_are table.result.now table.ensures.words) c.args.number (c.args.number - length table.result.now) c.args.word.now (omega (arith, behind, same))

-- The words of a function as a renaming of its words to the numbers of the module.
use Rattle.ir_semantics.specs.Renaming.{Renaming}
use Rattle.clif_lines.specs.declared.words.WordNumbers.{WordNumbers}
use Rattle.clif_lines.specs.WordNumbers.{numbers_in}

abbrev pub renaming : WordNumbers → Renaming
renaming words = numbers_in words.names.now words.sigs.items

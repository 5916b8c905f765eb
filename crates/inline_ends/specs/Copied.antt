-- What a callee's blocks become at a tail call.
use Rattle.std.specs.Prelude.{◌<◌, List, length, map}
use Rattle.debug_tags.specs.declared.tags.Tag.{Tag}
use Rattle.ir_core.specs.Module.{Block}
use Rattle.ir_core.specs.Lists.{Each}
use Rattle.inline_body.specs.declared.names.Names.{Names}
use Rattle.inline_body.specs.Named.{names_of, Moves, Reached}
use Rattle.inline_body.specs.Inlined.{copied_line}

-- a block with its lines under their numbers
abbrev pub copied_block : Names → List Tag → Block → Block
copied_block n outer b =
    record {
      number = (names_of n).block b.number;
      params = map (names_of n).value b.params;
      lines = map (copied_line n outer) b.lines;
    }

-- each number of a block has one
pub record CanCopy (n : Names) (b : Block) : Type 0 where
  pub number : b.number < length n.blocks
  pub params : Each (Moves n.values) b.params
  pub lines : Each (Reached n) b.lines

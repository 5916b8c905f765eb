-- What a callee's lines and blocks become at a plain call.
use Rattle.std.specs.Prelude.{ℕ, ◌+◌, ◌<◌, ◌≤◌, ◌^◌, List, [], ◌∷◌, ◌++◌, map, length, get_or, Bool, true, false}
use Rattle.std.specs.Prelude.{if◌then◌else◌, None}
use Rattle.debug_tags.specs.declared.tags.Tag.{Tag}
use Rattle.ir_core.specs.declared.instructions.Arg.TheVariants as arg
use Rattle.ir_core.specs.Module.{Jump, CallTarget, Instruction, Plain, Branches, SequencePoint, Return, Call}
use Rattle.ir_core.specs.Module.{ReturnCall, TryCall, Line, Block}
use Rattle.ir_core.specs.Lists.{Each}
use Rattle.ir_semantics.specs.Renaming.{called_under, instruction_under, tag_under}
use Rattle.ir_semantics.specs.Splice.{from}
use Rattle.ir_core.specs.Viewed.{line_of}
use Rattle.inline_body.specs.declared.names.Names.{Names}
use Rattle.inline_body.specs.declared.blocks.BlockLines.{BlockLines}
use Rattle.inline_body.specs.Named.{names_of, Moves, Reached}

abbrev pub takes_tags : Instruction → Bool
takes_tags (Plain p) = false
takes_tags (Branches b) = false
takes_tags SequencePoint = true
takes_tags (Return vs) = false
takes_tags (Call t args) = true
takes_tags (ReturnCall t args) = true
takes_tags (TryCall t sig args normal table) = true

-- a call or a `sequence_point` gets the site's tags in front
abbrev pub copied_tags : Names → List Tag → Instruction → List Tag → List Tag
copied_tags n outer i ts =
    if takes_tags i then outer ++ map (tag_under (names_of n)) ts else map (tag_under (names_of n)) ts

abbrev pub copied_line : Names → List Tag → Line → Line
copied_line n outer l =
    record {
      inst = instruction_under (names_of n) l.inst;
      ty = l.ty;
      results = map (names_of n).value l.results;
      tags = copied_tags n outer l.inst l.tags;
    }

abbrev pub jump_line : ℕ → List ℕ → Line
jump_line b vs =
    record {
      inst = Branches (Jump (record { block = b; args = map arg.Value vs }));
      ty = None;
      results = [];
      tags = [];
    }

abbrev pub call_in_place : Names → List Tag → List ℕ → Line → CallTarget → List ℕ → Line
call_in_place n outer results l t args =
    record {
      inst = Call (called_under (names_of n) t) (map (names_of n).value args);
      ty = l.ty;
      results = results;
      tags = outer ++ map (tag_under (names_of n)) l.tags;
    }

-- a return jumps to the block behind the body, and a tail call becomes a call with new results
abbrev pub inlined_line : Names → List Tag → ℕ → List ℕ → Line → Instruction → List Line
inlined_line n outer after results l (Plain p) = copied_line n outer l ∷ []
inlined_line n outer after results l (Branches b) = copied_line n outer l ∷ []
inlined_line n outer after results l SequencePoint = copied_line n outer l ∷ []
inlined_line n outer after results l (Return vs) = jump_line after (map (names_of n).value vs) ∷ []
inlined_line n outer after results l (Call t args) = copied_line n outer l ∷ []
inlined_line n outer after results l (ReturnCall t args) =
    call_in_place n outer results l t args ∷ jump_line after results ∷ []
inlined_line n outer after results l (TryCall t sig args normal table) = copied_line n outer l ∷ []

abbrev pub inlined_lines : Names → List Tag → ℕ → List ℕ → List Line → List Line
inlined_lines n outer after results [] = []
inlined_lines n outer after results (l ∷ ls) =
    inlined_line n outer after results l l.inst ++ inlined_lines n outer after results ls

-- so many numbers from the one of the table on
abbrev pub results_from : List ℕ → ℕ → ℕ → List ℕ
results_from starts count c = map (λ i. get_or starts c 0 + i) (from 0 count)

abbrev pub inlined_block : Names → List Tag → ℕ → List ℕ → ℕ → Block → Block
inlined_block n outer after starts count b =
    record {
      number = (names_of n).block b.number;
      params = map (names_of n).value b.params;
      lines = inlined_lines n outer after (results_from starts count b.number) b.lines;
    }

-- each number of a block has one
pub record BlockReached (n : Names) (starts : List ℕ) (count : ℕ) (b : Block) : Type 0 where
  pub number : b.number < length n.blocks
  pub start : b.number < length starts
  pub fits : get_or starts b.number 0 + count ≤ 2 ^ 32
  pub params : Each (Moves n.values) b.params
  pub lines : Each (Reached n) b.lines

-- blocks whose parameters and whose lines are two lists
abbrev pub blocks_from : List (List ℕ) → List BlockLines → List Block
blocks_from [] xs = []
blocks_from (ps ∷ pss) [] = []
blocks_from (ps ∷ pss) (x ∷ xs) =
    record { number = x.block; params = ps; lines = map line_of x.lines } ∷ blocks_from pss xs

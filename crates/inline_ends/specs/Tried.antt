-- What a callee's blocks become at a `try_call`: a return jumps to the site's normal target, each call gets the site's
-- table, and a plain call ends its block, where a new one goes on with its results.
use Rattle.std.specs.Prelude.{ℕ, ◌+◌, List, [], ◌∷◌, ◌++◌, map, length, Bool, true, false, if◌then◌else◌, None}
use Rattle.std.specs.Prelude.{Some, slice_get}
use Rattle.exn_tables.specs.declared.table.Entry.{Entry}
use Rattle.debug_tags.specs.declared.tags.Tag.{Tag}
use Rattle.ir_core.specs.declared.declarations.Callee.{Callee}
use Rattle.ir_core.specs.declared.instructions.Arg.{Arg}
use Rattle.ir_core.specs.declared.instructions.Arg.TheVariants as arg
use Rattle.ir_core.specs.declared.instructions.BlockCall.{BlockCall}
use Rattle.ir_core.specs.Module.{Jump, CallTarget, Direct, Indirect, Instruction, Plain, Branches}
use Rattle.ir_core.specs.Module.{SequencePoint, Return, Call, ReturnCall, TryCall, Line, Block}
use Rattle.ir_semantics.specs.Renaming.{called_under, try_target_under, target_under, entry_under, tag_under}
use Rattle.ir_semantics.specs.Splice.{Fragment, from, or_ret, try_target}
use Rattle.inline_body.specs.declared.names.Names.{Names}
use Rattle.inline_body.specs.Named.{names_of}
use Rattle.inline_body.specs.Inlined.{copied_line}

-- the tags, the normal target and the table of the site, and the callee declarations that its function has then
pub record OuterTry : Type 0 where
  pub tags : List Tag
  pub normal : BlockCall
  pub table : List (Entry BlockCall)
  pub callees : List Callee

abbrev pub is_plain_call : Instruction → Bool
is_plain_call (Plain p) = false
is_plain_call (Branches b) = false
is_plain_call SequencePoint = false
is_plain_call (Return vs) = false
is_plain_call (Call t args) = true
is_plain_call (ReturnCall t args) = false
is_plain_call (TryCall t sig args normal table) = false

-- how many of the lines are plain calls
abbrev pub plain_calls : List Line → ℕ
plain_calls [] = 0
plain_calls (l ∷ ls) = (if is_plain_call l.inst then 1 else 0) + plain_calls ls

abbrev pub plain_calls_in : List Block → ℕ
plain_calls_in [] = 0
plain_calls_in (b ∷ bs) = plain_calls b.lines + plain_calls_in bs

-- the number of each block in list order, where those that go on behind a block's calls follow it
abbrev pub numbered_with_calls : ℕ → List Block → List ℕ
numbered_with_calls n [] = []
numbered_with_calls n (b ∷ bs) = n ∷ numbered_with_calls (n + plain_calls b.lines + 1) bs

-- an argument of the normal target, where the callee returns the values
abbrev pub returned_arg : List ℕ → Arg → Arg
returned_arg vs (arg.Value v) = arg.Value v
returned_arg vs (arg.Ret i) = or_ret i (slice_get vs i)
returned_arg vs (arg.Exn i) = arg.Exn i

abbrev pub return_line : BlockCall → List ℕ → Line
return_line normal vs =
    record {
      inst = Branches (Jump (record { block = normal.block; args = map (returned_arg vs) normal.args }));
      ty = None;
      results = [];
      tags = [];
    }

-- the signature of what a call calls
abbrev pub sig_called : List Callee → CallTarget → ℕ
sig_called cs (Direct k) = elim (slice_get cs k) [ None ↦ 0 | Some c ↦ c.sig ]
sig_called cs (Indirect s a) = s

-- a `try_call` with the site's table in place of a call
abbrev pub try_of : Names → OuterTry → CallTarget → List ℕ → BlockCall → Instruction
try_of n s t args normal =
    TryCall (try_target (called_under (names_of n) t)) (sig_called s.callees (called_under (names_of n) t))
    (map (names_of n).value args) normal s.table

abbrev pub try_line : Names → OuterTry → Line → Instruction → Line
try_line n s l inst =
    record { inst = inst; ty = l.ty; results = []; tags = s.tags ++ map (tag_under (names_of n)) l.tags }

-- the block `next`, with the results of a line
abbrev pub to_next : ℕ → Line → BlockCall
to_next next l = record { block = next; args = map arg.Ret (from 0 (length l.results)) }

-- a line in its block; a plain call goes on in the block `next`
abbrev pub tried_line : Names → OuterTry → ℕ → Line → Instruction → Line
tried_line n s next l (Plain p) = copied_line n s.tags l
tried_line n s next l (Branches b) = copied_line n s.tags l
tried_line n s next l SequencePoint = copied_line n s.tags l
tried_line n s next l (Return vs) = return_line s.normal (map (names_of n).value vs)
tried_line n s next l (Call t args) = try_line n s l (try_of n s t args (to_next next l))
tried_line n s next l (ReturnCall t args) = try_line n s l (try_of n s t args s.normal)
tried_line n s next l (TryCall t sig args normal table) =
    try_line n s l
    (TryCall (try_target_under (names_of n) t) ((names_of n).sig sig) (map (names_of n).value args)
    (target_under (names_of n) normal) (map (entry_under (names_of n)) table ++ s.table))

abbrev pub with_line : Names → ℕ → Line → Line → Bool → Fragment → Fragment
with_line n next l new true rest =
    record {
      lines = new ∷ [];
      more = record { number = next; params = map (names_of n).value l.results; lines = rest.lines } ∷ rest.more;
    }
with_line n next l new false rest = record { lines = new ∷ rest.lines; more = rest.more }

-- the lines of a block, and the blocks that go on behind its calls, of the numbers from `next` on
abbrev pub tried_lines : Names → OuterTry → ℕ → List Line → Fragment
tried_lines n s next [] = record { lines = []; more = [] }
tried_lines n s next (l ∷ ls) =
    with_line n next l (tried_line n s next l l.inst) (is_plain_call l.inst)
    (tried_lines n s (if is_plain_call l.inst then next + 1 else next) ls)

-- a block with these lines, and those that go on behind its calls
abbrev pub block_with : ℕ → List ℕ → Fragment → List Block
block_with number params fragment =
    record { number = number; params = params; lines = fragment.lines } ∷ fragment.more

abbrev pub tried_block : Names → OuterTry → Block → List Block
tried_block n s b =
    block_with ((names_of n).block b.number) (map (names_of n).value b.params)
    (tried_lines n s ((names_of n).block b.number + 1) b.lines)

abbrev pub tried_blocks : Names → OuterTry → List Block → List Block
tried_blocks n s [] = []
tried_blocks n s (b ∷ bs) = tried_block n s b ++ tried_blocks n s bs

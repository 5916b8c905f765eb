-- A call replaced by the body of its callee. The block of the call is cut at the call and jumps to the body's first
-- block. The body stands behind it, under numbers of its own; what the body does at its returns and calls depends on
-- the kind of the call. The rest of the caller's blocks follow.
use Rattle.std.specs.Prelude.{ℕ, zero, suc, ◌+◌, ◌*◌, List, [], ◌∷◌, ◌++◌, length, map, take, drop, Option, Some, None}
use Rattle.std.specs.Prelude.{nat_eq, if◌then◌else◌, slice_get}
use Rattle.exn_tables.specs.declared.table.Entry.{Entry}
use Rattle.debug_tags.specs.declared.tags.Tag.{Tag}
use Rattle.ir_core.specs.declared.signatures.Ty.{Ty}
use Rattle.ir_core.specs.declared.instructions.Arg.{Arg}
use Rattle.ir_core.specs.declared.instructions.Arg.TheVariants as arg
use Rattle.ir_core.specs.declared.instructions.BlockCall.{BlockCall}
use Rattle.ir_core.specs.Module.{Jump, CallTarget, Direct, Indirect, TryTarget, TryDirect, TryIndirect, Instruction}
use Rattle.ir_core.specs.Module.{Branches, SequencePoint, Return, Call, ReturnCall, TryCall, Line, Block, Function}
use Rattle.ir_core.specs.Module.{Module}
use Rattle.ir_core.specs.Lookup.{same_name, find_block, type_in}
use Rattle.ir_semantics.specs.Renaming.{Renaming, target_under, tag_under, entry_under, called_under, try_target_under}
use Rattle.ir_semantics.specs.Renaming.{instruction_under, line_under, block_under, typed_under}
use Rattle.ir_semantics.specs.Import.{sigs_after, sig_after, callees_after, callee_after, slot_after}

-- the numbers that a splice gives to the caller's names, the callee's and its own
pub record Naming : Type 0 where
  pub caller_value : ℕ → ℕ
  pub callee_value : ℕ → ℕ
  pub caller_block : ℕ → ℕ
  pub callee_block : ℕ → ℕ
  -- the block behind the body
  pub after : ℕ
  -- new values and blocks, by a block of the callee and a number
  pub new_value : ℕ → ℕ → ℕ
  pub new_block : ℕ → ℕ → ℕ

-- a call in a function, to be replaced: the line `site` of the block `at`, between the lines `before` and `behind`
pub record Splicing : Type 0 where
  pub naming : Naming
  pub caller : Function
  pub callee : Function
  pub at : ℕ
  pub before : List Line
  pub site : Line
  pub behind : List Line

-- a plain call, one that takes its frame's place, or one with a normal target and an exception table
pub data Kind : Type 0 where
  Within : Kind
  Last : Kind
  Tries : BlockCall → List (Entry BlockCall) → Kind

abbrev pub kind_of : Instruction → Kind
kind_of (ReturnCall t args) = Last
kind_of (TryCall t sig args normal table) = Tries normal table
kind_of _ = Within

abbrev pub args_of : Instruction → List ℕ
args_of (Call t args) = args
args_of (ReturnCall t args) = args
args_of (TryCall t sig args normal table) = args
args_of _ = []

-- tags in front of those of a call or a `sequence_point`
abbrev pub tags_before : Instruction → List Tag → List Tag → List Tag
tags_before SequencePoint outer inner = outer ++ inner
tags_before (Call t args) outer inner = outer ++ inner
tags_before (ReturnCall t args) outer inner = outer ++ inner
tags_before (TryCall t sig args normal table) outer inner = outer ++ inner
tags_before _ outer inner = inner

-- what a call calls, where a `try_call` stands in its place
abbrev pub try_target : CallTarget → TryTarget
try_target (Direct k) = TryDirect k
try_target (Indirect s a) = TryIndirect a

-- n numbers from i on
abbrev pub from : ℕ → ℕ → List ℕ
from i zero = []
from i (suc n) = i ∷ from (suc i) n

abbrev pub first_number : List Block → ℕ
first_number [] = 0
first_number (b ∷ bs) = b.number

abbrev pub or_ret : ℕ → Option ℕ → Arg
or_ret i None = arg.Ret i
or_ret i (Some v) = arg.Value v

-- each value with its type in the list, where it has one
abbrev pub with_type : ℕ → Option Ty → List (ℕ × Ty)
with_type v None = []
with_type v (Some t) = (v, t) ∷ []

-- what a block of the callee becomes: its lines, and the blocks that follow it
pub record Fragment : Type 0 where
  pub lines : List Line
  pub more : List Block

module _ (p : Splicing) where
  -- ---- numbers

  abbrev pub caller_names : Renaming
  caller_names =
      record {
        value = p.naming.caller_value;
        block = p.naming.caller_block;
        slot = λ k. k;
        sig = λ s. s;
        callee = λ k. k;
      }

  abbrev pub callee_names : Renaming
  callee_names =
      record {
        value = p.naming.callee_value;
        block = p.naming.callee_block;
        slot = slot_after p.caller p.callee;
        sig = sig_after p.caller p.callee;
        callee = callee_after p.caller p.callee;
      }

  -- ---- lines

  -- the site's tags go in front
  abbrev pub joined_tags : Instruction → List Tag → List Tag
  joined_tags i ts = tags_before i (map (tag_under caller_names) p.site.tags) (map (tag_under callee_names) ts)

  -- a line of the callee with another instruction
  abbrev pub line_with : Line → Instruction → List ℕ → Line
  line_with i inst results = record { inst = inst; ty = i.ty; results = results; tags = joined_tags i.inst i.tags }

  abbrev pub callee_line : Line → Line
  callee_line i = line_with i (instruction_under callee_names i.inst) (map p.naming.callee_value i.results)

  abbrev pub jump_to : BlockCall → Line
  jump_to t = record { inst = Branches (Jump t); ty = None; results = []; tags = [] }

  abbrev pub to_after : List ℕ → Line
  to_after vs = jump_to (record { block = p.naming.after; args = map arg.Value vs })

  -- an argument of the site's normal target, where the callee returns vs
  abbrev pub returned_arg : List ℕ → Arg → Arg
  returned_arg vs (arg.Value v) = arg.Value (p.naming.caller_value v)
  returned_arg vs (arg.Ret i) = or_ret i (slice_get (map p.naming.callee_value vs) i)
  returned_arg vs (arg.Exn i) = arg.Exn i

  abbrev pub to_normal : BlockCall → List ℕ → Line
  to_normal normal vs =
      jump_to (record { block = p.naming.caller_block normal.block; args = map (returned_arg vs) normal.args })

  -- as many new results as the site has
  abbrev pub new_results : ℕ → List ℕ
  new_results c = map (p.naming.new_value c) (from 0 (length p.site.results))

  -- the signature number of a call's callee declaration in the result, or the one that an indirect call names
  abbrev pub named_sig : CallTarget → ℕ
  named_sig (Direct k) = elim (slice_get (callees_after p.caller p.callee) k) [ None ↦ 0 | Some c ↦ c.sig ]
  named_sig (Indirect s a) = s

  abbrev pub front : Line → Fragment → Fragment
  front i q = record { lines = i ∷ q.lines; more = q.more }

  abbrev pub try_with : Line → TryTarget → ℕ → List ℕ → BlockCall → List (Entry BlockCall) → Line
  try_with i t sig args normal table = line_with i (TryCall t sig (map p.naming.callee_value args) normal table) []

  -- ---- the kinds of site: line is the callee's, the place-th of its block of that number; further is what the lines
  -- behind it give

  -- at a plain call a return jumps to the block behind the body, and a tail call becomes a call
  abbrev pub within_fragment : ℕ → ℕ → Line → Instruction → Fragment → Fragment
  within_fragment block place line (Return vs) further = front (to_after (map p.naming.callee_value vs)) further
  within_fragment block place line (ReturnCall t args) further =
      front (line_with line (Call (called_under callee_names t) (map p.naming.callee_value args)) (new_results block))
      (front (to_after (new_results block)) further)
  within_fragment block place line _ further = front (callee_line line) further

  -- the site's table
  abbrev pub outer_table : List (Entry BlockCall) → List (Entry BlockCall)
  outer_table table = map (entry_under caller_names) table

  -- a call of the callee as a `try_call`, with its callee's signature
  abbrev pub call_as_try : Line → CallTarget → List ℕ → BlockCall → List (Entry BlockCall) → Line
  call_as_try i t args normal table =
      try_with i (try_target (called_under callee_names t)) (named_sig (called_under callee_names t)) args normal table

  -- a `try_call` of the callee, whose table comes before the site's
  abbrev pub joined_try : Line → TryTarget → ℕ → List ℕ → BlockCall → List (Entry BlockCall) → List (Entry BlockCall)
      → Line
  joined_try i t sig args own inner table =
      try_with i (try_target_under callee_names t) (sig_after p.caller p.callee sig) args
      (target_under callee_names own) (map (entry_under callee_names) inner ++ outer_table table)

  -- where a call that became a `try_call` goes on: its results are the parameters of a new block, which has the lines
  abbrev pub to_rest : ℕ → ℕ → Line → BlockCall
  to_rest block place line =
      record { block = p.naming.new_block block place; args = map arg.Ret (from 0 (length line.results)) }

  abbrev pub rest_block : ℕ → ℕ → Line → List Line → Block
  rest_block block place line behind =
      record {
        number = p.naming.new_block block place;
        params = map p.naming.callee_value line.results;
        lines = behind;
      }

  -- at a `try_call` a return jumps to the normal target, and each call gets the site's table
  abbrev pub tries_fragment : BlockCall → List (Entry BlockCall) → ℕ → ℕ → Line → Instruction → Fragment → Fragment
  tries_fragment normal table block place line (Return vs) further = front (to_normal normal vs) further
  tries_fragment normal table block place line (Call t args) further =
      record {
        lines = call_as_try line t args (to_rest block place line) (outer_table table) ∷ [];
        more = rest_block block place line further.lines
            ∷ further.more;
      }
  tries_fragment normal table block place line (TryCall t sig args own inner) further =
      front (joined_try line t sig args own inner table) further
  tries_fragment normal table block place line (ReturnCall t args) further =
      front (call_as_try line t args (target_under caller_names normal) (outer_table table)) further
  tries_fragment normal table block place line _ further = front (callee_line line) further

  abbrev pub fragment_by : Kind → ℕ → ℕ → Line → Fragment → Fragment
  fragment_by Within block place line further = within_fragment block place line line.inst further
  fragment_by Last block place line further = front (callee_line line) further
  fragment_by (Tries normal table) block place line further =
      tries_fragment normal table block place line line.inst further

  abbrev pub fragment : ℕ → ℕ → List Line → Fragment
  fragment block place [] = record { lines = []; more = [] }
  fragment block place (line ∷ behind) =
      fragment_by (kind_of p.site.inst) block place line (fragment block (suc place) behind)

  abbrev pub body : List Block → List Block
  body [] = []
  body (b ∷ bs) =
      record {
        number = p.naming.callee_block b.number;
        params = map p.naming.callee_value b.params;
        lines = (fragment b.number 0 b.lines).lines;
      } ∷ ((fragment b.number 0 b.lines).more ++ body bs)

  -- ---- the caller's blocks

  abbrev pub jump_in : Line
  jump_in =
      jump_to (record {
        block = p.naming.callee_block (first_number p.callee.blocks);
        args = map arg.Value (map p.naming.caller_value (args_of p.site.inst));
      })

  abbrev pub cut_block : Block → Block
  cut_block b =
      record {
        number = p.naming.caller_block b.number;
        params = map p.naming.caller_value b.params;
        lines = map (line_under caller_names) p.before ++ (jump_in ∷ []);
      }

  -- its parameters are the site's results
  abbrev pub after_block : Block
  after_block =
      record {
        number = p.naming.after;
        params = map p.naming.caller_value p.site.results;
        lines = map (line_under caller_names) p.behind;
      }

  abbrev pub after_blocks : Kind → List Block
  after_blocks Within = after_block ∷ []
  after_blocks Last = []
  after_blocks (Tries normal table) = []

  abbrev pub spliced_blocks : List Block → List Block
  spliced_blocks [] = []
  spliced_blocks (b ∷ bs) =
      if nat_eq b.number p.at then cut_block b
      ∷ (body p.callee.blocks ++ (after_blocks (kind_of p.site.inst) ++ map (block_under caller_names) bs))
      else block_under caller_names b ∷ spliced_blocks bs

  -- ---- types: those of both functions, and the new results', which are those of the site's results

  abbrev pub typed_results : ℕ → ℕ → List ℕ → List (ℕ × Ty)
  typed_results c i [] = []
  typed_results c i (v ∷ vs) =
      with_type (p.naming.new_value c i) (type_in p.caller.types v) ++ typed_results c (suc i) vs

  abbrev pub new_types_by : ℕ → Kind → Instruction → List (ℕ × Ty)
  new_types_by c Within (ReturnCall t args) = typed_results c 0 p.site.results
  new_types_by c Within _ = []
  new_types_by c Last i = []
  new_types_by c (Tries normal table) i = []

  abbrev pub line_types : ℕ → List Line → List (ℕ × Ty)
  line_types c [] = []
  line_types c (i ∷ is) = new_types_by c (kind_of p.site.inst) i.inst ++ line_types c is

  abbrev pub new_types : List Block → List (ℕ × Ty)
  new_types [] = []
  new_types (b ∷ bs) = line_types b.number b.lines ++ new_types bs

  abbrev pub spliced : Function
  spliced =
      record {
        name = p.caller.name;
        sig = p.caller.sig;
        slots = p.caller.slots ++ p.callee.slots;
        sigs = sigs_after p.caller p.callee;
        callees = callees_after p.caller p.callee;
        types = map (typed_under caller_names) p.caller.types
            ++ (map (typed_under callee_names) p.callee.types ++ new_types p.callee.blocks);
        blocks = spliced_blocks p.caller.blocks;
      }

-- ---- names with their side

-- a number for two numbers
abbrev pub triangle : ℕ → ℕ
triangle zero = 0
triangle (suc k) = triangle k + suc k

abbrev pub pair : ℕ → ℕ → ℕ
pair c j = triangle (c + j) + j

-- each name is a pair of its side, the caller (0), the callee (1) or new (2), and its old name
abbrev pub sides : Naming
sides =
    record {
      caller_value = λ v. 3 * v;
      callee_value = λ v. 3 * v + 1;
      caller_block = λ b. 3 * b;
      callee_block = λ b. 3 * b + 1;
      after = 2;
      new_value = λ c i. 3 * pair c i + 2;
      new_block = λ c j. 3 * pair c j + 5;
    }

-- f with the call at a line of one of its blocks replaced by the body of g
abbrev pub splice_with : Naming → Function → ℕ → ℕ → Function → Function
splice_with n f at i g =
    elim (find_block at f.blocks) [
      | None ↦ f
      | Some b ↦ elim (slice_get b.lines i) [
        | None ↦ f
        | Some l ↦ spliced
            (record {
              naming = n;
              caller = f;
              callee = g;
              at = at;
              before = take i b.lines;
              site = l;
              behind = drop (suc i) b.lines;
            })
      ]
    ]

-- a function in place of the one of its name
abbrev pub replace : Function → Module → Module
replace f [] = []
replace f (h ∷ hs) = if same_name h.name f.name then f ∷ hs else h ∷ replace f hs

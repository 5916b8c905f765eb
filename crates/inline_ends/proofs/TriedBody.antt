-- The body at a `try_call`, line by line.
use Rattle.std.proofs.Common.{◌≡◌, ℕ, suc, ◌+◌, List, [], ◌∷◌, ◌++◌, map, length, take, get_or, Bool, true, false, None, refl, sym, ap, ap₂, ◌∙◌, arith, append_assoc, length-append}
use Rattle.std.specs.Prelude.{if◌then◌else◌}
use Rattle.exn_tables.specs.declared.table.Entry.{Entry}
use Rattle.debug_tags.specs.declared.tags.Tag.{Tag}
use Rattle.ir_core.specs.declared.instructions.Arg.{Arg}
use Rattle.ir_core.specs.declared.instructions.Arg.TheVariants as arg
use Rattle.ir_core.specs.declared.instructions.BlockCall.{BlockCall}
use Rattle.ir_core.specs.Module.{Jump, CallTarget, Direct, Indirect, TryIndirect, Instruction, Plain, Branches, SequencePoint, Return, Call, ReturnCall, TryCall, Line, Block}
use Rattle.ir_core.specs.Lists.{Each}
use Rattle.ir_core.specs.Edits.{lines_of}
use Rattle.ir_semantics.specs.Import.{callees_after, sig_after, callee_after}
use Rattle.ir_semantics.specs.Renaming.{tag_under, target_under, called_under, instruction_under}
use Rattle.ir_semantics.specs.Splice.{Splicing, Kind, Tries, kind_of, try_target, caller_names, callee_names, joined_tags, callee_line, returned_arg, to_normal, named_sig, outer_table, call_as_try, to_rest, tries_fragment, Fragment, fragment_by, fragment, body}
use Rattle.inline_body.specs.declared.names.Names.{Names}
use Rattle.inline_body.specs.Named.{names_of}
use Rattle.inline_body.specs.Inlined.{copied_tags, copied_line}
use Rattle.inline_body.proofs.CalleeLines.{IsNumbering, values_are, called_are, instructions_are, joined_are, line_is}
use Rattle.inline_body.proofs.BodyDefinitions.{counted}
use Rattle.inline_body.proofs.OwnNames.{instruction_kept}
use Rattle.inline_ends.specs.Tried.{OuterTry, is_plain_call, plain_calls, return_line, sig_called, try_of, try_line, to_next, tried_line, with_line, tried_lines, block_with, tried_block, tried_blocks}
use Rattle.inline_ends.specs.Tried.{returned_arg as arg_returned}

-- the names are the numbers of the splice, and the blocks behind a block's calls follow it
pub record TryNumbers (p : Splicing) (n : Names) (s : OuterTry) : Type 0 where
  pub kind : kind_of p.site.inst ≡ Tries s.normal s.table
  pub tags : p.site.tags ≡ s.tags
  pub callees : callees_after p.caller p.callee ≡ s.callees
  pub caller_value : (v : ℕ) → p.naming.caller_value v ≡ v
  pub caller_block : (b : ℕ) → p.naming.caller_block b ≡ b
  pub value : (v : ℕ) → p.naming.callee_value v ≡ n.values + v
  pub block : (b : ℕ) → p.naming.callee_block b ≡ get_or n.blocks b 0
  pub slots : length p.caller.slots ≡ n.slots
  pub sig : (k : ℕ) → sig_after p.caller p.callee k ≡ get_or n.sigs k n.sig_count
  pub callee : (k : ℕ) → callee_after p.caller p.callee k ≡ get_or n.callees k n.callee_count
  pub new_block : (c j : ℕ) → p.naming.new_block c j ≡ get_or n.blocks c 0 + plain_calls (take j (lines_of c p.callee.blocks)) + 1

abbrev table_of : Instruction → List (Entry BlockCall)
table_of (TryCall t sig args normal table) = table
table_of i = []

abbrev normal_of : BlockCall → Instruction → BlockCall
normal_of d (TryCall t sig args normal table) = normal
normal_of d i = d

abbrev table_behind : List (Entry BlockCall) → Instruction → Instruction
table_behind es (TryCall t sig args normal table) = TryCall t sig args normal (table ++ es)
table_behind es i = i

calls_join : (xs ys : List Line) → plain_calls (xs ++ ys) ≡ plain_calls xs + plain_calls ys
calls_join [] ys = omega arith
calls_join (x ∷ xs) ys = let h = calls_join xs ys in omega (arith, h)

take_front : (xs ys : List Line) → take (length xs) (xs ++ ys) ≡ xs
take_front [] ys = refl
take_front (x ∷ xs) ys = ap (λ z. x ∷ z) (take_front xs ys)

module _ (p : Splicing) (n : Names) (s : OuterTry) (is : TryNumbers p n s) where
  numbering : IsNumbering p n
  numbering = record { value = is.value; block = is.block; slots = is.slots; sig = is.sig; callee = is.callee }

  same : (k : ℕ) → k ≡ k
  same k = refl

  tags_are : (i : Instruction) (ts : List Tag) → joined_tags p i ts ≡ copied_tags n s.tags i ts
  tags_are i ts = joined_are p n numbering i ts ∙ ap (λ (z : List Tag). copied_tags n z i ts) is.tags

  copied_is : (l : Line) → callee_line p l ≡ copied_line n s.tags l
  copied_is l = line_is p n numbering l ∙ ap (λ (z : List Tag). copied_line n z l) is.tags

  -- ---- the site's target and table

  own_kept : instruction_under (caller_names p) (TryCall (TryIndirect 0) 0 [] s.normal s.table) ≡ TryCall (TryIndirect 0) 0 [] s.normal s.table
  own_kept = instruction_kept (caller_names p) is.caller_value is.caller_block same same same (TryCall (TryIndirect 0) 0 [] s.normal s.table)

  outer_is : outer_table p s.table ≡ s.table
  outer_is = ap table_of own_kept

  normal_is : target_under (caller_names p) s.normal ≡ s.normal
  normal_is = ap (normal_of s.normal) own_kept

  args_are : (vs : List ℕ) (as' : List Arg) → map (returned_arg p vs) as' ≡ map (arg_returned (map (names_of n).value vs)) as'
  args_are vs [] = refl
  args_are vs (arg.Value v ∷ as') = ap₂ (λ (x : ℕ) (z : List Arg). arg.Value x ∷ z) (is.caller_value v) (args_are vs as')
  args_are vs (arg.Ret i ∷ as') = ap₂ (λ (x : List ℕ) (z : List Arg). returned_in i x ∷ z) (values_are p n numbering vs) (args_are vs as')
    where
      returned_in : ℕ → List ℕ → Arg
      returned_in i xs = arg_returned xs (arg.Ret i)
  args_are vs (arg.Exn i ∷ as') = ap (λ (z : List Arg). arg.Exn i ∷ z) (args_are vs as')

  return_is : (vs : List ℕ) → to_normal p s.normal vs ≡ return_line s.normal (map (names_of n).value vs)
  return_is vs = ap₂ (λ (b : ℕ) (z : List Arg). record { inst = Branches (Jump (record { block = b; args = z })); ty = None; results = []; tags = [] }) (is.caller_block s.normal.block) (args_are vs s.normal.args)

  sig_is : (t : CallTarget) → named_sig p t ≡ sig_called s.callees t
  sig_is (Direct k) = ap (λ cs. sig_called cs (Direct k)) is.callees
  sig_is (Indirect a b) = refl

  -- ---- calls

  try_is : (l : Line) (i : Instruction) (t : CallTarget) (args : List ℕ) (normal target : BlockCall) → copied_tags n s.tags i l.tags ≡ s.tags ++ map (tag_under (names_of n)) l.tags → l.inst ≡ i → normal ≡ target → call_as_try p l t args normal (outer_table p s.table) ≡ try_line n s l (try_of n s t args target)
  try_is l i t args normal target tags e g =
      ap (λ (z : Instruction). record { inst = TryCall (try_target (called_under (callee_names p) t)) (named_sig p (called_under (callee_names p) t)) (map p.naming.callee_value args) normal (outer_table p s.table); ty = l.ty; results = []; tags = joined_tags p z l.tags }) e
      ∙ (ap₂ (λ (x : CallTarget) (y : List ℕ). record { inst = TryCall (try_target x) (named_sig p x) y normal (outer_table p s.table); ty = l.ty; results = []; tags = joined_tags p i l.tags }) (called_are p n numbering t) (values_are p n numbering args)
      ∙ (ap₂ (λ (x : ℕ) (y : BlockCall). record { inst = TryCall (try_target (called_under (names_of n) t)) x (map (names_of n).value args) y (outer_table p s.table); ty = l.ty; results = []; tags = joined_tags p i l.tags }) (sig_is (called_under (names_of n) t)) g
      ∙ ap₂ (λ (x : List (Entry BlockCall)) (y : List Tag). record { inst = TryCall (try_target (called_under (names_of n) t)) (sig_called s.callees (called_under (names_of n) t)) (map (names_of n).value args) target x; ty = l.ty; results = []; tags = y }) outer_is (tags_are i l.tags ∙ tags)))

  abbrev Step : ℕ → ℕ → ℕ → Line → Instruction → Fragment → Type 0
  Step c j next l i q = tries_fragment p s.normal s.table c j l i q ≡ with_line n next l (tried_line n s next l i) (is_plain_call i) q

  abbrev fronted : Line → Fragment → Fragment
  fronted z q = record { lines = z ∷ q.lines; more = q.more }

  step : (c j next : ℕ) (l : Line) (i : Instruction) (q : Fragment) → l.inst ≡ i → p.naming.new_block c j ≡ next → Step c j next l i q
  step c j next l (Plain x) q e g = ap (λ (z : Line). fronted z q) (copied_is l)
  step c j next l (Branches x) q e g = ap (λ (z : Line). fronted z q) (copied_is l)
  step c j next l SequencePoint q e g = ap (λ (z : Line). fronted z q) (copied_is l)
  step c j next l (Return vs) q e g = ap (λ (z : Line). fronted z q) (return_is vs)
  step c j next l (Call t args) q e g =
      ap₂ (λ (x : Line) (y : Block). record { lines = x ∷ []; more = y ∷ q.more })
      (try_is l (Call t args) t args (to_rest p c j l) (to_next next l) refl e (ap (λ (z : ℕ). to_next z l) g))
      (ap₂ (λ (x : ℕ) (y : List ℕ). record { number = x; params = y; lines = q.lines }) g (values_are p n numbering l.results))
  step c j next l (ReturnCall t args) q e g = ap (λ (z : Line). fronted z q) (try_is l (ReturnCall t args) t args (target_under (caller_names p) s.normal) s.normal refl e normal_is)
  step c j next l (TryCall t sig args own inner) q e g =
      let i = TryCall t sig args own inner in
      ap (λ (z : Line). fronted z q)
      (ap (λ (z : Instruction). record { inst = table_behind (outer_table p s.table) (instruction_under (callee_names p) i); ty = l.ty; results = []; tags = joined_tags p z l.tags }) e
      ∙ (ap₂ (λ (x : Instruction) (y : List (Entry BlockCall)). record { inst = table_behind y x; ty = l.ty; results = []; tags = joined_tags p i l.tags }) (instructions_are p n numbering i) outer_is
      ∙ ap (λ (y : List Tag). record { inst = table_behind s.table (instruction_under (names_of n) i); ty = l.ty; results = []; tags = y }) (tags_are i l.tags)))

  lines_are : (c j next : ℕ) (pre ls : List Line) → lines_of c p.callee.blocks ≡ pre ++ ls → j ≡ length pre → next ≡ get_or n.blocks c 0 + plain_calls pre + 1 → fragment p c j ls ≡ tried_lines n s next ls
  lines_are c j next pre [] e g h = refl
  lines_are c j next pre (l ∷ ls) e g h =
      let number : p.naming.new_block c j ≡ next =
      is.new_block c j ∙ (ap₂ (λ (x : ℕ) (z : List Line). get_or n.blocks c 0 + plain_calls (take x z) + 1) g e ∙ (ap (λ (z : List Line). get_or n.blocks c 0 + plain_calls z + 1) (take_front pre (l ∷ ls)) ∙ sym h)) in
      ap (λ (k : Kind). fragment_by p k c j l (fragment p c (suc j) ls)) is.kind
      ∙ (step c j next l l.inst (fragment p c (suc j) ls) refl number
      ∙ ap (with_line n next l (tried_line n s next l l.inst) (is_plain_call l.inst))
      (lines_are c (suc j) (if is_plain_call l.inst then next + 1 else next) (pre ++ (l ∷ [])) ls (e ∙ sym (append_assoc pre (l ∷ []) ls)) (let k = length-append pre (l ∷ []) in omega (arith, g, k))
      (behind (is_plain_call l.inst) refl)))
    where
      behind : (b : Bool) → is_plain_call l.inst ≡ b → (if is_plain_call l.inst then next + 1 else next) ≡ get_or n.blocks c 0 + plain_calls (pre ++ (l ∷ [])) + 1
      behind true q =
          let one : counted (is_plain_call l.inst) ≡ counted true = ap counted q in
          let k = calls_join pre (l ∷ []) in
          ap (λ (z : Bool). if z then next + 1 else next) q ∙ omega (arith, h, k, one)
      behind false q =
          let none : counted (is_plain_call l.inst) ≡ counted false = ap counted q in
          let k = calls_join pre (l ∷ []) in
          ap (λ (z : Bool). if z then next + 1 else next) q ∙ omega (arith, h, k, none)

  pub body_is : (bs : List Block) → Each (λ (b : Block). lines_of b.number p.callee.blocks ≡ b.lines) bs → body p bs ≡ tried_blocks n s bs
  body_is [] h = refl
  body_is (b ∷ bs) h =
      ap (λ (q : Fragment). record { number = p.naming.callee_block b.number; params = map p.naming.callee_value b.params; lines = q.lines } ∷ (q.more ++ body p bs)) (lines_are b.number 0 (get_or n.blocks b.number 0 + 1) [] b.lines h.0 refl (omega arith))
      ∙ (ap₂ (λ (x : ℕ) (y : List ℕ). block_with x y (tried_lines n s (get_or n.blocks b.number 0 + 1) b.lines) ++ body p bs) (is.block b.number) (values_are p n numbering b.params)
      ∙ ap (λ (z : List Block). tried_block n s b ++ z) (body_is bs h.1))

-- Modules that are the same up to numbering: each function under other numbers of values and blocks, by the theorem on
-- splices where nothing is spliced.
use Rattle.std.proofs.Common.{◌≡◌, ℕ, zero, suc, ◌+◌, ◌<◌, ◌≤◌, ◌⊎◌, inl, inr, List, [], ◌∷◌, ◌++◌, map, Option, Some, None, refl, sym, ap, ap₂, ◌∙◌, subst, arith, eq-eqb, ne_eqb}
use Rattle.std.specs.Prelude.{slice_get, if◌then◌else◌}
use Rattle.std.proofs.lemmas.Bool.{cases_eq}
use Rattle.exn_tables.specs.declared.table.Entry.{Entry}
use Rattle.debug_tags.specs.declared.tags.Tag.{Tag}
use Rattle.debug_tags.specs.declared.tags.Tag.TheVariants as tag
use Rattle.ir_core.specs.declared.names.FuncName.{FuncName}
use Rattle.ir_core.specs.declared.names.FuncName.TheVariants as name
use Rattle.ir_core.specs.declared.signatures.Conv.TheVariants.{Fast}
use Rattle.ir_core.specs.declared.instructions.Arg.{Arg}
use Rattle.ir_core.specs.declared.instructions.Arg.TheVariants as arg
use Rattle.ir_core.specs.declared.instructions.BlockCall.{BlockCall}
use Rattle.ir_core.specs.Module.{Simple, Nop, Const, Pure, PureImm, Load, Store, StackLoad, StackStore, FuncAddr, Trap, Trapz, Trapnz, Branch, Jump, Brif, BrTable, CallTarget, Direct, Indirect, Instruction, Plain, Branches, SequencePoint, Return, Call, ReturnCall, TryCall, Line, Block, Function, Module, call_target, TryTarget, TryDirect, TryIndirect}
use Rattle.ir_core.specs.Lookup.{same_name, find_function, find_block, line_definitions, definitions, block_numbers, number_in}
use Rattle.ir_core.specs.Lists.{In, Each, Different}
use Rattle.ir_semantics.specs.Names.{mentioned, in_order}
use Rattle.ir_semantics.specs.Names.{names as module_names}
use Rattle.ir_semantics.specs.Renaming.{Renaming, arg_under, target_under, tag_under, entry_under, simple_under, branch_under, called_under, instruction_under, line_under, block_under, try_target_under}
use Rattle.ir_semantics.specs.Splice.{Splicing, sides}
use Rattle.ir_semantics.specs.Canon.{canonical_names, canonical, canonical_module}
use Rattle.ir_core.specs.Uses.{table_targets, branch_targets, targets, arg_values_used, targets_used, simple_used, branch_used, called_used, operands, values_used, blocks_used}
use Rattle.ir_core.specs.WellFormed.{declared, LineWellFormed, BlockWellFormed, WellFormed}
use Rattle.ir_core.proofs.Gets.{some_same, get_below}
use Rattle.ir_core.proofs.Members.{in_left, in_right, each_by}
use Rattle.ir_core.proofs.Equal.{cases_name}
use Rattle.ir_semantics.specs.Same.{Safe, Written}
use Rattle.inline_outcomes.specs.Laws.{RunsKept, NumberingKeepsRuns}
use Rattle.inline_outcomes.proofs.Local.{Injective}
use Rattle.inline_outcomes.proofs.Frames.{Embeds}
use Rattle.inline_outcomes.proofs.Related.{RestOf}
use Rattle.inline_outcomes.proofs.Stepping.{Starts, renamed, LinkOf, Linked}
use Rattle.inline_outcomes.proofs.Places.{ren_find}
use Rattle.inline_outcomes.proofs.Runs.{SameRuns, same_runs}
use Rattle.inline_outcomes.proofs.Functions.{function_hit, function_skip}
use Rattle.inline_outcomes.proofs.Linking.{distinct_sides, same_numbers}

-- ---- composition

pub runs_kept : (m r : Module) → SameRuns m r → RunsKept m r
runs_kept m r same entry args w a b =
    let s = same entry args w a b in
    ((λ n. let p = s.forth n in (p.0, p.1, p.3)), (λ k. s.back k))

pub kept_on : (m c r : Module) → RunsKept m c → RunsKept c r → RunsKept m r
kept_on m c r p q entry args w a b =
    let s = p entry args w a b in
    let safe' : Safe c entry args w = λ k h. let t = s.1 k in a t.0 (sym (ap (λ z. z.end) t.2) ∙ h) in
    let written' : Written c entry args w = λ k h. let t = s.1 k in b t.0 (sym (ap (λ z. z.end) t.2) ∙ h) in
    let u = q entry args w safe' written' in
    ((λ n. let x = s.0 n in let y = u.0 x.0 in (y.0, omega (arith, x.1, y.1), y.2 ∙ x.2)), (λ k. let y = u.1 k in let x = s.1 y.0 in (x.0, omega (arith, x.1, y.1), y.2 ∙ x.2)))

-- ---- other numbers

-- f' is f with other numbers of values and blocks
pub record Renumbers (r : Renaming) (f f' : Function) : Type 0 where
  pub sig : f'.sig ≡ f.sig
  pub slots : f'.slots ≡ f.slots
  pub sigs : f'.sigs ≡ f.sigs
  pub callees : f'.callees ≡ f.callees
  pub blocks : f'.blocks ≡ map (block_under r) f.blocks

pub record Renumbered (m r : Module) : Type 0 where
  pub names : FuncName → Renaming
  pub value : (x : FuncName) → Injective (names x).value
  pub block : (x : FuncName) → Injective (names x).block
  pub slot : (x : FuncName) (k : ℕ) → (names x).slot k ≡ k
  pub sig : (x : FuncName) (k : ℕ) → (names x).sig k ≡ k
  pub callee : (x : FuncName) (k : ℕ) → (names x).callee k ≡ k
  pub there : (x : FuncName) (f : Function) → find_function x m ≡ Some f → (f' : Function) × (find_function x r ≡ Some f') × Renumbers (names x) f f'
  pub absent : (x : FuncName) → find_function x m ≡ None → find_function x r ≡ None
  pub all_names : module_names m ≡ module_names r

pub renumber_embeds : (r : Renaming) (f f' : Function) → Injective r.value → Injective r.block → ((k : ℕ) → r.slot k ≡ k) → ((k : ℕ) → r.sig k ≡ k) → ((k : ℕ) → r.callee k ≡ k) → Renumbers r f f' → Embeds f f' r (RestOf r)
renumber_embeds r f f' value block slot sig callee same =
    record {
      fits = record {
        value = value;
        slot = λ a b q. sym (slot a) ∙ q ∙ slot b;
        size = λ k z q. (ap (λ xs. slice_get xs (r.slot k)) same.slots ∙ ap (slice_get f.slots) (slot k) ∙ q, get_below f.slots k z q);
        sig = λ k s q. ap (λ xs. slice_get xs (r.sig k)) same.sigs ∙ ap (slice_get f.sigs) (sig k) ∙ q;
        callee = λ k c q. (c, ap (λ xs. slice_get xs (r.callee k)) same.callees ∙ ap (slice_get f.callees) (callee k) ∙ q, record { name = refl; sig = λ s e. ap (λ xs. slice_get xs c.sig) same.sigs ∙ e });
      };
      block = λ b k q. (block_under r k, ap (λ bs. find_block (r.block b) bs) same.blocks ∙ ren_find r block f.blocks b k q, refl, refl);
    }

renumber_starts : (r : Renaming) (f f' : Function) → Renumbers r f f' → Starts f f' r (RestOf r)
renumber_starts r f f' same = record { first = λ b bs q. (block_under r b, map (block_under r) bs, same.blocks ∙ ap (map (block_under r)) q, refl, refl) }

empty : Function
empty = record { name = name.Text []; sig = record { params = []; results = []; conv = Fast }; slots = []; sigs = []; callees = []; types = []; blocks = [] }

no_splice : Splicing
unfolding empty
no_splice = record { naming = sides; caller = empty; callee = empty; at = 0; before = []; site = record { inst = ReturnCall (Direct 0) []; ty = None; results = []; tags = [] }; behind = [] }

renumber_linked : (m r : Module) → Renumbered m r → Linked m r no_splice
unfolding empty no_splice
renumber_linked m r h =
    record {
      names = distinct_sides;
      same_names = h.all_names;
      f_embeds = record {
        fits = record { value = distinct_sides.caller_value; slot = λ a b q. q; size = λ k z q. cc; sig = λ k s q. cc; callee = λ k c q. cc };
        block = λ b k q. cc;
      };
      f_starts = record { first = λ b bs q. cc };
      g_embeds = record {
        fits = record { value = distinct_sides.callee_value; slot = λ a b q. omega (arith, q); size = λ k z q. cc; sig = λ k s q. cc; callee = λ k c q. cc };
        block = λ b k q. cc;
      };
      after_found = λ q. cc;
      funcs = λ x. by x (find_function x m) refl;
      callee = 0;
      is_call = refl;
      calls_callee = λ c q. cc;
    }
  where
    by : (x : FuncName) (o : Option Function) → find_function x m ≡ o → LinkOf no_splice o (find_function x r)
    by x None q = h.absent x q
    by x (Some f) q =
        let p = h.there x f q in
        (p.0, p.1, renamed (h.names x) p.2.sig (renumber_embeds (h.names x) f p.0 (h.value x) (h.block x) (h.slot x) (h.sig x) (h.callee x) p.2) (renumber_starts (h.names x) f p.0 p.2))

pub renumber_same : (m r : Module) → Renumbered m r → SameRuns m r
renumber_same m r h = same_runs m r no_splice (renumber_linked m r h)

-- ---- the number_in of a number, and the number at a number_in

pub place_hit : (x : ℕ) (xs : List ℕ) (v : ℕ) → v ≡ x → number_in (x ∷ xs) v ≡ 0
place_hit x xs v h = ap (λ c. if c then 0 else suc (number_in xs v)) (eq-eqb x v (sym h))

pub place_skip : (x : ℕ) (xs : List ℕ) (v : ℕ) → (v ≡ x → ⊥) → number_in (x ∷ xs) v ≡ suc (number_in xs v)
place_skip x xs v h = ap (λ c. if c then 0 else suc (number_in xs v)) (ne_eqb x v (λ q. h (sym q)))

pub place_injective : (xs : List ℕ) → Injective (number_in xs)
place_injective [] a b h = h
place_injective (x ∷ xs) a b h =
    elim (cases_eq a x) [
      | inl p ↦ elim (cases_eq b x) [ inl q ↦ p ∙ sym q | inr q ↦ let e : 0 ≡ suc (number_in xs b) = sym (place_hit x xs a p) ∙ h ∙ place_skip x xs b q in absurd (omega (arith, e)) ]
      | inr p ↦ elim (cases_eq b x) [
        | inl q ↦ let e : suc (number_in xs a) ≡ 0 = sym (place_skip x xs a p) ∙ h ∙ place_hit x xs b q in absurd (omega (arith, e))
        | inr q ↦ let e : suc (number_in xs a) ≡ suc (number_in xs b) = sym (place_skip x xs a p) ∙ h ∙ place_skip x xs b q in let e' : number_in xs a ≡ number_in xs b = omega (arith, e) in place_injective xs a b e'
      ]
    ]

-- past the end a number that is not in the list
unfoldable pub back : List ℕ → ℕ → ℕ → ℕ
back [] base u = base + u
back (x ∷ xs) base zero = x
back (x ∷ xs) base (suc u) = back xs base u

abbrev pub Under : ℕ → List ℕ → Type 0
Under base [] = Unit {0}
Under base (x ∷ xs) = (x < base) × Under base xs

pub back_is : (xs : List ℕ) (base u : ℕ) → In (back xs base u) xs ⊎ (base ≤ back xs base u)
unfolding back
back_is [] base u = inr (omega arith)
back_is (x ∷ xs) base zero = inl (inl refl)
back_is (x ∷ xs) base (suc u) = elim (back_is xs base u) [ inl p ↦ inl (inr p) | inr p ↦ inr p ]

pub back_injective : (xs : List ℕ) (base : ℕ) → Different xs → Under base xs → Injective (back xs base)
unfolding back
back_injective [] base d u a b h = omega (arith, h)
back_injective (x ∷ xs) base d u zero zero h = refl
back_injective (x ∷ xs) base d u zero (suc b) h = absurd (elim (back_is xs base b) [ inl p ↦ d.0 (subst (λ z. In z xs) (sym h) p) | inr p ↦ omega (arith, u.0, h, p) ])
back_injective (x ∷ xs) base d u (suc a) zero h = absurd (elim (back_is xs base a) [ inl p ↦ d.0 (subst (λ z. In z xs) h p) | inr p ↦ omega (arith, u.0, h, p) ])
back_injective (x ∷ xs) base d u (suc a) (suc b) h = ap suc (back_injective xs base d.1 u.1 a b h)

pub back_place : (xs : List ℕ) (base v : ℕ) → In v xs → back xs base (number_in xs v) ≡ v
unfolding back
back_place [] base v p = elim p [ ]
back_place (x ∷ xs) base v p =
    elim (cases_eq v x) [
      | inl q ↦ ap (back (x ∷ xs) base) (place_hit x xs v q) ∙ sym q
      | inr q ↦ ap (back (x ∷ xs) base) (place_skip x xs v q) ∙ back_place xs base v (elim p [ inl e ↦ absurd (q e) | inr r ↦ r ])
    ]

pub above : List ℕ → ℕ
above [] = 1
above (x ∷ xs) = x + above xs

pub under_above : (xs : List ℕ) → Under (above xs) xs
unfolding above
under_above xs = go xs (above xs) (omega arith)
  where
    go : (ys : List ℕ) (base : ℕ) → above ys ≤ base → Under base ys
    go [] base h = tt
    go (y ∷ ys) base h = (omega (arith, h, some_above ys), go ys base (omega (arith, h)))
      where
        some_above : (zs : List ℕ) → 0 < above zs
        some_above [] = omega arith
        some_above (z ∷ zs) = omega (arith, some_above zs)

-- ---- numbers changed and changed back

each_left : (P : ℕ → Type 0) (xs ys : List ℕ) → Each P (xs ++ ys) → Each P xs
each_left P [] ys h = tt
each_left P (x ∷ xs) ys h = (h.0, each_left P xs ys h.1)

each_right : (P : ℕ → Type 0) (xs ys : List ℕ) → Each P (xs ++ ys) → Each P ys
each_right P [] ys h = h
each_right P (x ∷ xs) ys h = each_right P xs ys h.1

module _ (r u : Renaming) (V B : ℕ → Type 0) (value : (v : ℕ) → V v → u.value (r.value v) ≡ v) (block : (b : ℕ) → B b → u.block (r.block b) ≡ b) (slot : (k : ℕ) → u.slot (r.slot k) ≡ k) (sig : (k : ℕ) → u.sig (r.sig k) ≡ k) (callee : (k : ℕ) → u.callee (r.callee k) ≡ k) where
  values_back : (vs : List ℕ) → Each V vs → map u.value (map r.value vs) ≡ vs
  values_back [] h = refl
  values_back (v ∷ vs) h = ap₂ (λ x xs. x ∷ xs) (value v h.0) (values_back vs h.1)

  args_back : (as' : List Arg) → Each V (arg_values_used as') → map (arg_under u) (map (arg_under r) as') ≡ as'
  args_back [] h = refl
  args_back (arg.Value v ∷ as') h = ap₂ (λ (x : ℕ) xs. arg.Value x ∷ xs) (value v h.0) (args_back as' h.1)
  args_back (arg.Ret i ∷ as') h = ap (λ xs. arg.Ret i ∷ xs) (args_back as' h)
  args_back (arg.Exn i ∷ as') h = ap (λ xs. arg.Exn i ∷ xs) (args_back as' h)

  target_back : (t : BlockCall) → Each V (arg_values_used t.args) → B t.block → target_under u (target_under r t) ≡ t
  target_back t h b = ap₂ (λ (b : ℕ) (as' : List Arg). record t { block = b; args = as' }) (block t.block b) (args_back t.args h)

  targets_back : (ts : List BlockCall) → Each V (targets_used ts) → Each B (map (λ t. t.block) ts) → map (target_under u) (map (target_under r) ts) ≡ ts
  targets_back [] h b = refl
  targets_back (t ∷ ts) h b = ap₂ (λ x xs. x ∷ xs) (target_back t (each_left V (arg_values_used t.args) (targets_used ts) h) b.0) (targets_back ts (each_right V (arg_values_used t.args) (targets_used ts) h) b.1)

  entries_back : (es : List (Entry BlockCall)) → Each V (targets_used (table_targets es)) → Each B (map (λ t. t.block) (table_targets es)) → map (entry_under u) (map (entry_under r) es) ≡ es
  entries_back [] h b = refl
  entries_back (e ∷ es) h b =
      ap₂ (λ (t : BlockCall) xs. record e { target = t } ∷ xs) (target_back e.target (each_left V (arg_values_used e.target.args) (targets_used (table_targets es)) h) b.0) (entries_back es (each_right V (arg_values_used e.target.args) (targets_used (table_targets es)) h) b.1)

  tags_back : (ts : List Tag) → map (tag_under u) (map (tag_under r) ts) ≡ ts
  tags_back [] = refl
  tags_back (tag.User n ∷ ts) = ap (λ xs. tag.User n ∷ xs) (tags_back ts)
  tags_back (tag.Slot k ∷ ts) = ap₂ (λ (x : ℕ) xs. tag.Slot x ∷ xs) (slot k) (tags_back ts)

  simple_back : (p : Simple) → Each V (simple_used p) → simple_under u (simple_under r p) ≡ p
  simple_back Nop h = refl
  simple_back (Const x) h = refl
  simple_back (Pure op args) h = ap (Pure op) (values_back args h)
  simple_back (PureImm op a n) h = ap (λ z. PureImm op z n) (value a h.0)
  simple_back (Load access flags a offset) h = ap (λ z. Load access flags z offset) (value a h.0)
  simple_back (Store narrow flags v a offset) h = ap₂ (λ y z. Store narrow flags y z offset) (value v h.0) (value a h.1.0)
  simple_back (StackLoad t k offset) h = ap (λ z. StackLoad t z offset) (slot k)
  simple_back (StackStore v k offset) h = ap₂ (λ y z. StackStore y z offset) (value v h.0) (slot k)
  simple_back (FuncAddr k) h = ap FuncAddr (callee k)
  simple_back (Trap code) h = refl
  simple_back (Trapz v code) h = ap (λ z. Trapz z code) (value v h.0)
  simple_back (Trapnz v code) h = ap (λ z. Trapnz z code) (value v h.0)

  branch_back : (c : Branch) → Each V (branch_used c) → Each V (targets_used (branch_targets c)) → Each B (map (λ t. t.block) (branch_targets c)) → branch_under u (branch_under r c) ≡ c
  branch_back (Jump t) h k b = ap Jump (target_back t (each_left V (arg_values_used t.args) [] k) b.0)
  branch_back (Brif v s t) h k b =
      let k' = each_right V (arg_values_used s.args) (targets_used (t ∷ [])) k in
      ap (λ z. Brif z (target_under u (target_under r s)) (target_under u (target_under r t))) (value v h.0) ∙ ap₂ (Brif v) (target_back s (each_left V (arg_values_used s.args) (targets_used (t ∷ [])) k) b.0) (target_back t (each_left V (arg_values_used t.args) [] k') b.1.0)
  branch_back (BrTable v default ts) h k b =
      ap (λ z. BrTable z (target_under u (target_under r default)) (map (target_under u) (map (target_under r) ts))) (value v h.0) ∙ ap₂ (BrTable v) (target_back default (each_left V (arg_values_used default.args) (targets_used ts) k) b.0) (targets_back ts (each_right V (arg_values_used default.args) (targets_used ts) k) b.1)

  called_back : (t : CallTarget) → Each V (called_used t) → called_under u (called_under r t) ≡ t
  called_back (Direct k) h = ap Direct (callee k)
  called_back (Indirect s a) h = ap₂ Indirect (sig s) (value a h.0)

  try_back : (t : TryTarget) (s : ℕ) → Each V (called_used (call_target t s)) → try_target_under u (try_target_under r t) ≡ t
  try_back (TryDirect k) s h = ap TryDirect (callee k)
  try_back (TryIndirect a) s h = ap TryIndirect (value a h.0)

  instruction_back : (i : Instruction) → Each V (operands i) → Each V (targets_used (targets i)) → Each B (blocks_used i) → instruction_under u (instruction_under r i) ≡ i
  instruction_back (Plain p) h k b = ap Plain (simple_back p h)
  instruction_back (Branches c) h k b = ap Branches (branch_back c h k b)
  instruction_back SequencePoint h k b = refl
  instruction_back (Return vs) h k b = ap Return (values_back vs h)
  instruction_back (Call t args) h k b = ap₂ Call (called_back t (each_left V (called_used t) args h)) (values_back args (each_right V (called_used t) args h))
  instruction_back (ReturnCall t args) h k b = ap₂ ReturnCall (called_back t (each_left V (called_used t) args h)) (values_back args (each_right V (called_used t) args h))
  instruction_back (TryCall t sg args normal table) h k b =
      ap₂ (λ y z. TryCall y z (map u.value (map r.value args)) (target_under u (target_under r normal)) (map (entry_under u) (map (entry_under r) table))) (try_back t sg (each_left V (called_used (call_target t sg)) args h)) (sig sg) ∙ ap (λ z. TryCall t sg z (target_under u (target_under r normal)) (map (entry_under u) (map (entry_under r) table))) (values_back args (each_right V (called_used (call_target t sg)) args h)) ∙ ap₂ (TryCall t sg args) (target_back normal (each_left V (arg_values_used normal.args) (targets_used (table_targets table)) k) b.0) (entries_back table (each_right V (arg_values_used normal.args) (targets_used (table_targets table)) k) b.1)

  abbrev LineIn : Line → Type 0
  LineIn l = Each V l.results × Each V (values_used l.inst) × Each B (blocks_used l.inst)

  lines_back : (ls : List Line) → Each (λ l. Each V l.results × Each V (values_used l.inst) × Each B (blocks_used l.inst)) ls → map (line_under u) (map (line_under r) ls) ≡ ls
  lines_back [] h = refl
  lines_back (l ∷ ls) h =
      let used = h.0.1 in
      ap₂ (λ (i : Instruction) (xs : List Line). record l { inst = i; results = map u.value (map r.value l.results); tags = map (tag_under u) (map (tag_under r) l.tags) } ∷ xs) (instruction_back l.inst (each_left V (operands l.inst) (targets_used (targets l.inst)) used) (each_right V (operands l.inst) (targets_used (targets l.inst)) used) h.0.2) (lines_back ls h.1) ∙ ap₂ (λ (vs : List ℕ) (ts : List Tag). record l { results = vs; tags = ts } ∷ ls) (values_back l.results h.0.0) (tags_back l.tags)

  blocks_back : (bs : List Block) → Each (λ b. B b.number × Each V b.params × Each (λ l. Each V l.results × Each V (values_used l.inst) × Each B (blocks_used l.inst)) b.lines) bs → map (block_under u) (map (block_under r) bs) ≡ bs
  blocks_back [] h = refl
  blocks_back (b ∷ bs) h =
      ap₂ (λ (x : ℕ) (xs : List Block). record b { number = x; params = map u.value (map r.value b.params); lines = map (line_under u) (map (line_under r) b.lines) } ∷ xs) (block b.number h.0.0) (blocks_back bs h.1) ∙ ap₂ (λ (vs : List ℕ) (ls : List Line). record b { params = vs; lines = ls } ∷ bs) (values_back b.params h.0.1) (lines_back b.lines h.0.2)

-- ---- a whole function uses what it defines

each_to : (P Q : ℕ → Type 0) → ((v : ℕ) → P v → Q v) → (xs : List ℕ) → Each P xs → Each Q xs
each_to P Q f [] h = tt
each_to P Q f (x ∷ xs) h = (f x h.0, each_to P Q f xs h.1)

module _ (f : Function) (whole : WellFormed f) where
  abbrev V : ℕ → Type 0
  V v = In v (definitions f.blocks)

  abbrev B : ℕ → Type 0
  B b = In b (block_numbers f.blocks)

  lines_in : (ls : List Line) → ((v : ℕ) → In v (line_definitions ls) → In v (definitions f.blocks)) → Each (LineWellFormed f) ls → Each (λ l. Each (λ v. In v (definitions f.blocks)) l.results × Each (λ v. In v (definitions f.blocks)) (values_used l.inst) × Each (λ b. In b (block_numbers f.blocks)) (blocks_used l.inst)) ls
  lines_in [] h w = tt
  lines_in (l ∷ ls) h w = (
    (each_by V l.results (λ v i. h v (in_left v l.results (line_definitions ls) i)), each_to (λ v. In v (declared f)) V whole.defined (values_used l.inst) w.0.values, w.0.blocks),
    lines_in ls (λ v i. h v (in_right v l.results (line_definitions ls) i)) w.1,
  )

  blocks_in : (bs : List Block) → ((v : ℕ) → In v (definitions bs) → In v (definitions f.blocks)) → ((b : ℕ) → In b (block_numbers bs) → In b (block_numbers f.blocks)) → Each (BlockWellFormed f) bs → Each (λ b. In b.number (block_numbers f.blocks) × Each (λ v. In v (definitions f.blocks)) b.params × Each (λ l. Each (λ v. In v (definitions f.blocks)) l.results × Each (λ v. In v (definitions f.blocks)) (values_used l.inst) × Each (λ b. In b (block_numbers f.blocks)) (blocks_used l.inst)) b.lines) bs
  blocks_in [] h k w = tt
  blocks_in (b ∷ bs) h k w = (
    (k b.number (inl refl), each_by V b.params (λ v i. h v (in_left v b.params (line_definitions b.lines ++ definitions bs) i)), lines_in b.lines (λ v i. h v (in_right v b.params (line_definitions b.lines ++ definitions bs) (in_left v (line_definitions b.lines) (definitions bs) i))) w.0),
    blocks_in bs (λ v i. h v (in_right v b.params (line_definitions b.lines ++ definitions bs) (in_right v (line_definitions b.lines) (definitions bs) i))) (λ b i. k b (inr i)) w.1,
  )

-- ---- modules

pub function_map : (h : Function → Function) → ((f : Function) → (h f).name ≡ f.name) → (x : FuncName) (m : Module) (f : Function) → find_function x m ≡ Some f → find_function x (map h m) ≡ Some (h f)
function_map h keep x [] f q = cc
function_map h keep x (k ∷ m) f q =
    elim (cases_name k.name x) [
      | inl p ↦ function_hit x (h k) (map h m) (keep k ∙ p) ∙ ap (λ z. Some (h z)) (some_same (sym (function_hit x k m p) ∙ q))
      | inr p ↦ function_skip x (h k) (map h m) (ap (λ n. same_name n x) (keep k) ∙ p) ∙ function_map h keep x m f (sym (function_skip x k m p) ∙ q)
    ]

pub function_none : (h : Function → Function) → ((f : Function) → (h f).name ≡ f.name) → (x : FuncName) (m : Module) → find_function x m ≡ None → find_function x (map h m) ≡ None
function_none h keep x [] q = refl
function_none h keep x (k ∷ m) q =
    elim (cases_name k.name x) [
      | inl p ↦ let e : Some k ≡ None = sym (function_hit x k m p) ∙ q in cc
      | inr p ↦ function_skip x (h k) (map h m) (ap (λ n. same_name n x) (keep k) ∙ p) ∙ function_none h keep x m (sym (function_skip x k m p) ∙ q)
    ]

pub name_kept : (f : Function) → (canonical f).name ≡ f.name
name_kept f = refl

mentioned_kept : (m : Module) → mentioned (canonical_module m) ≡ mentioned m
mentioned_kept [] = refl
mentioned_kept (f ∷ m) = ap (λ ns. f.name ∷ (map (λ c. c.name) f.callees ++ ns)) (mentioned_kept m)

names_kept : (m : Module) → module_names (canonical_module m) ≡ module_names m
unfolding module_names
names_kept m = ap in_order (mentioned_kept m)

pub each_function : (m : Module) → Each WellFormed m → (x : FuncName) (f : Function) → find_function x m ≡ Some f → WellFormed f
each_function [] w x f q = cc
each_function (k ∷ m) w x f q =
    elim (cases_name k.name x) [
      | inl p ↦ subst WellFormed (some_same (sym (function_hit x k m p) ∙ q)) w.0
      | inr p ↦ each_function m w.1 x f (sym (function_skip x k m p) ∙ q)
    ]

-- to the canonical numbers

to_of : Option Function → Renaming
to_of None = same_numbers
to_of (Some f) = canonical_names f

to_value : (o : Option Function) → Injective (to_of o).value
unfolding to_of
to_value None a b h = h
to_value (Some f) a b h = place_injective (definitions f.blocks) a b h

to_block : (o : Option Function) → Injective (to_of o).block
unfolding to_of
to_block None a b h = h
to_block (Some f) a b h = place_injective (block_numbers f.blocks) a b h

to_kept : (o : Option Function) (k : ℕ) → ((to_of o).slot k ≡ k) × ((to_of o).sig k ≡ k) × ((to_of o).callee k ≡ k)
unfolding to_of
to_kept None k = (refl, refl, refl)
to_kept (Some f) k = (refl, refl, refl)

to_canonical : (m : Module) → Renumbered m (canonical_module m)
unfolding to_of
to_canonical m =
    record {
      names = λ x. to_of (find_function x m);
      value = λ x. to_value (find_function x m);
      block = λ x. to_block (find_function x m);
      slot = λ x k. (to_kept (find_function x m) k).0;
      sig = λ x k. (to_kept (find_function x m) k).1;
      callee = λ x k. (to_kept (find_function x m) k).2;
      there = λ x f q. (canonical f, function_map canonical name_kept x m f q, record { sig = refl; slots = refl; sigs = refl; callees = refl; blocks = ap (λ o. map (block_under (to_of o)) f.blocks) (sym q) });
      absent = λ x q. function_none canonical name_kept x m q;
      all_names = sym (names_kept m);
    }

-- and back

pub back_names : Function → Renaming
back_names f = record { value = back (definitions f.blocks) (above (definitions f.blocks)); block = back (block_numbers f.blocks) (above (block_numbers f.blocks)); slot = λ k. k; sig = λ s. s; callee = λ k. k }

pub back_is_injective : (f : Function) → WellFormed f → Injective (back_names f).value × Injective (back_names f).block
unfolding back_names
back_is_injective f whole = (back_injective (definitions f.blocks) (above (definitions f.blocks)) whole.defined_once (under_above (definitions f.blocks)), back_injective (block_numbers f.blocks) (above (block_numbers f.blocks)) whole.blocks (under_above (block_numbers f.blocks)))

pub back_value : (f : Function) (u : ℕ) → (back_names f).value u ≡ back (definitions f.blocks) (above (definitions f.blocks)) u
unfolding back_names
back_value f u = refl

pub back_rest : (f : Function) (k : ℕ) → ((back_names f).slot k ≡ k) × ((back_names f).sig k ≡ k) × ((back_names f).callee k ≡ k)
unfolding back_names
back_rest f k = (refl, refl, refl)

pub canonical_back : (f : Function) → WellFormed f → map (block_under (back_names f)) (canonical f).blocks ≡ f.blocks
unfolding back_names
canonical_back f whole =
    blocks_back (canonical_names f) (back_names f) (λ v. In v (definitions f.blocks)) (λ b. In b (block_numbers f.blocks)) (λ v p. back_place (definitions f.blocks) (above (definitions f.blocks)) v p) (λ b p. back_place (block_numbers f.blocks) (above (block_numbers f.blocks)) b p) (λ k. refl) (λ k. refl) (λ k. refl) f.blocks (blocks_in f whole f.blocks (λ v i. i) (λ b i. i) whole.lines)

from_of : Option Function → Renaming
from_of None = same_numbers
from_of (Some f) = back_names f

module _ (r : Module) (whole : (x : FuncName) (f : Function) → find_function x r ≡ Some f → WellFormed f) where
  from_value : (x : FuncName) (o : Option Function) → find_function x r ≡ o → Injective (from_of o).value
  unfolding from_of back_names
  from_value x None q a b h = h
  from_value x (Some f) q a b h = back_injective (definitions f.blocks) (above (definitions f.blocks)) (whole x f q).defined_once (under_above (definitions f.blocks)) a b h

  from_block : (x : FuncName) (o : Option Function) → find_function x r ≡ o → Injective (from_of o).block
  unfolding from_of back_names
  from_block x None q a b h = h
  from_block x (Some f) q a b h = back_injective (block_numbers f.blocks) (above (block_numbers f.blocks)) (whole x f q).blocks (under_above (block_numbers f.blocks)) a b h

  from_kept : (o : Option Function) (k : ℕ) → ((from_of o).slot k ≡ k) × ((from_of o).sig k ≡ k) × ((from_of o).callee k ≡ k)
  unfolding from_of back_names
  from_kept None k = (refl, refl, refl)
  from_kept (Some f) k = (refl, refl, refl)

  from_there : (x : FuncName) (f' : Function) → find_function x (canonical_module r) ≡ Some f' → (o : Option Function) → find_function x r ≡ o → (f : Function) × (find_function x r ≡ Some f) × Renumbers (from_of o) f' f
  unfolding from_of
  from_there x f' h None q = let e : None ≡ Some f' = sym (function_none canonical name_kept x r q) ∙ h in cc
  from_there x f' h (Some f) q =
      let e : canonical f ≡ f' = some_same (sym (function_map canonical name_kept x r f q) ∙ h) in
      (f, q, subst (λ z. Renumbers (back_names f) z f) e (record { sig = refl; slots = refl; sigs = refl; callees = refl; blocks = sym (canonical_back f (whole x f q)) }))

  from_absent : (x : FuncName) → find_function x (canonical_module r) ≡ None → (o : Option Function) → find_function x r ≡ o → find_function x r ≡ None
  from_absent x h None q = q
  from_absent x h (Some f) q = let e : Some (canonical f) ≡ None = sym (function_map canonical name_kept x r f q) ∙ h in cc

  from_canonical : Renumbered (canonical_module r) r
  from_canonical =
      record {
        names = λ x. from_of (find_function x r);
        value = λ x. from_value x (find_function x r) refl;
        block = λ x. from_block x (find_function x r) refl;
        slot = λ x k. (from_kept (find_function x r) k).0;
        sig = λ x k. (from_kept (find_function x r) k).1;
        callee = λ x k. (from_kept (find_function x r) k).2;
        there = λ x f' h. from_there x f' h (find_function x r) refl;
        absent = λ x h. from_absent x h (find_function x r) refl;
        all_names = names_kept r;
      }

pub numbering_keeps_runs : NumberingKeepsRuns
numbering_keeps_runs m r (whole_m, whole_r, same) =
    let a : RunsKept m (canonical_module r) = subst (RunsKept m) same (runs_kept m (canonical_module m) (renumber_same m (canonical_module m) (to_canonical m))) in
    kept_on m (canonical_module r) r a (runs_kept (canonical_module r) r (renumber_same (canonical_module r) r (from_canonical r (each_function r whole_r))))

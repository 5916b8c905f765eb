-- The blocks of a splice, under other numbers: of the caller, of the callee, and of the splice's own.
use Rattle.std.proofs.Common.{◌≡◌, ℕ, zero, suc, inl, inr, List, [], ◌∷◌, ◌++◌, map, length, Some, None, refl, sym, ap, ap₂, ◌∙◌, subst, eq-eqb, ne_eqb}
use Rattle.std.specs.Prelude.{if◌then◌else◌, nat_eq, slice_get}
use Rattle.std.proofs.lemmas.Bool.{cases_eq}
use Rattle.std.proofs.lemmas.List.{map-append}
use Rattle.exn_tables.specs.declared.table.Entry.{Entry}
use Rattle.debug_tags.specs.declared.tags.Tag.{Tag}
use Rattle.ir_core.specs.declared.declarations.Callee.{Callee}
use Rattle.ir_core.specs.declared.instructions.Arg.{Arg}
use Rattle.ir_core.specs.declared.instructions.Arg.TheVariants as arg
use Rattle.ir_core.specs.declared.instructions.BlockCall.{BlockCall}
use Rattle.ir_core.specs.Module.{CallTarget, Direct, Indirect, TryTarget, call_target, Instruction, Plain, Branches, SequencePoint, Return, Call, ReturnCall, TryCall, Line, Block, Function}
use Rattle.ir_core.specs.Lists.{In}
use Rattle.ir_core.specs.Lookup.{block_numbers}
use Rattle.ir_semantics.specs.Renaming.{Renaming, arg_under, target_under, tag_under, entry_under, called_under, try_target_under, instruction_under, line_under, block_under}
use Rattle.ir_semantics.specs.Import.{sig_after, callee_after, slot_after}
use Rattle.ir_semantics.specs.Splice.{Naming, Splicing, Kind, Within, Last, Tries, kind_of, args_of, tags_before, from, first_number, or_ret, Fragment, caller_names, callee_names, joined_tags, line_with, callee_line, jump_to, to_after, returned_arg, to_normal, new_results, named_sig, try_target, front, try_with, within_fragment, tries_fragment, fragment_by, fragment, body, jump_in, cut_block, after_blocks, spliced_blocks}
use Rattle.inline_acceptance.proofs.KeptLists.{length_map}
use Rattle.inline_numbering.proofs.Via.{target_via, entries_via, tags_via, instruction_via, called_via, try_via, lines_via, blocks_via}
use Rattle.inline_numbering.proofs.Any.{Any, args, entries, called, instruction, lines, blocks}
use Rattle.inline_numbering.specs.Carried.{Carries}

map_both : {A : Type 0} (h : ℕ → ℕ) (u w : A → ℕ) (vs : List A) → ((v : A) → h (u v) ≡ w v) → map h (map u vs) ≡ map w vs
map_both h u w [] e = refl
map_both h u w (v ∷ vs) e = ap₂ (λ x xs. x ∷ xs) (e v) (map_both h u w vs e)

map_square : (h u w x : ℕ → ℕ) (vs : List ℕ) → ((v : ℕ) → h (u v) ≡ w (x v)) → map h (map u vs) ≡ map w (map x vs)
map_square h u w x [] e = refl
map_square h u w x (v ∷ vs) e = ap₂ (λ y ys. y ∷ ys) (e v) (map_square h u w x vs e)

hit : {X : Type 0} (b a : ℕ) (x y : X) → b ≡ a → (if nat_eq b a then x else y) ≡ x
hit b a x y e = ap (λ c. if c then x else y) (eq-eqb b a e)

miss : {X : Type 0} (b a : ℕ) (x y : X) → (b ≡ a → ⊥) → (if nat_eq b a then x else y) ≡ y
miss b a x y e = ap (λ c. if c then x else y) (ne_eqb b a e)

abbrev pub kind_under : Renaming → Kind → Kind
kind_under r Within = Within
kind_under r Last = Last
kind_under r (Tries normal table) = Tries (target_under r normal) (map (entry_under r) table)

pub kind_same : (r : Renaming) (i : Instruction) → kind_of (instruction_under r i) ≡ kind_under r (kind_of i)
kind_same r (Plain p) = refl
kind_same r (Branches c) = refl
kind_same r SequencePoint = refl
kind_same r (Return vs) = refl
kind_same r (Call k vs) = refl
kind_same r (ReturnCall k vs) = refl
kind_same r (TryCall k g vs x u) = refl

args_same : (r : Renaming) (i : Instruction) → args_of (instruction_under r i) ≡ map r.value (args_of i)
args_same r (Plain p) = refl
args_same r (Branches c) = refl
args_same r SequencePoint = refl
args_same r (Return vs) = refl
args_same r (Call k vs) = refl
args_same r (ReturnCall k vs) = refl
args_same r (TryCall k g vs x u) = refl

try_target_same : (r : Renaming) (c : CallTarget) → try_target_under r (try_target c) ≡ try_target (called_under r c)
try_target_same r (Direct k) = refl
try_target_same r (Indirect s a) = refl

-- t takes the splice p to q, r its caller, s its callee
module _ (t r s : Renaming) (n m : Naming) (b c g h : Function) (at : ℕ) (before : List Line) (site : Line) (behind : List Line) (k : Carries t r s n m b c g h) where
  abbrev P : Splicing
  P = record { naming = n; caller = b; callee = g; at = at; before = before; site = site; behind = behind }

  abbrev Q : Splicing
  Q = record { naming = m; caller = c; callee = h; at = r.block at; before = map (line_under r) before; site = line_under r site; behind = map (line_under r) behind }

  -- the way of the caller's numbers, and of the callee's
  abbrev f_way : Renaming
  f_way = record { value = λ v. m.caller_value (r.value v); block = λ x. m.caller_block (r.block x); slot = λ x. x; sig = λ x. x; callee = λ x. x }

  abbrev g_way : Renaming
  g_way = record { value = λ v. m.callee_value (s.value v); block = λ x. m.callee_block (s.block x); slot = slot_after b g; sig = sig_after b g; callee = callee_after b g }

  g_slot : (x : ℕ) → slot_after c h (s.slot x) ≡ slot_after b g x
  g_slot x = ap (slot_after c h) (k.callee_slot x) ∙ k.slots x

  g_sig : (x : ℕ) → sig_after c h (s.sig x) ≡ sig_after b g x
  g_sig x = ap (sig_after c h) (k.callee_sig x) ∙ k.sigs x

  g_callee : (x : ℕ) → callee_after c h (s.callee x) ≡ callee_after b g x
  g_callee x = ap (callee_after c h) (k.callee_callee x) ∙ k.callees x

  f_lines : (ls : List Line) → map (line_under t) (map (line_under (caller_names P)) ls) ≡ map (line_under (caller_names Q)) (map (line_under r) ls)
  f_lines ls =
      lines_via (caller_names P) t f_way Any Any (λ v z. k.caller_value v) (λ x z. k.caller_block x) k.slot k.sig k.callee ls (lines ls)
      ∙ sym (lines_via r (caller_names Q) f_way Any Any (λ v z. refl) (λ x z. refl) k.caller_slot k.caller_sig k.caller_callee ls (lines ls))

  f_blocks : (bs : List Block) → map (block_under t) (map (block_under (caller_names P)) bs) ≡ map (block_under (caller_names Q)) (map (block_under r) bs)
  f_blocks bs =
      blocks_via (caller_names P) t f_way Any Any (λ v z. k.caller_value v) (λ x z. k.caller_block x) k.slot k.sig k.callee bs (blocks bs)
      ∙ sym (blocks_via r (caller_names Q) f_way Any Any (λ v z. refl) (λ x z. refl) k.caller_slot k.caller_sig k.caller_callee bs (blocks bs))

  f_entries : (es : List (Entry BlockCall)) → map (entry_under t) (map (entry_under (caller_names P)) es) ≡ map (entry_under (caller_names Q)) (map (entry_under r) es)
  f_entries es =
      entries_via (caller_names P) t f_way Any Any (λ v z. k.caller_value v) (λ x z. k.caller_block x) k.slot k.sig k.callee es (entries es).0 (entries es).1
      ∙ sym (entries_via r (caller_names Q) f_way Any Any (λ v z. refl) (λ x z. refl) k.caller_slot k.caller_sig k.caller_callee es (entries es).0 (entries es).1)

  f_target : (x : BlockCall) → target_under t (target_under (caller_names P) x) ≡ target_under (caller_names Q) (target_under r x)
  f_target x =
      target_via (caller_names P) t f_way Any Any (λ v z. k.caller_value v) (λ y z. k.caller_block y) k.slot k.sig k.callee x (args x.args) tt
      ∙ sym (target_via r (caller_names Q) f_way Any Any (λ v z. refl) (λ y z. refl) k.caller_slot k.caller_sig k.caller_callee x (args x.args) tt)

  f_tags : (ts : List Tag) → map (tag_under t) (map (tag_under (caller_names P)) ts) ≡ map (tag_under (caller_names Q)) (map (tag_under r) ts)
  f_tags ts =
      tags_via (caller_names P) t f_way Any Any (λ v z. k.caller_value v) (λ x z. k.caller_block x) k.slot k.sig k.callee ts
      ∙ sym (tags_via r (caller_names Q) f_way Any Any (λ v z. refl) (λ x z. refl) k.caller_slot k.caller_sig k.caller_callee ts)

  g_inst : (i : Instruction) → instruction_under t (instruction_under (callee_names P) i) ≡ instruction_under (callee_names Q) (instruction_under s i)
  g_inst i =
      instruction_via (callee_names P) t g_way Any Any (λ v z. k.callee_value v) (λ x z. k.callee_block x) (λ x. k.slot (slot_after b g x)) (λ x. k.sig (sig_after b g x)) (λ x. k.callee (callee_after b g x)) i (instruction i).0 (instruction i).1 (instruction i).2
      ∙ sym (instruction_via s (callee_names Q) g_way Any Any (λ v z. refl) (λ x z. refl) g_slot g_sig g_callee i (instruction i).0 (instruction i).1 (instruction i).2)

  g_target : (x : BlockCall) → target_under t (target_under (callee_names P) x) ≡ target_under (callee_names Q) (target_under s x)
  g_target x =
      target_via (callee_names P) t g_way Any Any (λ v z. k.callee_value v) (λ y z. k.callee_block y) (λ y. k.slot (slot_after b g y)) (λ y. k.sig (sig_after b g y)) (λ y. k.callee (callee_after b g y)) x (args x.args) tt
      ∙ sym (target_via s (callee_names Q) g_way Any Any (λ v z. refl) (λ y z. refl) g_slot g_sig g_callee x (args x.args) tt)

  g_entries : (es : List (Entry BlockCall)) → map (entry_under t) (map (entry_under (callee_names P)) es) ≡ map (entry_under (callee_names Q)) (map (entry_under s) es)
  g_entries es =
      entries_via (callee_names P) t g_way Any Any (λ v z. k.callee_value v) (λ y z. k.callee_block y) (λ y. k.slot (slot_after b g y)) (λ y. k.sig (sig_after b g y)) (λ y. k.callee (callee_after b g y)) es (entries es).0 (entries es).1
      ∙ sym (entries_via s (callee_names Q) g_way Any Any (λ v z. refl) (λ y z. refl) g_slot g_sig g_callee es (entries es).0 (entries es).1)

  g_called : (x : CallTarget) → called_under t (called_under (callee_names P) x) ≡ called_under (callee_names Q) (called_under s x)
  g_called x =
      called_via (callee_names P) t g_way Any Any (λ v z. k.callee_value v) (λ y z. k.callee_block y) (λ y. k.slot (slot_after b g y)) (λ y. k.sig (sig_after b g y)) (λ y. k.callee (callee_after b g y)) x (called x)
      ∙ sym (called_via s (callee_names Q) g_way Any Any (λ v z. refl) (λ y z. refl) g_slot g_sig g_callee x (called x))

  g_try : (x : TryTarget) → try_target_under t (try_target_under (callee_names P) x) ≡ try_target_under (callee_names Q) (try_target_under s x)
  g_try x =
      try_via (callee_names P) t g_way Any Any (λ v z. k.callee_value v) (λ y z. k.callee_block y) (λ y. k.slot (slot_after b g y)) (λ y. k.sig (sig_after b g y)) (λ y. k.callee (callee_after b g y)) x 0 (called (call_target x 0))
      ∙ sym (try_via s (callee_names Q) g_way Any Any (λ v z. refl) (λ y z. refl) g_slot g_sig g_callee x 0 (called (call_target x 0)))

  -- a `try_call` in place of a call
  g_in_place : (x : CallTarget) → try_target_under t (try_target (called_under (callee_names P) x)) ≡ try_target (called_under (callee_names Q) (called_under s x))
  g_in_place x = try_target_same t (called_under (callee_names P) x) ∙ ap try_target (g_called x)

  g_tags : (ts : List Tag) → map (tag_under t) (map (tag_under (callee_names P)) ts) ≡ map (tag_under (callee_names Q)) (map (tag_under s) ts)
  g_tags ts =
      tags_via (callee_names P) t g_way Any Any (λ v z. k.callee_value v) (λ y z. k.callee_block y) (λ y. k.slot (slot_after b g y)) (λ y. k.sig (sig_after b g y)) (λ y. k.callee (callee_after b g y)) ts
      ∙ sym (tags_via s (callee_names Q) g_way Any Any (λ v z. refl) (λ y z. refl) g_slot g_sig g_callee ts)

  g_vals : (vs : List ℕ) → map t.value (map n.callee_value vs) ≡ map m.callee_value (map s.value vs)
  g_vals vs = map_square t.value n.callee_value m.callee_value s.value vs k.callee_value

  f_vals : (vs : List ℕ) → map t.value (map n.caller_value vs) ≡ map m.caller_value (map r.value vs)
  f_vals vs = map_square t.value n.caller_value m.caller_value r.value vs k.caller_value

  news : (x : ℕ) → map t.value (new_results P x) ≡ new_results Q (s.block x)
  news x = map_both t.value (n.new_value x) (m.new_value (s.block x)) (from 0 (length site.results)) (k.new_value x) ∙ ap (λ z. map (m.new_value (s.block x)) (from 0 z)) (sym (length_map r.value site.results))

  tags_in_front : (i : Instruction) (us ts : List Tag) → map (tag_under t) (tags_before i us ts) ≡ tags_before (instruction_under s i) (map (tag_under t) us) (map (tag_under t) ts)
  tags_in_front (Plain p) us ts = refl
  tags_in_front (Branches x) us ts = refl
  tags_in_front SequencePoint us ts = map-append (tag_under t) us ts
  tags_in_front (Return vs) us ts = refl
  tags_in_front (Call x vs) us ts = map-append (tag_under t) us ts
  tags_in_front (ReturnCall x vs) us ts = map-append (tag_under t) us ts
  tags_in_front (TryCall x y vs z u) us ts = map-append (tag_under t) us ts

  tags_same : (i : Instruction) (ts : List Tag) → map (tag_under t) (joined_tags P i ts) ≡ joined_tags Q (instruction_under s i) (map (tag_under s) ts)
  tags_same i ts = tags_in_front i (map (tag_under (caller_names P)) site.tags) (map (tag_under (callee_names P)) ts) ∙ ap₂ (tags_before (instruction_under s i)) (f_tags site.tags) (g_tags ts)

  with_line : (i : Line) (x y : Instruction) (xs ys : List ℕ) → instruction_under t x ≡ y → map t.value xs ≡ ys → line_under t (line_with P i x xs) ≡ line_with Q (line_under s i) y ys
  with_line i x y xs ys e z =
      ap₂ (λ (u : Instruction) (vs : List ℕ). record { inst = u; ty = i.ty; results = vs; tags = map (tag_under t) (joined_tags P i.inst i.tags) }) e z
      ∙ ap (λ (ts : List Tag). record { inst = y; ty = i.ty; results = ys; tags = ts }) (tags_same i.inst i.tags)

  line : (i : Line) → line_under t (callee_line P i) ≡ callee_line Q (line_under s i)
  line i = with_line i (instruction_under (callee_names P) i.inst) (instruction_under (callee_names Q) (instruction_under s i.inst)) (map n.callee_value i.results) (map m.callee_value (map s.value i.results)) (g_inst i.inst) (g_vals i.results)

  args_val : (xs : List ℕ) → map (arg_under t) (map arg.Value xs) ≡ map arg.Value (map t.value xs)
  args_val [] = refl
  args_val (x ∷ xs) = ap (λ z. arg.Value (t.value x) ∷ z) (args_val xs)

  jump_line : (x y : ℕ) (xs ys : List ℕ) → t.block x ≡ y → map t.value xs ≡ ys → line_under t (jump_to P (record { block = x; args = map arg.Value xs })) ≡ jump_to Q (record { block = y; args = map arg.Value ys })
  jump_line x y xs ys e z = ap₂ (λ (a : ℕ) (w : List Arg). jump_to Q (record { block = a; args = w })) e (args_val xs ∙ ap (map arg.Value) z)

  abbrev Both : Fragment → Fragment → Type 0
  Both p q = (map (line_under t) p.lines ≡ q.lines) × (map (block_under t) p.more ≡ q.more)

  fronts : (x y : Line) (p q : Fragment) → line_under t x ≡ y → Both p q → Both (front P x p) (front Q y q)
  fronts x y p q e z = (ap₂ (λ u v. u ∷ v) e z.0, z.1)

  within : (x j : ℕ) (i : Line) (y : Instruction) (p q : Fragment) → Both p q → Both (within_fragment P x j i y p) (within_fragment Q (s.block x) j (line_under s i) (instruction_under s y) q)
  within x j i (Plain z) p q e = fronts _ _ p q (line i) e
  within x j i (Branches z) p q e = fronts _ _ p q (line i) e
  within x j i SequencePoint p q e = fronts _ _ p q (line i) e
  within x j i (Return vs) p q e =
      fronts (to_after P (map n.callee_value vs)) (to_after Q (map m.callee_value (map s.value vs))) p q (jump_line n.after m.after (map n.callee_value vs) (map m.callee_value (map s.value vs)) k.after (g_vals vs)) e
  within x j i (Call z vs) p q e = fronts _ _ p q (line i) e
  within x j i (TryCall z y vs w u) p q e = fronts _ _ p q (line i) e
  within x j i (ReturnCall z vs) p q e = (
    ap₂ (λ u v. u ∷ v) (with_line i (Call (called_under (callee_names P) z) (map n.callee_value vs)) (Call (called_under (callee_names Q) (called_under s z)) (map m.callee_value (map s.value vs))) (new_results P x) (new_results Q (s.block x)) (ap₂ Call (g_called z) (g_vals vs)) (news x))
        (ap₂ (λ u v. u ∷ v) (jump_line n.after m.after (new_results P x) (new_results Q (s.block x)) k.after (news x)) e.0),
    e.1,
  )

  sig_named : (z : CallTarget) → t.sig (named_sig P (called_under (callee_names P) z)) ≡ named_sig Q (called_under (callee_names Q) (called_under s z))
  sig_named (Direct x) =
      k.sig _ ∙ ap₂ (λ (cs : List Callee) (y : ℕ). elim (slice_get cs y) as (λ o. ℕ) [ None ↦ 0 | Some d ↦ d.sig ]) (sym k.all_callees) (sym (g_callee x))
  sig_named (Indirect x a) = k.sig (sig_after b g x) ∙ sym (g_sig x)

  tried : (z z' : TryTarget) (y y' : ℕ) (vs : List ℕ) (x x' : BlockCall) (u u' : List (Entry BlockCall)) → try_target_under t z ≡ z' → t.sig y ≡ y' → target_under t x ≡ x' → map (entry_under t) u ≡ u' → instruction_under t (TryCall z y (map n.callee_value vs) x u) ≡ TryCall z' y' (map m.callee_value (map s.value vs)) x' u'
  tried z z' y y' vs x x' u u' ez ey ex eu =
      ap₂ (λ (a : TryTarget) (d : ℕ). TryCall a d (map t.value (map n.callee_value vs)) (target_under t x) (map (entry_under t) u)) ez ey
      ∙ (ap (λ (ws : List ℕ). TryCall z' y' ws (target_under t x) (map (entry_under t) u)) (g_vals vs)
      ∙ ap₂ (TryCall z' y' (map m.callee_value (map s.value vs))) ex eu)

  try_line : (i : Line) (z z' : TryTarget) (y y' : ℕ) (vs : List ℕ) (x x' : BlockCall) (u u' : List (Entry BlockCall)) → try_target_under t z ≡ z' → t.sig y ≡ y' → target_under t x ≡ x' → map (entry_under t) u ≡ u' → line_under t (try_with P i z y vs x u) ≡ try_with Q (line_under s i) z' y' (map s.value vs) x' u'
  try_line i z z' y y' vs x x' u u' ez ey ex eu =
      with_line i (TryCall z y (map n.callee_value vs) x u) (TryCall z' y' (map m.callee_value (map s.value vs)) x' u') [] [] (tried z z' y y' vs x x' u u' ez ey ex eu) refl

  rets : (is : List ℕ) → map (arg_under t) (map arg.Ret is) ≡ map arg.Ret is
  rets [] = refl
  rets (i ∷ is) = ap (λ z. arg.Ret i ∷ z) (rets is)

  ret : (i j : ℕ) (vs : List ℕ) → arg_under t (or_ret i (slice_get (map n.callee_value vs) j)) ≡ or_ret i (slice_get (map m.callee_value (map s.value vs)) j)
  ret i j [] = refl
  ret i zero (v ∷ vs) = ap arg.Value (k.callee_value v)
  ret i (suc j) (v ∷ vs) = ret i j vs

  returned : (vs : List ℕ) (as' : List Arg) → map (arg_under t) (map (returned_arg P vs) as') ≡ map (returned_arg Q (map s.value vs)) (map (arg_under r) as')
  returned vs [] = refl
  returned vs (arg.Value v ∷ as') = ap₂ (λ u w. u ∷ w) (ap arg.Value (k.caller_value v)) (returned vs as')
  returned vs (arg.Ret i ∷ as') = ap₂ (λ u w. u ∷ w) (ret i i vs) (returned vs as')
  returned vs (arg.Exn i ∷ as') = ap (λ w. arg.Exn i ∷ w) (returned vs as')

  normal_line : (x : BlockCall) (vs : List ℕ) → line_under t (to_normal P x vs) ≡ to_normal Q (target_under r x) (map s.value vs)
  normal_line x vs = ap₂ (λ (a : ℕ) (w : List Arg). jump_to Q (record { block = a; args = w })) (k.caller_block x.block) (returned vs x.args)

  tries : (x : BlockCall) (u : List (Entry BlockCall)) (d j : ℕ) (i : Line) (y : Instruction) (p q : Fragment) → Both p q → Both (tries_fragment P x u d j i y p) (tries_fragment Q (target_under r x) (map (entry_under r) u) (s.block d) j (line_under s i) (instruction_under s y) q)
  tries x u d j i (Plain z) p q e = fronts _ _ p q (line i) e
  tries x u d j i (Branches z) p q e = fronts _ _ p q (line i) e
  tries x u d j i SequencePoint p q e = fronts _ _ p q (line i) e
  tries x u d j i (Return vs) p q e = fronts (to_normal P x vs) (to_normal Q (target_under r x) (map s.value vs)) p q (normal_line x vs) e
  tries x u d j i (Call z vs) p q e = (
    ap (λ a. a ∷ []) (try_line i (try_target (called_under (callee_names P) z)) (try_target (called_under (callee_names Q) (called_under s z))) (named_sig P (called_under (callee_names P) z)) (named_sig Q (called_under (callee_names Q) (called_under s z))) vs (record { block = n.new_block d j; args = map arg.Ret (from 0 (length i.results)) }) (record { block = m.new_block (s.block d) j; args = map arg.Ret (from 0 (length (map s.value i.results))) }) (map (entry_under (caller_names P)) u) (map (entry_under (caller_names Q)) (map (entry_under r) u)) (g_in_place z) (sig_named z)
        (ap₂ (λ (a : ℕ) (w : List Arg). record { block = a; args = w }) (k.new_block d j) (rets (from 0 (length i.results)) ∙ ap (λ z. map arg.Ret (from 0 z)) (sym (length_map s.value i.results)))) (f_entries u)),
    ap₂ (λ (a : Block) w. a ∷ w) (ap₂ (λ (a : ℕ) (w : List ℕ). record { number = a; params = w; lines = map (line_under t) p.lines }) (k.new_block d j) (g_vals i.results) ∙ ap (λ (ls : List Line). record { number = m.new_block (s.block d) j; params = map m.callee_value (map s.value i.results); lines = ls }) e.0) e.1,
  )
  tries x u d j i (TryCall z y vs own inner) p q e =
      fronts (try_with P i (try_target_under (callee_names P) z) (sig_after b g y) vs (target_under (callee_names P) own) (map (entry_under (callee_names P)) inner ++ map (entry_under (caller_names P)) u))
      (try_with Q (line_under s i) (try_target_under (callee_names Q) (try_target_under s z)) (sig_after c h (s.sig y)) (map s.value vs) (target_under (callee_names Q) (target_under s own)) (map (entry_under (callee_names Q)) (map (entry_under s) inner) ++ map (entry_under (caller_names Q)) (map (entry_under r) u))) p q
      (try_line i (try_target_under (callee_names P) z) (try_target_under (callee_names Q) (try_target_under s z)) (sig_after b g y) (sig_after c h (s.sig y)) vs (target_under (callee_names P) own) (target_under (callee_names Q) (target_under s own)) (map (entry_under (callee_names P)) inner ++ map (entry_under (caller_names P)) u) (map (entry_under (callee_names Q)) (map (entry_under s) inner) ++ map (entry_under (caller_names Q)) (map (entry_under r) u)) (g_try z) (k.sig (sig_after b g y) ∙ sym (g_sig y)) (g_target own)
      (map-append (entry_under t) (map (entry_under (callee_names P)) inner) (map (entry_under (caller_names P)) u) ∙ ap₂ (λ v w. v ++ w) (g_entries inner) (f_entries u))) e
  tries x u d j i (ReturnCall z vs) p q e =
      fronts (try_with P i (try_target (called_under (callee_names P) z)) (named_sig P (called_under (callee_names P) z)) vs (target_under (caller_names P) x) (map (entry_under (caller_names P)) u))
      (try_with Q (line_under s i) (try_target (called_under (callee_names Q) (called_under s z))) (named_sig Q (called_under (callee_names Q) (called_under s z))) (map s.value vs) (target_under (caller_names Q) (target_under r x)) (map (entry_under (caller_names Q)) (map (entry_under r) u))) p q
      (try_line i (try_target (called_under (callee_names P) z)) (try_target (called_under (callee_names Q) (called_under s z))) (named_sig P (called_under (callee_names P) z)) (named_sig Q (called_under (callee_names Q) (called_under s z))) vs (target_under (caller_names P) x) (target_under (caller_names Q) (target_under r x)) (map (entry_under (caller_names P)) u) (map (entry_under (caller_names Q)) (map (entry_under r) u)) (g_in_place z) (sig_named z) (f_target x) (f_entries u)) e

  by_kind : (z : Kind) (x j : ℕ) (i : Line) (p q : Fragment) → Both p q → Both (fragment_by P z x j i p) (fragment_by Q (kind_under r z) (s.block x) j (line_under s i) q)
  by_kind Within x j i p q e = within x j i i.inst p q e
  by_kind Last x j i p q e = fronts _ _ p q (line i) e
  by_kind (Tries y u) x j i p q e = tries y u x j i i.inst p q e

  pieces : (x j : ℕ) (is : List Line) → Both (fragment P x j is) (fragment Q (s.block x) j (map (line_under s) is))
  pieces x j [] = (refl, refl)
  pieces x j (i ∷ is) =
      subst (λ z. Both (fragment_by P (kind_of site.inst) x j i (fragment P x (suc j) is)) (fragment_by Q z (s.block x) j (line_under s i) (fragment Q (s.block x) (suc j) (map (line_under s) is)))) (sym (kind_same r site.inst))
      (by_kind (kind_of site.inst) x j i (fragment P x (suc j) is) (fragment Q (s.block x) (suc j) (map (line_under s) is)) (pieces x (suc j) is))

  bodies : (bs : List Block) → map (block_under t) (body P bs) ≡ body Q (map (block_under s) bs)
  bodies [] = refl
  bodies (x ∷ bs) =
      ap₂ (λ (u : Block) w. u ∷ w)
      (ap₂ (λ (u : ℕ) (w : List ℕ). record { number = u; params = w; lines = map (line_under t) (fragment P x.number 0 x.lines).lines }) (k.callee_block x.number) (g_vals x.params) ∙ ap (λ (ls : List Line). record { number = m.callee_block (s.block x.number); params = map m.callee_value (map s.value x.params); lines = ls }) (pieces x.number 0 x.lines).0)
      (map-append (block_under t) (fragment P x.number 0 x.lines).more (body P bs) ∙ ap₂ (λ u w. u ++ w) (pieces x.number 0 x.lines).1 (bodies bs))

  afters : (z : Kind) → map (block_under t) (after_blocks P z) ≡ after_blocks Q (kind_under r z)
  afters Within = ap (λ (u : Block). u ∷ []) (ap₂ (λ (u : ℕ) (w : List ℕ). record { number = u; params = w; lines = map (line_under t) (map (line_under (caller_names P)) behind) }) k.after (f_vals site.results) ∙ ap (λ (ls : List Line). record { number = m.after; params = map m.caller_value (map r.value site.results); lines = ls }) (f_lines behind))
  afters Last = refl
  afters (Tries x u) = refl

  enters : line_under t (jump_in P) ≡ jump_in Q
  enters =
      jump_line (n.callee_block (first_number g.blocks)) (m.callee_block (first_number h.blocks)) (map n.caller_value (args_of site.inst)) (map m.caller_value (args_of (instruction_under r site.inst))) (k.callee_block (first_number g.blocks) ∙ ap m.callee_block (sym k.first)) (f_vals (args_of site.inst) ∙ ap (map m.caller_value) (sym (args_same r site.inst)))

  cut_same : (x : Block) → block_under t (cut_block P x) ≡ cut_block Q (block_under r x)
  cut_same x =
      ap₂ (λ (u : ℕ) (w : List ℕ). record { number = u; params = w; lines = map (line_under t) (map (line_under (caller_names P)) before ++ (jump_in P ∷ [])) }) (k.caller_block x.number) (f_vals x.params)
      ∙ ap (λ (ls : List Line). record { number = m.caller_block (r.block x.number); params = map m.caller_value (map r.value x.params); lines = ls }) (map-append (line_under t) (map (line_under (caller_names P)) before) (jump_in P ∷ []) ∙ ap₂ (λ u w. u ++ (w ∷ [])) (f_lines before) enters)

  block : (x : Block) → block_under t (block_under (caller_names P) x) ≡ block_under (caller_names Q) (block_under r x)
  block x = ap₂ (λ (u : ℕ) (w : List ℕ). record { number = u; params = w; lines = map (line_under t) (map (line_under (caller_names P)) x.lines) }) (k.caller_block x.number) (f_vals x.params) ∙ ap (λ (ls : List Line). record { number = m.caller_block (r.block x.number); params = map m.caller_value (map r.value x.params); lines = ls }) (f_lines x.lines)

  abbrev cut_p : Block → List Block → List Block
  cut_p x bs = cut_block P x ∷ (body P g.blocks ++ (after_blocks P (kind_of site.inst) ++ map (block_under (caller_names P)) bs))

  abbrev cut_q : Block → List Block → List Block
  cut_q x bs = cut_block Q x ∷ (body Q h.blocks ++ (after_blocks Q (kind_of (instruction_under r site.inst)) ++ map (block_under (caller_names Q)) bs))

  middles : (bs : List Block) → map (block_under t) (body P g.blocks ++ (after_blocks P (kind_of site.inst) ++ map (block_under (caller_names P)) bs)) ≡ body Q h.blocks ++ (after_blocks Q (kind_of (instruction_under r site.inst)) ++ map (block_under (caller_names Q)) (map (block_under r) bs))
  middles bs =
      map-append (block_under t) (body P g.blocks) (after_blocks P (kind_of site.inst) ++ map (block_under (caller_names P)) bs)
      ∙ ap₂ (λ u w. u ++ w) (bodies g.blocks ∙ ap (body Q) (sym k.callee_blocks)) (map-append (block_under t) (after_blocks P (kind_of site.inst)) (map (block_under (caller_names P)) bs) ∙ ap₂ (λ u w. u ++ w) (afters (kind_of site.inst) ∙ ap (after_blocks Q) (sym (kind_same r site.inst))) (f_blocks bs))

  -- the numbers of these blocks that are not `at` stay other numbers
  pub carried : (bs : List Block) → ((x : ℕ) → In x (block_numbers bs) → r.block x ≡ r.block at → x ≡ at) → map (block_under t) (spliced_blocks P bs) ≡ spliced_blocks Q (map (block_under r) bs)
  carried [] apart = refl
  carried (x ∷ bs) apart =
      elim (cases_eq x.number at) [
        | inl e ↦
            ap (map (block_under t)) (hit x.number at (cut_p x bs) (block_under (caller_names P) x ∷ spliced_blocks P bs) e)
            ∙ (ap₂ (λ (u : Block) w. u ∷ w) (cut_same x) (middles bs)
            ∙ sym (hit (r.block x.number) (r.block at) (cut_q (block_under r x) (map (block_under r) bs)) (block_under (caller_names Q) (block_under r x) ∷ spliced_blocks Q (map (block_under r) bs)) (ap r.block e)))
        | inr e ↦
            ap (map (block_under t)) (miss x.number at (cut_p x bs) (block_under (caller_names P) x ∷ spliced_blocks P bs) e)
            ∙ (ap₂ (λ (u : Block) w. u ∷ w) (block x) (carried bs (λ y i. apart y (inr i)))
            ∙ sym (miss (r.block x.number) (r.block at) (cut_q (block_under r x) (map (block_under r) bs)) (block_under (caller_names Q) (block_under r x) ∷ spliced_blocks Q (map (block_under r) bs)) (λ z. e (apart x.number (inl refl) z))))
      ]

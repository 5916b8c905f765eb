-- The result of a splice is linked to its source.
-- no new number at all
use Rattle.std.proofs.Common.{◌≡◌, ℕ, zero, suc, ◌+◌, ◌<◌, inl, inr, List, [], ◌∷◌, ◌++◌, length, map, Option, Some, None, true, false, refl, sym, ap, ap₂, ◌∙◌, subst, subst₂, arith, eq-eqb, ne_eqb}
use Rattle.std.specs.Prelude.{slice_get, if◌then◌else◌}
use Rattle.std.proofs.lemmas.Bool.{cases_eq, cases_lt}
use Rattle.ir_core.specs.declared.names.FuncName.{FuncName}
use Rattle.ir_core.specs.declared.instructions.Arg.{Arg}
use Rattle.ir_core.specs.declared.instructions.BlockCall.{BlockCall}
use Rattle.exn_tables.specs.declared.table.Entry.{Entry}
use Rattle.debug_tags.specs.declared.tags.Tag.{Tag}
use Rattle.ir_core.specs.declared.instructions.Arg.TheVariants as arg
use Rattle.debug_tags.specs.declared.tags.Tag.TheVariants as tag
use Rattle.ir_core.specs.Module.{Block, BrTable, Branch, Branches, Brif, Call, CallTarget, Const, Direct, FuncAddr, Function, Indirect, Instruction, Jump, Line, Load, Module, Nop, Plain, Pure, PureImm, Return, ReturnCall, SequencePoint, Simple, StackLoad, StackStore, Store, Trap, Trapnz, Trapz, TryCall, TryTarget, TryDirect, TryIndirect}
use Rattle.ir_core.specs.Lookup.{find_block, find_function}
use Rattle.ir_semantics.specs.Renaming.{Renaming, arg_under, block_under, branch_under, called_under, entry_under, instruction_under, line_under, simple_under, tag_under, target_under, try_target_under}
use Rattle.ir_semantics.specs.Splice.{Splicing, Within, after_block, after_blocks, body, callee_names, caller_names, cut_block, kind_of, pair, fragment, replace, sides, spliced, spliced_blocks, triangle}
use Rattle.ir_semantics.specs.Site.{Site}
use Rattle.inline_outcomes.specs.Stands.{Stands}
use Rattle.inline_outcomes.proofs.Local.{Fits}
use Rattle.inline_outcomes.proofs.Frames.{Embeds}
use Rattle.inline_outcomes.proofs.Related.{Distinct, RestF, RestG, RestOf}
use Rattle.inline_outcomes.proofs.Stepping.{LinkOf, Linked, Starts, inlined, renamed}
use Rattle.inline_outcomes.proofs.Runs.{SameRuns, same_runs}
use Rattle.inline_outcomes.proofs.Places.{after_cut, append_none, append_some, f_found, find_hit, g_found, g_off, new_found, piece_rest}
use Rattle.ir_core.proofs.Equal.{equal_name, cases_name}
use Rattle.ir_core.proofs.Gets.{some_same, get_below}
use Rattle.ir_core.proofs.ByNumber.{found_is}
use Rattle.inline_outcomes.proofs.Merging.{other_callee, other_sig, own_callee, own_sig}
use Rattle.inline_outcomes.proofs.Functions.{names_stay, others_stay, replaced}

abbrev pub same_numbers : Renaming
same_numbers = record { value = λ v. v; block = λ b. b; slot = λ k. k; sig = λ s. s; callee = λ k. k }

pub map_same : {A : Type 0} (f : A → A) → ((a : A) → f a ≡ a) → (as' : List A) → map f as' ≡ as'
map_same f h [] = refl
map_same f h (a ∷ as') = ap₂ (λ x xs. x ∷ xs) (h a) (map_same f h as')

arg_same : (a : Arg) → arg_under same_numbers a ≡ a
arg_same (arg.Value v) = refl
arg_same (arg.Ret i) = refl
arg_same (arg.Exn i) = refl

target_same : (t : BlockCall) → target_under same_numbers t ≡ t
target_same t = ap (λ as'. record t { args = as' }) (map_same (arg_under same_numbers) arg_same t.args)

entry_same : (e : Entry BlockCall) → entry_under same_numbers e ≡ e
entry_same e = ap (λ t. record e { target = t }) (target_same e.target)

tag_same : (t : Tag) → tag_under same_numbers t ≡ t
tag_same (tag.User n) = refl
tag_same (tag.Slot k) = refl

pub values_same : (vs : List ℕ) → map same_numbers.value vs ≡ vs
values_same vs = map_same same_numbers.value (λ v. refl) vs

simple_same : (p : Simple) → simple_under same_numbers p ≡ p
simple_same Nop = refl
simple_same (Const x) = refl
simple_same (Pure op args) = ap (Pure op) (values_same args)
simple_same (PureImm op a n) = refl
simple_same (Load a1 a2 a3 a4) = refl
simple_same (Store a1 a2 a3 a4 a5) = refl
simple_same (StackLoad a1 a2 a3) = refl
simple_same (StackStore a1 a2 a3) = refl
simple_same (FuncAddr k) = refl
simple_same (Trap code) = refl
simple_same (Trapz v code) = refl
simple_same (Trapnz v code) = refl

branch_same : (c : Branch) → branch_under same_numbers c ≡ c
branch_same (Jump t) = ap Jump (target_same t)
branch_same (Brif v a b) = ap₂ (Brif v) (target_same a) (target_same b)
branch_same (BrTable v default ts) = ap₂ (BrTable v) (target_same default) (map_same (target_under same_numbers) target_same ts)

called_same : (t : CallTarget) → called_under same_numbers t ≡ t
called_same (Direct k) = refl
called_same (Indirect s a) = refl

try_same : (t : TryTarget) → try_target_under same_numbers t ≡ t
try_same (TryDirect k) = refl
try_same (TryIndirect a) = refl

instruction_same : (i : Instruction) → instruction_under same_numbers i ≡ i
instruction_same (Plain p) = ap Plain (simple_same p)
instruction_same (Branches c) = ap Branches (branch_same c)
instruction_same SequencePoint = refl
instruction_same (Return vs) = ap Return (values_same vs)
instruction_same (Call t args) = ap₂ Call (called_same t) (values_same args)
instruction_same (ReturnCall t args) = ap₂ ReturnCall (called_same t) (values_same args)
instruction_same (TryCall t sg args normal table) =
    ap (λ z. TryCall z sg (map same_numbers.value args) (target_under same_numbers normal) (map (entry_under same_numbers) table)) (try_same t) ∙ ap (λ z. TryCall t sg z (target_under same_numbers normal) (map (entry_under same_numbers) table)) (values_same args) ∙ ap (λ z. TryCall t sg args z (map (entry_under same_numbers) table)) (target_same normal) ∙ ap (TryCall t sg args normal) (map_same (entry_under same_numbers) entry_same table)

pub line_same : (i : Line) → line_under same_numbers i ≡ i
line_same i =
    ap (λ z. record i { inst = z; results = map same_numbers.value i.results; tags = map (tag_under same_numbers) i.tags }) (instruction_same i.inst) ∙ ap (λ z. record i { results = z; tags = map (tag_under same_numbers) i.tags }) (values_same i.results) ∙ ap (λ z. record i { tags = z }) (map_same (tag_under same_numbers) tag_same i.tags)

pub lines_same : (ls : List Line) → ls ≡ map (line_under same_numbers) ls
lines_same ls = sym (map_same (line_under same_numbers) line_same ls)

same_embeds : (h : Function) → Embeds h h same_numbers (RestOf same_numbers)
same_embeds h =
    record {
      fits = record {
        value = λ a b q. q;
        slot = λ a b q. q;
        size = λ k z q. (q, get_below h.slots k z q);
        sig = λ k s q. q;
        callee = λ k c q. (c, q, record { name = refl; sig = λ s e. e });
      };
      block = λ b k q. (k, q, sym (values_same k.params), lines_same k.lines);
    }

same_starts : (h : Function) → Starts h h same_numbers (RestOf same_numbers)
same_starts h = record { first = λ b bs q. (b, bs, q, sym (values_same b.params), lines_same b.lines) }

-- lists side by side

get_left : {A : Type 0} (xs ys : List A) (k : ℕ) (a : A) → slice_get xs k ≡ Some a → slice_get (xs ++ ys) k ≡ Some a
get_left [] ys k a h = cc
get_left (x ∷ xs) ys zero a h = h
get_left (x ∷ xs) ys (suc k) a h = get_left xs ys k a h

get_right : {A : Type 0} (xs ys : List A) (k : ℕ) → slice_get (xs ++ ys) (length xs + k) ≡ slice_get ys k
get_right [] ys k = let e : 0 + k ≡ k = omega arith in ap (slice_get ys) e
get_right (x ∷ xs) ys k = let e : length (x ∷ xs) + k ≡ suc (length xs + k) = omega arith in ap (slice_get (x ∷ (xs ++ ys))) e ∙ get_right xs ys k

-- the names of sides

tri_up : (a b : ℕ) → a < b → triangle a + a < triangle b
tri_up a zero h = absurd (omega arith)
tri_up a (suc b) h =
    elim (cases_eq a b) [ inl q ↦ let e : triangle a ≡ triangle b = ap triangle q in omega (arith, e, q) | inr q ↦ let r : a < b = omega arith in omega (arith, tri_up a b r) ]

pub pair_same : (c j b k : ℕ) → pair c j ≡ pair b k → (c ≡ b) × (j ≡ k)
pair_same c j b k h =
    elim (cases_eq (c + j) (b + k)) [
      | inl q ↦ let e : triangle (c + j) ≡ triangle (b + k) = ap triangle q in let e2 : j ≡ k = omega (arith, h, e) in (omega (arith, q, e2), e2)
      | inr q ↦ absurd (elim (cases_lt (c + j) (b + k)) [ inl r ↦ let u = tri_up (c + j) (b + k) r in omega (arith, u, h) | inr r ↦ let r' : b + k < c + j = omega (arith, r, q) in let u = tri_up (b + k) (c + j) r' in omega (arith, u, h) ])
    ]

pub distinct_sides : Distinct sides
distinct_sides =
    record {
      caller_value = λ a b q. omega (arith, q);
      callee_value = λ a b q. omega (arith, q);
      caller_block = λ a b q. omega (arith, q);
      callee_block = λ a b q. omega (arith, q);
      values = λ a b q. omega (arith, q);
      value_new = λ a c i q. omega (arith, q);
      new_value = λ c i j q. let e : pair c i ≡ pair c j = omega (arith, q) in (pair_same c i c j e).1;
      blocks = λ a b q. omega (arith, q);
      caller_after = λ a q. omega (arith, q);
      callee_after = λ a q. omega (arith, q);
      caller_new = λ a c j q. omega (arith, q);
      callee_new = λ a c j q. omega (arith, q);
      new_after = λ c j q. omega (arith, q);
      new_block = λ c j b k q. let e : pair c j ≡ pair b k = omega (arith, q) in pair_same c j b k e;
    }

module _ (S : Splicing) (names : Distinct S.naming) (site : Stands S) where
  caller_fits : Fits S.caller (spliced S) (caller_names S)
  caller_fits =
      record {
        value = names.caller_value;
        slot = λ a b q. q;
        size = λ k z q. (get_left S.caller.slots S.callee.slots k z q, get_below S.caller.slots k z q);
        sig = own_sig S.caller S.callee;
        callee = λ k c q. (c, own_callee S.caller S.callee k c q, record { name = refl; sig = own_sig S.caller S.callee c.sig });
      }

  callee_fits : Fits S.callee (spliced S) (callee_names S)
  callee_fits =
      record {
        value = names.callee_value;
        slot = λ a b q. let e : length S.caller.slots + a ≡ length S.caller.slots + b = q in omega (arith, e);
        size = λ k z q. (get_right S.caller.slots S.callee.slots k ∙ q, get_below S.callee.slots k z q);
        sig = other_sig S.caller S.callee;
        callee = λ k c q. let p = other_callee S.caller S.callee k c q in (p.0, p.1, record { name = p.2; sig = p.3 });
      }

  pub embeds_f : Embeds S.caller (spliced S) (caller_names S) (RestF S)
  embeds_f = record { fits = caller_fits; block = λ b k q. f_found S names S.caller.blocks site.block site.block_found site.lines b k q }

  pub in_out : (x : ℕ) (k : Block) → ((b : ℕ) → S.naming.caller_block b ≡ x → ⊥) → find_block x (body S S.callee.blocks) ≡ Some k → find_block x (spliced S).blocks ≡ Some k
  in_out x k off h =
      let a = after_cut S names x off S.caller.blocks site.block site.block_found in
      a.1 ∙ append_some x (body S S.callee.blocks) (after_blocks S (kind_of S.site.inst) ++ map (block_under (caller_names S)) a.0) k h

  pub embeds_g : Embeds S.callee (spliced S) (callee_names S) (RestG S (kind_of S.site.inst))
  embeds_g =
      record {
        fits = callee_fits;
        block = λ b k q. (
          record { number = S.naming.callee_block k.number; params = map S.naming.callee_value k.params; lines = (fragment S k.number 0 k.lines).lines },
          in_out (S.naming.callee_block b) _ (λ c p. names.blocks c b p) (g_found S names S.callee.blocks b k q),
          refl,
          piece_rest S names k.number 0 k.lines (λ i k' below h. in_out (S.naming.new_block k.number i) k' (λ c p. names.caller_new c k.number i p) (new_found S names S.callee.blocks k.number k (ap (λ z. find_block z S.callee.blocks) (found_is b S.callee.blocks k q) ∙ q) i k' h)),
        );
      }

  pub after_is : kind_of S.site.inst ≡ Within → find_block S.naming.after (spliced S).blocks ≡ Some (after_block S)
  after_is within =
      let a = after_cut S names S.naming.after names.caller_after S.caller.blocks site.block site.block_found in
      a.1 ∙ append_none S.naming.after (body S S.callee.blocks) _ (g_off S names S.naming.after names.callee_after names.new_after S.callee.blocks) ∙ ap (λ k. find_block S.naming.after (after_blocks S k ++ map (block_under (caller_names S)) a.0)) within ∙ find_hit S.naming.after (after_block S) (map (block_under (caller_names S)) a.0) refl

  starts_f : Starts S.caller (spliced S) (caller_names S) (RestF S)
  starts_f =
      record {
        first = λ b bs q.
            elim (cases_eq b.number S.at) [
              | inl p ↦
                  let same : b ≡ site.block = some_same (sym (find_hit S.at b bs p) ∙ ap (find_block S.at) (sym q) ∙ site.block_found) in
                  (cut_block S b, body S S.callee.blocks ++ (after_blocks S (kind_of S.site.inst) ++ map (block_under (caller_names S)) bs), ap (spliced_blocks S) q ∙ ap (λ c. if c then cut_block S b ∷ (body S S.callee.blocks ++ (after_blocks S (kind_of S.site.inst) ++ map (block_under (caller_names S)) bs)) else block_under (caller_names S) b ∷ spliced_blocks S bs) (eq-eqb b.number S.at p), refl, inr (S.before, ap (λ z. z.lines) same ∙ site.lines, refl))
              | inr p ↦ (block_under (caller_names S) b, spliced_blocks S bs, ap (spliced_blocks S) q ∙ ap (λ c. if c then cut_block S b ∷ (body S S.callee.blocks ++ (after_blocks S (kind_of S.site.inst) ++ map (block_under (caller_names S)) bs)) else block_under (caller_names S) b ∷ spliced_blocks S bs) (ne_eqb b.number S.at p), refl, inl refl)
            ];
      }

module _ (M : Module) (S : Splicing) (names : Distinct S.naming) (site : Site M S) where
  stands : Stands S
  stands = record { block = site.block; block_found = site.block_found; lines = site.lines }

  funcs_linked : (name : FuncName) → LinkOf S (find_function name M) (find_function name (replace (spliced S) M))
  funcs_linked name =
      elim (cases_name name S.caller.name) [
        | inl q ↦ subst₂ (LinkOf S) (sym (ap (λ x. find_function x M) q ∙ site.caller_found)) (sym (ap (λ x. find_function x (replace (spliced S) M)) q ∙ replaced (spliced S) M S.caller site.caller_found)) (spliced S, refl, inlined refl refl)
        | inr q ↦ subst (LinkOf S (find_function name M)) (sym (others_stay (spliced S) M name (λ p. let e : false ≡ true = sym q ∙ equal_name name S.caller.name p in cc))) (itself (find_function name M))
      ]
    where
      itself : (o : Option Function) → LinkOf S o o
      itself None = refl
      itself (Some h) = (h, refl, renamed same_numbers refl (same_embeds h) (same_starts h))

  pub splice_linked : Linked M (replace (spliced S) M) S
  splice_linked =
      record {
        names = names;
        same_names = names_stay M S.caller S.callee (spliced S) refl refl site.caller_found site.declared.name site.callee_found;
        f_embeds = embeds_f S names stands;
        f_starts = starts_f S names stands;
        g_embeds = embeds_g S names stands;
        after_found = after_is S names stands;
        funcs = funcs_linked;
        callee = site.callee;
        is_call = site.is_call;
        calls_callee = λ c q. ap (λ z. find_function z.name M) (some_same (sym q ∙ site.declared_found)) ∙ site.callee_found;
      }

  pub splice_runs : SameRuns M (replace (spliced S) M)
  splice_runs = same_runs M (replace (spliced S) M) S splice_linked

-- The form of an instruction, by the class of its first token.
use Rattle.std.proofs.Common.{◌≡◌, ℕ, Bool, true, false, cond, ◌==◌, ◌||◌, List, [], ◌∷◌, Option, Some, None, Result, Err, refl, sym, ap, subst, ◌∙◌}
use Rattle.std.proofs.lemmas.Bool.{eqb-true, eq-eqb}
use Rattle.grammar.specs.Rules.{Lexeme, Syntax, UnknownOpcode, Unsupported, Out, heads, member}
use Rattle.clif_words.specs.declared.class.Class.{Class}
use Rattle.clif_words.specs.declared.class.Class.TheVariants as classes
use Rattle.clif_words.specs.Classes.{code}
use Rattle.clif_insts.specs.declared.opening.Opening.{Opening}
use Rattle.clif_insts.specs.declared.raw.RawInst.{RawInst}
use Rattle.token_reader.specs.declared.stop.Stop.{Stop}
use Rattle.token_reader.specs.declared.stop.Stop.TheVariants as stops
use Rattle.token_reader.specs.Next.{is_among}
use Rattle.token_reader.specs.Reading.{Stops, Gives, same}
use Rattle.clif_insts.specs.Grammar.{excepted, words_but}
use Rattle.clif_insts.specs.Forms.{inst_by, inst_at, iconst_at, binary_at, unary_at, icmp_at, select_at, convert_at, binary_imm_at, icmp_imm_at, load_at, load_wide_at, store_at, stack_load_at, stack_store_at, func_addr_at, nullary_at, jump_at, brif_at, br_table_at, return_inst_at, trap_inst_at, trap_if_at, call_at, try_call_at, call_indirect_at, try_call_indirect_at}

-- the next token is there, and of this class
abbrev pub NextIs : Class → List Lexeme → Type 0
NextIs class ts = (codes : List ℕ) → member (code class) codes ≡ heads codes ts

-- an instruction whose first token is of the class
abbrev pub by_class : Class → Opening → List Lexeme → Out RawInst
by_class classes.Iconst opening ts = iconst_at ts
by_class classes.Binary opening ts = binary_at ts
by_class classes.Unary opening ts = unary_at ts
by_class classes.Icmp opening ts = icmp_at ts
by_class classes.Select opening ts = select_at ts
by_class classes.Convert opening ts = convert_at ts
by_class classes.BinaryImm opening ts = binary_imm_at ts
by_class classes.IcmpImm opening ts = icmp_imm_at ts
by_class classes.Load opening ts = load_at ts
by_class classes.LoadWide opening ts = load_wide_at ts
by_class classes.Store opening ts = store_at ts
by_class classes.StackLoad opening ts = stack_load_at ts
by_class classes.StackStore opening ts = stack_store_at ts
by_class classes.FuncAddr opening ts = func_addr_at ts
by_class classes.Nullary opening ts = nullary_at ts
by_class classes.Jump opening ts = jump_at ts
by_class classes.Brif opening ts = brif_at ts
by_class classes.BrTable opening ts = br_table_at ts
by_class classes.Return opening ts = return_inst_at ts
by_class classes.Trap opening ts = trap_inst_at ts
by_class classes.TrapIf opening ts = trap_if_at ts
by_class classes.Call opening ts = call_at ts
by_class classes.TryCall opening ts = try_call_at ts
by_class classes.CallIndirect opening ts = call_indirect_at ts
by_class classes.TryCallIndirect opening ts = try_call_indirect_at ts
by_class classes.RefusedOpcode opening ts = Err (Unsupported, ts)
by_class class opening ts = Err (cond (member (code class) (words_but (excepted opening))) UnknownOpcode Syntax, ts)

self_eq : (n : ℕ) → (n == n) ≡ true
self_eq n = eq-eqb n n refl

first_class : (class : Class) (x : Lexeme) (xs : List Lexeme) → NextIs class (x ∷ xs) → x.class ≡ code class
first_class class x xs h =
    let one : ((x.class == code class) || false) ≡ ((x.class == x.class) || false) = h (x.class ∷ []) in
    let two : ((x.class == code class) || false) ≡ true = one ∙ ap (λ (b : Bool). b || false) (self_eq x.class) in
    eqb-true x.class (code class) (go (x.class == code class) two)
  where
    go : (b : Bool) → (b || false) ≡ true → b ≡ true
    go true e = refl
    go false e = absurd cc

by_first : (class : Class) (opening : Opening) (x : Lexeme) (xs : List Lexeme) → x.class ≡ code class → inst_by opening return_inst_at (x ∷ xs) ≡ by_class class opening (x ∷ xs)
by_first classes.Iconst opening x xs e = rw e refl
by_first classes.Binary opening x xs e = rw e refl
by_first class opening x xs e = rw e refl

-- an instruction whose first token is of the class is read by its form
pub choice : (class given : Class) (opening : Opening) (ts : List Lexeme) → given ≡ class → NextIs given ts → inst_at opening ts ≡ by_class class opening ts
unfolding inst_at
choice class given opening [] e h = absurd (let f : ((code given == code given) || false) ≡ false = h (code given ∷ []) in let g = ap (λ (b : Bool). b || false) (self_eq (code given)) in cc)
choice class given opening (x ∷ xs) e h = by_first class opening x xs (first_class given x xs h ∙ ap code e)

pub chosen : (class given : Class) (opening : Opening) (ts now : List Lexeme) (result : Result RawInst Stop) → given ≡ class → NextIs given ts → Gives same now result (by_class class opening ts) → Gives same now result (inst_at opening ts)
chosen class given opening ts now result e h gives = subst (λ (z : Out RawInst). Gives same now result z) (sym (choice class given opening ts e h)) gives

-- the class is not that of an opcode
pub record NoOpcode (class : Class) : Type 0 where
  pub not_iconst : class ≡ classes.Iconst → ⊥
  pub not_binary : class ≡ classes.Binary → ⊥
  pub not_unary : class ≡ classes.Unary → ⊥
  pub not_icmp : class ≡ classes.Icmp → ⊥
  pub not_select : class ≡ classes.Select → ⊥
  pub not_convert : class ≡ classes.Convert → ⊥
  pub not_binary_imm : class ≡ classes.BinaryImm → ⊥
  pub not_icmp_imm : class ≡ classes.IcmpImm → ⊥
  pub not_load : class ≡ classes.Load → ⊥
  pub not_load_wide : class ≡ classes.LoadWide → ⊥
  pub not_store : class ≡ classes.Store → ⊥
  pub not_stack_load : class ≡ classes.StackLoad → ⊥
  pub not_stack_store : class ≡ classes.StackStore → ⊥
  pub not_func_addr : class ≡ classes.FuncAddr → ⊥
  pub not_nullary : class ≡ classes.Nullary → ⊥
  pub not_jump : class ≡ classes.Jump → ⊥
  pub not_brif : class ≡ classes.Brif → ⊥
  pub not_br_table : class ≡ classes.BrTable → ⊥
  pub not_return : class ≡ classes.Return → ⊥
  pub not_trap : class ≡ classes.Trap → ⊥
  pub not_trap_if : class ≡ classes.TrapIf → ⊥
  pub not_call : class ≡ classes.Call → ⊥
  pub not_try_call : class ≡ classes.TryCall → ⊥
  pub not_call_indirect : class ≡ classes.CallIndirect → ⊥
  pub not_try_call_indirect : class ≡ classes.TryCallIndirect → ⊥
  pub not_refused_opcode : class ≡ classes.RefusedOpcode → ⊥

no_form : (class : Class) (opening : Opening) (ts : List Lexeme) → NoOpcode class → by_class class opening ts ≡ Err (cond (member (code class) (words_but (excepted opening))) UnknownOpcode Syntax, ts)
no_form classes.Iconst opening ts others = absurd (others.not_iconst refl)
no_form classes.Binary opening ts others = absurd (others.not_binary refl)
no_form classes.Unary opening ts others = absurd (others.not_unary refl)
no_form classes.Icmp opening ts others = absurd (others.not_icmp refl)
no_form classes.Select opening ts others = absurd (others.not_select refl)
no_form classes.Convert opening ts others = absurd (others.not_convert refl)
no_form classes.BinaryImm opening ts others = absurd (others.not_binary_imm refl)
no_form classes.IcmpImm opening ts others = absurd (others.not_icmp_imm refl)
no_form classes.Load opening ts others = absurd (others.not_load refl)
no_form classes.LoadWide opening ts others = absurd (others.not_load_wide refl)
no_form classes.Store opening ts others = absurd (others.not_store refl)
no_form classes.StackLoad opening ts others = absurd (others.not_stack_load refl)
no_form classes.StackStore opening ts others = absurd (others.not_stack_store refl)
no_form classes.FuncAddr opening ts others = absurd (others.not_func_addr refl)
no_form classes.Nullary opening ts others = absurd (others.not_nullary refl)
no_form classes.Jump opening ts others = absurd (others.not_jump refl)
no_form classes.Brif opening ts others = absurd (others.not_brif refl)
no_form classes.BrTable opening ts others = absurd (others.not_br_table refl)
no_form classes.Return opening ts others = absurd (others.not_return refl)
no_form classes.Trap opening ts others = absurd (others.not_trap refl)
no_form classes.TrapIf opening ts others = absurd (others.not_trap_if refl)
no_form classes.Call opening ts others = absurd (others.not_call refl)
no_form classes.TryCall opening ts others = absurd (others.not_try_call refl)
no_form classes.CallIndirect opening ts others = absurd (others.not_call_indirect refl)
no_form classes.TryCallIndirect opening ts others = absurd (others.not_try_call_indirect refl)
no_form classes.RefusedOpcode opening ts others = absurd (others.not_refused_opcode refl)
no_form class opening ts others = refl

stops_as : (b : Bool) (now : List Lexeme) (stop : Stop) (given : Out RawInst) → stop ≡ cond b stops.UnknownOpcode stops.Syntax → given ≡ Err (cond b UnknownOpcode Syntax, now) → Stops now stop given
stops_as true now stop given e f = rw e f
stops_as false now stop given e f = rw e f

-- any other class stops the reading
pub other : (class : Class) (opening : Opening) (ts : List Lexeme) (stop : Stop) → NextIs class ts → stop ≡ cond (member (code class) (words_but (excepted opening))) stops.UnknownOpcode stops.Syntax → NoOpcode class → Stops ts stop (inst_at opening ts)
other class opening ts stop h e others = stops_as (member (code class) (words_but (excepted opening))) ts stop (inst_at opening ts) e (choice class class opening ts refl h ∙ no_form class opening ts others)

-- no instruction stands at the end
pub at_end : (opening : Opening) (next : Option Class) (ts : List Lexeme) → next ≡ None → ((codes : List ℕ) → is_among next codes ≡ heads codes ts) → inst_at opening ts ≡ Err (Syntax, ts)
unfolding inst_at
at_end opening next [] e h = refl
at_end opening None (x ∷ xs) e h = absurd (let f : false ≡ ((x.class == x.class) || false) = h (x.class ∷ []) in let g = ap (λ (b : Bool). b || false) (self_eq x.class) in cc)
at_end opening (Some class) (x ∷ xs) e h = absurd cc

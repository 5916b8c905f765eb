-- A line keeps its form under other numbers.
use Rattle.std.proofs.Common.{◌≡◌, ℕ, List, [], ◌∷◌, map, Option, Some, None, Bool, false, true, sym, ◌∙◌, subst}
use Rattle.std.specs.Prelude.{IsSomeAnd, IsSome, ◌==◌}
use Rattle.clk_num.specs.declared.width.Width.{Width}
use Rattle.clk_num.specs.declared.op.Op.{Op}
use Rattle.exn_tables.specs.declared.table.Entry.{Entry}
use Rattle.debug_tags.specs.declared.tags.Tag.{Tag}
use Rattle.debug_tags.specs.declared.tags.Tag.TheVariants as tag
use Rattle.ir_core.specs.declared.signatures.Ty.{Ty}
use Rattle.ir_core.specs.declared.signatures.Ty.TheVariants.{I64}
use Rattle.ir_core.specs.declared.instructions.Arg.{Arg}
use Rattle.ir_core.specs.declared.instructions.Arg.TheVariants as arg
use Rattle.ir_core.specs.declared.instructions.Access.{Access}
use Rattle.ir_core.specs.declared.instructions.Access.TheVariants.{Full, Uload, Sload}
use Rattle.ir_core.specs.declared.instructions.BlockCall.{BlockCall}
use Rattle.ir_core.specs.Module.{Simple, Nop, Const, Pure, PureImm, Load, Store, StackLoad, StackStore, FuncAddr, Trap, Trapz, Trapnz, Branch, Jump, Brif, BrTable, Function, Branches, Call, Instruction, Line, Plain, Return, ReturnCall, SequencePoint, TryCall}
use Rattle.ir_core.specs.Lookup.{type_of, signature_of, param_types, ty_of}
use Rattle.ir_core.specs.Lists.{Each}
use Rattle.ir_core.specs.Uses.{branch_targets}
use Rattle.ir_semantics.specs.TypeRules.{HaveTypes, types_of, each_some}
use Rattle.ir_core.specs.Forms.{access_type}
use Rattle.ir_core.proofs.Members.{each_join}
use Rattle.ir_semantics.specs.Renaming.{Renaming, arg_under, target_under, simple_under, branch_under, called_under, entry_under, instruction_under, tag_under}
use Rattle.ir_semantics.specs.Splice.{tags_before}
use Rattle.ir_semantics.proofs.SafetyPlaces.{some_and}
use Rattle.ir_text.specs.Writable.{ResultTypes, OpForm, conversion, result_types, AccessForm, NarrowSuffix, SimpleForm, BranchForm, InstructionForm, TargetWritable, ValueArg, NormalArg, TableArg, TableWritable, TagWritable}
use Rattle.inline_outcomes.proofs.Frames.{Embeds}
use Rattle.inline_acceptance.proofs.KeptLists.{and_some, each_map, length_map, targets_under}
use Rattle.inline_acceptance.proofs.KeptRules.{sig_under, some_map}

-- values that have the types have the types of a form's results
pub results_of : (f : Function) (vs : List ℕ) (ts : List Ty) → HaveTypes f vs ts → ResultTypes f vs ts
results_of f [] ts h = tt
results_of f (v ∷ vs) [] h = cc
results_of f (v ∷ vs) (t ∷ ts) h = ((let e : type_of f v ≡ Some t = cc in e), results_of f vs ts (let e : types_of f vs ≡ each_some ts = cc in e))

-- ---- tags

pub tags_written : (r : Renaming) (ts : List Tag) → Each TagWritable ts → Each TagWritable (map (tag_under r) ts)
tags_written r [] h = tt
tags_written r (tag.User n ∷ ts) h = (h.0, tags_written r ts h.1)
tags_written r (tag.Slot k ∷ ts) h = (tt, tags_written r ts h.1)

pub joined_written : (i : Instruction) (us ts : List Tag) → Each TagWritable us → Each TagWritable ts → Each TagWritable (tags_before i us ts)
joined_written SequencePoint us ts a b = each_join TagWritable us ts a b
joined_written (Call t c) us ts a b = each_join TagWritable us ts a b
joined_written (ReturnCall t c) us ts a b = each_join TagWritable us ts a b
joined_written (TryCall t c d e f) us ts a b = each_join TagWritable us ts a b
joined_written (Plain p) us ts a b = b
joined_written (Branches p) us ts a b = b
joined_written (Return p) us ts a b = b

-- ---- arguments

value_under : (r : Renaming) (a : Arg) → ValueArg a → ValueArg (arg_under r a)
value_under r (arg.Value v) h = h
value_under r (arg.Ret i) h = h
value_under r (arg.Exn i) h = h

normal_under : (r : Renaming) (a : Arg) → NormalArg a → NormalArg (arg_under r a)
normal_under r (arg.Value v) h = h
normal_under r (arg.Ret i) h = h
normal_under r (arg.Exn i) h = h

table_arg_under : (r : Renaming) (a : Arg) → TableArg a → TableArg (arg_under r a)
table_arg_under r (arg.Value v) h = h
table_arg_under r (arg.Ret i) h = h
table_arg_under r (arg.Exn i) h = h

pub normal_written : (r : Renaming) (t : BlockCall) → TargetWritable NormalArg t → TargetWritable NormalArg (target_under r t)
normal_written r t h = each_map NormalArg NormalArg (arg_under r) (normal_under r) t.args h

pub table_written : (r : Renaming) (es : List (Entry BlockCall)) → Each TableWritable es → Each TableWritable (map (entry_under r) es)
table_written r es h = each_map TableWritable TableWritable (entry_under r) (λ e p. (p.0, each_map TableArg TableArg (arg_under r) (table_arg_under r) e.target.args p.1)) es h

module _ (F G : Function) (r : Renaming) (Rest : List Line → List Line → Type 0) (emb : Embeds F G r Rest) (typed : (v : ℕ) → type_of G (r.value v) ≡ type_of F v) where
  results_under : (vs : List ℕ) (ts : List Ty) → ResultTypes F vs ts → ResultTypes G (map r.value vs) ts
  results_under [] ts h = tt
  results_under (v ∷ vs) [] h = (typed v ∙ h.0, results_under vs [] h.1)
  results_under (v ∷ vs) (t ∷ ts) h = (typed v ∙ h.0, results_under vs ts h.1)

  module _ (l l' : Line) (results : l'.results ≡ map r.value l.results) (ty : l'.ty ≡ l.ty) where
    res : (ts : List Ty) → ResultTypes F l.results ts → ResultTypes G l'.results ts
    res ts h = subst (λ z. ResultTypes G z ts) (sym results) (results_under l.results ts h)

    has_ty : IsSome l.ty → IsSome l'.ty
    has_ty h = subst (λ z. IsSome z) (sym ty) h

    op_form : (o : Op) (w : Option Width) → OpForm F l o w → OpForm G l' o w
    op_form o (Some w) h = (ty ∙ h.0, res (ty_of w ∷ []) h.1)
    op_form o None h = subst (λ z. IsSomeAnd z (λ t. ResultTypes G l'.results (result_types o t))) (sym ty) (some_map l.ty (λ t. ResultTypes F l.results (result_types o t)) (λ t. ResultTypes G l'.results (result_types o t)) (λ t q p. res (result_types o t) p) h)

    narrow : (b : Bool) (t : Ty) → NarrowSuffix b l t → NarrowSuffix b l' t
    narrow true t h = (has_ty h.0, h.1)
    narrow false t h = ty ∙ h

    access_form : (a : Access) → AccessForm l a → AccessForm l' a
    access_form (Full t) h = ty ∙ h
    access_form (Uload t n) h = (h.0, narrow (n == 4) t h.1)
    access_form (Sload t n) h = (h.0, narrow (n == 4) t h.1)

    simple_form : (p : Simple) → SimpleForm F l p → SimpleForm G l' (simple_under r p)
    simple_form Nop h = (ty ∙ h.0, res [] h.1)
    simple_form (Const x) h = (ty ∙ h.0, h.1, res (ty_of x.width ∷ []) h.2)
    simple_form (Pure o args) h = (length_map r.value args ∙ h.0, op_form o (conversion o) h.1)
    simple_form (PureImm o a imm) h = (h.0, h.1, ty ∙ h.2, op_form o None h.3)
    simple_form (Load access flags a offset) h = (h.0, h.1, access_form access h.2, res (access_type access ∷ []) h.3)
    simple_form (Store narrow flags v a offset) h = (h.0, h.1, h.2, has_ty h.3, res [] h.4)
    simple_form (StackLoad t k offset) h = (h.0, ty ∙ h.1, res (t ∷ []) h.2)
    simple_form (StackStore v k offset) h = (h.0, has_ty h.1, res [] h.2)
    simple_form (FuncAddr k) h = (ty ∙ h.0, res (I64 ∷ []) h.1)
    simple_form (Trap code) h = (h.0, ty ∙ h.1, res [] h.2)
    simple_form (Trapz v code) h = (h.0, has_ty h.1, res [] h.2)
    simple_form (Trapnz v code) h = (h.0, has_ty h.1, res [] h.2)

    branch_form : (b : Branch) → BranchForm l b → BranchForm l' (branch_under r b)
    branch_form (Jump t) h = ty ∙ h
    branch_form (Brif v t u) h = has_ty h
    branch_form (BrTable v default ts) h = ty ∙ h

    pub form_under : (i : Instruction) → InstructionForm F l i → InstructionForm G l' (instruction_under r i)
    form_under (Plain p) h = simple_form p h
    form_under (Branches b) h = (
      branch_form b h.0,
      subst (Each (TargetWritable ValueArg)) (sym (targets_under r (Branches b))) (each_map (TargetWritable ValueArg) (TargetWritable ValueArg) (target_under r) (λ t p. each_map ValueArg ValueArg (arg_under r) (value_under r) t.args p) (branch_targets b) h.1),
      res [] h.2,
    )
    form_under SequencePoint h = (ty ∙ h.0, res [] h.1)
    form_under (Return vs) h = (ty ∙ h.0, res [] h.1)
    form_under (Call t args) h =
        let u = some_and (signature_of F t) (λ s. ResultTypes F l.results (param_types s.results)) h.1 in
        (ty ∙ h.0, and_some (signature_of G (called_under r t)) (λ s. ResultTypes G l'.results (param_types s.results)) u.0 (sig_under F G r Rest emb typed t u.0 u.1) (res (param_types u.0.results) u.2))
    form_under (ReturnCall t args) h = (ty ∙ h.0, res [] h.1)
    form_under (TryCall t sig args normal table) h = (ty ∙ h.0, normal_written r normal h.1, table_written r table h.2, res [] h.3)

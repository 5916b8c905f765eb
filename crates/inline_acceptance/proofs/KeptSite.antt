-- What acceptance says of a site and of its callee.
use Rattle.std.proofs.Common.{◌≡◌, ℕ, List, [], ◌∷◌, ◌++◌, length, map, Option, Some, None, false, refl, sym, ap, ◌∙◌, subst}
use Rattle.std.specs.Prelude.{slice_get, IsSomeAnd}
use Rattle.std.specs.List.{list_any}
use Rattle.std.proofs.Common.{inl, inr}
use Rattle.std.proofs.lemmas.Bool.{cases_eq}
use Rattle.debug_tags.specs.Tags.{is_slot}
use Rattle.exn_tables.specs.declared.table.Entry.{Entry}
use Rattle.ir_core.specs.declared.signatures.Ty.{Ty}
use Rattle.ir_core.specs.declared.signatures.Ty.TheVariants.{I64}
use Rattle.ir_core.specs.declared.signatures.Sig.{Sig}
use Rattle.ir_core.specs.declared.signatures.Conv.TheVariants.{Tail}
use Rattle.ir_core.specs.declared.instructions.Arg.{Arg}
use Rattle.ir_core.specs.declared.instructions.Arg.TheVariants as arg
use Rattle.ir_core.specs.declared.instructions.BlockCall.{BlockCall}
use Rattle.ir_core.specs.declared.places.Item.TheVariants as item
use Rattle.ir_core.specs.Module.{CallTarget, Direct, Indirect, Function, Module, Branches, Call, Instruction, Line, Block, Plain, Return, ReturnCall, SequencePoint, TryCall, call_target}
use Rattle.ir_core.specs.Lookup.{and_then, find_block, type_of, signature_of, param_types, definitions, line_definitions}
use Rattle.ir_core.specs.Lists.{In, Each}
use Rattle.ir_core.specs.Uses.{table_targets, values_used, targets_used, called_used}
use Rattle.ir_semantics.specs.Available.{Available}
use Rattle.ir_semantics.specs.Accepted.{RulesHold, Rule, count_mismatch, type_mismatch, convention, signature_mismatch, slot_range, tag_place, not_available, HoldsAtLine, UsesAvailable}
use Rattle.ir_semantics.specs.CountRules.{Counts, InstructionCounts, TargetCounts, ArgCounts}
use Rattle.ir_semantics.specs.TypeRules.{Types, InstructionTypes, TargetTypes, arg_type, HaveTypes, types_of}
use Rattle.ir_semantics.specs.CallRules.{Convention, Signature, TagPlace, InstructionConvention, InstructionTags}
use Rattle.ir_semantics.specs.SlotRules.{SlotRange}
use Rattle.ir_core.specs.WellFormed.{WellFormed}
use Rattle.inline_acceptance.specs.Alone.{CallSite}
use Rattle.ir_core.specs.Uses.{callee_of, named_callee}
use Rattle.ir_core.proofs.Gets.{some_same}
use Rattle.ir_core.proofs.Members.{in_left, in_right}
use Rattle.ir_semantics.specs.Splice.{Kind, Last, Splicing, Tries, Within, args_of, kind_of}
use Rattle.ir_semantics.proofs.SafetyPlaces.{has_type, some_and}
use Rattle.inline_outcomes.proofs.Places.{find_hit, find_skip}
use Rattle.inline_acceptance.proofs.KeptLists.{get_site}

-- the rules of a line, but for its place in its block and its targets
pub record LineKept (f : Function) (b i : ℕ) (l : Line) : Type 0 where
  pub counts : Counts f l
  pub types : Types f l
  pub convention : Convention f l
  pub signature : Signature f l
  pub slots : SlotRange f l
  pub tags : TagPlace l
  pub available : UsesAvailable f b i l

pub rule_at : (m : Module) (f : Function) → RulesHold m f → (b : ℕ) (k : Block) (i : ℕ) (l : Line) → find_block b f.blocks ≡ Some k → slice_get k.lines i ≡ Some l → (rule : Rule) → HoldsAtLine f b k i l rule
rule_at m f ok b k i l found get rule = ok (item.Inst (record { block = b; index = i })) rule k l found get

pub line_kept_at : (m : Module) (f : Function) → RulesHold m f → (b : ℕ) (k : Block) (i : ℕ) (l : Line) → find_block b f.blocks ≡ Some k → slice_get k.lines i ≡ Some l → LineKept f b i l
line_kept_at m f ok b k i l found get =
    record {
      counts = rule_at m f ok b k i l found get count_mismatch;
      types = rule_at m f ok b k i l found get type_mismatch;
      convention = rule_at m f ok b k i l found get convention;
      signature = rule_at m f ok b k i l found get signature_mismatch;
      slots = rule_at m f ok b k i l found get slot_range;
      tags = rule_at m f ok b k i l found get tag_place;
      available = rule_at m f ok b k i l found get not_available;
    }

pub each_split : {A : Type 0} (P : A → Type 0) (xs ys : List A) → Each P (xs ++ ys) → Each P xs × Each P ys
each_split P [] ys h = (tt, h)
each_split P (x ∷ xs) ys h = let u = each_split P xs ys h.1 in ((h.0, u.0), u.1)

-- ---- a parameter of a block of a whole function has a type

lines_in : (v : ℕ) (b : Block) (bs : List Block) → In v (definitions bs) → In v (definitions (b ∷ bs))
lines_in v b bs p = in_right v b.params (line_definitions b.lines ++ definitions bs) (in_right v (line_definitions b.lines) (definitions bs) p)

pub param_defined : (x : ℕ) (bs : List Block) (k : Block) → find_block x bs ≡ Some k → (v : ℕ) → In v k.params → In v (definitions bs)
param_defined x [] k h v p = cc
param_defined x (b ∷ bs) k h v p =
    elim (cases_eq b.number x) [
      | inl q ↦ let e : k ≡ b = some_same (sym h ∙ find_hit x b bs q) in in_left v b.params (line_definitions b.lines ++ definitions bs) (subst (λ z. In v z.params) e p)
      | inr q ↦ lines_in v b bs (param_defined x bs k (sym (find_skip x b bs q) ∙ h) v p)
    ]

pub param_typed : (f : Function) → WellFormed f → (x : ℕ) (k : Block) → find_block x f.blocks ≡ Some k → (v : ℕ) → In v k.params → (t : Ty) × (type_of f v ≡ Some t)
param_typed f whole x k found v p = has_type f.types v (whole.definitions_declared v (param_defined x f.blocks k found v p))

-- ---- a table's targets name no result, so their counts hold whatever the call returns

args_no_result : (f : Function) (payloads : List Ty) (n r : Option ℕ) (as' : List Arg) (vs : List ℕ) → map (arg_type f [] payloads) as' ≡ types_of f vs → ((v : ℕ) → In v vs → (t : Ty) × (type_of f v ≡ Some t)) → Each (ArgCounts n) as' → Each (ArgCounts r) as'
args_no_result f payloads n r [] vs e typed h = tt
args_no_result f payloads n r (a ∷ as') [] e typed h = cc
args_no_result f payloads n r (arg.Value w ∷ as') (v ∷ vs) e typed h = (tt, args_no_result f payloads n r as' vs (let q : map (arg_type f [] payloads) as' ≡ types_of f vs = cc in q) (λ u p. typed u (inr p)) h.1)
args_no_result f payloads n r (arg.Exn i ∷ as') (v ∷ vs) e typed h = (h.0, args_no_result f payloads n r as' vs (let q : map (arg_type f [] payloads) as' ≡ types_of f vs = cc in q) (λ u p. typed u (inr p)) h.1)
args_no_result f payloads n r (arg.Ret i ∷ as') (v ∷ vs) e typed h = let t = typed v (inl refl) in let q : None ≡ type_of f v = cc in absurd (let z : None ≡ Some t.0 = q ∙ t.1 in cc)

pub table_counts : (f : Function) → WellFormed f → (payloads : List Ty) (n r : Option ℕ) (ts : List BlockCall) → Each (TargetCounts f n) ts → Each (TargetTypes f [] payloads) ts → Each (TargetCounts f r) ts
table_counts f whole payloads n r [] c t = tt
table_counts f whole payloads n r (x ∷ ts) c t =
    let u = some_and (find_block x.block f.blocks) (λ b. map (arg_type f [] payloads) x.args ≡ types_of f b.params) t.0 in (
      (c.0.0, args_no_result f payloads n r x.args u.0.params u.2 (λ v p. param_typed f whole x.block u.0 u.1 v p) c.0.1),
      table_counts f whole payloads n r ts c.1 t.1,
    )

-- ---- the site

module _ (m : Module) (S : Splicing) (site : CallSite S) (fa : RulesHold m S.caller) where
  pub site_kept : LineKept S.caller S.at (length S.before) S.site
  site_kept = line_kept_at m S.caller fa S.at site.block (length S.before) S.site site.block_found (ap (λ ls. slice_get ls (length S.before)) site.lines ∙ get_site S.before S.site S.behind)

  -- the callee's declaration states its signature
  pub declared_sig : slice_get S.caller.sigs site.declared.sig ≡ Some S.callee.sig
  declared_sig = site.signature

  pub called_sig : (t : CallTarget) → named_callee t ≡ Some site.callee → signature_of S.caller t ≡ Some S.callee.sig
  called_sig (Indirect s a) q = cc
  called_sig (Direct k) q =
      let e : k ≡ site.callee = some_same q in
      ap (λ z. and_then (and_then (slice_get S.caller.callees z) (λ c. Some c.sig)) (slice_get S.caller.sigs)) e ∙ ap (λ o. and_then (and_then o (λ c. Some c.sig)) (slice_get S.caller.sigs)) site.declared_found ∙ declared_sig

  -- what is said of the signature of the call is said of the callee's
  of_sig : (t : CallTarget) → named_callee t ≡ Some site.callee → (P : Sig → Type 0) → IsSomeAnd (signature_of S.caller t) P → P S.callee.sig
  of_sig t q P h = subst (λ o. IsSomeAnd o P) (called_sig t q) h

  pub args_typed_at : HaveTypes S.caller (args_of S.site.inst) (param_types S.callee.sig.params)
  args_typed_at = by S.site.inst site.is_call site_kept.types
    where
      by : (i : Instruction) → callee_of i ≡ Some site.callee → InstructionTypes S.caller S.site i → HaveTypes S.caller (args_of i) (param_types S.callee.sig.params)
      by (Call t args) q h = (of_sig t q (λ s. HaveTypes S.caller args (param_types s.params) × HaveTypes S.caller S.site.results (param_types s.results)) h.2).0
      by (ReturnCall t args) q h = (of_sig t q (λ s. HaveTypes S.caller args (param_types s.params) × (param_types s.results ≡ param_types S.caller.sig.results)) h.2).0
      by (TryCall t sig args normal table) q h =
          (of_sig (call_target t sig) q (λ s. HaveTypes S.caller args (param_types s.params) × (TargetTypes S.caller (param_types s.results) [] normal × Each (TargetTypes S.caller [] (I64 ∷ I64 ∷ [])) (table_targets table))) h.2).0
      by (Plain p) q h = cc
      by (Branches p) q h = cc
      by SequencePoint q h = cc
      by (Return p) q h = cc

  pub args_available : Each (Available S.caller S.at (length S.before)) (args_of S.site.inst)
  args_available = by S.site.inst site.is_call site_kept.available
    where
      by : (i : Instruction) → callee_of i ≡ Some site.callee → Each (Available S.caller S.at (length S.before)) (values_used i) → Each (Available S.caller S.at (length S.before)) (args_of i)
      by (Call t args) q h = (each_split (Available S.caller S.at (length S.before)) (called_used t) args (each_split (Available S.caller S.at (length S.before)) (called_used t ++ args) [] h).0).1
      by (ReturnCall t args) q h = (each_split (Available S.caller S.at (length S.before)) (called_used t) args (each_split (Available S.caller S.at (length S.before)) (called_used t ++ args) [] h).0).1
      by (TryCall t sig args normal table) q h = (each_split (Available S.caller S.at (length S.before)) (called_used (call_target t sig)) args (each_split (Available S.caller S.at (length S.before)) (called_used (call_target t sig) ++ args) (targets_used (normal ∷ table_targets table)) h).0).1
      by (Plain p) q h = cc
      by (Branches p) q h = cc
      by SequencePoint q h = cc
      by (Return p) q h = cc

  pub record LastFacts : Type 0 where
    pub types : param_types S.callee.sig.results ≡ param_types S.caller.sig.results
    pub counts : length S.callee.sig.results ≡ length S.caller.sig.results
    pub conv : S.caller.sig.conv ≡ Tail
    pub tags : list_any is_slot S.site.tags ≡ false
    pub results : length S.site.results ≡ 0

  pub record TriesFacts (normal : BlockCall) (table : List (Entry BlockCall)) : Type 0 where
    pub counts : Each (TargetCounts S.caller (Some (length S.callee.sig.results))) (normal ∷ table_targets table)
    pub normal_types : TargetTypes S.caller (param_types S.callee.sig.results) [] normal
    pub table_types : Each (TargetTypes S.caller [] (I64 ∷ I64 ∷ [])) (table_targets table)
    pub available : Each (Available S.caller S.at (length S.before)) (targets_used (normal ∷ table_targets table))
    pub results : length S.site.results ≡ 0

  abbrev pub Facts : Kind → Type 0
  Facts Within = HaveTypes S.caller S.site.results (param_types S.callee.sig.results)
  Facts Last = LastFacts
  Facts (Tries normal table) = TriesFacts normal table

  pub facts : (k : Kind) → kind_of S.site.inst ≡ k → Facts k
  facts k kind = subst Facts kind (by S.site.inst site.is_call site_kept.counts site_kept.types site_kept.convention site_kept.tags site_kept.available)
    where
      by : (i : Instruction) → callee_of i ≡ Some site.callee → InstructionCounts S.caller S.site i → InstructionTypes S.caller S.site i → InstructionConvention S.caller i → InstructionTags S.site.tags i → Each (Available S.caller S.at (length S.before)) (values_used i) → Facts (kind_of i)
      by (Call t args) q c h v g a = (of_sig t q (λ s. HaveTypes S.caller args (param_types s.params) × HaveTypes S.caller S.site.results (param_types s.results)) h.2).1
      by (ReturnCall t args) q c h v g a =
          let n = of_sig t q (λ s. (length args ≡ length s.params) × ((length S.site.results ≡ 0) × (length s.results ≡ length S.caller.sig.results))) c in
          record {
            types = (of_sig t q (λ s. HaveTypes S.caller args (param_types s.params) × (param_types s.results ≡ param_types S.caller.sig.results)) h.2).1;
            counts = n.1.1;
            conv = v.0;
            tags = g;
            results = n.1.0;
          }
      by (TryCall t sig args normal table) q c h v g a =
          let n = of_sig (call_target t sig) q (λ s. (length args ≡ length s.params) × ((length S.site.results ≡ 0) × Each (TargetCounts S.caller (Some (length s.results))) (normal ∷ table_targets table))) c in
          let y = of_sig (call_target t sig) q (λ s. HaveTypes S.caller args (param_types s.params) × (TargetTypes S.caller (param_types s.results) [] normal × Each (TargetTypes S.caller [] (I64 ∷ I64 ∷ [])) (table_targets table))) h.2 in
          record {
            counts = n.1.1;
            normal_types = y.1.0;
            table_types = y.1.1;
            available = (each_split (Available S.caller S.at (length S.before)) (called_used (call_target t sig) ++ args) (targets_used (normal ∷ table_targets table)) a).1;
            results = n.1.0;
          }
      by (Plain p) q c h v g a = cc
      by (Branches p) q c h v g a = cc
      by SequencePoint q c h v g a = cc
      by (Return p) q c h v g a = cc

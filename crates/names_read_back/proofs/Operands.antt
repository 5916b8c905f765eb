-- Operands of a raw instruction mean those of the instruction, under the numbers that the text's numbers mean.
use Rattle.std.proofs.Common.{◌≡◌, ℕ, zero, suc, Bool, true, false, List, [], ◌∷◌, ◌++◌, Option, Some, None, refl, ap, ap₂, ◌∙◌}
use Rattle.std.specs.Prelude.{map, fold, ℤ, pos, negsuc}
use Rattle.clk_num.specs.declared.op.TrapCode.{TrapCode}
use Rattle.clk_num.specs.declared.op.TrapCode.TheVariants as code
use Rattle.exn_tables.specs.declared.table.Entry.{Entry}
use Rattle.debug_tags.specs.declared.tags.Tag.{Tag}
use Rattle.debug_tags.specs.declared.tags.Tag.TheVariants as tag
use Rattle.ir_core.specs.declared.instructions.Arg.{Arg}
use Rattle.ir_core.specs.declared.instructions.Arg.TheVariants as arg
use Rattle.ir_core.specs.declared.instructions.BlockCall.{BlockCall}
use Rattle.ir_core.specs.declared.instructions.Flags.{Flags}
use Rattle.ir_text.specs.Numbering.{Numbering}
use Rattle.ir_semantics.specs.Renaming.{Renaming, arg_under, target_under, tag_under, entry_under}
use Rattle.clif_insts.specs.declared.raw.RawFlag.{RawFlag}
use Rattle.clif_insts.specs.declared.raw.RawFlag.TheVariants as word
use Rattle.clif_meaning.specs.Instructions as says
use Rattle.text_read_back.specs.RawOf as raws
use Rattle.names_read_back.specs.ReadNames.{read_under}

pub code_back : (c : TrapCode) → says.code_of (raws.trap_code c) ≡ c
code_back code.StkOvf = refl
code_back code.IntOvf = refl
code_back code.HeapOob = refl
code_back code.IntDivz = refl
code_back code.BadToint = refl
code_back (code.User k) = refl

pub offset_back : (z : ℤ) → says.offset_of (raws.offset z) ≡ z
offset_back (pos zero) = refl
offset_back (pos (suc k)) = refl
offset_back (negsuc k) = refl

entry_tag_back : (t : Option ℕ) → says.entry_tag (raws.entry_tag t) ≡ t
entry_tag_back None = refl
entry_tag_back (Some k) = refl

abbrev to_block : ℕ → List Arg → BlockCall
to_block b xs = record { block = b; args = xs }

abbrev entry_with : Option ℕ → BlockCall → Entry BlockCall
entry_with k t = record { tag = k; target = t }

module _ (n : Numbering) (at : Renaming) where
  pub values_back : (vs : List ℕ) → says.values_at at (raws.values n vs) ≡ map (read_under n at).value vs
  values_back [] = refl
  values_back (v ∷ vs) = ap (λ (ws : List ℕ). (read_under n at).value v ∷ ws) (values_back vs)

  arg_back : (a : Arg) → says.arg_of at (raws.argument n a) ≡ arg_under (read_under n at) a
  arg_back (arg.Value v) = refl
  arg_back (arg.Ret k) = refl
  arg_back (arg.Exn k) = refl

  args_back : (xs : List Arg) → map (says.arg_of at) (map (raws.argument n) xs) ≡ map (arg_under (read_under n at)) xs
  args_back [] = refl
  args_back (x ∷ xs) = ap₂ (λ (y : Arg) (ys : List Arg). y ∷ ys) (arg_back x) (args_back xs)

  pub target_back : (t : BlockCall) → says.target_of at (raws.target n t) ≡ target_under (read_under n at) t
  target_back t = ap (to_block ((read_under n at).block t.block)) (args_back t.args)

  pub targets_back : (ts : List BlockCall) → map (says.target_of at) (map (raws.target n) ts) ≡ map (target_under (read_under n at)) ts
  targets_back [] = refl
  targets_back (t ∷ ts) = ap₂ (λ (u : BlockCall) (us : List BlockCall). u ∷ us) (target_back t) (targets_back ts)

  entry_back : (e : Entry BlockCall) → says.entry_of at (raws.entry n e) ≡ entry_under (read_under n at) e
  entry_back e = ap₂ entry_with (entry_tag_back e.tag) (target_back e.target)

  pub entries_back : (es : List (Entry BlockCall)) → map (says.entry_of at) (map (raws.entry n) es) ≡ map (entry_under (read_under n at)) es
  entries_back [] = refl
  entries_back (e ∷ es) = ap₂ (λ (x : Entry BlockCall) (xs : List (Entry BlockCall)). x ∷ xs) (entry_back e) (entries_back es)

  tag_back : (t : Tag) → says.tag_of at (raws.debug_tag t) ≡ tag_under (read_under n at) t
  tag_back (tag.User k) = refl
  tag_back (tag.Slot k) = refl

  pub tags_back : (ts : List Tag) → map (says.tag_of at) (map raws.debug_tag ts) ≡ map (tag_under (read_under n at)) ts
  tags_back [] = refl
  tags_back (t ∷ ts) = ap₂ (λ (x : Tag) (xs : List Tag). x ∷ xs) (tag_back t) (tags_back ts)

-- ---- flags: each word sets its own

abbrev set_of : Bool → Bool → Bool → Bool → Bool → Bool → Bool → Bool → Bool → Flags
set_of a b c d e f g h i = record { notrap = a; aligned = b; readonly = c; can_move = d; little = e; big = f; heap = g; table = h; vmctx = i }

module _ (a b c d e f g h i : Bool) where
  at_notrap : (b' : Bool) (rest : List RawFlag) → fold says.with_flag says.no_flags (raws.flag b' word.Notrap ++ rest) ≡ fold says.with_flag (set_of b' false false false false false false false false) rest
  at_notrap false rest = refl
  at_notrap true rest = refl

  at_aligned : (b' : Bool) (rest : List RawFlag) → fold says.with_flag (set_of a false false false false false false false false) (raws.flag b' word.Aligned ++ rest) ≡ fold says.with_flag (set_of a b' false false false false false false false) rest
  at_aligned false rest = refl
  at_aligned true rest = refl

  at_readonly : (b' : Bool) (rest : List RawFlag) → fold says.with_flag (set_of a b false false false false false false false) (raws.flag b' word.Readonly ++ rest) ≡ fold says.with_flag (set_of a b b' false false false false false false) rest
  at_readonly false rest = refl
  at_readonly true rest = refl

  at_can_move : (b' : Bool) (rest : List RawFlag) → fold says.with_flag (set_of a b c false false false false false false) (raws.flag b' word.CanMove ++ rest) ≡ fold says.with_flag (set_of a b c b' false false false false false) rest
  at_can_move false rest = refl
  at_can_move true rest = refl

  at_little : (b' : Bool) (rest : List RawFlag) → fold says.with_flag (set_of a b c d false false false false false) (raws.flag b' word.Little ++ rest) ≡ fold says.with_flag (set_of a b c d b' false false false false) rest
  at_little false rest = refl
  at_little true rest = refl

  at_big : (b' : Bool) (rest : List RawFlag) → fold says.with_flag (set_of a b c d e false false false false) (raws.flag b' word.Big ++ rest) ≡ fold says.with_flag (set_of a b c d e b' false false false) rest
  at_big false rest = refl
  at_big true rest = refl

  at_heap : (b' : Bool) (rest : List RawFlag) → fold says.with_flag (set_of a b c d e f false false false) (raws.flag b' word.Heap ++ rest) ≡ fold says.with_flag (set_of a b c d e f b' false false) rest
  at_heap false rest = refl
  at_heap true rest = refl

  at_table : (b' : Bool) (rest : List RawFlag) → fold says.with_flag (set_of a b c d e f g false false) (raws.flag b' word.Table ++ rest) ≡ fold says.with_flag (set_of a b c d e f g b' false) rest
  at_table false rest = refl
  at_table true rest = refl

  at_vmctx : (b' : Bool) → fold says.with_flag (set_of a b c d e f g h false) (raws.flag b' word.Vmctx) ≡ set_of a b c d e f g h b'
  at_vmctx false = refl
  at_vmctx true = refl

  all_flags : says.flags_of (raws.flags (set_of a b c d e f g h i)) ≡ set_of a b c d e f g h i
  all_flags =
      at_notrap a _ ∙ at_aligned b _ ∙ at_readonly c _ ∙ at_can_move d _ ∙ at_little e _ ∙ at_big f _ ∙ at_heap g _ ∙ at_table h _ ∙ at_vmctx i

pub flags_back : (fs : Flags) → says.flags_of (raws.flags fs) ≡ fs
flags_back fs = all_flags fs.notrap fs.aligned fs.readonly fs.can_move fs.little fs.big fs.heap fs.table fs.vmctx

-- The definitions tried by computation, and the premises of the law met: a function that adds 1 to what it is given.
use Rattle.std.proofs.Common.{◌≡◌, ℕ, List, [], ◌∷◌, Option, Some, None, Result, Ok, Err, false, refl, arith, inl, inr}
use Rattle.std.specs.Prelude.{codes, pos}
use Rattle.std.specs.Fmt.{digits}
use Rattle.clk_num.specs.Numbers.{signed}
use Rattle.clk_num.specs.declared.op.Op.TheVariants.{Iadd}
use Rattle.clk_num.specs.declared.width.Width.TheVariants.{W64}
use Rattle.ir_core.specs.declared.names.FuncName.TheVariants.{Text}
use Rattle.ir_core.specs.declared.signatures.Conv.TheVariants.{Fast}
use Rattle.ir_core.specs.declared.signatures.Ext.TheVariants as ext
use Rattle.ir_core.specs.declared.signatures.Purpose.TheVariants as purpose
use Rattle.ir_core.specs.declared.signatures.Ty.TheVariants.{I64}
use Rattle.ir_core.specs.Lists.{In}
use Rattle.ir_core.specs.Module.{PureImm, Plain, Return, Line, Block, Function}
use Rattle.ir_core.specs.WellFormed.{IsModule}
use Rattle.ir_text.specs.Writable.{Writable}
use Rattle.clif_lex.specs.Lexing.{token_at, tokens_from}
use Rattle.clif_lex.specs.declared.faults.LexErr.{LexErr}
use Rattle.clif_lex.specs.declared.faults.LexErr.TheVariants.{BadChar}
use Rattle.clif_lex.specs.declared.spans.Token.{Token}
use Rattle.clif_words.specs.declared.opcodes.Opcode.TheVariants as opcodes
use Rattle.clif_words.specs.Opcodes.{opcode_of}
use Rattle.clif_words.specs.Table.{all_words}
use Rattle.clif_words.specs.Words.{word_meaning}
use Rattle.clif_insts.specs.declared.raw.RawInst.{RawInst}
use Rattle.token_reader.specs.declared.raw.RawName.{RawName}
use Rattle.clif_insts.specs.declared.raw.RawOperands.TheVariants as operands
use Rattle.clif_insts.specs.InstValues.{raw}
use Rattle.clif_read.specs.declared.raw.RawBlock.{RawBlock}
use Rattle.clif_read.specs.declared.raw.RawFuncName.TheVariants as raw_names
use Rattle.clif_read.specs.declared.raw.RawLine.{RawLine}
use Rattle.clif_read.specs.declared.raw.RawLine.TheVariants as raw_lines
use Rattle.clif_read.specs.declared.raw.RawModule.{RawModule}
use Rattle.clif_read.specs.declared.raw.RawTag.TheVariants as raw_tags
use Rattle.ir_text.specs.Text.{text_of}
use Rattle.text_read_back.specs.Bare.{bare_line}
use Rattle.text_read_back.specs.Defining.{IsCounted, IsNumbered}
use Rattle.text_read_back.specs.RawOf.{entity, number, raw_of}
use Rattle.text_read_back.specs.ReadsBack.{Says, ReadsBack}
use Rattle.text_read_back.proofs.Modules.{writable_reads_back}
use Rattle.text_read_back.proofs.Spelled.{module_spellable}

abbrev sum_line : Line
sum_line = record { inst = Plain (PureImm Iadd 0 (record { width = W64; value = 1 })); ty = Some I64; results = 1 ∷ []; tags = [] }

abbrev return_line : Line
return_line = record { inst = Return (1 ∷ []); ty = None; results = []; tags = [] }

abbrev the_block : Block
the_block = record { number = 0; params = 0 ∷ []; lines = sum_line ∷ return_line ∷ [] }

abbrev the_function : Function
the_function = record {
  name = Text (102 ∷ []);
  sig = record { params = record { ty = I64; ext = ext.No; purpose = purpose.Normal } ∷ []; results = record { ty = I64; ext = ext.No; purpose = purpose.Normal } ∷ []; conv = Fast };
  slots = [];
  sigs = [];
  callees = [];
  types = (0, I64) ∷ (1, I64) ∷ [];
  blocks = the_block ∷ [];
}

example_is_module : IsModule (the_function ∷ [])
example_is_module = record {
  names = (refl, tt);
  whole = (
    record {
      begins = λ e. absurd cc;
      blocks = (λ h. h, tt);
      declared_once = (only, (λ h. h, tt));
      defined_once = (only, (λ h. h, tt));
      defined = λ v h. h;
      definitions_declared = λ v h. h;
      callees = tt;
      lines = (
        (
          record { values = (inl refl, tt); blocks = tt; slots = tt; shown = tt; callees = tt; sigs = tt },
          (record { values = (inr (inl refl), tt); blocks = tt; slots = tt; shown = tt; callees = tt; sigs = tt }, tt),
        ),
        tt,
      );
    },
    tt,
  );
}
  where
    only : In {A = ℕ} 0 (1 ∷ []) → ⊥
    only (inl e) = absurd cc
    only (inr h) = h

example_is_writable : Writable (the_function ∷ [])
example_is_writable = record {
  functions = (
    record {
      name = (λ e. absurd cc, (refl, tt));
      slots = tt;
      callees = tt;
      lines = ((((refl, (omega arith, tt), refl, (refl, tt)), tt), (((refl, tt), tt), tt)), tt);
      size = omega arith;
    },
    tt,
  );
  count = omega arith;
}

pub example_reads_back : ReadsBack (the_function ∷ [])
example_reads_back = writable_reads_back (the_function ∷ []) example_is_writable (module_spellable (the_function ∷ []) example_is_module.whole example_is_writable.functions)

-- ---- its text, and what this says

its_text : text_of (the_function ∷ []) ≡ codes "function %f(i64) -> i64 fast {\nblock0(v0: i64):\n    v1 = iadd_imm v0, 1\n    return v1\n}\n"
unfolding digits signed
its_text = refl

abbrev sum_inst : RawInst
sum_inst = raw (record { kind = opcodes.IaddImm; spot = 0 }) None (operands.BinaryImm (entity 0) (number (pos 1)))

abbrev return_inst : RawInst
return_inst = raw (record { kind = opcodes.Return; spot = 0 }) None (operands.Return (entity 1 ∷ []))

abbrev raw_block : RawBlock
raw_block = record {
  block = entity 0;
  params = record { value = entity 0; ty = I64 } ∷ [];
  cold = false;
  lines = raw_lines.Inst None [] (entity 1 ∷ []) sum_inst ∷ raw_lines.Inst None [] [] return_inst ∷ [];
}

abbrev said : RawModule
said = record {
  headers = [];
  functions = record {
    spot = 0;
    name = raw_names.Text (102 ∷ []) 0;
    signature = record { params = record { ty = I64; attributes = [] } ∷ []; results = record { ty = I64; attributes = [] } ∷ []; conv = Some Fast };
    decls = [];
    blocks = raw_block ∷ [];
    end_spot = 0;
  } ∷ [];
}

its_raw_module : raw_of (the_function ∷ []) ≡ said
unfolding word_meaning all_words opcode_of signed
its_raw_module = refl

it_is_numbered : IsNumbered said
it_is_numbered = ((refl, refl), tt)

-- ---- and where they say no

swapped : IsCounted (1 ∷ 0 ∷ []) → ⊥
swapped e = absurd cc

-- a name without a letter is no token, so the text is no raw module
no_name : (m : RawModule) → Says (codes "%") m → ⊥
unfolding token_at tokens_from
no_name m s = let e : (let r : Result (List Token) LexErr = Err (BadChar 0) in r) ≡ Ok s.is.tokens = s.is.lexed in absurd cc

-- ---- a line without its spots: `@0f <7> v1 = iadd.i64 v0, v0`

abbrev at_spot : ℕ → ℕ → RawName
at_spot n spot = record { number = n; spot = spot }

abbrev line_at : Option ℕ → (ℕ → ℕ) → RawLine
line_at location spot = raw_lines.Inst location (raw_tags.User (record { value = pos 7; spot = spot 5 }) ∷ []) (at_spot 1 (spot 8) ∷ [])
    (raw (record { kind = opcodes.Iadd; spot = spot 13 }) (Some I64) (operands.Binary (at_spot 0 (spot 22)) (at_spot 0 (spot 26))))

without_spots : bare_line (line_at (Some 0) (λ k. k)) ≡ line_at (Some 0) (λ k. 0)
without_spots = refl

-- The canonical text of each instruction begins with the word of its opcode.
use Rattle.std.proofs.Common.{◌≡◌, ℕ, ◌*◌, ◌==◌, Bool, true, false, List, [], ◌∷◌, ◌++◌, length, drop, codes, decimal, Option, Some, None, refl, ap, ◌∙◌, append_assoc}
use Rattle.std.specs.Fmt.{digits}
use Rattle.std.proofs.lemmas.Bool.{eqb-true}
use Rattle.clk_num.specs.declared.op.Op.{Op}
use Rattle.clk_num.specs.declared.op.Op.TheVariants as ops
use Rattle.ir_core.specs.declared.instructions.Access.TheVariants as access
use Rattle.ir_core.specs.Module.{CallTarget, Instruction}
use Rattle.ir_core.specs.Module as insts
use Rattle.ir_text.specs.TextTree.{spelled, ◌▹◌, space, comma}
use Rattle.ir_text.specs.TextInstructions.{op_suffix, suffix_if, condition, operands, value, constant, extending_suffix, flags, address}
use Rattle.ir_text.specs.Words.{op_word}
use Rattle.clif_words.specs.declared.opcodes.Opcode.{Opcode}
use Rattle.clif_words.specs.declared.opcodes.Opcode.TheVariants as opcodes
use Rattle.clif_words.specs.Opcodes.{word}
use Rattle.clif_words.specs.Printed.{value_opcode, immediate_opcode, by_bytes, BeginsWithWord}

same : {o p : Opcode} → (let q : Option Opcode = Some p in q) ≡ Some o → p ≡ o
same e = cc

pub value_word : (op : Op) → op_word op ≡ word (value_opcode op)
value_word ops.Iadd = refl
value_word ops.Isub = refl
value_word ops.Imul = refl
value_word ops.Band = refl
value_word ops.Bor = refl
value_word ops.Bxor = refl
value_word ops.Smin = refl
value_word ops.Smax = refl
value_word ops.Umin = refl
value_word ops.Umax = refl
value_word ops.Umulhi = refl
value_word ops.Smulhi = refl
value_word ops.Udiv = refl
value_word ops.Urem = refl
value_word ops.Sdiv = refl
value_word ops.Srem = refl
value_word ops.Ineg = refl
value_word ops.Bnot = refl
value_word ops.Iabs = refl
value_word ops.Clz = refl
value_word ops.Ctz = refl
value_word ops.Popcnt = refl
value_word ops.Bitrev = refl
value_word ops.Bswap = refl
value_word ops.Ishl = refl
value_word ops.Ushr = refl
value_word ops.Sshr = refl
value_word ops.Rotl = refl
value_word ops.Rotr = refl
value_word (ops.Icmp c) = refl
value_word ops.Select = refl
value_word (ops.Uextend width) = refl
value_word (ops.Sextend width) = refl
value_word (ops.Ireduce width) = refl
value_word ops.UaddOverflow = refl
value_word ops.SaddOverflow = refl
value_word ops.UsubOverflow = refl
value_word ops.SsubOverflow = refl
value_word ops.Iconcat = refl
value_word ops.Isplit = refl

immediate_word : (op : Op) (o : Opcode) → immediate_opcode op ≡ Some o → op_word op ++ codes "_imm" ≡ word o
immediate_word ops.Iadd o e = ap word (same e)
immediate_word ops.Isub o e = absurd cc
immediate_word ops.Imul o e = ap word (same e)
immediate_word ops.Band o e = ap word (same e)
immediate_word ops.Bor o e = ap word (same e)
immediate_word ops.Bxor o e = ap word (same e)
immediate_word ops.Smin o e = absurd cc
immediate_word ops.Smax o e = absurd cc
immediate_word ops.Umin o e = absurd cc
immediate_word ops.Umax o e = absurd cc
immediate_word ops.Umulhi o e = absurd cc
immediate_word ops.Smulhi o e = absurd cc
immediate_word ops.Udiv o e = absurd cc
immediate_word ops.Urem o e = absurd cc
immediate_word ops.Sdiv o e = absurd cc
immediate_word ops.Srem o e = absurd cc
immediate_word ops.Ineg o e = absurd cc
immediate_word ops.Bnot o e = absurd cc
immediate_word ops.Iabs o e = absurd cc
immediate_word ops.Clz o e = absurd cc
immediate_word ops.Ctz o e = absurd cc
immediate_word ops.Popcnt o e = absurd cc
immediate_word ops.Bitrev o e = absurd cc
immediate_word ops.Bswap o e = absurd cc
immediate_word ops.Ishl o e = ap word (same e)
immediate_word ops.Ushr o e = ap word (same e)
immediate_word ops.Sshr o e = ap word (same e)
immediate_word ops.Rotl o e = absurd cc
immediate_word ops.Rotr o e = absurd cc
immediate_word (ops.Icmp c) o e = ap word (same e)
immediate_word ops.Select o e = absurd cc
immediate_word (ops.Uextend width) o e = absurd cc
immediate_word (ops.Sextend width) o e = absurd cc
immediate_word (ops.Ireduce width) o e = absurd cc
immediate_word ops.UaddOverflow o e = absurd cc
immediate_word ops.SaddOverflow o e = absurd cc
immediate_word ops.UsubOverflow o e = absurd cc
immediate_word ops.SsubOverflow o e = absurd cc
immediate_word ops.Iconcat o e = absurd cc
immediate_word ops.Isplit o e = absurd cc

-- a number of bytes that has an opcode is 1, 2 or 4
sized_word : (stem : List ℕ) (one two four o : Opcode) (bytes : ℕ) → stem ++ decimal 8 ≡ word one → stem ++ decimal 16 ≡ word two → stem ++ decimal 32 ≡ word four
    → by_bytes one two four bytes ≡ Some o → stem ++ decimal (8 * bytes) ≡ word o
sized_word stem one two four o bytes a b c h = by_one (bytes == 1) refl
  where
    by_four : (bytes == 1) ≡ false → (bytes == 2) ≡ false → (t : Bool) → (bytes == 4) ≡ t → stem ++ decimal (8 * bytes) ≡ word o
    by_four e f true g = let is : bytes ≡ 4 = eqb-true bytes 4 g in rw is (c ∙ ap word (same (rw (e, f, g) at h)))
    by_four e f false g = absurd (let k : None ≡ Some o = rw (e, f, g) at h in cc)

    by_two : (bytes == 1) ≡ false → (t : Bool) → (bytes == 2) ≡ t → stem ++ decimal (8 * bytes) ≡ word o
    by_two e true f = let is : bytes ≡ 2 = eqb-true bytes 2 f in rw is (b ∙ ap word (same (rw (e, f) at h)))
    by_two e false f = by_four e f (bytes == 4) refl

    by_one : (t : Bool) → (bytes == 1) ≡ t → stem ++ decimal (8 * bytes) ≡ word o
    by_one true e = let is : bytes ≡ 1 = eqb-true bytes 1 e in rw is (a ∙ ap word (same (rw e at h)))
    by_one false e = by_two e (bytes == 2) refl

at_8 : decimal 8 ≡ 56 ∷ []
unfolding digits
at_8 = refl

at_16 : decimal 16 ≡ 49 ∷ 54 ∷ []
unfolding digits
at_16 = refl

at_32 : decimal 32 ≡ 51 ∷ 50 ∷ []
unfolding digits
at_32 = refl

-- what stands behind the word
abbrev Front : List ℕ → Opcode → Type 0
Front text o = (rest : List ℕ) × (text ≡ word o ++ rest)

front : (o p : Opcode) (text : List ℕ) → (let q : Option Opcode = Some p in q) ≡ Some o → text ≡ word p ++ drop (length (word p)) text → Front text o
front o p text e h = (drop (length (word p)) text, h ∙ ap (λ (q : Opcode). word q ++ drop (length (word p)) text) (same e))

begins : (o : Opcode) (w text rest : List ℕ) → w ≡ word o → text ≡ w ++ rest → Front text o
begins o w text rest e h = (rest, h ∙ ap (λ (l : List ℕ). l ++ rest) e)

pub printed_word : (i : Instruction) → BeginsWithWord i
printed_word (insts.Plain insts.Nop) o e n s = front o opcodes.Nop _ e refl
printed_word (insts.Plain (insts.Const d)) o e n s = front o opcodes.Iconst _ e refl
printed_word (insts.Plain (insts.Pure op args)) o e n s = begins o (op_word op) _ (spelled (op_suffix op s ▹ condition op ▹ operands n args)) (value_word op ∙ ap word (same e)) refl
printed_word (insts.Plain (insts.PureImm op x d)) o e n s = begins o (op_word op ++ codes "_imm") _ (spelled (suffix_if s ▹ condition op ▹ space ▹ value n x ▹ comma ▹ constant d)) (immediate_word op o e) refl
printed_word (insts.Plain (insts.Load (access.Full t) f p offset)) o e n s = front o opcodes.Load _ e refl
printed_word (insts.Plain (insts.Load (access.Uload t bytes) f p offset)) o e n s =
    let w = sized_word (codes "uload") opcodes.Uload8 opcodes.Uload16 opcodes.Uload32 o bytes (rw at_8 refl) (rw at_16 refl) (rw at_32 refl) e in
    begins o (codes "uload" ++ decimal (8 * bytes)) _ (spelled (extending_suffix s t bytes) ++ spelled (space ▹ flags f ▹ address n p offset)) w
    (append_assoc (codes "uload" ++ decimal (8 * bytes)) (spelled (extending_suffix s t bytes)) (spelled (space ▹ flags f ▹ address n p offset)))
printed_word (insts.Plain (insts.Load (access.Sload t bytes) f p offset)) o e n s =
    let w = sized_word (codes "sload") opcodes.Sload8 opcodes.Sload16 opcodes.Sload32 o bytes (rw at_8 refl) (rw at_16 refl) (rw at_32 refl) e in
    begins o (codes "sload" ++ decimal (8 * bytes)) _ (spelled (extending_suffix s t bytes) ++ spelled (space ▹ flags f ▹ address n p offset)) w
    (append_assoc (codes "sload" ++ decimal (8 * bytes)) (spelled (extending_suffix s t bytes)) (spelled (space ▹ flags f ▹ address n p offset)))
printed_word (insts.Plain (insts.Store None f x p offset)) o e n s = front o opcodes.Store _ e refl
printed_word (insts.Plain (insts.Store (Some bytes) f x p offset)) o e n s =
    let w = sized_word (codes "istore") opcodes.Istore8 opcodes.Istore16 opcodes.Istore32 o bytes (rw at_8 refl) (rw at_16 refl) (rw at_32 refl) e in
    begins o (codes "istore" ++ decimal (8 * bytes)) _ (spelled (suffix_if s ▹ space ▹ flags f ▹ value n x ▹ comma ▹ address n p offset)) w refl
printed_word (insts.Plain (insts.StackLoad t slot offset)) o e n s = front o opcodes.StackLoad _ e refl
printed_word (insts.Plain (insts.StackStore x slot offset)) o e n s = front o opcodes.StackStore _ e refl
printed_word (insts.Plain (insts.FuncAddr callee)) o e n s = front o opcodes.FuncAddr _ e refl
printed_word (insts.Plain (insts.Trap code)) o e n s = front o opcodes.Trap _ e refl
printed_word (insts.Plain (insts.Trapz x code)) o e n s = front o opcodes.Trapz _ e refl
printed_word (insts.Plain (insts.Trapnz x code)) o e n s = front o opcodes.Trapnz _ e refl
printed_word (insts.Branches (insts.Jump t)) o e n s = front o opcodes.Jump _ e refl
printed_word (insts.Branches (insts.Brif x taken other)) o e n s = front o opcodes.Brif _ e refl
printed_word (insts.Branches (insts.BrTable x default entries)) o e n s = front o opcodes.BrTable _ e refl
printed_word insts.SequencePoint o e n s = front o opcodes.SequencePoint _ e refl
printed_word (insts.Return vs) o e n s = front o opcodes.Return _ e refl
printed_word (insts.Call (insts.Direct callee) args) o e n s = front o opcodes.Call _ e refl
printed_word (insts.Call (insts.Indirect sig p) args) o e n s = front o opcodes.CallIndirect _ e refl
printed_word (insts.ReturnCall (insts.Direct callee) args) o e n s = front o opcodes.ReturnCall _ e refl
printed_word (insts.ReturnCall (insts.Indirect sig p) args) o e n s = front o opcodes.ReturnCallIndirect _ e refl
printed_word (insts.TryCall (insts.TryDirect callee) sig args normal table) o e n s = front o opcodes.TryCall _ e refl
printed_word (insts.TryCall (insts.TryIndirect p) sig args normal table) o e n s = front o opcodes.TryCallIndirect _ e refl

-- The operands of operations and of immediate forms, by shape.
use Rattle.std.proofs.Common.{ℕ, List, [], ◌∷◌}
use Rattle.clk_num.specs.declared.op.Cc.{Cc}
use Rattle.clk_num.specs.declared.op.Op.{Op}
use Rattle.clk_num.specs.declared.op.Op.TheVariants as ops
use Rattle.clk_num.specs.Operations.{DataValue}
use Rattle.ir_text.specs.Numbering.{Numbering}
use Rattle.clif_insts.specs.declared.raw.RawOperands.{RawOperands}
use Rattle.clif_insts.specs.declared.raw.RawOperands.TheVariants as form
use Rattle.text_read_back.specs.RawOf as raws

module _ (n : Numbering) where
  -- what holds of the shape that each number of values has holds of an operation's operands
  pub by_operands : (P : List ℕ → RawOperands → Type 0)
      → ((vs : List ℕ) → P vs form.Nullary)
      → ((x : ℕ) → P (x ∷ []) (form.Unary (raws.value n x)))
      → ((x y : ℕ) → P (x ∷ y ∷ []) (form.Binary (raws.value n x) (raws.value n y)))
      → ((c : Cc) (x y : ℕ) → P (x ∷ y ∷ []) (form.Compare c (raws.value n x) (raws.value n y)))
      → ((c x y : ℕ) → P (c ∷ x ∷ y ∷ []) (form.Ternary (raws.value n c) (raws.value n x) (raws.value n y)))
      → (o : Op) (vs : List ℕ) → P vs (raws.value_operands n o vs)
  by_operands P none one two compare three (ops.Icmp c) [] = none []
  by_operands P none one two compare three (ops.Icmp c) (x ∷ []) = one x
  by_operands P none one two compare three (ops.Icmp c) (x ∷ y ∷ []) = compare c x y
  by_operands P none one two compare three (ops.Icmp c) (x ∷ y ∷ z ∷ []) = three x y z
  by_operands P none one two compare three (ops.Icmp c) (x ∷ y ∷ z ∷ v ∷ vs) = none (x ∷ y ∷ z ∷ v ∷ vs)
  by_operands P none one two compare three _ [] = none []
  by_operands P none one two compare three _ (x ∷ []) = one x
  by_operands P none one two compare three _ (x ∷ y ∷ []) = two x y
  by_operands P none one two compare three _ (x ∷ y ∷ z ∷ []) = three x y z
  by_operands P none one two compare three _ (x ∷ y ∷ z ∷ v ∷ vs) = none (x ∷ y ∷ z ∷ v ∷ vs)

  pub by_immediate : (P : RawOperands → Type 0) (x : ℕ) (d : DataValue)
      → P (form.BinaryImm (raws.value n x) (raws.constant d))
      → ((c : Cc) → P (form.CompareImm c (raws.value n x) (raws.constant d)))
      → (o : Op) → P (raws.immediate_operands n o x d)
  by_immediate P x d two compare (ops.Icmp c) = compare c
  by_immediate P x d two compare _ = two

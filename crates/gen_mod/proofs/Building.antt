-- What a function is after each call that adds to it, where it is known what it was before.
use Rattle.std.proofs.Common.{◌≡◌, ℕ, [], ◌∷◌, ◌++◌, length, ap, ap₂, ◌∙◌}
use Rattle.ir_core.specs.declared.declarations.Callee.{Callee}
use Rattle.ir_core.specs.declared.signatures.Ty.{Ty}
use Rattle.ir_core.specs.Module.{Line, Function}
use Rattle.ir_core.specs.Edits.{at_block, put_param, put_line}

abbrev with_callee : Callee → Function → Function
with_callee callee f = record f { callees = f.callees ++ callee ∷ [] }

abbrev with_value : Ty → Function → Function
with_value ty f = record f { types = f.types ++ (length f.types, ty) ∷ [] }

abbrev with_block : ℕ → Function → Function
with_block number f = record f { blocks = f.blocks ++ record { number = number; params = []; lines = [] } ∷ [] }

abbrev with_param : (block value : ℕ) → Function → Function
with_param block value f = record f { blocks = at_block block (put_param value) f.blocks }

abbrev with_line : (block : ℕ) → Line → Function → Function
with_line block line f = record f { blocks = at_block block (put_line line) f.blocks }

pub callee_added : {f g now : Function} {callee known : Callee} → f ≡ now → callee ≡ known → g ≡ with_callee callee f
    → g ≡ with_callee known now
callee_added was known is = is ∙ ap₂ with_callee known was

pub value_added : {f g now : Function} (ty : Ty) → f ≡ now → g ≡ with_value ty f → g ≡ with_value ty now
value_added ty was is = is ∙ ap (with_value ty) was

pub value_number : {f now : Function} {value : ℕ} → f ≡ now → value ≡ length f.types → value ≡ length now.types
value_number was is = is ∙ ap (λ (f : Function). length f.types) was

pub block_number : {f now : Function} {block : ℕ} → f ≡ now → block ≡ length f.blocks → block ≡ length now.blocks
block_number was is = is ∙ ap (λ (f : Function). length f.blocks) was

pub block_added : {f g now : Function} {block known : ℕ} → f ≡ now → block ≡ known → g ≡ with_block block f
    → g ≡ with_block known now
block_added was known is = is ∙ ap₂ with_block known was

pub param_added : {f g now : Function} {block place value known : ℕ} → f ≡ now → block ≡ place → value ≡ known
    → g ≡ with_param block value f → g ≡ with_param place known now
param_added {now = now} {block = block} {value = value} was there known is =
    is ∙ (ap (with_param block value) was ∙ ap₂ (λ b v. with_param b v now) there known)

pub line_added : {f g now : Function} {block place : ℕ} {line known : Line} → f ≡ now → block ≡ place → line ≡ known
    → g ≡ with_line block line f → g ≡ with_line place known now
line_added {now = now} {block = block} {line = line} was there known is =
    is ∙ (ap (with_line block line) was ∙ ap₂ (λ b l. with_line b l now) there known)

-- a line of three numbers
pub by_three : {A : Type 0} (make : ℕ → ℕ → ℕ → A) {a x b y c z : ℕ} → a ≡ x → b ≡ y → c ≡ z → make a b c ≡ make x y z
by_three make {x = x} {b = b} {c = c} p q r =
    ap (λ n. make n b c) p ∙ ap₂ (λ m n. make x m n) q r

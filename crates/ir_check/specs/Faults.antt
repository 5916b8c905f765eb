-- The first fault of a module. At each function the rules are tried in the order of the text: the callee declarations
-- first, then block by block, at the block itself and at its lines. At one place they are tried in their order.
-- Availability comes after all other rules over the whole module.
use Rattle.std.specs.Prelude.{ℕ, suc, List, [], ◌∷◌, ◌++◌, map}
use Rattle.ir_core.specs.declared.declarations.Callee.{Callee}
use Rattle.ir_core.specs.declared.places.Item.{Item}
use Rattle.ir_core.specs.declared.places.Item.TheVariants as item
use Rattle.ir_core.specs.Module.{Line, Block, Function, Module}
use Rattle.ir_semantics.specs.Accepted.{Rule, no_terminator, entry_target, count_mismatch, type_mismatch, convention}
use Rattle.ir_semantics.specs.Accepted.{signature_mismatch, slot_range, tag_place, not_available, Holds}

-- ---- the parts of a function in the order of the text

abbrev pub callee_items : ℕ → List Callee → List Item
callee_items k [] = []
callee_items k (c ∷ cs) = item.Callee k ∷ callee_items (suc k) cs

abbrev pub line_items : ℕ → ℕ → List Line → List Item
line_items b i [] = []
line_items b i (l ∷ ls) = item.Inst (record { block = b; index = i }) ∷ line_items b (suc i) ls

abbrev pub block_items : List Block → List Item
block_items [] = []
block_items (b ∷ bs) = item.Block b.number ∷ (line_items b.number 0 b.lines ++ block_items bs)

abbrev pub items : Function → List Item
items f = callee_items 0 f.callees ++ block_items f.blocks

-- ---- what is tried, in order

-- a rule at a part of the function that stands at the place `number` of the module
pub record Check : Type 0 where
  pub number : ℕ
  pub func : Function
  pub place : Item
  pub rule : Rule

abbrev pub check : ℕ → Function → Item → Rule → Check
check n f place rule = record { number = n; func = f; place = place; rule = rule }

abbrev pub tried_at : List Rule → ℕ → Function → List Item → List Check
tried_at rules n f [] = []
tried_at rules n f (place ∷ places) = map (check n f place) rules ++ tried_at rules n f places

-- at the functions of a list, of which the first stands at the place n
abbrev pub tried : List Rule → ℕ → List Function → List Check
tried rules n [] = []
tried rules n (f ∷ fs) = tried_at rules n f (items f) ++ tried rules (suc n) fs

abbrev pub first_rules : List Rule
first_rules =
    no_terminator ∷ entry_target ∷ count_mismatch ∷ type_mismatch ∷ convention ∷ signature_mismatch ∷ slot_range
    ∷ tag_place ∷ []

abbrev pub last_rules : List Rule
last_rules = not_available ∷ []

abbrev pub checks : Module → List Check
checks m = tried first_rules 0 m ++ tried last_rules 0 m

-- ---- the first that fails

-- x is the first in the list that is not good
pub data FirstBad {A : Type 0} (Good : A → Type 0) : List A → A → Type 0 where
  this : {a : A} {others : List A} → (Good a → ⊥) → FirstBad Good (a ∷ others) a
  later : {a x : A} {others : List A} → Good a → FirstBad Good others x → FirstBad Good (a ∷ others) x

abbrev pub Passed : Module → Check → Type 0
Passed m c = Holds m c.func c.place c.rule

-- the first fault of the module: at the function of this place, at this part, by this rule
abbrev pub FirstFault : Module → ℕ → Item → Rule → Type 0
FirstFault m n place rule = (f : Function) × FirstBad (Passed m) (checks m) (check n f place rule)

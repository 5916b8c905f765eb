-- What a whole function has, where it is used: its lines, declared types, declarations, and addresses of names.
use Rattle.std.proofs.Common.{◌≡◌, ℕ, zero, suc, inl, inr, List, [], ◌∷◌, ◌++◌, map, Option, Some, None, Bool, true, false, refl, sym, ap, ◌∙◌, subst, eq-eqb, ne_eqb}
use Rattle.std.specs.Prelude.{IsSome, IsSomeAnd, slice_get, if◌then◌else◌}
use Rattle.std.specs.List.{list_any}
use Rattle.std.proofs.lemmas.Bool.{cases_eq}
use Rattle.debug_tags.specs.declared.tags.Tag.{Tag}
use Rattle.debug_tags.specs.declared.tags.Tag.TheVariants as tag
use Rattle.debug_tags.specs.Tags.{is_slot}
use Rattle.ir_core.specs.declared.names.FuncName.{FuncName}
use Rattle.ir_core.specs.declared.signatures.Ty.{Ty}
use Rattle.ir_core.specs.declared.declarations.Callee.{Callee}
use Rattle.ir_core.specs.declared.instructions.BlockCall.{BlockCall}
use Rattle.ir_core.specs.Module.{Line, Block, Function, Module}
use Rattle.ir_core.specs.Lookup.{same_name, find_function, find_block, type_in, type_of, definitions}
use Rattle.ir_core.specs.Lists.{In}
use Rattle.ir_semantics.specs.Names.{name_before, with_name, in_order, mentioned, names, address, address_from, address_of}
use Rattle.ir_semantics.specs.Values.{cons_some}
use Rattle.ir_semantics.specs.Step.{numbers}
use Rattle.ir_core.specs.Uses.{arg_values_used, targets_used}
use Rattle.ir_core.specs.WellFormed.{declared, LineWellFormed, BlockWellFormed, WellFormed}
use Rattle.ir_semantics.specs.TypeRules.{types_of}
use Rattle.ir_core.proofs.Equal.{cases_name, equal_name, name_equal}
use Rattle.ir_core.proofs.Gets.{some_same, get_in}
use Rattle.ir_core.proofs.Members.{each_in}
use Rattle.ir_semantics.proofs.SafetyTypes.{EachSome}

-- ---- parts of lists

pub in_left : (us vs : List ℕ) (v : ℕ) → In v us → In v (us ++ vs)
in_left [] vs v p = elim p [ ]
in_left (u ∷ us) vs v (inl p) = inl p
in_left (u ∷ us) vs v (inr p) = inr (in_left us vs v p)

pub in_right : (us vs : List ℕ) (v : ℕ) → In v vs → In v (us ++ vs)
in_right [] vs v p = p
in_right (u ∷ us) vs v p = inr (in_right us vs v p)

pub in_targets : (ts : List BlockCall) (t : BlockCall) → In t ts → (v : ℕ) → In v (arg_values_used t.args) → In v (targets_used ts)
in_targets [] t is v p = elim is [ ]
in_targets (u ∷ ts) t (inl q) v p = in_left (arg_values_used u.args) (targets_used ts) v (subst (λ (z : BlockCall). In v (arg_values_used z.args)) q p)
in_targets (u ∷ ts) t (inr is) v p = in_right (arg_values_used u.args) (targets_used ts) v (in_targets ts t is v p)

-- what is there, and holds
pub some_and : {A : Type 0} (o : Option A) (P : A → Type 0) → IsSomeAnd o P → (a : A) × (o ≡ Some a) × P a
some_and None P h = elim h [ ]
some_and (Some a) P h = (a, refl, h)

pub is_some_is : {A : Type 0} (o : Option A) → IsSome o → (a : A) × (o ≡ Some a)
is_some_is None h = cc
is_some_is (Some a) h = (a, refl)

-- ---- functions and blocks

pub function_in : (n : FuncName) (m : Module) (f : Function) → find_function n m ≡ Some f → In f m
function_in n [] f h = cc
function_in n (g ∷ m) f h = go (same_name g.name n) h (λ q. function_in n m f q)
  where
    go : (c : Bool) → (if c then Some g else find_function n m) ≡ Some f → (find_function n m ≡ Some f → In f m) → In f (g ∷ m)
    go true q ih = inl (sym (some_same q))
    go false q ih = inr (ih q)

pub find_first : (b : Block) (bs : List Block) → find_block b.number (b ∷ bs) ≡ Some b
find_first b bs = ap (λ c. if c then Some b else find_block b.number bs) (eq-eqb b.number b.number refl)

pub block_in : (n : ℕ) (bs : List Block) (b : Block) → find_block n bs ≡ Some b → In b bs
block_in n [] b h = cc
block_in n (c ∷ bs) b h =
    elim (cases_eq c.number n) [
      | inl q ↦ inl (some_same (sym h ∙ ap (λ z. if z then Some c else find_block n bs) (eq-eqb c.number n q)))
      | inr q ↦ inr (block_in n bs b (sym (ap (λ z. if z then Some c else find_block n bs) (ne_eqb c.number n q)) ∙ h))
    ]

pub line_whole : (f : Function) → WellFormed f → (n : ℕ) (b : Block) (i : ℕ) (l : Line) → find_block n f.blocks ≡ Some b → slice_get b.lines i ≡ Some l → LineWellFormed f l
line_whole f whole n b i l found get = each_in (LineWellFormed f) b.lines (each_in (BlockWellFormed f) f.blocks whole.lines b (block_in n f.blocks b found)) l (get_in b.lines i l get)

-- ---- declared types

param_defined : (bs : List Block) (b : Block) → In b bs → (v : ℕ) → In v b.params → In v (definitions bs)
param_defined [] b is v p = elim is [ ]
param_defined (c ∷ bs) b (inl q) v p = in_left c.params _ v (subst (λ (z : Block). In v z.params) q p)
param_defined (c ∷ bs) b (inr is) v p = in_right c.params _ v (in_right _ (definitions bs) v (param_defined bs b is v p))

pub has_type : (types : List (ℕ × Ty)) (v : ℕ) → In v (map (λ x. x.0) types) → (t : Ty) × (type_in types v ≡ Some t)
has_type [] v p = elim p [ ]
has_type (x ∷ types) v p =
    elim (cases_eq x.0 v) [
      | inl q ↦ (x.1, ap (λ z. if z then Some x.1 else type_in types v) (eq-eqb x.0 v q))
      | inr q ↦ let r = has_type types v (elim p [ inl e ↦ absurd (q (sym e)) | inr r ↦ r ]) in (r.0, ap (λ z. if z then Some x.1 else type_in types v) (ne_eqb x.0 v q) ∙ r.1)
    ]

pub params_known : (f : Function) → WellFormed f → (n : ℕ) (b : Block) → find_block n f.blocks ≡ Some b → EachSome (types_of f b.params)
params_known f whole n b found = all b.params (λ v p. whole.definitions_declared v (param_defined f.blocks b (block_in n f.blocks b found) v p))
  where
    step : (o : Option Ty) (vs : List ℕ) (t : Ty) → o ≡ Some t → EachSome (types_of f vs) → EachSome (o ∷ types_of f vs)
    step None vs t h r = cc
    step (Some u) vs t h r = r

    all : (vs : List ℕ) → ((v : ℕ) → In v vs → In v (declared f)) → EachSome (types_of f vs)
    all [] h = tt
    all (v ∷ vs) h = let t = has_type f.types v (h v (inl refl)) in step (type_of f v) vs t.0 t.1 (all vs (λ u p. h u (inr p)))

-- ---- addresses

listed : (xs : List FuncName) (n : FuncName) → In n xs → (i : ℕ) → (a : ℕ) × (address_from i xs n ≡ Some a)
listed [] n p i = elim p [ ]
listed (x ∷ xs) n p i =
    elim (cases_name x n) [
      | inl q ↦ (address i, ap (λ z. if z then Some (address i) else address_from (suc i) xs n) (equal_name x n q))
      | inr q ↦ let r = listed xs n (elim p [ inl e ↦ absurd (let z : true ≡ false = sym (equal_name x n (sym e)) ∙ q in cc) | inr s ↦ s ]) (suc i) in (r.0, ap (λ z. if z then Some (address i) else address_from (suc i) xs n) q ∙ r.1)
    ]

with_self : (n : FuncName) (xs : List FuncName) → In n (with_name n xs)
with_self n [] = inl refl
with_self n (x ∷ xs) = go (same_name n x) refl (name_before n x) (with_self n xs)
  where
    go : (c : Bool) → same_name n x ≡ c → (d : Bool) → In n (with_name n xs) → In n (if c then x ∷ xs else (if d then n ∷ (x ∷ xs) else x ∷ with_name n xs))
    go true h d ih = inl (name_equal n x h)
    go false h true ih = inl refl
    go false h false ih = inr ih

with_others : (n y : FuncName) (xs : List FuncName) → In n xs → In n (with_name y xs)
with_others n y [] p = elim p [ ]
with_others n y (x ∷ xs) p = go (same_name y x) (name_before y x) (λ q. with_others n y xs q)
  where
    go : (c d : Bool) → (In n xs → In n (with_name y xs)) → In n (if c then x ∷ xs else (if d then y ∷ (x ∷ xs) else x ∷ with_name y xs))
    go true d ih = p
    go false true ih = inr p
    go false false ih = elim p [ inl e ↦ inl e | inr q ↦ inr (ih q) ]

pub in_ordered : (n : FuncName) (ns : List FuncName) → In n ns → In n (in_order ns)
in_ordered n [] p = elim p [ ]
in_ordered n (x ∷ ns) (inl q) = subst (λ z. In n (with_name z (in_order ns))) q (with_self n (in_order ns))
in_ordered n (x ∷ ns) (inr p) = with_others n x (in_order ns) (in_ordered n ns p)

names_left : (as' bs : List FuncName) (n : FuncName) → In n as' → In n (as' ++ bs)
names_left [] bs n p = elim p [ ]
names_left (a ∷ as') bs n (inl p) = inl p
names_left (a ∷ as') bs n (inr p) = inr (names_left as' bs n p)

names_right : (as' bs : List FuncName) (n : FuncName) → In n bs → In n (as' ++ bs)
names_right [] bs n p = p
names_right (a ∷ as') bs n p = inr (names_right as' bs n p)

callee_named : (cs : List Callee) (c : Callee) → In c cs → In c.name (map (λ (c : Callee). c.name) cs)
callee_named [] c p = elim p [ ]
callee_named (d ∷ cs) c (inl q) = inl (ap (λ (z : Callee). z.name) q)
callee_named (d ∷ cs) c (inr p) = inr (callee_named cs c p)

callee_mentioned : (m : Module) (f : Function) → In f m → (c : Callee) → In c f.callees → In c.name (mentioned m)
callee_mentioned [] f is c p = elim is [ ]
callee_mentioned (g ∷ m) f (inl q) c p = inr (names_left (map (λ (c : Callee). c.name) g.callees) (mentioned m) c.name (callee_named g.callees c (subst (λ (z : Function). In c z.callees) q p)))
callee_mentioned (g ∷ m) f (inr is) c p = inr (names_right (map (λ (c : Callee). c.name) g.callees) (mentioned m) c.name (callee_mentioned m f is c p))

-- each callee of a function of the module has an address
pub callee_address : (m : Module) (f : Function) → In f m → (k : ℕ) (c : Callee) → slice_get f.callees k ≡ Some c → (a : ℕ) × (address_of (names m) c.name ≡ Some a)
unfolding names
callee_address m f is k c get = listed (in_order (mentioned m)) c.name (in_ordered c.name (mentioned m) (callee_mentioned m f is c (get_in f.callees k c get))) 0

-- ---- tags of a tail call

pub numbers_there : (ts : List Tag) → list_any is_slot ts ≡ false → (ns : List ℕ) × (numbers ts ≡ Some ns)
numbers_there [] h = ([], refl)
numbers_there (tag.User n ∷ ts) h = let r = numbers_there ts h in (n ∷ r.0, ap (cons_some (Some n)) r.1)
numbers_there (tag.Slot k ∷ ts) h = cc

-- ---- lines from a place on

abbrev pub From : List Line → ℕ → List Line → Type 0
From ls zero rest = ls ≡ rest
From [] (suc i) rest = ⊥
From (l ∷ ls) (suc i) rest = From ls i rest

pub from_get : (ls : List Line) (i : ℕ) (rest : List Line) (l : Line) → From ls i rest → slice_get ls i ≡ Some l → (r : List Line) × (rest ≡ l ∷ r) × From ls (suc i) r
from_get [] zero rest l h q = cc
from_get [] (suc i) rest l h q = elim h [ ]
from_get (m ∷ ls) zero rest l h q = (ls, sym h ∙ ap (λ z. z ∷ ls) (some_same q), refl)
from_get (m ∷ ls) (suc i) rest l h q = from_get ls i rest l h q

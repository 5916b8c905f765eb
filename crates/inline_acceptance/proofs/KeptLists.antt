-- Members of lists, and what stands in mapped and joined lists.
use Rattle.std.proofs.Common.{◌≡◌, ℕ, zero, suc, ◌+◌, ◌<◌, inl, inr, List, [], ◌∷◌, ◌++◌, length, map, Option, Some, None, refl, sym, ap, ◌∙◌, subst, arith}
use Rattle.std.specs.Prelude.{slice_get, IsSomeAnd}
use Rattle.exn_tables.specs.declared.table.Entry.{Entry}
use Rattle.ir_core.specs.declared.instructions.BlockCall.{BlockCall}
use Rattle.ir_core.specs.Module.{Jump, Brif, BrTable, Branches, Call, Instruction, Line, Plain, Return, ReturnCall, SequencePoint, TryCall}
use Rattle.ir_core.specs.Lists.{In, Each}
use Rattle.ir_core.specs.Uses.{targets, table_targets}
use Rattle.ir_core.proofs.Gets.{some_same}
use Rattle.ir_core.proofs.Members.{in_left, in_right, in_cases, in_map, map_in}
use Rattle.ir_semantics.specs.Renaming.{Renaming, entry_under, instruction_under, target_under}

pub and_some : {A : Type 0} (o : Option A) (P : A → Type 0) (a : A) → o ≡ Some a → P a → IsSomeAnd o P
and_some o P a q h = subst (λ z. IsSomeAnd z P) (sym q) h

pub each_map : {A B : Type 0} (P : A → Type 0) (Q : B → Type 0) (h : A → B) → ((a : A) → P a → Q (h a)) → (as' : List A) → Each P as' → Each Q (map h as')
each_map P Q h on [] e = tt
each_map P Q h on (x ∷ as') e = (on x e.0, each_map P Q h on as' e.1)

pub length_map : {A B : Type 0} (h : A → B) (ls : List A) → length (map h ls) ≡ length ls
length_map h [] = refl
length_map h (x ∷ ls) = ap suc (length_map h ls)

-- each of d is in e, under its new number
pub record Sub (h : ℕ → ℕ) (d e : List ℕ) : Type 0 where
  pub at : (v : ℕ) → In v d → In (h v) e

pub sub_front : (h : ℕ → ℕ) (us d e : List ℕ) → Sub h d e → Sub h (us ++ d) (map h us ++ e)
sub_front h us d e s = record { at = λ v p. elim (in_cases v us d p) [ inl q ↦ in_left (h v) (map h us) e (in_map h v us q) | inr q ↦ in_right (h v) (map h us) e (s.at v q) ] }

pub sub_more : (h : ℕ → ℕ) (us d e : List ℕ) → Sub h d e → Sub h d (us ++ e)
sub_more h us d e s = record { at = λ v p. in_right (h v) us e (s.at v p) }

pub sub_only : (h : ℕ → ℕ) (us e : List ℕ) → Sub h us (map h us ++ e)
sub_only h us e = record { at = λ v p. in_left (h v) (map h us) e (in_map h v us p) }

-- ---- targets under new names

pub table_under : (r : Renaming) (es : List (Entry BlockCall)) → table_targets (map (entry_under r) es) ≡ map (target_under r) (table_targets es)
table_under r [] = refl
table_under r (e ∷ es) = ap (λ z. target_under r e.target ∷ z) (table_under r es)

pub table_append : (a b : List (Entry BlockCall)) → table_targets (a ++ b) ≡ table_targets a ++ table_targets b
table_append [] b = refl
table_append (e ∷ a) b = ap (λ z. e.target ∷ z) (table_append a b)

pub targets_under : (r : Renaming) (i : Instruction) → targets (instruction_under r i) ≡ map (target_under r) (targets i)
targets_under r (Branches (Jump t)) = refl
targets_under r (Branches (Brif v a b)) = refl
targets_under r (Branches (BrTable v default ts)) = refl
targets_under r (TryCall t sig args normal table) = ap (λ z. target_under r normal ∷ z) (table_under r table)
targets_under r (Plain p) = refl
targets_under r SequencePoint = refl
targets_under r (Return a) = refl
targets_under r (Call a b) = refl
targets_under r (ReturnCall a b) = refl

pub target_from : (r : Renaming) (i : Instruction) (t' : BlockCall) → In t' (targets (instruction_under r i)) → (t : BlockCall) × In t (targets i) × (t' ≡ target_under r t)
target_from r i t' p = map_in (target_under r) t' (targets i) (subst (In t') (targets_under r i) p)

-- getting from mapped and joined lists

pub map_get : {A B : Type 0} (h : A → B) (ls : List A) (i : ℕ) (b : B) → slice_get (map h ls) i ≡ Some b → (a : A) × (slice_get ls i ≡ Some a) × (b ≡ h a)
map_get h [] i b q = cc
map_get h (a ∷ ls) zero b q = (a, refl, some_same (sym q))
map_get h (a ∷ ls) (suc i) b q = map_get h ls i b q

pub none_map : {A B : Type 0} (h : A → B) (ls : List A) (i : ℕ) → slice_get ls i ≡ None → slice_get (map h ls) i ≡ None
none_map h [] i q = refl
none_map h (x ∷ ls) zero q = cc
none_map h (x ∷ ls) (suc i) q = none_map h ls i q

-- a line before the last one, or the last one
pub data Cut_get (h : Line → Line) (pre rest : List Line) (j : Line) (i : ℕ) (b : Line) : Type 0 where
  before : (a : Line) → slice_get (pre ++ rest) i ≡ Some a → b ≡ h a → i < length pre → (c : Line) → slice_get (map h pre ++ (j ∷ [])) (suc i) ≡ Some c → Cut_get h pre rest j i b
  last : i ≡ length pre → b ≡ j → slice_get (map h pre ++ (j ∷ [])) (suc i) ≡ None → Cut_get h pre rest j i b

pub cut_get : (h : Line → Line) (pre rest : List Line) (j : Line) (i : ℕ) (b : Line) → slice_get (map h pre ++ (j ∷ [])) i ≡ Some b → Cut_get h pre rest j i b
cut_get h [] rest j zero b q = last refl (some_same (sym q)) refl
cut_get h [] rest j (suc i) b q = cc
cut_get h (a ∷ pre) rest j zero b q = before a refl (some_same (sym q)) (omega arith) (first_of_cut pre).0 (first_of_cut pre).1
  where
    first_of_cut : (ls : List Line) → (c : Line) × (slice_get (map h ls ++ (j ∷ [])) 0 ≡ Some c)
    first_of_cut [] = (j, refl)
    first_of_cut (x ∷ ls) = (h x, refl)
cut_get h (a ∷ pre) rest j (suc i) b q = go (cut_get h pre rest j i b q)
  where
    go : Cut_get h pre rest j i b → Cut_get h (a ∷ pre) rest j (suc i) b
    go (before x get is below c next) = before x get is (omega (arith, below)) c next
    go (last e is none) = last (ap suc e) is none

pub get_after : (pre : List Line) (l : Line) (post : List Line) (i : ℕ) → slice_get (pre ++ (l ∷ post)) (suc (length pre + i)) ≡ slice_get post i
get_after [] l post i = let e : 0 + i ≡ i = omega arith in ap (slice_get post) e
get_after (x ∷ pre) l post i = let e : suc (length (x ∷ pre) + i) ≡ suc (suc (length pre + i)) = omega arith in ap (slice_get (x ∷ (pre ++ (l ∷ post)))) e ∙ get_after pre l post i

pub get_site : (pre : List Line) (l : Line) (post : List Line) → slice_get (pre ++ (l ∷ post)) (length pre) ≡ Some l
get_site [] l post = refl
get_site (x ∷ pre) l post = get_site pre l post

pub get_before : (pre : List Line) (l : Line) (post : List Line) (i : ℕ) → i < length pre → (a : Line) × (slice_get (pre ++ (l ∷ post)) (suc i) ≡ Some a)
get_before [] l post i h = absurd (omega arith)
get_before (x ∷ []) l post zero h = (l, refl)
get_before (x ∷ (y ∷ pre)) l post zero h = (y, refl)
get_before (x ∷ []) l post (suc i) h = absurd (omega (arith, h))
get_before (x ∷ (y ∷ pre)) l post (suc i) h = get_before (y ∷ pre) l post i (omega (arith, h))

-- Which line of the source a line of the result comes from.
use Rattle.std.proofs.Common.{◌≡◌, ℕ, zero, suc, ◌+◌, ◌⊎◌, inl, inr, List, [], ◌∷◌, ◌++◌, length, map, Option, Some, None, Bool, true, false, refl, sym, ap, ◌∙◌, subst, arith, eq-eqb, ne_eqb}
use Rattle.std.specs.Prelude.{slice_get, if◌then◌else◌}
use Rattle.std.proofs.lemmas.Bool.{cases_eq}
use Rattle.exn_tables.specs.declared.table.Entry.{Entry}
use Rattle.ir_core.specs.declared.instructions.Arg.TheVariants as arg
use Rattle.ir_core.specs.declared.instructions.BlockCall.{BlockCall}
use Rattle.ir_core.specs.Module.{Simple, Nop, Const, Pure, PureImm, Load, Store, StackLoad, StackStore, FuncAddr, Trap, Trapz, Trapnz, Branches, Call, Instruction, Line, Block, Plain, Return, ReturnCall, SequencePoint, TryCall}
use Rattle.ir_core.specs.Lookup.{find_block, block_numbers}
use Rattle.ir_core.specs.Lists.{In, Different}
use Rattle.ir_core.proofs.Gets.{some_same}
use Rattle.ir_core.proofs.ByNumber.{found_number}
use Rattle.ir_semantics.specs.Renaming.{Renaming, called_under, entry_under, instruction_under, simple_under, block_under, target_under, try_target_under}
use Rattle.ir_semantics.specs.Import.{sig_after}
use Rattle.ir_semantics.specs.Available.{terminates, simple_terminates}
use Rattle.ir_semantics.specs.EndRules.{EndsRightly}
use Rattle.ir_semantics.specs.Splice.{Kind, Last, Fragment, Splicing, Tries, Within, after_block, after_blocks, body, callee_line, callee_names, caller_names, cut_block, from, front, kind_of, line_with, named_sig, new_results, fragment, fragment_by, spliced_blocks, to_after, to_normal, tries_fragment, try_with, within_fragment, try_target}
use Rattle.ir_semantics.proofs.SafetyPlaces.{From}
use Rattle.inline_outcomes.proofs.Related.{Distinct}
use Rattle.inline_outcomes.proofs.Places.{find_hit, find_skip}

-- ---- the rest of a block's lines from the line i on

pub from_line : (ls : List Line) (t : ℕ) (rest : List Line) (i : ℕ) (l : Line) → From ls t rest → slice_get rest i ≡ Some l → slice_get ls (t + i) ≡ Some l
from_line ls zero rest i l h q = let e : 0 + i ≡ i = omega arith in ap (slice_get ls) e ∙ ap (λ z. slice_get z i) h ∙ q
from_line [] (suc t) rest i l h q = elim h [ ]
from_line (m ∷ ls) (suc t) rest i l h q = let e : suc t + i ≡ suc (t + i) = omega arith in ap (slice_get (m ∷ ls)) e ∙ from_line ls t rest i l h q

pub from_is : (ls : List Line) (t : ℕ) (rest : List Line) (i : ℕ) → From ls t rest → slice_get ls (t + i) ≡ slice_get rest i
from_is ls zero rest i h = let e : 0 + i ≡ i = omega arith in ap (slice_get ls) e ∙ ap (λ z. slice_get z i) h
from_is [] (suc t) rest i h = elim h [ ]
from_is (m ∷ ls) (suc t) rest i h = let e : suc t + i ≡ suc (t + i) = omega arith in ap (slice_get (m ∷ ls)) e ∙ from_is ls t rest i h

-- ---- blocks found in joined and renamed lists

pub split_find : (x : ℕ) (a b : List Block) (k : Block) → find_block x (a ++ b) ≡ Some k → (find_block x a ≡ Some k) ⊎ (find_block x b ≡ Some k)
split_find x [] b k h = inr h
split_find x (m ∷ a) b k h =
    elim (cases_eq m.number x) [
      | inl q ↦ inl (find_hit x m a q ∙ sym (find_hit x m (a ++ b) q) ∙ h)
      | inr q ↦ elim (split_find x a b k (sym (find_skip x m (a ++ b) q) ∙ h)) [ inl p ↦ inl (find_skip x m a q ∙ p) | inr p ↦ inr p ]
    ]

-- a block under new names
pub record RenamedFrom (r : Renaming) (bs : List Block) (x : ℕ) (k' : Block) : Type 0 where
  pub b : ℕ
  pub k : Block
  pub name : x ≡ r.block b
  pub found : find_block b bs ≡ Some k
  pub is : k' ≡ block_under r k

pub renamed_find : (r : Renaming) (bs : List Block) (x : ℕ) (k' : Block) → find_block x (map (block_under r) bs) ≡ Some k' → RenamedFrom r bs x k'
renamed_find r [] x k' h = cc
renamed_find r (m ∷ bs) x k' h =
    elim (cases_eq (r.block m.number) x) [
      | inl q ↦ record { b = m.number; k = m; name = sym q; found = find_hit m.number m bs refl; is = some_same (sym h ∙ find_hit x (block_under r m) (map (block_under r) bs) q) }
      | inr q ↦ let o = renamed_find r bs x k' (sym (find_skip x (block_under r m) (map (block_under r) bs) q) ∙ h) in record { b = o.b; k = o.k; name = o.name; found = find_skip o.b m bs (λ p. q (ap r.block p ∙ sym o.name)) ∙ o.found; is = o.is }
    ]

-- ---- which instructions end a block

abbrev pub Goes : Instruction → Type 0
Goes i = terminates i ≡ false

abbrev pub Stops : Instruction → Type 0
Stops i = terminates i ≡ true

simple_ends : (r : Renaming) (p : Simple) → simple_terminates (simple_under r p) ≡ simple_terminates p
simple_ends r Nop = refl
simple_ends r (Const a) = refl
simple_ends r (Pure a b) = refl
simple_ends r (PureImm a b c) = refl
simple_ends r (Load a b c d) = refl
simple_ends r (Store a b c d e) = refl
simple_ends r (StackLoad a b c) = refl
simple_ends r (StackStore a b c) = refl
simple_ends r (FuncAddr a) = refl
simple_ends r (Trap a) = refl
simple_ends r (Trapz a b) = refl
simple_ends r (Trapnz a b) = refl

pub ends_under : (r : Renaming) (i : Instruction) → terminates (instruction_under r i) ≡ terminates i
ends_under r (Plain p) = simple_ends r p
ends_under r (Branches c) = refl
ends_under r SequencePoint = refl
ends_under r (Return a) = refl
ends_under r (Call a b) = refl
ends_under r (ReturnCall a b) = refl
ends_under r (TryCall a b c d e) = refl

-- lines of which those that go on have a next one, and the others none
pub record Ending (i : Instruction) (next : Option Line) : Type 0 where
  pub goes : Goes i → (l : Line) × (next ≡ Some l)
  pub stops : Stops i → next ≡ None

pub to_ending : (i : Instruction) (next : Option Line) → EndsRightly (terminates i) next → Ending i next
to_ending i next h = record { goes = λ q. go next (subst (λ b. EndsRightly b next) q h); stops = λ q. stop next (subst (λ b. EndsRightly b next) q h) }
  where
    go : (o : Option Line) → EndsRightly false o → (l : Line) × (o ≡ Some l)
    go None h = elim h [ ]
    go (Some l) h = (l, refl)

    stop : (o : Option Line) → EndsRightly true o → o ≡ None
    stop None h = refl
    stop (Some l) h = elim h [ ]

pub of_ending : (i : Instruction) (next : Option Line) → Ending i next → EndsRightly (terminates i) next
of_ending i next h = by (terminates i) refl
  where
    by : (b : Bool) → terminates i ≡ b → EndsRightly (terminates i) next
    by true q = let e = h.stops q in subst (λ b. EndsRightly b next) (sym q) (subst (EndsRightly true) (sym e) tt)
    by false q = let e = h.goes q in subst (λ b. EndsRightly b next) (sym q) (subst (EndsRightly false) (sym e.1) tt)

abbrev pub EndsWell : List Line → Type 0
EndsWell ls = (j : ℕ) (i : Line) → slice_get ls j ≡ Some i → Ending i.inst (slice_get ls (suc j))

pub none_first : (ls : List Line) → slice_get ls 0 ≡ None → ls ≡ []
none_first [] h = refl
none_first (l ∷ ls) h = cc

abbrev pub IsTail : Instruction → Type 0
IsTail (ReturnCall t args) = Unit {0}
IsTail _ = ⊥

pub tail_stops : (i : Instruction) → IsTail i → Stops i
tail_stops (ReturnCall a b) t = refl
tail_stops (Plain a) t = elim t [ ]
tail_stops (Branches a) t = elim t [ ]
tail_stops SequencePoint t = elim t [ ]
tail_stops (Return a) t = elim t [ ]
tail_stops (Call a b) t = elim t [ ]
tail_stops (TryCall a b c d e) t = elim t [ ]

pub not_both : (i : Instruction) → Goes i → Stops i → ⊥
not_both i a b = let e : false ≡ true = sym a ∙ b in cc

module _ (S : Splicing) (names : Distinct S.naming) where
  -- what a line of g becomes
  abbrev pub Trans : Kind → ℕ → ℕ → Instruction → Line → Line → Type 0
  Trans Within c s (Return vs) i i' = i' ≡ to_after S (map S.naming.callee_value vs)
  Trans Within c s (ReturnCall t args) i i' = i' ≡ line_with S i (Call (called_under (callee_names S) t) (map S.naming.callee_value args)) (new_results S c)
  Trans Within c s _ i i' = i' ≡ callee_line S i
  Trans Last c s inst i i' = i' ≡ callee_line S i
  Trans (Tries normal table) c s (Return vs) i i' = i' ≡ to_normal S normal vs
  Trans (Tries normal table) c s (Call t args) i i' =
      i' ≡ try_with S i (try_target (called_under (callee_names S) t)) (named_sig S (called_under (callee_names S) t)) args (record { block = S.naming.new_block c s; args = map arg.Ret (from 0 (length i.results)) }) (map (entry_under (caller_names S)) table)
  Trans (Tries normal table) c s (TryCall t sig args own inner) i i' =
      i' ≡ try_with S i (try_target_under (callee_names S) t) (sig_after S.caller S.callee sig) args (target_under (callee_names S) own) (map (entry_under (callee_names S)) inner ++ map (entry_under (caller_names S)) table)
  Trans (Tries normal table) c s (ReturnCall t args) i i' =
      i' ≡ try_with S i (try_target (called_under (callee_names S) t)) (named_sig S (called_under (callee_names S) t)) args (target_under (caller_names S) normal) (map (entry_under (caller_names S)) table)
  Trans (Tries normal table) c s _ i i' = i' ≡ callee_line S i

  pub data Shape (k : Kind) (c s : ℕ) (i : Line) (inst : Instruction) (p : Fragment) (q : Fragment) : Type 0 where
    one : (i' : Line) → q.lines ≡ i' ∷ p.lines → Trans k c s inst i i' → terminates i'.inst ≡ terminates inst → q.more ≡ p.more → Shape k c s i inst p q
    two : (i' : Line) → k ≡ Within → IsTail inst → q.lines ≡ i' ∷ (to_after S (new_results S c) ∷ p.lines) → Trans k c s inst i i' → Goes i'.inst → q.more ≡ p.more → Shape k c s i inst p q
    cut : (i' : Line) → q.lines ≡ i' ∷ [] → Trans k c s inst i i' → Stops i'.inst → Goes inst → q.more ≡ record { number = S.naming.new_block c s; params = map S.naming.callee_value i.results; lines = p.lines } ∷ p.more → Shape k c s i inst p q

  plain_shape : (k : Kind) (c s : ℕ) (i : Line) (inst : Instruction) → i.inst ≡ inst → (p : Fragment) → Trans k c s inst i (callee_line S i) → Shape k c s i inst p (front S (callee_line S i) p)
  plain_shape k c s i inst q p t = one (callee_line S i) refl t (ends_under (callee_names S) i.inst ∙ ap terminates q) refl

  within_shape : (c s : ℕ) (i : Line) (inst : Instruction) → i.inst ≡ inst → (p : Fragment) → Shape Within c s i inst p (within_fragment S c s i inst p)
  within_shape c s i (Return vs) q p = one (to_after S (map S.naming.callee_value vs)) refl refl refl refl
  within_shape c s i (ReturnCall t args) q p = two (line_with S i (Call (called_under (callee_names S) t) (map S.naming.callee_value args)) (new_results S c)) refl tt refl refl refl refl
  within_shape c s i (Plain a) q p = plain_shape Within c s i (Plain a) q p refl
  within_shape c s i (Branches a) q p = plain_shape Within c s i (Branches a) q p refl
  within_shape c s i SequencePoint q p = plain_shape Within c s i SequencePoint q p refl
  within_shape c s i (Call a b) q p = plain_shape Within c s i (Call a b) q p refl
  within_shape c s i (TryCall a b d e u) q p = plain_shape Within c s i (TryCall a b d e u) q p refl

  tries_shape : (normal : BlockCall) (table : List (Entry BlockCall)) (c s : ℕ) (i : Line) (inst : Instruction) → i.inst ≡ inst → (p : Fragment) → Shape (Tries normal table) c s i inst p (tries_fragment S normal table c s i inst p)
  tries_shape normal table c s i (Return vs) q p = one (to_normal S normal vs) refl refl refl refl
  tries_shape normal table c s i (ReturnCall t args) q p = one _ refl refl refl refl
  tries_shape normal table c s i (Call t args) q p = cut _ refl refl refl refl refl
  tries_shape normal table c s i (TryCall t sig args own inner) q p = one _ refl refl refl refl
  tries_shape normal table c s i (Plain a) q p = plain_shape (Tries normal table) c s i (Plain a) q p refl
  tries_shape normal table c s i (Branches a) q p = plain_shape (Tries normal table) c s i (Branches a) q p refl
  tries_shape normal table c s i SequencePoint q p = plain_shape (Tries normal table) c s i SequencePoint q p refl

  pub shape : (k : Kind) (c s : ℕ) (i : Line) (p : Fragment) → Shape k c s i i.inst p (fragment_by S k c s i p)
  shape Within c s i p = within_shape c s i i.inst refl p
  shape Last c s i p = plain_shape Last c s i i.inst refl p refl
  shape (Tries normal table) c s i p = tries_shape normal table c s i i.inst refl p

  pub record Here (c s : ℕ) (ls : List Line) (i : ℕ) (i' : Line) : Type 0 where
    pub line : Line
    pub get : slice_get ls i ≡ Some line
    pub trans : Trans (kind_of S.site.inst) c (s + i) line.inst line i'

  pub record Extra (c s : ℕ) (ls : List Line) (i : ℕ) (i' : Line) : Type 0 where
    pub j : ℕ
    pub next : i ≡ suc j
    pub line : Line
    pub get : slice_get ls j ≡ Some line
    pub tails : IsTail line.inst
    pub within : kind_of S.site.inst ≡ Within
    pub is : i' ≡ to_after S (new_results S c)

  pub record LineOf (c s : ℕ) (ls : List Line) (rs : List Line) (i : ℕ) (i' : Line) : Type 0 where
    pub which : Here c s ls i i' ⊎ Extra c s ls i i'
    pub ending : Ending i'.inst (slice_get rs (suc i))

  ends_tail : (i : Line) (is : List Line) → EndsWell (i ∷ is) → EndsWell is
  ends_tail i is e = λ j k q. e (suc j) k q

  shape_first : (k : Kind) (c s : ℕ) (i : Line) (inst : Instruction) (p q : Fragment) → Shape k c s i inst p q → (i' : Line) × (slice_get q.lines 0 ≡ Some i')
  shape_first k c s i inst p q (one i' h t a m) = (i', ap (λ ls. slice_get ls 0) h)
  shape_first k c s i inst p q (two i' w t h u a m) = (i', ap (λ ls. slice_get ls 0) h)
  shape_first k c s i inst p q (cut i' h t a b m) = (i', ap (λ ls. slice_get ls 0) h)

  pub piece_first : (c s : ℕ) (is : List Line) (i : Line) → slice_get is 0 ≡ Some i → (i' : Line) × (slice_get (fragment S c s is).lines 0 ≡ Some i')
  piece_first c s [] i h = cc
  piece_first c s (k ∷ is) i h = shape_first (kind_of S.site.inst) c s k k.inst (fragment S c (suc s) is) _ (shape (kind_of S.site.inst) c s k (fragment S c (suc s) is))

  piece_none : (c s : ℕ) (is : List Line) → slice_get is 0 ≡ None → (fragment S c s is).lines ≡ []
  piece_none c s [] h = refl
  piece_none c s (k ∷ is) h = cc

  later : (c s : ℕ) (i : Line) (is rs : List Line) (x : Line) (j : ℕ) (i' : Line) → LineOf c (suc s) is rs j i' → LineOf c s (i ∷ is) (x ∷ rs) (suc j) i'
  later c s i is rs x j i' o =
      record {
        which = elim o.which [
          | inl h ↦ inl (record { line = h.line; get = h.get; trans = let e : suc s + j ≡ s + suc j = omega arith in subst (λ z. Trans (kind_of S.site.inst) c z h.line.inst h.line i') e h.trans })
          | inr h ↦ inr (record { j = suc h.j; next = ap suc h.next; line = h.line; get = h.get; tails = h.tails; within = h.within; is = h.is })
        ];
        ending = o.ending;
      }

  pub piece_line : (c s : ℕ) (ls : List Line) → EndsWell ls → (i : ℕ) (i' : Line) → slice_get (fragment S c s ls).lines i ≡ Some i' → LineOf c s ls (fragment S c s ls).lines i i'
  piece_line c s [] ends i i' h = cc
  piece_line c s (k ∷ is) ends i i' h = by (fragment_by S (kind_of S.site.inst) c s k (fragment S c (suc s) is)) (shape (kind_of S.site.inst) c s k (fragment S c (suc s) is)) i i' h (λ j j' q. piece_line c (suc s) is (ends_tail k is ends) j j' q)
    where
      at_zero : (x : Line) → Trans (kind_of S.site.inst) c s k.inst k x → Here c s (k ∷ is) 0 x
      at_zero x t = let e : s ≡ s + 0 = omega arith in record { line = k; get = refl; trans = subst (λ z. Trans (kind_of S.site.inst) c z k.inst k x) e t }

      no_more : Stops k.inst → (fragment S c (suc s) is).lines ≡ []
      no_more h = piece_none c (suc s) is ((ends 0 k refl).stops h)

      by : (q : Fragment) → Shape (kind_of S.site.inst) c s k k.inst (fragment S c (suc s) is) q → (i : ℕ) (i' : Line) → slice_get q.lines i ≡ Some i' → ((j : ℕ) (j' : Line) → slice_get (fragment S c (suc s) is).lines j ≡ Some j' → LineOf c (suc s) is (fragment S c (suc s) is).lines j j') → LineOf c s (k ∷ is) q.lines i i'
      by q (one x lines t a m) zero i' h ih =
          let e : x ≡ i' = some_same (sym (ap (λ ls. slice_get ls 0) lines) ∙ h) in
          subst (λ ls. LineOf c s (k ∷ is) ls 0 i') (sym lines) (subst (λ z. LineOf c s (k ∷ is) (x ∷ (fragment S c (suc s) is).lines) 0 z) e (record {
            which = inl (at_zero x t);
            ending = record { goes = λ r. let u = (ends 0 k refl).goes (sym a ∙ r) in piece_first c (suc s) is u.0 u.1; stops = λ r. ap (λ ls. slice_get ls 0) (no_more (sym a ∙ r)) };
          }))
      by q (one x lines t a m) (suc j) i' h ih =
          subst (λ ls. LineOf c s (k ∷ is) ls (suc j) i') (sym lines) (later c s k is (fragment S c (suc s) is).lines x j i' (ih j i' (sym (ap (λ ls. slice_get ls (suc j)) lines) ∙ h)))
      by q (two x w tails lines t a m) zero i' h ih =
          let e : x ≡ i' = some_same (sym (ap (λ ls. slice_get ls 0) lines) ∙ h) in
          subst (λ ls. LineOf c s (k ∷ is) ls 0 i') (sym lines) (subst (λ z. LineOf c s (k ∷ is) (x ∷ (to_after S (new_results S c) ∷ (fragment S c (suc s) is).lines)) 0 z) e (record {
            which = inl (at_zero x t);
            ending = record { goes = λ r. (to_after S (new_results S c), refl); stops = λ r. absurd (not_both x.inst a r) };
          }))
      by q (two x w tails lines t a m) (suc zero) i' h ih =
          let e : to_after S (new_results S c) ≡ i' = some_same (sym (ap (λ ls. slice_get ls 1) lines) ∙ h) in
          subst (λ ls. LineOf c s (k ∷ is) ls 1 i') (sym lines) (subst (λ z. LineOf c s (k ∷ is) (x ∷ (to_after S (new_results S c) ∷ (fragment S c (suc s) is).lines)) 1 z) e (record {
            which = inr (record { j = 0; next = refl; line = k; get = refl; tails = tails; within = w; is = refl });
            ending = record { goes = λ r. let e : true ≡ false = r in cc; stops = λ r. ap (λ ls. slice_get ls 0) (no_more (tail_stops k.inst tails)) };
          }))
      by q (two x w tails lines t a m) (suc (suc j)) i' h ih =
          let e : slice_get (fragment S c (suc s) is).lines j ≡ Some i' = sym (ap (λ ls. slice_get ls (suc (suc j))) lines) ∙ h in
          let z : (fragment S c (suc s) is).lines ≡ [] = no_more (tail_stops k.inst tails) in
          absurd (empty_get j (subst (λ ls. slice_get ls j ≡ Some i') z e))
        where
          empty_get : (j : ℕ) → slice_get {X = Line} [] j ≡ Some i' → ⊥
          empty_get j h = cc
      by q (cut x lines t a b m) zero i' h ih =
          let e : x ≡ i' = some_same (sym (ap (λ ls. slice_get ls 0) lines) ∙ h) in
          subst (λ ls. LineOf c s (k ∷ is) ls 0 i') (sym lines) (subst (λ z. LineOf c s (k ∷ is) (x ∷ []) 0 z) e (record {
            which = inl (at_zero x t);
            ending = record { goes = λ r. absurd (not_both x.inst r a); stops = λ r. refl };
          }))
      by q (cut x lines t a b m) (suc j) i' h ih =
          let e : slice_get {X = Line} [] j ≡ Some i' = sym (ap (λ ls. slice_get ls (suc j)) lines) ∙ h in cc

  -- a further block: it holds the rest after the line t of the block c
  pub record NewOf (c : ℕ) (ls : List Line) (s : ℕ) (x : ℕ) (k' : Block) : Type 0 where
    pub j : ℕ
    pub line : Line
    pub rest : List Line
    pub from : From ls (suc j) rest
    pub get : slice_get ls j ≡ Some line
    pub goes : Goes line.inst
    pub name : x ≡ S.naming.new_block c (s + j)
    pub params : k'.params ≡ map S.naming.callee_value line.results
    pub lines : k'.lines ≡ (fragment S c (suc (s + j)) rest).lines

  pub new_of : (c s : ℕ) (ls : List Line) (x : ℕ) (k' : Block) → find_block x (fragment S c s ls).more ≡ Some k' → NewOf c ls s x k'
  new_of c s [] x k' h = cc
  new_of c s (i ∷ is) x k' h = by (fragment_by S (kind_of S.site.inst) c s i (fragment S c (suc s) is)) (shape (kind_of S.site.inst) c s i (fragment S c (suc s) is)) h (λ q. new_of c (suc s) is x k' q)
    where
      shifted : NewOf c is (suc s) x k' → NewOf c (i ∷ is) s x k'
      shifted o =
          let e : suc s + o.j ≡ s + suc o.j = omega arith in
          record { j = suc o.j; line = o.line; rest = o.rest; from = o.from; get = o.get; goes = o.goes; name = o.name ∙ ap (S.naming.new_block c) e; params = o.params; lines = o.lines ∙ ap (λ z. (fragment S c (suc z) o.rest).lines) e }

      by : (q : Fragment) → Shape (kind_of S.site.inst) c s i i.inst (fragment S c (suc s) is) q → find_block x q.more ≡ Some k' → (find_block x (fragment S c (suc s) is).more ≡ Some k' → NewOf c is (suc s) x k') → NewOf c (i ∷ is) s x k'
      by q (one y lines t a m) h ih = shifted (ih (ap (find_block x) (sym m) ∙ h))
      by q (two y w tails lines t a m) h ih = shifted (ih (ap (find_block x) (sym m) ∙ h))
      by q (cut y lines t a b m) h ih =
          let new : Block = record { number = S.naming.new_block c s; params = map S.naming.callee_value i.results; lines = (fragment S c (suc s) is).lines } in
          let h' : find_block x (new ∷ (fragment S c (suc s) is).more) ≡ Some k' = ap (find_block x) (sym m) ∙ h in
          elim (cases_eq (S.naming.new_block c s) x) [
            | inl e ↦
                let same : new ≡ k' = some_same (sym (find_hit x new (fragment S c (suc s) is).more e) ∙ h') in
                let z : s + 0 ≡ s = omega arith in
                record { j = 0; line = i; rest = is; from = refl; get = refl; goes = b; name = sym e ∙ ap (S.naming.new_block c) (sym z); params = ap (λ y. y.params) (sym same); lines = ap (λ y. y.lines) (sym same) ∙ ap (λ y. (fragment S c (suc y) is).lines) (sym z) }
            | inr e ↦ shifted (ih (sym (find_skip x new (fragment S c (suc s) is).more e) ∙ h'))
          ]

  -- a block of the result's g part, by its block of g
  pub record GBlock (gs : List Block) (x : ℕ) (k' : Block) : Type 0 where
    pub c : ℕ
    pub k : Block
    pub found : find_block c gs ≡ Some k
    pub which : ((x ≡ S.naming.callee_block c) × (k'.params ≡ map S.naming.callee_value k.params) × (k'.lines ≡ (fragment S c 0 k.lines).lines)) ⊎ NewOf c k.lines 0 x k'

  pub g_block : (gs : List Block) → Different (block_numbers gs) → (x : ℕ) (k' : Block) → find_block x (body S gs) ≡ Some k' → GBlock gs x k'
  g_block [] d x k' h = cc
  g_block (m ∷ gs) d x k' h =
      let head : Block = record { number = S.naming.callee_block m.number; params = map S.naming.callee_value m.params; lines = (fragment S m.number 0 m.lines).lines } in
      let rest = (fragment S m.number 0 m.lines).more ++ body S gs in
      elim (cases_eq (S.naming.callee_block m.number) x) [
        | inl q ↦
            let e : head ≡ k' = some_same (sym (find_hit x head rest q) ∙ h) in
            record { c = m.number; k = m; found = find_hit m.number m gs refl; which = inl (sym q, ap (λ z. z.params) (sym e), ap (λ z. z.lines) (sym e)) }
        | inr q ↦
            elim (split_find x (fragment S m.number 0 m.lines).more (body S gs) k' (sym (find_skip x head rest q) ∙ h)) [
              | inl r ↦ record { c = m.number; k = m; found = find_hit m.number m gs refl; which = inr (new_of m.number 0 m.lines x k' r) }
              | inr r ↦
                  let o = g_block gs d.1 x k' r in
                  record { c = o.c; k = o.k; found = find_skip o.c m gs (λ e. d.0 (subst (λ z. In z (block_numbers gs)) (sym e) (found_number o.c gs o.k o.found))) ∙ o.found; which = o.which }
            ]
      ]

  -- where a block of the result comes from
  pub data BlockOf (b0 : Block) (bs : List Block) (x : ℕ) (k' : Block) : Type 0 where
    of_f : (b : ℕ) → (k : Block) → x ≡ S.naming.caller_block b → find_block b bs ≡ Some k → (b ≡ S.at → ⊥) → k' ≡ block_under (caller_names S) k → BlockOf b0 bs x k'
    of_cut : x ≡ S.naming.caller_block S.at → k' ≡ cut_block S b0 → BlockOf b0 bs x k'
    of_g : GBlock S.callee.blocks x k' → BlockOf b0 bs x k'
    of_after : kind_of S.site.inst ≡ Within → x ≡ S.naming.after → k' ≡ after_block S → BlockOf b0 bs x k'

  after_of : (k : Kind) (x : ℕ) (k' : Block) → find_block x (after_blocks S k) ≡ Some k' → (k ≡ Within) × (x ≡ S.naming.after) × (k' ≡ after_block S)
  after_of Within x k' h =
      elim (cases_eq S.naming.after x) [ inl q ↦ (refl, sym q, some_same (sym h ∙ find_hit x (after_block S) [] q)) | inr q ↦ let e : None ≡ Some k' = sym (find_skip x (after_block S) [] q) ∙ h in cc ]
  after_of Last x k' h = cc
  after_of (Tries a b) x k' h = cc

  pub block_of : (bs : List Block) (b0 : Block) → find_block S.at bs ≡ Some b0 → Different (block_numbers S.callee.blocks) → (x : ℕ) (k' : Block) → find_block x (spliced_blocks S bs) ≡ Some k' → BlockOf b0 bs x k'
  block_of [] b0 h0 d x k' h = cc
  block_of (m ∷ bs) b0 h0 d x k' h = elim (cases_eq m.number S.at) [ inl q ↦ cut_at q | inr q ↦ whole q (λ r. block_of bs b0 (sym (find_skip S.at m bs q) ∙ h0) d x k' r) ]
    where
      chosen : List Block
      chosen = body S S.callee.blocks ++ (after_blocks S (kind_of S.site.inst) ++ map (block_under (caller_names S)) bs)

      cut_at : m.number ≡ S.at → BlockOf b0 (m ∷ bs) x k'
      cut_at q =
          let is : spliced_blocks S (m ∷ bs) ≡ cut_block S m ∷ chosen = ap (λ c. if c then cut_block S m ∷ (body S S.callee.blocks ++ (after_blocks S (kind_of S.site.inst) ++ map (block_under (caller_names S)) bs)) else block_under (caller_names S) m ∷ spliced_blocks S bs) (eq-eqb m.number S.at q) in
          let h' : find_block x (cut_block S m ∷ chosen) ≡ Some k' = ap (find_block x) (sym is) ∙ h in
          let same : m ≡ b0 = some_same (sym (find_hit S.at m bs q) ∙ h0) in
          elim (cases_eq (S.naming.caller_block m.number) x) [
            | inl e ↦ of_cut (sym e ∙ ap S.naming.caller_block q) (some_same (sym h' ∙ find_hit x (cut_block S m) chosen e) ∙ ap (cut_block S) same)
            | inr e ↦
                elim (split_find x (body S S.callee.blocks) (after_blocks S (kind_of S.site.inst) ++ map (block_under (caller_names S)) bs) k' (sym (find_skip x (cut_block S m) chosen e) ∙ h')) [
                  | inl r ↦ of_g (g_block S.callee.blocks d x k' r)
                  | inr r ↦
                      elim (split_find x (after_blocks S (kind_of S.site.inst)) (map (block_under (caller_names S)) bs) k' r) [
                        | inl u ↦ let a = after_of (kind_of S.site.inst) x k' u in of_after a.0 a.1 a.2
                        | inr u ↦ let o = renamed_find (caller_names S) bs x k' u in of_f o.b o.k o.name (find_skip o.b m bs (λ p. e (ap S.naming.caller_block p ∙ sym o.name)) ∙ o.found) (λ p. e (ap S.naming.caller_block (q ∙ sym p) ∙ sym o.name)) o.is
                      ]
                ]
          ]

      whole : (m.number ≡ S.at → ⊥) → (find_block x (spliced_blocks S bs) ≡ Some k' → BlockOf b0 bs x k') → BlockOf b0 (m ∷ bs) x k'
      whole q ih =
          let is : spliced_blocks S (m ∷ bs) ≡ block_under (caller_names S) m ∷ spliced_blocks S bs = ap (λ c. if c then cut_block S m ∷ (body S S.callee.blocks ++ (after_blocks S (kind_of S.site.inst) ++ map (block_under (caller_names S)) bs)) else block_under (caller_names S) m ∷ spliced_blocks S bs) (ne_eqb m.number S.at q) in
          let h' : find_block x (block_under (caller_names S) m ∷ spliced_blocks S bs) ≡ Some k' = ap (find_block x) (sym is) ∙ h in
          elim (cases_eq (S.naming.caller_block m.number) x) [
            | inl e ↦ of_f m.number m (sym e) (find_hit m.number m bs refl) q (some_same (sym h' ∙ find_hit x (block_under (caller_names S) m) (spliced_blocks S bs) e))
            | inr e ↦ lifted e (ih (sym (find_skip x (block_under (caller_names S) m) (spliced_blocks S bs) e) ∙ h'))
          ]
        where
          lifted : (S.naming.caller_block m.number ≡ x → ⊥) → BlockOf b0 bs x k' → BlockOf b0 (m ∷ bs) x k'
          lifted e (of_f b k name found off is) = of_f b k name (find_skip b m bs (λ p. e (ap S.naming.caller_block p ∙ sym name)) ∙ found) off is
          lifted e (of_cut name is) = of_cut name is
          lifted e (of_g o) = of_g o
          lifted e (of_after w name is) = of_after w name is

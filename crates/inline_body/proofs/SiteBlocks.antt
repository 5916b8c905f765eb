-- The blocks of a function, step by step, as a site is opened.
use Rattle.std.proofs.Common.{◌≡◌, ℕ, zero, suc, ◌+◌, ◌<◌, inl, inr, ◌⊎◌, List, [], ◌∷◌, ◌++◌, length, take, drop, Some, Bool, true, false, refl, sym, ap, ap₂, ◌∙◌, subst, arith, eq-eqb, ne_eqb}
use Rattle.std.specs.Prelude.{if◌then◌else◌, nat_eq, slice_get}
use Rattle.ir_core.specs.Module.{Block, Line, Function}
use Rattle.ir_core.specs.Lookup.{block_numbers}
use Rattle.ir_core.specs.Lists.{In, Different}
use Rattle.ir_core.specs.Edits.{at_block, insert_after, put_line, with_lines, but_last, lines_of}
use Rattle.ir_core.proofs.Splitting.{Split, split, at_block_none}
use Rattle.ir_core.proofs.Taking.{without_last, left_function}
use Rattle.ir_core.proofs.Members.{different_apart, different_right, in_left, in_right}
use Rattle.ir_core.proofs.ByNumber.{numbers_join}
use Rattle.inline_body.specs.Opened.{taken, parted}
use Rattle.inline_body.proofs.Fills.{numbers_still}

-- ---- a block between others

in_cases : (a : ℕ) (xs ys : List ℕ) → In a (xs ++ ys) → (In a xs → ⊥) → In a ys
in_cases a [] ys i no_left = i
in_cases a (x ∷ xs) ys (inl e) no_left = absurd (no_left (inl e))
in_cases a (x ∷ xs) ys (inr i) no_left = in_cases a xs ys i (λ j. no_left (inr j))

-- no number of the list is the block's
abbrev pub Off : ℕ → List Block → Type 0
Off a bs = In a (block_numbers bs) → ⊥

at_there : (a : ℕ) (g : Block → Block) (xs ys : List Block) (h : Block) → h.number ≡ a → Off a xs → Off a ys → at_block a g (xs ++ (h ∷ ys)) ≡ xs ++ (g h ∷ ys)
at_there a g [] ys h e x y = ap₂ (λ z zs. z ∷ zs) (ap (λ c. if c then g h else h) (eq-eqb h.number a e)) (at_block_none a g ys y)
at_there a g (b ∷ xs) ys h e x y = ap₂ (λ z zs. z ∷ zs) (ap (λ c. if c then g b else b) (ne_eqb b.number a (λ q. x (inl (sym q))))) (at_there a g xs ys h e (λ i. x (inr i)) y)

lines_there : (a : ℕ) (xs ys : List Block) (h : Block) → h.number ≡ a → Off a xs → lines_of a (xs ++ (h ∷ ys)) ≡ h.lines
lines_there a [] ys h e x = ap (λ c. if c then h.lines else lines_of a ys) (eq-eqb h.number a e)
lines_there a (b ∷ xs) ys h e x = ap (λ c. if c then b.lines else lines_of a (xs ++ (h ∷ ys))) (ne_eqb b.number a (λ q. x (inl (sym q)))) ∙ lines_there a xs ys h e (λ i. x (inr i))

taken_there : (a i n : ℕ) (ps : List ℕ) (xs ys : List Block) (h : Block) → h.number ≡ a → Off a xs → taken a i n ps (xs ++ (h ∷ ys)) ≡ xs ++ (record h { lines = take i h.lines } ∷ (record { number = n; params = ps; lines = drop (suc i) h.lines } ∷ ys))
taken_there a i n ps [] ys h e x = ap (λ c. if c then record h { lines = take i h.lines } ∷ (record { number = n; params = ps; lines = drop (suc i) h.lines } ∷ ys) else h ∷ taken a i n ps ys) (eq-eqb h.number a e)
taken_there a i n ps (b ∷ xs) ys h e x =
    ap (λ c. if c then record b { lines = take i b.lines } ∷ (record { number = n; params = ps; lines = drop (suc i) b.lines } ∷ (xs ++ (h ∷ ys))) else b ∷ taken a i n ps (xs ++ (h ∷ ys))) (ne_eqb b.number a (λ q. x (inl (sym q)))) ∙ ap (λ z. b ∷ z) (taken_there a i n ps xs ys h e (λ j. x (inr j)))

parted_there : (a n : ℕ) (ps : List ℕ) (xs ys : List Block) (h : Block) → h.number ≡ a → Off a xs → parted a n ps (xs ++ (h ∷ ys)) ≡ xs ++ (record h { lines = [] } ∷ (record { number = n; params = ps; lines = h.lines } ∷ ys))
parted_there a n ps [] ys h e x = ap (λ c. if c then record h { lines = [] } ∷ (record { number = n; params = ps; lines = h.lines } ∷ ys) else h ∷ parted a n ps ys) (eq-eqb h.number a e)
parted_there a n ps (b ∷ xs) ys h e x =
    ap (λ c. if c then record b { lines = [] } ∷ (record { number = n; params = ps; lines = b.lines } ∷ (xs ++ (h ∷ ys))) else b ∷ parted a n ps (xs ++ (h ∷ ys))) (ne_eqb b.number a (λ q. x (inl (sym q)))) ∙ ap (λ z. b ∷ z) (parted_there a n ps xs ys h e (λ j. x (inr j)))

-- ---- lines

front_of_cut : (i : ℕ) (ls : List Line) → i < length ls → but_last (take (suc i) ls) ≡ take i ls
front_of_cut i [] h = absurd (omega (arith, h))
front_of_cut zero (l ∷ ls) h = refl
front_of_cut (suc i) (l ∷ []) h = absurd (omega (arith, h))
front_of_cut (suc i) (l ∷ (m ∷ ls)) h = let q : i < length (m ∷ ls) = omega (arith, h) in ap (λ z. l ∷ z) (front_of_cut i (m ∷ ls) q)

end_of_cut : (i : ℕ) (ls ms : List Line) (l : Line) → i < length ls → take (suc i) ls ≡ ms ++ (l ∷ []) → slice_get ls i ≡ Some l
end_of_cut i [] ms l h e = absurd (omega (arith, h))
end_of_cut zero (x ∷ ls) [] l h e = cc
end_of_cut zero (x ∷ ls) (y ∷ []) l h e = cc
end_of_cut zero (x ∷ ls) (y ∷ (z ∷ ms)) l h e = cc
end_of_cut (suc i) (x ∷ []) ms l h e = absurd (omega (arith, h))
end_of_cut (suc i) (x ∷ (w ∷ ls)) [] l h e = cc
end_of_cut (suc i) (x ∷ (w ∷ ls)) (y ∷ ms) l h e = let q : i < length (w ∷ ls) = omega (arith, h) in let r : take (suc i) (w ∷ ls) ≡ ms ++ (l ∷ []) = cc in end_of_cut i (w ∷ ls) ms l q r

-- ---- the blocks, split at a

lines_put : (a : ℕ) (l : Line) (bs : List Block) → In a (block_numbers bs) → lines_of a (at_block a (put_line l) bs) ≡ lines_of a bs ++ (l ∷ [])
lines_put a l [] i = elim i [ ]
lines_put a l (b ∷ bs) i = go (nat_eq b.number a) refl (λ j. lines_put a l bs j) i
  where
    go : (c : Bool) → nat_eq b.number a ≡ c → (In a (block_numbers bs) → lines_of a (at_block a (put_line l) bs) ≡ lines_of a bs ++ (l ∷ [])) → (a ≡ b.number) ⊎ In a (block_numbers bs) → (if nat_eq (if c then put_line l b else b).number a then (if c then put_line l b else b).lines else lines_of a (at_block a (put_line l) bs)) ≡ (if c then b.lines else lines_of a bs) ++ (l ∷ [])
    go true e ih j = ap (λ z. if z then b.lines ++ (l ∷ []) else lines_of a (at_block a (put_line l) bs)) e
    go false e ih (inl q) = let z : false ≡ true = sym e ∙ eq-eqb b.number a (sym q) in cc
    go false e ih (inr j) = ap (λ z. if z then b.lines else lines_of a (at_block a (put_line l) bs)) e ∙ ih j

-- the lines from the m-th on of the block a moved to the block n
abbrev pub cut_at : ℕ → ℕ → ℕ → List Block → List Block
cut_at a n m zs = at_block n (with_lines (drop m (lines_of a zs))) (at_block a (with_lines (take m (lines_of a zs))) zs)

module _ (a n : ℕ) (ps : List ℕ) (bs : List Block) (there : In a (block_numbers bs)) (differ : Different (block_numbers bs)) (fresh : Off n bs) where
  here : Split a bs
  here = split a bs there differ

  abbrev pub new : Block
  new = record { number = n; params = ps; lines = [] }

  numbers_are : block_numbers bs ≡ block_numbers here.before ++ (here.here.number ∷ block_numbers here.behind)
  numbers_are = ap block_numbers here.is ∙ numbers_join here.before (here.here ∷ here.behind)

  differ_here : Different (block_numbers here.before ++ (here.here.number ∷ block_numbers here.behind))
  differ_here = subst Different numbers_are differ

  off_before : Off a here.before
  off_before i = different_apart (block_numbers here.before) (here.here.number ∷ block_numbers here.behind) a differ_here i (inl (sym here.number))

  off_behind : Off a here.behind
  off_behind i = (different_right (block_numbers here.before) (here.here.number ∷ block_numbers here.behind) differ_here).0 (subst (λ z. In z (block_numbers here.behind)) (sym here.number) i)

  fresh_here : In n (block_numbers here.before ++ (here.here.number ∷ block_numbers here.behind)) → ⊥
  fresh_here i = fresh (subst (In n) (sym numbers_are) i)

  new_before : Off n here.before
  new_before i = fresh_here (in_left n (block_numbers here.before) _ i)

  new_behind : Off n here.behind
  new_behind i = fresh_here (in_right n (block_numbers here.before) (here.here.number ∷ block_numbers here.behind) (inr i))

  pub other : a ≡ n → ⊥
  other e = fresh (subst (λ z. In z (block_numbers bs)) e there)

  inserted : insert_after a new bs ≡ here.before ++ (here.here ∷ (new ∷ here.behind))
  inserted = here.insert new

  -- what the calls on the inserted blocks ask for
  pub still_there : In a (block_numbers (insert_after a new bs))
  still_there = subst (λ z. In a (block_numbers z)) (sym inserted) (subst (In a) (sym (numbers_join here.before (here.here ∷ (new ∷ here.behind)))) (in_right a (block_numbers here.before) _ (inl (sym here.number))))

  pub new_there : In n (block_numbers (insert_after a new bs))
  new_there = subst (λ z. In n (block_numbers z)) (sym inserted) (subst (In n) (sym (numbers_join here.before (here.here ∷ (new ∷ here.behind)))) (in_right n (block_numbers here.before) _ (inr (inl refl))))

  pub lines_still : lines_of a (insert_after a new bs) ≡ lines_of a bs
  lines_still = ap (lines_of a) inserted ∙ (lines_there a here.before (new ∷ here.behind) here.here here.number off_before ∙ sym here.lines)

  skip : (xs : List Block) → Off n xs → (h : Block) → (h.number ≡ n → ⊥) → (ys : List Block) → lines_of n (xs ++ (h ∷ (new ∷ ys))) ≡ []
  skip [] x h e ys = ap (λ c. if c then h.lines else (if nat_eq n n then [] else lines_of n ys)) (ne_eqb h.number n e) ∙ ap (λ c. if c then [] else lines_of n ys) (eq-eqb n n refl)
  skip (b ∷ xs) x h e ys = ap (λ c. if c then b.lines else lines_of n (xs ++ (h ∷ (new ∷ ys)))) (ne_eqb b.number n (λ q. x (inl (sym q)))) ∙ skip xs (λ i. x (inr i)) h e ys

  pub new_empty : lines_of n (insert_after a new bs) ≡ []
  new_empty = ap (lines_of n) inserted ∙ skip here.before new_before here.here (λ e. other (sym here.number ∙ e)) here.behind

  -- the cut at m
  cut_is : (m : ℕ) → cut_at a n m (insert_after a new bs) ≡ here.before ++ (with_lines (take m here.here.lines) here.here ∷ (with_lines (drop m here.here.lines) new ∷ here.behind))
  cut_is m =
      ap (λ ls. at_block n (with_lines (drop m ls)) (at_block a (with_lines (take m ls)) (insert_after a new bs))) (lines_still ∙ here.lines)
      ∙ (ap (λ zs. at_block n (with_lines (drop m here.here.lines)) (at_block a (with_lines (take m here.here.lines)) zs)) inserted
      ∙ (ap (at_block n (with_lines (drop m here.here.lines))) (at_there a (with_lines (take m here.here.lines)) here.before (new ∷ here.behind) here.here here.number off_before off_new)
      ∙ at_new (with_lines (take m here.here.lines) here.here) (λ e. other (sym here.number ∙ e)) (with_lines (drop m here.here.lines)) here.before new_before))
    where
      off_new : Off a (new ∷ here.behind)
      off_new (inl e) = other e
      off_new (inr i) = off_behind i

      at_new : (h : Block) → (h.number ≡ n → ⊥) → (g : Block → Block) → (xs : List Block) → Off n xs → at_block n g (xs ++ (h ∷ (new ∷ here.behind))) ≡ xs ++ (h ∷ (g new ∷ here.behind))
      at_new h e g [] x = ap₂ (λ z zs. z ∷ zs) (ap (λ c. if c then g h else h) (ne_eqb h.number n e)) (ap₂ (λ z zs. z ∷ zs) (ap (λ c. if c then g new else new) (eq-eqb n n refl)) (at_block_none n g here.behind new_behind))
      at_new h e g (b ∷ xs) x = ap₂ (λ z zs. z ∷ zs) (ap (λ c. if c then g b else b) (ne_eqb b.number n (λ q. x (inl (sym q))))) (at_new h e g xs (λ i. x (inr i)))

  pub cut_there : (m : ℕ) → In a (block_numbers (cut_at a n m (insert_after a new bs)))
  cut_there m = subst (λ z. In a (block_numbers z)) (sym (cut_is m)) (subst (In a) (sym (numbers_join here.before _)) (in_right a (block_numbers here.before) _ (inl (sym here.number))))

  pub cut_lines : (m : ℕ) → lines_of a (cut_at a n m (insert_after a new bs)) ≡ take m (lines_of a bs)
  cut_lines m = ap (lines_of a) (cut_is m) ∙ (lines_there a here.before _ (with_lines (take m here.here.lines) here.here) here.number off_before ∙ ap (take m) (sym here.lines))

  -- all lines moved
  pub parted_is : cut_at a n 0 (insert_after a new bs) ≡ parted a n ps bs
  parted_is = cut_is 0 ∙ sym (ap (parted a n ps) here.is ∙ parted_there a n ps here.before here.behind here.here here.number off_before)

  -- the line i gone
  taken_is : (i : ℕ) → i < length (lines_of a bs) → at_block a without_last (cut_at a n (suc i) (insert_after a new bs)) ≡ taken a i n ps bs
  taken_is i h =
      ap (at_block a without_last) (cut_is (suc i))
      ∙ (at_there a without_last here.before (with_lines (drop (suc i) here.here.lines) new ∷ here.behind) (with_lines (take (suc i) here.here.lines) here.here) here.number off_before off_cut
      ∙ (ap (λ ls. here.before ++ (with_lines ls here.here ∷ (with_lines (drop (suc i) here.here.lines) new ∷ here.behind))) (front_of_cut i here.here.lines (subst (λ z. i < length z) here.lines h))
      ∙ sym (ap (taken a i n ps) here.is ∙ taken_there a i n ps here.before here.behind here.here here.number off_before)))
    where
      off_cut : Off a (with_lines (drop (suc i) here.here.lines) new ∷ here.behind)
      off_cut (inl e) = other e
      off_cut (inr j) = off_behind j

  pub call_is : (i : ℕ) (l : Line) (zs : List Block) → i < length (lines_of a bs) → cut_at a n (suc i) (insert_after a new bs) ≡ at_block a (put_line l) zs → slice_get (lines_of a bs) i ≡ Some l
  call_is i l zs h e =
      let numbers : block_numbers zs ≡ block_numbers (cut_at a n (suc i) (insert_after a new bs)) = sym (numbers_still a (l ∷ []) zs) ∙ ap block_numbers (sym e) in
      let there_still : In a (block_numbers zs) = subst (In a) (sym numbers) (cut_there (suc i)) in
      end_of_cut i (lines_of a bs) (lines_of a zs) l h (sym (cut_lines (suc i)) ∙ (ap (lines_of a) e ∙ lines_put a l zs there_still))

-- the blocks once the line is gone
pub taken_at : (a n i : ℕ) (ps : List ℕ) (bs : List Block) (there : In a (block_numbers bs)) (differ : Different (block_numbers bs)) → taken a i n ps bs ≡ (split a bs there differ).before ++ (record (split a bs there differ).here { lines = take i (split a bs there differ).here.lines } ∷ (record { number = n; params = ps; lines = drop (suc i) (split a bs there differ).here.lines } ∷ (split a bs there differ).behind))
taken_at a n i ps bs there differ =
    let s = split a bs there differ in
    let numbers : block_numbers bs ≡ block_numbers s.before ++ (s.here.number ∷ block_numbers s.behind) = ap block_numbers s.is ∙ numbers_join s.before (s.here ∷ s.behind) in
    let d = subst Different numbers differ in
    ap (taken a i n ps) s.is ∙ taken_there a i n ps s.before s.behind s.here s.number (λ j. different_apart (block_numbers s.before) (s.here.number ∷ block_numbers s.behind) a d j (inl (sym s.number)))

-- ---- functions

take_some : (i : ℕ) (ls : List Line) → i < length ls → take (suc i) ls ≡ [] → ⊥
take_some i [] h e = omega (arith, h)
take_some i (l ∷ ls) h e = cc

-- the blocks of the functions after the first call and after the second
pub first_blocks : (a n : ℕ) (ps : List ℕ) (f f1 : Function) → f1 ≡ record f { blocks = insert_after a (record { number = n; params = ps; lines = [] }) f.blocks } → f1.blocks ≡ insert_after a (record { number = n; params = ps; lines = [] }) f.blocks
first_blocks a n ps f f1 e = ap (λ (z : Function). z.blocks) e

pub second_blocks : (a n m : ℕ) (ps : List ℕ) (f f1 f2 : Function) → f1 ≡ record f { blocks = insert_after a (record { number = n; params = ps; lines = [] }) f.blocks } → f2 ≡ record f1 { blocks = cut_at a n m f1.blocks } → f2.blocks ≡ cut_at a n m (insert_after a (record { number = n; params = ps; lines = [] }) f.blocks)
second_blocks a n m ps f f1 f2 e1 e2 = ap (λ (z : Function). z.blocks) e2 ∙ ap (cut_at a n m) (first_blocks a n ps f f1 e1)

pub not_empty : (a n i m : ℕ) (ps : List ℕ) (bs zs : List Block) → m ≡ suc i → (there : In a (block_numbers bs)) → (differ : Different (block_numbers bs)) → (fresh : Off n bs) → i < length (lines_of a bs) → zs ≡ cut_at a n m (insert_after a (record { number = n; params = ps; lines = [] }) bs) → lines_of a zs ≡ [] → ⊥
not_empty a n i m ps bs zs e there differ fresh h is empty =
    take_some i (lines_of a bs) h (ap (λ (k : ℕ). take k (lines_of a bs)) (sym e) ∙ (sym (cut_lines a n ps bs there differ fresh m) ∙ (ap (lines_of a) (sym is) ∙ empty)))

pub parted_body : (a n : ℕ) (ps : List ℕ) (f f1 f2 : Function) → In a (block_numbers f.blocks) → Different (block_numbers f.blocks) → Off n f.blocks
    → f1 ≡ record f { blocks = insert_after a (record { number = n; params = ps; lines = [] }) f.blocks }
    → f2 ≡ record f1 { blocks = cut_at a n 0 f1.blocks }
    → f2 ≡ record f { blocks = parted a n ps f.blocks }
parted_body a n ps f f1 f2 there differ fresh e1 e2 = e2 ∙ (ap (λ (z : Function). record z { blocks = cut_at a n 0 z.blocks }) e1 ∙ ap (λ bs. record f { blocks = bs }) (parted_is a n ps f.blocks there differ fresh))

pub taken_body : (a n i m : ℕ) (ps : List ℕ) (f f1 f2 f3 : Function) (l : Line) → m ≡ suc i → In a (block_numbers f.blocks) → Different (block_numbers f.blocks) → Off n f.blocks → i < length (lines_of a f.blocks)
    → f1 ≡ record f { blocks = insert_after a (record { number = n; params = ps; lines = [] }) f.blocks }
    → f2 ≡ record f1 { blocks = at_block n (with_lines (drop m (lines_of a f1.blocks))) (at_block a (with_lines (take m (lines_of a f1.blocks))) f1.blocks) }
    → f2 ≡ record f3 { blocks = at_block a (put_line l) f3.blocks }
    → (f3 ≡ record f { blocks = taken a i n ps f.blocks }) × (slice_get (lines_of a f.blocks) i ≡ Some l)
taken_body a n i m ps f f1 f2 f3 l e there differ fresh h e1 e2 e3 =
    let new1 : f2 ≡ record f { blocks = cut_at a n (suc i) (insert_after a (record { number = n; params = ps; lines = [] }) f.blocks) } =
    e2 ∙ (ap (λ (k : ℕ). record f1 { blocks = cut_at a n k f1.blocks }) e ∙ ap (λ (z : Function). record z { blocks = cut_at a n (suc i) z.blocks }) e1) in
    let left : f3 ≡ record f2 { blocks = at_block a without_last f2.blocks } = left_function a l f2 f3 e3 in (
      left ∙ (ap (λ (z : Function). record z { blocks = at_block a without_last z.blocks }) new1 ∙ ap (λ bs. record f { blocks = bs }) (taken_is a n ps f.blocks there differ fresh i h)),
      call_is a n ps f.blocks there differ fresh i l f3.blocks h (sym (ap (λ (z : Function). z.blocks) new1) ∙ ap (λ (z : Function). z.blocks) e3),
    )

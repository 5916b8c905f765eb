-- How many blocks and lines a body has at a `try_call`, under which numbers, and what it defines.
use Rattle.std.proofs.Common.{◌≡◌, ℕ, suc, ◌+◌, inl, inr, List, [], ◌∷◌, ◌++◌, map, length, get_or, slice_set, Bool, true, false, refl, sym, ap, ap₂, ◌∙◌, subst, arith, append_assoc, length-append}
use Rattle.std.specs.Prelude.{if◌then◌else◌}
use Rattle.std.proofs.lemmas.List.{map-append}
use Rattle.ir_core.specs.Module.{Instruction, Plain, Branches, SequencePoint, Return, Call, ReturnCall, TryCall, Line, Block}
use Rattle.ir_core.specs.Lists.{In, Different}
use Rattle.ir_core.specs.Lookup.{block_numbers, definitions, line_definitions}
use Rattle.ir_core.specs.Sound.{instruction_count}
use Rattle.ir_core.specs.Edits.{lines_of, block_at}
use Rattle.ir_core.proofs.Members.{in_left, in_right, in_cases, different_join, different_left, different_right, different_apart}
use Rattle.ir_core.proofs.Splitting.{count_join, definitions_join}
use Rattle.ir_core.proofs.ByNumber.{numbers_join}
use Rattle.ir_semantics.specs.Splice.{Fragment}
use Rattle.inline_body.specs.declared.names.Names.{Names}
use Rattle.inline_body.specs.Results.{with_values}
use Rattle.inline_ends.specs.Ending.{numbered}
use Rattle.inline_ends.specs.Tried.{OuterTry, is_plain_call, plain_calls, plain_calls_in, numbered_with_calls, tried_line, with_line, tried_lines, tried_block, tried_blocks}

-- ---- numbers

pub numbered_join : (n m : ℕ) (xs ys : List Block) → m ≡ n + length xs → numbered n (xs ++ ys) ≡ numbered n xs ++ numbered m ys
numbered_join n m [] ys e = ap (λ (z : ℕ). numbered z ys) (omega (arith, e))
numbered_join n m (x ∷ xs) ys e = ap (λ (z : List ℕ). n ∷ z) (numbered_join (n + 1) m xs ys (omega (arith, e)))

pub calls_length : (n : ℕ) (bs : List Block) → length (numbered_with_calls n bs) ≡ length bs
calls_length n [] = refl
calls_length n (b ∷ bs) = ap suc (calls_length (n + plain_calls b.lines + 1) bs)

pub next_written : (t ks : List ℕ) (k j n v h m : ℕ) (rest : List ℕ) (bs : List Block) (all : List ℕ) → ks ≡ k ∷ rest → j ≡ k → v ≡ n → h ≡ plain_calls (lines_of k bs) → m ≡ n + h + 1 → with_values t ks (numbered_with_calls n (map (block_at bs) ks)) ≡ all → with_values (slice_set t j v) rest (numbered_with_calls m (map (block_at bs) rest)) ≡ all
next_written t ks k j n v h m rest bs all e g u q w i =
    ap (λ (x : ℕ). with_values (slice_set t j x) rest (numbered_with_calls m (map (block_at bs) rest))) u
    ∙ (ap₂ (λ (x y : ℕ). with_values (slice_set t x n) rest (numbered_with_calls y (map (block_at bs) rest))) g (w ∙ ap (λ (z : ℕ). n + z + 1) q)
    ∙ (sym (ap (λ (z : List ℕ). with_values t z (numbered_with_calls n (map (block_at bs) z))) e) ∙ i))

module _ (n : Names) (s : OuterTry) where
  abbrev pub rest_of : ℕ → List Line → Bool → Fragment
  rest_of next ls c = tried_lines n s (if c then next + 1 else next) ls

  abbrev pub made_of : ℕ → Line → List Line → Bool → Fragment
  made_of next l ls c = with_line n next l (tried_line n s next l l.inst) c (rest_of next ls c)

  -- the blocks behind a block's calls
  more_are : (next : ℕ) (ls : List Line) → (block_numbers (tried_lines n s next ls).more ≡ numbered next (tried_lines n s next ls).more) × (length (tried_lines n s next ls).more ≡ plain_calls ls)
  more_are next [] = (refl, refl)
  more_are next (l ∷ ls) = go (is_plain_call l.inst) (more_are (next + 1) ls) (more_are next ls)
    where
      go : (c : Bool) → (block_numbers (rest_of next ls true).more ≡ numbered (next + 1) (rest_of next ls true).more) × (length (rest_of next ls true).more ≡ plain_calls ls) → (block_numbers (rest_of next ls false).more ≡ numbered next (rest_of next ls false).more) × (length (rest_of next ls false).more ≡ plain_calls ls) → (block_numbers (made_of next l ls c).more ≡ numbered next (made_of next l ls c).more) × (length (made_of next l ls c).more ≡ (if c then 1 else 0) + plain_calls ls)
      go true h k = (ap (λ (z : List ℕ). next ∷ z) h.0, let e = h.1 in omega (arith, e))
      go false h k = (k.0, let e = k.1 in omega (arith, e))

  pub tried_length : (bs : List Block) → length (tried_blocks n s bs) ≡ length bs + plain_calls_in bs
  tried_length [] = refl
  tried_length (b ∷ bs) =
      let a = length-append (tried_block n s b) (tried_blocks n s bs) in
      let c = (more_are (get_or n.blocks b.number 0 + 1) b.lines).1 in
      let d = tried_length bs in
      omega (arith, a, c, d)

  pub tried_numbers : (first : ℕ) (bs : List Block) → map (λ b. get_or n.blocks b 0) (block_numbers bs) ≡ numbered_with_calls first bs → block_numbers (tried_blocks n s bs) ≡ numbered first (tried_blocks n s bs)
  tried_numbers first [] e = refl
  tried_numbers first (b ∷ bs) e =
      let k : get_or n.blocks b.number 0 ≡ first = cc in
      let r : map (λ b. get_or n.blocks b 0) (block_numbers bs) ≡ numbered_with_calls (first + plain_calls b.lines + 1) bs = cc in
      let m = more_are (get_or n.blocks b.number 0 + 1) b.lines in
      let count = m.1 in
      let here : block_numbers (tried_block n s b) ≡ numbered first (tried_block n s b) = ap₂ (λ (x : ℕ) (y : List ℕ). x ∷ y) k (m.0 ∙ ap (λ (z : ℕ). numbered (z + 1) (tried_lines n s (get_or n.blocks b.number 0 + 1) b.lines).more) k) in
      numbers_join (tried_block n s b) (tried_blocks n s bs)
      ∙ (ap₂ (λ (x y : List ℕ). x ++ y) here (tried_numbers (first + plain_calls b.lines + 1) bs r)
      ∙ sym (numbered_join first (first + plain_calls b.lines + 1) (tried_block n s b) (tried_blocks n s bs) (omega (arith, count))))

  -- ---- lines

  line_count : (next : ℕ) (ls : List Line) → length (tried_lines n s next ls).lines + instruction_count (tried_lines n s next ls).more ≡ length ls
  line_count next [] = refl
  line_count next (l ∷ ls) = go (is_plain_call l.inst) (line_count (next + 1) ls) (line_count next ls)
    where
      go : (c : Bool) → length (rest_of next ls true).lines + instruction_count (rest_of next ls true).more ≡ length ls → length (rest_of next ls false).lines + instruction_count (rest_of next ls false).more ≡ length ls → length (made_of next l ls c).lines + instruction_count (made_of next l ls c).more ≡ suc (length ls)
      go true h k = omega (arith, h)
      go false h k = omega (arith, k)

  pub tried_count : (bs : List Block) → instruction_count (tried_blocks n s bs) ≡ instruction_count bs
  tried_count [] = refl
  tried_count (b ∷ bs) =
      let a = count_join (tried_block n s b) (tried_blocks n s bs) in
      let c = line_count (get_or n.blocks b.number 0 + 1) b.lines in
      let d = tried_count bs in
      omega (arith, a, c, d)

-- ---- what is defined: some of the callee's values

-- what is in xs is in ys, and xs are different where ys are
pub record Some_of (xs ys : List ℕ) : Type 0 where
  pub inside : (v : ℕ) → In v xs → In v ys
  pub differ : Different ys → Different xs

pub all_of_them : (xs : List ℕ) → Some_of xs xs
all_of_them xs = record { inside = λ v i. i; differ = λ d. d }

none_of : (ys : List ℕ) → Some_of [] ys
none_of ys = record { inside = λ v i. elim i [ ]; differ = λ d. tt }

some_join : (xs ys xs' ys' : List ℕ) → Some_of xs ys → Some_of xs' ys' → Some_of (xs ++ xs') (ys ++ ys')
some_join xs ys xs' ys' a b =
    record {
      inside = λ v i. elim (in_cases v xs xs' i) [ inl q ↦ in_left v ys ys' (a.inside v q) | inr q ↦ in_right v ys ys' (b.inside v q) ];
      differ = λ d. different_join xs xs' (a.differ (different_left ys ys' d)) (b.differ (different_right ys ys' d)) (λ v i j. different_apart ys ys' v d (a.inside v i) (b.inside v j));
    }

module _ (n : Names) (s : OuterTry) where
  abbrev up : List ℕ → List ℕ
  up vs = map (λ v. n.values + v) vs

  -- a line that is no plain call defines its results, or nothing; a plain call's stand in the next block
  line_defines : (next : ℕ) (l : Line) (i : Instruction) → is_plain_call i ≡ false → Some_of (tried_line n s next l i).results (up l.results)
  line_defines next l (Plain p) e = all_of_them (up l.results)
  line_defines next l (Branches b) e = all_of_them (up l.results)
  line_defines next l SequencePoint e = all_of_them (up l.results)
  line_defines next l (Return vs) e = none_of (up l.results)
  line_defines next l (Call t args) e = absurd (let q : true ≡ false = e in cc)
  line_defines next l (ReturnCall t args) e = none_of (up l.results)
  line_defines next l (TryCall t sig args normal table) e = none_of (up l.results)

  call_defines : (next : ℕ) (l : Line) (i : Instruction) → is_plain_call i ≡ true → (tried_line n s next l i).results ≡ []
  call_defines next l (Plain p) e = absurd (let q : false ≡ true = e in cc)
  call_defines next l (Branches b) e = absurd (let q : false ≡ true = e in cc)
  call_defines next l SequencePoint e = absurd (let q : false ≡ true = e in cc)
  call_defines next l (Return vs) e = absurd (let q : false ≡ true = e in cc)
  call_defines next l (Call t args) e = refl
  call_defines next l (ReturnCall t args) e = absurd (let q : false ≡ true = e in cc)
  call_defines next l (TryCall t sig args normal table) e = absurd (let q : false ≡ true = e in cc)

  abbrev defined : Fragment → List ℕ
  defined r = line_definitions r.lines ++ definitions r.more

  lines_define : (next : ℕ) (ls : List Line) → Some_of (defined (tried_lines n s next ls)) (up (line_definitions ls))
  lines_define next [] = all_of_them []
  lines_define next (l ∷ ls) = subst (Some_of (defined (tried_lines n s next (l ∷ ls)))) (sym (map-append (λ v. n.values + v) l.results (line_definitions ls))) (go (is_plain_call l.inst) refl (lines_define (next + 1) ls) (lines_define next ls))
    where
      go : (c : Bool) → is_plain_call l.inst ≡ c → Some_of (defined (rest_of n s next ls true)) (up (line_definitions ls)) → Some_of (defined (rest_of n s next ls false)) (up (line_definitions ls)) → Some_of (defined (made_of n s next l ls c)) (up l.results ++ up (line_definitions ls))
      go true e h k =
          let none = call_defines next l l.inst e in
          let shape : defined (made_of n s next l ls true) ≡ up l.results ++ defined (rest_of n s next ls true) = ap (λ (z : List ℕ). (z ++ []) ++ (up l.results ++ defined (rest_of n s next ls true))) none in
          subst (λ (z : List ℕ). Some_of z (up l.results ++ up (line_definitions ls))) (sym shape) (some_join (up l.results) (up l.results) (defined (rest_of n s next ls true)) (up (line_definitions ls)) (all_of_them (up l.results)) h)
      go false e h k =
          let shape : defined (made_of n s next l ls false) ≡ (tried_line n s next l l.inst).results ++ defined (rest_of n s next ls false) = append_assoc (tried_line n s next l l.inst).results (line_definitions (rest_of n s next ls false).lines) (definitions (rest_of n s next ls false).more) in
          subst (λ (z : List ℕ). Some_of z (up l.results ++ up (line_definitions ls))) (sym shape) (some_join (tried_line n s next l l.inst).results (up l.results) (defined (rest_of n s next ls false)) (up (line_definitions ls)) (line_defines next l l.inst e) k)

  pub tried_define : (bs : List Block) → Some_of (definitions (tried_blocks n s bs)) (map (λ v. n.values + v) (definitions bs))
  tried_define [] = all_of_them []
  tried_define (b ∷ bs) =
      let fr = tried_lines n s (get_or n.blocks b.number 0 + 1) b.lines in
      let here : definitions (tried_block n s b) ≡ up b.params ++ defined fr = refl in
      let now : definitions (tried_blocks n s (b ∷ bs)) ≡ (up b.params ++ defined fr) ++ definitions (tried_blocks n s bs) = definitions_join (tried_block n s b) (tried_blocks n s bs) in
      let was : (up b.params ++ up (line_definitions b.lines)) ++ up (definitions bs) ≡ up (b.params ++ (line_definitions b.lines ++ definitions bs)) =
      append_assoc (up b.params) (up (line_definitions b.lines)) (up (definitions bs)) ∙ (ap (λ (z : List ℕ). up b.params ++ z) (sym (map-append (λ v. n.values + v) (line_definitions b.lines) (definitions bs))) ∙ sym (map-append (λ v. n.values + v) b.params (line_definitions b.lines ++ definitions bs))) in
      subst (Some_of (definitions (tried_blocks n s (b ∷ bs)))) was
      (subst (λ (z : List ℕ). Some_of z ((up b.params ++ up (line_definitions b.lines)) ++ up (definitions bs))) (sym now)
      (some_join (up b.params ++ defined fr) (up b.params ++ up (line_definitions b.lines)) (definitions (tried_blocks n s bs)) (up (definitions bs))
      (some_join (up b.params) (up b.params) (defined fr) (up (line_definitions b.lines)) (all_of_them (up b.params)) (lines_define (get_or n.blocks b.number 0 + 1) b.lines))
      (tried_define bs)))

-- From the numbers of the definition to any others.
use Rattle.std.proofs.Common.{◌≡◌, ◌≢◌, ℕ, zero, suc, ◌+◌, ◌*◌, List, [], ◌∷◌, map, length, refl, ap, ap₂, ◌∙◌, arith}
use Rattle.std.specs.Prelude.{slice_get}
use Rattle.ir_core.specs.declared.signatures.Sig.{Sig}
use Rattle.ir_core.specs.declared.declarations.Callee.{Callee}
use Rattle.ir_core.specs.declared.declarations.SlotDecl.{SlotDecl}
use Rattle.ir_core.specs.Module.{Block, Function}
use Rattle.ir_core.specs.Signatures.{same_sig}
use Rattle.ir_core.specs.WellFormed.{WellFormed}
use Rattle.ir_semantics.specs.Renaming.{Renaming, block_under}
use Rattle.ir_semantics.specs.Import.{with_items, new_place, same_callee, sigs_after, sig_after, callees_with, callees_after, callee_after}
use Rattle.ir_semantics.specs.Splice.{Naming, sides, pair, triangle, first_number}
use Rattle.inline_numbering.specs.Renamed.{Renamed}
use Rattle.inline_numbering.specs.Carried.{Carries}

-- the side of a name, and its old name
data Side : Type 0 where
  Of_f : ℕ → Side
  Of_g : ℕ → Side
  New : ℕ → Side

up : Side → Side
up (Of_f v) = Of_f (suc v)
up (Of_g v) = Of_g (suc v)
up (New v) = New (suc v)

side : ℕ → Side
side zero = Of_f 0
side (suc zero) = Of_g 0
side (suc (suc zero)) = New 0
side (suc (suc (suc x))) = up (side x)

side_f : (v x : ℕ) → x ≡ 3 * v → side x ≡ Of_f v
unfolding side up
side_f zero zero e = refl
side_f zero (suc x) e = absurd (omega (arith, e))
side_f (suc v) zero e = absurd (omega (arith, e))
side_f (suc v) (suc zero) e = absurd (omega (arith, e))
side_f (suc v) (suc (suc zero)) e = absurd (omega (arith, e))
side_f (suc v) (suc (suc (suc x))) e = ap up (side_f v x (omega (arith, e)))

side_g : (v x : ℕ) → x ≡ 3 * v + 1 → side x ≡ Of_g v
unfolding side up
side_g zero zero e = absurd (omega (arith, e))
side_g zero (suc zero) e = refl
side_g zero (suc (suc x)) e = absurd (omega (arith, e))
side_g (suc v) zero e = absurd (omega (arith, e))
side_g (suc v) (suc zero) e = absurd (omega (arith, e))
side_g (suc v) (suc (suc zero)) e = absurd (omega (arith, e))
side_g (suc v) (suc (suc (suc x))) e = ap up (side_g v x (omega (arith, e)))

side_n : (v x : ℕ) → x ≡ 3 * v + 2 → side x ≡ New v
unfolding side up
side_n zero zero e = absurd (omega (arith, e))
side_n zero (suc zero) e = absurd (omega (arith, e))
side_n zero (suc (suc zero)) e = refl
side_n zero (suc (suc (suc x))) e = absurd (omega (arith, e))
side_n (suc v) zero e = absurd (omega (arith, e))
side_n (suc v) (suc zero) e = absurd (omega (arith, e))
side_n (suc v) (suc (suc zero)) e = absurd (omega (arith, e))
side_n (suc v) (suc (suc (suc x))) e = ap up (side_n v x (omega (arith, e)))

-- the pairs one after another
after_pair : ℕ × ℕ → ℕ × ℕ
after_pair (zero, j) = (suc j, 0)
after_pair (suc c, j) = (c, suc j)

unpair : ℕ → ℕ × ℕ
unpair zero = (0, 0)
unpair (suc x) = after_pair (unpair x)

next_in_row : (c j : ℕ) → pair c (suc j) ≡ suc (pair (suc c) j)
next_in_row c j = ap (λ s. triangle s + suc j) (shift c j) ∙ omega arith
  where
    shift : (c j : ℕ) → c + suc j ≡ suc c + j
    shift c j = omega arith

next_row : (c : ℕ) → pair (suc c) 0 ≡ suc (pair 0 c)
next_row c = ap (λ s. triangle s + 0) (plus c) ∙ (omega arith ∙ ap (λ s. suc (triangle s + c)) (nought c))
  where
    plus : (c : ℕ) → suc c + 0 ≡ suc c
    plus c = omega arith

    nought : (c : ℕ) → c ≡ 0 + c
    nought c = omega arith

unpair_row : (s j c : ℕ) → c + j ≡ s → unpair (pair c j) ≡ (c, j)
unfolding unpair after_pair
unpair_row s (suc j) c e = ap unpair (next_in_row c j) ∙ ap after_pair (unpair_row s j (suc c) (omega (arith, e)))
unpair_row zero zero zero e = refl
unpair_row zero zero (suc c) e = absurd (omega (arith, e))
unpair_row (suc s) zero zero e = absurd (omega (arith, e))
unpair_row (suc s) zero (suc c) e = ap unpair (next_row c) ∙ ap after_pair (unpair_row s c 0 (omega (arith, e)))

unpair_pair : (c j : ℕ) → unpair (pair c j) ≡ (c, j)
unpair_pair c j = unpair_row (c + j) j c refl

value_by : Renaming → Renaming → Naming → Side → ℕ
value_by r s m (Of_f v) = m.caller_value (r.value v)
value_by r s m (Of_g v) = m.callee_value (s.value v)
value_by r s m (New p) = m.new_value (s.block (unpair p).0) (unpair p).1

block_by : Renaming → Renaming → Naming → Side → ℕ
block_by r s m (Of_f b) = m.caller_block (r.block b)
block_by r s m (Of_g b) = m.callee_block (s.block b)
block_by r s m (New zero) = m.after
block_by r s m (New (suc p)) = m.new_block (s.block (unpair p).0) (unpair p).1

-- the new numbers of a splice, of the caller under r, of the callee under s
pub joined : Renaming → Renaming → Naming → Renaming
joined r s m = record { value = λ v. value_by r s m (side v); block = λ b. block_by r s m (side b); slot = λ k. k; sig = λ k. k; callee = λ k. k }

-- ---- declarations

sigs_same : (b c g h : Function) → c.sigs ≡ b.sigs → h.sigs ≡ g.sigs → (x : ℕ) → sig_after c h x ≡ sig_after b g x
sigs_same b c g h e f x = ap₂ (λ (us vs : List Sig). new_place same_sig (with_items same_sig us vs) (slice_get vs x)) e f

pub all_sigs : (b c g h : Function) → c.sigs ≡ b.sigs → h.sigs ≡ g.sigs → sigs_after c h ≡ sigs_after b g
all_sigs b c g h e f = ap₂ (with_items same_sig) e f

withs_same : (b c g h : Function) → ((x : ℕ) → sig_after c h x ≡ sig_after b g x) → (ks : List Callee) → callees_with c h ks ≡ callees_with b g ks
withs_same b c g h e [] = refl
withs_same b c g h e (k ∷ ks) = ap₂ (λ (x : ℕ) (xs : List Callee). record { name = k.name; colocated = k.colocated; sig = x } ∷ xs) (e k.sig) (withs_same b c g h e ks)

withs_all : (b c g h : Function) → c.sigs ≡ b.sigs → h.sigs ≡ g.sigs → h.callees ≡ g.callees → callees_with c h h.callees ≡ callees_with b g g.callees
withs_all b c g h e f k = withs_same b c g h (sigs_same b c g h e f) h.callees ∙ ap (callees_with b g) k

callees_same : (b c g h : Function) → c.sigs ≡ b.sigs → h.sigs ≡ g.sigs → c.callees ≡ b.callees → h.callees ≡ g.callees → callees_after c h ≡ callees_after b g
callees_same b c g h e f k l =
    ap (λ (z : List Sig). with_items (same_callee z) c.callees (callees_with c h h.callees)) (all_sigs b c g h e f) ∙ ap₂ (with_items (same_callee (sigs_after b g))) k (withs_all b c g h e f l)

callee_same : (b c g h : Function) → c.sigs ≡ b.sigs → h.sigs ≡ g.sigs → c.callees ≡ b.callees → h.callees ≡ g.callees → (x : ℕ) → callee_after c h x ≡ callee_after b g x
callee_same b c g h e f k l x =
    ap (λ (z : List Sig). new_place (same_callee z) (callees_after c h) (slice_get (callees_with c h h.callees) x)) (all_sigs b c g h e f)
    ∙ ap₂ (λ (us vs : List Callee). new_place (same_callee (sigs_after b g)) us (slice_get vs x)) (callees_same b c g h e f k l) (withs_all b c g h e f l)

first_same : (s : Renaming) (bs : List Block) → bs ≢ [] → first_number (map (block_under s) bs) ≡ s.block (first_number bs)
first_same s [] h = absurd (h refl)
first_same s (b ∷ bs) h = refl

pub sides_carry : (r s : Renaming) (m : Naming) (b c g h : Function) → Renamed r b c → Renamed s g h → WellFormed g → Carries (joined r s m) r s sides m b c g h
unfolding joined value_by block_by
sides_carry r s m b c g h e f w =
    record {
      caller_value = λ v. ap (value_by r s m) (side_f v (3 * v) refl);
      callee_value = λ v. ap (value_by r s m) (side_g v (3 * v + 1) refl);
      caller_block = λ x. ap (block_by r s m) (side_f x (3 * x) refl);
      callee_block = λ x. ap (block_by r s m) (side_g x (3 * x + 1) refl);
      after = ap (block_by r s m) (side_n 0 2 (omega arith));
      new_value = λ x i. ap (value_by r s m) (side_n (pair x i) (3 * pair x i + 2) refl) ∙ ap (λ (p : ℕ × ℕ). m.new_value (s.block p.0) p.1) (unpair_pair x i);
      new_block = λ x j. ap (block_by r s m) (side_n (suc (pair x j)) (3 * pair x j + 5) (omega arith)) ∙ ap (λ (p : ℕ × ℕ). m.new_block (s.block p.0) p.1) (unpair_pair x j);
      slot = λ k. refl;
      sig = λ k. refl;
      callee = λ k. refl;
      caller_slot = e.slot;
      caller_sig = e.signature;
      caller_callee = e.callee;
      callee_slot = f.slot;
      callee_sig = f.signature;
      callee_callee = f.callee;
      slots = λ x. ap (λ (z : List SlotDecl). length z + x) e.slots;
      sigs = sigs_same b c g h e.sigs f.sigs;
      callees = callee_same b c g h e.sigs f.sigs e.callees f.callees;
      all_callees = callees_same b c g h e.sigs f.sigs e.callees f.callees;
      callee_blocks = f.blocks;
      first = ap first_number f.blocks ∙ first_same s g.blocks w.begins;
    }

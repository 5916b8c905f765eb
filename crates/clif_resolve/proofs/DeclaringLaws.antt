-- Declarations, one more after the other.
use Rattle.std.proofs.Common.{◌≡◌, ℕ, suc, ◌+◌, ◌<◌, ◌≤◌, List, [], ◌∷◌, ◌++◌, length, map, take, drop, get_or, Option, refl, sym, ap, ◌∙◌, arith, length-append}
use Rattle.std.specs.Prelude.{flat_map}
use Rattle.std.proofs.Math.Nat.{zero-add}
use Rattle.std.proofs.lemmas.Grind.{flat_map-append}
use Rattle.std.proofs.lemmas.List.{take_more, take-append-drop, map-append}
use Rattle.ir_core.specs.declared.signatures.Sig.{Sig}
use Rattle.ir_core.specs.Size.{total}
use Rattle.token_reader.specs.declared.raw.RawName.{RawName}
use Rattle.clif_read.specs.declared.raw.RawCalleeSig.TheVariants as callee_sig
use Rattle.clif_read.specs.declared.raw.RawDecl.{RawDecl}
use Rattle.clif_read.specs.declared.raw.RawDecl.TheVariants as decl
use Rattle.clif_names.specs.Sizes.{decl_size}
use Rattle.clif_meaning.specs.Meaning.{callees_from, decl_sigs, decl_slots, name_of}
use Rattle.clif_resolve.specs.Parts.{own_sigs}
use Rattle.clif_lines.specs.WordNumbers.{own_sig_numbers, sig_numbers}

numbers_push : (k : ℕ) (xs : List RawDecl) (d : RawDecl) → sig_numbers k (xs ++ d ∷ []) ≡ sig_numbers k xs ++ own_sig_numbers (k + length (flat_map own_sigs xs)) d
numbers_push k [] (decl.Slot n size align) = refl
numbers_push k [] (decl.Sig n signature) = ap (λ m. m ∷ []) (omega arith)
numbers_push k [] (decl.Callee colocated n (callee_sig.Declared s) name) = refl
numbers_push k [] (decl.Callee colocated n (callee_sig.Inline signature) name) = refl
numbers_push k (decl.Slot n size align ∷ xs) d = numbers_push k xs d
numbers_push k (decl.Sig n signature ∷ xs) d =
    ap (λ ns. k ∷ ns) (numbers_push (suc k) xs d ∙ ap (λ m. sig_numbers (suc k) xs ++ own_sig_numbers m d) (omega arith))
numbers_push k (decl.Callee colocated n (callee_sig.Declared s) name ∷ xs) d = numbers_push k xs d
numbers_push k (decl.Callee colocated n (callee_sig.Inline signature) name ∷ xs) d =
    numbers_push (suc k) xs d ∙ ap (λ m. sig_numbers (suc k) xs ++ own_sig_numbers m d) (omega arith)

callees_push : (sig : ℕ → ℕ) (k : ℕ) (xs : List RawDecl) (d : RawDecl)
    → callees_from sig k (xs ++ d ∷ []) ≡ callees_from sig k xs ++ callees_from sig (k + length (flat_map decl_sigs xs)) (d ∷ [])
callees_push sig k [] d = ap (λ m. callees_from sig m (d ∷ [])) (omega arith)
callees_push sig k (decl.Slot n size align ∷ xs) d = callees_push sig k xs d
callees_push sig k (decl.Sig n signature ∷ xs) d =
    callees_push sig (suc k) xs d ∙ ap (λ m. callees_from sig (suc k) xs ++ callees_from sig m (d ∷ [])) (omega arith)
callees_push sig k (decl.Callee colocated n (callee_sig.Declared s) name ∷ xs) d =
    ap (λ cs. record { name = name_of name; colocated = colocated; sig = sig s.number } ∷ cs) (callees_push sig k xs d)
callees_push sig k (decl.Callee colocated n (callee_sig.Inline signature) name ∷ xs) d =
    ap (λ cs. record { name = name_of name; colocated = colocated; sig = k } ∷ cs)
    (callees_push sig (suc k) xs d
    ∙ ap (λ m. callees_from sig (suc k) xs ++ callees_from sig m (d ∷ [])) (let e : suc k + length (flat_map decl_sigs xs) ≡ k + suc (length (flat_map decl_sigs xs)) = omega arith in e))

pub numbers_more : (ds : List RawDecl) (i : ℕ) (d : RawDecl) → i < length ds → d ≡ get_or ds i d
    → sig_numbers 0 (take (i + 1) ds) ≡ sig_numbers 0 (take i ds) ++ own_sig_numbers (length (flat_map own_sigs (take i ds))) d
numbers_more ds i d lt is =
    rw (take_more ds i d lt, ← is)
    (numbers_push 0 (take i ds) d ∙ ap (λ n. sig_numbers 0 (take i ds) ++ own_sig_numbers n d) (zero-add (length (flat_map own_sigs (take i ds)))))

pub callees_more : (sig : ℕ → ℕ) (ds : List RawDecl) (i : ℕ) (d : RawDecl) → i < length ds → d ≡ get_or ds i d
    → callees_from sig 0 (take (i + 1) ds) ≡ callees_from sig 0 (take i ds) ++ callees_from sig (length (flat_map decl_sigs (take i ds))) (d ∷ [])
callees_more sig ds i d lt is =
    rw (take_more ds i d lt, ← is)
    (callees_push sig 0 (take i ds) d ∙ ap (λ n. callees_from sig 0 (take i ds) ++ callees_from sig n (d ∷ [])) (zero-add (length (flat_map decl_sigs (take i ds)))))

pub part_short : {A B : Type 0} (g : A → List B) (xs : List A) (i : ℕ) → length (flat_map g (take i xs)) ≤ length (flat_map g xs)
part_short g xs i =
    let a = ap (λ ys. length (flat_map g ys)) (take-append-drop i xs) in
    let b = ap length (flat_map-append g (take i xs) (drop i xs)) in
    let c = length-append (flat_map g (take i xs)) (flat_map g (drop i xs)) in
    omega (arith, a, b, c)

-- ---- the signatures, and how many declarations there are

pub sigs_whole : (ds : List RawDecl) → flat_map own_sigs ds ≡ map (λ s. s.1) (flat_map decl_sigs ds)
sigs_whole [] = refl
sigs_whole (d ∷ ds) = ap (λ gs. own_sigs d ++ gs) (sigs_whole ds) ∙ sym (map-append (λ (s : Option RawName × Sig). s.1) (decl_sigs d) (flat_map decl_sigs ds))

pub slots_count : (ds : List RawDecl) → length (flat_map decl_slots ds) ≤ total decl_size ds
slots_count [] = omega arith
slots_count (decl.Slot n size align ∷ ds) = let a = slots_count ds in omega (arith, a)
slots_count (decl.Sig n signature ∷ ds) = let a = slots_count ds in omega (arith, a)
slots_count (decl.Callee colocated n sig name ∷ ds) = let a = slots_count ds in omega (arith, a)

pub sigs_count : (ds : List RawDecl) → length (flat_map decl_sigs ds) ≤ total decl_size ds
sigs_count [] = omega arith
sigs_count (decl.Slot n size align ∷ ds) = let a = sigs_count ds in omega (arith, a)
sigs_count (decl.Sig n signature ∷ ds) = let a = sigs_count ds in omega (arith, a)
sigs_count (decl.Callee colocated n (callee_sig.Declared s) name ∷ ds) = let a = sigs_count ds in omega (arith, a)
sigs_count (decl.Callee colocated n (callee_sig.Inline signature) name ∷ ds) = let a = sigs_count ds in omega (arith, a)

pub callees_count : (sig : ℕ → ℕ) (k : ℕ) (ds : List RawDecl) → length (callees_from sig k ds) ≤ total decl_size ds
callees_count sig k [] = omega arith
callees_count sig k (decl.Slot n size align ∷ ds) = let a = callees_count sig k ds in omega (arith, a)
callees_count sig k (decl.Sig n signature ∷ ds) = let a = callees_count sig (suc k) ds in omega (arith, a)
callees_count sig k (decl.Callee colocated n (callee_sig.Declared s) name ∷ ds) = let a = callees_count sig k ds in omega (arith, a)
callees_count sig k (decl.Callee colocated n (callee_sig.Inline signature) name ∷ ds) = let a = callees_count sig (suc k) ds in omega (arith, a)

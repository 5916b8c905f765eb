-- Tables of signatures by an index that grows, and what they tell.
use Rattle.std.proofs.Common.{inl, inr, ◌≡◌, ℕ, zero, suc, ◌+◌, ◌<◌, List, [], ◌∷◌, ◌++◌, map, length, take, Bool, true, false, Option, Some, None, refl, sym, ap, ap₂, ◌∙◌, subst, arith, eq-eqb, ne_eqb, get_or}
use Rattle.std.specs.Prelude.{◌≤◌, slice_get, nat_eq, if◌then◌else◌}
use Rattle.std.proofs.lemmas.Bool.{cases_eq}
use Rattle.std.proofs.lemmas.List.{take_more, map_push, length-map}
use Rattle.std.proofs.lemmas.Option.{same_Some, slice_get_read}
use Rattle.ir_core.specs.declared.signatures.Sig.{Sig}
use Rattle.ir_core.specs.Module.{Function, Module}
use Rattle.ir_core.specs.Lookup.{same_bytes}
use Rattle.ir_core.specs.Signatures.{same_sig}
use Rattle.ir_core.proofs.Equal.{sig_equal, sig_same, bytes_same}
use Rattle.body_import.specs.SigKeys.{sig_key}
use Rattle.body_import.proofs.SigsDecided.{sigs_decide}
use Rattle.sig_numbers.specs.declared.index.SigIndex.{SigIndex}
use Rattle.sig_numbers.specs.declared.tables.SigEntry.{SigEntry}
use Rattle.sig_numbers.specs.declared.tables.SigTable.{SigTable}
use Rattle.sig_numbers.specs.Index.{IsIndex, Keeps, number_of}
use Rattle.sig_numbers.specs.Tables.{return_alike, Tells, numbers_in, flags_in, AreEntries, IsTable, Entered, AreTables}

-- ---- an index that grows

pub numbers_kept : (i j : SigIndex) → Keeps i j → (sigs : List Sig) (ns : List ℕ) → map Some ns ≡ map (number_of i) sigs → map Some ns ≡ map (number_of j) sigs
numbers_kept i j keeps [] [] e = refl
numbers_kept i j keeps [] (n ∷ ns) e = cc
numbers_kept i j keeps (s ∷ sigs) [] e = cc
numbers_kept i j keeps (s ∷ sigs) (n ∷ ns) e =
    let head : Some n ≡ number_of i s = cc in
    let tail : map Some ns ≡ map (number_of i) sigs = cc in
    ap₂ (λ (o : Option ℕ) (os : List (Option ℕ)). o ∷ os) (sym (keeps (sig_key s) n (sym head))) (numbers_kept i j keeps sigs ns tail)

pub numbers_more : (i j : SigIndex) → Keeps i j → (sigs : List Sig) (ns ns' : List ℕ) (k n : ℕ) (s : Sig) → map Some ns ≡ map (number_of i) (take k sigs) → ns' ≡ ns ++ n ∷ [] → k < length sigs → s ≡ get_or sigs k s → number_of j s ≡ Some n → map Some ns' ≡ map (number_of j) (take (k + 1) sigs)
numbers_more i j keeps sigs ns ns' k n s e p low at number =
    ap (map Some) p
    ∙ (map_push Some ns n
    ∙ (ap₂ (λ (os : List (Option ℕ)) (o : Option ℕ). os ++ o ∷ []) (numbers_kept i j keeps (take k sigs) ns e) (sym number ∙ ap (number_of j) at)
    ∙ (sym (map_push (number_of j) (take k sigs) (get_or sigs k s)) ∙ ap (map (number_of j)) (sym (take_more sigs k s low)))))

-- the same of entries, and their flags
pub entries_more : (i j : SigIndex) → Keeps i j → (sigs : List Sig) (es es' : List SigEntry) (k : ℕ) (e : SigEntry) (s : Sig) → map Some (numbers_in es) ≡ map (number_of i) (take k sigs) → es' ≡ es ++ e ∷ [] → k < length sigs → s ≡ get_or sigs k s → number_of j s ≡ Some e.number
    → map Some (numbers_in es') ≡ map (number_of j) (take (k + 1) sigs)
entries_more i j keeps sigs es es' k e s is more low at number =
    numbers_more i j keeps sigs (numbers_in es) (numbers_in es') k e.number s is (ap numbers_in more ∙ map_push (λ (e : SigEntry). e.number) es e) low at number

pub flags_more : (f : Sig → Bool) (sigs : List Sig) (es es' : List SigEntry) (k : ℕ) (e : SigEntry) (s : Sig) → flags_in es ≡ map f (take k sigs) → es' ≡ es ++ e ∷ [] → k < length sigs → s ≡ get_or sigs k s → e.returns_alike ≡ f s
    → flags_in es' ≡ map f (take (k + 1) sigs)
flags_more f sigs es es' k e s is more low at flag =
    ap flags_in more
    ∙ (map_push (λ (e : SigEntry). e.returns_alike) es e
    ∙ (ap₂ (λ (bs : List Bool) (b : Bool). bs ++ b ∷ []) is (flag ∙ ap f at)
    ∙ (sym (map_push f (take k sigs) (get_or sigs k s)) ∙ ap (map f) (sym (take_more sigs k s low)))))

pub table_kept : (i j : SigIndex) → Keeps i j → (f : Function) (t : SigTable) → IsTable (number_of i) f t → IsTable (number_of j) f t
table_kept i j keeps f t h = record { own = keeps (sig_key f.sig) t.own h.own; entries = record { numbers = numbers_kept i j keeps f.sigs (numbers_in t.entries.items) h.entries.numbers; flags = h.entries.flags } }

-- the tables of the first functions of a module
abbrev pub Tabling : SigIndex → Module → List SigTable → Type 0
Tabling i m ts = (k : ℕ) (f : Function) (t : SigTable) → slice_get m k ≡ Some f → slice_get ts k ≡ Some t → IsTable (number_of i) f t

pub no_tables : (i : SigIndex) (m : Module) (ts : List SigTable) → ts ≡ [] → Tabling i m ts
no_tables i m ts e k f t a b = let z : None ≡ Some t = ap (λ (xs : List SigTable). slice_get xs k) (sym e) ∙ b in cc

pub tabling_more : (i j : SigIndex) → Keeps i j → (m : Module) (ts ts' : List SigTable) (n : ℕ) (g : Function) (u : SigTable) → length ts ≡ n → slice_get m n ≡ Some g → IsTable (number_of j) g u → ts' ≡ ts ++ u ∷ [] → Tabling i m ts → Tabling j m ts'
tabling_more i j keeps m ts ts' n g u count at h more old k f t a b = by ts m k n count at a (ap (λ (xs : List SigTable). slice_get xs k) (sym more) ∙ b) (λ p q. table_kept i j keeps f t (old k f t p q))
  where
    by : (ts : List SigTable) (m : Module) (k n : ℕ) → length ts ≡ n → slice_get m n ≡ Some g → slice_get m k ≡ Some f → slice_get (ts ++ u ∷ []) k ≡ Some t → (slice_get m k ≡ Some f → slice_get ts k ≡ Some t → IsTable (number_of j) f t) → IsTable (number_of j) f t
    by [] [] k n count at a b old = cc
    by [] (x ∷ m) zero n count at a b old =
        let e : g ≡ f = same_Some g f (sym at ∙ (ap (slice_get (x ∷ m)) (sym count) ∙ a)) in
        subst (λ (z : Function). IsTable (number_of j) z t) e (subst (λ (z : SigTable). IsTable (number_of j) g z) (same_Some u t b) h)
    by [] (x ∷ m) (suc k) n count at a b old = cc
    by (y ∷ ts) [] k n count at a b old = cc
    by (y ∷ ts) (x ∷ m) zero n count at a b old = old a b
    by (y ∷ ts) (x ∷ m) (suc k) zero count at a b old = absurd (omega (arith, count))
    by (y ∷ ts) (x ∷ m) (suc k) (suc n) count at a b old = by ts m k n (omega (arith, count)) at a b old

pub index_tells : (i : SigIndex) → IsIndex i → Tells (number_of i)
index_tells i h s t n p q = sigs_decide s t ∙ (ap (λ (k : List ℕ). same_bytes (sig_key s) k) (sym (h.apart (sig_key s) (sig_key t) n p q)) ∙ bytes_same (sig_key s))

-- ---- what the numbers tell

pub same_by_number : (number : Sig → Option ℕ) → Tells number → (s t : Sig) (a b : ℕ) → number s ≡ Some a → number t ≡ Some b → nat_eq a b ≡ same_sig s t
same_by_number number tells s t a b p q =
    elim (cases_eq a b) [
      | inl e ↦ eq-eqb a b e ∙ sym (tells s t a p (q ∙ ap Some (sym e)))
      | inr e ↦ ne_eqb a b e ∙ differ (same_sig s t) refl e
    ]
  where
    differ : (z : Bool) → same_sig s t ≡ z → (a ≡ b → ⊥) → false ≡ same_sig s t
    differ true h e = let r : Some a ≡ Some b = sym p ∙ (ap number (sig_equal s t h) ∙ q) in absurd (e cc)
    differ false h e = sym h

number_stands : (number : Sig → Option ℕ) (f : Function) (es : List SigEntry) → AreEntries number f es → (k : ℕ) (s : Sig) → slice_get f.sigs k ≡ Some s → (d : SigEntry) → number s ≡ Some (get_or es k d).number
number_stands number f es h k s at d = by f.sigs es k h.numbers at
  where
    by : (sigs : List Sig) (es : List SigEntry) (k : ℕ) → map Some (numbers_in es) ≡ map number sigs → slice_get sigs k ≡ Some s → number s ≡ Some (get_or es k d).number
    by [] es k e at = cc
    by (x ∷ sigs) [] k e at = cc
    by (x ∷ sigs) (n ∷ es) zero e at = let q : x ≡ s = cc in let r : Some n.number ≡ number x = cc in sym (r ∙ ap number q)
    by (x ∷ sigs) (n ∷ es) (suc k) e at = let r : map Some (numbers_in es) ≡ map number sigs = cc in by sigs es k r at

pub number_read : (number : Sig → Option ℕ) (f : Function) (es : List SigEntry) → AreEntries number f es → (k k' : ℕ) (d : SigEntry) (s : Sig) → slice_get f.sigs k ≡ Some s → k' ≡ k → number s ≡ Some (get_or es k' d).number
number_read number f es h k k' d s at same = number_stands number f es h k s at d ∙ ap (λ (z : ℕ). Some (get_or es z d).number) (sym same)

pub flag_read : (f : Sig → Bool) (sigs : List Sig) (es : List SigEntry) → flags_in es ≡ map f sigs → (k k' : ℕ) (d : SigEntry) (s : Sig) → slice_get sigs k ≡ Some s → k' ≡ k → (get_or es k' d).returns_alike ≡ f s
flag_read f sigs es is k k' d s at same = ap (λ (z : ℕ). (get_or es z d).returns_alike) same ∙ by sigs es k is at
  where
    by : (sigs : List Sig) (es : List SigEntry) (k : ℕ) → flags_in es ≡ map f sigs → slice_get sigs k ≡ Some s → (get_or es k d).returns_alike ≡ f s
    by [] es k is at = cc
    by (x ∷ sigs) [] k is at = cc
    by (x ∷ sigs) (n ∷ es) zero is at = let q : x ≡ s = cc in let r : n.returns_alike ≡ f x = cc in r ∙ ap f q
    by (x ∷ sigs) (n ∷ es) (suc k) is at = let r : flags_in es ≡ map f sigs = cc in by sigs es k r at

pub entries_long : (number : Sig → Option ℕ) (f : Function) (es : List SigEntry) → AreEntries number f es → length es ≡ length f.sigs
entries_long number f es h =
    sym (length-map es (λ (e : SigEntry). e.number))
    ∙ (sym (length-map (numbers_in es) (λ (n : ℕ). Some n)) ∙ (ap length h.numbers ∙ length-map f.sigs number))

-- the table at a place of a module, of which all tables are known
pub table_at : (m now : List Function) (ts : List SigTable) (known : AreTables m ts) → m ≡ now → (i : ℕ) → i < length now → (t : SigTable) → t ≡ get_or ts i t → (f : Function) → slice_get now i ≡ Some f → IsTable known.number f t
table_at m now ts known same i low t at f stands =
    known.each i f t (ap (λ (z : List Function). slice_get z i) same ∙ stands)
    (slice_get_read ts (length now) i t (sym (known.count ∙ ap length same)) low at)

-- ---- a function that declares one signature at most

pub none_entered : (f : Function) (es : List SigEntry) → slice_get f.sigs 0 ≡ None → es ≡ [] → Entered f es
none_entered f es none is = subst (Entered f) (sym is) (by f.sigs refl none)
  where
    by : (sigs : List Sig) → f.sigs ≡ sigs → slice_get sigs 0 ≡ None → Entered f []
    by (s ∷ sigs) q h = cc
    by [] q h = record {
      number = λ s. None;
      tells = λ s t n p r. cc;
      entries = record { numbers = ap (map (λ (s : Sig). None)) (sym q); flags = ap (map (return_alike f.sig)) (sym q) };
    }

pub one_entered : (f : Function) (s : Sig) (e : SigEntry) (es : List SigEntry) → length f.sigs ≤ 1 → slice_get f.sigs 0 ≡ Some s → e.number ≡ 0 → e.returns_alike ≡ return_alike f.sig s → es ≡ e ∷ [] → Entered f es
one_entered f s e es few at zeroth flag is = subst (Entered f) (sym is) (by f.sigs refl few at)
  where
    number : Sig → Option ℕ
    number t = if same_sig s t then Some 0 else None

    numbered : (t : Sig) (n : ℕ) → number t ≡ Some n → s ≡ t
    numbered t n p = go (same_sig s t) refl p
      where
        go : (z : Bool) → same_sig s t ≡ z → (if z then Some 0 else None) ≡ Some n → s ≡ t
        go true h p = sig_equal s t h
        go false h p = cc

    by : (sigs : List Sig) → f.sigs ≡ sigs → length sigs ≤ 1 → slice_get sigs 0 ≡ Some s → Entered f (e ∷ [])
    by [] q low at = cc
    by (t ∷ u ∷ sigs) q low at = absurd (omega (arith, low))
    by (t ∷ []) q low at =
        let only : f.sigs ≡ s ∷ [] = q ∙ ap (λ (z : Sig). z ∷ []) (same_Some t s at) in
        record {
          number = number;
          tells = λ a b n p q. ap₂ same_sig (sym (numbered a n p)) (sym (numbered b n q)) ∙ sig_same s;
          entries = record {
            numbers = ap (λ (n : ℕ). Some n ∷ []) zeroth ∙ (ap (λ (z : Bool). (if z then Some 0 else None) ∷ []) (sym (sig_same s)) ∙ ap (map number) (sym only));
            flags = ap (λ (z : Bool). z ∷ []) flag ∙ ap (map (return_alike f.sig)) (sym only);
          };
        }

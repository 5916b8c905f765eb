-- One instruction, in the words of the grammar: what reading finds, or where it stops.
use Rattle.std.proofs.Common.{◌≡◌, ℕ, cond, List, [], ◌∷◌, ◌++◌, length, take, drop, None, Ok, Err, refl, sym, ap, subst, ◌∙◌, inl, inr}
use Rattle.std.proofs.lemmas.List.{append-nil}
use Rattle.grammar.specs.Rules.{Lexeme, Rule, Tree, Kind, Cut, Derives, Begins, StopsAt, Answers, Out, good, read, read_all, heads_any, ◌>>=◌}
use Rattle.grammar.specs.Rules as rules
use Rattle.grammar.proofs.Binds.{ok_is}
use Rattle.grammar.proofs.Exactness.{sound, complete}
use Rattle.grammar.proofs.Past.{Left, past}
use Rattle.grammar.proofs.Exact.{exact, split_at_next, longer}
use Rattle.clif_words.specs.declared.class.Class.TheVariants as classes
use Rattle.clif_insts.specs.declared.raw.RawInst.{RawInst}
use Rattle.clif_insts.specs.declared.raw.RawOperands.TheVariants as operands
use Rattle.clif_words.specs.Classes.{code}
use Rattle.clif_insts.specs.Grammar.{whole_inst}
use Rattle.token_reader.specs.declared.stop.Stop.{Stop}
use Rattle.token_reader.specs.declared.stop.Stop.TheVariants as stops
use Rattle.token_reader.specs.Reading.{opcode, opcode_at, name_at, Stops}
use Rattle.token_reader.specs.Values.{seen}
use Rattle.clif_insts.specs.InstValues.{raw, whole_value}
use Rattle.clif_insts.specs.Forms.{opt_values_at, return_values_at, whole_at, one_at}
use Rattle.clif_insts.specs.Insts.{Own, NoMore, place_behind, Found, Missing, Stopped, error_at}
use Rattle.clif_insts.proofs.Firm.{no_text}
use Rattle.clif_insts.proofs.InstLaws.{whole_is}
use Rattle.clif_insts.proofs.Alone.{Alone, alone_or_not}

-- ---- reading by the grammar's value

-- with the next token the text begins no instruction, if reading stopped before it
no_more : (ts us rest : List Lexeme) (v : Tree whole_inst) → ts ≡ us ++ rest → read whole_inst ts ≡ Ok (v, rest) → NoMore us rest
no_more ts us [] v e h = tt
no_more ts us (x ∷ more) v e h = λ b.
    let p = past whole_inst refl (us ++ x ∷ []) more b in
    longer x more (subst (Left (length more)) h (subst (λ (l : List Lexeme). Left (length more) (read whole_inst l)) (sym (e ∙ split_at_next us more x)) p))

abbrev Read : List Lexeme → Tree whole_inst → List Lexeme → Type 0
Read ts v rest = Cut ts (λ us vs. (vs ≡ rest) × Derives whole_inst us v × ((w : Tree whole_inst) → Derives whole_inst us w → w ≡ v) × NoMore us vs)

found : (ts : List Lexeme) (v : Tree whole_inst) (rest : List Lexeme) → read whole_inst ts ≡ Ok (v, rest) → Read ts v rest
found ts v rest h =
    let s = sound whole_inst ts (v, rest) h in
    let c : read whole_inst (s.0 ++ []) ≡ Ok (v, []) = complete whole_inst refl s.0 v [] s.2 refl in
    (s.0, rest, s.1, (refl, s.2, λ w d. same_value w v (sym (complete whole_inst refl s.0 w [] d refl) ∙ c), no_more ts s.0 rest v s.1 h))
  where
    same_value : (w v : Tree whole_inst) → (let o : Out (Tree whole_inst) = Ok (w, []) in o) ≡ Ok (v, []) → w ≡ v
    same_value w v e = ap (λ (p : Tree whole_inst × List Lexeme). p.0) (ok_is (w, []) (v, []) e)

missed : (ts : List Lexeme) (e : Kind × List Lexeme) → read whole_inst ts ≡ Err e → Answers whole_inst ts (Err e)
missed ts e h =
    let given : read_all whole_inst ts ≡ Err e = ap (λ (o : Out (Tree whole_inst)). o >>= λ x. cond (heads_any x.1) (Err (rules.Syntax, x.1)) (Ok x.0)) h in
    subst (Answers whole_inst ts) given (exact whole_inst refl ts)

-- ---- one instruction

behind : (us rest : List Lexeme) → drop (length us) (us ++ rest) ≡ rest
behind [] rest = refl
behind (u ∷ us) rest = behind us rest

abbrev Says : List Lexeme → (List Lexeme → ℕ) → Out RawInst → Type 0
Says ts place (Ok x) = Found ts place x.0 (place x.1)
Says ts place (Err e) = Missing ts place e.0 (place e.1)

place_same : (ts us rest : List Lexeme) (place : List Lexeme → ℕ) → ts ≡ us ++ rest → place rest ≡ place_behind place us ts
place_same ts us rest place e = ap place (sym (ap (drop (length us)) e ∙ behind us rest))

says_whole : (ts : List Lexeme) (place : List Lexeme → ℕ) → Own ts ts → (o : Out (Tree whole_inst)) → read whole_inst ts ≡ o → Says ts place (seen whole_value o)
says_whole ts place own (Ok (v, rest)) h =
    let f = found ts v rest h in
    (ts, own, (f.0, f.1, f.2, ((v, f.3.1, refl, f.3.2), f.3.3, place_same ts f.0 rest place (f.2 ∙ ap (λ (l : List Lexeme). f.0 ++ l) f.3.0))))
says_whole ts place own (Err e) h =
    let m = missed ts e h in
    let cut : ts ≡ m.0 ++ e.1 = m.2 ∙ ap (λ (l : List Lexeme). m.0 ++ l) m.3.0 in
    (ts, own, (m.0, m.1, m.2, (m.3.1, no_text whole_inst refl refl ts m.0 e.1 e.0 cut h, m.3.2, place_same ts m.0 e.1 place (m.2 ∙ ap (λ (l : List Lexeme). m.0 ++ l) m.3.0))))

-- a `return` and nothing else
return_only : (x : Lexeme) → x.class ≡ code classes.Return → whole_at (x ∷ []) ≡ Ok (raw (opcode x) None (operands.Return []), [])
unfolding whole_at return_values_at opt_values_at opcode_at name_at
return_only x h = rw h refl

says_alone : (ts : List Lexeme) (place : List Lexeme → ℕ) → Alone ts → (o : Out (Tree whole_inst)) (x : Lexeme) (rest : List Lexeme) → ts ≡ x ∷ rest → Own ts (x ∷ [])
    → read whole_inst (x ∷ []) ≡ o → seen whole_value o ≡ Ok (raw (opcode x) None (operands.Return []), []) → Found ts place (raw (opcode x) None (operands.Return [])) (place rest)
says_alone ts place a (Err e) x rest all own h s = absurd cc
says_alone ts place a (Ok (v, left)) x rest all own h s =
    let none_left : left ≡ [] = (let p = same_pair (whole_value v, left) (raw (opcode x) None (operands.Return []), []) s in ap (λ (p : RawInst × List Lexeme). p.1) p) in
    let value : raw (opcode x) None (operands.Return []) ≡ whole_value v = (let p = same_pair (whole_value v, left) (raw (opcode x) None (operands.Return []), []) s in sym (ap (λ (p : RawInst × List Lexeme). p.0) p)) in
    let f = found (x ∷ []) v left h in
    let us : x ∷ [] ≡ f.0 = f.2 ∙ ap (λ (l : List Lexeme). f.0 ++ l) (f.3.0 ∙ none_left) ∙ append-nil f.0 in
    let same : place rest ≡ place_behind place f.0 ts = ap (λ (l : List Lexeme). place (drop (length l) (x ∷ rest))) us ∙ ap (λ (l : List Lexeme). place_behind place f.0 l) (sym all) in
    (x ∷ [], own, (f.0, f.1, f.2, ((v, f.3.1, value, f.3.2), f.3.3, same)))
  where
    same_pair : (p q : RawInst × List Lexeme) → (let o : Out RawInst = Ok p in o) ≡ Ok q → p ≡ q
    same_pair p q e = cc

pub says : (ts : List Lexeme) (place : List Lexeme → ℕ) → Says ts place (one_at ts)
says ts place =
    elim (alone_or_not ts) [
      | inl a ↦ subst (Says ts place) (sym a.read) (
          let own : Own ts (a.first ∷ []) = inl (a.starts, sym (ap (take 1) a.all)) in
          let s : seen whole_value (read whole_inst (a.first ∷ [])) ≡ Ok (raw (opcode a.first) None (operands.Return []), []) = sym (whole_is.same (a.first ∷ [])) ∙ return_only a.first a.is_return in
          says_alone ts place a (read whole_inst (a.first ∷ [])) a.first a.rest a.all own refl s)
      | inr w ↦ subst (Says ts place) (sym (w.read ∙ whole_is.same ts)) (says_whole ts place (inr (w.starts_not, refl)) (read whole_inst ts) refl)
    ]

pub says_found : (ts : List Lexeme) (place : List Lexeme → ℕ) (x : RawInst) (rest : List Lexeme) → one_at ts ≡ Ok (x, rest) → Found ts place x (place rest)
says_found ts place x rest e = subst (Says ts place) e (says ts place)

pub says_missing : (ts : List Lexeme) (place : List Lexeme → ℕ) (kind : Kind) (rest : List Lexeme) → one_at ts ≡ Err (kind, rest) → Missing ts place kind (place rest)
says_missing ts place kind rest e = subst (Says ts place) e (says ts place)

-- ---- what the call answers

pub found_at : (ts given rest : List Lexeme) (place : List Lexeme → ℕ) (k : ℕ) (x : RawInst) → given ≡ ts → k ≡ place rest → one_at given ≡ Ok (x, rest) → Found ts place x k
found_at ts given rest place k x e g h = subst (Found ts place x) (sym g) (says_found ts place x rest (sym (ap one_at e) ∙ h))

missing_at : (ts given rest : List Lexeme) (place : List Lexeme → ℕ) (k : ℕ) (kind : Kind) → given ≡ ts → k ≡ place rest → one_at given ≡ Err (kind, rest) → Missing ts place kind k
missing_at ts given rest place k kind e g h = subst (Missing ts place kind) (sym g) (says_missing ts place kind rest (sym (ap one_at e) ∙ h))

pub stopped_at : (ts given rest : List Lexeme) (place : List Lexeme → ℕ) (k : ℕ) (stop : Stop) → given ≡ ts → k ≡ place rest → Stops rest stop (one_at given) → Stopped ts place (error_at stop k)
stopped_at ts given rest place k stops.Syntax e g h = missing_at ts given rest place k rules.Syntax e g h
stopped_at ts given rest place k stops.UnknownOpcode e g h = missing_at ts given rest place k rules.UnknownOpcode e g h
stopped_at ts given rest place k stops.Unsupported e g h = missing_at ts given rest place k rules.Unsupported e g h
stopped_at ts given rest place k stops.NoMemory e g h = tt

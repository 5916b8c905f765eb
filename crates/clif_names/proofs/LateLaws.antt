-- The walk over a function's lines finds the first opcode whose type is asked for too early.
use Rattle.std.proofs.Common.{◌≡◌, ℕ, zero, suc, ◌<◌, ◌≤◌, ◌⊎◌, true, false, List, [], ◌∷◌, ◌++◌, length, length-append, take, slice_get, Option, None, Some, map, refl, sym, ap, subst, ◌∙◌, arith, inl, inr, append_assoc}
use Rattle.std.specs.Prelude.{nat_eq, fold, flat_map, position}
use Rattle.std.proofs.lemmas.Grind.{fold-append, flat_map-append}
use Rattle.std.proofs.lemmas.Bool.{eq-eqb}
use Rattle.std.proofs.lemmas.Bool.Decides.{eqb_tells, leb_tells}
use Rattle.std.proofs.lemmas.List.{append-nil, map-append}
use Rattle.std.proofs.lemmas.Option.{slice_get_within}
use Rattle.token_reader.specs.declared.raw.RawName.{RawName}
use Rattle.clif_insts.specs.declared.raw.RawArg.{RawArg}
use Rattle.clif_insts.specs.declared.raw.RawArg.TheVariants as arg
use Rattle.clif_insts.specs.declared.raw.RawTarget.{RawTarget}
use Rattle.clif_insts.specs.declared.raw.RawInst.{RawInst}
use Rattle.clif_read.specs.declared.raw.RawTag.{RawTag}
use Rattle.clif_read.specs.declared.raw.RawTag.TheVariants as tag
use Rattle.clif_read.specs.declared.raw.RawLine.TheVariants as line
use Rattle.clif_read.specs.declared.raw.RawBlock.{RawBlock}
use Rattle.name_tables.specs.declared.firsts.Def.{Def}
use Rattle.name_tables.specs.declared.links.End.{End}
use Rattle.name_tables.specs.declared.links.End.TheVariants.{At, Nowhere, Endless}
use Rattle.name_tables.specs.declared.names.Names.{Names}
use Rattle.clif_names.specs.declared.uses.Uses.{Uses}
use Rattle.name_tables.specs.Definitions.{Step, Param, Line, step_defs, defs_of, names_of, block_steps}
use Rattle.name_tables.specs.Least.{IsLeast, earlier_spot}
use Rattle.name_tables.specs.Taking.{no_names, declare, refer}
use Rattle.clif_names.specs.Typing.{asks, step_inst}
use Rattle.name_tables.specs.Uses.{operand_values, operand_targets}
use Rattle.clif_names.specs.Using.{use_tag, use_arg, use_target, note_operands, use_operands, is_late_at, ask_operand, ask_type, next_count, define, use_line, define_param, use_block}
use Rattle.name_tables.proofs.LeastLaws.{get_push, get_front, get_last, least_add, least_same}
use Rattle.name_tables.proofs.ListParts.{fold_map}
use Rattle.name_tables.proofs.TakingLaws.{declared_more}
use Rattle.name_tables.proofs.WordPlaces.{at, at_end, position_new, position_within, position_front}
use Rattle.name_tables.proofs.LateWords.{IsLate}

-- ---- the count of words

-- the count of the words that are defined so far
count_next : (k : ℕ) (t : Names) (n : RawName) (more : List ℕ) → k ≡ length t.words → next_count k (position (nat_eq n.number) ((declare t n).words ++ more)) ≡ length (declare t n).words
unfolding declare
count_next k t n more h = by (position (nat_eq n.number) t.words) refl
  where
    by : (o : Option ℕ) → position (nat_eq n.number) t.words ≡ o → next_count k (position (nat_eq n.number) ((declare t n).words ++ more)) ≡ length (declare t n).words
    by (Some p) e = rw (e, position_front (nat_eq n.number) more t.words p e) (elim (eqb_tells p k) [
      | inl s ↦ absurd (let w = position_within (nat_eq n.number) t.words p e in let a : p ≡ at (nat_eq n.number) t.words = w.0 in let b : at (nat_eq n.number) t.words < length t.words = w.1 in let q : p ≡ k = s.1 in omega arith)
      | inr d ↦ rw d.0 h
    ])
    by None e =
        let new = position_new (nat_eq n.number) t.words n.number (at_end (nat_eq n.number) t.words e) (eq-eqb n.number n.number refl) in
        rw (e, position_front (nat_eq n.number) more (t.words ++ n.number ∷ []) (length t.words) new) (elim (eqb_tells (length t.words) k) [
          | inl s ↦ rw s.0 (sym (length-append t.words (n.number ∷ [])))
          | inr d ↦ absurd (d.1 (sym h))
        ])

record Defines (u v : Uses) (count : ℕ) : Type 0 where
  defined : v.defined ≡ count
  values : v.values ≡ u.values
  untyped : v.untyped ≡ u.untyped

counts_along : (names : List RawName) (u : Uses) (t : Names) (more : List ℕ) → u.defined ≡ length t.words → u.values.words ≡ (fold declare t names).words ++ more
    → Defines u (fold define u names) (length (fold declare t names).words)
unfolding define
counts_along [] u t more h w = record { defined = h; values = refl; untyped = refl }
counts_along (n ∷ names) u t more h w =
    let p = declared_more names (declare t n) in
    let split : u.values.words ≡ (declare t n).words ++ (p.0 ++ more) = w ∙ ap (λ (l : List ℕ). l ++ more) p.1 ∙ append_assoc (declare t n).words p.0 more in
    let next : (define u n).defined ≡ length (declare t n).words = ap (λ (l : List ℕ). next_count u.defined (position (nat_eq n.number) l)) split ∙ count_next u.defined t n (p.0 ++ more) h in
    let k = counts_along names (define u n) (declare t n) more next w in
    record { defined = k.defined; values = k.values; untyped = k.untyped }

-- ---- uses change neither the count nor the words

record Quiet (u v : Uses) : Type 0 where
  words : v.values.words ≡ u.values.words
  defined : v.defined ≡ u.defined
  untyped : v.untyped ≡ u.untyped

quiet_same : (u : Uses) → Quiet u u
quiet_same u = record { words = refl; defined = refl; untyped = refl }

quiet_then : (u v w : Uses) → Quiet u v → Quiet v w → Quiet u w
quiet_then u v w h g = record { words = g.words ∙ h.words; defined = g.defined ∙ h.defined; untyped = g.untyped ∙ h.untyped }

quiet_list : {X : Type 0} (f : Uses → X → Uses) → ((u : Uses) (x : X) → Quiet u (f u x)) → (u : Uses) (xs : List X) → Quiet u (fold f u xs)
quiet_list f one u [] = quiet_same u
quiet_list f one u (x ∷ xs) = quiet_then u (f u x) (fold f (f u x) xs) (one u x) (quiet_list f one (f u x) xs)

refer_words : (t : Names) (ns : List RawName) → (fold refer t ns).words ≡ t.words
unfolding refer
refer_words t [] = refl
refer_words t (n ∷ ns) = refer_words (refer t n) ns

refer_one : (t : Names) (n : RawName) → (refer t n).words ≡ t.words
unfolding refer
refer_one t n = refl

quiet_tag : (u : Uses) (t : RawTag) → Quiet u (use_tag u t)
quiet_tag u (tag.User n) = record { words = refl; defined = refl; untyped = refl }
quiet_tag u (tag.Slot n) = record { words = refl; defined = refl; untyped = refl }

quiet_arg : (u : Uses) (a : RawArg) → Quiet u (use_arg u a)
quiet_arg u (arg.Value n) = record { words = refer_one u.values n; defined = refl; untyped = refl }
quiet_arg u (arg.Ret n) = record { words = refl; defined = refl; untyped = refl }
quiet_arg u (arg.Exn n) = record { words = refl; defined = refl; untyped = refl }

quiet_target : (u : Uses) (t : RawTarget) → Quiet u (use_target u t)
quiet_target u t =
    let v = record u { blocks = refer u.blocks t.block } in
    quiet_then u v (use_target u t) (record { words = refl; defined = refl; untyped = refl }) (quiet_list use_arg quiet_arg v t.args)

quiet_inst : (u : Uses) (tags : List RawTag) (inst : RawInst)
    → Quiet u (fold use_target (use_operands (note_operands (fold use_tag u tags) inst.suffix inst.operands) inst.operands) (operand_targets inst.operands))
quiet_inst u tags inst =
    let b = fold use_tag u tags in
    let c = note_operands b inst.suffix inst.operands in
    let d = use_operands c inst.operands in
    let bd : Quiet b d = record { words = refer_words c.values (operand_values inst.operands); defined = refl; untyped = refl } in
    quiet_then u d (fold use_target d (operand_targets inst.operands)) (quiet_then u b d (quiet_list use_tag quiet_tag u tags) bd) (quiet_list use_target quiet_target d (operand_targets inst.operands))

-- ---- steps

abbrev pub use_step : List End → Uses → Step → Uses
use_step ends u (Param p) = define_param u p
use_step ends u (Line l) = use_line ends u l

pub steps_used : (ends : List End) (u : Uses) (bs : List RawBlock) → fold (use_block ends) u bs ≡ fold (use_step ends) u (flat_map block_steps bs)
steps_used ends u [] = refl
steps_used ends u (b ∷ bs) = steps_used ends (use_block ends u b) bs ∙ sym (fold-append (use_step ends) u (block_steps b) (flat_map block_steps bs) ∙ ap (λ (v : Uses). fold (use_step ends) v (flat_map block_steps bs)) one)
  where
    one : fold (use_step ends) u (block_steps b) ≡ use_block ends u b
    one = fold-append (use_step ends) u (map Param b.params) (map Line b.lines)
        ∙ fold_map (use_step ends) Line (fold (use_step ends) u (map Param b.params)) b.lines
        ∙ ap (λ (v : Uses). fold (use_line ends) v b.lines) (fold_map (use_step ends) Param u b.params)

abbrev pub words_of : List Step → List ℕ
words_of steps = (fold declare no_names (names_of (defs_of steps))).words

pub words_split : (done more : List Step) → (rest : List ℕ) × (words_of (done ++ more) ≡ words_of done ++ rest)
words_split done more =
    let p = declared_more (names_of (defs_of more)) (fold declare no_names (names_of (defs_of done))) in (
      p.0,
      ap (λ (l : List RawName). (fold declare no_names l).words) (ap names_of (flat_map-append step_defs done more) ∙ map-append (λ (d : Def). d.name) (defs_of done) (defs_of more))
          ∙ ap (λ (t : Names). t.words) (fold-append declare no_names (names_of (defs_of done)) (names_of (defs_of more))) ∙ p.1,
    )

abbrev step_names : Step → List RawName
step_names s = names_of (step_defs s)

module _ (W : List ℕ) (ends : List End) where
  -- at this opcode the type of a word is asked for whose end is not among the words so far
  abbrev pub UntypedAt : List Step → ℕ → Type 0
  UntypedAt steps spot =
      (i : ℕ) × (s : Step) × (inst : RawInst) × (x : RawName) × (slice_get steps i ≡ Some s) × (step_inst s ≡ Some inst) × (inst.opcode.spot ≡ spot) × (asks inst ≡ Some x)
      × IsLate W ends (length (words_of (take i steps))) x.number

  past_end : (ends : List End) (j : ℕ) → slice_get ends j ≡ None → length ends ≤ j
  past_end [] j h = omega arith
  past_end (t ∷ ts) zero h = absurd cc
  past_end (t ∷ ts) (suc j) h = (let k = past_end ts j h in omega arith)

  abbrev Tells : ℕ → ℕ → Option ℕ → Type 0
  Tells count n o = ((is_late_at ends count o ≡ true) × IsLate W ends count n) ⊎ ((is_late_at ends count o ≡ false) × (IsLate W ends count n → ⊥))

  not_there : (count n : ℕ) (o : Option ℕ) → position (nat_eq n) W ≡ o → ((p j : ℕ) → o ≡ Some p → slice_get ends p ≡ Some (At j) → count ≤ j → ⊥) → IsLate W ends count n → ⊥
  not_there count n o e none (p, j, at, end, le) = none p j (sym e ∙ at) end le

  tells : (count n : ℕ) (o : Option ℕ) → position (nat_eq n) W ≡ o → Tells count n o
  tells count n None e = inr (refl, not_there count n None e (λ p j a b le. absurd cc))
  tells count n (Some q) e = by (slice_get ends q) refl
    where
      other : (x : Option End) → slice_get ends q ≡ x → ((j : ℕ) → x ≡ Some (At j) → count ≤ j → ⊥) → IsLate W ends count n → ⊥
      other x f none = not_there count n (Some q) e (λ p j a b le. (let s : q ≡ p = cc in none j (sym f ∙ ap (slice_get ends) s ∙ b) le))

      by : (x : Option End) → slice_get ends q ≡ x → Tells count n (Some q)
      by None f = rw f (inr (refl, other None f (λ j a le. absurd cc)))
      by (Some Nowhere) f = rw f (inr (refl, other (Some Nowhere) f (λ j a le. absurd cc)))
      by (Some Endless) f = rw f (inr (refl, other (Some Endless) f (λ j a le. absurd cc)))
      by (Some (At j)) f = elim (leb_tells count j) [
        | inl t ↦ rw f (inl (t.0, (q, j, e, f, t.1)))
        | inr t ↦ rw f (inr (t.0, other (Some (At j)) f (λ i a le. (let s : j ≡ i = cc in let lt : j < count = t.1 in absurd (omega arith)))))
      ]

  take_whole : (xs ys : List Step) → take (length xs) (xs ++ ys) ≡ xs
  take_whole [] ys = refl
  take_whole (x ∷ xs) ys = ap (λ (l : List Step). x ∷ l) (take_whole xs ys)

  take_front : (i : ℕ) (xs ys : List Step) → i < length xs → take i (xs ++ ys) ≡ take i xs
  take_front i [] ys h = absurd (omega arith)
  take_front zero (x ∷ xs) ys h = refl
  take_front (suc i) (x ∷ xs) ys h = ap (λ (l : List Step). x ∷ l) (take_front i xs ys (omega arith))

  untyped_more : (done : List Step) (s : Step) (spot : ℕ) → UntypedAt done spot → UntypedAt (done ++ s ∷ []) spot
  untyped_more done s spot (i, y, inst, x, at, has, is, asked, late) =
      (i, y, inst, x, get_front done (s ∷ []) i y at, has, is, asked, (let e = take_front i done (s ∷ []) (slice_get_within done i y at) in rw e late))

  -- what the last step asks for
  abbrev Asked : List Step → Step → ℕ → Type 0
  Asked done s spot = (inst : RawInst) × (x : RawName) × (step_inst s ≡ Some inst) × (inst.opcode.spot ≡ spot) × (asks inst ≡ Some x) × IsLate W ends (length (words_of done)) x.number

  untyped_split : (done : List Step) (s : Step) (spot : ℕ) → UntypedAt (done ++ s ∷ []) spot → UntypedAt done spot ⊎ Asked done s spot
  untyped_split done s spot (i, y, inst, x, at, has, is, asked, late) = elim (get_push done s i y at) [
    | inl q ↦ inl (i, y, inst, x, q, has, is, asked, (let e = take_front i done (s ∷ []) (slice_get_within done i y q) in rw e at late))
    | inr q ↦ inr (inst, x, sym (ap step_inst q.1) ∙ has, is, asked, (let e : take i (done ++ s ∷ []) ≡ done = ap (λ (k : ℕ). take k (done ++ s ∷ [])) q.0 ∙ take_whole done (s ∷ []) in rw e at late))
  ]

  pub record Inv (done : List Step) (u : Uses) : Type 0 where
    pub table : u.values.words ≡ W
    pub count : u.defined ≡ length (words_of done)
    pub untyped : IsLeast (UntypedAt done) u.untyped

  names_next : (done : List Step) (s : Step) → names_of (defs_of (done ++ s ∷ [])) ≡ names_of (defs_of done) ++ step_names s
  names_next done s = ap names_of (flat_map-append step_defs done (s ∷ []) ∙ ap (λ (l : List Def). defs_of done ++ l) (append-nil (step_defs s))) ∙ map-append (λ (d : Def). d.name) (defs_of done) (step_defs s)

  words_next : (done : List Step) (s : Step) → words_of (done ++ s ∷ []) ≡ (fold declare (fold declare no_names (names_of (defs_of done))) (step_names s)).words
  words_next done s = ap (λ (l : List RawName). (fold declare no_names l).words) (names_next done s)
      ∙ ap (λ (t : Names). t.words) (fold-append declare no_names (names_of (defs_of done)) (step_names s))

  finish : (done : List Step) (s : Step) (u : Uses) (more : List ℕ) → W ≡ words_of (done ++ s ∷ []) ++ more → u.values.words ≡ W → u.defined ≡ length (words_of done)
      → IsLeast (UntypedAt (done ++ s ∷ [])) u.untyped → Inv (done ++ s ∷ []) (fold define u (step_names s))
  finish done s u more all table count untyped =
      let t = fold declare no_names (names_of (defs_of done)) in
      let e = words_next done s in
      let k = counts_along (step_names s) u t more count (table ∙ all ∙ ap (λ (l : List ℕ). l ++ more) e) in
      record { table = ap (λ (x : Names). x.words) k.values ∙ table; count = k.defined ∙ ap (λ (l : List ℕ). length l) (sym e); untyped = rw k.untyped untyped }

  quiet : (done : List Step) (s : Step) (o : Option ℕ) → ((spot : ℕ) → Asked done s spot → ⊥) → IsLeast (UntypedAt done) o → IsLeast (UntypedAt (done ++ s ∷ [])) o
  quiet done s o none h = least_same (UntypedAt done) (UntypedAt (done ++ s ∷ [])) o h (untyped_more done s) (λ spot q. elim (untyped_split done s spot q) [ inl p ↦ p | inr r ↦ absurd (none spot r) ])

  loud : (done : List Step) (s : Step) (o : Option ℕ) (spot : ℕ) → Asked done s spot → ((at : ℕ) → Asked done s at → at ≡ spot) → IsLeast (UntypedAt done) o → IsLeast (UntypedAt (done ++ s ∷ [])) (earlier_spot o spot)
  loud done s o spot (inst, x, has, is, asked, late) one h = least_add (UntypedAt done) (UntypedAt (done ++ s ∷ [])) o spot h
      (length done, s, inst, x, get_last done s, has, is, asked, (let e = take_whole done (s ∷ []) in rw e late))
      (untyped_more done s) (λ at q. elim (untyped_split done s at q) [ inl p ↦ inl p | inr r ↦ inr (one at r) ])

  pub late_next : (done : List Step) (s : Step) (u : Uses) (more : List ℕ) → W ≡ words_of (done ++ s ∷ []) ++ more → Inv done u → Inv (done ++ s ∷ []) (use_step ends u s)
  late_next done (Param p) u more all h = finish done (Param p) u more all h.table h.count (quiet done (Param p) u.untyped (λ spot (inst, x, has, is, asked, late). absurd cc) h.untyped)
  late_next done (Line (line.Alias location n m)) u more all h =
      finish done (Line (line.Alias location n m)) (record u { values = refer u.values m }) more all (refer_one u.values m ∙ h.table) h.count
      (quiet done (Line (line.Alias location n m)) u.untyped (λ spot (inst, x, has, is, asked, late). absurd cc) h.untyped)
  late_next done (Line (line.Inst location tags results inst)) u more all h = subst (λ (ns : List RawName). Inv (done ++ s ∷ []) (fold define e ns)) names_are (finish done s e more all (k.words ∙ asked_words (asks inst) ∙ h.table) (k.defined ∙ asked_count (asks inst) ∙ h.count) (rw k.untyped (noted (asks inst) refl)))
    where
      s : Step
      s = Line (line.Inst location tags results inst)

      a : Uses
      a = ask_type ends u inst

      e : Uses
      e = fold use_target (use_operands (note_operands (fold use_tag a tags) inst.suffix inst.operands) inst.operands) (operand_targets inst.operands)

      k : Quiet a e
      k = quiet_inst a tags inst

      names_are : step_names s ≡ results
      names_are = same results
        where
          same : (ns : List RawName) → map (λ (d : Def). d.name) (map (λ (n : RawName). let d : Def = record { name = n; target = None } in d) ns) ≡ ns
          same [] = refl
          same (n ∷ ns) = ap (λ (l : List RawName). n ∷ l) (same ns)

      asked_words : (o : Option RawName) → (ask_operand ends u inst.opcode.spot o).values.words ≡ u.values.words
      asked_words None = refl
      asked_words (Some x) = refl

      asked_count : (o : Option RawName) → (ask_operand ends u inst.opcode.spot o).defined ≡ u.defined
      asked_count None = refl
      asked_count (Some x) = refl

      the_inst : (i : RawInst) → step_inst s ≡ Some i → inst ≡ i
      the_inst i h = cc

      noted : (o : Option RawName) → asks inst ≡ o → IsLeast (UntypedAt (done ++ s ∷ [])) (ask_operand ends u inst.opcode.spot o).untyped
      noted None f = quiet done s u.untyped (λ spot (i, x, has, is, asked, late). absurd (let w : inst ≡ i = the_inst i has in let q = sym f ∙ ap asks w ∙ asked in cc)) h.untyped
      noted (Some x) f = by (tells (length (words_of done)) x.number (position (nat_eq x.number) W) refl)
        where
          same_operand : (i : RawInst) (y : RawName) → step_inst s ≡ Some i → asks i ≡ Some y → x ≡ y
          same_operand i y has asked = (let w : inst ≡ i = the_inst i has in let q = sym f ∙ ap asks w ∙ asked in cc)

          by : Tells (length (words_of done)) x.number (position (nat_eq x.number) W) → IsLeast (UntypedAt (done ++ s ∷ [])) (ask_operand ends u inst.opcode.spot (Some x)).untyped
          by (inl t) = rw (h.table, h.count, t.0) (loud done s u.untyped inst.opcode.spot (inst, x, refl, refl, f, t.1) (λ at (i, y, has, is, asked, late). sym is ∙ ap (λ (i : RawInst). i.opcode.spot) (sym (the_inst i has))) h.untyped)
          by (inr t) = rw (h.table, h.count, t.0) (quiet done s u.untyped (λ at (i, y, has, is, asked, late). t.1 (let q = same_operand i y has asked in rw q late)) h.untyped)

  -- all steps of a text
  pub late_all : (done more : List Step) (u : Uses) → W ≡ words_of (done ++ more) → Inv done u → Inv (done ++ more) (fold (use_step ends) u more)
  late_all done [] u all h = rw append-nil h
  late_all done (s ∷ more) u all h =
      let e : done ++ (s ∷ more) ≡ (done ++ s ∷ []) ++ more = sym (append_assoc done (s ∷ []) more) in
      let p = words_split (done ++ s ∷ []) more in
      let split : W ≡ words_of (done ++ s ∷ []) ++ p.0 = all ∙ ap words_of e ∙ p.1 in
      rw e (late_all (done ++ s ∷ []) more (use_step ends u s) (all ∙ ap words_of e) (late_next done s u p.0 split h))

  pub late : (steps : List Step) (u : Uses) → W ≡ words_of steps → u.values.words ≡ W → u.defined ≡ 0 → u.untyped ≡ None → IsLeast (UntypedAt steps) (fold (use_step ends) u steps).untyped
  late steps u all table count untyped = (late_all [] steps u all (record { table = table; count = count; untyped = rw untyped (λ spot (i, s, inst, x, at, has, is, asked, late). absurd cc) })).untyped

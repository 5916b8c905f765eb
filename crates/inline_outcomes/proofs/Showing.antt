-- What is shown stays the same.
use Rattle.std.proofs.Common.{◌≡◌, ℕ, ◌<◌, List, [], ◌∷◌, ◌++◌, length, map, Option, Some, None, refl, sym, ap, ◌∙◌, subst, append_assoc, append-nil}
use Rattle.std.specs.Prelude.{slice_get}
use Rattle.std.proofs.lemmas.List.{map-append}
use Rattle.ir_core.specs.declared.declarations.SlotDecl.{SlotDecl}
use Rattle.ir_core.specs.declared.instructions.BlockCall.{BlockCall}
use Rattle.exn_tables.specs.declared.table.Entry.{Entry}
use Rattle.debug_tags.specs.declared.tags.Tag.{Tag}
use Rattle.debug_tags.specs.declared.tags.Tag.TheVariants as tag
use Rattle.ir_core.specs.Module.{Branches, Call, Function, Instruction, Line, Plain, Return, ReturnCall, SequencePoint, TryCall}
use Rattle.ir_core.specs.Lookup.{and_then}
use Rattle.ir_core.proofs.Gets.{some_same}
use Rattle.ir_semantics.specs.Values.{bytes_from, cons_some, join}
use Rattle.ir_semantics.specs.Machine.{Frame, Shown, User, Wait}
use Rattle.ir_semantics.specs.Step.{numbers, shown, shown_bytes, shown_tag, shown_tags}
use Rattle.ir_semantics.specs.Renaming.{Renaming, tag_under}
use Rattle.ir_semantics.specs.Splice.{Kind, Last, Splicing, Tries, Within, callee_names, caller_names, spliced, tags_before}
use Rattle.ir_semantics.proofs.SafetyTypes.{head_same}
use Rattle.inline_outcomes.proofs.Local.{Fits, SlotMaps, bytes_maps}
use Rattle.inline_outcomes.proofs.Related.{Below, Joined, RestG, Role, Tagged, TriesHead, Waiting, Waits, WithinHead, alone, caller, inside, left, line_of, none, other, stands}

record Split (o p : Option (List Shown)) (sh : List Shown) : Type 0 where
  a : List Shown
  b : List Shown
  first : o ≡ Some a
  second : p ≡ Some b
  whole : sh ≡ a ++ b

split : (o p : Option (List Shown)) (sh : List Shown) → join o p ≡ Some sh → Split o p sh
split None p sh e = cc
split (Some x) None sh e = cc
split (Some x) (Some y) sh e = record { a = x; b = y; first = refl; second = refl; whole = sym (some_same e) }

joined : (o p : Option (List Shown)) (a b : List Shown) → o ≡ Some a → p ≡ Some b → join o p ≡ Some (a ++ b)
joined o p a b h k = ap (λ z. join z p) h ∙ ap (join (Some a)) k

-- the sizes of slots are found again
abbrev Sizes : (ℕ → ℕ) → Frame → Frame → Type 0
Sizes f x x' = (k : ℕ) (z : SlotDecl) → slice_get x.func.slots k ≡ Some z → (slice_get x'.func.slots (f k) ≡ Some z) × (k < length x.func.slots)

tag_shown : (r : Renaming) (x x' : Frame) → Sizes r.slot x x' → SlotMaps (length x.func.slots) r.slot x.slots x'.slots → (t : Tag) (sh : List Shown) → shown_tag x t ≡ Some sh → shown_tag x' (tag_under r t) ≡ Some sh
tag_shown r x x' sizes slots (tag.User m) sh e = e
tag_shown r x x' sizes slots (tag.Slot k) sh e = go (slice_get x.func.slots k) refl e
  where
    bytes : (size : ℕ) → k < length x.func.slots → (o : Option (List ℕ)) → bytes_from (x.slots k) 0 size ≡ o → shown_bytes o ≡ Some sh → shown_bytes (bytes_from (x'.slots (r.slot k)) 0 size) ≡ Some sh
    bytes size below None q e = cc
    bytes size below (Some bs) q e = ap shown_bytes (bytes_maps (x.slots k) (x'.slots (r.slot k)) (λ o b. slots.at k o b below) 0 size bs q) ∙ e

    go : (o : Option SlotDecl) → slice_get x.func.slots k ≡ o → and_then o (λ d. shown_bytes (bytes_from (x.slots k) 0 d.size)) ≡ Some sh → shown_tag x' (tag.Slot (r.slot k)) ≡ Some sh
    go None q e = cc
    go (Some d) q e =
        let p = sizes k d q in
        ap (λ o. and_then o (λ d. shown_bytes (bytes_from (x'.slots (r.slot k)) 0 d.size))) p.0 ∙ bytes d.size p.1 (bytes_from (x.slots k) 0 d.size) refl e

tags_shown : (r : Renaming) (x x' : Frame) → Sizes r.slot x x' → SlotMaps (length x.func.slots) r.slot x.slots x'.slots → (ts : List Tag) (sh : List Shown) → shown_tags x ts ≡ Some sh → shown_tags x' (map (tag_under r) ts) ≡ Some sh
tags_shown r x x' sizes slots [] sh e = e
tags_shown r x x' sizes slots (t ∷ ts) sh e =
    let p = split (shown_tag x t) (shown_tags x ts) sh e in
    joined (shown_tag x' (tag_under r t)) (shown_tags x' (map (tag_under r) ts)) p.a p.b (tag_shown r x x' sizes slots t p.a p.first) (tags_shown r x x' sizes slots ts p.b p.second) ∙ ap Some (sym p.whole)

tags_append : (x : Frame) (us ts : List Tag) (a b : List Shown) → shown_tags x us ≡ Some a → shown_tags x ts ≡ Some b → shown_tags x (us ++ ts) ≡ Some (a ++ b)
tags_append x [] ts a b h k = k ∙ ap (λ z. Some (z ++ b)) (some_same h)
tags_append x (u ∷ us) ts a b h k =
    let p = split (shown_tag x u) (shown_tags x us) a h in
    joined (shown_tag x u) (shown_tags x (us ++ ts)) p.a (p.b ++ b) p.first (tags_append x us ts p.b b p.second k) ∙ ap Some (sym (append_assoc p.a p.b b)) ∙ ap (λ z. Some (z ++ b)) (sym p.whole)

numbers_shown : (r : Renaming) (x : Frame) (ts : List Tag) (ns : List ℕ) → numbers ts ≡ Some ns → shown_tags x (map (tag_under r) ts) ≡ Some (map User ns)
numbers_shown r x [] ns e = ap (λ z. Some (map User z)) (some_same e)
numbers_shown r x (tag.User m ∷ ts) ns e = go (λ ms q. numbers_shown r x ts ms q) (numbers ts) refl e
  where
    go : ((ms : List ℕ) → numbers ts ≡ Some ms → shown_tags x (map (tag_under r) ts) ≡ Some (map User ms)) → (o : Option (List ℕ)) → numbers ts ≡ o → cons_some (Some m) o ≡ Some ns → join (Some (User m ∷ [])) (shown_tags x (map (tag_under r) ts)) ≡ Some (map User ns)
    go ih None q e = cc
    go ih (Some ms) q e = ap (join (Some (User m ∷ []))) (ih ms q) ∙ ap (λ z. Some (map User z)) (some_same e)
numbers_shown r x (tag.Slot k ∷ ts) ns e = cc

-- what is shown at a frame, from its parts
shown_at : (y : Wait) (s : List Wait) (a c : List Shown) → shown s ≡ Some a → shown_tags y.frame y.line.tags ≡ Some c → shown (y ∷ s) ≡ Some (a ++ (map User y.frame.extra ++ c))
shown_at y s a c h k = joined (shown s) (join (Some (map User y.frame.extra)) (shown_tags y.frame y.line.tags)) a (map User y.frame.extra ++ c) h (joined (Some (map User y.frame.extra)) (shown_tags y.frame y.line.tags) (map User y.frame.extra) c refl k)

record Parts (y : Wait) (s : List Wait) (sh : List Shown) : Type 0 where
  a : List Shown
  c : List Shown
  below : shown s ≡ Some a
  tags : shown_tags y.frame y.line.tags ≡ Some c
  whole : sh ≡ a ++ (map User y.frame.extra ++ c)

parts : (y : Wait) (s : List Wait) (sh : List Shown) → shown (y ∷ s) ≡ Some sh → Parts y s sh
parts y s sh e =
    let p = split (shown s) (join (Some (map User y.frame.extra)) (shown_tags y.frame y.line.tags)) sh e in
    let q = split (Some (map User y.frame.extra)) (shown_tags y.frame y.line.tags) p.b p.second in
    record { a = p.a; c = q.b; below = p.first; tags = q.second; whole = p.whole ∙ ap (λ z. p.a ++ z) (q.whole ∙ ap (λ z. z ++ q.b) (sym (some_same q.first))) }

pub waiting_tagged : (i : Instruction) → Waiting i → Tagged i
waiting_tagged (Call k args) h = tt
waiting_tagged (TryCall k sg args normal table) h = tt
waiting_tagged SequencePoint h = tt
waiting_tagged (ReturnCall k args) h = tt
waiting_tagged (Plain p0) h = elim h [ ]
waiting_tagged (Branches c0) h = elim h [ ]
waiting_tagged (Return a) h = elim h [ ]

pub tail_same : {A : Type 0} {x y : A} {xs ys : List A} → x ∷ xs ≡ y ∷ ys → xs ≡ ys
tail_same e = cc

tagged_before : (i : Instruction) (us ts : List Tag) → Tagged i → tags_before i us ts ≡ us ++ ts
tagged_before SequencePoint us ts h = refl
tagged_before (Call k args) us ts h = refl
tagged_before (ReturnCall k args) us ts h = refl
tagged_before (TryCall k sg args normal table) us ts h = refl
tagged_before (Plain p0) us ts h = elim h [ ]
tagged_before (Branches c0) us ts h = elim h [ ]
tagged_before (Return a) us ts h = elim h [ ]

sizes_by : (F F' : Function) (r : Renaming) → Fits F F' r → (x x' : Frame) → x.func ≡ F → x'.func ≡ F' → Sizes r.slot x x'
sizes_by F F' r fits x x' h h' k z q =
    let p = fits.size k z (ap (λ y. slice_get y.slots k) (sym h) ∙ q) in
    (ap (λ y. slice_get y.slots (r.slot k)) h' ∙ p.0, subst (λ y. k < length y.slots) (sym h) p.1)

slots_by : (F : Function) (r : Renaming) (x x' : Frame) → x.func ≡ F → SlotMaps (length F.slots) r.slot x.slots x'.slots → SlotMaps (length x.func.slots) r.slot x.slots x'.slots
slots_by F r x x' h m = subst (λ y. SlotMaps (length y.slots) r.slot x.slots x'.slots) (sym h) m

-- the lists that meet in the cases
regroup : (a c : List Shown) (d e : List ℕ) → a ++ (map User (d ++ e) ++ c) ≡ (a ++ map User d) ++ (map User e ++ c)
regroup a c d e = rw (map-append User d e) (rw (append_assoc (map User d) (map User e) c) (sym (append_assoc a (map User d) (map User e ++ c))))

module _ (S : Splicing) (fits_f : Fits S.caller (spliced S) (caller_names S)) (fits_g : Fits S.callee (spliced S) (callee_names S)) where
  within_tags : (inst : Instruction) (i : Line) (more : List Line → Type 0) (i' : Line) (is' : List Line) → i.inst ≡ inst → WithinHead S inst i more (i' ∷ is') → Tagged inst → i'.tags ≡ map (tag_under (caller_names S)) S.site.tags ++ map (tag_under (callee_names S)) i.tags
  within_tags SequencePoint i more i' is' q h t = ap (λ z. z.tags) (head_same h.1) ∙ tagged_before i.inst _ _ (subst Tagged (sym q) t)
  within_tags (Call k args) i more i' is' q h t = ap (λ z. z.tags) (head_same h.1) ∙ tagged_before i.inst _ _ (subst Tagged (sym q) t)
  within_tags (ReturnCall k args) i more i' is' q h t = ap (λ z. z.tags) (head_same h.2) ∙ tagged_before i.inst _ _ (subst Tagged (sym q) t)
  within_tags (TryCall k sg args normal table) i more i' is' q h t = ap (λ z. z.tags) (head_same h.1) ∙ tagged_before i.inst _ _ (subst Tagged (sym q) t)
  within_tags (Plain p0) i more i' is' q h t = elim t [ ]
  within_tags (Branches c0) i more i' is' q h t = elim t [ ]
  within_tags (Return a) i more i' is' q h t = elim t [ ]

  tries_tags : (to : BlockCall) (u : List (Entry BlockCall)) (inst : Instruction) (i : Line) (more : List Line → Type 0) (i' : Line) (is' : List Line) → i.inst ≡ inst → TriesHead S to u inst i more (i' ∷ is') → Tagged inst → i'.tags ≡ map (tag_under (caller_names S)) S.site.tags ++ map (tag_under (callee_names S)) i.tags
  tries_tags to u SequencePoint i more i' is' q h t = ap (λ z. z.tags) (head_same h.1) ∙ tagged_before i.inst _ _ (subst Tagged (sym q) t)
  tries_tags to u (Call k args) i more i' is' q h t = ap (λ z. z.tags) (head_same h.3) ∙ tagged_before i.inst _ _ (subst Tagged (sym q) t)
  tries_tags to u (ReturnCall k args) i more i' is' q h t = ap (λ z. z.tags) (head_same h.1) ∙ tagged_before i.inst _ _ (subst Tagged (sym q) t)
  tries_tags to u (TryCall k sg args normal table) i more i' is' q h t = ap (λ z. z.tags) (head_same h.1) ∙ tagged_before i.inst _ _ (subst Tagged (sym q) t)
  tries_tags to u (Plain p0) i more i' is' q h t = elim t [ ]
  tries_tags to u (Branches c0) i more i' is' q h t = elim t [ ]
  tries_tags to u (Return a) i more i' is' q h t = elim t [ ]

  inside_tags : (k : Kind) (i : Line) (is : List Line) (i' : Line) (is' : List Line) → RestG S k (i ∷ is) (i' ∷ is') → Tagged i.inst → i'.tags ≡ map (tag_under (caller_names S)) S.site.tags ++ map (tag_under (callee_names S)) i.tags
  inside_tags Within i is i' is' h t = within_tags i.inst i _ i' is' refl h t
  inside_tags Last i is i' is' h t = ap (λ z. z.tags) (head_same h.1) ∙ tagged_before i.inst _ _ t
  inside_tags (Tries to u) i is i' is' h t = tries_tags to u i.inst i _ i' is' refl h t

  -- at a frame that is one frame
  pub alone_shown : (d : List ℕ) (y y' : Wait) (s s' : List Wait) (role : Role S d y.frame y'.frame) → y'.line ≡ line_of S role y.line → Tagged y.line.inst → (sh : List Shown) → ((a : List Shown) → shown s ≡ Some a → shown s' ≡ Some (a ++ map User d)) → shown (y ∷ s) ≡ Some sh → shown (y' ∷ s') ≡ Some sh
  alone_shown d y y' s s' (other r local rest extra) line tagged sh ih e =
      let p = parts y s sh e in
      let t = tags_shown r y.frame y'.frame local.embeds.fits.size local.slots y.line.tags p.c p.tags in
      shown_at y' s' (p.a ++ map User d) p.c (ih p.a p.below) (ap (λ z. shown_tags y'.frame z.tags) line ∙ t) ∙ ap Some (sym (regroup p.a p.c d y'.frame.extra) ∙ ap (λ z. p.a ++ (map User z ++ p.c)) (sym extra) ∙ sym p.whole)
  alone_shown d y y' s s' (caller func func' local rest extra) line tagged sh ih e =
      let p = parts y s sh e in
      let t = tags_shown (caller_names S) y.frame y'.frame local.embeds.fits.size local.slots y.line.tags p.c p.tags in
      shown_at y' s' (p.a ++ map User d) p.c (ih p.a p.below) (ap (λ z. shown_tags y'.frame z.tags) line ∙ t) ∙ ap Some (sym (regroup p.a p.c d y'.frame.extra) ∙ ap (λ z. p.a ++ (map User z ++ p.c)) (sym extra) ∙ sym p.whole)
  alone_shown d y y' s s' (stands ns tags last local rest extra) line tagged sh ih e =
      let p = parts y s sh e in
      let t = tags_shown (callee_names S) y.frame y'.frame local.embeds.fits.size local.slots y.line.tags p.c p.tags in
      let u = tags_append y'.frame (map (tag_under (caller_names S)) S.site.tags) (map (tag_under (callee_names S)) y.line.tags) (map User ns) p.c (numbers_shown (caller_names S) y'.frame S.site.tags ns tags) t in
      let v : shown_tags y'.frame y'.line.tags ≡ Some (map User ns ++ p.c) = ap (λ z. shown_tags y'.frame z.tags) line ∙ ap (shown_tags y'.frame) (tagged_before y.line.inst _ _ tagged) ∙ u in
      let w : (p.a ++ map User d) ++ (map User y'.frame.extra ++ (map User ns ++ p.c)) ≡ p.a ++ (map User (d ++ (y'.frame.extra ++ ns)) ++ p.c) = ap (λ z. (p.a ++ map User d) ++ z) (sym (append_assoc (map User y'.frame.extra) (map User ns) p.c) ∙ ap (λ z. z ++ p.c) (sym (map-append User y'.frame.extra ns))) ∙ sym (regroup p.a p.c d (y'.frame.extra ++ ns)) in
      shown_at y' s' (p.a ++ map User d) (map User ns ++ p.c) (ih p.a p.below) v ∙ ap Some (w ∙ ap (λ z. p.a ++ (map User z ++ p.c)) (sym extra) ∙ sym p.whole)

  pub inside_shown : (d : List ℕ) (k : Kind) (y z y' : Wait) (s s' : List Wait) → Joined S d k y.frame z y'.frame → RestG S k (y.line ∷ y.frame.rest) (y'.line ∷ y'.frame.rest) → Tagged y.line.inst → (sh : List Shown) → ((a : List Shown) → shown s ≡ Some a → shown s' ≡ Some (a ++ map User d)) → shown (y ∷ (z ∷ s)) ≡ Some sh → shown (y' ∷ s') ≡ Some sh
  inside_shown d k y z y' s s' in' rest tagged sh ih e =
      let p = parts y (z ∷ s) sh e in
      let q = parts z s p.a p.below in
      let t = tags_shown (callee_names S) y.frame y'.frame (sizes_by S.callee (spliced S) (callee_names S) fits_g y.frame y'.frame in'.func in'.waits.func') (slots_by S.callee (callee_names S) y.frame y'.frame in'.func in'.slots) y.line.tags p.c p.tags in
      let u = tags_shown (caller_names S) z.frame y'.frame (sizes_by S.caller (spliced S) (caller_names S) fits_f z.frame y'.frame in'.waits.func in'.waits.func') (slots_by S.caller (caller_names S) z.frame y'.frame in'.waits.func in'.waits.slots) S.site.tags q.c (ap (λ m. shown_tags z.frame m.tags) (sym in'.waits.line) ∙ q.tags) in
      let v : shown_tags y'.frame y'.line.tags ≡ Some (q.c ++ p.c) = ap (shown_tags y'.frame) (inside_tags k y.line y.frame.rest y'.line y'.frame.rest rest tagged) ∙ tags_append y'.frame (map (tag_under (caller_names S)) S.site.tags) (map (tag_under (callee_names S)) y.line.tags) q.c p.c u t in
      let w : (q.a ++ map User d) ++ (map User y'.frame.extra ++ (q.c ++ p.c)) ≡ (q.a ++ (map User z.frame.extra ++ q.c)) ++ p.c = ap (λ m. (q.a ++ map User d) ++ m) (sym (append_assoc (map User y'.frame.extra) q.c p.c)) ∙ sym (append_assoc (q.a ++ map User d) (map User y'.frame.extra ++ q.c) p.c) ∙ ap (λ m. m ++ p.c) (sym (regroup q.a q.c d y'.frame.extra) ∙ ap (λ m. q.a ++ (map User m ++ q.c)) (sym in'.waits.extra)) in
      shown_at y' s' (q.a ++ map User d) (q.c ++ p.c) (ih q.a q.below) v ∙ ap Some (w ∙ ap (λ m. m ++ p.c) (sym q.whole) ∙ ap (λ m. p.a ++ (map User m ++ p.c)) (sym in'.extra) ∙ sym p.whole)

  left_shown : (d e : List ℕ) (z y' : Wait) (s s' : List Wait) → Waits S d z y'.frame → (ts : List Tag) → numbers ts ≡ Some e → y'.line.tags ≡ map (tag_under (caller_names S)) S.site.tags ++ map (tag_under (callee_names S)) ts → (sh : List Shown) → ((a : List Shown) → shown s ≡ Some a → shown s' ≡ Some (a ++ map User d)) → shown (z ∷ s) ≡ Some sh → shown (y' ∷ s') ≡ Some (sh ++ map User e)
  left_shown d e z y' s s' waits ts ns tags sh ih h =
      let q = parts z s sh h in
      let u = tags_shown (caller_names S) z.frame y'.frame (sizes_by S.caller (spliced S) (caller_names S) fits_f z.frame y'.frame waits.func waits.func') (slots_by S.caller (caller_names S) z.frame y'.frame waits.func waits.slots) S.site.tags q.c (ap (λ m. shown_tags z.frame m.tags) (sym waits.line) ∙ q.tags) in
      let v : shown_tags y'.frame y'.line.tags ≡ Some (q.c ++ map User e) = ap (shown_tags y'.frame) tags ∙ tags_append y'.frame (map (tag_under (caller_names S)) S.site.tags) (map (tag_under (callee_names S)) ts) q.c (map User e) u (numbers_shown (callee_names S) y'.frame ts e ns) in
      let w : (q.a ++ map User d) ++ (map User y'.frame.extra ++ (q.c ++ map User e)) ≡ (q.a ++ (map User z.frame.extra ++ q.c)) ++ map User e = ap (λ m. (q.a ++ map User d) ++ m) (sym (append_assoc (map User y'.frame.extra) q.c (map User e))) ∙ sym (append_assoc (q.a ++ map User d) (map User y'.frame.extra ++ q.c) (map User e)) ∙ ap (λ m. m ++ map User e) (sym (regroup q.a q.c d y'.frame.extra) ∙ ap (λ m. q.a ++ (map User m ++ q.c)) (sym waits.extra)) in
      shown_at y' s' (q.a ++ map User d) (q.c ++ map User e) (ih q.a q.below) v ∙ ap Some (w ∙ ap (λ m. m ++ map User e) (sym q.whole))

  pub shown_below : {d : List ℕ} {s s' : List Wait} → Below S d s s' → (sh : List Shown) → shown s ≡ Some sh → shown s' ≡ Some (sh ++ map User d)
  shown_below none sh e = e ∙ ap Some (sym (append-nil sh))
  shown_below (alone {y = y} {y' = y'} {s = s} {s' = s'} role line tagged b) sh e =
      alone_shown _ y y' s s' role line (waiting_tagged y.line.inst tagged) sh (λ a h. shown_below b a h) e ∙ ap Some (sym (append-nil sh))
  shown_below (inside {y = y} {z = z} {y' = y'} {s = s} {s' = s'} k kind in' rest tagged b) sh e =
      inside_shown _ k y z y' s s' in' rest (waiting_tagged y.line.inst tagged) sh (λ a h. shown_below b a h) e ∙ ap Some (sym (append-nil sh))
  shown_below (left {z = z} {y' = y'} {s = s} {s' = s'} k kind waits rest ts ns tags b) sh e =
      left_shown _ _ z y' s s' waits ts ns tags sh (λ a h. shown_below b a h) e

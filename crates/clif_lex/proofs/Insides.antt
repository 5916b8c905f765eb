-- What is known of the tokens of a stretch, one by one.
use Rattle.std.proofs.Common.{◌≡◌, ℕ, ◌+◌, ◌-◌, ◌≤◌, Bool, List, length, take, drop, slice_range, Ok, Err, refl, sym, ◌∙◌, ap, subst, arith}
use Rattle.std.proofs.lemmas.List.{length-drop, length-take, drop-take}
use Rattle.clif_lex.specs.declared.spans.Token.{Token}
use Rattle.clif_lex.specs.declared.faults.LexErr.{LexErr}
use Rattle.clif_lex.specs.declared.faults.LexErr.TheVariants.{BadChar, BadNumber, NoMemory}
use Rattle.clif_lex.specs.Spelling.{IsAtEnd, IsReadFrom, IsFaultIn, IsTokenIn, AreIn}
use Rattle.clif_lex.specs.Stretches.{stretch_tokens}
use Rattle.clif_lex.proofs.Spelled.{take_of_take}
use Rattle.clif_lex.proofs.Readings.{reads, tokens_inside, faults_inside}

-- what a token takes of a text stands in each beginning that it ends in
take_range : (from until till : ℕ) (text : List ℕ) → from ≤ until → until ≤ till → slice_range (take till text) from until ≡ slice_range text from until
take_range from until till text ordered h =
    let e : from + (till - from) ≡ till = omega arith in
    let split : drop from (take till text) ≡ take (till - from) (drop from text) = rw e at (drop-take from (till - from) text) in
    ap (take (until - from)) split ∙ take_of_take (until - from) (till - from) (drop from text) (omega arith)

inside_more : (till : ℕ) (text : List ℕ) (t : Token) → till ≤ length text → IsTokenIn (take till text) t → IsTokenIn text t
inside_more till text t h inside =
    let within : t.end ≤ till = omega (arith, inside.within, length-take till text) in
    record {
      some = inside.some;
      within = omega arith;
      in_range = λ number. rw (sym (take_range t.start t.end till text (let some = inside.some in omega arith) within)) (inside.in_range number);
    }

pub stretch_inside : (text : List ℕ) (preamble : Bool) (from until : ℕ) (ts : List Token) → from ≤ until → until ≤ length text → stretch_tokens text preamble from until ≡ Ok ts → AreIn text ts
stretch_inside text preamble from until ts ordered within lexed = record {
  each = λ i t found.
      let whole = take until text in
      let inside : from ≤ length whole = omega (arith, length-take until text) in
      let d : IsReadFrom preamble from (drop from whole) (Ok ts) = subst (IsReadFrom preamble from (drop from whole)) lexed (reads (length (drop from whole)) preamble from (drop from whole) (omega arith)) in
      inside_more until text t within (tokens_inside whole IsAtEnd preamble from (drop from whole) ts inside refl d i t found);
}

fault_more : (fault : LexErr) (till : ℕ) (text : List ℕ) → till ≤ length text → IsFaultIn (take till text) fault → IsFaultIn text fault
fault_more (BadChar spot) till text h below = omega (arith, below, length-take till text)
fault_more (BadNumber spot) till text h below = omega (arith, below, length-take till text)
fault_more NoMemory till text h below = tt

pub stretch_fault_inside : (text : List ℕ) (preamble : Bool) (from until : ℕ) (fault : LexErr) → from ≤ until → until ≤ length text → stretch_tokens text preamble from until ≡ Err fault → IsFaultIn text fault
stretch_fault_inside text preamble from until fault ordered within lexed =
    let whole = take until text in
    let d : IsReadFrom preamble from (drop from whole) (Err fault) = subst (IsReadFrom preamble from (drop from whole)) lexed (reads (length (drop from whole)) preamble from (drop from whole) (omega arith)) in
    fault_more fault until text within (faults_inside fault whole preamble from (drop from whole) d.0 (omega (arith, length-take until text, length-drop from whole)) d.1)

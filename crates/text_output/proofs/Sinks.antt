-- Text on its way into a sink.
use Rattle.std.proofs.Common.{◌≡◌, ℕ, ◌≤◌, List, [], ◌++◌, Bool, true, false, Result, Ok, Err, OnOk, OnErr, refl, sym, ap, subst, ◌∙◌, append_assoc, arith}
use Rattle.std.proofs.lemmas.List.{append-nil}
use Rattle.std.proofs.KnownBytes.{Appends-trans}
use Rattle.std.specs.Prelude.{is_err}
use Rattle.std.specs.Bool.{MatchBool}
use Rattle.std.specs.declared.option.Option.{Option}
use Rattle.std.specs.Io.KnownBytes.{Appends}
use Rattle.clk_flow.specs.Faults.{HasCause}
use Rattle.clk_flow.specs.Whole.{AppendsPrefix}
use Rattle.clk_flow.proofs.Counting.{rose_since}
use Rattle.text_output.specs.Output.{Start, SinkState, HasPart, HasAll, HasText, Takes, Ends}

all_of : (start : Start) (s : SinkState) (text : List ℕ) → s.failed ≡ false → HasText start s text → HasAll start s text
all_of start s text e has = subst (λ (b : Bool). MatchBool b (HasPart start s text) (HasAll start s text)) e has.taken

part_of : (start : Start) (s : SinkState) (text : List ℕ) → s.failed ≡ true → HasText start s text → HasPart start s text
part_of start s text e has = subst (λ (b : Bool). MatchBool b (HasPart start s text) (HasAll start s text)) e has.taken

-- the state after the sink was given bytes
abbrev pub after : {T E : Type 0} → SinkState → Option (List ℕ) → ℕ → Result T E → SinkState
after s written faults r = record { name = s.name; written = written; faults = faults; waiting = []; failed = is_err r }

-- what waited and these bytes were given, or the sink failed
pub given : {T E : Type 0} (s : SinkState) (written : Option (List ℕ)) (faults : ℕ) (r : Result T E) (bytes more : List ℕ)
    → s.failed ≡ false → bytes ≡ s.waiting ++ more → OnOk r (Appends s.written written bytes) → OnErr r (AppendsPrefix s.written written bytes) → HasCause s.faults faults r
    → Takes s (after s written faults r) more
given s written faults (Ok x) bytes more sound is whole part cause = record {
  takes = λ start text has.
      let all = all_of start s text sound has in
      let e : all.front ++ bytes ≡ text ++ more = ap (λ (l : List ℕ). all.front ++ l) is ∙ sym (append_assoc all.front s.waiting more) ∙ ap (λ (l : List ℕ). l ++ more) all.whole in
      let a : Appends start.written written (all.front ++ bytes) = Appends-trans start.written s.written written all.front bytes all.given whole in
      let l : start.faults ≤ faults = omega (arith, has.later, cause.later) in
      record { same = has.same; later = l; taken = record { front = text ++ more; whole = append-nil (text ++ more); given = subst (λ (l : List ℕ). Appends start.written written l) e a } };
}
given s written faults (Err x) bytes more sound is whole part cause = record {
  takes = λ start text has.
      let all = all_of start s text sound has in
      let e : all.front ++ bytes ≡ text ++ more = ap (λ (l : List ℕ). all.front ++ l) is ∙ sym (append_assoc all.front s.waiting more) ∙ ap (λ (l : List ℕ). l ++ more) all.whole in
      let a : Appends start.written written (all.front ++ part.0) = Appends-trans start.written s.written written all.front part.0 all.given part.3 in
      let f : text ++ more ≡ (all.front ++ part.0) ++ part.1 = sym e ∙ ap (λ (l : List ℕ). all.front ++ l) part.2 ∙ sym (append_assoc all.front part.0 part.1) in
      let l : start.faults ≤ faults = omega (arith, has.later, cause.later) in
      record { same = has.same; later = l; taken = record { given = (all.front ++ part.0, part.1, f, a); rose = rose_since start.faults s.faults faults has.later cause.failed } };
}

-- after a failure bytes are dropped
pub dropped : (s : SinkState) (waiting more : List ℕ) → s.failed ≡ true
    → Takes s (record { name = s.name; written = s.written; faults = s.faults; waiting = waiting; failed = s.failed }) more
dropped s waiting more e = record { takes = go }
  where
    go : (start : Start) (text : List ℕ) → HasText start s text → HasText start (record { name = s.name; written = s.written; faults = s.faults; waiting = waiting; failed = s.failed }) (text ++ more)
    go start text has =
        let p = part_of start s text e has in
        let f : text ++ more ≡ p.given.0 ++ (p.given.1 ++ more) = ap (λ (l : List ℕ). l ++ more) p.given.2 ∙ append_assoc p.given.0 p.given.1 more in
        let t : SinkState = record { name = s.name; written = s.written; faults = s.faults; waiting = waiting; failed = s.failed } in
        let q : HasPart start t (text ++ more) = record { given = (p.given.0, p.given.1 ++ more, f, p.given.3); rose = p.rose } in
        record { same = has.same; later = has.later; taken = subst (λ (b : Bool). MatchBool b (HasPart start t (text ++ more)) (HasAll start t (text ++ more))) (sym e) q }

-- bytes that wait behind the others
pub waits : (s : SinkState) (waiting more : List ℕ) → waiting ≡ s.waiting ++ more
    → Takes s (record { name = s.name; written = s.written; faults = s.faults; waiting = waiting; failed = s.failed }) more
waits s waiting more e = record { takes = λ start text has. go s.failed refl start text has }
  where
    go : (b : Bool) → s.failed ≡ b → (start : Start) (text : List ℕ) → HasText start s text → HasText start (record { name = s.name; written = s.written; faults = s.faults; waiting = waiting; failed = s.failed }) (text ++ more)
    go true f start text has = (dropped s waiting more f).takes start text has
    go false f start text has =
        let a = all_of start s text f has in
        let t : SinkState = record { name = s.name; written = s.written; faults = s.faults; waiting = waiting; failed = s.failed } in
        let w : a.front ++ waiting ≡ text ++ more = ap (λ (l : List ℕ). a.front ++ l) e ∙ sym (append_assoc a.front s.waiting more) ∙ ap (λ (l : List ℕ). l ++ more) a.whole in
        let q : HasAll start t (text ++ more) = record { front = a.front; whole = w; given = a.given } in
        record { same = has.same; later = has.later; taken = subst (λ (b : Bool). MatchBool b (HasPart start t (text ++ more)) (HasAll start t (text ++ more))) (sym f) q }

-- what the sink has where nothing waits
nothing_more : (start : Start) (s t : SinkState) (text : List ℕ) → Takes s t [] → HasText start s text → HasText start t text
nothing_more start s t text p has = subst (λ (l : List ℕ). HasText start t l) (append-nil text) (p.takes start text has)

pub ends_well : {T E : Type 0} (x : T) (s t : SinkState) → Takes s t [] → t.waiting ≡ [] → t.failed ≡ false → (start : Start) (text : List ℕ) → HasText start s text
    → Ends {T = T} {E = E} start t.written t.faults (Ok x) text
ends_well x s t p e f start text has =
    let h = nothing_more start s t text p has in
    let a = all_of start t text f h in
    let w : a.front ≡ text = sym (append-nil a.front) ∙ ap (λ (l : List ℕ). a.front ++ l) (sym e) ∙ a.whole in
    record { whole = subst (λ (l : List ℕ). Appends start.written t.written l) w a.given; part = tt; cause = record { later = h.later; failed = tt } }

pub ends_failed : {T E : Type 0} (x : E) (s t : SinkState) → Takes s t [] → t.failed ≡ true → (start : Start) (text : List ℕ) → HasText start s text
    → Ends {T = T} {E = E} start t.written t.faults (Err x) text
ends_failed x s t p f start text has =
    let h = nothing_more start s t text p has in
    let q = part_of start t text f h in
    record { whole = tt; part = q.given; cause = record { later = h.later; failed = q.rose } }

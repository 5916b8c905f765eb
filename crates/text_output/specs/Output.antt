-- What an output takes, and what a sink has of it.
use Rattle.std.specs.Prelude.{◌≡◌, ℕ, ◌≤◌, List, ◌++◌, Bool, OnOk, OnErr}
use Rattle.std.specs.Bool.{MatchBool}
use Rattle.std.specs.Borrow.{GName}
use Rattle.std.specs.declared.result.Result.{Result}
use Rattle.std.specs.declared.option.Option.{Option}
use Rattle.std.specs.Io.KnownBytes.{Appends}
use Rattle.clk_flow.specs.Faults.{Rose, HasCause}
use Rattle.clk_flow.specs.Whole.{AppendsPrefix}

-- where an output began: which sink it writes to, what this had been given, where it tells, and its count of faults
pub record Start : Type 0 where
  pub name : GName
  pub written : Option (List ℕ)
  pub faults : ℕ

-- The bytes were put: behind whatever text the output had taken, it has taken them too.
pub record Puts {S : Type 0} (holds : Start → S → List ℕ → Type 0) (old new : S) (bytes : List ℕ) : Type 0 where
  pub puts : (start : Start) (text : List ℕ) → holds start old text → holds start new (text ++ bytes)

-- a sink that is written to, what waits to be given to it, and whether it failed
pub record SinkState : Type 0 where
  pub name : GName
  pub written : Option (List ℕ)
  pub faults : ℕ
  pub waiting : List ℕ
  pub failed : Bool

-- a beginning of the text was given, and there was a fault
pub record HasPart (start : Start) (s : SinkState) (text : List ℕ) : Type 0 where
  pub given : AppendsPrefix start.written s.written text
  pub rose : Rose start.faults s.faults

-- the text was given, but for what waits
pub record HasAll (start : Start) (s : SinkState) (text : List ℕ) : Type 0 where
  pub front : List ℕ
  pub whole : front ++ s.waiting ≡ text
  pub given : Appends start.written s.written front

-- the output took this text from its start on
pub record HasText (start : Start) (s : SinkState) (text : List ℕ) : Type 0 where
  pub same : s.name ≡ start.name
  pub later : start.faults ≤ s.faults
  pub taken : MatchBool s.failed (HasPart start s text) (HasAll start s text)

-- the output took these bytes too
pub record Takes (old new : SinkState) (bytes : List ℕ) : Type 0 where
  pub takes : (start : Start) (text : List ℕ) → HasText start old text → HasText start new (text ++ bytes)

-- what the sink has at the end
pub record Ends {T E : Type 0} (start : Start) (written : Option (List ℕ)) (faults : ℕ) (result : Result T E)
    (text : List ℕ) : Type 0 where
  pub whole : OnOk result (Appends start.written written text)
  pub part : OnErr result (AppendsPrefix start.written written text)
  pub cause : HasCause start.faults faults result

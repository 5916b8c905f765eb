-- What the words of a command line ask for: the command with the values of its options.
use Rattle.std.specs.Prelude.{ℕ, List, Bool}

-- the size policy of the inliner, and how many workers share the job
pub record InlineSettings : Type 0 where
  pub callee_size : ℕ
  pub caller_size : ℕ
  pub workers : ℕ

-- the function whose run is asked for, the texts of its arguments and of the host's answers, the bytes of memory, and
-- the most steps
pub record RunSettings : Type 0 where
  pub entry : List ℕ
  pub args : List ℕ
  pub script : List ℕ
  pub memory : ℕ
  pub steps : ℕ

-- the number that a module is made from, how many functions it has, whether its text is asked for, and the options of
-- the pass over it
pub record GenSettings : Type 0 where
  pub number : ℕ
  pub functions : ℕ
  pub text : Bool
  pub pass : InlineSettings

pub data Settings : Type 0 where
  Check : Settings
  Print : Settings
  Inline : InlineSettings → Settings
  Run : RunSettings → Settings
  Gen : GenSettings → Settings
  Test : Settings

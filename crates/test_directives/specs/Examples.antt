-- Worked headers and comments.
use Rattle.std.specs.Prelude.{◌≡◌, ℕ, true, ℤ, List, [], ◌∷◌, pos, negsuc, Some, None, codes}
use Rattle.clk_num.specs.declared.op.TrapCode.TheVariants.{IntDivz}
use Rattle.test_directives.specs.Commands as command
use Rattle.test_directives.specs.Commands.{command_of}
use Rattle.test_directives.specs.Directives.{comment_of, run_of, Plain, Asks, Bad, Run, Trace, Lines, Check, Error}
use Rattle.test_directives.specs.Directives.{Call, Wanted, Return, Equal, Unequal, Values, Trap, Throw}

pub record WorkedHeaders : Type 0 where
  pub other : command_of (codes "test compile") ≡ Some (Some (command.Other (codes "compile")))
  pub missing : command_of (codes "test \r") ≡ Some None
  pub ignored : command_of (codes "target x86_64") ≡ None
  pub inline : command_of (codes "test inline precise-output callee-size=0 x callee-size=7")
      ≡ Some (Some (command.Inline (record { precise = true; callee_size = 7; caller_size = 4096 })))
  pub zero_in_front : command_of (codes "test inline callee-size=07") ≡ Some None
  pub too_large : command_of (codes "test inline callee-size=262145 callee-size=1") ≡ Some None

abbrev pub call : List ℕ → List ℤ → Wanted → Call
call name numbers wanted = record { name = name; numbers = numbers; wanted = wanted }

pub record WorkedComments : Type 0 where
  pub equal : comment_of (codes "; run: %f(5) == 9")
      ≡ Asks (Run (call (codes "%f") (pos 5 ∷ []) (Equal (Values (pos 9 ∷ [])))))
  pub user : comment_of (codes ";run: u0 : 0x1( ) != [ ]") ≡ Asks (Run (call (codes "u0:1") [] (Unequal (Values []))))
  pub trap : comment_of (codes "; run: %f(-1) == trap int_divz")
      ≡ Asks (Run (call (codes "%f") (negsuc 0 ∷ []) (Equal (Trap IntDivz))))
  pub returns : comment_of (codes "; run: %f()\r") ≡ Asks (Run (call (codes "%f") [] Return))
  pub unclosed : comment_of (codes "; run: %f(") ≡ Bad
  pub one_sign : comment_of (codes "; run: %f(5) = 8") ≡ Bad
  pub act : comment_of (codes "; run: %f(5) == return") ≡ Bad
  pub bare : comment_of (codes "; run") ≡ Plain
  pub trace : comment_of (codes "; trace: host %h(5) ") ≡ Asks (Trace (codes "host %h(5)"))
  pub check : comment_of (codes ";  check: jump block1(v1)") ≡ Asks (Lines (Check (codes "jump block1(v1)")))
  pub empty : comment_of (codes "; check: ") ≡ Bad
  pub dollar : comment_of (codes "; not: $x") ≡ Bad
  pub error : comment_of (codes "; error: type") ≡ Asks Error
  pub script : comment_of (codes "; host: x") ≡ Bad

pub record WorkedRuns : Type 0 where
  pub equal : run_of (codes "%f(1, -2) == 3")
      ≡ Some (call (codes "%f") (pos 1 ∷ negsuc 1 ∷ []) (Equal (Values (pos 3 ∷ []))))
  pub returns : run_of (codes "u0:1()") ≡ Some (call (codes "u0:1") [] Return)
  pub listed : run_of (codes "%f() != [1, 2]")
      ≡ Some (call (codes "%f") [] (Unequal (Values (pos 1 ∷ pos 2 ∷ []))))
  pub throws : run_of (codes "%f(1) == throw tag3 (7, 8)")
      ≡ Some (call (codes "%f") (pos 1 ∷ []) (Equal (Throw 3 7 8)))
  pub blanks : run_of (codes " %f ( 1 ) == trap int_divz ")
      ≡ Some (call (codes "%f") (pos 1 ∷ []) (Equal (Trap IntDivz)))

pub record RefusedRuns : Type 0 where
  pub empty : run_of [] ≡ None
  pub unclosed : run_of (codes "%f(1") ≡ None
  pub unopened : run_of (codes "%f 1)") ≡ None
  pub one_sign : run_of (codes "%f(1) = 3") ≡ None
  pub blank_in_sign : run_of (codes "%f(1) = = 3") ≡ None
  pub no_expectation : run_of (codes "%f(1) == ") ≡ None
  pub bracket : run_of (codes "%f(1) == [1") ≡ None
  pub behind_bracket : run_of (codes "%f(1) == [1] 2") ≡ None
  pub two_numbers : run_of (codes "%f(1) == 1, 2") ≡ None
  pub returned : run_of (codes "%f(1) == return") ≡ None
  pub closed_twice : run_of (codes "%f(1)) == 1") ≡ None
  pub opened_twice : run_of (codes "%f((1))") ≡ None
  pub behind : run_of (codes "%f(1) x") ≡ None
  pub no_name : run_of (codes "(1)") ≡ None

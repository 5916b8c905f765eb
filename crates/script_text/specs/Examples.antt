-- Worked scripts and lists of numbers: what they mean, and where texts that are none go wrong.
use Rattle.std.specs.Prelude.{◌≡◌, ℕ, List, [], ◌∷◌, length, codes, ℤ, pos, negsuc, Result, Ok, Err}
use Rattle.grammar.specs.Rules.{Rule, Tree, read_all}
use Rattle.clk_num.specs.declared.op.TrapCode.TheVariants.{IntDivz, User}
use Rattle.ir_semantics.specs.Machine.{HostAct, Reply, Returns, HostTraps, Throws}
use Rattle.token_reader.specs.Next.{spot_or}
use Rattle.script_text.specs.Lexed.{lexed}
use Rattle.script_text.specs.Grammar as grammar
use Rattle.script_text.specs.Values.{script_value, number_list_value}

-- what reading from left to right gives: the value, or the first byte that does not fit
abbrev pub answer : {A : Type 0} (rule : Rule) → (Tree rule → A) → List ℕ → Result A ℕ
answer rule value text =
    elim (read_all rule (lexed text)) [ Ok v ↦ Ok (value v) | Err stop ↦ Err (spot_or (length text) stop.1) ]

abbrev pub script_of : List ℕ → Result (List Reply) ℕ
script_of text = answer grammar.script script_value text

abbrev pub numbers_of : List ℕ → Result (List ℤ) ℕ
numbers_of text = answer grammar.number_list number_list_value text

abbrev pub reply : HostAct → List (ℕ × ℕ) → Reply
reply act writes = record { act = act; writes = writes }

pub record WorkedScripts : Type 0 where
  pub empty : script_of [] ≡ Ok []
  pub bare : script_of (codes "return") ≡ Ok (reply (Returns []) [] ∷ [])
  pub values : script_of (codes "return(9)") ≡ Ok (reply (Returns (pos 9 ∷ [])) [] ∷ [])
  pub throws : script_of (codes "throw tag3 (7, 8)") ≡ Ok (reply (Throws 3 7 8) [] ∷ [])
  -- a payload is a number modulo 2^64
  pub payloads : script_of (codes "throw tag9(-1, 0x10)") ≡ Ok (reply (Throws 9 18446744073709551615 16) [] ∷ [])
  pub writes : script_of (codes "return(-1)[16: 255, 3: 0], trap int_divz, trap user7")
      ≡ Ok (reply (Returns (negsuc 0 ∷ [])) ((16, 255) ∷ (3, 0) ∷ []) ∷ reply (HostTraps IntDivz) []
      ∷ reply (HostTraps (User 7)) [] ∷ [])

pub record RefusedScripts : Type 0 where
  pub tag_missing : script_of (codes "throw 3") ≡ Err 6
  pub reply_missing : script_of (codes "return, ") ≡ Err 8
  pub value_missing : script_of (codes "return()") ≡ Err 7
  pub comment : script_of (codes "return ; x") ≡ Err 7
  pub header : script_of (codes "test return") ≡ Err 0
  -- a place where no token stands does not fit; but what does not fit before it comes first
  pub no_token : script_of (codes "return 9x") ≡ Err 7
  pub before_no_token : script_of (codes "return) 9x") ≡ Err 6
  pub wide_byte : script_of (codes "return[1: 256]") ≡ Err 10
  pub negative_address : script_of (codes "return[-1: 2]") ≡ Err 7
  pub large_code : script_of (codes "trap user65536") ≡ Err 5
  pub large_tag : script_of (codes "throw tag4294967295(0, 0)") ≡ Err 6

pub record WorkedLists : Type 0 where
  pub none : numbers_of (codes " ") ≡ Ok []
  pub some : numbers_of (codes "5, -1, +0x1_0") ≡ Ok (pos 5 ∷ negsuc 0 ∷ pos 16 ∷ [])
  pub trailing_comma : numbers_of (codes "5,") ≡ Err 2
  pub not_a_number : numbers_of (codes "5, v1") ≡ Err 3

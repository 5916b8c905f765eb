-- What the trees of the grammar mean, one definition a rule.
use Rattle.std.specs.Prelude.{ℕ, ◌==◌, if◌then◌else◌, List, [], ◌∷◌, map, ℤ}
use Rattle.grammar.specs.Rules.{Lexeme, Rule, Tree}
use Rattle.clk_num.specs.declared.op.TrapCode.{TrapCode}
use Rattle.clk_num.specs.declared.op.TrapCode.TheVariants.{StkOvf, IntOvf, HeapOob, IntDivz, BadToint, User}
use Rattle.ir_semantics.specs.Machine.{HostAct, Reply, Returns, HostTraps, Throws}
use Rattle.token_reader.specs.Reading.{same}
use Rattle.token_reader.specs.Values.{◌otherwise◌, perhaps}
use Rattle.script_text.specs.Grammar as grammar

abbrev pub commas_value : {A : Type 0} (a : Rule) → (Tree a → A) → Tree (grammar.commas a) → List A
commas_value a f v = f v.0 ∷ map (λ x. f x.1) v.1

abbrev pub number_token : Tree grammar.number → Lexeme
number_token = same otherwise same otherwise same

abbrev pub number_value : Tree grammar.number → ℤ
number_value v = (number_token v).amount

-- a payload is a number modulo 2^64
abbrev pub payload_value : Tree grammar.number → ℕ
payload_value v = (number_token v).number

abbrev pub address_token : Tree grammar.address → Lexeme
address_token = same otherwise same

abbrev pub address_value : Tree grammar.address → ℕ
address_value v = (address_token v).number

-- by its place among the trap codes
abbrev pub trap_of : ℕ → TrapCode
trap_of n =
    if n == 0 then StkOvf else if n == 1 then IntOvf else if n == 2 then HeapOob else if n == 3 then IntDivz
    else BadToint

abbrev pub trap_value : Tree grammar.trap_code → TrapCode
trap_value = (λ x. trap_of x.number) otherwise (λ x. User x.number)

abbrev pub returns_value : Tree grammar.returns → HostAct
returns_value v = Returns (perhaps [] (λ w. commas_value grammar.number number_value w.1.0) v.1)

abbrev pub traps_value : Tree grammar.traps → HostAct
traps_value v = HostTraps (trap_value v.1)

abbrev pub throws_value : Tree grammar.throws → HostAct
throws_value v = Throws v.1.0.number (payload_value v.1.1.1.0) (payload_value v.1.1.1.1.1.0)

abbrev pub act_value : Tree grammar.act → HostAct
act_value = returns_value otherwise traps_value otherwise throws_value

abbrev pub write_value : Tree grammar.write → ℕ × ℕ
write_value v = (address_value v.0, v.1.1.number)

-- a reply makes its writes in the order in which they stand
abbrev pub reply_value : Tree grammar.reply → Reply
reply_value v = record {
  act = act_value v.0;
  writes = perhaps [] (λ w. commas_value grammar.write write_value w.1.0) v.1;
}

abbrev pub script_value : Tree grammar.script → List Reply
script_value = perhaps [] (commas_value grammar.reply reply_value)

abbrev pub number_list_value : Tree grammar.number_list → List ℤ
number_list_value = perhaps [] (commas_value grammar.number number_value)

-- Each part of a script is read as its rule of the grammar says.
use Rattle.std.proofs.Common.{◌≡◌, ℕ, List, [], ◌∷◌, ◌++◌, map, Ok, Err, refl}
use Rattle.grammar.specs.Rules.{Lexeme, Rule, Opt, Many, Tree, Out, token, ◌>>=◌}
use Rattle.clif_words.specs.Terminals.{◌then◌}
use Rattle.clk_num.specs.declared.op.TrapCode.TheVariants.{User}
use Rattle.ir_semantics.specs.Machine.{HostAct, Reply, Returns, HostTraps, Throws}
use Rattle.token_reader.specs.Reading.{same}
use Rattle.token_reader.specs.Values.{perhaps, seen}
use Rattle.token_reader.proofs.Seen.{Is, then_is, map_is, opt_is, alt_is, many_is}
use Rattle.script_text.specs.declared.terminal.Terminal.{Terminal}
use Rattle.script_text.specs.declared.terminal.Terminal.TheVariants as terminals
use Rattle.script_text.specs.Terminals.{code}
use Rattle.script_text.specs.Grammar as grammar
use Rattle.script_text.specs.Grammar.{one, commas}
use Rattle.script_text.specs.Values.{commas_value, number_token, number_value, payload_value, address_token, trap_of, trap_value, returns_value, traps_value, throws_value, act_value, write_value, reply_value, script_value, number_list_value}
use Rattle.script_text.specs.Reading.{token_at, comma_at, more_at, commas_at, between_at, listed_at, number_at, value_at, payload_at, number_list_at, trap_code_at, returns_at, traps_at, throws_at, act_at, address_at, write_at, reply_at, script_at}

token_is : (terminal : Terminal) → Is (one terminal) same (token_at terminal)
unfolding token_at
token_is terminal = record { same = λ ts. go (token (code terminal) ts) }
  where
    go : (o : Out Lexeme) → o ≡ seen same o
    go (Ok x) = refl
    go (Err e) = refl

-- ---- lists

comma_is : {A : Type 0} {a : Rule} {f : Tree a → A} {p : List Lexeme → Out A} → Is a f p → Is (one terminals.Comma then a) (λ v. f v.1) (comma_at p)
unfolding comma_at
comma_is {A} {a} {f} {p} e = then_is (token_is terminals.Comma) a (λ c v. f v) (λ c. p) (λ c. e)

commas_is : {A : Type 0} {a : Rule} {f : Tree a → A} {p : List Lexeme → Out A} → Is a f p → Is (commas a) (commas_value a f) (commas_at p)
unfolding commas_at more_at
commas_is {A} {a} {f} {p} e =
    then_is e (Many (one terminals.Comma then a)) (λ x vs. x ∷ map (λ v. f v.1) vs) (λ x. more_at p (x ∷ [])) (λ x. map_is (many_is (comma_is e)) (λ xs. (x ∷ []) ++ xs))

between_is : {A : Type 0} {r : Rule} {f : Tree r → A} {p : List Lexeme → Out A} (left right : Terminal) → Is r f p → Is (one left then r then one right) (λ v. f v.1.0) (between_at left right p)
unfolding between_at
between_is {A} {r} {f} {p} left right e =
    then_is (token_is left) (r then one right) (λ l v. f v.0) (λ l ts. p ts >>= λ x. token_at right x.1 >>= λ e. Ok (x.0, e.1))
    (λ l. then_is e (one right) (λ x v. x) (λ x ts. token_at right ts >>= λ e. Ok (x, e.1)) (λ x. map_is (token_is right) (λ e. x)))

listed_is : {A : Type 0} {a : Rule} {f : Tree a → A} {p : List Lexeme → Out A} (left right : Terminal) → Is a f p
    → Is (Opt (one left then commas a then one right)) (perhaps [] (λ w. commas_value a f w.1.0)) (listed_at left right p)
unfolding listed_at
listed_is left right e = opt_is (between_is left right (commas_is e)) []

-- ---- values

number_is : Is grammar.number number_token number_at
unfolding number_at
number_is = alt_is (token_is terminals.Byte) (alt_is (token_is terminals.Large) (token_is terminals.Negative))

value_is : Is grammar.number number_value value_at
unfolding value_at
value_is = map_is number_is (λ x. x.amount)

payload_is : Is grammar.number payload_value payload_at
unfolding payload_at
payload_is = map_is number_is (λ x. x.number)

pub number_list_is : Is grammar.number_list number_list_value number_list_at
unfolding number_list_at
number_list_is = opt_is (commas_is value_is) []

-- ---- acts

trap_code_is : Is grammar.trap_code trap_value trap_code_at
unfolding trap_code_at
trap_code_is = alt_is (map_is (token_is terminals.TrapCode) (λ x. trap_of x.number)) (map_is (token_is terminals.UserTrap) (λ x. User x.number))

returns_is : Is grammar.returns returns_value returns_at
unfolding returns_at
returns_is =
    then_is (token_is terminals.Return) (Opt (one terminals.LeftParen then commas grammar.number then one terminals.RightParen))
    (λ w v. Returns (perhaps [] (λ u. commas_value grammar.number number_value u.1.0) v))
    (λ w ts. listed_at terminals.LeftParen terminals.RightParen value_at ts >>= λ vs. Ok (Returns vs.0, vs.1))
    (λ w. map_is (listed_is terminals.LeftParen terminals.RightParen value_is) Returns)

traps_is : Is grammar.traps traps_value traps_at
unfolding traps_at
traps_is =
    then_is (token_is terminals.Trap) grammar.trap_code (λ w v. HostTraps (trap_value v)) (λ w ts. trap_code_at ts >>= λ c. Ok (HostTraps c.0, c.1))
    (λ w. map_is trap_code_is HostTraps)

-- what stands behind the tag of a `throw`
abbrev Payloads : Rule
Payloads = one terminals.LeftParen then grammar.number then one terminals.Comma then grammar.number then one terminals.RightParen

payloads_at : ℕ → List Lexeme → Out HostAct
payloads_at tag ts =
    token_at terminals.LeftParen ts >>= λ l. payload_at l.1 >>= λ p. token_at terminals.Comma p.1 >>= λ c. payload_at c.1 >>= λ q. token_at terminals.RightParen q.1 >>= λ r. Ok (Throws tag p.0 q.0, r.1)

payloads_is : (tag : ℕ) → Is Payloads (λ v. Throws tag (payload_value v.1.0) (payload_value v.1.1.1.0)) (payloads_at tag)
unfolding payloads_at
payloads_is tag =
    then_is (token_is terminals.LeftParen) (grammar.number then one terminals.Comma then grammar.number then one terminals.RightParen)
    (λ l v. Throws tag (payload_value v.0) (payload_value v.1.1.0))
    (λ l ts. payload_at ts >>= λ p. token_at terminals.Comma p.1 >>= λ c. payload_at c.1 >>= λ q. token_at terminals.RightParen q.1 >>= λ r. Ok (Throws tag p.0 q.0, r.1))
    (λ l. then_is payload_is (one terminals.Comma then grammar.number then one terminals.RightParen) (λ p v. Throws tag p (payload_value v.1.0))
    (λ p ts. token_at terminals.Comma ts >>= λ c. payload_at c.1 >>= λ q. token_at terminals.RightParen q.1 >>= λ r. Ok (Throws tag p q.0, r.1))
    (λ p. then_is (token_is terminals.Comma) (grammar.number then one terminals.RightParen) (λ c v. Throws tag p (payload_value v.0))
    (λ c ts. payload_at ts >>= λ q. token_at terminals.RightParen q.1 >>= λ r. Ok (Throws tag p q.0, r.1))
    (λ c. then_is payload_is (one terminals.RightParen) (λ q v. Throws tag p q) (λ q ts. token_at terminals.RightParen ts >>= λ r. Ok (Throws tag p q, r.1))
    (λ q. map_is (token_is terminals.RightParen) (λ r. Throws tag p q)))))

throws_is : Is grammar.throws throws_value throws_at
unfolding throws_at payloads_at
throws_is =
    then_is (token_is terminals.Throw) (one terminals.Tag then Payloads) (λ w v. Throws v.0.number (payload_value v.1.1.0) (payload_value v.1.1.1.1.0))
    (λ w ts. token_at terminals.Tag ts >>= λ t. payloads_at t.0.number t.1)
    (λ w. then_is (token_is terminals.Tag) Payloads (λ t v. Throws t.number (payload_value v.1.0) (payload_value v.1.1.1.0)) (λ t. payloads_at t.number) (λ t. payloads_is t.number))

act_is : Is grammar.act act_value act_at
unfolding act_at
act_is = alt_is returns_is (alt_is traps_is throws_is)

-- ---- writes and replies

address_is : Is grammar.address address_token address_at
unfolding address_at
address_is = alt_is (token_is terminals.Byte) (token_is terminals.Large)

write_is : Is grammar.write write_value write_at
unfolding write_at
write_is =
    then_is address_is (one terminals.Colon then one terminals.Byte) (λ a v. (a.number, v.1.number))
    (λ a ts. token_at terminals.Colon ts >>= λ c. token_at terminals.Byte c.1 >>= λ b. Ok ((a.number, b.0.number), b.1))
    (λ a. then_is (token_is terminals.Colon) (one terminals.Byte) (λ c v. (a.number, v.number)) (λ c ts. token_at terminals.Byte ts >>= λ b. Ok ((a.number, b.0.number), b.1))
    (λ c. map_is (token_is terminals.Byte) (λ b. (a.number, b.number))))

abbrev with_writes : HostAct → List (ℕ × ℕ) → Reply
with_writes a ws = record { act = a; writes = ws }

reply_is : Is grammar.reply reply_value reply_at
unfolding reply_at
reply_is =
    then_is act_is (Opt (one terminals.LeftBracket then commas grammar.write then one terminals.RightBracket))
    (λ a v. with_writes a (perhaps [] (λ w. commas_value grammar.write write_value w.1.0) v))
    (λ a ts. listed_at terminals.LeftBracket terminals.RightBracket write_at ts >>= λ ws. Ok (with_writes a ws.0, ws.1))
    (λ a. map_is (listed_is terminals.LeftBracket terminals.RightBracket write_is) (with_writes a))

pub script_is : Is grammar.script script_value script_at
unfolding script_at
script_is = opt_is (commas_is reply_is) []

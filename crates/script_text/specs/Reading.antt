-- Scripts and lists of numbers, read from left to right.
use Rattle.std.specs.Prelude.{ℕ, Bool, if◌then◌else◌, List, [], ◌∷◌, length, ℤ, Ok, Err}
use Rattle.grammar.specs.Rules.{Lexeme, Syntax, Out, heads, heads_any, token, ◌>>=◌}
use Rattle.clk_num.specs.declared.op.TrapCode.{TrapCode}
use Rattle.clk_num.specs.declared.op.TrapCode.TheVariants.{User}
use Rattle.ir_semantics.specs.Machine.{HostAct, Reply, Returns, HostTraps, Throws}
use Rattle.token_reader.specs.Reading.{each, with_front}
use Rattle.script_text.specs.declared.terminal.Terminal.{Terminal}
use Rattle.script_text.specs.declared.terminal.Terminal.TheVariants as terminals
use Rattle.script_text.specs.Terminals.{code}
use Rattle.script_text.specs.Values.{trap_of}

-- whether the next token is of the terminal
abbrev pub next_is : Terminal → List Lexeme → Bool
next_is terminal ts = heads (code terminal ∷ []) ts

unfoldable pub token_at : Terminal → List Lexeme → Out Lexeme
token_at terminal ts = token (code terminal) ts

-- a comma, and what stands behind it
unfoldable pub comma_at : {A : Type 0} → (List Lexeme → Out A) → List Lexeme → Out A
comma_at p ts = do
  c ← token_at terminals.Comma ts
  p c.1

-- what stands behind commas, after those in front
unfoldable pub more_at : {A : Type 0} → (List Lexeme → Out A) → List A → List Lexeme → Out (List A)
more_at p front ts = with_front front (each (comma_at p) (code terminals.Comma ∷ []) (length ts) ts)

unfoldable pub commas_at : {A : Type 0} → (List Lexeme → Out A) → List Lexeme → Out (List A)
commas_at p ts = do
  x ← p ts
  more_at p (x.0 ∷ []) x.1

-- between two tokens
unfoldable pub between_at : {A : Type 0} → (left right : Terminal) → (List Lexeme → Out A) → List Lexeme → Out A
between_at left right p ts = do
  l ← token_at left ts
  x ← p l.1
  r ← token_at right x.1
  Ok (x.0, r.1)

-- what stands between two tokens, joined by commas, or nothing where the first of the two is missing
unfoldable pub listed_at : {A : Type 0} → (left right : Terminal) → (List Lexeme → Out A) → List Lexeme → Out (List A)
listed_at left right p ts = if next_is left ts then between_at left right (commas_at p) ts else Ok ([], ts)

-- ---- values

abbrev pub begins_number : List Lexeme → Bool
begins_number ts = heads (code terminals.Byte ∷ code terminals.Large ∷ code terminals.Negative ∷ []) ts

unfoldable pub number_at : List Lexeme → Out Lexeme
number_at ts =
    if next_is terminals.Byte ts then token_at terminals.Byte ts
    else if next_is terminals.Large ts then token_at terminals.Large ts
    else token_at terminals.Negative ts

unfoldable pub value_at : List Lexeme → Out ℤ
value_at ts = do
  x ← number_at ts
  Ok (x.0.amount, x.1)

unfoldable pub payload_at : List Lexeme → Out ℕ
payload_at ts = do
  x ← number_at ts
  Ok (x.0.number, x.1)

unfoldable pub number_list_at : List Lexeme → Out (List ℤ)
number_list_at ts = if begins_number ts then commas_at value_at ts else Ok ([], ts)

-- ---- acts

unfoldable pub trap_code_at : List Lexeme → Out TrapCode
trap_code_at ts =
    if next_is terminals.TrapCode ts then (token_at terminals.TrapCode ts >>= λ x. Ok (trap_of x.0.number, x.1))
    else (token_at terminals.UserTrap ts >>= λ x. Ok (User x.0.number, x.1))

unfoldable pub returns_at : List Lexeme → Out HostAct
returns_at ts = do
  w ← token_at terminals.Return ts
  vs ← listed_at terminals.LeftParen terminals.RightParen value_at w.1
  Ok (Returns vs.0, vs.1)

unfoldable pub traps_at : List Lexeme → Out HostAct
traps_at ts = do
  w ← token_at terminals.Trap ts
  c ← trap_code_at w.1
  Ok (HostTraps c.0, c.1)

unfoldable pub throws_at : List Lexeme → Out HostAct
throws_at ts = do
  w ← token_at terminals.Throw ts
  t ← token_at terminals.Tag w.1
  l ← token_at terminals.LeftParen t.1
  p ← payload_at l.1
  c ← token_at terminals.Comma p.1
  q ← payload_at c.1
  r ← token_at terminals.RightParen q.1
  Ok (Throws t.0.number p.0 q.0, r.1)

unfoldable pub act_at : List Lexeme → Out HostAct
act_at ts =
    if next_is terminals.Return ts then returns_at ts else if next_is terminals.Trap ts then traps_at ts
    else throws_at ts

-- ---- writes and replies

unfoldable pub address_at : List Lexeme → Out Lexeme
address_at ts =
    if next_is terminals.Byte ts then token_at terminals.Byte ts else token_at terminals.Large ts

unfoldable pub write_at : List Lexeme → Out (ℕ × ℕ)
write_at ts = do
  a ← address_at ts
  c ← token_at terminals.Colon a.1
  b ← token_at terminals.Byte c.1
  Ok ((a.0.number, b.0.number), b.1)

unfoldable pub reply_at : List Lexeme → Out Reply
reply_at ts = do
  a ← act_at ts
  ws ← listed_at terminals.LeftBracket terminals.RightBracket write_at a.1
  Ok (record { act = a.0; writes = ws.0 }, ws.1)

abbrev pub begins_reply : List Lexeme → Bool
begins_reply ts = heads (code terminals.Return ∷ code terminals.Trap ∷ code terminals.Throw ∷ []) ts

unfoldable pub script_at : List Lexeme → Out (List Reply)
script_at ts = if begins_reply ts then commas_at reply_at ts else Ok ([], ts)

-- ---- the whole of a text

-- no token is left
unfoldable pub finish_at : List Lexeme → Out (Unit {0})
finish_at ts = if heads_any ts then Err (Syntax, ts) else Ok (tt, ts)

-- all of the tokens
unfoldable pub whole : {A : Type 0} → (List Lexeme → Out A) → List Lexeme → Out A
whole p ts = do
  x ← p ts
  e ← finish_at x.1
  Ok (x.0, e.1)

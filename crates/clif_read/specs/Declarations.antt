-- Names of functions and declarations, read from left to right.
use Rattle.std.specs.Prelude.{Bool, true, false, if◌then◌else◌, List, [], ◌∷◌, ◌++◌, length, Option, Some, None}
use Rattle.std.specs.Prelude.{Result, Ok}
use Rattle.grammar.specs.Rules.{Lexeme, Unsupported, Out, ◌>>=◌}
use Rattle.clif_words.specs.declared.class.Class.{Class}
use Rattle.clif_words.specs.declared.class.Class.TheVariants as classes
use Rattle.clif_words.specs.Terminals.{codes_of}
use Rattle.token_reader.specs.declared.raw.RawNumber.{RawNumber}
use Rattle.token_reader.specs.declared.stop.Stop.{Stop}
use Rattle.token_reader.specs.Reading.{Gives, next_is, name_at, refuse, each, with_front}
use Rattle.token_reader.specs.Names.{text_at}
use Rattle.token_reader.specs.Numbers.{number_at}
use Rattle.clif_read.specs.declared.raw.RawFuncName.{RawFuncName}
use Rattle.clif_read.specs.declared.raw.RawFuncName.TheVariants as names
use Rattle.clif_read.specs.declared.raw.RawCalleeSig.{RawCalleeSig}
use Rattle.clif_read.specs.declared.raw.RawCalleeSig.TheVariants as callee_sigs
use Rattle.clif_read.specs.declared.raw.RawDecl.{RawDecl}
use Rattle.clif_read.specs.declared.raw.RawDecl.TheVariants as decls
use Rattle.clif_read.specs.Signatures.{signature_at}

-- ---- names

-- %name
unfoldable pub text_name_at : List Lexeme → Out RawFuncName
text_name_at ts = do
  x ← text_at classes.Name ts
  Ok (names.Text x.0.bytes x.0.spot, x.1)

-- u0:1
unfoldable pub user_name_at : List Lexeme → Out RawFuncName
user_name_at ts = do
  u ← name_at classes.UserName ts
  c ← name_at classes.Colon u.1
  n ← number_at c.1
  Ok (names.User u.0 n.0, n.1)

unfoldable pub func_name_at : List Lexeme → Out RawFuncName
func_name_at ts = if next_is classes.Name ts then text_name_at ts else user_name_at ts

-- ---- slots and signatures

-- , align = 4
unfoldable pub align_at : List Lexeme → Out RawNumber
align_at ts = do
  c ← name_at classes.Comma ts
  a ← name_at classes.Align c.1
  e ← name_at classes.Equals a.1
  number_at e.1

unfoldable pub opt_align_at : List Lexeme → Out (Option RawNumber)
opt_align_at ts = if next_is classes.Comma ts then (align_at ts >>= λ n. Ok (Some n.0, n.1)) else Ok (None, ts)

unfoldable pub slot_decl_at : List Lexeme → Out RawDecl
slot_decl_at ts = do
  s ← name_at classes.Slot ts
  e ← name_at classes.Equals s.1
  w ← name_at classes.ExplicitSlot e.1
  n ← number_at w.1
  a ← opt_align_at n.1
  Ok (decls.Slot s.0 n.0 a.0, a.1)

unfoldable pub sig_decl_at : List Lexeme → Out RawDecl
sig_decl_at ts = do
  s ← name_at classes.Sig ts
  e ← name_at classes.Equals s.1
  g ← signature_at e.1
  Ok (decls.Sig s.0 g.0, g.1)

-- ---- callees

-- whether there is `colocated`
unfoldable pub colocated_at : List Lexeme → Out Bool
colocated_at ts =
    if next_is classes.Colocated ts then (name_at classes.Colocated ts >>= λ x. Ok (true, x.1)) else Ok (false, ts)

unfoldable pub callee_sig_at : List Lexeme → Out RawCalleeSig
callee_sig_at ts =
    if next_is classes.Sig ts then (name_at classes.Sig ts >>= λ x. Ok (callee_sigs.Declared x.0, x.1))
    else (signature_at ts >>= λ g. Ok (callee_sigs.Inline g.0, g.1))

unfoldable pub callee_decl_at : List Lexeme → Out RawDecl
callee_decl_at ts = do
  f ← name_at classes.Callee ts
  e ← name_at classes.Equals f.1
  c ← colocated_at e.1
  n ← func_name_at c.1
  s ← callee_sig_at n.1
  Ok (decls.Callee c.0 f.0 s.0 n.0, s.1)

-- ---- declarations

unfoldable pub decl_at : List Lexeme → Out RawDecl
decl_at ts =
    if next_is classes.Slot ts then slot_decl_at ts
    else if next_is classes.Sig ts then sig_decl_at ts
    else if next_is classes.Callee ts then callee_decl_at ts
    else refuse (classes.RefusedDecl ∷ []) Unsupported ts

-- declarations, and behind them the one that is read
abbrev pub adding : List RawDecl → Out RawDecl → Out (List RawDecl)
adding before given = given >>= λ d. Ok (before ++ d.0 ∷ [], d.1)

-- What a reader that adds to declarations left of them, and what it returned, are what reading gives.
abbrev pub Adds : {X : Type 0} → List RawDecl → List RawDecl → List Lexeme → Result X Stop → Out RawDecl → Type 0
Adds before after now result given = Gives (λ added. after) now result (adding before given)

-- a declaration, or a word that is refused in its place
abbrev pub begins_decl : List Class
begins_decl = classes.Slot ∷ classes.Sig ∷ classes.Callee ∷ classes.RefusedDecl ∷ []

unfoldable pub decls_at : List Lexeme → Out (List RawDecl)
decls_at ts = with_front [] (each decl_at (codes_of begins_decl) (length ts) ts)

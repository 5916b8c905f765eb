-- Names of functions and declarations are read as their rules of the grammar say.
use Rattle.std.proofs.Common.{Bool, true, false, List, [], ◌∷◌, map, Option, Some, None, Ok}
use Rattle.grammar.specs.Rules.{Lexeme, Rule, Opt, Many, Tree, Unsupported, Out, ◌>>=◌}
use Rattle.clif_words.specs.declared.class.Class.TheVariants as classes
use Rattle.clif_words.specs.Terminals.{◌then◌, ◌or◌, user_name, colon, comma, equals, explicit_slot, align, colocated, sig}
use Rattle.token_reader.specs.declared.raw.RawName.{RawName}
use Rattle.token_reader.specs.declared.raw.RawNumber.{RawNumber}
use Rattle.token_reader.specs.Grammar.{number}
use Rattle.token_reader.specs.Reading.{name, name_at}
use Rattle.token_reader.specs.Numbers.{number_at}
use Rattle.token_reader.specs.Values.{perhaps, never, number_value}
use Rattle.token_reader.proofs.Seen.{Is, then_is, map_is, opt_is, alt_is, many_is, refuse_is, name_is}
use Rattle.token_reader.proofs.Names.{text_is}
use Rattle.token_reader.proofs.TypeLaws.{number_is}
use Rattle.clif_read.specs.declared.raw.RawFuncName.{RawFuncName}
use Rattle.clif_read.specs.declared.raw.RawFuncName.TheVariants as names
use Rattle.clif_read.specs.declared.raw.RawCalleeSig.TheVariants as callee_sigs
use Rattle.clif_read.specs.declared.raw.RawDecl.{RawDecl}
use Rattle.clif_read.specs.declared.raw.RawDecl.TheVariants as decls
use Rattle.clif_read.specs.ModuleGrammar.{signature, func_name, slot_decl, sig_decl, callee_decl, decl}
use Rattle.clif_read.specs.DeclarationValues.{signature_value, func_name_value, align_value, slot_decl_value, sig_decl_value, callee_sig_value, is_there, callee_decl_value, decl_value}
use Rattle.clif_read.specs.Signatures.{signature_at}
use Rattle.clif_read.specs.Declarations.{text_name_at, user_name_at, func_name_at, align_at, opt_align_at, slot_decl_at, sig_decl_at, colocated_at, callee_sig_at, callee_decl_at, decl_at, decls_at}
use Rattle.clif_read.proofs.SignatureLaws.{signature_is}

-- ---- names

abbrev user_value : Tree (user_name then colon then number) → RawFuncName
user_value v = names.User (name v.0) (number_value v.1.1)

user_name_is : Is (user_name then colon then number) user_value user_name_at
unfolding user_name_at
user_name_is =
    then_is (name_is classes.UserName) (colon then number) (λ u v. names.User u (number_value v.1))
    (λ u ts. name_at classes.Colon ts >>= λ c. number_at c.1 >>= λ n. Ok (names.User u n.0, n.1))
    (λ u. then_is (name_is classes.Colon) number (λ c v. names.User u (number_value v)) (λ c ts. number_at ts >>= λ n. Ok (names.User u n.0, n.1))
    (λ c. map_is number_is (λ n. names.User u n)))

pub func_name_is : Is func_name func_name_value func_name_at
unfolding func_name_at text_name_at
func_name_is = alt_is (map_is (text_is classes.Name) (λ x. names.Text x.bytes x.spot)) user_name_is

-- ---- slots and signatures

align_is : Is (comma then align then equals then number) align_value align_at
unfolding align_at
align_is =
    then_is (name_is classes.Comma) (align then equals then number) (λ c v. number_value v.1.1) (λ c ts. name_at classes.Align ts >>= λ a. name_at classes.Equals a.1 >>= λ e. number_at e.1)
    (λ c. then_is (name_is classes.Align) (equals then number) (λ a v. number_value v.1) (λ a ts. name_at classes.Equals ts >>= λ e. number_at e.1)
    (λ a. then_is (name_is classes.Equals) number (λ e v. number_value v) (λ e. number_at) (λ e. number_is)))

abbrev opt_align_value : Tree (Opt (comma then align then equals then number)) → Option RawNumber
opt_align_value = perhaps None (λ w. Some (align_value w))

opt_align_is : Is (Opt (comma then align then equals then number)) opt_align_value opt_align_at
unfolding opt_align_at
opt_align_is = opt_is (map_is align_is Some) None

-- what stands behind the `explicit_slot` of a slot
abbrev sized : Rule
sized = number then Opt (comma then align then equals then number)

abbrev sized_at : RawName → List Lexeme → Out RawDecl
sized_at s ts = number_at ts >>= λ n. opt_align_at n.1 >>= λ a. Ok (decls.Slot s n.0 a.0, a.1)

abbrev sized_value : RawName → Tree sized → RawDecl
sized_value s v = decls.Slot s (number_value v.0) (opt_align_value v.1)

sized_is : (s : RawName) → Is sized (sized_value s) (sized_at s)
sized_is s =
    then_is number_is (Opt (comma then align then equals then number)) (λ n v. decls.Slot s n (opt_align_value v)) (λ n ts. opt_align_at ts >>= λ a. Ok (decls.Slot s n a.0, a.1))
    (λ n. map_is opt_align_is (λ a. decls.Slot s n a))

slot_decl_is : Is slot_decl slot_decl_value slot_decl_at
unfolding slot_decl_at
slot_decl_is =
    then_is (name_is classes.Slot) (equals then explicit_slot then sized) (λ s v. sized_value s v.1.1) (λ s ts. name_at classes.Equals ts >>= λ e. name_at classes.ExplicitSlot e.1 >>= λ w. sized_at s w.1)
    (λ s. then_is (name_is classes.Equals) (explicit_slot then sized) (λ e v. sized_value s v.1) (λ e ts. name_at classes.ExplicitSlot ts >>= λ w. sized_at s w.1)
    (λ e. then_is (name_is classes.ExplicitSlot) sized (λ w v. sized_value s v) (λ w. sized_at s) (λ w. sized_is s)))

sig_decl_is : Is sig_decl sig_decl_value sig_decl_at
unfolding sig_decl_at
sig_decl_is =
    then_is (name_is classes.Sig) (equals then signature) (λ s v. decls.Sig s (signature_value v.1)) (λ s ts. name_at classes.Equals ts >>= λ e. signature_at e.1 >>= λ g. Ok (decls.Sig s g.0, g.1))
    (λ s. then_is (name_is classes.Equals) signature (λ e v. decls.Sig s (signature_value v)) (λ e ts. signature_at ts >>= λ g. Ok (decls.Sig s g.0, g.1))
    (λ e. map_is signature_is (λ g. decls.Sig s g)))

-- ---- callees

colocated_is : Is (Opt colocated) is_there colocated_at
unfolding colocated_at
colocated_is = opt_is (map_is (name_is classes.Colocated) (λ x. true)) false

callee_sig_is : Is (sig or signature) callee_sig_value callee_sig_at
unfolding callee_sig_at
callee_sig_is = alt_is (map_is (name_is classes.Sig) callee_sigs.Declared) (map_is signature_is callee_sigs.Inline)

-- a callee's name and signature
abbrev named_callee : Rule
named_callee = func_name then (sig or signature)

abbrev named_callee_at : RawName → Bool → List Lexeme → Out RawDecl
named_callee_at f c ts = func_name_at ts >>= λ n. callee_sig_at n.1 >>= λ s. Ok (decls.Callee c f s.0 n.0, s.1)

abbrev named_callee_value : RawName → Bool → Tree named_callee → RawDecl
named_callee_value f c v = decls.Callee c f (callee_sig_value v.1) (func_name_value v.0)

named_callee_is : (f : RawName) (c : Bool) → Is named_callee (named_callee_value f c) (named_callee_at f c)
named_callee_is f c =
    then_is func_name_is (sig or signature) (λ n v. decls.Callee c f (callee_sig_value v) n) (λ n ts. callee_sig_at ts >>= λ s. Ok (decls.Callee c f s.0 n, s.1))
    (λ n. map_is callee_sig_is (λ s. decls.Callee c f s n))

callee_decl_is : Is callee_decl callee_decl_value callee_decl_at
unfolding callee_decl_at
callee_decl_is =
    then_is (name_is classes.Callee) (equals then Opt colocated then named_callee) (λ f v. named_callee_value f (is_there v.1.0) v.1.1) (λ f ts. name_at classes.Equals ts >>= λ e. colocated_at e.1 >>= λ c. named_callee_at f c.0 c.1)
    (λ f. then_is (name_is classes.Equals) (Opt colocated then named_callee) (λ e v. named_callee_value f (is_there v.0) v.1) (λ e ts. colocated_at ts >>= λ c. named_callee_at f c.0 c.1)
    (λ e. then_is colocated_is named_callee (λ c v. named_callee_value f c v) (λ c. named_callee_at f c) (λ c. named_callee_is f c)))

-- ---- declarations

pub decl_is : Is decl decl_value decl_at
unfolding decl_at
decl_is = alt_is slot_decl_is (alt_is sig_decl_is (alt_is callee_decl_is (refuse_is (classes.RefusedDecl ∷ []) Unsupported never)))

pub decls_is : Is (Many decl) (map decl_value) decls_at
unfolding decls_at
decls_is = map_is (many_is decl_is) (λ ds. ds)

-- The commands of header lines are within their limits.
use Rattle.std.proofs.Common.{◌≡◌, ℕ, ◌≤◌, Bool, true, false, ◌&&◌, if◌then◌else◌, nat_le, decimal, List, [], ◌∷◌, codes, Option, Some, None, refl, sym, ◌∙◌, subst, arith, inl, inr}
use Rattle.std.specs.Str.{bytes_eq}
use Rattle.std.specs.List.{AllByRecursion}
use Rattle.std.proofs.lemmas.Bool.Decides.{leb_tells}
use Rattle.ir_core.specs.Lookup.{and_then}
use Rattle.test_directives.specs.Blanks.{behind, words}
use Rattle.test_directives.specs.Commands as command
use Rattle.test_directives.specs.Commands.{Command, InlineWords, digits_value, size_of, usual_words, after_word, after_words, command_of_words, command_of, most_size}
use Rattle.test_directives.specs.Tests.{Placed, commands}
use Rattle.filetest.specs.Limits.{AreWithin, IsLimitedCommand}

-- ---- what a choice gave

chosen : {A : Type 0} (b : Bool) (x y : Option A) (z : A) (P : A → Type 0) → ((w : A) → x ≡ Some w → P w) → ((w : A) → y ≡ Some w → P w) → (if b then x else y) ≡ Some z → P z
chosen true x y z P f g e = f z e
chosen false x y z P f g e = g z e

bound : {A B : Type 0} (o : Option A) (f : A → Option B) (z : B) (P : B → Type 0) → ((x : A) → o ≡ Some x → f x ≡ Some z → P z) → and_then o f ≡ Some z → P z
bound None f z P h e = cc
bound (Some x) f z P h e = h x refl e

-- ---- sizes

size_within : (digits : List ℕ) (n : ℕ) → size_of digits ≡ Some n → n ≤ most_size
size_within digits n e = go (bytes_eq (decimal (digits_value 0 digits)) digits) (nat_le (digits_value 0 digits) most_size) refl e
  where
    go : (a b : Bool) → nat_le (digits_value 0 digits) most_size ≡ b → (if a && b then Some (digits_value 0 digits) else None) ≡ Some n → n ≤ most_size
    go true true t q = let same : digits_value 0 digits ≡ n = cc in elim (leb_tells (digits_value 0 digits) most_size) [
      | inl h ↦ subst (λ k. k ≤ most_size) same h.1
      | inr h ↦ let bad : true ≡ false = sym t ∙ h.0 in cc
    ]
    go true false t q = cc
    go false b t q = cc

word_within : (asked : InlineWords) (word : List ℕ) (next : InlineWords) → AreWithin asked → after_word asked word ≡ Some next → AreWithin next
word_within asked word next w e =
    chosen (bytes_eq word (codes "precise-output")) _ _ next AreWithin
    (λ n q. let same : record asked { precise = true } ≡ n = cc in subst AreWithin same (record { callee_size = w.callee_size; caller_size = w.caller_size }))
    (λ n q. callee (behind (codes "callee-size=") word) n q) e
  where
    caller : (o : Option (List ℕ)) (n : InlineWords) → elim o [ Some digits ↦ and_then (size_of digits) (λ k. Some (record asked { caller_size = k })) | None ↦ Some asked ] ≡ Some n → AreWithin n
    caller None n q = let same : asked ≡ n = cc in subst AreWithin same w
    caller (Some digits) n q = bound (size_of digits) (λ k. Some (record asked { caller_size = k })) n AreWithin
        (λ k s r. let same : record asked { caller_size = k } ≡ n = cc in subst AreWithin same (record { callee_size = w.callee_size; caller_size = size_within digits k s })) q

    callee : (o : Option (List ℕ)) (n : InlineWords) → elim o [ Some digits ↦ and_then (size_of digits) (λ k. Some (record asked { callee_size = k })) | None ↦ elim (behind (codes "caller-size=") word) [ Some digits ↦ and_then (size_of digits) (λ k. Some (record asked { caller_size = k })) | None ↦ Some asked ] ] ≡ Some n → AreWithin n
    callee None n q = caller (behind (codes "caller-size=") word) n q
    callee (Some digits) n q = bound (size_of digits) (λ k. Some (record asked { callee_size = k })) n AreWithin
        (λ k s r. let same : record asked { callee_size = k } ≡ n = cc in subst AreWithin same (record { callee_size = size_within digits k s; caller_size = w.caller_size })) q

words_within : (asked : InlineWords) (ws : List (List ℕ)) (next : InlineWords) → AreWithin asked → after_words asked ws ≡ Some next → AreWithin next
words_within asked [] next w e = let same : asked ≡ next = cc in subst AreWithin same w
words_within asked (word ∷ ws) next w e = bound (after_word asked word) (λ n. after_words n ws) next AreWithin (λ n s r. words_within n ws next (word_within asked word n w s) r) e

-- ---- commands

plain : (c c' : Command) → IsLimitedCommand c → Some c ≡ Some c' → IsLimitedCommand c'
plain c c' h e = let same : c ≡ c' = cc in subst IsLimitedCommand same h

words_limited : (ws : List (List ℕ)) (c : Command) → command_of_words ws ≡ Some c → IsLimitedCommand c
words_limited [] c e = cc
words_limited (word ∷ rest) c e =
    chosen (bytes_eq word (codes "cat")) _ _ c IsLimitedCommand (λ x q. plain command.Cat x tt q)
    (λ x q. chosen (bytes_eq word (codes "verifier")) _ _ x IsLimitedCommand (λ y r. plain command.Verifier y tt r)
    (λ y r. chosen (bytes_eq word (codes "interpret")) _ _ y IsLimitedCommand (λ z s. plain command.Interpret z tt s)
    (λ z s. chosen (bytes_eq word (codes "run")) _ _ z IsLimitedCommand (λ u t. plain command.Run u tt t)
    (λ u t. chosen (bytes_eq word (codes "inline")) _ _ u IsLimitedCommand
    (λ v p. bound (after_words usual_words rest) (λ asked. Some (command.Inline asked)) v IsLimitedCommand
    (λ asked m n. plain (command.Inline asked) v (words_within usual_words rest asked (record { callee_size = omega arith; caller_size = omega arith }) m) n) p)
    (λ v p. plain (command.Other word) v tt p) t) s) r) q) e

header_limited : (header : List ℕ) (c : Command) → command_of header ≡ Some (Some c) → IsLimitedCommand c
header_limited header c e = bound (behind (codes "test") header) (λ rest. Some (command_of_words (words rest))) (Some c) (λ o. IsLimitedCommand c)
    (λ rest s r. let inner : command_of_words (words rest) ≡ Some c = cc in words_limited (words rest) c inner) e

abbrev step : List Command → Option (Option Command) → List Command
step rest o = elim o [ None ↦ rest | Some reading ↦ elim reading [ None ↦ rest | Some c ↦ c ∷ rest ] ]

stepped : (h : Placed) (rest : List Command) (o : Option (Option Command)) → command_of h.text ≡ o → AllByRecursion IsLimitedCommand rest → AllByRecursion IsLimitedCommand (step rest o)
stepped h rest None e k = k
stepped h rest (Some None) e k = k
stepped h rest (Some (Some c)) e k = (header_limited h.text c e, k)

pub commands_limited : (hs : List Placed) → AllByRecursion IsLimitedCommand (commands hs)
commands_limited [] = tt
commands_limited (h ∷ hs) = stepped h (commands hs) (command_of h.text) refl (commands_limited hs)

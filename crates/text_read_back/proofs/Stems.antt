-- A stem with a number behind it, as `v7`, has the class of the stem and this number.
use Rattle.std.proofs.Common.{◌≡◌, ℕ, ◌+◌, ◌-◌, ◌*◌, ◌/◌, ◌%◌, ◌^◌, ◌<◌, ◌≤◌, ◌==◌, true, false, not, List, [], ◌∷◌, ◌++◌, length, take, drop, get_or, Some, None, refl, ap, ◌∙◌, arith}
use Rattle.std.specs.Prelude.{nat_lt, codes}
use Rattle.std.specs.List.{list_all}
use Rattle.std.specs.Str.{bytes_eq}
use Rattle.std.specs.Str.Parse.{digits_value_after}
use Rattle.std.specs.Char.{is_ascii_digit, digit_value}
use Rattle.std.specs.Fmt.{decimal}
use Rattle.std.proofs.Math.Bool.{or-true}
use Rattle.std.proofs.lemmas.Bool.{lt-ltb}
use Rattle.std.proofs.lemmas.Bool.Decides.{nat_tests}
use Rattle.std.proofs.lemmas.Fmt.{decimal_by_steps}
use Rattle.std.proofs.lemmas.List.{take_at, drop_at, length-append, get_or-append_right, get_or_append_left}
use Rattle.std.proofs.lemmas.List.Elements.{All-get_or}
use Rattle.std.proofs.lemmas.List.Sums.{suffix_len_is, AllPass-from_list_all}
use Rattle.clif_lex.specs.Bytes.{first}
use Rattle.clif_words.specs.declared.class.Class.{Class}
use Rattle.clif_words.specs.declared.class.Class.TheVariants as classes
use Rattle.clif_words.specs.Table.{Row, all_words}
use Rattle.clif_words.specs.Words.{look_up, means, is_plain, digits_len, stem, digits, decimal_after, entity_number, stems, numbered_meaning, word_meaning}
use Rattle.clif_words.proofs.Places.{look_up-none}
use Rattle.text_read_back.proofs.Decimals.{decimal_digits, decimal_some, decimal_value}

-- ---- the digits of a number

record Leads (n : ℕ) (ds : List ℕ) : Type 0 where
  pub some : 1 ≤ length ds
  pub plain : is_plain ds ≡ true
  pub front : 0 < n → (first ds == 48) ≡ false

leads_one : (n : ℕ) → n < 10 → Leads n ((48 + n) ∷ [])
leads_one n h = record { some = omega arith; plain = or-true (not (48 + n == 48)); front = λ k. grind (arith, nat_tests) }

plain_push : (ds : List ℕ) (c : ℕ) → 1 ≤ length ds → (first ds == 48) ≡ false → is_plain (ds ++ c ∷ []) ≡ true
plain_push [] c some h = absurd (omega arith)
plain_push (d ∷ ds) c some h = rw h refl

first_push : (ds : List ℕ) (c : ℕ) → 1 ≤ length ds → first (ds ++ c ∷ []) ≡ first ds
first_push [] c some = absurd (omega arith)
first_push (d ∷ ds) c some = refl

some_push : (ds : List ℕ) (c : ℕ) → 1 ≤ length (ds ++ c ∷ [])
some_push [] c = omega arith
some_push (d ∷ ds) c = omega arith

leads_more : (n : ℕ) (ds : List ℕ) → 10 ≤ n → Leads (n / 10) ds → Leads n (ds ++ ((48 + n % 10) ∷ []))
leads_more n ds h l =
    let f = l.front (omega arith) in
    record {
      some = some_push ds (48 + n % 10);
      plain = plain_push ds (48 + n % 10) l.some f;
      front = λ k. ap (λ (c : ℕ). c == 48) (first_push ds (48 + n % 10) l.some) ∙ f;
    }

decimal_leads : (n : ℕ) → n < 2 ^ 64 → Leads n (decimal n)
decimal_leads n h = decimal_by_steps Leads leads_one leads_more n h

after_is : (n : ℕ) (ds : List ℕ) → decimal_after n ds ≡ digits_value_after 10 n ds
after_is n [] = refl
after_is n (c ∷ cs) = after_is (n * 10 + digit_value c) cs

number_is : (n : ℕ) → n < 2 ^ 64 → entity_number (decimal n) ≡ n
unfolding entity_number
number_is n h =
    let e : decimal_after 0 (decimal n) ≡ n = after_is 0 (decimal n) ∙ decimal_value n h in
    let fits : nat_lt n (2 ^ 64) ≡ true = lt-ltb n (2 ^ 64) h in
    rw (e, fits) refl

-- ---- where the digits begin

digits_behind : (w ds : List ℕ) → 1 ≤ length w → is_ascii_digit (get_or w (length w - 1) 0) ≡ false → list_all is_ascii_digit ds ≡ true → digits_len (w ++ ds) ≡ length ds
digits_behind w ds some last all =
    let long = length-append w ds in
    let each = AllPass-from_list_all is_ascii_digit ds all in
    let count : digits_len (w ++ ds) ≡ length (w ++ ds) - length w = suffix_len_is is_ascii_digit (w ++ ds) (length w) 0 (omega arith)
    (λ k low high. ap is_ascii_digit (get_or-append_right w ds (length w) k 0 refl low) ∙ All-get_or (λ c. is_ascii_digit c ≡ true) ds (k - length w) 0 (omega arith) each)
    (λ l. ap is_ascii_digit (get_or_append_left w ds 0 (length w - 1) (omega arith)) ∙ last) in
    omega arith

-- ---- no word of the table

-- what is asked of a stem
pub record IsStem (w : List ℕ) (c : Class) : Type 0 where
  pub some : 1 ≤ length w
  pub last : is_ascii_digit (get_or w (length w - 1) 0) ≡ false
  pub no_word : list_all (λ (row : Row). not (bytes_eq (stem row.word) w)) all_words ≡ true
  pub same : bytes_eq w w ≡ true
  pub found : look_up stems w ≡ Some (means c 0)

pub stem_meaning : (w : List ℕ) (c : Class) (n : ℕ) → IsStem w c → n < 2 ^ 64 → word_meaning (w ++ decimal n) ≡ means c n
unfolding word_meaning numbered_meaning
stem_meaning w c n is h =
    let ds = decimal n in
    let count : digits_len (w ++ ds) ≡ length ds = digits_behind w ds is.some is.last (decimal_digits n h) in
    let long = length-append w ds in
    let few : length (w ++ ds) - digits_len (w ++ ds) ≡ length w = omega arith in
    let front : stem (w ++ ds) ≡ w = ap (λ (k : ℕ). take k (w ++ ds)) few ∙ take_at w ds (length w) refl in
    let rest : digits (w ++ ds) ≡ ds = ap (λ (k : ℕ). drop k (w ++ ds)) few ∙ drop_at w ds (length w) refl in
    let some = decimal_some n h in
    let counted : (digits_len (w ++ ds) == 0) ≡ false = (let k : (length ds == 0) ≡ false = grind (arith, nat_tests) in rw count k) in
    let none : look_up all_words (w ++ ds) ≡ None = look_up-none (λ v. bytes_eq (stem v) w) all_words (w ++ ds) is.no_word (ap (λ (v : List ℕ). bytes_eq v w) front ∙ is.same) in
    rw none (rw counted (rw front (rw is.found (rw rest (rw (decimal_leads n h).plain (ap (means c) (number_is n h)))))))

pub value_stem : IsStem (codes "v") classes.Value
unfolding all_words stems
value_stem = record { some = omega arith; last = refl; no_word = refl; same = refl; found = refl }

pub block_stem : IsStem (codes "block") classes.Block
unfolding all_words stems
block_stem = record { some = omega arith; last = refl; no_word = refl; same = refl; found = refl }

pub slot_stem : IsStem (codes "ss") classes.Slot
unfolding all_words stems
slot_stem = record { some = omega arith; last = refl; no_word = refl; same = refl; found = refl }

pub sig_stem : IsStem (codes "sig") classes.Sig
unfolding all_words stems
sig_stem = record { some = omega arith; last = refl; no_word = refl; same = refl; found = refl }

pub callee_stem : IsStem (codes "fn") classes.Callee
unfolding all_words stems
callee_stem = record { some = omega arith; last = refl; no_word = refl; same = refl; found = refl }

pub tag_stem : IsStem (codes "tag") classes.Tag
unfolding all_words stems
tag_stem = record { some = omega arith; last = refl; no_word = refl; same = refl; found = refl }

pub ret_stem : IsStem (codes "ret") classes.Ret
unfolding all_words stems
ret_stem = record { some = omega arith; last = refl; no_word = refl; same = refl; found = refl }

pub exn_stem : IsStem (codes "exn") classes.Exn
unfolding all_words stems
exn_stem = record { some = omega arith; last = refl; no_word = refl; same = refl; found = refl }

pub user_name_stem : IsStem (codes "u") classes.UserName
unfolding all_words stems
user_name_stem = record { some = omega arith; last = refl; no_word = refl; same = refl; found = refl }

pub user_trap_stem : IsStem (codes "user") classes.UserTrap
unfolding all_words stems
user_trap_stem = record { some = omega arith; last = refl; no_word = refl; same = refl; found = refl }

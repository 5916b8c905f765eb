-- Each of the four shapes has a text, where its numbers have 64 bits: its names are letters and digits, and each
-- instruction is of a form of the text.
use Rattle.std.proofs.Common.{◌≡◌, ℕ, ◌+◌, ◌%◌, ◌<◌, ◌^◌, true, List, [], ◌∷◌, refl, arith}
use Rattle.std.specs.Prelude.{decimal, IsTrue}
use Rattle.std.proofs.lemmas.Bool.Decides.{nat_tests}
use Rattle.std.proofs.lemmas.Fmt.{decimal_by_steps}
use Rattle.ir_core.specs.Lists.{Each}
use Rattle.ir_core.proofs.Members.{each_join}
use Rattle.ir_text.specs.Writable.{is_name_byte, NameWritable, FunctionWritable}
use Rattle.gen_mod.specs.Shapes.{generated_name, host_name}
use Rattle.gen_mod.specs.Shapes.{adding, calling_two, trying, choosing}

-- ---- names

abbrev AreNameBytes : List ℕ → Type 0
AreNameBytes bytes = Each (λ b. IsTrue (is_name_byte b)) bytes

digit : (d : ℕ) → d < 10 → is_name_byte (48 + d) ≡ true
digit d small = grind (arith, nat_tests)

decimal_bytes : (n : ℕ) → n < 2 ^ 64 → AreNameBytes (decimal n)
decimal_bytes = decimal_by_steps (λ n ds. AreNameBytes ds) (λ n small. (digit n small, tt))
    (λ n ds more all. each_join (λ b. IsTrue (is_name_byte b)) ds ((48 + n % 10) ∷ []) all
    (digit (n % 10) (omega arith), tt))

name_writable : (i : ℕ) → i < 2 ^ 64 → NameWritable (generated_name i)
name_writable i small = ((λ e. cc), (refl, decimal_bytes i small))

host_writable : NameWritable host_name
host_writable = ((λ e. cc), (refl, (refl, (refl, (refl, tt)))))

-- ---- the shapes

pub adding_writable : (i c : ℕ) → i < 2 ^ 64 → c < 1000 → FunctionWritable (adding i c)
adding_writable i c here small =
    let range : c < 2 ^ 64 = omega (arith, small) in
    record {
      name = name_writable i here;
      slots = tt;
      callees = tt;
      lines = ((((refl, (range, tt), (refl, tt)), tt), (((refl, (refl, tt)), tt), (((refl, tt), tt), tt))), tt);
      size = omega arith;
    }

pub calling_two_writable : (i a b : ℕ) → i < 2 ^ 64 → a < 2 ^ 64 → b < 2 ^ 64 → FunctionWritable (calling_two i a b)
calling_two_writable i a b here left right = record {
  name = name_writable i here;
  slots = tt;
  callees = (name_writable a left, (name_writable b right, tt));
  lines = ((((refl, (refl, tt)), tt), (((refl, (refl, tt)), tt), (((refl, tt), tt), tt))), tt);
  size = omega arith;
}

pub trying_writable : (i a : ℕ) → i < 2 ^ 64 → a < 2 ^ 64 → FunctionWritable (trying i a)
trying_writable i a here callee = record {
  name = name_writable i here;
  slots = tt;
  callees = (name_writable a callee, tt);
  lines = (
    (
      (
        (
          refl,
          (omega arith, tt),
          ((omega arith, (omega arith, tt)), ((tt, (omega arith, tt)), tt)),
          tt,
        ),
        tt,
      ),
      tt,
    ),
    ((((refl, tt), tt), tt), ((((refl, tt), tt), tt), tt)),
  );
  size = omega arith;
}

pub choosing_writable : (i c a : ℕ) → i < 2 ^ 64 → c < 1000 → a < 2 ^ 64 → FunctionWritable (choosing i c a)
choosing_writable i c a here small callee =
    let range : c < 2 ^ 64 = omega (arith, small) in
    record {
      name = name_writable i here;
      slots = tt;
      callees = (name_writable a callee, (host_writable, tt));
      lines = (
        (
          ((refl, (range, tt), (refl, tt)), tt),
          (((refl, (refl, tt)), tt), (((refl, (tt, (tt, tt)), tt), tt), tt)),
        ),
        (
          (((refl, (refl, tt)), tt), (((refl, tt), tt), tt)),
          (
            (((refl, (refl, tt)), tt), (((refl, tt), tt), tt)),
            tt,
          ),
        ),
      );
      size = omega arith;
    }
